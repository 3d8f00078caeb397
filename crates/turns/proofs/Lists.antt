-- A tick of all devices: what is said of each, said of the list. Nothing here depends on how many devices there are.
use Prim.Native.Nat.{ℕ}
use mathlib.Core.Path.{◌≡◌, refl, sym, ap, ap₂, ◌∙◌}
use mathlib.Core.Bool.{Bool, false}
use Rattle.base.proofs.Choices.{true_false}
use mathlib.Core.List.{List, [], ◌∷◌}
use Rattle.line.specs.declared.Heard.{Heard}
use Rattle.line.specs.declared.Heard.TheVariants.{Silence, Character}
use Rattle.turns.specs.Link.{DeviceCall, no_call, DeviceSide, DeviceStep, device_tick, device_ticks, sides, carried, joins}
use Rattle.turns.specs.Run.{All, none, and, Differ, Distinct}
use Rattle.turns.specs.declared.Noted.{Noted}
use Rattle.turns.specs.declared.Sent.{Sent}
use Rattle.turns.specs.declared.Sent.TheVariants.{Silent}
use Rattle.turns.proofs.Devices.{SameDevice}
use Rattle.turns.proofs.Phases.{OneOf, here, further, Some, this, later, BurstIs, Bursting, Agreed}

-- a device that sends nothing in a tick, and of which R holds behind it
pub record Quietly (R : DeviceSide → Type 0) (x : DeviceSide) (s : DeviceStep) : Type 0 where
  pub silent : s.sent ≡ Silent
  pub same : SameDevice x.device s.side.device
  pub same_burst : s.side.device.burst ≡ x.device.burst
  pub same_primary : s.side.device.primary ≡ x.device.primary
  pub good : R s.side

-- a device that sends c in a tick, and of which L holds behind it
pub record Loudly (L : DeviceSide → Type 0) (c : ℕ) (x : DeviceSide) (s : DeviceStep) : Type 0 where
  pub character : s.sent ≡ Sent.Character c
  pub same : SameDevice x.device s.side.device
  pub good : L s.side

pub data AllQuiet (R : DeviceSide → Type 0) : List DeviceSide → List DeviceStep → Type 0 where
  no_more : AllQuiet R [] []
  quiet_and : {x : DeviceSide} {s : DeviceStep} {xs : List DeviceSide} {ss : List DeviceStep} → Quietly R x s → AllQuiet R xs ss → AllQuiet R (x ∷ xs) (s ∷ ss)

pub data OneLoud (L R : DeviceSide → Type 0) (c : ℕ) : List DeviceSide → List DeviceStep → Type 0 where
  loud_here : {x : DeviceSide} {s : DeviceStep} {xs : List DeviceSide} {ss : List DeviceStep} → Loudly L c x s → AllQuiet R xs ss → OneLoud L R c (x ∷ xs) (s ∷ ss)
  loud_further : {x : DeviceSide} {s : DeviceStep} {xs : List DeviceSide} {ss : List DeviceStep} → Quietly R x s → OneLoud L R c xs ss → OneLoud L R c (x ∷ xs) (s ∷ ss)

-- ---- every device rests

pub all_quiet : (limit : ℕ) (heard : Heard) {P R : DeviceSide → Type 0} {xs : List DeviceSide} (calls : List DeviceCall) → ((x : DeviceSide) (c : DeviceCall) → P x → Quietly R x (device_tick limit x heard c)) → All P xs → AllQuiet R xs (device_ticks limit heard xs calls)
unfolding device_ticks
all_quiet limit heard calls f none = no_more
all_quiet limit heard [] f (and {x = x} p ps) = quiet_and (f x no_call p) (all_quiet limit heard [] f ps)
all_quiet limit heard (c ∷ cs) f (and {x = x} p ps) = quiet_and (f x c p) (all_quiet limit heard cs f ps)

-- the one that was sending sends on, and the others rest
pub one_loud : (limit : ℕ) (heard : Heard) {P Q L R : DeviceSide → Type 0} {xs : List DeviceSide} (k : ℕ) (calls : List DeviceCall) → ((x : DeviceSide) (c : DeviceCall) → P x → Loudly L k x (device_tick limit x heard c))
    → ((x : DeviceSide) (c : DeviceCall) → Q x → Quietly R x (device_tick limit x heard c)) → OneOf P Q xs → OneLoud L R k xs (device_ticks limit heard xs calls)
unfolding device_ticks
one_loud limit heard k [] f g (here {x = x} p qs) = loud_here (f x no_call p) (all_quiet limit heard [] g qs)
one_loud limit heard k (c ∷ cs) f g (here {x = x} p qs) = loud_here (f x c p) (all_quiet limit heard cs g qs)
one_loud limit heard k [] f g (further {x = x} q o) = loud_further (g x no_call q) (one_loud limit heard k [] f g o)
one_loud limit heard k (c ∷ cs) f g (further {x = x} q o) = loud_further (g x c q) (one_loud limit heard k cs f g o)

-- all rest, also the one that was sending
pub one_rests : (limit : ℕ) (heard : Heard) {P Q R : DeviceSide → Type 0} {xs : List DeviceSide} (calls : List DeviceCall) → ((x : DeviceSide) (c : DeviceCall) → P x → Quietly R x (device_tick limit x heard c))
    → ((x : DeviceSide) (c : DeviceCall) → Q x → Quietly R x (device_tick limit x heard c)) → OneOf P Q xs → AllQuiet R xs (device_ticks limit heard xs calls)
unfolding device_ticks
one_rests limit heard [] f g (here {x = x} p qs) = quiet_and (f x no_call p) (all_quiet limit heard [] g qs)
one_rests limit heard (c ∷ cs) f g (here {x = x} p qs) = quiet_and (f x c p) (all_quiet limit heard cs g qs)
one_rests limit heard [] f g (further {x = x} q o) = quiet_and (g x no_call q) (one_rests limit heard [] f g o)
one_rests limit heard (c ∷ cs) f g (further {x = x} q o) = quiet_and (g x c q) (one_rests limit heard cs f g o)

-- ---- what the line carries, and what holds of the sides

-- the addresses stay apart
differ_same : {x y : DeviceSide} {u v : DeviceSide} → SameDevice x.device u.device → SameDevice y.device v.device → Differ x y → Differ u v
differ_same a b d = record {
  polling_differs = λ q. d.polling_differs (sym a.same_polling ∙ q ∙ b.same_polling);
  unique_differs = λ q. d.unique_differs (sym a.same_unique ∙ q ∙ b.same_unique);
}

module _ {R : DeviceSide → Type 0} where
  pub all_carried : {xs : List DeviceSide} {ss : List DeviceStep} → AllQuiet R xs ss → carried ss ≡ Silence
  unfolding carried
  all_carried no_more = refl
  all_carried (quiet_and {ss = ss} q a) = ap (λ (z : Sent). joins z (carried ss)) q.silent ∙ all_carried a

  pub all_sides : {xs : List DeviceSide} {ss : List DeviceStep} → AllQuiet R xs ss → All R (sides ss)
  unfolding sides
  all_sides no_more = none
  all_sides (quiet_and q a) = and q.good (all_sides a)

  all_differ : {x : DeviceSide} {u : DeviceSide} {xs : List DeviceSide} {ss : List DeviceStep} → SameDevice x.device u.device → AllQuiet R xs ss → All (Differ x) xs → All (Differ u) (sides ss)
  unfolding sides
  all_differ a no_more none = none
  all_differ a (quiet_and q qs) (and d ds) = and (differ_same a q.same d) (all_differ a qs ds)

  pub all_distinct : {xs : List DeviceSide} {ss : List DeviceStep} → AllQuiet R xs ss → Distinct xs → Distinct (sides ss)
  unfolding sides
  all_distinct no_more Distinct.none = Distinct.none
  all_distinct (quiet_and q qs) (Distinct.and f d) = Distinct.and (all_differ q.same qs f) (all_distinct qs d)

-- ---- BURST and the devices

-- every device bursts behind the tick just if it did before, and its next BACK is for the same master
pub data AllKept : List DeviceSide → List DeviceStep → Type 0 where
  none_kept : AllKept [] []
  kept_and : {x : DeviceSide} {s : DeviceStep} {xs : List DeviceSide} {ss : List DeviceStep} → SameDevice x.device s.side.device → s.side.device.burst ≡ x.device.burst → s.side.device.primary ≡ x.device.primary → AllKept xs ss → AllKept (x ∷ xs) (s ∷ ss)

pub quiet_kept : {R : DeviceSide → Type 0} {xs : List DeviceSide} {ss : List DeviceStep} → AllQuiet R xs ss → AllKept xs ss
quiet_kept no_more = none_kept
quiet_kept (quiet_and q a) = kept_and q.same q.same_burst q.same_primary (quiet_kept a)

pub one_kept : (limit : ℕ) (heard : Heard) {P Q R : DeviceSide → Type 0} {xs : List DeviceSide} (calls : List DeviceCall)
    → ((x : DeviceSide) (c : DeviceCall) → P x → SameDevice x.device (device_tick limit x heard c).side.device × ((device_tick limit x heard c).side.device.burst ≡ x.device.burst) × ((device_tick limit x heard c).side.device.primary ≡ x.device.primary))
    → ((x : DeviceSide) (c : DeviceCall) → Q x → Quietly R x (device_tick limit x heard c)) → OneOf P Q xs → AllKept xs (device_ticks limit heard xs calls)
unfolding device_ticks
one_kept limit heard [] f g (here {x = x} p qs) = kept_and (f x no_call p).0 (f x no_call p).1 (f x no_call p).2 (quiet_kept (all_quiet limit heard [] g qs))
one_kept limit heard (c ∷ cs) f g (here {x = x} p qs) = kept_and (f x c p).0 (f x c p).1 (f x c p).2 (quiet_kept (all_quiet limit heard cs g qs))
one_kept limit heard [] f g (further {x = x} q o) = kept_and (g x no_call q).same (g x no_call q).same_burst (g x no_call q).same_primary (one_kept limit heard [] f g o)
one_kept limit heard (c ∷ cs) f g (further {x = x} q o) = kept_and (g x c q).same (g x c q).same_burst (g x c q).same_primary (one_kept limit heard cs f g o)

each_kept : {burst : Bool} {noted : Noted} {next : Bool} {xs : List DeviceSide} {ss : List DeviceStep} → AllKept xs ss → All (BurstIs burst noted next) xs → All (BurstIs burst noted next) (sides ss)
unfolding sides
each_kept none_kept none = none
each_kept (kept_and same e n qs) (and b bs) =
    and
    (record { burst_set = λ z. b.burst_set (sym e ∙ z); long_noted = λ z. b.long_noted (sym e ∙ z); unique_noted = λ z. b.unique_noted (sym e ∙ z) ∙ sym same.same_unique; next_is = λ z. n ∙ b.next_is (sym e ∙ z) })
    (each_kept qs bs)

some_kept : {xs : List DeviceSide} {ss : List DeviceStep} → AllKept xs ss → Some Bursting xs → Some Bursting (sides ss)
unfolding sides
some_kept (kept_and same e n qs) (this b) = this (e ∙ b)
some_kept (kept_and same e n qs) (later b) = later (some_kept qs b)
some_kept none_kept x4 = elim x4 [ ]

pub agreed_kept : {burst : Bool} {noted : Noted} {next : Bool} {xs : List DeviceSide} {ss : List DeviceStep} → AllKept xs ss → Agreed burst noted next xs → Agreed burst noted next (sides ss)
agreed_kept a g = record { each = each_kept a g.each; one_bursts = λ z. some_kept a (g.one_bursts z) }

pub agreed_same : {R : DeviceSide → Type 0} {burst : Bool} {noted : Noted} {next : Bool} {xs : List DeviceSide} {ss : List DeviceStep} → AllQuiet R xs ss → Agreed burst noted next xs → Agreed burst noted next (sides ss)
agreed_same a g = agreed_kept (quiet_kept a) g

-- with BURST clear no device bursts, and it does not matter whom the next BACK would be for
pub any_next : {noted : Noted} {next other : Bool} {xs : List DeviceSide} → Agreed false noted next xs → Agreed false noted other xs
any_next {noted} {next} {other} a = record { each = go a.each; one_bursts = a.one_bursts }
  where
    go : {ys : List DeviceSide} → All (BurstIs false noted next) ys → All (BurstIs false noted other) ys
    go none = none
    go (and b bs) = and (record { burst_set = b.burst_set; long_noted = b.long_noted; unique_noted = b.unique_noted; next_is = λ z. absurd (true_false (sym (b.burst_set z))) }) (go bs)

module _ {L R : DeviceSide → Type 0} {c : ℕ} where
  pub one_carried : {xs : List DeviceSide} {ss : List DeviceStep} → OneLoud L R c xs ss → carried ss ≡ Character c
  unfolding carried
  one_carried (loud_here {ss = ss} l a) = ap₂ joins l.character (all_carried a)
  one_carried (loud_further {ss = ss} q o) = ap (λ (z : Sent). joins z (carried ss)) q.silent ∙ one_carried o

  pub one_sides : {xs : List DeviceSide} {ss : List DeviceStep} → OneLoud L R c xs ss → OneOf L R (sides ss)
  unfolding sides
  one_sides (loud_here l a) = here l.good (all_sides a)
  one_sides (loud_further q o) = further q.good (one_sides o)

  one_differ : {x : DeviceSide} {u : DeviceSide} {xs : List DeviceSide} {ss : List DeviceStep} → SameDevice x.device u.device → OneLoud L R c xs ss → All (Differ x) xs → All (Differ u) (sides ss)
  unfolding sides
  one_differ a (loud_here l qs) (and d ds) = and (differ_same a l.same d) (all_differ a qs ds)
  one_differ a (loud_further q o) (and d ds) = and (differ_same a q.same d) (one_differ a o ds)

  pub one_distinct : {xs : List DeviceSide} {ss : List DeviceStep} → OneLoud L R c xs ss → Distinct xs → Distinct (sides ss)
  unfolding sides
  one_distinct (loud_here l qs) (Distinct.and f d) = Distinct.and (all_differ l.same qs f) (all_distinct qs d)
  one_distinct (loud_further q o) (Distinct.and f d) = Distinct.and (one_differ q.same o f) (one_distinct o d)
