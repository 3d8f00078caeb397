-- The phases of a link on which no device bursts and no master has noted any: those of NoTwoSend.Phase with BURST clear, kept by every tick in which none bursts.
use Prim.Native.Nat.{ℕ, suc, ◌-◌, ◌≤◌}
use native.Mathlib.Omega.{arith}
use mathlib.Core.Path.{◌≡◌, refl, sym, ap, subst, ◌∙◌}
use mathlib.Core.Bool.{Bool, true, false}
use mathlib.Core.List.{List}
use lib.ListN.{get_or}
use Rattle.base.specs.Choice.{when◌then◌else◌, ◌=?◌}
use Rattle.base.proofs.Choices.{true_false}
use Rattle.frame.specs.Delimiter.{ack, back}
use Rattle.frame.specs.declared.Header.{Header}
use Rattle.line.specs.declared.Heard.TheVariants.{Silence, Character}
use Rattle.line.specs.declared.Profile.{Profile}
use Rattle.line.specs.declared.Whole.{Whole}
use Rattle.turns.specs.Master.{names_device, burst_after, noted_after, master_takes}
use Rattle.turns.specs.Link.{MasterCall, MasterSide, DeviceSide, Link, LinkStep, Calls, master_tick, master_data, link_tick, link_after, sides}
use Rattle.turns.specs.Run.{All, none, and, Sole, no_one, sole_and}
use Rattle.turns.specs.Demand3.{NoneBurstsIn}
use Rattle.turns.specs.declared.Sent.{Sent}
use Rattle.turns.specs.declared.Sent.TheVariants.{Silent}
use Rattle.turns.specs.declared.Noted.{Noted}
use Rattle.turns.specs.declared.Master.{Master}
use Rattle.turns.proofs.DeviceSpeaking.{an_ack}
use Rattle.turns.proofs.Windows.{Valid}
use Rattle.runs.proofs.Fair.{SoleTag}
use Rattle.turns.proofs.Listening as L
use Rattle.turns.proofs.Listening.{master_silence, master_frame}
use Rattle.turns.proofs.Phases.{OneOf, here, further, Some, this, later, Bursting, MasterQuiet}
use Rattle.runs.proofs.Beginning.{DeviceSpeaks}
use Rattle.runs.proofs.Begun.{next_after}
use Rattle.turns.proofs.Quiet.{ClearLine}
use Rattle.runs.proofs.Stx as X
use Rattle.runs.proofs.Stx.{OneMasterSends, StxEnded, StxTick}
use Rattle.runs.proofs.SilentTick as T
use Rattle.runs.proofs.SilentTick.{OneDeviceSends, SilentTick}
use Rattle.runs.proofs.Silences.{clear_tick}
use Rattle.runs.proofs.AckBack as A
use Rattle.runs.proofs.AckBack.{AckTick, ack_tick, spoken_of}
use Rattle.turns.proofs.Senders.{carries}
use Rattle.runs.proofs.NoTwoSend.{heard_tick, tick_is}
use Rattle.runs.proofs.Waits.{waiter, other, waiter_step, other_step, not}
use Rattle.runs.proofs.WaitSides.{other_line, no_line, clear_after, stx_of, sends_on}
use Rattle.runs.proofs.OutOfStep.{nobody}

-- behind a tick no device bursts, and at most one answers a command 11
abbrev pub NoBurstIn : LinkStep → Type 0
NoBurstIn s = NoneBurstsIn s × SoleTag (sides s.for_devices)

-- the line is silent, the master that is not `bit` sends its STX, or a device its ACK
pub data NoBurst (p : Profile) (l : Link) : Type 0 where
  no_burst_silent : (e : ℕ) → l.line ≡ Silence → (o : ClearLine p e l.primary l.secondary l.devices) → o.noted ≡ nobody → NoBurst p l
  no_burst_stx : (bit next : Bool) (k : ℕ) (w : List ℕ) (message : Whole) → l.line ≡ Character (get_or w k 0) → OneMasterSends p (not bit) bit false nobody next k w message (other bit l) (waiter bit l) l.devices → NoBurst p l
  no_burst_ack : (next : Bool) (k : ℕ) (w : List ℕ) (message : Whole) (u : ℕ) → l.line ≡ Character (get_or w k 0) → OneDeviceSends p an_ack false nobody next k w message u false l.primary l.secondary l.devices
      → NoBurst p l

-- where none bursts
pub none_sole : {xs : List DeviceSide} → All (λ (x : DeviceSide). x.device.burst ≡ true → ⊥) xs → Sole xs
none_sole none = no_one
none_sole (and {x = x} f fs) = sole_and (each x fs) (none_sole fs)
  where
    each : (x : DeviceSide) {ys : List DeviceSide} → All (λ (y : DeviceSide). y.device.burst ≡ true → ⊥) ys → All (λ (y : DeviceSide). x.device.burst ≡ true → y.device.burst ≡ true → ⊥) ys
    each x none = none
    each x (and g gs) = and (λ a b. g b) (each x gs)

pub no_burst_fair : {xs : List DeviceSide} → All (λ (x : DeviceSide). x.device.burst ≡ true → ⊥) xs × SoleTag xs → Sole xs × SoleTag xs
no_burst_fair f = (none_sole f.0, f.1)

pub none_some : {xs : List DeviceSide} → All (λ (x : DeviceSide). x.device.burst ≡ true → ⊥) xs → Some Bursting xs → ⊥
none_some (and f fs) (this e) = f e
none_some (and f fs) (later m) = none_some fs m
none_some All.none x3 = elim x3 [ ]

-- so the device that sends does not either
sender_off : {p : Profile} {f : _} {k : ℕ} {w : List ℕ} {message : Whole} {u : ℕ} (on : Bool) {R : DeviceSide → Type 0} {xs : List DeviceSide} → All (λ (x : DeviceSide). x.device.burst ≡ true → ⊥) xs
    → OneOf (DeviceSpeaks p f k w message u on) R xs → on ≡ false
sender_off false n o = refl
sender_off true (and f fs) (here s a) = absurd (f s.burst_is)
sender_off true (and f fs) (further s a) = sender_off true fs a
sender_off {p = p} {f = f} {k = k} {w = w} {message = message} {u = u} true {R = R} All.none o = elim o [ ]

-- an ACK that leaves BURST clear notes nobody
same_noted : (noted : Noted) (h : Header) → burst_after false noted h ≡ false → noted_after noted h ≡ noted
unfolding when◌then◌else◌
same_noted noted h e = go (h.kind =? back) (h.kind =? ack) h.burst (names_device h) refl refl refl refl
  where
    B : Bool → Bool → Bool → Bool → Bool
    B a b c d = when a then true else when b then (when c then true else when d then (when Rattle.turns.specs.Master.is_noted noted h then false else false) else false) else false

    M : Bool → Bool → Bool → Bool → Noted
    M a b c d = when a then Rattle.turns.specs.Master.noted_from h else when b then (when c then (when d then Rattle.turns.specs.Master.noted_from h else noted) else noted) else noted

    go : (a b c d : Bool) → (h.kind =? back) ≡ a → (h.kind =? ack) ≡ b → h.burst ≡ c → names_device h ≡ d → noted_after noted h ≡ noted
    go a b c d ea eb ec ed = (λ i. M (ea i) (eb i) (ec i) (ed i)) ∙ by a b c d ((λ i. B (sym ea i) (sym eb i) (sym ec i) (sym ed i)) ∙ e)
      where
        by : (a b c d : Bool) → B a b c d ≡ false → M a b c d ≡ noted
        by true b c d q = absurd (true_false q)
        by false true true d q = absurd (true_false q)
        by false true false d q = refl
        by false false c d q = refl

-- a silent tick leaves whom a master noted, where it sends nothing
silence_noted : (limit : ℕ) → (small : limit ≤ 255) → (p : Profile) (primary burst : Bool) (noted : Noted) (x : MasterSide) (call : MasterCall) → MasterQuiet p primary burst noted x → (master_tick limit x Silence call).sent ≡ Silent
    → (master_tick limit x Silence call).side.master.noted ≡ noted
silence_noted limit small p primary burst noted x call q e = let m = master_silence limit small p primary x call q.listens q.ready in go m.0.noted_is m.1
  where
    t : Master
    t = (master_takes x.master Silence (master_data x Silence)).master

    silent_character : {c : ℕ} → Sent.Silent ≡ Sent.Character c → ⊥
    silent_character e = let z : ◌≡◌ {A = ℕ} 0 1 = cc in omega arith

    go : t.noted ≡ x.master.noted → L.Does p primary t (master_tick limit x Silence call) → (master_tick limit x Silence call).side.master.noted ≡ noted
    go n (L.does_rest r) = r.same_noted ∙ n ∙ q.noted_is
    go n (L.does_start r) = absurd (silent_character (sym e ∙ r.character))

-- the silent line behind an STX
clear_noted : (p : Profile) (v : Valid p) (bit : Bool) (s : LinkStep) {next : Bool} {h : Header} (x : StxEnded p (not bit) bit false nobody next h (other_step bit s).side (waiter_step bit s).side (sides s.for_devices))
    → (clear_after p v bit s x).noted ≡ nobody
unfolding when◌then◌else◌
clear_noted p v true s x = sym (clear_after p v true s x).primary.noted_is ∙ x.listener.noted_is
clear_noted p v false s x = sym (clear_after p v false s x).primary.noted_is ∙ x.sender.noted_is

module _ (limit : ℕ) (low : 2 ≤ limit) (high : limit ≤ 255) (p : Profile) (v : Valid p) (l : Link) (c : Calls) where
  behind_silence : (e : ℕ) (o : ClearLine p e l.primary l.secondary l.devices) → o.noted ≡ nobody → NoBurstIn (heard_tick limit l Silence c) → NoBurst p (link_after (heard_tick limit l Silence c))
  unfolding heard_tick when◌then◌else◌
  behind_silence e o is off =
      go (subst (λ (n : Noted). SilentTick p 0 false n true l.primary l.secondary s.for_primary s.for_secondary s.for_devices (ClearLine p (e - 1) s.for_primary.side s.for_secondary.side (sides s.for_devices))) is
      (clear_tick limit low high p v l.primary l.secondary l.devices c.for_primary c.for_secondary c.for_devices e o (no_burst_fair off)))
    where
      s : LinkStep
      s = heard_tick limit l Silence c

      go : SilentTick p 0 false nobody true l.primary l.secondary s.for_primary s.for_secondary s.for_devices (ClearLine p (e - 1) s.for_primary.side s.for_secondary.side (sides s.for_devices))
          → NoBurst p (link_after s)
      go (T.still_silent a b c' m ra rb) =
          no_burst_silent (e - 1) (carries s a b c') m (sym m.primary.noted_is ∙ silence_noted limit high p true false o.noted l.primary c.for_primary o.primary a ∙ is)
      go (T.primary_begins w message a b c' m ra rb) = no_burst_stx false true 0 w message (carries s a b c') m
      go (T.secondary_begins w message a b c' m ra rb) = no_burst_stx true true 0 w message (carries s a b c') m
      go (T.ack_begins w message u on a b c' m ra rb) =
          no_burst_ack (next_after false true) 0 w message u (carries s a b c') (subst (λ (z : Bool). OneDeviceSends p an_ack false nobody (next_after false true) 0 w message u z s.for_primary.side s.for_secondary.side (sides s.for_devices)) (sender_off on off.0 m.devices) m)
      go (T.back_begins z w message u a b c' m ra rb) = absurd (omega (arith, z))

  behind_stx : (bit next : Bool) (k : ℕ) (w : List ℕ) (message : Whole) → OneMasterSends p (not bit) bit false nobody next k w message (other bit l) (waiter bit l) l.devices
      → NoBurst p (link_after (heard_tick limit l (Character (get_or w k 0)) c))
  behind_stx bit next k w message o = go (stx_of limit low high p v bit l c false nobody next k w message o)
    where
      s : LinkStep
      s = heard_tick limit l (Character (get_or w k 0)) c

      go : StxTick p (not bit) bit false nobody next k w message (other bit l) (waiter bit l) (other_step bit s) (waiter_step bit s) s.for_devices → NoBurst p (link_after s)
      go (X.goes_on m a b c' o' n y) = no_burst_stx bit next (suc k) w message (other_line bit s _ a b c') (sends_on bit s o')
      go (X.ends m a b c' x n y) = no_burst_silent 0 (no_line bit s a b c') (clear_after p v bit s x) (clear_noted p v bit s x)

  behind_ack_lem : (next : Bool) (k : ℕ) (w : List ℕ) (message : Whole) (u : ℕ) → OneDeviceSends p an_ack false nobody next k w message u false l.primary l.secondary l.devices
      → NoBurstIn (heard_tick limit l (Character (get_or w k 0)) c)
      → NoBurst p (link_after (heard_tick limit l (Character (get_or w k 0)) c))
  unfolding heard_tick
  behind_ack_lem next k w message u o off =
      go (ack_tick limit low high p v false nobody next k w message u l.primary l.secondary l.devices c.for_primary c.for_secondary c.for_devices 0 false o)
    where
      s : LinkStep
      s = heard_tick limit l (Character (get_or w k 0)) c

      go : AckTick p 0 false nobody next k w message u false l.primary l.secondary s.for_primary s.for_secondary s.for_devices → NoBurst p (link_after s)
      go (A.ack_goes_on m a b c' o' x y) = no_burst_ack next (suc k) w message u (carries s a b c') o'
      go (A.ack_ends m f a b c' (A.ended_clear z n q ta tb) x y) =
          let h = master_frame limit high p true l.primary c.for_primary o.primary.listens w message k (spoken_of o.devices) m o.primary.receiver_is in
          no_burst_silent 0 (carries s a b c') q (sym q.primary.noted_is ∙ h.noted_is ∙ ap (λ (n : Noted). noted_after n message.header) o.primary.noted_is ∙ same_noted nobody message.header z)
      go (A.ack_ends m f a b c' (A.ended_set z n q ta tb) x y) = absurd (none_some off.0 (q.agreed.one_bursts refl))
      go (A.back_follows_it m f who w' message' a b c' o' x y) = absurd (true_false (sym f))

pub no_burst_tick : (limit : ℕ) → 2 ≤ limit → limit ≤ 255 → (p : Profile) → Valid p → (l : Link) (c : Calls) → NoBurst p l → NoBurstIn (link_tick limit l c) → NoBurst p (link_after (link_tick limit l c))
no_burst_tick limit low high p v l c (no_burst_silent e q o is) off =
    let z = tick_is limit l Silence c q in
    subst (λ (s : LinkStep). NoBurst p (link_after s)) (sym z) (behind_silence limit low high p v l c e o is (subst NoBurstIn z off))
no_burst_tick limit low high p v l c (no_burst_stx bit next k w message q o) off =
    subst (λ (s : LinkStep). NoBurst p (link_after s)) (sym (tick_is limit l (Character (get_or w k 0)) c q)) (behind_stx limit low high p v l c bit next k w message o)
no_burst_tick limit low high p v l c (no_burst_ack next k w message u q o) off =
    let z = tick_is limit l (Character (get_or w k 0)) c q in
    subst (λ (s : LinkStep). NoBurst p (link_after s)) (sym z) (behind_ack_lem limit low high p v l c next k w message u o (subst NoBurstIn z off))
