-- The first tick: nobody hears, nobody sends, and behind it the line is silent as it is behind a break.
use Prim.Native.Nat.{ℕ, ◌+◌, ◌≤◌}
use native.Mathlib.Omega.{arith}
use mathlib.Core.Path.{◌≡◌, refl, sym, ap, subst, ◌∙◌}
use mathlib.Core.Bool.{Bool, true, false}
use mathlib.Core.List.{List}
use borrow.Author.Tests.{leb-false, ltb-false, eqb-true}
use Rattle.base.specs.Refusal.{Called, accepted, refused}
use Rattle.base.specs.Choice.{when◌then◌else◌, ◌<?◌, ◌≤?◌, ◌=?◌, ◌outside◌to◌}
use Rattle.base.proofs.Choices.{true_false, went_then, went_else, inside_low, inside_high}
use Rattle.frame.specs.Address.{largest_address}
use Rattle.line.specs.Profile.{value_refused, order_refused, profile_made}
use Rattle.line.specs.Reader.{no_header, passing}
use Rattle.line.specs.declared.Heard.{Heard}
use Rattle.line.specs.declared.Heard.TheVariants.{Silence}
use Rattle.line.specs.declared.Profile.{Profile}
use Rattle.turns.specs.Master.{fresh_master, master_starts}
use Rattle.turns.specs.Device.{fresh_device, device_starts}
use Rattle.turns.specs.Link.{MasterCall, DeviceCall, MasterSide, MasterStep, DeviceSide, DeviceStep, master_tick, device_tick, device_ticks, sides, carried}
use Rattle.turns.specs.Run.{All, none, and, Distinct, MasterStarts, DeviceStarts}
use Rattle.turns.specs.declared.Sent.TheVariants.{Silent}
use Rattle.turns.specs.declared.Noted.{Noted}
use Rattle.turns.specs.declared.Turn.TheVariants.{Listens}
use Rattle.turns.specs.declared.Master.{Master}
use Rattle.turns.specs.declared.Device.{Device}
use Rattle.turns.proofs.Masters.{Still, is_free, no_message}
use Rattle.turns.proofs.Devices.{Sound, ticks_in_hand}
use Rattle.turns.proofs.Windows.{Valid}
use Rattle.turns.proofs.Masters.{left}
use Rattle.turns.proofs.Listening.{master_finished, device_finished, hand_listens}
use Rattle.turns.proofs.Lists.{Quietly, all_quiet, all_carried, all_sides, all_distinct, agreed_same}
use Rattle.turns.proofs.Phases.{BurstIs, MasterQuiet, DeviceQuiet, Ready, passing_ready}
use Rattle.turns.proofs.Quiet.{ClearLine, break_timer, behind_break_clear}

-- ---- what a start that was accepted tells

pub refused_accepted : {A : Type 0} {r : ℕ} {x : A} → refused r ≡ accepted x → ⊥
refused_accepted e = let z : ◌≡◌ {A = ℕ} 0 1 = cc in omega arith

abbrev got : {A : Type 0} → A → Called A → A
got d (accepted x) = x
got d (refused r) = d

-- a profile that the check takes
pub valid : (p : Profile) → profile_made p ≡ accepted p → Valid p
valid p e =
    let v = went_else (value_refused p) (refused 1) (when order_refused p then refused 1 else accepted p) (accepted p) e refused_accepted in
    let o = went_else (order_refused p) (refused 1) (accepted p) (accepted p) v.1 refused_accepted in
    let v1 = went_else (p.sto outside 1 to 1000) true _ false v.0 true_false in
    let v2 = went_else (p.hold outside 1 to 1000) true _ false v1.1 true_false in
    let o1 = went_else (p.rt2 ≤? p.hold) true _ false o.0 true_false in
    let o2 = went_else (p.rt1p ≤? p.rt2) true _ false o1.1 true_false in
    let o3 = went_else (p.rt1p ≤? p.sto) true _ false o2.1 true_false in
    record {
      some_sto = inside_low p.sto 1 1000 _ refl v1.0;
      some_hold = inside_low p.hold 1 1000 _ refl v2.0;
      hold_short = leb-false p.rt2 p.hold o1.0;
      rt2_short = leb-false p.rt1p p.rt2 o2.0;
      sto_short = leb-false p.rt1p p.sto o3.0;
      secondary = eqb-true p.rt1s (p.rt1p + p.rt2) (went_then (p.rt1s =? p.rt1p + p.rt2) false true false o3.1 true_false).0;
    }

-- a master that started is the fresh one
pub master_is : (p : Profile) (primary : Bool) (retries : ℕ) (m : Master) → master_starts p primary retries ≡ accepted m → m ≡ fresh_master p primary retries
master_is p primary retries m e = sym (ap (got m) (went_else (retries outside 3 to 15) (refused 2) (accepted (fresh_master p primary retries)) (accepted m) e refused_accepted).1)

-- and a device, with its addresses in range
pub record FreshDevice (p : Profile) (preamble polling unique : ℕ) (d : Device) : Type 0 where
  pub preamble_low : 5 ≤ preamble
  pub preamble_high : preamble ≤ 20
  pub polling_high : polling ≤ largest_address false
  pub unique_low : 1 ≤ unique
  pub unique_high : unique ≤ largest_address true
  pub is : d ≡ fresh_device p preamble polling unique

pub device_is : (p : Profile) (preamble polling unique : ℕ) (d : Device) → device_starts p preamble polling unique ≡ accepted d → FreshDevice p preamble polling unique d
device_is p preamble polling unique d e =
    let a = went_else (preamble outside 5 to 20) (refused 3) _ (accepted d) e refused_accepted in
    let b = went_else (largest_address false <? polling) (refused 4) _ (accepted d) a.1 refused_accepted in
    let c = went_else (unique outside 1 to largest_address true) (refused 4) (accepted (fresh_device p preamble polling unique)) (accepted d) b.1 refused_accepted in
    record {
      preamble_low = inside_low preamble 5 20 _ refl a.0;
      preamble_high = inside_high preamble 5 20 _ refl a.0;
      polling_high = ltb-false (largest_address false) polling b.0;
      unique_low = inside_low unique 1 (largest_address true) _ refl c.0;
      unique_high = inside_high unique 1 (largest_address true) _ refl c.0;
      is = sym (ap (got d) c.1);
    }

-- ---- the first tick

abbrev pub nobody : Noted
nobody = record { long = false; address = 0 }

pub record FreshTick (p : Profile) (primary : Bool) (step : MasterStep) : Type 0 where
  pub silent : step.sent ≡ Silent
  pub quiet : MasterQuiet p primary false nobody step.side
  pub passing_is : step.side.master.receiver ≡ passing
  pub timer_is : step.side.master.timer ≡ break_timer p primary false
  pub gone : left step.side.master.message.stage ≡ 0

pub fresh_master_lem : (limit : ℕ) → limit ≤ 255 → (p : Profile) (primary : Bool) (retries : ℕ) (x : MasterSide) (heard : Heard) (call : MasterCall) → MasterStarts p primary retries x → FreshTick p primary (master_tick limit x heard call)
unfolding when◌then◌else◌
fresh_master_lem limit small p primary retries x heard call s =
    let e = master_is p primary retries x.master s.starts in
    let f = master_finished limit p primary x heard call small (record { profile_is = ap (λ (m : Master). m.profile) e; primary_is = ap (λ (m : Master). m.primary) e; room = s.room }) (ap (λ (m : Master). m.deaf) e)
    (subst (λ (m : Master). Still m.message.stage) (sym e) is_free) (no_message (ap (λ (m : Master). m.message.stage) e)) (ap (λ (m : Master). m.timer.window) e) in
    record {
      silent = f.silent;
      quiet = record {
        listens = f.listens;
        ready = subst Ready (sym (f.same_receiver ∙ ap (λ (m : Master). m.receiver) e)) passing_ready;
        burst_is = f.same_burst ∙ ap (λ (m : Master). m.burst) e;
        noted_is = f.same_noted ∙ ap (λ (m : Master). m.noted) e;
      };
      passing_is = f.same_receiver ∙ ap (λ (m : Master). m.receiver) e;
      timer_is = f.same_timer ∙ ap (λ (m : Master). m.timer) e;
      gone = f.rested.same_left ∙ ap (λ (m : Master). left m.message.stage) e;
    }

pub fresh_device_lem : (limit : ℕ) → 2 ≤ limit → limit ≤ 255 → (p : Profile) → Valid p → (heard : Heard) (x : DeviceSide) (call : DeviceCall) → DeviceStarts p x
    → Quietly (DeviceQuiet p 0 no_header p.rt1p) x (device_tick limit x heard call)
unfolding when◌then◌else◌
fresh_device_lem limit low high p v heard x call s =
    let n = device_is p s.preamble s.polling s.unique x.device s.starts in
    let e = n.is in
    let turn : x.device.turn ≡ Listens = ap (λ (d : Device). d.turn) e in
    let profile : x.device.profile ≡ p = ap (λ (d : Device). d.profile) e in
    let sound : Sound x.device x.frame x.contents =
    subst (λ (d : Device). Sound d x.frame x.contents) (sym e)
    (record {
      preamble_low = n.preamble_low;
      preamble_high = n.preamble_high;
      polling_high = n.polling_high;
      unique_low = n.unique_low;
      unique_high = omega (arith, n.unique_high);
      frame_room = s.room;
      contents_room = s.content_room;
      content_low = λ z. absurd (true_false (sym z));
      content_high = omega arith;
      bursts_given = λ z. absurd (true_false (sym z));
    }) in
    let r = device_finished limit p x heard call low high (subst (λ (q : Profile). 1 ≤ q.sto) (sym profile) v.some_sto) profile (ap (λ (d : Device). d.deaf) e) sound turn in
    record {
      silent = r.silent;
      same = r.same;
      same_burst = r.same_burst;
      same_primary = r.same_primary;
      good = record {
        listens = r.listens;
        ready = subst Ready (sym (r.same_receiver ∙ ap (λ (d : Device). d.receiver) e)) passing_ready;
        in_time = omega (arith, r.less_in_hand, ap ticks_in_hand turn);
        asked_own = λ z. absurd (z (hand_listens (device_tick limit x heard call).side.device (device_tick limit x heard call).side.frame r.listens.hand (omega (arith, r.less_in_hand, ap ticks_in_hand turn))));
        asked_for = λ z. absurd (z (hand_listens (device_tick limit x heard call).side.device (device_tick limit x heard call).side.frame r.listens.hand (omega (arith, r.less_in_hand, ap ticks_in_hand turn))));
        back_due = λ z. r.same_due ∙ ap (λ (d : Device). d.due) e;
      };
    }

-- burst is off
pub fresh_agreed : {p : Profile} {xs : List DeviceSide} → All (DeviceStarts p) xs → All (BurstIs false nobody true) xs
fresh_agreed none = none
fresh_agreed {p} (and {x = x} s a) = and (record { burst_set = λ z. absurd (off z); long_noted = λ z. absurd (off z); unique_noted = λ z. absurd (off z); next_is = λ z. absurd (off z) }) (fresh_agreed a)
  where
    off : x.device.burst ≡ true → ⊥
    off z = true_false (sym z ∙ ap (λ (d : Device). d.burst) (device_is p s.preamble s.polling s.unique x.device s.starts).is)

pub record FirstTick (p : Profile) (s t : MasterStep) (ss : List DeviceStep) : Type 0 where
  pub primary_silent : s.sent ≡ Silent
  pub secondary_silent : t.sent ≡ Silent
  pub devices_silent : carried ss ≡ Silence
  pub silent_line : ClearLine p p.rt1s s.side t.side (sides ss)

pub first_tick : (limit : ℕ) → 2 ≤ limit → limit ≤ 255 → (p : Profile) → Valid p → (retries : ℕ) (a b : MasterSide) (xs : List DeviceSide) (heard : Heard) (ca cb : MasterCall) (cs : List DeviceCall)
    → MasterStarts p true retries a → MasterStarts p false retries b → All (DeviceStarts p) xs → Distinct xs
    → FirstTick p (master_tick limit a heard ca) (master_tick limit b heard cb) (device_ticks limit heard xs cs)
first_tick limit low high p v retries a b xs heard ca cb cs sa sb ds d =
    let fa = fresh_master_lem limit high p true retries a heard ca sa in
    let fb = fresh_master_lem limit high p false retries b heard cb sb in
    let q = all_quiet limit heard cs (fresh_device_lem limit low high p v heard) ds in
    record {
      primary_silent = fa.silent;
      secondary_silent = fb.silent;
      devices_silent = all_carried q;
      silent_line = behind_break_clear p v p.rt1s nobody true no_header 0 _ _ _ (omega arith) fa.quiet fb.quiet fa.timer_is fb.timer_is
          (record {
            asked = record { by_primary = λ z. absurd (omega arith); by_secondary = λ z. absurd (omega arith); primary_header = λ z. absurd (omega arith); secondary_header = λ z. absurd (omega arith) };
            primary_left = λ z. absurd (omega (arith, fa.gone));
            secondary_left = λ z. absurd (omega (arith, fb.gone));
            primary_next = λ z. absurd (true_false (sym z));
            secondary_next = λ z. absurd (true_false (sym z));
            nobody = λ x y. omega arith;
          })
          (all_sides q) (all_distinct q d)
          (agreed_same q (record { each = fresh_agreed ds; one_bursts = λ z. absurd (true_false (sym z)) }));
    }
