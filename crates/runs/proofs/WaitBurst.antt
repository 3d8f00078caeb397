-- A message that waits while a device bursts, on the silent line: it begins behind a BACK to the other master, or behind an ACK that turns burst off.
use Prim.Native.Nat.{ℕ, ◌+◌, ◌-◌, ◌≤◌, ◌<◌}
use native.Mathlib.Omega.{arith}
use mathlib.Core.Path.{◌≡◌, refl, sym, ap, subst, ◌∙◌}
use mathlib.Core.Bool.{Bool, true, false}
use mathlib.Core.List.{List}
use mathlib.Core.Logic.{◌⊎◌, inl, inr}
use lib.ListN.{length, get_or}
use Rattle.base.specs.Choice.{when◌then◌else◌}
use Rattle.base.proofs.Choices.{true_false}
use Rattle.line.specs.declared.Heard.TheVariants.{Silence, Character}
use Rattle.line.specs.declared.Profile.{Profile}
use Rattle.line.specs.declared.Whole.{Whole}
use Rattle.turns.specs.Master.{burst_after}
use Rattle.turns.specs.Link.{MasterSide, Link, LinkStep, Calls, link_after}
use Rattle.runs.proofs.Fair.{Fair}
use Rattle.turns.proofs.Masters.{left}
use Rattle.turns.proofs.DeviceSpeaking.{an_ack, a_back}
use Rattle.turns.proofs.Windows.{Valid}
use Rattle.turns.proofs.Quiet.{SetLine}
use Rattle.runs.proofs.Stx.{OneMasterSends}
use Rattle.runs.proofs.SilentTick.{OneDeviceSends, MasterRests, MasterTries}
use Rattle.runs.proofs.Silences.{set_tick}
use Rattle.runs.proofs.NoTwoSend.{heard_tick}
use Rattle.runs.proofs.KeptLink.{LinkSettled}
use Rattle.runs.proofs.Rank as K
use Rattle.runs.proofs.Rank.{Pending, SetRank, burst_stx, own_back, set_rests, other_set, begins_set, set_next}
use Rattle.runs.proofs.Waits as Ways
use Rattle.runs.proofs.Waits.{waiter, other, waiter_step, other_step, not, is_own, SetOf, set_of, SilentView, silent_view, answer_for, frame_length, Soon, Burst, Next, began, waits}
use Rattle.runs.proofs.WaitSides.{before_other, after_both, still_pending, own_other, own_turned, off_is, stx_length}

module _ (limit : ℕ) (low : 2 ≤ limit) (high : limit ≤ 255) (p : Profile) (v : Valid p) (retries : ℕ) (bit : Bool) (l : Link) (c : Calls) where
  abbrev quiet : LinkStep
  quiet = heard_tick limit l Silence c

  abbrev heard : List ℕ → ℕ → LinkStep
  heard w k = heard_tick limit l (Character (get_or w k 0)) c

  pub set_step : (n : ℕ) (next : Bool) (d : ℕ) → Fair (heard_tick limit l Silence c) → LinkSettled limit retries (link_after (heard_tick limit l Silence c)) → (k : SetLine p n next l.primary l.secondary l.devices) → Pending (waiter bit l)
      → SetRank p (limit + 29) (is_own bit next) n (waiter bit l).master.timer (other bit l).master.timer (left (other bit l).master.message.stage) d
      → Next bit (heard_tick limit l Silence c) (λ (m : Link). Soon p bit (d - 1) m ⊎ Burst p (limit + 29) bit (d - 1) m)
  unfolding heard_tick when◌then◌else◌
  set_step n next d sole kept k q r =
      go (silent_view p n true k.noted next bit l quiet _ (set_tick limit low high p v l.primary l.secondary l.devices c.for_primary c.for_secondary c.for_devices n next k sole))
    where
      so : SetOf p n next bit (waiter bit l) (other bit l)
      so = set_of p n next bit l k

      x_time : 1 < (waiter bit l).master.timer.quiet
      x_time = omega (arith, so.some, so.waiter_time)

      y_time : 1 < (other bit l).master.timer.quiet
      y_time = omega (arith, so.some, so.other_time)

      -- the other master begins in its window
      stx : (w : List ℕ) (message : Whole) → (link_after quiet).line ≡ Character (get_or w 0 0) → OneMasterSends p (not bit) bit true k.noted next 0 w message (other bit (link_after quiet)) (waiter bit (link_after quiet)) (link_after quiet).devices
          → MasterRests (waiter bit l) (waiter_step bit quiet) → MasterTries (other bit l) (other_step bit quiet)
          → SetRank p (limit + 29) (is_own bit next) n (waiter bit l).master.timer (other bit l).master.timer (left (other bit l).master.message.stage) d → Burst p (limit + 29) bit (d - 1) (link_after quiet)
      stx w message line o rx ty (K.SetRank.slot_now e g) = absurd ((set_rests p v so.waiter_quiet x_time q rx).0 e)
      stx w message line o rx ty (K.SetRank.next_other own e y g h i j) = Ways.Burst.on_stx k.noted next 0 w message line o (still_pending bit l quiet q rx.waits_on) (by (begins_set p v so.other_quiet y_time ty))
        where
          by : ((other bit l).master.timer.next ≡ 1) ⊎ (2 ≤ (other bit l).master.timer.window) → length w + burst_stx p (limit + 29) ≤ (d - 1) + 1
          by (inl z) = omega (arith, i z, v.some_hold, stx_length limit retries p bit (link_after quiet) kept o)
          by (inr z) = omega (arith, j z, stx_length limit retries p bit (link_after quiet) kept o)
      stx w message line o rx ty (K.SetRank.next_own own e g h) = absurd (true_false (sym own ∙ own_other bit next (o.turn_is refl)))
      stx w message line o rx ty (K.SetRank.awaits own e g h i j) = absurd (by (begins_set p v so.other_quiet y_time ty))
        where
          by : ((other bit l).master.timer.next ≡ 1) ⊎ (2 ≤ (other bit l).master.timer.window) → ⊥
          by (inl z) = omega arith
          by (inr z) = omega arith

      -- an ACK to the other master
      ack : (w : List ℕ) (message : Whole) (u : ℕ) (on : Bool) → (link_after quiet).line ≡ Character (get_or w 0 0)
          → OneDeviceSends p an_ack true k.noted next 0 w message u on (link_after quiet).primary (link_after quiet).secondary (link_after quiet).devices
          → MasterRests (waiter bit l) (waiter_step bit quiet) → MasterRests (other bit l) (other_step bit quiet)
          → SetRank p (limit + 29) (is_own bit next) n (waiter bit l).master.timer (other bit l).master.timer (left (other bit l).master.message.stage) d → Soon p bit (d - 1) (link_after quiet) ⊎ Burst p (limit + 29) bit (d - 1) (link_after quiet)
      ack w message u on line o rx ry rank = by rank (burst_after true k.noted message.header) refl
        where
          pending : Pending (waiter bit (link_after quiet))
          pending = still_pending bit l quiet q rx.waits_on

          for : (message.header.primary ≡ not bit) × (1 ≤ left (other bit (link_after quiet)).master.message.stage)
          for = answer_for bit (link_after quiet) o.frame_is pending

          some : 1 ≤ left (other bit l).master.message.stage - 1
          some = omega (arith, ry.one_less, before_other bit quiet (λ (b : MasterSide). 1 ≤ left b.master.message.stage) for.1)

          by : SetRank p (limit + 29) (is_own bit next) n (waiter bit l).master.timer (other bit l).master.timer (left (other bit l).master.message.stage) d → (z : Bool) → burst_after true k.noted message.header ≡ z
              → Soon p bit (d - 1) (link_after quiet) ⊎ Burst p (limit + 29) bit (d - 1) (link_after quiet)
          by (K.SetRank.slot_now e g) z b = absurd ((set_rests p v so.waiter_quiet x_time q rx).0 e)
          by (K.SetRank.next_other own e y g h i j) z b = absurd (omega (arith, some))
          by (K.SetRank.next_own own e g h) z b = absurd (omega (arith, some))
          by (K.SetRank.awaits own e g h i j) true b =
              inr (Ways.Burst.on_ack true k.noted next 0 w message u on line o b pending (λ z. absurd (true_false (sym z ∙ own))) (omega (arith, so.some, frame_length o.devices kept.devices)))
          by (K.SetRank.awaits own e g h i j) false b =
              inl (Ways.behind_ack_lem true k.noted next 0 w message u line
              (subst (λ (z : Bool). OneDeviceSends p an_ack true k.noted next 0 w message u z (link_after quiet).primary (link_after quiet).secondary (link_after quiet).devices) (off_is on o b) o)
              b for.0 pending (omega (arith, so.some, frame_length o.devices kept.devices)))

      -- the next BACK
      back : n ≡ 1 → (w : List ℕ) (message : Whole) (u : ℕ) → (link_after quiet).line ≡ Character (get_or w 0 0)
          → OneDeviceSends p a_back true k.noted (not next) 0 w message u true (link_after quiet).primary (link_after quiet).secondary (link_after quiet).devices
          → MasterRests (waiter bit l) (waiter_step bit quiet)
          → SetRank p (limit + 29) (is_own bit next) n (waiter bit l).master.timer (other bit l).master.timer (left (other bit l).master.message.stage) d → Burst p (limit + 29) bit (d - 1) (link_after quiet)
      back due w message u line o rx rank =
          let short = frame_length o.devices kept.devices in
          Ways.Burst.on_back true k.noted (not next) 0 w message u line o (still_pending bit l quiet q rx.waits_on) (λ z. omega (arith, short, due, to_own rank z)) (omega (arith, short, due, to_any rank))
        where
          to_own : SetRank p (limit + 29) (is_own bit next) n (waiter bit l).master.timer (other bit l).master.timer (left (other bit l).master.message.stage) d → is_own bit (not next) ≡ false → n + (limit + 29) + own_back p (limit + 29) ≤ d
          to_own (K.SetRank.slot_now e g) z = absurd ((set_rests p v so.waiter_quiet x_time q rx).0 e)
          to_own (K.SetRank.next_other own e y g h i j) z = absurd (true_false (sym (own_turned bit next ∙ ap not own) ∙ z))
          to_own (K.SetRank.next_own own e g h) z = h
          to_own (K.SetRank.awaits own e g h i j) z = absurd (true_false (sym (own_turned bit next ∙ ap not own) ∙ z))

          to_any : SetRank p (limit + 29) (is_own bit next) n (waiter bit l).master.timer (other bit l).master.timer (left (other bit l).master.message.stage) d → n + (limit + 29) + 2 ≤ d
          to_any (K.SetRank.slot_now e g) = absurd ((set_rests p v so.waiter_quiet x_time q rx).0 e)
          to_any (K.SetRank.next_other own e y g h i j) = h
          to_any (K.SetRank.next_own own e g h) = omega arith
          to_any (K.SetRank.awaits own e g h i j) = omega arith

      go : SilentView p n true k.noted next bit l quiet (SetLine p (n - 1) next (link_after quiet).primary (link_after quiet).secondary (link_after quiet).devices) → Next bit quiet (λ (m : Link). Soon p bit (d - 1) m ⊎ Burst p (limit + 29) bit (d - 1) m)
      go (Ways.begins ch z) = began ch z
      go (Ways.stays z line m rx ry) =
          let x = set_rests p v so.waiter_quiet x_time q rx in
          let y = set_next p v (limit + 29) (is_own bit next) n _ _ _ _ _ _ d so.some x.0 x.1 (other_set p v so.other_quiet y_time ry) ry.one_less r in
          waits z (inr (Ways.Burst.on_silence_lem (n - 1) next line m (still_pending bit l quiet q rx.waits_on)
          (after_both bit quiet (λ (a b : MasterSide). SetRank p (limit + 29) (is_own bit next) (n - 1) a.master.timer b.master.timer (left b.master.message.stage) (d - 1)) y)))
      go (Ways.other_begins w message z line o rx ty) = waits z (inr (stx w message line o rx ty r))
      go (Ways.answer_begins w message u on z line o rx ry) = waits z (ack w message u on line o rx ry r)
      go (Ways.burst_begins due w message u z line o rx ry) = waits z (inr (back due w message u line o rx r))
