-- A message that begins soon, whatever the others do: its window comes first, or an ACK to the other master is being sent behind which it does.
use Prim.Native.Nat.{ℕ, suc, ◌+◌, ◌-◌, ◌≤◌}
use native.Mathlib.Omega.{arith}
use mathlib.Core.Path.{◌≡◌, sym, ap, subst, ◌∙◌}
use mathlib.Core.Bool.{Bool, true, false}
use mathlib.Core.List.{List}
use lib.ListN.{length, get_or}
use Rattle.base.specs.Choice.{when◌then◌else◌}
use Rattle.base.proofs.Choices.{true_false}
use Rattle.line.specs.declared.Heard.TheVariants.{Silence, Character}
use Rattle.line.specs.declared.Profile.{Profile}
use Rattle.line.specs.declared.Whole.{Whole}
use Rattle.turns.specs.Master.{burst_after, timer}
use Rattle.turns.specs.Link.{MasterSide, Link, LinkStep, Calls, link_after}
use Rattle.runs.proofs.Fair.{Fair}
use Rattle.turns.specs.declared.Noted.{Noted}
use Rattle.turns.specs.declared.Timer.{Timer}
use Rattle.turns.proofs.Masters.{left}
use Rattle.turns.proofs.DeviceSpeaking.{an_ack}
use Rattle.turns.proofs.Windows.{Valid}
use Rattle.turns.proofs.Quiet.{ClearLine, NobodyAwaits}
use Rattle.runs.proofs.SilentTick.{OneDeviceSends}
use Rattle.runs.proofs.Silences.{clear_tick, clear_runs}
use Rattle.runs.proofs.AckBack as A
use Rattle.runs.proofs.AckBack.{AckTick, ack_tick}
use Rattle.turns.proofs.Senders.{carries}
use Rattle.runs.proofs.NoTwoSend.{heard_tick}
use Rattle.runs.proofs.Rank.{Pending, First, clear_rests, other_clear, begins_clear, first_next, first_alone}
use Rattle.runs.proofs.Waits as Ways
use Rattle.runs.proofs.Waits.{waiter, other, waiter_step, other_step, not, ClearOf, clear_of, SilentView, silent_view, answer_for, Soon, Next, began, waits}
use Rattle.runs.proofs.WaitSides.{before_other, after_both, still_pending, waits_of, silent_of}

module _ (limit : ℕ) (low : 2 ≤ limit) (high : limit ≤ 255) (p : Profile) (v : Valid p) (retries : ℕ) (bit : Bool) (l : Link) (c : Calls) where
  abbrev quiet : LinkStep
  quiet = heard_tick limit l Silence c

  abbrev heard : List ℕ → ℕ → LinkStep
  heard w k = heard_tick limit l (Character (get_or w k 0)) c

  pub first_step : (e d : ℕ) → Fair (heard_tick limit l Silence c) → (k : ClearLine p e l.primary l.secondary l.devices) → Pending (waiter bit l)
      → First (waiter bit l).master.timer (other bit l).master.timer (left (other bit l).master.message.stage) d → Next bit (heard_tick limit l Silence c) (Soon p bit (d - 1))
  unfolding heard_tick
  first_step e d sole k q r = go (silent_view p 0 false k.noted true bit l quiet _ (clear_tick limit low high p v l.primary l.secondary l.devices c.for_primary c.for_secondary c.for_devices e k sole))
    where
      co : ClearOf p e bit (waiter bit l) (other bit l)
      co = clear_of p e bit l k

      go : SilentView p 0 false k.noted true bit l quiet (ClearLine p (e - 1) (link_after quiet).primary (link_after quiet).secondary (link_after quiet).devices) → Next bit quiet (Soon p bit (d - 1))
      go (Ways.begins ch z) = began ch z
      go (Ways.stays z line n rx ry) =
          let x = clear_rests p v co.waiter_quiet (clear_runs p v _ _ co.windows).1 q rx in
          let y = first_next p _ _ _ _ _ d x.0 x.1 (other_clear p v co.other_quiet ry) r in
          waits z (Ways.first_window (e - 1) line n (still_pending bit l quiet q rx.waits_on)
          (after_both bit quiet (λ (a b : MasterSide). First a.master.timer b.master.timer (left b.master.message.stage) (d - 1))
          (subst (λ (j : ℕ). First (waiter_step bit quiet).side.master.timer (other_step bit quiet).side.master.timer j (d - 1)) (sym ry.one_less) y)))
      go (Ways.other_begins w message z line o rx ty) = absurd (first_alone _ _ _ _ (clear_rests p v co.waiter_quiet (clear_runs p v _ _ co.windows).1 q rx).0 r (begins_clear p v co.other_quiet ty))
      go (Ways.answer_begins w message u on z line o rx ry) =
          let a = answer_for bit (link_after quiet) o.frame_is (still_pending bit l quiet q rx.waits_on) in
          let some = before_other bit quiet (λ (b : MasterSide). 1 ≤ left b.master.message.stage) a.1 in
          absurd (omega (arith, some, ry.one_less, r.none_awaited))
      go (Ways.burst_begins n w message u z line o rx ry) = absurd (omega (arith, n))

  pub ack_step : (burst : Bool) (noted : Noted) (next : Bool) (k : ℕ) (w : List ℕ) (message : Whole) (u d : ℕ) → OneDeviceSends p an_ack burst noted next k w message u false l.primary l.secondary l.devices
      → burst_after burst noted message.header ≡ false → message.header.primary ≡ not bit → Pending (waiter bit l) → length w + 2 ≤ d + suc k → Next bit (heard_tick limit l (Character (get_or w k 0)) c) (Soon p bit (d - 1))
  unfolding heard_tick when◌then◌else◌
  ack_step burst noted next k w message u d o off for q r =
      go (ack_tick limit low high p v burst noted next k w message u l.primary l.secondary l.devices c.for_primary c.for_secondary c.for_devices 0 false o)
    where
      s : LinkStep
      s = heard w k

      first : (b bit' : Bool) → b ≡ not bit' → NobodyAwaits s.for_primary.side s.for_secondary.side → s.for_primary.side.master.timer ≡ (when b then timer p.rt2 else timer 1)
          → s.for_secondary.side.master.timer ≡ (when (when b then false else true) then timer p.rt2 else timer 1) → 2 ≤ d
          → First (waiter bit' (link_after s)).master.timer (other bit' (link_after s)).master.timer (left (other bit' (link_after s)).master.message.stage) (d - 1)
      first false true e n ta tb z = record {
        soon = omega (arith, ap (λ (t : Timer). t.next) ta);
        first = omega (arith, ap (λ (t : Timer). t.next) ta, ap (λ (t : Timer). t.next) tb, v.hold_short, v.some_hold);
        shut = omega (arith, ap (λ (t : Timer). t.window) tb);
        none_awaited = n.secondary_gone;
      }
      first true false e n ta tb z = record {
        soon = omega (arith, ap (λ (t : Timer). t.next) tb);
        first = omega (arith, ap (λ (t : Timer). t.next) ta, ap (λ (t : Timer). t.next) tb, v.hold_short, v.some_hold);
        shut = omega (arith, ap (λ (t : Timer). t.window) ta);
        none_awaited = n.primary_gone;
      }
      first true true e n ta tb z = absurd (true_false e)
      first false false e n ta tb z = absurd (true_false (sym e))

      go : AckTick p 0 burst noted next k w message u false l.primary l.secondary s.for_primary s.for_secondary s.for_devices → Next bit s (Soon p bit (d - 1))
      go (A.ack_goes_on below a b line m x y) =
          waits (silent_of bit s a b) (Ways.behind_ack_lem burst noted next (suc k) w message u (carries s a b line) m off for (still_pending bit l s q (waits_of bit l s x y)) (omega arith))
      go (A.ack_ends last z a b line (A.ended_clear y n m ta tb) wx wy) =
          waits (silent_of bit s a b) (Ways.first_window 0 (carries s a b line) m (still_pending bit l s q (waits_of bit l s wx wy)) (first message.header.primary bit for n ta tb (omega arith)))
      go (A.ack_ends last z a b line (A.ended_set y n m ta tb) wx wy) = absurd (true_false (sym y ∙ off))
      go (A.back_follows_it last on who w' message' a b line m x y) = absurd (true_false (sym on))
