-- A message that waits while a device bursts and a frame is sent: the other master's STX, an ACK to it, a BACK.
use Prim.Native.Nat.{ℕ, suc, ◌+◌, ◌-◌, ◌≤◌}
use native.Mathlib.Omega.{arith}
use mathlib.Core.Path.{◌≡◌, refl, sym, ap, ◌∙◌}
use mathlib.Core.Bool.{Bool, true, false}
use mathlib.Core.List.{List}
use mathlib.Core.Logic.{◌⊎◌, inr}
use lib.ListN.{length, get_or}
use Rattle.base.specs.Choice.{when◌then◌else◌}
use Rattle.base.proofs.Choices.{true_false}
use Rattle.line.specs.declared.Heard.TheVariants.{Silence, Character}
use Rattle.line.specs.declared.Profile.{Profile}
use Rattle.line.specs.declared.Whole.{Whole}
use Rattle.turns.specs.Master.{burst_after}
use Rattle.turns.specs.Link.{MasterSide, Link, LinkStep, Calls, link_after}
use Rattle.turns.specs.declared.Noted.{Noted}
use Rattle.turns.specs.declared.Timer.{Timer}
use Rattle.turns.proofs.Masters.{left}
use Rattle.turns.proofs.DeviceSpeaking.{an_ack, a_back}
use Rattle.turns.proofs.Windows.{Valid}
use Rattle.turns.proofs.Quiet.{NoSlot, NobodyAwaits, slot_timer}
use Rattle.runs.proofs.Stx as X
use Rattle.runs.proofs.Stx.{OneMasterSends, StxTick}
use Rattle.runs.proofs.SilentTick.{FrameIs, is_back, OneDeviceSends}
use Rattle.runs.proofs.AckBack as A
use Rattle.runs.proofs.AckBack.{AckTick, BackTick, ack_tick, back_tick}
use Rattle.turns.proofs.Senders.{carries}
use Rattle.runs.proofs.NoTwoSend.{heard_tick}
use Rattle.runs.proofs.KeptLink.{LinkSettled}
use Rattle.runs.proofs.Rank as K
use Rattle.runs.proofs.Rank.{Pending, SetRank, burst_stx, own_back}
use Rattle.runs.proofs.Waits as Ways
use Rattle.runs.proofs.Waits.{waiter, other, waiter_step, other_step, not, is_own, frame_length, Soon, Burst, Next, waits}
use Rattle.runs.proofs.WaitSides.{after_both, still_pending, waits_of, silent_of, other_line, no_line, own_other, own_turned, stx_of, set_after, some_rt1, sends_on}

module _ (limit : ℕ) (low : 2 ≤ limit) (high : limit ≤ 255) (p : Profile) (v : Valid p) (retries : ℕ) (bit : Bool) (l : Link) (c : Calls) where
  abbrev quiet : LinkStep
  quiet = heard_tick limit l Silence c

  abbrev heard : List ℕ → ℕ → LinkStep
  heard w k = heard_tick limit l (Character (get_or w k 0)) c

  -- the other master's STX
  pub stx_step : (noted : Noted) (next : Bool) (k : ℕ) (w : List ℕ) (message : Whole) (d : ℕ) → OneMasterSends p (not bit) bit true noted next k w message (other bit l) (waiter bit l) l.devices → Pending (waiter bit l)
      → length w + burst_stx p (limit + 29) ≤ d + suc k → Next bit (heard_tick limit l (Character (get_or w k 0)) c) (λ (m : Link). Soon p bit (d - 1) m ⊎ Burst p (limit + 29) bit (d - 1) m)
  unfolding when◌then◌else◌
  stx_step noted next k w message d o q r = go (stx_of limit low high p v bit l c true noted next k w message o)
    where
      s : LinkStep
      s = heard w k

      go : StxTick p (not bit) bit true noted next k w message (other bit l) (waiter bit l) (other_step bit s) (waiter_step bit s) s.for_devices → Next bit s (λ (m : Link). Soon p bit (d - 1) m ⊎ Burst p (limit + 29) bit (d - 1) m)
      go (X.goes_on below a b line m n y) =
          waits b (inr (Ways.Burst.on_stx noted next (suc k) w message (other_line bit s _ a b line) (sends_on bit s m) (still_pending bit l s q y) (omega arith)))
      go (X.ends last a b line x n y) =
          waits b (inr (Ways.Burst.on_silence_lem p.rt1p next (no_line bit s a b line) (set_after p v bit s x) (still_pending bit l s q y)
          (after_both bit s (λ (i j : MasterSide). SetRank p (limit + 29) (is_own bit next) p.rt1p i.master.timer j.master.timer (left j.master.message.stage) (d - 1))
          (K.SetRank.awaits (own_other bit next (x.turn_is refl)) (ap (λ (t : Timer). t.next) x.listener_timer) (omega (arith, x.sender_left, (some_rt1 p v (not bit)).0))
          (ap (λ (t : Timer). t.next) x.sender_timer) (ap (λ (t : Timer). t.window) x.sender_timer) (omega arith)))))

  -- an ACK to the other master
  pub ack_burst_step : (burst : Bool) (noted : Noted) (next : Bool) (k : ℕ) (w : List ℕ) (message : Whole) (u : ℕ) (on : Bool) (d : ℕ) → LinkSettled limit retries (link_after (heard_tick limit l (Character (get_or w k 0)) c))
      → OneDeviceSends p an_ack burst noted next k w message u on l.primary l.secondary l.devices → burst_after burst noted message.header ≡ true → Pending (waiter bit l)
      → (is_own bit next ≡ true → length w + 2 + (limit + 29) + own_back p (limit + 29) ≤ d + suc k) → length w + 2 + (limit + 29) + 2 ≤ d + suc k
      → Next bit (heard_tick limit l (Character (get_or w k 0)) c) (λ (m : Link). Soon p bit (d - 1) m ⊎ Burst p (limit + 29) bit (d - 1) m)
  unfolding heard_tick when◌then◌else◌
  ack_burst_step burst noted next k w message u on d kept o set q own any =
      go (ack_tick limit low high p v burst noted next k w message u l.primary l.secondary l.devices c.for_primary c.for_secondary c.for_devices 0 on o)
    where
      s : LinkStep
      s = heard w k

      -- a BACK is due in the next tick
      due : (z bit' : Bool) → is_own bit next ≡ z → suc k ≡ length w → NobodyAwaits s.for_primary.side s.for_secondary.side → NoSlot s.for_primary.side.master.timer → NoSlot s.for_secondary.side.master.timer
          → SetRank p (limit + 29) (is_own bit next) 1 (waiter bit' (link_after s)).master.timer (other bit' (link_after s)).master.timer (left (other bit' (link_after s)).master.message.stage) (d - 1)
      due true true z last n ta tb = K.SetRank.next_own z ta.no_next n.secondary_gone (omega (arith, own z))
      due true false z last n ta tb = K.SetRank.next_own z tb.no_next n.primary_gone (omega (arith, own z))
      due false true z last n ta tb =
          K.SetRank.next_other z ta.no_next (omega (arith, tb.no_next)) n.secondary_gone (omega arith) (λ y. absurd (omega (arith, tb.no_next))) (λ y. absurd (omega (arith, tb.no_window)))
      due false false z last n ta tb =
          K.SetRank.next_other z tb.no_next (omega (arith, ta.no_next)) n.primary_gone (omega arith) (λ y. absurd (omega (arith, ta.no_next))) (λ y. absurd (omega (arith, ta.no_window)))

      turned : is_own bit (not next) ≡ false → is_own bit next ≡ true
      turned z = by (is_own bit next) refl
        where
          by : (y : Bool) → is_own bit next ≡ y → is_own bit next ≡ true
          by true e = e
          by false e = absurd (true_false (sym (own_turned bit next ∙ ap not e) ∙ z))

      go : AckTick p 0 burst noted next k w message u on l.primary l.secondary s.for_primary s.for_secondary s.for_devices → Next bit s (λ (m : Link). Soon p bit (d - 1) m ⊎ Burst p (limit + 29) bit (d - 1) m)
      go (A.ack_goes_on below a b line m x y) =
          waits (silent_of bit s a b) (inr (Ways.Burst.on_ack burst noted next (suc k) w message u on (carries s a b line) m set (still_pending bit l s q (waits_of bit l s x y)) (λ z. omega (arith, own z)) (omega arith)))
      go (A.ack_ends last z a b line (A.ended_clear y n m ta tb) wx wy) = absurd (true_false (sym set ∙ y))
      go (A.ack_ends last z a b line (A.ended_set y n m ta tb) wx wy) =
          waits (silent_of bit s a b) (inr (Ways.Burst.on_silence_lem 1 next (carries s a b line) m (still_pending bit l s q (waits_of bit l s wx wy)) (due (is_own bit next) bit refl last n ta tb)))
      go (A.back_follows_it last z who w' message' a b line m x y) =
          let short = frame_length m.devices kept.devices in
          waits (silent_of bit s a b) (inr (Ways.Burst.on_back true who (not next) 0 w' message' u (carries s a b line) m (still_pending bit l s q (waits_of bit l s x y))
          (λ e. omega (arith, short, own (turned e))) (omega (arith, short))))

  -- a BACK
  pub back_step : (burst : Bool) (noted : Noted) (next : Bool) (k : ℕ) (w : List ℕ) (message : Whole) (u d : ℕ) → OneDeviceSends p a_back burst noted next k w message u true l.primary l.secondary l.devices → Pending (waiter bit l)
      → (is_own bit next ≡ false → length w + own_back p (limit + 29) ≤ d + suc k) → length w + 2 ≤ d + suc k
      → Next bit (heard_tick limit l (Character (get_or w k 0)) c) (λ (m : Link). Soon p bit (d - 1) m ⊎ Burst p (limit + 29) bit (d - 1) m)
  unfolding heard_tick when◌then◌else◌
  back_step burst noted next k w message u d o q own any =
      go (back_tick limit low high p v burst noted next k w message u l.primary l.secondary l.devices c.for_primary c.for_secondary c.for_devices o)
    where
      s : LinkStep
      s = heard w k

      for : FrameIs true burst next message.header l.primary l.secondary a_back → message.header.primary ≡ not next
      for (is_back type z b e) = e

      -- the master that it was not for has the next window
      behind : (z y h : Bool) → bit ≡ z → next ≡ y → h ≡ not y → suc k ≡ length w → NobodyAwaits s.for_primary.side s.for_secondary.side
          → s.for_primary.side.master.timer ≡ (when h then slot_timer p true 0 else slot_timer p true 1) → s.for_secondary.side.master.timer ≡ (when (when h then false else true) then slot_timer p false 0 else slot_timer p false 1)
          → (is_own z y ≡ false → length w + own_back p (limit + 29) ≤ d + suc k)
          → SetRank p (limit + 29) (is_own z y) p.rt2 (waiter z (link_after s)).master.timer (other z (link_after s)).master.timer (left (other z (link_after s)).master.message.stage) (d - 1)
      behind true true false bz ny e last n ta tb r = K.SetRank.slot_now (ap (λ (t : Timer). t.next) ta) (omega arith)
      behind true false true bz ny e last n ta tb r =
          K.SetRank.next_other refl (ap (λ (t : Timer). t.next) ta) (omega (arith, ap (λ (t : Timer). t.next) tb)) n.secondary_gone (omega (arith, r refl, v.rt2_short)) (λ i. omega (arith, r refl)) (λ i. absurd (omega (arith, ap (λ (t : Timer). t.window) tb)))
      behind false true false bz ny e last n ta tb r =
          K.SetRank.next_other refl (ap (λ (t : Timer). t.next) tb) (omega (arith, ap (λ (t : Timer). t.next) ta)) n.primary_gone (omega (arith, r refl, v.rt2_short)) (λ i. omega (arith, r refl)) (λ i. absurd (omega (arith, ap (λ (t : Timer). t.window) ta)))
      behind false false true bz ny e last n ta tb r = K.SetRank.slot_now (ap (λ (t : Timer). t.next) tb) (omega arith)
      behind true true true bz ny e last n ta tb r = absurd (true_false e)
      behind true false false bz ny e last n ta tb r = absurd (true_false (sym e))
      behind false true true bz ny e last n ta tb r = absurd (true_false e)
      behind false false false bz ny e last n ta tb r = absurd (true_false (sym e))

      go : BackTick p burst noted next k w message u l.primary l.secondary s.for_primary s.for_secondary s.for_devices → Next bit s (λ (m : Link). Soon p bit (d - 1) m ⊎ Burst p (limit + 29) bit (d - 1) m)
      go (A.back_goes_on below a b line m x y) =
          waits (silent_of bit s a b) (inr (Ways.Burst.on_back burst noted next (suc k) w message u (carries s a b line) m (still_pending bit l s q (waits_of bit l s x y)) (λ z. omega (arith, own z)) (omega arith)))
      go (A.back_ends last a b line m ta tb n x y) =
          waits (silent_of bit s a b) (inr (Ways.Burst.on_silence_lem p.rt2 next (carries s a b line) m (still_pending bit l s q (waits_of bit l s x y)) (behind bit next message.header.primary refl refl (for o.frame_is) last n ta tb own)))
