-- A message that waits while no device bursts: the other master may begin before it, send its STX, and await its ACK.
use Prim.Native.Nat.{ℕ, zero, suc, ◌+◌, ◌-◌, ◌*◌, ◌≤◌}
use native.Mathlib.Omega.{arith}
use mathlib.Core.Path.{◌≡◌, refl, ap, subst}
use mathlib.Core.Bool.{Bool, true, false}
use mathlib.Core.List.{List}
use mathlib.Core.Logic.{◌⊎◌, inl, inr}
use lib.ListN.{length, get_or}
use Rattle.base.specs.Choice.{when◌then◌else◌}
use Rattle.line.specs.declared.Heard.TheVariants.{Silence, Character}
use Rattle.line.specs.declared.Profile.{Profile}
use Rattle.line.specs.declared.Whole.{Whole}
use Rattle.turns.specs.Master.{burst_after}
use Rattle.turns.specs.Link.{MasterSide, Link, LinkStep, Calls, link_after}
use Rattle.runs.proofs.Fair.{Fair}
use Rattle.turns.specs.declared.Noted.{Noted}
use Rattle.turns.specs.declared.Timer.{Timer}
use Rattle.turns.proofs.Masters.{left}
use Rattle.turns.proofs.DeviceSpeaking.{an_ack}
use Rattle.turns.proofs.Windows.{Valid}
use Rattle.turns.proofs.Quiet.{ClearLine}
use Rattle.runs.proofs.Stx as X
use Rattle.runs.proofs.Stx.{OneMasterSends, StxTick}
use Rattle.runs.proofs.SilentTick.{OneDeviceSends, MasterRests, MasterTries}
use Rattle.runs.proofs.Silences.{clear_tick, clear_runs}
use Rattle.runs.proofs.NoTwoSend.{heard_tick}
use Rattle.runs.proofs.KeptLink.{LinkKept, LinkSettled}
use Rattle.runs.proofs.Rank as K
use Rattle.runs.proofs.Rank.{Pending, ClearRank, ClearNext, clear_rests, other_clear, clear_next}
use Rattle.runs.proofs.Waits as Ways
use Rattle.runs.proofs.Waits.{waiter, other, waiter_step, other_step, not, ClearOf, clear_of, SilentView, silent_view, answer_for, frame_length, Soon, Burst, Clear, Next, began, waits}
use Rattle.runs.proofs.WaitSides.{after_other, before_other, after_both, still_pending, other_line, no_line, off_is, burst_gain, stx_length, stx_of, clear_after, some_rt1, sends_on}

module _ (limit : ℕ) (low : 2 ≤ limit) (high : limit ≤ 255) (p : Profile) (v : Valid p) (retries : ℕ) (bit : Bool) (l : Link) (c : Calls) where
  abbrev quiet : LinkStep
  quiet = heard_tick limit l Silence c

  abbrev heard : List ℕ → ℕ → LinkStep
  heard w k = heard_tick limit l (Character (get_or w k 0)) c

  -- the silent line
  pub clear_step : (e d : ℕ) → Fair (heard_tick limit l Silence c) → LinkKept limit retries l → LinkSettled limit retries (link_after (heard_tick limit l Silence c)) → (k : ClearLine p e l.primary l.secondary l.devices) → Pending (waiter bit l)
      → ClearRank p (limit + 29) retries (waiter bit l).master.timer (other bit l).master.timer (left (other bit l).master.message.stage) (other bit l).master.message.attempts d
      → Next bit (heard_tick limit l Silence c) (λ (m : Link). (Soon p bit (d - 1) m ⊎ Clear p (limit + 29) retries bit (d - 1) m) ⊎ Burst p (limit + 29) bit (d - 1 + burst_gain p (limit + 29)) m)
  unfolding heard_tick when◌then◌else◌
  clear_step e d sole was kept k q r = go (silent_view p 0 false k.noted true bit l quiet _ (clear_tick limit low high p v l.primary l.secondary l.devices c.for_primary c.for_secondary c.for_devices e k sole))
    where
      co : ClearOf p e bit (waiter bit l) (other bit l)
      co = clear_of p e bit l k

      limit_is : (z : Bool) → (other z l).master.retries ≡ retries
      limit_is true = was.secondary.retries_is
      limit_is false = was.primary.retries_is

      -- the other master rests
      rests : (link_after quiet).line ≡ Silence → ClearLine p (e - 1) (link_after quiet).primary (link_after quiet).secondary (link_after quiet).devices → Pending (waiter bit (link_after quiet))
          → ClearNext p (limit + 29) retries (waiter bit (link_after quiet)).master.timer (other bit (link_after quiet)).master.timer (left (other bit (link_after quiet)).master.message.stage) (other bit (link_after quiet)).master.message.attempts (d - 1)
          → Soon p bit (d - 1) (link_after quiet) ⊎ Clear p (limit + 29) retries bit (d - 1) (link_after quiet)
      rests line m pending (K.now_first z) = inl (Ways.first_window (e - 1) line m pending z)
      rests line m pending (K.still z) = inr (Ways.Clear.on_silence_lem (e - 1) line m pending z)

      -- it begins its STX
      stx : (w : List ℕ) (message : Whole) → (link_after quiet).line ≡ Character (get_or w 0 0) → OneMasterSends p (not bit) bit false k.noted true 0 w message (other bit (link_after quiet)) (waiter bit (link_after quiet)) (link_after quiet).devices
          → MasterRests (waiter bit l) (waiter_step bit quiet) → MasterTries (other bit l) (other_step bit quiet)
          → ClearRank p (limit + 29) retries (waiter bit l).master.timer (other bit l).master.timer (left (other bit l).master.message.stage) (other bit l).master.message.attempts d → Clear p (limit + 29) retries bit (d - 1) (link_after quiet)
      stx w message line o rx ty (K.ClearRank.may_begin z g) =
          let x = clear_rests p v co.waiter_quiet (clear_runs p v _ _ co.windows).1 q rx in
          Ways.Clear.on_stx k.noted true 0 w message line o (still_pending bit l quiet q rx.waits_on) retries
          (after_other bit quiet (λ (b : MasterSide). retries + 1 ≤ b.master.message.attempts + retries) (omega (arith, ty.some)))
          (omega (arith, x.0, stx_length limit retries p bit (link_after quiet) kept o))
      stx w message line o rx ty (K.ClearRank.awaits zero z g h i) = absurd (omega (arith, (ty.again g).1, limit_is bit))
      stx w message line o rx ty (K.ClearRank.awaits (suc n) z g h i) =
          Ways.Clear.on_stx k.noted true 0 w message line o (still_pending bit l quiet q rx.waits_on) n
          (after_other bit quiet (λ (b : MasterSide). retries + 1 ≤ b.master.message.attempts + n) (omega (arith, (ty.again g).0)))
          (omega (arith, stx_length limit retries p bit (link_after quiet) kept o))

      -- an ACK to it begins, with which a device may begin to burst
      ack : (w : List ℕ) (message : Whole) (u : ℕ) (on : Bool) → (link_after quiet).line ≡ Character (get_or w 0 0)
          → OneDeviceSends p an_ack false k.noted true 0 w message u on (link_after quiet).primary (link_after quiet).secondary (link_after quiet).devices
          → MasterRests (waiter bit l) (waiter_step bit quiet) → MasterRests (other bit l) (other_step bit quiet)
          → ClearRank p (limit + 29) retries (waiter bit l).master.timer (other bit l).master.timer (left (other bit l).master.message.stage) (other bit l).master.message.attempts d
          → (Soon p bit (d - 1) (link_after quiet) ⊎ Clear p (limit + 29) retries bit (d - 1) (link_after quiet)) ⊎ Burst p (limit + 29) bit (d - 1 + burst_gain p (limit + 29)) (link_after quiet)
      ack w message u on line o rx ry rank = by rank (burst_after false k.noted message.header) refl
        where
          pending : Pending (waiter bit (link_after quiet))
          pending = still_pending bit l quiet q rx.waits_on

          for : (message.header.primary ≡ not bit) × (1 ≤ left (other bit (link_after quiet)).master.message.stage)
          for = answer_for bit (link_after quiet) o.frame_is pending

          some : 1 ≤ left (other bit l).master.message.stage - 1
          some = omega (arith, ry.one_less, before_other bit quiet (λ (b : MasterSide). 1 ≤ left b.master.message.stage) for.1)

          short : length w ≤ limit + 29
          short = frame_length o.devices kept.devices

          by : ClearRank p (limit + 29) retries (waiter bit l).master.timer (other bit l).master.timer (left (other bit l).master.message.stage) (other bit l).master.message.attempts d → (z : Bool) → burst_after false k.noted message.header ≡ z
              → (Soon p bit (d - 1) (link_after quiet) ⊎ Clear p (limit + 29) retries bit (d - 1) (link_after quiet)) ⊎ Burst p (limit + 29) bit (d - 1 + burst_gain p (limit + 29)) (link_after quiet)
          by (K.ClearRank.may_begin z g) y b = absurd (omega (arith, some))
          by (K.ClearRank.awaits n z g h i) true b =
              inr (Ways.Burst.on_ack false k.noted true 0 w message u on line o b pending
              (λ e. omega (arith, short, some, v.hold_short, v.some_sto, v.some_hold, v.secondary)) (omega (arith, short, some, v.hold_short, v.some_sto, v.some_hold, v.secondary)))
          by (K.ClearRank.awaits n z g h i) false b =
              inl (inl (Ways.behind_ack_lem false k.noted true 0 w message u line
              (subst (λ (z : Bool). OneDeviceSends p an_ack false k.noted true 0 w message u z (link_after quiet).primary (link_after quiet).secondary (link_after quiet).devices) (off_is on o b) o)
              b for.0 pending (omega (arith, short, some))))

      go : SilentView p 0 false k.noted true bit l quiet (ClearLine p (e - 1) (link_after quiet).primary (link_after quiet).secondary (link_after quiet).devices)
          → Next bit quiet (λ (m : Link). (Soon p bit (d - 1) m ⊎ Clear p (limit + 29) retries bit (d - 1) m) ⊎ Burst p (limit + 29) bit (d - 1 + burst_gain p (limit + 29)) m)
      go (Ways.begins ch z) = began ch z
      go (Ways.stays z line m rx ry) =
          let x = clear_rests p v co.waiter_quiet (clear_runs p v _ _ co.windows).1 q rx in
          let y = clear_next p v (limit + 29) retries _ _ _ _ _ _ _ _ d x.0 x.1 (other_clear p v co.other_quiet ry) co.windows co.awaits ry.one_less ry.same_attempts ry.over_shut r in
          waits z (inl (rests line m (still_pending bit l quiet q rx.waits_on)
          (after_both bit quiet (λ (a b : MasterSide). ClearNext p (limit + 29) retries a.master.timer b.master.timer (left b.master.message.stage) b.master.message.attempts (d - 1)) y)))
      go (Ways.other_begins w message z line o rx ty) = waits z (inl (inr (stx w message line o rx ty r)))
      go (Ways.answer_begins w message u on z line o rx ry) = waits z (ack w message u on line o rx ry r)
      go (Ways.burst_begins n w message u z line o rx ry) = absurd (omega (arith, n))

  -- the other master's STX
  pub stx_clear_step : (noted : Noted) (next : Bool) (k : ℕ) (w : List ℕ) (message : Whole) (d : ℕ) → OneMasterSends p (not bit) bit false noted next k w message (other bit l) (waiter bit l) l.devices → Pending (waiter bit l)
      → (n : ℕ) → retries + 1 ≤ (other bit l).master.message.attempts + n → length w + (n * (limit + 29 + p.rt1s) + p.rt1s + p.sto + (limit + 29) + 2) ≤ d + suc k
      → Next bit (heard_tick limit l (Character (get_or w k 0)) c) (λ (m : Link). (Soon p bit (d - 1) m ⊎ Clear p (limit + 29) retries bit (d - 1) m) ⊎ Burst p (limit + 29) bit (d - 1 + burst_gain p (limit + 29)) m)
  unfolding when◌then◌else◌
  stx_clear_step noted next k w message d o q n tries r = go (stx_of limit low high p v bit l c false noted next k w message o)
    where
      s : LinkStep
      s = heard w k

      go : StxTick p (not bit) bit false noted next k w message (other bit l) (waiter bit l) (other_step bit s) (waiter_step bit s) s.for_devices
          → Next bit s (λ (m : Link). (Soon p bit (d - 1) m ⊎ Clear p (limit + 29) retries bit (d - 1) m) ⊎ Burst p (limit + 29) bit (d - 1 + burst_gain p (limit + 29)) m)
      go (X.goes_on below a b line m t y) =
          waits b (inl (inr (Ways.Clear.on_stx noted next (suc k) w message (other_line bit s _ a b line) (sends_on bit s m) (still_pending bit l s q y) n
          (after_other bit s (λ (j : MasterSide). retries + 1 ≤ j.master.message.attempts + n) (omega (arith, t))) (omega arith))))
      go (X.ends last a b line x t y) =
          let mine = some_rt1 p v bit in
          let its = some_rt1 p v (not bit) in
          waits b (inl (inr (Ways.Clear.on_silence_lem 0 (no_line bit s a b line) (clear_after p v bit s x) (still_pending bit l s q y)
          (after_both bit s (λ (i j : MasterSide). ClearRank p (limit + 29) retries i.master.timer j.master.timer (left j.master.message.stage) j.master.message.attempts (d - 1))
          (K.ClearRank.awaits n (omega (arith, t)) (omega (arith, x.sender_left, its.0)) (omega (arith, mine.1, ap (λ (z : Timer). z.next) x.listener_timer)) (omega (arith, x.sender_left, its.1)))))))
