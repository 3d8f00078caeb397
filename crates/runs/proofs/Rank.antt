-- How long a message can still wait: numbers of ticks, by what the timers and the other master's message say. In each silent tick in which the message goes on waiting they fall.
use Prim.Native.Nat.{ℕ, ◌+◌, ◌-◌, ◌*◌, ◌≤◌, ◌<◌}
use native.Mathlib.Omega.{arith}
use mathlib.Core.Path.{◌≡◌, refl, ap, subst, ◌∙◌}
use mathlib.Core.Bool.{Bool, true, false}
use mathlib.Core.Logic.{◌⊎◌, inl, inr}
use borrow.Author.Tests.{eqb-true, eqb-false}
use Rattle.base.specs.Choice.{when◌then◌else◌, ◌=?◌}
use Rattle.line.specs.declared.Profile.{Profile}
use Rattle.turns.specs.Master.{opened}
use Rattle.turns.specs.Link.{MasterSide, MasterStep}
use Rattle.turns.specs.declared.Noted.{Noted}
use Rattle.turns.specs.declared.Timer.{Timer}
use Rattle.turns.specs.declared.Stage.TheVariants.{Waiting}
use Rattle.turns.proofs.Masters.{left}
use Rattle.turns.proofs.Windows as W
use Rattle.turns.proofs.Windows.{Valid, Counted, CountedBurst, counted, counted_burst, more}
use Rattle.turns.proofs.Phases.{MasterQuiet, ClearWindows}
use Rattle.runs.proofs.SilentTick.{MasterRests, MasterTries}
use Rattle.runs.proofs.Silences.{clear_timer, set_timer, near_other}

-- ---- the numbers; f is the longest frame

-- the other master's message with all its retries
abbrev pub all_retries : Profile → ℕ → ℕ → ℕ
all_retries p f retries = (retries + 1) * (f + p.rt1s) + p.sto + f

-- behind the other master's STX, n retries left
abbrev pub retries_left : Profile → ℕ → ℕ → ℕ
retries_left p f n = n * (f + p.rt1s) + p.rt1s + p.sto + f + 2

-- behind the other master's STX while a device bursts: until a BACK to that master is over, an ACK before it
abbrev pub burst_stx : Profile → ℕ → ℕ
burst_stx p f = 2 * f + p.rt1p + 4

-- behind a BACK to the master that waits
abbrev pub own_back : Profile → ℕ → ℕ
own_back p f = f + burst_stx p f + p.hold

-- ---- a message that waits for its first character

pub record Pending (x : MasterSide) : Type 0 where
  pub stage_is : x.master.message.stage ≡ Waiting
  pub attempts_is : x.master.message.attempts ≡ 0

pub pending_left : {x : MasterSide} → Pending x → left x.master.message.stage ≡ 0
pending_left q = ap left q.stage_is

-- ---- a silent tick

module _ (p : Profile) (v : Valid p) {primary : Bool} {noted : Noted} {x : MasterSide} {s : MasterStep} where
  -- BURST clear: the window of a message that waits on does not open in this tick
  pub clear_rests : MasterQuiet p primary false noted x → 1 ≤ x.master.timer.next → Pending x → MasterRests x s → (2 ≤ x.master.timer.next) × (s.side.master.timer.next ≡ x.master.timer.next - 1)
  unfolding when◌then◌else◌
  clear_rests q runs w r =
      go (x.master.timer.next =? 1) refl
      (r.counts_on w.stage_is ∙ clear_timer p x q.listens.is_it.profile_is q.burst_is) (r.shut (r.waits_on w.stage_is).0)
    where
      go : (t : Bool) → (x.master.timer.next =? 1) ≡ t
          → s.side.master.timer ≡ (when t then opened p else record { next = x.master.timer.next - 1; window = x.master.timer.window - 1; quiet = 0 }) → s.side.master.timer.window ≡ 0
          → (2 ≤ x.master.timer.next) × (s.side.master.timer.next ≡ x.master.timer.next - 1)
      go true e z shut = absurd (omega (arith, shut, v.some_hold, ap (λ (t : Timer). t.window) z))
      go false e z shut = (more x.master.timer.next (eqb-false x.master.timer.next 1 e) runs, ap (λ (t : Timer). t.next) z)

  pub other_clear : MasterQuiet p primary false noted x → MasterRests x s → Counted p x.master.timer s.side.master.timer
  other_clear q r =
      let e = clear_timer p x q.listens.is_it.profile_is q.burst_is in
      counted p x.master.timer s.side.master.timer (r.next_is ∙ ap (λ (t : Timer). t.next) e) (subst (λ (t : Timer). s.side.master.timer.window ≤ t.window) e r.window_is)

  -- one that begins has a window in this tick
  pub begins_clear : MasterQuiet p primary false noted x → MasterTries x s → (x.master.timer.next ≡ 1) ⊎ (2 ≤ x.master.timer.window)
  unfolding when◌then◌else◌
  begins_clear q r =
      go (x.master.timer.next =? 1) refl (subst (λ (t : Timer). 0 < t.window) (clear_timer p x q.listens.is_it.profile_is q.burst_is) r.in_window)
    where
      go : (t : Bool) → (x.master.timer.next =? 1) ≡ t → 0 < (when t then opened p else record { next = x.master.timer.next - 1; window = x.master.timer.window - 1; quiet = 0 }).window
          → (x.master.timer.next ≡ 1) ⊎ (2 ≤ x.master.timer.window)
      go true e z = inl (eqb-true x.master.timer.next 1 e)
      go false e z = inr (omega arith)

  -- BURST set
  pub set_rests : MasterQuiet p primary true noted x → 1 < x.master.timer.quiet → Pending x → MasterRests x s → (x.master.timer.next ≡ 1 → ⊥) × (s.side.master.timer.next ≡ x.master.timer.next - 1)
  unfolding when◌then◌else◌
  set_rests q l w r =
      go (x.master.timer.next =? 1) refl
      (r.counts_on w.stage_is ∙ set_timer p x q.listens.is_it.profile_is q.burst_is l) (r.shut (r.waits_on w.stage_is).0)
    where
      go : (t : Bool) → (x.master.timer.next =? 1) ≡ t
          → s.side.master.timer ≡ (when t then record { next = 0; window = p.hold; quiet = x.master.timer.quiet - 1 } else record { next = x.master.timer.next - 1; window = x.master.timer.window - 1; quiet = x.master.timer.quiet - 1 })
          → s.side.master.timer.window ≡ 0 → (x.master.timer.next ≡ 1 → ⊥) × (s.side.master.timer.next ≡ x.master.timer.next - 1)
      go true e z shut = absurd (omega (arith, shut, v.some_hold, ap (λ (t : Timer). t.window) z))
      go false e z shut = (eqb-false x.master.timer.next 1 e, ap (λ (t : Timer). t.next) z)

  pub other_set : MasterQuiet p primary true noted x → 1 < x.master.timer.quiet → MasterRests x s → CountedBurst p x.master.timer s.side.master.timer
  other_set q l r =
      let e = set_timer p x q.listens.is_it.profile_is q.burst_is l in
      counted_burst p x.master.timer s.side.master.timer (r.next_is ∙ ap (λ (t : Timer). t.next) e) (subst (λ (t : Timer). s.side.master.timer.window ≤ t.window) e r.window_is)

  pub begins_set : MasterQuiet p primary true noted x → 1 < x.master.timer.quiet → MasterTries x s → (x.master.timer.next ≡ 1) ⊎ (2 ≤ x.master.timer.window)
  unfolding when◌then◌else◌
  begins_set q l r =
      go (x.master.timer.next =? 1) refl (subst (λ (t : Timer). 0 < t.window) (set_timer p x q.listens.is_it.profile_is q.burst_is l) r.in_window)
    where
      by : Bool → Timer
      by t = when t then record { next = 0; window = p.hold; quiet = x.master.timer.quiet - 1 } else record { next = x.master.timer.next - 1; window = x.master.timer.window - 1; quiet = x.master.timer.quiet - 1 }

      go : (t : Bool) → (x.master.timer.next =? 1) ≡ t → 0 < (by t).window
          → (x.master.timer.next ≡ 1) ⊎ (2 ≤ x.master.timer.window)
      go true e z = inl (eqb-true x.master.timer.next 1 e)
      go false e z = inr (omega arith)

-- ---- BURST clear

-- the window of x comes first, and within d ticks; y awaits nothing
pub record First (x y : Timer) (awaited d : ℕ) : Type 0 where
  pub soon : x.next ≤ d
  pub first : x.next < y.next
  pub shut : y.window ≤ 1
  pub none_awaited : awaited ≡ 0

pub data ClearRank (p : Profile) (f retries : ℕ) (x y : Timer) (awaited attempts d : ℕ) : Type 0 where
  -- y may begin a message before x does
  may_begin : awaited ≡ 0 → x.next + all_retries p f retries ≤ d → ClearRank p f retries x y awaited attempts d
  -- y awaits its ACK, and has at most n retries left
  awaits : (n : ℕ) → retries + 1 ≤ attempts + n → 1 ≤ awaited → x.next ≤ d → n * (f + p.rt1s) + awaited + p.sto + f + 1 ≤ d → ClearRank p f retries x y awaited attempts d

pub first_next : (p : Profile) (x y z w : Timer) (k d : ℕ) → 2 ≤ x.next → z.next ≡ x.next - 1 → Counted p y w → First x y k d → First z w (k - 1) (d - 1)
first_next p x y z w k d a b (W.Counted.opens e g h) r = absurd (omega (arith, r.first))
first_next p x y z w k d a b (W.Counted.goes e g h) r =
    record { soon = omega (arith, r.soon); first = omega (arith, r.first); shut = omega (arith, r.shut); none_awaited = omega (arith, r.none_awaited) }

-- y does not begin where x comes first
pub first_alone : (x y : Timer) (k d : ℕ) → 2 ≤ x.next → First x y k d → (y.next ≡ 1) ⊎ (2 ≤ y.window) → ⊥
first_alone x y k d a r (inl e) = omega (arith, r.first)
first_alone x y k d a r (inr e) = omega (arith, r.shut)

-- y rests
pub data ClearNext (p : Profile) (f retries : ℕ) (x y : Timer) (awaited attempts d : ℕ) : Type 0 where
  now_first : First x y awaited d → ClearNext p f retries x y awaited attempts d
  still : ClearRank p f retries x y awaited attempts d → ClearNext p f retries x y awaited attempts d

pub clear_next : (p : Profile) → Valid p → (f retries : ℕ) (x y z w : Timer) (j k attempts tries d : ℕ) → 2 ≤ x.next → z.next ≡ x.next - 1 → Counted p y w → ClearWindows p y x → (1 ≤ j → y.next ≡ j) → k ≡ j - 1 → (1 ≤ k → tries ≡ attempts)
    → (1 ≤ j → k ≡ 0 → w.window ≡ 0) → ClearRank p f retries x y j attempts d → ClearNext p f retries z w k tries (d - 1)
clear_next p v f retries x y z w j k attempts tries d a b c win at less same over (may_begin e g) = still (may_begin (omega arith) (omega arith))
clear_next p v f retries x y z w j k attempts tries d a b c win at less same over (awaits n e g h i) = go (native.Mathlib.Decide.dec_le 1 k)
  where
    opens : Counted p y w → y.next ≡ 1 → w.next ≡ 2 * p.rt2
    opens (W.Counted.opens q r s) o = r
    opens (W.Counted.goes q r s) o = absurd (q o)

    go : Dec (1 ≤ k) → ClearNext p f retries z w k tries (d - 1)
    go (yes q) = still (awaits n (omega (arith, same q)) q (omega arith) (omega arith))
    go (no q) =
        let one : y.next ≡ 1 = omega (arith, at g) in
        let far = near_other p v y x win (omega (arith, one)) in
        now_first (record { soon = omega arith; first = omega (arith, opens c one, far, v.hold_short, v.some_hold); shut = omega (arith, over g (omega arith)); none_awaited = omega arith })

-- ---- BURST set; the next BACK begins in n ticks. `own`: it is for the master that waits

pub data SetRank (p : Profile) (f : ℕ) (own : Bool) (n : ℕ) (x y : Timer) (awaited d : ℕ) : Type 0 where
  -- the window of x opens in the next tick
  slot_now : x.next ≡ 1 → 1 ≤ d → SetRank p f own n x y awaited d
  -- the next BACK is for y, which may begin a message before it
  next_other : own ≡ false → x.next ≡ 0 → y.next ≤ 1 → awaited ≡ 0 → n + f + 2 ≤ d → (y.next ≡ 1 → f + burst_stx p f + p.hold ≤ d + 1) → (2 ≤ y.window → f + burst_stx p f + y.window ≤ d + 2) → SetRank p f own n x y awaited d
  -- the next BACK is for x
  next_own : own ≡ true → x.next ≡ 0 → awaited ≡ 0 → n + f + own_back p f ≤ d → SetRank p f own n x y awaited d
  -- y awaits its ACK
  awaits : own ≡ false → x.next ≡ 0 → 1 ≤ awaited → y.next ≡ 0 → y.window ≡ 0 → n + 2 * f + 3 ≤ d → SetRank p f own n x y awaited d

pub set_next : (p : Profile) → Valid p → (f : ℕ) (own : Bool) (n : ℕ) (x y z w : Timer) (j k d : ℕ) → 1 ≤ n → (x.next ≡ 1 → ⊥) → z.next ≡ x.next - 1 → CountedBurst p y w → k ≡ j - 1 → SetRank p f own n x y j d → SetRank p f own (n - 1) z w k (d - 1)
set_next p v f own n x y z w j k d s a b c less (slot_now e g) = absurd (a e)
set_next p v f own n x y z w j k d s a b (W.CountedBurst.opens q r t) less (next_other o e m g h i l) = next_other o (omega arith) (omega arith) (omega arith) (omega arith) (λ u. absurd (omega arith)) (λ u. omega (arith, i q))
set_next p v f own n x y z w j k d s a b (W.CountedBurst.goes q r t) less (next_other o e m g h i l) =
    next_other o (omega arith) (omega arith) (omega arith) (omega arith) (λ u. absurd (q (omega arith))) (λ u. omega (arith, l (omega arith)))
set_next p v f own n x y z w j k d s a b c less (next_own o e g h) = next_own o (omega arith) (omega arith) (omega arith)
set_next p v f own n x y z w j k d s a b c less (awaits o e g h i l) = go (native.Mathlib.Decide.dec_le 1 k) c
  where
    go : Dec (1 ≤ k) → CountedBurst p y w → SetRank p f own (n - 1) z w k (d - 1)
    go (yes q) (W.CountedBurst.opens r t u) = absurd (omega arith)
    go (yes q) (W.CountedBurst.goes r t u) = awaits o (omega arith) q (omega arith) (omega arith) (omega arith)
    go (no q) (W.CountedBurst.opens r t u) = absurd (omega arith)
    go (no q) (W.CountedBurst.goes r t u) = next_other o (omega arith) (omega arith) (omega arith) (omega arith) (λ y. absurd (omega arith)) (λ y. absurd (omega arith))
