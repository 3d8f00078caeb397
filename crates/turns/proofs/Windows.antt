-- The windows of the two masters while the line is silent: why they never are open together, and why none is open while an answer or a BACK may begin.
use Prim.Native.Nat.{ℕ, zero, suc, ◌+◌, ◌-◌, ◌*◌, ◌≤◌, ◌<◌}
use native.Mathlib.Omega.{arith}
use mathlib.Core.Path.{◌≡◌, refl}
use borrow.Author.Tests.{eqb-true, eqb-false}
use Rattle.line.specs.declared.Profile.{Profile}
use Rattle.turns.proofs.Masters.{if_cases}
use Rattle.turns.specs.Master.{count_clear, count_burst}
use Rattle.turns.specs.declared.Timer.{Timer}

-- a profile that the check takes
pub record Valid (p : Profile) : Type 0 where
  pub some_sto : 1 ≤ p.sto
  pub some_hold : 1 ≤ p.hold
  pub hold_short : p.hold < p.rt2
  pub rt2_short : p.rt2 < p.rt1p
  pub sto_short : p.sto < p.rt1p
  pub secondary : p.rt1s ≡ p.rt1p + p.rt2

-- ---- BURST clear

-- a opens first, b `gap` silent ticks behind it; then each opens again every 2×RT2
pub data Apart (p : Profile) (gap : ℕ) (a b : Timer) : Type 0 where
  -- neither has opened yet
  waiting : 1 ≤ a.next → b.next ≡ a.next + gap → a.window ≡ 0 → b.window ≡ 0 → Apart p gap a b
  -- a opened last
  first_open : 1 ≤ b.next → a.next + gap ≡ b.next + 2 * p.rt2 → b.next ≤ gap → a.window + 2 * p.rt2 ≤ p.hold + a.next → b.window ≡ 0 → Apart p gap a b
  -- a opened last, and its window is over or was left unused
  first_shut : 1 ≤ b.next → a.next + gap ≡ b.next + 2 * p.rt2 → b.next ≤ gap → a.window ≡ 0 → b.window ≡ 0 → Apart p gap a b
  -- b opened last
  second_open : 1 ≤ a.next → b.next ≡ a.next + gap → a.next + gap ≤ 2 * p.rt2 → b.window + 2 * p.rt2 ≤ p.hold + b.next → a.window ≡ 0 → Apart p gap a b
  second_shut : 1 ≤ a.next → b.next ≡ a.next + gap → a.next + gap ≤ 2 * p.rt2 → b.window ≡ 0 → a.window ≡ 0 → Apart p gap a b

-- the gap is RT2 behind an STX and at the start, RT2 - 1 behind an ACK
pub record Gap (p : Profile) (gap : ℕ) : Type 0 where
  pub least : p.rt2 ≤ gap + 1
  pub most : gap ≤ p.rt2

-- a silent tick: the timer opens its window, or counts; a window may be left unused
pub data Counted (p : Profile) (t u : Timer) : Type 0 where
  opens : t.next ≡ 1 → u.next ≡ 2 * p.rt2 → u.window ≤ p.hold → Counted p t u
  goes : (t.next ≡ 1 → ⊥) → u.next ≡ t.next - 1 → u.window ≤ t.window - 1 → Counted p t u

pub counted : (p : Profile) (t u : Timer) → u.next ≡ (count_clear p t).next → u.window ≤ (count_clear p t).window → Counted p t u
counted p t u =
    if_cases (λ (x : Timer). u.next ≡ x.next → u.window ≤ x.window → Counted p t u) _ _ _ (λ q e w. opens (eqb-true t.next 1 q) e w) (λ q e w. goes (eqb-false t.next 1 q) e w)

-- a timer that runs
data Ran (p : Profile) (t u : Timer) : Type 0 where
  ends : t.next ≡ 1 → u.next ≡ 2 * p.rt2 → u.window ≤ p.hold → Ran p t u
  runs : 1 < t.next → u.next ≡ t.next - 1 → u.window ≤ t.window - 1 → Ran p t u

pub more : (n : ℕ) → (n ≡ 1 → ⊥) → 1 ≤ n → 1 < n
more zero f z = absurd (omega (arith, z))
more (suc zero) f z = absurd (f refl)
more (suc (suc n)) f z = omega arith

ran : {p : Profile} {t u : Timer} → 1 ≤ t.next → Counted p t u → Ran p t u
ran z (opens a b c) = ends a b c
ran {t = t} z (goes a b c) = runs (more t.next a z) b c

-- a window that closed, told apart from one that is open
data OpenOrShut (p : Profile) (t : Timer) : Type 0 where
  is_open : t.window + 2 * p.rt2 ≤ p.hold + t.next → OpenOrShut p t
  is_shut : t.window ≡ 0 → OpenOrShut p t

apart_runs : (p : Profile) (gap : ℕ) (a b c d : Timer) → Valid p → Gap p gap → Ran p a c → Ran p b d → Apart p gap a b → Apart p gap c d
apart_runs p gap a b c d v g (ends x y z) (ends k l m) (waiting e f h i) = absurd (omega (arith, v.hold_short, v.some_hold, g.least))
apart_runs p gap a b c d v g (ends x y z) (runs k l m) (waiting e f h i) = first_open (omega (arith, v.hold_short, v.some_hold, g.least)) (omega arith) (omega arith) (omega arith) (omega arith)
apart_runs p gap a b c d v g (runs x y z) (ends k l m) (waiting e f h i) = absurd (omega arith)
apart_runs p gap a b c d v g (runs x y z) (runs k l m) (waiting e f h i) = waiting (omega arith) (omega arith) (omega arith) (omega arith)
apart_runs p gap a b c d v g (ends x y z) (ends k l m) (first_open e f h i j) = absurd (omega (arith, v.hold_short, v.some_hold, g.most))
apart_runs p gap a b c d v g (ends x y z) (runs k l m) (first_open e f h i j) = absurd (omega (arith, v.hold_short, v.some_hold, g.most))
apart_runs p gap a b c d v g (runs x y z) (ends k l m) (first_open e f h i j) = second_open (omega (arith, v.hold_short, v.some_hold, g.most)) (omega arith) (omega arith) (omega arith) (omega (arith, v.hold_short, g.least, g.most))
apart_runs p gap a b c d v g (runs x y z) (runs k l m) (first_open e f h i j) = go (leb_cases a.window 0)
  where
    leb_cases : (m n : ℕ) → Dec (m ≤ n)
    leb_cases m n = native.Mathlib.Decide.dec_le m n

    go : Dec (a.window ≤ 0) → Apart p gap c d
    go (yes o) = first_shut (omega arith) (omega (arith, v.some_hold, v.hold_short, g.most)) (omega arith) (omega arith) (omega arith)
    go (no o) = first_open (omega arith) (omega (arith, v.some_hold, v.hold_short, g.most)) (omega arith) (omega arith) (omega arith)
apart_runs p gap a b c d v g (ends x y z) (ends k l m) (first_shut e f h i j) = absurd (omega (arith, v.hold_short, v.some_hold, g.most))
apart_runs p gap a b c d v g (ends x y z) (runs k l m) (first_shut e f h i j) = absurd (omega (arith, v.hold_short, v.some_hold, g.most))
apart_runs p gap a b c d v g (runs x y z) (ends k l m) (first_shut e f h i j) = second_open (omega (arith, v.hold_short, v.some_hold, g.most)) (omega arith) (omega arith) (omega arith) (omega arith)
apart_runs p gap a b c d v g (runs x y z) (runs k l m) (first_shut e f h i j) = first_shut (omega arith) (omega arith) (omega arith) (omega arith) (omega arith)
apart_runs p gap a b c d v g (ends x y z) (ends k l m) (second_open e f h i j) = absurd (omega (arith, v.hold_short, v.some_hold, g.least))
apart_runs p gap a b c d v g (ends x y z) (runs k l m) (second_open e f h i j) = first_open (omega (arith, v.hold_short, v.some_hold, g.least)) (omega arith) (omega arith) (omega arith) (omega (arith, v.hold_short, g.most))
apart_runs p gap a b c d v g (runs x y z) (ends k l m) (second_open e f h i j) = absurd (omega arith)
apart_runs p gap a b c d v g (runs x y z) (runs k l m) (second_open e f h i j) = go (native.Mathlib.Decide.dec_le b.window 0)
  where
    go : Dec (b.window ≤ 0) → Apart p gap c d
    go (yes o) = second_shut (omega arith) (omega arith) (omega arith) (omega arith) (omega arith)
    go (no o) = second_open (omega arith) (omega arith) (omega arith) (omega arith) (omega arith)
apart_runs p gap a b c d v g (ends x y z) (ends k l m) (second_shut e f h i j) = absurd (omega (arith, v.hold_short, v.some_hold, g.least))
apart_runs p gap a b c d v g (ends x y z) (runs k l m) (second_shut e f h i j) = first_open (omega (arith, v.hold_short, v.some_hold, g.least)) (omega arith) (omega arith) (omega arith) (omega arith)
apart_runs p gap a b c d v g (runs x y z) (ends k l m) (second_shut e f h i j) = absurd (omega arith)
apart_runs p gap a b c d v g (runs x y z) (runs k l m) (second_shut e f h i j) = second_shut (omega arith) (omega arith) (omega arith) (omega arith) (omega arith)

-- both timers run
pub running : (p : Profile) (gap : ℕ) (a b : Timer) → Valid p → Gap p gap → Apart p gap a b → (1 ≤ a.next) × (1 ≤ b.next)
running p gap a b v g (waiting e f h i) = (e, omega arith)
running p gap a b v g (first_open e f h i j) = (omega (arith, v.hold_short, v.some_hold, g.most), e)
running p gap a b v g (first_shut e f h i j) = (omega (arith, v.hold_short, v.some_hold, g.most), e)
running p gap a b v g (second_open e f h i j) = (e, omega arith)
running p gap a b v g (second_shut e f h i j) = (e, omega arith)

-- a silent tick keeps the windows apart
pub apart_next : (p : Profile) (gap : ℕ) (a b c d : Timer) → Valid p → Gap p gap → Counted p a c → Counted p b d → Apart p gap a b → Apart p gap c d
apart_next p gap a b c d v g x y w = let r = running p gap a b v g w in apart_runs p gap a b c d v g (ran r.0 x) (ran r.1 y) w

-- not both windows are open
pub one_window : (p : Profile) (gap : ℕ) (a b : Timer) → Apart p gap a b → 0 < a.window → 0 < b.window → ⊥
one_window p gap a b (waiting e f h i) x y = omega arith
one_window p gap a b (first_open e f h i j) x y = omega arith
one_window p gap a b (first_shut e f h i j) x y = omega arith
one_window p gap a b (second_open e f h i j) x y = omega arith
one_window p gap a b (second_shut e f h i j) x y = omega arith

-- ---- BURST set: the bursting device's next BACK is due in n silent ticks

-- a master's one window behind a BACK to the other: it is over before the next BACK begins
pub data Slot (p : Profile) (n : ℕ) (t : Timer) : Type 0 where
  shut : t.next ≡ 0 → t.window ≡ 0 → Slot p n t
  coming : t.next ≡ 1 → t.window ≡ 0 → p.hold < n → Slot p n t
  open_slot : t.next ≡ 0 → t.window ≤ n → Slot p n t

-- only the master that the last BACK was not for has one
pub data OneSlot (p : Profile) (n : ℕ) (a b : Timer) : Type 0 where
  first_shut : a.next ≡ 0 → a.window ≡ 0 → Slot p n b → OneSlot p n a b
  second_shut : b.next ≡ 0 → b.window ≡ 0 → Slot p n a → OneSlot p n a b

pub data CountedBurst (p : Profile) (t u : Timer) : Type 0 where
  opens : t.next ≡ 1 → u.next ≡ 0 → u.window ≤ p.hold → CountedBurst p t u
  goes : (t.next ≡ 1 → ⊥) → u.next ≡ t.next - 1 → u.window ≤ t.window - 1 → CountedBurst p t u

pub counted_burst : (p : Profile) (t u : Timer) → u.next ≡ (count_burst p t).next → u.window ≤ (count_burst p t).window → CountedBurst p t u
counted_burst p t u =
    if_cases (λ (x : Timer). u.next ≡ x.next → u.window ≤ x.window → CountedBurst p t u) _ _ _ (λ q e w. opens (eqb-true t.next 1 q) e w) (λ q e w. goes (eqb-false t.next 1 q) e w)

slot_next : (p : Profile) (n : ℕ) (t u : Timer) → CountedBurst p t u → Slot p n t → Slot p (n - 1) u
slot_next p n t u (opens a b c) (shut e f) = absurd (omega arith)
slot_next p n t u (opens a b c) (coming e f h) = open_slot (omega arith) (omega arith)
slot_next p n t u (opens a b c) (open_slot e f) = absurd (omega arith)
slot_next p n t u (goes a b c) (shut e f) = shut (omega arith) (omega arith)
slot_next p n t u (goes a b c) (coming e f h) = absurd (a e)
slot_next p n t u (goes a b c) (open_slot e f) = open_slot (omega arith) (omega arith)

pub shut_next : (p : Profile) (t u : Timer) → CountedBurst p t u → t.next ≡ 0 → t.window ≡ 0 → (u.next ≡ 0) × (u.window ≡ 0)
shut_next p t u (opens a b c) e f = absurd (omega arith)
shut_next p t u (goes a b c) e f = (omega arith, omega arith)

pub one_slot_next : (p : Profile) (n : ℕ) (a b c d : Timer) → CountedBurst p a c → CountedBurst p b d → OneSlot p n a b → OneSlot p (n - 1) c d
one_slot_next p n a b c d x y (first_shut e f s) = let q = shut_next p a c x e f in first_shut q.0 q.1 (slot_next p n b d y s)
one_slot_next p n a b c d x y (second_shut e f s) = let q = shut_next p b d y e f in second_shut q.0 q.1 (slot_next p n a c x s)

pub one_slot_window : (p : Profile) (n : ℕ) (a b : Timer) → OneSlot p n a b → 0 < a.window → 0 < b.window → ⊥
one_slot_window p n a b (first_shut e f s) x y = omega arith
one_slot_window p n a b (second_shut e f s) x y = omega arith

-- where the BACK begins no window is open
pub slot_last : (p : Profile) (t u : Timer) → 1 ≤ p.hold → CountedBurst p t u → Slot p 1 t → u.window ≡ 0
slot_last p t u h (opens a b c) (shut e f) = absurd (omega arith)
slot_last p t u h (opens a b c) (coming e f k) = absurd (omega arith)
slot_last p t u h (opens a b c) (open_slot e f) = absurd (omega arith)
slot_last p t u h (goes a b c) (shut e f) = omega arith
slot_last p t u h (goes a b c) (coming e f k) = absurd (a e)
slot_last p t u h (goes a b c) (open_slot e f) = omega arith

pub one_slot_last : (p : Profile) (a b c d : Timer) → 1 ≤ p.hold → CountedBurst p a c → CountedBurst p b d → OneSlot p 1 a b → (c.window ≡ 0) × (d.window ≡ 0)
one_slot_last p a b c d h x y (first_shut e f s) = ((shut_next p a c x e f).1, slot_last p b d h y s)
one_slot_last p a b c d h x y (second_shut e f s) = (slot_last p a c h x s, (shut_next p b d y e f).1)
