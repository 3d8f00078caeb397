-- The reader over a recording.
use Prim.Native.Nat.{ℕ, ◌+◌, ◌*◌, ◌/◌, ◌≤◌, ◌<◌, min}
use native.Mathlib.Omega.{arith}
use mathlib.Core.Bool.{Bool, true, false}
use borrow.Author.Tests.{leb-true, leb-false}
use Rattle.base.specs.Choice.{◌≤?◌}
use Rattle.base.specs.Events.{RunIs}
use mathlib.Core.Path.{◌≡◌, refl, sym, ap, subst, ◌∙◌}
use mathlib.Core.List.{List}
use lib.ListN.{length, get_or, set}
use Rattle.line.specs.Reader.{passing, taken}
use Rattle.line.specs.declared.Heard.{Heard}
use Rattle.line.specs.declared.Receiver.{Receiver}
use Rattle.line.specs.declared.Taken.{Taken}
use Rattle.line.specs.Told.{event_number}
use Rattle.recording_c.specs.Ticks.{step, ticked, told}
use Rattle.recording.proofs.Runs.{Running, begun, goes_on, run_ended, run_full}

-- a tick of what was heard
pub step_same : (r : Receiver) (h : Heard) (g : Heard) (t : Taken) → h ≡ g → t ≡ taken r h → t ≡ taken r g
step_same r h g t p q = q ∙ ap (taken r) p

pub run_start : (recording before : List ℕ) (r : Receiver) → r ≡ passing → Running ticked (told recording) recording before r before 0 0
run_start recording before r e = subst (λ (s : Receiver). Running ticked (told recording) recording before s before 0 0) (sym e) (begun ticked recording before passing)

-- tick i of a recording is its bytes 2 * i and 2 * i + 1
pub run_tick : (recording before : List ℕ) (r : Receiver) (events : List ℕ) (i : ℕ) (t : Taken) (number : ℕ)
    → Running ticked (told recording) recording before r events (2 * i) i → i < length events → i < length recording / 2
    → t ≡ step r (get_or recording (2 * i) 0) (get_or recording (2 * i + 1) 0) → number ≡ event_number t.event
    → Running ticked (told recording) recording before t.receiver (set events i number) (2 * (i + 1)) (i + 1)
run_tick recording before r events i t number v h k e f =
    let same : record { number = number; behind = t.receiver } ≡ ticked r (get_or recording (2 * i) 0) (get_or recording (2 * i + 1) 0) =
    ap (λ (n : ℕ). record { number = n; behind = t.receiver }) f
    ∙ ap (λ (u : Taken). record { number = event_number u.event; behind = u.receiver }) e in
    subst (λ (at : ℕ). Running ticked (told recording) recording before t.receiver (set events i number) at (i + 1)) (next i)
    (goes_on ticked (told recording) recording before r events (2 * i) i (record { number = number; behind = t.receiver }) v h (omega arith) same)
  where
    next : (i : ℕ) → 2 * i + 2 ≡ 2 * (i + 1)
    next i = omega arith

-- the loop ends where either is over
pub run_over : (recording before : List ℕ) (r : Receiver) (events : List ℕ) (i ticks : ℕ)
    → Running ticked (told recording) recording before r events (2 * i) i → ticks ≤ i → ticks ≡ min (length recording / 2) (length events) → i ≤ ticks → RunIs (told recording) before ticks events
run_over recording before r events i ticks v h e k = go (length events ≤? i) refl
  where
    same : i ≡ ticks
    same = omega arith

    go : (t : Bool) → (length events ≤? i) ≡ t → RunIs (told recording) before ticks events
    go true z = subst (λ (n : ℕ). RunIs (told recording) before n events) same (run_full ticked (told recording) recording before r events (2 * i) i v (leb-true (length events) i z))
    go false z = subst (λ (n : ℕ). RunIs (told recording) before n events) same (run_ended ticked (told recording) recording before r events (2 * i) i v (omega (arith, leb-false (length events) i z)))

pub ruleset runs = (refl, step_same, run_start, run_tick, run_over)
