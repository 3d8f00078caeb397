-- The run over a script: two bytes for each access, and a number for each in the lent events.
use Prim.Native.Nat.{ℕ, ◌+◌, ◌*◌, ◌-◌, ◌≤◌, ◌<◌, ◌/◌, min}
use mathlib.Core.Bool.{Bool, true, false}
use native.Mathlib.Omega.{arith}
use mathlib.Core.List.{List}
use mathlib.Core.Path.{◌≡◌, refl, subst}
use lib.ListN.{length, get_or, set}
use borrow.Author.Tests.{ltb-true, ltb-false}
use Rattle.std.specs.Prelude.{ltb}
use Rattle.base.specs.Events.{RunIs}
use Rattle.recording.proofs.Runs.{Running, goes_on, run_ended, run_full}
use Rattle.modem.specs.declared.Chip.{Chip}
use Rattle.modem_c.specs.Script.{accessed_as, accessed}
use Rattle.modem_c.specs.declared.Accessed.{Accessed}

pub run_access : (numbers script before : List ℕ) (x : Chip) (events : List ℕ) (i : ℕ) (r : Accessed)
    → Running accessed numbers script before x events (2 * i) i → i < length events → i < length script / 2
    → accessed_as r ≡ accessed x (get_or script (2 * i) 0) (get_or script (2 * i + 1) 0)
    → Running accessed numbers script before r.chip (set events i r.number) (2 * (i + 1)) (i + 1)
run_access numbers script before x events i r v h k e =
    let next : 2 * i + 2 ≡ 2 * (i + 1) = omega arith in
    let room : 2 ≤ length script - 2 * i = omega arith in
    subst (λ (at : ℕ). Running accessed numbers script before r.chip (set events i r.number) at (i + 1)) next
    (goes_on accessed numbers script before x events (2 * i) i (accessed_as r) v h room e)

-- after as many accesses as both have room for
pub run_over : (numbers script before : List ℕ) (x : Chip) (events : List ℕ) (i : ℕ)
    → Running accessed numbers script before x events (2 * i) i → i ≡ min (length events) (length script / 2) → RunIs numbers before i events
run_over numbers script before x events i v least = go (ltb i (length events)) refl
  where
    ended : i < length events → length script - 2 * i < 2
    ended h = omega arith

    go : (b : Bool) → ltb i (length events) ≡ b → RunIs numbers before i events
    go true e = run_ended accessed numbers script before x events (2 * i) i v (ended (ltb-true i (length events) e))
    go false e = run_full accessed numbers script before x events (2 * i) i v (ltb-false i (length events) e)
