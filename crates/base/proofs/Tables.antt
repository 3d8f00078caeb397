-- A rule for all numbers below a bound, from one computed test; and what the last arm of a `match` on a number is told.
use Prim.Native.Nat.{ℕ, zero, suc, ◌<◌}
use native.Mathlib.Omega.{arith}
use native.Mathlib.Decide.{dec_lt}
use mathlib.Core.Path.{◌≡◌, refl, sym}
use mathlib.Core.Bool.{Bool, true, false}
use mathlib.Core.List.{List, [], ◌∷◌}
use Rattle.base.specs.Choice.{when◌then◌else◌, ◌=?◌}
use Rattle.base.proofs.Choices.{true_false, if_unequal}

-- both tests of a chain hold where the chain does
pub chain_first : (s t : Bool) → (when s then t else false) ≡ true → s ≡ true
unfolding when◌then◌else◌
chain_first true t e = refl
chain_first false t e = e

pub chain_second : (s t : Bool) → (when s then t else false) ≡ true → t ≡ true
unfolding when◌then◌else◌
chain_second true t e = e
chain_second false t e = absurd (true_false (sym e))

-- whether a test holds of every number below n
unfoldable pub holds_below : ℕ → (ℕ → Bool) → Bool
holds_below zero test = true
holds_below (suc n) test = when test n then holds_below n test else false

pub holds_at : (n : ℕ) (test : ℕ → Bool) → holds_below n test ≡ true → (k : ℕ) → k < n → test k ≡ true
unfolding holds_below
holds_at zero test e k h = absurd (omega arith)
holds_at (suc n) test e k h = go (dec_lt k n) (λ l. holds_at n test (chain_second (test n) (holds_below n test) e) k l)
  where
    go : Dec (k < n) → (k < n → test k ≡ true) → test k ≡ true
    go (yes l) below = below l
    go (no l) below = let same : k ≡ n = omega arith in rw same (chain_first (test n) (holds_below n test) e)

-- whether a number is one of some keys
abbrev pub among : List ℕ → ℕ → Bool
among [] n = false
among (k ∷ keys) n = when n =? k then true else among keys n

-- n is none of the keys, as the last arm of a `match` is told it: a tuple nested to the left, with R innermost
abbrev pub None : Type 0 → List ℕ → ℕ → Type 0
None R [] n = R
None R (k ∷ keys) n = None (R × (n ≡ k → ⊥)) keys n

not_among_with : (R : Type 0) (keys : List ℕ) (n : ℕ) → None R keys n → R × (false ≡ among keys n)
not_among_with R [] n h = (h, refl)
not_among_with R (k ∷ keys) n h =
    let rest = not_among_with (R × (n ≡ k → ⊥)) keys n h in
    (rest.0.0, if_unequal n k false true (among keys n) rest.0.1 rest.1)

pub not_among : (keys : List ℕ) (n : ℕ) → None (Unit {0}) keys n → false ≡ among keys n
not_among keys n h = (not_among_with (Unit {0}) keys n h).1
