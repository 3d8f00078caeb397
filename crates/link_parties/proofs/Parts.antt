-- Laws of the data of a call.
use Prim.Native.Nat.{ℕ, ◌≤◌}
use native.Mathlib.Omega.{arith}
use mathlib.Core.Path.{◌≡◌, refl}
use mathlib.Core.List.{List, [], ◌∷◌}
use lib.ListN.{length, drop, length-drop}

-- nothing stands behind the last byte
pub past_end : (put : List ℕ) (n : ℕ) → length put ≤ n → drop n put ≡ []
past_end put n h = empty (drop n put) (omega (arith, length-drop n put))
  where
    empty : (xs : List ℕ) → length xs ≤ 0 → xs ≡ []
    empty [] k = refl
    empty (x ∷ xs) k = absurd (omega arith)
