-- The list of ticks, tick by tick: a tick takes a byte at least, and what is left of the bytes is the rest of the list.
use Prim.Native.Nat.{ℕ, zero, suc, ◌+◌, ◌≤◌, ◌<◌}
use native.Mathlib.Omega.{arith}
use mathlib.Core.Path.{◌≡◌, refl, ap}
use mathlib.Core.List.{List, [], ◌∷◌}
use lib.ListN.{length, length-drop}
use Rattle.base.specs.Choice.{◌=?◌}
use Rattle.turns.specs.Link.{Calls}
use Rattle.turns.proofs.Bursting.{if_both}
use Rattle.link_list.specs.Ticks.{kind_in, length_in, behind_call, behind, Here, calls_each, calls_in, ticks_from, ticks_of}

call_shorter : (b : ℕ) (bs : List ℕ) → length (behind_call (b ∷ bs)) ≤ length bs
unfolding behind_call
call_shorter b bs = if_both (λ (l : List ℕ). length l ≤ length bs) (kind_in (b ∷ bs) =? 0) _ _ (omega (arith, length-drop 1 (b ∷ bs))) (omega (arith, length-drop (10 + length_in (b ∷ bs)) (b ∷ bs)))

call_no_longer : (rest : List ℕ) → length (behind_call rest) ≤ length rest
unfolding behind_call
call_no_longer rest = if_both (λ (l : List ℕ). length l ≤ length rest) (kind_in rest =? 0) _ _ (omega (arith, length-drop 1 rest)) (omega (arith, length-drop (10 + length_in rest) rest))

no_longer : (n : ℕ) (rest : List ℕ) → length (behind n rest) ≤ length rest
unfolding behind
no_longer zero rest = omega arith
no_longer (suc n) rest = omega (arith, no_longer n (behind_call rest), call_no_longer rest)

tick_shorter : (here : Here) (b : ℕ) (bs : List ℕ) → length (behind (calls_each here) (b ∷ bs)) ≤ length bs
unfolding behind
tick_shorter here b bs = omega (arith, no_longer (suc (length here)) (behind_call (b ∷ bs)), call_shorter b bs)

-- so many ticks are enough
enough : (here : Here) (n m : ℕ) (rest : List ℕ) → length rest ≤ n → length rest ≤ m → ticks_from here n rest ≡ ticks_from here m rest
unfolding ticks_from
enough here zero zero rest h k = refl
enough here zero (suc m) [] h k = refl
enough here (suc n) zero [] h k = refl
enough here (suc n) (suc m) [] h k = refl
enough here zero (suc m) (b ∷ bs) h k = absurd (omega arith)
enough here (suc n) zero (b ∷ bs) h k = absurd (omega arith)
enough here (suc n) (suc m) (b ∷ bs) h k = ap (λ (l : List Calls). calls_in here (b ∷ bs) ∷ l) (enough here n m (behind (calls_each here) (b ∷ bs)) (omega (arith, tick_shorter here b bs)) (omega (arith, tick_shorter here b bs)))

-- the first tick, and the rest
pub ticks_more : (here : Here) (rest : List ℕ) → 0 < length rest → ticks_of here rest ≡ calls_in here rest ∷ ticks_of here (behind (calls_each here) rest)
unfolding ticks_from
ticks_more here [] h = absurd (omega arith)
ticks_more here (b ∷ bs) h = ap (λ (l : List Calls). calls_in here (b ∷ bs) ∷ l) (enough here (length bs) (length (behind (calls_each here) (b ∷ bs))) (behind (calls_each here) (b ∷ bs)) (tick_shorter here b bs) (omega arith))

pub ticks_none : (here : Here) (rest : List ℕ) → length rest ≤ 0 → ticks_of here rest ≡ []
unfolding ticks_from
ticks_none here [] h = refl
ticks_none here (b ∷ bs) h = absurd (omega arith)
