-- Laws of `stored`: for loops that store byte by byte, for writers that lend parts of a buffer, and what a reader finds there afterwards.
use Prim.Native.Nat.{ℕ, zero, suc, ◌+◌, ◌-◌, ◌≤◌, ◌<◌}
use native.Mathlib.Nat.{add-zero, add-suc, suc-add, zero-add}
use native.Mathlib.Numerals.{add-one}
use native.Mathlib.Omega.{arith}
use mathlib.Core.Path.{◌≡◌, refl, sym, ap, ◌∙◌}
use mathlib.Core.List.{List, [], ◌∷◌, ◌++◌, append-nil, append_assoc}
use lib.ListN.{length, take, drop, set, get_or, length-set, length-drop}
use lib.Seq.{sets, length-sets, sets-eq, take-suc, take_all, take_at, length-take-le}
use borrow.Rule.Slice.PartMut.{put_mid}
use Rattle.base.specs.Store.{stored}

-- the library's name for the same list
as_sets : (xs : List ℕ) (i : ℕ) (vs : List ℕ) → stored xs i vs ≡ sets xs i vs
unfolding stored
as_sets xs i [] = refl
as_sets xs i (v ∷ vs) = as_sets (set xs i v) (suc i) vs

-- bytes that fit stand between what was in front of them and what was behind them
pub stored_between : (xs : List ℕ) (i : ℕ) (vs : List ℕ) → i + length vs ≤ length xs → stored xs i vs ≡ take i xs ++ (vs ++ drop (i + length vs) xs)
stored_between xs i vs h = as_sets xs i vs ∙ sets-eq vs xs i h ∙ append_assoc (take i xs) vs (drop (i + length vs) xs)

pub length_stored : (xs : List ℕ) (i : ℕ) (vs : List ℕ) → length (stored xs i vs) ≡ length xs
length_stored xs i vs = ap length (as_sets xs i vs) ∙ length-sets xs i vs

-- no byte stored is no change
pub stored_none : (xs : List ℕ) (i : ℕ) → xs ≡ stored xs i []
unfolding stored
stored_none xs i = refl

-- equal bytes stored
pub stored_same : (xs ys us vs : List ℕ) (i : ℕ) → us ≡ vs → ys ≡ stored xs i us → ys ≡ stored xs i vs
stored_same xs ys us vs i e p = p ∙ ap (λ (l : List ℕ). stored xs i l) e

-- two runs, one behind the other, are one
pub join : (us vs xs : List ℕ) (i : ℕ) → stored (stored xs i us) (i + length us) vs ≡ stored xs i (us ++ vs)
unfolding stored
join [] vs xs i = ap (λ (k : ℕ). stored xs k vs) (add-zero i)
join (u ∷ us) vs xs i = ap (λ (k : ℕ). stored (stored (set xs i u) (suc i) us) k vs) (add-suc i (length us) ∙ sym (suc-add i (length us))) ∙ join us vs (set xs i u) (suc i)

join_front : (us vs xs : List ℕ) (n : ℕ) → n ≡ length us → stored (stored xs 0 us) n vs ≡ stored xs 0 (us ++ vs)
join_front us vs xs n e = ap (λ (k : ℕ). stored (stored xs 0 us) k vs) (e ∙ sym (zero-add (length us))) ∙ join us vs xs 0

-- one byte more behind a run at the front
pub stored_more : (n b : ℕ) (xs ys us : List ℕ) → ys ≡ stored xs 0 us → n ≡ length us → set ys n b ≡ stored xs 0 (us ++ (b ∷ []))
unfolding stored
stored_more n b xs ys us p e = ap (λ (l : List ℕ). set l n b) p ∙ join_front us (b ∷ []) xs n e

-- a run at the front leaves the first byte of a longer list alone, if it begins behind it
behind_first : (x : ℕ) (xs vs : List ℕ) (i : ℕ) → stored (x ∷ xs) (suc i) vs ≡ x ∷ stored xs i vs
unfolding stored
behind_first x xs [] i = refl
behind_first x xs (v ∷ vs) i = behind_first x (set xs i v) vs (suc i)

stored_nowhere : (vs : List ℕ) (i : ℕ) → stored [] i vs ≡ []
unfolding stored
stored_nowhere [] i = refl
stored_nowhere (v ∷ vs) i = stored_nowhere vs (suc i)

-- a run at the front of what follows a places is a run from a on
from_drop : (a : ℕ) (xs vs : List ℕ) → take a xs ++ stored (drop a xs) 0 vs ≡ stored xs a vs
from_drop zero xs vs = refl
from_drop (suc a) [] vs = stored_nowhere vs 0 ∙ sym (stored_nowhere vs (suc a))
from_drop (suc a) (x ∷ xs) vs = ap (λ (l : List ℕ). x ∷ l) (from_drop a xs vs) ∙ sym (behind_first x xs vs a)

drop_all : (n : ℕ) (xs : List ℕ) → length xs ≤ n → drop n xs ≡ []
drop_all zero [] h = refl
drop_all zero (x ∷ xs) h = absurd (omega arith)
drop_all (suc n) [] h = refl
drop_all (suc n) (x ∷ xs) h = drop_all n xs (omega arith)

-- the part from a on was lent, and came back with a run at its front: that is a run from a on
pub stored_part : (a k : ℕ) (xs zs vs : List ℕ) → zs ≡ stored (take k (drop a xs)) 0 vs → length xs ≤ a + k → put_mid a k xs zs ≡ stored xs a vs
stored_part a k xs zs vs q h =
    let rest : length (drop a xs) ≤ k = omega (arith, length-drop a xs) in
    ap (λ (l : List ℕ). take a xs ++ (l ++ drop k (drop a xs))) (q ∙ ap (λ (l : List ℕ). stored l 0 vs) (take_all k (drop a xs) rest))
    ∙ ap (λ (l : List ℕ). take a xs ++ (stored (drop a xs) 0 vs ++ l)) (drop_all k (drop a xs) rest)
    ∙ ap (λ (l : List ℕ). take a xs ++ l) (append-nil (stored (drop a xs) 0 vs))
    ∙ from_drop a xs vs

-- the same behind a run at the front that ends where the part begins
pub stored_parts : (a k : ℕ) (xs ys zs us vs : List ℕ) → ys ≡ stored xs 0 us → a ≡ length us → zs ≡ stored (take k (drop a ys)) 0 vs → length ys ≤ a + k → put_mid a k ys zs ≡ stored xs 0 (us ++ vs)
stored_parts a k xs ys zs us vs p e q h = stored_part a k ys zs vs q h ∙ ap (λ (l : List ℕ). stored l a vs) p ∙ join_front us vs xs a e

-- what a run at the front left there
front : (us xs : List ℕ) → length us ≤ length xs → take (length us) (stored xs 0 us) ≡ us
front us xs h =
    ap (λ (l : List ℕ). take (length us) l) (stored_between xs 0 us (omega arith))
    ∙ take_at us (drop (0 + length us) xs) (length us) refl

pub stored_front : (n : ℕ) (xs ys us : List ℕ) → ys ≡ stored xs 0 us → n ≡ length us → n ≤ length xs → take n ys ≡ us
stored_front n xs ys us p e h = ap (λ (l : List ℕ). take n l) p ∙ ap (λ (k : ℕ). take k (stored xs 0 us)) e ∙ front us xs (omega arith)

-- room behind any place
pub room_behind : (a n : ℕ) → n ≤ a + (n - a)
room_behind a n = omega arith

pub take_length_is : (n : ℕ) (xs : List ℕ) → n ≤ length xs → n ≡ length (take n xs)
take_length_is n xs h = sym (length-take-le n xs h)

pub take_more : (xs : List ℕ) (j : ℕ) → j < length xs → take j xs ++ (get_or xs j 0 ∷ []) ≡ take (j + 1) xs
take_more xs j h = sym (take-suc xs j 0 h) ∙ ap (λ (k : ℕ). take k xs) (sym (add-one j))

-- a loop that stores the n bytes us at the front of xs, one a turn: ys is the buffer with the first i of them
pub record Storing (xs us : List ℕ) (n : ℕ) (ys : List ℕ) (i : ℕ) : Type 0 where
  pub count : n ≡ length us
  pub within : i ≤ n
  pub room : n ≤ length xs
  pub same_length : length ys ≡ length xs
  pub so_far : ys ≡ stored xs 0 (take i us)

pub storing_none : (xs us : List ℕ) (n : ℕ) → n ≡ length us → n ≤ length xs → Storing xs us n xs 0
storing_none xs us n e h = record { count = e; within = omega arith; room = h; same_length = refl; so_far = stored_none xs 0 }

pub storing_more : (xs us : List ℕ) (n : ℕ) (ys : List ℕ) (i b : ℕ) → Storing xs us n ys i → i < n → b ≡ get_or us i 0 → Storing xs us n (set ys i b) (i + 1)
storing_more xs us n ys i b v h e =
    let front : i ≡ length (take i us) = take_length_is i us (omega (arith, v.count)) in
    record {
      count = v.count;
      within = omega arith;
      room = v.room;
      same_length = length-set ys i b ∙ v.same_length;
      so_far = stored_more i b xs ys (take i us) v.so_far front ∙ ap (λ (c : ℕ). stored xs 0 (take i us ++ (c ∷ []))) e ∙ ap (λ (l : List ℕ). stored xs 0 l) (take_more us i (omega (arith, v.count)));
    }

pub storing_all : (xs us : List ℕ) (n : ℕ) (ys : List ℕ) (i : ℕ) → Storing xs us n ys i → n ≤ i → ys ≡ stored xs 0 us
storing_all xs us n ys i v h = v.so_far ∙ ap (λ (l : List ℕ). stored xs 0 l) (take_all i us (omega (arith, v.count)))

pub ruleset storing = (refl, storing_none, storing_more, storing_all)
