-- A loop that puts numbers at the front of a lent buffer: what is left to put gives what the whole gives.
use Prim.Native.Nat.{ℕ, suc, ◌+◌, ◌-◌, ◌≤◌, ◌<◌}
use native.Mathlib.Numerals.{add-one}
use native.Mathlib.Omega.{arith}
use mathlib.Core.Path.{◌≡◌, refl, sym, ap, ◌∙◌}
use mathlib.Core.List.{List, [], ◌∷◌}
use lib.ListN.{length, take, set, length-set}
use lib.Seq.{take-nil}
use Rattle.base.specs.Events.{RunIs}
use Rattle.base.specs.Store.{stored}

module _ {S : Type 0} (numbersFrom : S → List ℕ) where
  pub record Filling (numbers before : List ℕ) (s : S) (events : List ℕ) (i : ℕ) : Type 0 where
    pub slots : i ≤ length before
    pub same_length : length events ≡ length before
    pub stores : stored events i (take (length before - i) (numbersFrom s)) ≡ stored before 0 (take (length before) numbers)
    pub counts : i + length (take (length before - i) (numbersFrom s)) ≡ length (take (length before) numbers)

  pub filling_begun : (before : List ℕ) (s : S) → Filling (numbersFrom s) before s before 0
  filling_begun before s =
      let room : length before - 0 ≡ length before = omega arith in
      let all : take (length before - 0) (numbersFrom s) ≡ take (length before) (numbersFrom s) = ap (λ (n : ℕ). take n (numbersFrom s)) room in
      record {
        slots = omega arith;
        same_length = refl;
        stores = ap (λ (l : List ℕ). stored before 0 l) all;
        counts = omega (arith, ap length all);
      }

  pub filling_more : (numbers before : List ℕ) (s t : S) (events : List ℕ) (i n : ℕ) → Filling numbers before s events i → i < length events → numbersFrom s ≡ n ∷ numbersFrom t → Filling numbers before t (set events i n) (i + 1)
  unfolding stored
  filling_more numbers before s t events i n v h e =
      let room : length before - i ≡ suc (length before - (i + 1)) = omega (arith, v.same_length) in
      let split : take (length before - i) (numbersFrom s) ≡ n ∷ take (length before - (i + 1)) (numbersFrom t) =
      ap (λ (k : ℕ). take k (numbersFrom s)) room
      ∙ ap (take (suc (length before - (i + 1)))) e in
      record {
        slots = omega (arith, v.same_length);
        same_length = length-set events i n ∙ v.same_length;
        stores = ap (λ (k : ℕ). stored (set events i n) k (take (length before - (i + 1)) (numbersFrom t))) (add-one i)
            ∙ ap (λ (l : List ℕ). stored events i l) (sym split)
            ∙ v.stores;
        counts = omega (arith, ap length split, v.counts);
      }

  over : (numbers before : List ℕ) (s : S) (events : List ℕ) (i : ℕ) → Filling numbers before s events i → take (length before - i) (numbersFrom s) ≡ [] → RunIs numbers before i events
  unfolding stored
  over numbers before s events i v e = record {
    events = sym (ap (λ (l : List ℕ). stored events i l) e) ∙ v.stores;
    returned = omega (arith, ap length e, v.counts);
  }

  -- no number is left
  pub filling_ended : (numbers before : List ℕ) (s : S) (events : List ℕ) (i : ℕ) → Filling numbers before s events i → numbersFrom s ≡ [] → RunIs numbers before i events
  filling_ended numbers before s events i v e = over numbers before s events i v (ap (take (length before - i)) e ∙ take-nil (length before - i))

  -- no room is left
  pub filling_full : (numbers before : List ℕ) (s : S) (events : List ℕ) (i : ℕ) → Filling numbers before s events i → length events ≤ i → RunIs numbers before i events
  filling_full numbers before s events i v h =
      let none : length before - i ≡ 0 = omega (arith, v.same_length) in
      over numbers before s events i v (ap (λ (k : ℕ). take k (numbersFrom s)) none)
