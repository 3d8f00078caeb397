-- The search, row by row, finds what the definition seeks.
use Prim.Native.Nat.{ℕ, zero, suc, ◌+◌, ◌*◌, ◌/◌, ◌≤◌, ◌<◌}
use native.Mathlib.Nat.{add-zero, add-suc, suc-add, zero-add}
use native.Mathlib.Numerals.{add-one}
use native.Mathlib.Omega.{arith}
use mathlib.Core.Path.{◌≡◌, refl, sym, ap, ◌∙◌}
use mathlib.Core.Bool.{Bool, true, false}
use mathlib.Core.List.{List, [], ◌∷◌}
use lib.ListN.{length, get_or, drop}
use lib.Seq.{drop-cons, drop-length}
use borrow.Author.Tests.{lt-ltb, le-ltb, ltb-false}
use lib.Dec.{leb-suc-suc}
use Rattle.base.specs.Choice.{when◌then◌else◌, ◌<?◌, ◌=?◌}
use Rattle.base.proofs.Choices.{if_is_true, if_is_false}
use Rattle.readings.specs.Table.{has_key, is_empty, first_of, row_of, sought, looked_up, empty_row}
use Rattle.readings.specs.Search.{next, sought_from, match_of, looked_up_by, row_at, rows_from, rows_of}
use Rattle.readings.specs.declared.Key.{Key}
use Rattle.readings.specs.declared.Row.{Row}
use Rattle.readings.specs.declared.Sought.{Sought}
use Rattle.readings.specs.declared.Sought.TheVariants.{Match, Empty, Full}

-- ---- the number of the first row of which a test holds
pub first_here : (test : Row → Bool) (row : Row) (rows : List Row) → test row ≡ true → first_of test (row ∷ rows) ≡ 0
unfolding first_of
first_here test row rows e = if_is_true (test row) 0 (suc (first_of test rows)) e

pub first_later : (test : Row → Bool) (row : Row) (rows : List Row) → test row ≡ false → first_of test (row ∷ rows) ≡ suc (first_of test rows)
unfolding first_of
first_later test row rows e = if_is_false (test row) 0 (suc (first_of test rows)) e

pub first_most : (test : Row → Bool) (rows : List Row) → first_of test rows ≤ length rows
unfolding first_of
first_most test [] = omega arith
first_most test (row ∷ rows) = by (test row) refl (first_most test rows)
  where
    by : (t : Bool) → test row ≡ t → first_of test rows ≤ length rows → first_of test (row ∷ rows) ≤ suc (length rows)
    by true e most = omega (arith, first_here test row rows e)
    by false e most = omega (arith, first_later test row rows e)

-- ---- a choice by the first row of which a test holds; the row numbers are counted from a number on
suc_test : (m n : ℕ) → (suc m <? suc n) ≡ (m <? n)
suc_test m n = leb-suc-suc (suc m) n

module _ {A : Type 0} (test : Row → Bool) (make : ℕ → Row → A) where
  abbrev In : ℕ → List Row → A → A
  In at rows other = when first_of test rows <? length rows then make (at + first_of test rows) (row_of rows (first_of test rows)) else other

  in_none : (at : ℕ) (other : A) → In at [] other ≡ other
  unfolding first_of
  in_none at other = if_is_false (0 <? 0) (make (at + 0) empty_row) other (le-ltb 0 0 (omega arith))

  in_here : (at : ℕ) (row : Row) (rows : List Row) (other : A) → test row ≡ true → In at (row ∷ rows) other ≡ make at row
  in_here at row rows other e =
      ap (λ (k : ℕ). when k <? suc (length rows) then make (at + k) (row_of (row ∷ rows) k) else other) (first_here test row rows e)
      ∙ if_is_true (0 <? suc (length rows)) (make (at + 0) row) other (lt-ltb 0 (suc (length rows)) (omega arith))
      ∙ ap (λ (k : ℕ). make k row) (add-zero at)

  in_later : (at : ℕ) (row : Row) (rows : List Row) (other : A) → test row ≡ false → In at (row ∷ rows) other ≡ In (suc at) rows other
  in_later at row rows other e =
      ap (λ (k : ℕ). when k <? suc (length rows) then make (at + k) (row_of (row ∷ rows) k) else other) (first_later test row rows e)
      ∙ ap (λ (t : Bool). when t then make (at + suc (first_of test rows)) (row_of rows (first_of test rows)) else other) (suc_test (first_of test rows) (length rows))
      ∙ ap (λ (k : ℕ). when first_of test rows <? length rows then make k (row_of rows (first_of test rows)) else other) (add-suc at (first_of test rows) ∙ sym (suc-add at (first_of test rows)))

-- ---- what is sought, by the rows that are left
behind_match : (at i : ℕ) (was : Row) (rows : List Row) (key : Key) → sought_from at (Match i was) rows key ≡ Match i was
unfolding sought_from
behind_match at i was [] key = refl
behind_match at i was (row ∷ rows) key = behind_match (suc at) i was rows key

behind_empty : (at i : ℕ) (was : Row) (rows : List Row) (key : Key) → sought_from at (Empty i was) rows key ≡ In (has_key key) Match at rows (Empty i was)
unfolding sought_from
behind_empty at i was [] key = sym (in_none (has_key key) Match at (Empty i was))
behind_empty at i was (row ∷ rows) key = by (has_key key row) refl (behind_empty (suc at) i was rows key)
  where
    by : (t : Bool) → has_key key row ≡ t → sought_from (suc at) (Empty i was) rows key ≡ In (has_key key) Match (suc at) rows (Empty i was) → sought_from (suc at) (next (Empty i was) at row key) rows key ≡ In (has_key key) Match at (row ∷ rows) (Empty i was)
    by true e behind =
        ap (λ (u : Sought). sought_from (suc at) u rows key) (if_is_true (has_key key row) (Match at row) (Empty i was) e)
        ∙ behind_match (suc at) at row rows key ∙ sym (in_here (has_key key) Match at row rows (Empty i was) e)
    by false e behind =
        ap (λ (u : Sought). sought_from (suc at) u rows key) (if_is_false (has_key key row) (Match at row) (Empty i was) e)
        ∙ behind ∙ sym (in_later (has_key key) Match at row rows (Empty i was) e)

behind_none : (at : ℕ) (rows : List Row) (key : Key) → sought_from at Full rows key ≡ In (has_key key) Match at rows (In is_empty Empty at rows Full)
unfolding sought_from
behind_none at [] key = sym (in_none (has_key key) Match at (In is_empty Empty at [] Full) ∙ in_none is_empty Empty at Full)
behind_none at (row ∷ rows) key = by (has_key key row) (is_empty row) refl refl (behind_none (suc at) rows key)
  where
    by : (t u : Bool) → has_key key row ≡ t → is_empty row ≡ u → sought_from (suc at) Full rows key ≡ In (has_key key) Match (suc at) rows (In is_empty Empty (suc at) rows Full) → sought_from (suc at) (next Full at row key) rows key ≡ In (has_key key) Match at (row ∷ rows) (In is_empty Empty at (row ∷ rows) Full)
    by true u e f behind =
        ap (λ (v : Sought). sought_from (suc at) v rows key) (if_is_true (has_key key row) (Match at row) (when is_empty row then Empty at row else Full) e)
        ∙ behind_match (suc at) at row rows key ∙ sym (in_here (has_key key) Match at row rows (In is_empty Empty at (row ∷ rows) Full) e)
    by false true e f behind =
        ap (λ (v : Sought). sought_from (suc at) v rows key) (if_is_false (has_key key row) (Match at row) (when is_empty row then Empty at row else Full) e ∙ if_is_true (is_empty row) (Empty at row) Full f)
        ∙ behind_empty (suc at) at row rows key
        ∙ ap (λ (v : Sought). In (has_key key) Match (suc at) rows v) (sym (in_here is_empty Empty at row rows Full f))
        ∙ sym (in_later (has_key key) Match at row rows (In is_empty Empty at (row ∷ rows) Full) e)
    by false false e f behind =
        ap (λ (v : Sought). sought_from (suc at) v rows key) (if_is_false (has_key key row) (Match at row) (when is_empty row then Empty at row else Full) e ∙ if_is_false (is_empty row) (Empty at row) Full f)
        ∙ behind
        ∙ ap (λ (v : Sought). In (has_key key) Match (suc at) rows v) (sym (in_later is_empty Empty at row rows Full f))
        ∙ sym (in_later (has_key key) Match at row rows (In is_empty Empty at (row ∷ rows) Full) e)

pub sought_is : (rows : List Row) (key : Key) → sought_from 0 Full rows key ≡ sought rows key
unfolding sought
sought_is rows key =
    behind_none 0 rows key
    ∙ ap (λ (k : ℕ). when first_of (has_key key) rows <? length rows then Match k (row_of rows (first_of (has_key key) rows)) else In is_empty Empty 0 rows Full) (zero-add (first_of (has_key key) rows))
    ∙ ap (λ (k : ℕ). when first_of (has_key key) rows <? length rows then Match (first_of (has_key key) rows) (row_of rows (first_of (has_key key) rows)) else when first_of is_empty rows <? length rows then Empty k (row_of rows (first_of is_empty rows)) else Full) (zero-add (first_of is_empty rows))

-- ---- a search that has looked at the first i rows
pub record Seeking (rows : List Row) (key : Key) (i : ℕ) (s : Sought) : Type 0 where
  pub within : i ≤ length rows
  pub left : sought_from i s (drop i rows) key ≡ sought rows key

pub seeking_none : (rows : List Row) (key : Key) → Seeking rows key 0 Full
seeking_none rows key = record { within = omega arith; left = sought_is rows key }

pub seeking_more : (rows : List Row) (key : Key) (i : ℕ) (s t : Sought) → Seeking rows key i s → i < length rows → t ≡ next s i (get_or rows i empty_row) key → Seeking rows key (suc i) t
unfolding sought_from
seeking_more rows key i s t v l e = record {
  within = l;
  left =
      ap (λ (u : Sought). sought_from (suc i) u (drop (suc i) rows) key) e
      ∙ sym (ap (λ (rest : List Row). sought_from i s rest key) (drop-cons rows i empty_row l))
      ∙ v.left;
}

pub seeking_all : (rows : List Row) (key : Key) (s : Sought) → Seeking rows key (length rows) s → s ≡ sought rows key
unfolding sought_from
seeking_all rows key s v = sym (ap (λ (rest : List Row). sought_from (length rows) s rest key) (drop-length rows)) ∙ v.left

-- ---- the row that is looked up
match_is : (rows : List Row) (key : Key) → match_of (length rows) (sought rows key) ≡ first_of (has_key key) rows
unfolding sought when◌then◌else◌
match_is rows key = by (first_of (has_key key) rows <? length rows) (first_of is_empty rows <? length rows) refl
  where
    none : (first_of (has_key key) rows <? length rows) ≡ false → length rows ≡ first_of (has_key key) rows
    none e = let m = first_most (has_key key) rows in let n = ltb-false (first_of (has_key key) rows) (length rows) e in omega (arith, m, n)

    by : (t u : Bool) → (first_of (has_key key) rows <? length rows) ≡ t
        → match_of (length rows) (when t then Match (first_of (has_key key) rows) (row_of rows (first_of (has_key key) rows)) else when u then Empty (first_of is_empty rows) (row_of rows (first_of is_empty rows)) else Full) ≡ first_of (has_key key) rows
    by true u e = refl
    by false true e = none e
    by false false e = none e

pub found_is : (rows : List Row) (key : Key) (s : Sought) → s ≡ sought rows key → looked_up_by (length rows) s key ≡ looked_up rows key
found_is rows key s e =
    ap (λ (u : Sought). looked_up_by (length rows) u key) e
    ∙ ap (λ (n : ℕ). when key.address =? 0 then length rows else n) (match_is rows key)

-- ---- flat numbers
pub length_rows : (numbers : List ℕ) (i n : ℕ) → length (rows_from numbers i n) ≡ n
unfolding rows_from
length_rows numbers i zero = refl
length_rows numbers i (suc n) = ap suc (length_rows numbers (suc i) n)

row_in : (numbers : List ℕ) (i n j : ℕ) → j < n → get_or (rows_from numbers i n) j empty_row ≡ row_at numbers (7 * (i + j))
unfolding rows_from
row_in numbers i zero j l = absurd (omega arith)
row_in numbers i (suc n) zero l = ap (λ (k : ℕ). row_at numbers (7 * k)) (sym (add-zero i))
row_in numbers i (suc n) (suc j) l = row_in numbers (suc i) n j (omega arith) ∙ ap (λ (k : ℕ). row_at numbers (7 * k)) (suc-add i j ∙ sym (add-suc i j))

pub flat_more : (numbers : List ℕ) (key : Key) (i : ℕ) (s t : Sought) (row : Row) → Seeking (rows_of numbers) key i s → i < length numbers / 7 → row ≡ row_at numbers (7 * i) → t ≡ next s i row key → Seeking (rows_of numbers) key (i + 1) t
flat_more numbers key i s t row v l e f =
    let small : i < length (rows_of numbers) = rw (length_rows numbers 0 (length numbers / 7)) l in
    let same : row ≡ get_or (rows_of numbers) i empty_row = e ∙ ap (λ (k : ℕ). row_at numbers (7 * k)) (sym (zero-add i)) ∙ sym (row_in numbers 0 (length numbers / 7) i l) in
    rw (add-one i)
    (seeking_more (rows_of numbers) key i s t v small (f ∙ ap (λ (r : Row). next s i r key) same))

pub flat_all : (numbers : List ℕ) (key : Key) (i : ℕ) (s : Sought) → Seeking (rows_of numbers) key i s → length numbers / 7 ≤ i → s ≡ sought (rows_of numbers) key
flat_all numbers key i s v l =
    let end : i ≡ length (rows_of numbers) = omega (arith, l, v.within, length_rows numbers 0 (length numbers / 7)) in
    seeking_all (rows_of numbers) key s (rw (sym end) v)

pub ruleset flats = (seeking_none, flat_more, flat_all)
