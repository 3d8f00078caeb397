-- A row that is put into flat numbers is put into their rows.
use Prim.Native.Nat.{ℕ, zero, suc, ◌+◌, ◌-◌, ◌*◌, ◌/◌, ◌%◌, ◌≤◌, ◌<◌, ◌^◌}
use native.Mathlib.Nat.{add-zero, mod-eq_of_lt}
use native.Mathlib.Omega.{arith}
use native.Mathlib.Decide.{dec_lt}
use mathlib.Core.Path.{◌≡◌, refl, sym, ap, ◌∙◌}
use mathlib.Core.Bool.{Bool, true, false}
use mathlib.Core.List.{List, ◌∷◌}
use lib.ListN.{length, get_or, set}
use lib.Seq.{set_out}
use borrow.Author.Tests.{leb-true, leb-false}
use Rattle.base.specs.Choice.{◌≤?◌}
use Rattle.base.specs.Store.{stored}
use Rattle.base.proofs.Choices.{if_is_true, if_is_false}
use Rattle.base.proofs.Stores.{length_stored}
use Rattle.readings.specs.Search.{row_at, rows_from, rows_of, row_numbers, numbers_put}
use Rattle.readings.specs.declared.Row.{Row}
use Rattle.readings.proofs.Bytes.{stored_front_stays, stored_behind_stays, stored_here}
use Rattle.readings.proofs.Searches.{length_rows}

-- a row that seven numbers tell
pub record RowFits (row : Row) : Type 0 where
  pub command : row.command < 2 ^ 8
  pub count : row.count < 2 ^ 8
  pub primary : row.primary < 2 ^ 8
  pub secondary : row.secondary < 2 ^ 8
  pub spare : row.spare ≡ 0

module _ (numbers : List ℕ) (at : ℕ) (row : Row) (fits : RowFits row) (room : 7 * at + 7 ≤ length numbers) where
  abbrev after : List ℕ
  after = stored numbers (7 * at) (row_numbers row)

  byte_kept : (n : ℕ) → n < 2 ^ 8 → n % 256 ≡ n
  byte_kept n h = mod-eq_of_lt h

  number_here : (k : ℕ) → k < 7 → get_or after (7 * at + k) 0 ≡ get_or (row_numbers row) k 0
  number_here k l = stored_here numbers (row_numbers row) (7 * at) k l room

  row_here : row_at after (7 * at) ≡ row
  row_here = λ i. record {
    address = (ap (λ (k : ℕ). get_or after k 0) (sym (add-zero (7 * at))) ∙ number_here 0 (omega arith)) i;
    command = (ap (λ (n : ℕ). n % 256) (number_here 1 (omega arith)) ∙ byte_kept row.command fits.command) i;
    tick = number_here 2 (omega arith) i;
    count = (ap (λ (n : ℕ). n % 256) (number_here 3 (omega arith)) ∙ byte_kept row.count fits.count) i;
    place = number_here 4 (omega arith) i;
    primary = (ap (λ (n : ℕ). n % 256) (number_here 5 (omega arith)) ∙ byte_kept row.primary fits.primary) i;
    secondary = (ap (λ (n : ℕ). n % 256) (number_here 6 (omega arith)) ∙ byte_kept row.secondary fits.secondary) i;
    spare = sym fits.spare i;
  }

  row_same : (j : ℕ) → ((k : ℕ) → k < 7 → get_or after (7 * j + k) 0 ≡ get_or numbers (7 * j + k) 0) → row_at after (7 * j) ≡ row_at numbers (7 * j)
  row_same j same = λ i. record {
    address = (ap (λ (k : ℕ). get_or after k 0) (sym (add-zero (7 * j))) ∙ same 0 (omega arith) ∙ ap (λ (k : ℕ). get_or numbers k 0) (add-zero (7 * j))) i;
    command = same 1 (omega arith) i % 256;
    tick = same 2 (omega arith) i;
    count = same 3 (omega arith) i % 256;
    place = same 4 (omega arith) i;
    primary = same 5 (omega arith) i % 256;
    secondary = same 6 (omega arith) i % 256;
    spare = 0;
  }

  row_front : (j : ℕ) → j < at → row_at after (7 * j) ≡ row_at numbers (7 * j)
  row_front j l = row_same j (λ k lk. stored_front_stays numbers (row_numbers row) (7 * at) (7 * j + k) (omega (arith, l, lk)))

  row_later : (j : ℕ) → at < j → row_at after (7 * j) ≡ row_at numbers (7 * j)
  row_later j l = row_same j (λ k lk. stored_behind_stays numbers (row_numbers row) (7 * at) (7 * j + k) (omega (arith, l, lk)))

  rows_later : (j n : ℕ) → at < j → rows_from after j n ≡ rows_from numbers j n
  unfolding rows_from
  rows_later j zero l = refl
  rows_later j (suc n) l = λ i. row_later j l i ∷ rows_later (suc j) n (omega (arith, l)) i

  rows_set : (j n : ℕ) → j ≤ at → rows_from after j n ≡ set (rows_from numbers j n) (at - j) row
  unfolding rows_from
  rows_set j zero l = refl
  rows_set j (suc n) l = by (dec_lt j at) (λ b. rows_set (suc j) n b)
    where
      by : Dec (j < at) → (suc j ≤ at → rows_from after (suc j) n ≡ set (rows_from numbers (suc j) n) (at - suc j) row)
          → row_at after (7 * j) ∷ rows_from after (suc j) n ≡ set (row_at numbers (7 * j) ∷ rows_from numbers (suc j) n) (at - j) row
      by (yes b) rest =
          let m : suc (at - suc j) ≡ at - j = omega (arith, b) in
          (λ i. row_front j b i ∷ rest (omega (arith, b)) i)
          ∙ ap (λ (k : ℕ). set (row_at numbers (7 * j) ∷ rows_from numbers (suc j) n) k row) m
      by (no b) rest =
          let e : at ≡ j = omega (arith, b, l) in
          let z : 0 ≡ at - j = omega (arith, e) in
          (λ i. (ap (λ (k : ℕ). row_at after (7 * k)) (sym e) ∙ row_here) i ∷ rows_later (suc j) n (omega (arith, e)) i)
          ∙ ap (λ (k : ℕ). set (row_at numbers (7 * j) ∷ rows_from numbers (suc j) n) k row) z

pub rows_put : (numbers : List ℕ) (at : ℕ) (row : Row) → RowFits row → rows_of (numbers_put numbers at row) ≡ set (rows_of numbers) at row
rows_put numbers at row fits = by (length numbers / 7 ≤? at) refl
  where
    by : (t : Bool) → (length numbers / 7 ≤? at) ≡ t → rows_of (numbers_put numbers at row) ≡ set (rows_of numbers) at row
    by true e =
        ap rows_of (if_is_true (length numbers / 7 ≤? at) numbers (stored numbers (7 * at) (row_numbers row)) e)
        ∙ sym (set_out (rows_of numbers) at row (let m = leb-true (length numbers / 7) at e in let n = length_rows numbers 0 (length numbers / 7) in omega (arith, m, n)))
    by false e =
        let l : at < length numbers / 7 = leb-false (length numbers / 7) at e in
        ap rows_of (if_is_false (length numbers / 7 ≤? at) numbers (stored numbers (7 * at) (row_numbers row)) e)
        ∙ ap (λ (k : ℕ). rows_from (stored numbers (7 * at) (row_numbers row)) 0 (k / 7)) (length_stored numbers (7 * at) (row_numbers row))
        ∙ rows_set numbers at row fits (omega (arith, l)) 0 (length numbers / 7) (omega arith)
        ∙ ap (λ (k : ℕ). set (rows_of numbers) k row) (let z : at - 0 ≡ at = omega arith in z)
