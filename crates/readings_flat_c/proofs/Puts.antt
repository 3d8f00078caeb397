-- What is put into flat numbers, from its parts.
use Prim.Native.Nat.{ℕ, ◌-◌, ◌*◌, ◌/◌, ◌≤◌, ◌<◌, ◌^◌}
use native.Mathlib.Omega.{arith}
use mathlib.Core.Path.{◌≡◌, refl, sym, ap, subst, ◌∙◌}
use mathlib.Core.Bool.{Bool, true, false}
use mathlib.Core.List.{List}
use lib.ListN.{length, take, drop}
use borrow.Rule.Slice.PartMut.{put_mid}
use Rattle.base.specs.Choice.{when◌then◌else◌, ◌<?◌}
use Rattle.base.specs.Store.{stored}
use Rattle.base.proofs.Choices.{if_at_most, if_above}
use Rattle.base.proofs.Stores.{stored_part}
use Rattle.std.specs.Prelude.{Option, Some, None, Result, Ok, Err}
use Rattle.base.specs.Refusal.{number, Called, accepted, refused, called_as}
use Rattle.base.specs.declared.Refusal.{Refusal}
use Rattle.line.specs.declared.Event.{Event}
use Rattle.line.specs.declared.Event.TheVariants.{Nothing, PassedOver, Broken, Frame, Damaged}
use Rattle.line.specs.declared.Whole.{Whole}
use Rattle.readings.specs.Table.{row_bytes, is_reading, sought}
use Rattle.readings.specs.Search.{told_key, rows_of, row_numbers}
use Rattle.readings.specs.Stores.{nothing_put, row_put, put_by, put_frame, put_of, put_for, StoreIs}
use Rattle.readings.specs.declared.Key.{Key}
use Rattle.readings.specs.declared.Put.{Put}
use Rattle.readings.specs.declared.Row.{Row}
use Rattle.readings.specs.declared.Sought.{Sought}
use Rattle.readings.specs.declared.Sought.TheVariants.{Match, Empty, Full}
use Rattle.readings.proofs.Searches.{length_rows}
use Rattle.readings.proofs.Enters.{put_entered, none_entered, refused_entered}
use Rattle.readings.proofs.Flats.{RowFits, rows_put}
use Rattle.readings_flat_c.specs.Flat.{flat_put, numbers_after, RowIsPut, FlatIs}

-- nothing is put
pub put_none : (numbers : List ℕ) (at : ℕ) (row : Row) → length numbers / 7 ≤ at → row.command < 2 ^ 8 → row.count < 2 ^ 8 → row.primary < 2 ^ 8 → row.secondary < 2 ^ 8 → RowIsPut numbers numbers at row
put_none numbers at row l c n p q = record { numbers_are = if_at_most (length numbers / 7) at numbers numbers _ l refl; command = c; count = n; primary = p; secondary = q }

-- a row's numbers were put at the front of a part that was lent
pub put_part : (numbers : List ℕ) (at : ℕ) (row : Row) (own part : List ℕ) → at < length numbers / 7 → own ≡ row_numbers row
    → part ≡ stored (take (length numbers - 7 * at) (drop (7 * at) numbers)) 0 own → row.command < 2 ^ 8 → row.count < 2 ^ 8 → row.primary < 2 ^ 8 → row.secondary < 2 ^ 8
    → RowIsPut numbers (put_mid (7 * at) (length numbers - 7 * at) numbers part) at row
put_part numbers at row own part l e f c n p q = record {
  numbers_are =
      if_above (length numbers / 7) at (put_mid (7 * at) (length numbers - 7 * at) numbers part) numbers (stored numbers (7 * at) (row_numbers row)) l
      (stored_part (7 * at) (length numbers - 7 * at) numbers part (row_numbers row) (f ∙ ap (stored (take (length numbers - 7 * at) (drop (7 * at) numbers)) 0) e) (omega arith));
  command = c;
  count = n;
  primary = p;
  secondary = q;
}

pub ruleset parts = (refl, put_none, put_part)

-- ---- a row that is put has 0 in its last field
abbrev Blank : Called (Option Put) → Type 0
Blank (accepted (Some p)) = p.row.spare ≡ 0
Blank (accepted None) = Unit {0}
Blank (refused n) = Unit {0}

if_blank : (t : Bool) (p q : Called (Option Put)) → Blank p → Blank q → Blank (when t then p else q)
unfolding when◌then◌else◌
if_blank true p q b c = b
if_blank false p q b c = c

at_blank : (t : Bool) (p : Put) → p.row.spare ≡ 0 → Blank (accepted (when t then Some p else None))
unfolding when◌then◌else◌
at_blank true p b = b
at_blank false p b = tt

put_blank : (rows : ℕ) (s : Sought) (tick : ℕ) (w : Whole) (bytes : List ℕ) → Blank (put_frame rows s tick w bytes)
put_blank rows s tick w bytes = if_blank (is_reading w bytes) (put_by rows tick w bytes s) nothing_put (by s) tt
  where
    by : (s : Sought) → Blank (put_by rows tick w bytes s)
    by (Match i was) = at_blank (i <? rows) (row_put i tick w bytes was) refl
    by (Empty i was) = at_blank (i <? rows) (row_put i tick w bytes was) refl
    by Full = tt

all_blank : (size rows : ℕ) (s : Sought) (tick : ℕ) (event : Event) (bytes : List ℕ) → Blank (put_for size rows s tick event bytes)
all_blank size rows s tick event bytes = if_blank (size <? row_bytes * rows) (refused 15) (put_of rows s tick event bytes) tt (by event)
  where
    by : (event : Event) → Blank (put_of rows s tick event bytes)
    by Nothing = tt
    by PassedOver = tt
    by Broken = tt
    by (Frame w) = put_blank rows s tick w bytes
    by (Damaged w m) = tt

-- ---- all of it, by what the store gave
module _ (numbers area area' : List ℕ) (tick : ℕ) (event : Event) (bytes : List ℕ) (key : Key) (s : Sought) (r : Result (Option Put) Refusal)
    (f : key ≡ told_key event) (g : s ≡ sought (rows_of numbers) key) (v : StoreIs area area' (length numbers / 7) s tick event bytes r) where
  found : s ≡ sought (rows_of numbers) (told_key event)
  found = g ∙ ap (sought (rows_of numbers)) f

  stores : StoreIs area area' (length (rows_of numbers)) s tick event bytes r
  stores = subst (λ (n : ℕ). StoreIs area area' n s tick event bytes r) (sym (length_rows numbers 0 (length numbers / 7))) v

  same : called_as r ≡ flat_put numbers area tick event bytes
  same = v.put_is ∙ ap (λ (x : Sought). put_for (length area) (length numbers / 7) x tick event bytes) found

  pub flat_row : (numbers' : List ℕ) (p : Put) → r ≡ Ok (Some p) → RowIsPut numbers numbers' p.at p.row → FlatIs numbers numbers' area area' tick event bytes 0
  flat_row numbers' p e w = record {
    enters = put_entered (rows_of numbers) area tick bytes event s r p (rows_of numbers') area' found stores e (ap rows_of w.numbers_are ∙ rows_put numbers p.at p.row fits);
    numbers_are = w.numbers_are ∙ ap (numbers_after numbers) (sym (ap called_as e) ∙ same);
  }
    where
      blank : Blank (accepted (Some p))
      blank = subst Blank (sym v.put_is ∙ ap called_as e) (all_blank (length area) (length numbers / 7) s tick event bytes)

      fits : RowFits p.row
      fits = record { command = w.command; count = w.count; primary = w.primary; secondary = w.secondary; spare = blank }

  pub flat_none : r ≡ Ok None → FlatIs numbers numbers area area' tick event bytes 0
  flat_none e = record { enters = none_entered (rows_of numbers) area tick bytes event s r area' found stores e; numbers_are = ap (numbers_after numbers) (sym (ap called_as e) ∙ same) }

  pub flat_refused : (why : Refusal) (n : ℕ) → r ≡ Err why → n ≡ number why → FlatIs numbers numbers area area' tick event bytes n
  flat_refused why n e k = record { enters = refused_entered (rows_of numbers) area tick bytes event s r why area' n found stores e k; numbers_are = ap (numbers_after numbers) (sym (ap called_as e) ∙ same) }
