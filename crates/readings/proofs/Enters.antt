-- What a tick tells is entered where a reading's data were stored and its row was then put.
use Prim.Native.Nat.{ℕ, ◌*◌, ◌<◌}
use mathlib.Core.Path.{◌≡◌, refl, sym, ap, subst, ◌∙◌}
use mathlib.Core.Bool.{Bool, true, false}
use mathlib.Core.List.{List}
use lib.ListN.{length, get_or, set}
use borrow.Author.Tests.{lt-ltb, ltb-true}
use Rattle.base.specs.Choice.{when◌then◌else◌, ◌<?◌}
use Rattle.std.specs.Prelude.{Option, Some, None, Result, Ok, Err}
use Rattle.base.specs.Refusal.{number, Called, accepted, refused, called_as}
use Rattle.base.specs.declared.Refusal.{Refusal}
use Rattle.line.specs.declared.Event.{Event}
use Rattle.line.specs.declared.Event.TheVariants.{Nothing, PassedOver, Broken, Frame, Damaged}
use Rattle.line.specs.declared.Whole.{Whole}
use Rattle.readings.specs.Table.{row_bytes, is_reading, key_of, has_key, is_empty, first_of, row_of, sought, row_for, Entered, unchanged, superseded, entered_by, entered_of, entered}
use Rattle.readings.specs.Search.{told_key}
use Rattle.readings.specs.Stores.{nothing_put, row_put, put_at, put_by, put_of, put_for, area_row, area_at, area_by, area_of, area_for, StoreIs, EnterIs}
use Rattle.readings.specs.declared.Key.{Key}
use Rattle.readings.specs.declared.Row.{Row}
use Rattle.readings.specs.declared.Put.{Put}
use Rattle.readings.specs.declared.Sought.{Sought}
use Rattle.readings.specs.declared.Sought.TheVariants.{Match, Empty, Full}

-- a place that was found is a row's, and comes with what that row holds
abbrev Carries : List Row → Sought → Type 0
Carries rows (Match i was) = (i < length rows) × (was ≡ row_of rows i)
Carries rows (Empty i was) = (i < length rows) × (was ≡ row_of rows i)
Carries rows Full = Unit {0}

sought_carries : (rows : List Row) (key : Key) → Carries rows (sought rows key)
unfolding sought when◌then◌else◌
sought_carries rows key = by (first_of (has_key key) rows <? length rows) (first_of is_empty rows <? length rows) refl refl
  where
    by : (t u : Bool) → (first_of (has_key key) rows <? length rows) ≡ t → (first_of is_empty rows <? length rows) ≡ u
        → Carries rows (when t then Match (first_of (has_key key) rows) (row_of rows (first_of (has_key key) rows)) else when u then Empty (first_of is_empty rows) (row_of rows (first_of is_empty rows)) else Full)
    by true u e f = (ltb-true (first_of (has_key key) rows) (length rows) e, refl)
    by false true e f = (ltb-true (first_of is_empty rows) (length rows) f, refl)
    by false false e f = tt

module _ (rows : List Row) (area : List ℕ) (tick : ℕ) (bytes : List ℕ) where
  abbrev n : ℕ
  n = length rows

  -- the table with what is put, and the area
  abbrev made : Called (Option Put) → List ℕ → Entered
  made (accepted (Some p)) area' = record { rows = set rows p.at p.row; area = area'; refusal = 0 }
  made (accepted None) area' = unchanged rows area' 0
  made (refused n) area' = unchanged rows area' n

  chosen : (t : Bool) (w : Whole) (i : ℕ) (was : Row) → t ≡ true → was ≡ row_of rows i
      → made (accepted (when t then Some (row_put i tick w bytes was) else None)) (when t then area_row area w bytes i else area) ≡ superseded rows area tick w bytes i
  unfolding when◌then◌else◌
  chosen t w i was e c = rw e (λ j. record { rows = set rows i (row_for i tick w (get_or bytes 1 0) (c j)); area = area_row area w bytes i; refusal = 0 })

  at_row : (w : Whole) (i : ℕ) (was : Row) → i < n → was ≡ row_of rows i → made (accepted (put_at n tick w bytes i was)) (area_at n area w bytes i) ≡ superseded rows area tick w bytes i
  at_row w i was l c = chosen (i <? n) w i was (lt-ltb i n l) c

  by_place : (w : Whole) (s : Sought) → Carries rows s → made (put_by n tick w bytes s) (area_by n area w bytes s) ≡ entered_by rows area tick w bytes s
  by_place w (Match i was) c = at_row w i was c.0 c.1
  by_place w (Empty i was) c = at_row w i was c.0 c.1
  by_place w Full c = refl

  by_reading : (t : Bool) (w : Whole) (s : Sought) → Carries rows s
      → made (when t then put_by n tick w bytes s else nothing_put) (when t then area_by n area w bytes s else area)
      ≡ (when t then entered_by rows area tick w bytes s else unchanged rows area 0)
  unfolding when◌then◌else◌
  by_reading true w s v = by_place w s v
  by_reading false w s v = refl

  by_event : (event : Event) (s : Sought) → s ≡ sought rows (told_key event) → made (put_of n s tick event bytes) (area_of n s area event bytes) ≡ entered_of rows area tick event bytes
  by_event Nothing s e = refl
  by_event PassedOver s e = refl
  by_event Broken s e = refl
  by_event (Frame w) s e =
      by_reading (is_reading w bytes) w s (subst (Carries rows) (sym e) (sought_carries rows (key_of w)))
      ∙ ap (λ (k : Sought). when is_reading w bytes then entered_by rows area tick w bytes k else unchanged rows area 0) e
  by_event (Damaged w m) s e = refl

  by_room : (t : Bool) (event : Event) (s : Sought) → s ≡ sought rows (told_key event)
      → made (when t then refused 15 else put_of n s tick event bytes) (when t then area else area_of n s area event bytes)
      ≡ (when t then unchanged rows area 15 else entered_of rows area tick event bytes)
  unfolding when◌then◌else◌
  by_room true event s e = refl
  by_room false event s e = by_event event s e

  all_made : (event : Event) (s : Sought) → s ≡ sought rows (told_key event) → made (put_for (length area) n s tick event bytes) (area_for n s area event bytes) ≡ entered rows area tick event bytes
  unfolding entered
  all_made event s e = by_room (length area <? row_bytes * n) event s e

  is_entered : (event : Event) (s : Sought) (r : Result (Option Put) Refusal) (rows' : List Row) (area' : List ℕ) (n' : ℕ) → s ≡ sought rows (told_key event) → StoreIs area area' n s tick event bytes r
      → record { rows = rows'; area = area'; refusal = n' } ≡ made (called_as r) area' → EnterIs rows rows' area area' tick event bytes n'
  is_entered event s r rows' area' n' e v f = record { rows_are = ap (λ (x : Entered). x.rows) all; area_is = ap (λ (x : Entered). x.area) all; returns = ap (λ (x : Entered). x.refusal) all }
    where
      all : record { rows = rows'; area = area'; refusal = n' } ≡ entered rows area tick event bytes
      all = f ∙ (λ i. made (v.put_is i) (v.area_is i)) ∙ all_made event s e

  -- by what the store gave
  pub put_entered : (event : Event) (s : Sought) (r : Result (Option Put) Refusal) (p : Put) (rows' : List Row) (area' : List ℕ) → s ≡ sought rows (told_key event) → StoreIs area area' n s tick event bytes r
      → r ≡ Ok (Some p) → rows' ≡ set rows p.at p.row → EnterIs rows rows' area area' tick event bytes 0
  put_entered event s r p rows' area' e v o f = is_entered event s r rows' area' 0 e v ((λ i. record { rows = f i; area = area'; refusal = 0 }) ∙ ap (λ (x : Result (Option Put) Refusal). made (called_as x) area') (sym o))

  pub none_entered : (event : Event) (s : Sought) (r : Result (Option Put) Refusal) (area' : List ℕ) → s ≡ sought rows (told_key event) → StoreIs area area' n s tick event bytes r → r ≡ Ok None → EnterIs rows rows area area' tick event bytes 0
  none_entered event s r area' e v o = is_entered event s r rows area' 0 e v (ap (λ (x : Result (Option Put) Refusal). made (called_as x) area') (sym o))

  pub refused_entered : (event : Event) (s : Sought) (r : Result (Option Put) Refusal) (why : Refusal) (area' : List ℕ) (n' : ℕ) → s ≡ sought rows (told_key event) → StoreIs area area' n s tick event bytes r
      → r ≡ Err why → n' ≡ number why → EnterIs rows rows area area' tick event bytes n'
  refused_entered event s r why area' n' e v o f = is_entered event s r rows area' n' e v ((λ i. record { rows = rows; area = area'; refusal = f i }) ∙ ap (λ (x : Result (Option Put) Refusal). made (called_as x) area') (sym o))
