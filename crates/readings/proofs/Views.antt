-- Where a frame goes, and what entering leaves, by facts on the rows: no later proof opens the search.
use Prim.Native.Nat.{ℕ, zero, suc, ◌*◌, ◌≤◌, ◌<◌}
use native.Mathlib.Omega.{arith}
use mathlib.Core.Path.{◌≡◌, refl, sym, ap, ◌∙◌}
use mathlib.Core.Bool.{Bool, true, false}
use mathlib.Core.List.{List, [], ◌∷◌}
use lib.ListN.{length, get_or}
use borrow.Author.Tests.{ltb-true, ltb-false}
use Rattle.base.specs.Choice.{when◌then◌else◌, ◌<?◌}
use Rattle.base.proofs.Choices.{true_false, if_is_true, if_is_false}
use Rattle.line.specs.declared.Event.{Event}
use Rattle.line.specs.declared.Event.TheVariants.{Nothing, PassedOver, Broken, Frame, Damaged}
use Rattle.line.specs.declared.Whole.{Whole}
use Rattle.readings.specs.Table.{row_bytes, is_reading, key_of, has_key, is_empty, first_of, row_of, sought, empty_row, Entered, unchanged, superseded, entered_by, entered}
use Rattle.readings.specs.History.{NoRow, SoughtIs, is_match, is_first_empty, is_full, Reading, is_place, is_entered}
use Rattle.readings.specs.declared.Key.{Key}
use Rattle.readings.specs.declared.Row.{Row}
use Rattle.readings.specs.declared.Sought.TheVariants.{Match, Empty, Full}
use Rattle.readings.proofs.Searches.{first_here, first_later, first_most}

-- ---- the first row of which a test holds
pub first_holds : (test : Row → Bool) (rows : List Row) → first_of test rows < length rows → test (get_or rows (first_of test rows) empty_row) ≡ true
first_holds test [] l = absurd (omega arith)
first_holds test (row ∷ rows) l = by (test row) refl (λ h. first_holds test rows h)
  where
    by : (t : Bool) → test row ≡ t → (first_of test rows < length rows → test (get_or rows (first_of test rows) empty_row) ≡ true) → test (get_or (row ∷ rows) (first_of test (row ∷ rows)) empty_row) ≡ true
    by true e later = ap (λ (k : ℕ). test (get_or (row ∷ rows) k empty_row)) (first_here test row rows e) ∙ e
    by false e later =
        ap (λ (k : ℕ). test (get_or (row ∷ rows) k empty_row)) (first_later test row rows e)
        ∙ later (let k = first_later test row rows e in omega (arith, k, l))

pub first_before : (test : Row → Bool) (rows : List Row) (j : ℕ) → j < first_of test rows → test (get_or rows j empty_row) ≡ false
first_before test [] j l = absurd (let k = first_most test [] in omega (arith, k, l))
first_before test (row ∷ rows) zero l = by (test row) refl
  where
    by : (t : Bool) → test row ≡ t → test row ≡ false
    by true e = absurd (let k = first_here test row rows e in omega (arith, k, l))
    by false e = e
first_before test (row ∷ rows) (suc j) l = by (test row) refl (λ h. first_before test rows j h)
  where
    by : (t : Bool) → test row ≡ t → (j < first_of test rows → test (get_or rows j empty_row) ≡ false) → test (get_or rows j empty_row) ≡ false
    by true e later = absurd (let k = first_here test row rows e in omega (arith, k, l))
    by false e later = later (let k = first_later test row rows e in omega (arith, k, l))

-- ---- a frame is no other event
abbrev pub is_frame : Event → Bool
is_frame Nothing = false
is_frame PassedOver = false
is_frame Broken = false
is_frame (Frame w) = true
is_frame (Damaged w m) = false

pub not_frame : (e : Event) (w : Whole) → is_frame e ≡ false → e ≡ Frame w → ⊥
not_frame e w f p = true_false (sym (ap is_frame p) ∙ f)

-- ---- which row is sought
pub first_match : (rows : List Row) (key : Key) → SoughtIs rows key (sought rows key)
unfolding sought when◌then◌else◌
first_match rows key = by (first_of (has_key key) rows <? length rows) (first_of is_empty rows <? length rows) refl refl
  where
    no_row : (test : Row → Bool) → (first_of test rows <? length rows) ≡ false → NoRow test rows
    no_row test e j l = first_before test rows j (let k = ltb-false (first_of test rows) (length rows) e in omega (arith, k, l))

    by : (t u : Bool) → (first_of (has_key key) rows <? length rows) ≡ t → (first_of is_empty rows <? length rows) ≡ u
        → SoughtIs rows key (when t then Match (first_of (has_key key) rows) (row_of rows (first_of (has_key key) rows)) else when u then Empty (first_of is_empty rows) (row_of rows (first_of is_empty rows)) else Full)
    by true u e f =
        let l = ltb-true (first_of (has_key key) rows) (length rows) e in
        is_match (first_of (has_key key) rows) refl l (first_holds (has_key key) rows l) (λ j k. first_before (has_key key) rows j k)
    by false true e f =
        let l = ltb-true (first_of is_empty rows) (length rows) f in
        is_first_empty (first_of is_empty rows) refl l (first_holds is_empty rows l) (λ j k. first_before is_empty rows j k) (no_row (has_key key) e)
    by false false e f = is_full refl (no_row (has_key key) e) (no_row is_empty f)

-- ---- what entering leaves
-- row i is the frame's: the first of its key, or the first empty one where no row has its key
pub data Goes (rows : List Row) (key : Key) (i : ℕ) : Type 0 where
  to_match : has_key key (row_of rows i) ≡ true → ((j : ℕ) → j < i → has_key key (row_of rows j) ≡ false) → Goes rows key i
  to_empty : is_empty (row_of rows i) ≡ true → ((j : ℕ) → j < i → is_empty (row_of rows j) ≡ false) → NoRow (has_key key) rows → Goes rows key i

pub data EnteredView (rows : List Row) (area : List ℕ) (r : Reading) (e : Entered) (was : Bool) : Type 0 where
  stays : (n : ℕ) → e ≡ unchanged rows area n → was ≡ false → EnteredView rows area r e was
  goes : (i : ℕ) → e ≡ superseded rows area r.tick r.frame r.bytes i → was ≡ true → i < length rows → row_bytes * length rows ≤ length area
      → is_reading r.frame r.bytes ≡ true → Goes rows (key_of r.frame) i → EnteredView rows area r e was

pub entered_view : (rows : List Row) (area : List ℕ) (r : Reading)
    → EnteredView rows area r (entered rows area r.tick (Frame r.frame) r.bytes) (is_entered rows area r.frame r.bytes)
unfolding entered when◌then◌else◌
entered_view rows area r = by (length area <? row_bytes * length rows) (is_reading r.frame r.bytes) refl refl (first_match rows (key_of r.frame))
  where
    by : (t u : Bool) → (length area <? row_bytes * length rows) ≡ t → is_reading r.frame r.bytes ≡ u → SoughtIs rows (key_of r.frame) (sought rows (key_of r.frame))
        → EnteredView rows area r
        (when t then unchanged rows area 15 else when u then entered_by rows area r.tick r.frame r.bytes (sought rows (key_of r.frame)) else unchanged rows area 0)
        (when t then false else when u then is_place (sought rows (key_of r.frame)) else false)
    by true u e f v = EnteredView.stays 15 refl refl
    by false false e f v = EnteredView.stays 0 refl refl
    by false true e f (is_match i s l k first) =
        EnteredView.goes i (ap (entered_by rows area r.tick r.frame r.bytes) s) (ap is_place s) l (ltb-false (length area) (row_bytes * length rows) e) f (Goes.to_match k first)
    by false true e f (is_first_empty i s l k first no_key) =
        EnteredView.goes i (ap (entered_by rows area r.tick r.frame r.bytes) s) (ap is_place s) l (ltb-false (length area) (row_bytes * length rows) e) f (Goes.to_empty k first no_key)
    by false true e f (is_full s no_key filled) = EnteredView.stays 20 (ap (entered_by rows area r.tick r.frame r.bytes) s) (ap is_place s)

-- what is no frame leaves the table as it was
abbrev pub NoFrame : Event → Type 0
NoFrame event = (w : Whole) → event ≡ Frame w → ⊥

pub no_frame_stays : (rows : List Row) (area : List ℕ) (tick : ℕ) (event : Event) (bytes : List ℕ) → NoFrame event
    → entered rows area tick event bytes ≡ (when length area <? row_bytes * length rows then unchanged rows area 15 else unchanged rows area 0)
unfolding entered
no_frame_stays rows area tick Nothing bytes f = refl
no_frame_stays rows area tick PassedOver bytes f = refl
no_frame_stays rows area tick Broken bytes f = refl
no_frame_stays rows area tick (Frame w) bytes f = absurd (f w refl)
no_frame_stays rows area tick (Damaged w m) bytes f = refl

-- of what a tick tells: a frame, or none
pub data Tells (rows : List Row) (area : List ℕ) (tick : ℕ) (event : Event) (bytes : List ℕ) : Type 0 where
  a_frame : (w : Whole) → event ≡ Frame w → Tells rows area tick event bytes
  no_frame : NoFrame event → (n : ℕ) → entered rows area tick event bytes ≡ unchanged rows area n → Tells rows area tick event bytes

pub tells_view : (rows : List Row) (area : List ℕ) (tick : ℕ) (event : Event) (bytes : List ℕ) → Tells rows area tick event bytes
tells_view rows area tick event bytes = by event refl
  where
    chosen : (t : Bool) → (n : ℕ) × ((when t then unchanged rows area 15 else unchanged rows area 0) ≡ unchanged rows area n)
    chosen true = (15, if_is_true true _ _ refl)
    chosen false = (0, if_is_false false _ _ refl)

    none : NoFrame event → Tells rows area tick event bytes
    none f = let c = chosen (length area <? row_bytes * length rows) in no_frame f c.0 (no_frame_stays rows area tick event bytes f ∙ c.1)

    by : (e : Event) → event ≡ e → Tells rows area tick event bytes
    by Nothing q = none (λ w p. not_frame Nothing w refl (sym q ∙ p))
    by PassedOver q = none (λ w p. not_frame PassedOver w refl (sym q ∙ p))
    by Broken q = none (λ w p. not_frame Broken w refl (sym q ∙ p))
    by (Frame w) q = a_frame w q
    by (Damaged w m) q = none (λ v p. not_frame (Damaged w m) v refl (sym q ∙ p))
