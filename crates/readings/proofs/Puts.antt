-- What the code that stores a frame's data gives, from its parts.
use Prim.Native.Nat.{ℕ, ◌+◌, ◌-◌, ◌*◌, ◌/◌, ◌≤◌, ◌<◌}
use native.Mathlib.Omega.{arith}
use mathlib.Core.Path.{◌≡◌, refl, sym, ap, subst, ◌∙◌}
use mathlib.Core.Bool.{Bool, true, false}
use mathlib.Core.List.{List}
use lib.ListN.{length, take, drop, set, get_or, length-set}
use lib.Seq.{get_or-take, get_or-set_same, get_or-set_other}
use borrow.Author.Tests.{eqb-true, eqb-false}
use borrow.Rule.Slice.PartMut.{put_mid}
use Rattle.base.specs.Choice.{◌=?◌}
use Rattle.base.proofs.Choices.{if_below, if_not_below, if_answer_true, if_answer_false, if_is_true, if_is_false}
use Rattle.base.proofs.Stores.{stored_part, take_length_is, Storing, storing_none, storing_more}
use Rattle.base.specs.Store.{stored}
use Rattle.base.specs.Refusal.{accepted, refused, called_as}
use Rattle.base.specs.declared.Refusal.{Refusal}
use Rattle.base.specs.declared.Refusal.TheVariants.{BufferShort, TableFull}
use Rattle.std.specs.Prelude.{Option, Some, None, Result, Ok, Err}
use Rattle.line.specs.declared.Event.{Event}
use Rattle.line.specs.declared.Event.TheVariants.{Nothing, PassedOver, Broken, Frame, Damaged}
use Rattle.line.specs.declared.Whole.{Whole}
use Rattle.readings.specs.Table.{row_bytes, is_reading, row_for, common_byte, stored_bytes}
use Rattle.readings.specs.Stores.{stored_byte, nothing_put, put_by, put_of, area_row, area_by, area_of, RowIs, PutIs, PutByIs, FrameIs, StoreIs}
use Rattle.readings.specs.declared.Row.{Row}
use Rattle.readings.specs.declared.Put.{Put}
use Rattle.readings.specs.declared.Sought.{Sought}
use Rattle.readings.specs.declared.Sought.TheVariants.{Match, Empty, Full}

-- a row that is one of so many has its data within an area of 255 bytes a row
pub row_fits : (size rows i : ℕ) → row_bytes * rows ≤ size → i < rows → row_bytes * i + row_bytes ≤ size
row_fits size rows i h l = omega arith

-- an area below 255 bytes a row, as the code tests it
pub short_is : (size rows : ℕ) → size / 255 < rows → size < row_bytes * rows
short_is size rows h = omega arith

pub not_short : (size rows : ℕ) → rows ≤ size / 255 → row_bytes * rows ≤ size
not_short size rows h = omega arith

-- byte i of what is stored
pub stored_byte_at : (bytes : List ℕ) (i : ℕ) → i < length bytes → get_or (stored_bytes bytes) i 0 ≡ stored_byte i (get_or bytes i 0)
stored_byte_at bytes i l = by (i =? 1) refl
  where
    by : (t : Bool) → (i =? 1) ≡ t → get_or (stored_bytes bytes) i 0 ≡ stored_byte i (get_or bytes i 0)
    by true e =
        let one : i ≡ 1 = eqb-true i 1 e in
        ap (λ (k : ℕ). get_or (stored_bytes bytes) k 0) one
        ∙ get_or-set_same bytes 1 (common_byte (get_or bytes 1 0)) 0 (omega (arith, one, l))
        ∙ ap (λ (k : ℕ). common_byte (get_or bytes k 0)) (sym one)
        ∙ sym (if_is_true (i =? 1) (common_byte (get_or bytes i 0)) (get_or bytes i 0) e)
    by false e =
        get_or-set_other bytes 1 i (common_byte (get_or bytes 1 0)) 0 (eqb-false i 1 e)
        ∙ sym (if_is_false (i =? 1) (common_byte (get_or bytes i 0)) (get_or bytes i 0) e)

-- ---- the loop that copies the data: so many of 255 bytes
abbrev pub Copying : List ℕ → List ℕ → ℕ → List ℕ → ℕ → Type 0
Copying to₀ bytes count to i = Storing to₀ (take count (stored_bytes bytes)) count to i

pub copying_none : (to bytes : List ℕ) (count : ℕ) → count ≤ length to → count ≤ length bytes → Copying to bytes count to 0
copying_none to bytes count h most =
    storing_none to (take count (stored_bytes bytes)) count (take_length_is count (stored_bytes bytes) (let k = length-set bytes 1 (common_byte (get_or bytes 1 0)) in omega (arith, k, most))) h

pub copying_more : (to₀ bytes : List ℕ) (count : ℕ) (to : List ℕ) (i b : ℕ) → count ≤ length bytes → Copying to₀ bytes count to i → i < length (take count bytes) → b ≡ stored_byte i (get_or (take count bytes) i 0)
    → Copying to₀ bytes count (set to i b) (i + 1)
copying_more to₀ bytes count to i b most v h e =
    let l : i < count = rw (take_length_is count bytes most) h in
    storing_more to₀ (take count (stored_bytes bytes)) count to i b v l
    (e ∙ ap (stored_byte i) (get_or-take count bytes i 0 l) ∙ sym (stored_byte_at bytes i (omega (arith, most, l))) ∙ sym (get_or-take count (stored_bytes bytes) i 0 l))

-- ---- the part of the area from the row's first byte on was lent
area_put : (area : List ℕ) (i : ℕ) (w : Whole) (bytes part : List ℕ) → part ≡ stored (take (length area - 255 * i) (drop (255 * i) area)) 0 (take w.count (stored_bytes bytes))
    → put_mid (255 * i) (length area - 255 * i) area part ≡ area_row area w bytes i
area_put area i w bytes part e = stored_part (255 * i) (length area - 255 * i) area part (take w.count (stored_bytes bytes)) e (omega arith)

pub row_put : (area part : List ℕ) (i tick : ℕ) (w : Whole) (bytes : List ℕ) (was row : Row) → row ≡ row_for i tick w (get_or bytes 1 0) was
    → part ≡ stored (take (length area - 255 * i) (drop (255 * i) area)) 0 (take w.count (stored_bytes bytes))
    → RowIs area (put_mid (255 * i) (length area - 255 * i) area part) i tick w bytes was (record { at = i; row = row })
row_put area part i tick w bytes was row e f = record { put_is = ap (λ (x : Row). record { at = i; row = x }) e; area_is = area_put area i w bytes part f }

-- ---- a place that is a row's, or none
pub put_within : (area area' : List ℕ) (rows i tick : ℕ) (w : Whole) (bytes : List ℕ) (was : Row) (r : Put) → i < rows → RowIs area area' i tick w bytes was r → PutIs area area' rows i tick w bytes was (Some r)
put_within area area' rows i tick w bytes was r l v = record { put_is = if_below i rows (Some r) _ _ l (ap (λ (x : Put). Some x) v.put_is); area_is = if_below i rows area' _ _ l v.area_is }

pub put_outside : (area : List ℕ) (rows i tick : ℕ) (w : Whole) (bytes : List ℕ) (was : Row) → rows ≤ i → PutIs area area rows i tick w bytes was None
put_outside area rows i tick w bytes was l = record { put_is = if_not_below i rows _ _ _ l refl; area_is = if_not_below i rows area _ _ l refl }

-- ---- by where the frame goes
module _ (area area' : List ℕ) (rows : ℕ) (s : Sought) (tick : ℕ) (w : Whole) (bytes : List ℕ) (r : Option Put) where
  pub put_match : (i : ℕ) (was : Row) → s ≡ Match i was → PutIs area area' rows i tick w bytes was r → PutByIs area area' rows s tick w bytes (Ok r)
  put_match i was e v = record { put_is = ap accepted v.put_is ∙ ap (put_by rows tick w bytes) (sym e); area_is = v.area_is ∙ ap (area_by rows area w bytes) (sym e) }

  pub put_empty : (i : ℕ) (was : Row) → s ≡ Empty i was → PutIs area area' rows i tick w bytes was r → PutByIs area area' rows s tick w bytes (Ok r)
  put_empty i was e v = record { put_is = ap accepted v.put_is ∙ ap (put_by rows tick w bytes) (sym e); area_is = v.area_is ∙ ap (area_by rows area w bytes) (sym e) }

pub put_full : (area : List ℕ) (rows : ℕ) (s : Sought) (tick : ℕ) (w : Whole) (bytes : List ℕ) → s ≡ Full → PutByIs area area rows s tick w bytes (Err TableFull)
put_full area rows s tick w bytes e = record { put_is = ap (put_by rows tick w bytes) (sym e); area_is = ap (area_by rows area w bytes) (sym e) }

-- ---- a reading, or none
pub frame_put : (area area' : List ℕ) (rows : ℕ) (s : Sought) (tick : ℕ) (w : Whole) (bytes : List ℕ) (r : Result (Option Put) Refusal) (t : Bool) → t ≡ is_reading w bytes → t ≡ true
    → PutByIs area area' rows s tick w bytes r → FrameIs area area' rows s tick w bytes r
frame_put area area' rows s tick w bytes r t q e v = record {
  put_is = if_answer_true t (is_reading w bytes) (called_as r) _ _ q e v.put_is;
  area_is = if_answer_true t (is_reading w bytes) area' _ _ q e v.area_is;
}

pub frame_not : (area : List ℕ) (rows : ℕ) (s : Sought) (tick : ℕ) (w : Whole) (bytes : List ℕ) (t : Bool) → t ≡ is_reading w bytes → t ≡ false → FrameIs area area rows s tick w bytes (Ok None)
frame_not area rows s tick w bytes t q e = record {
  put_is = if_answer_false t (is_reading w bytes) nothing_put _ _ q e refl;
  area_is = if_answer_false t (is_reading w bytes) area _ _ q e refl;
}

-- ---- by what a tick tells
module _ (area : List ℕ) (rows : ℕ) (s : Sought) (tick : ℕ) (event : Event) (bytes : List ℕ) where
  pub store_short : length area / 255 < rows → StoreIs area area rows s tick event bytes (Err BufferShort)
  store_short h = record {
    put_is = if_below (length area) (row_bytes * rows) (refused 15) (refused 15) _ (short_is (length area) rows h) refl;
    area_is = if_below (length area) (row_bytes * rows) area area _ (short_is (length area) rows h) refl;
  }

  told_none : rows ≤ length area / 255 → nothing_put ≡ put_of rows s tick event bytes → area ≡ area_of rows s area event bytes → StoreIs area area rows s tick event bytes (Ok None)
  told_none h p q = record {
    put_is = if_not_below (length area) (row_bytes * rows) nothing_put _ _ (not_short (length area) rows h) p;
    area_is = if_not_below (length area) (row_bytes * rows) area _ _ (not_short (length area) rows h) q;
  }

pub store_none : (area : List ℕ) (rows : ℕ) (s : Sought) (tick : ℕ) (event : Event) (bytes : List ℕ) → rows ≤ length area / 255 → ((w : Whole) → event ≡ Frame w → ⊥) → StoreIs area area rows s tick event bytes (Ok None)
store_none area rows s tick Nothing bytes h n = told_none area rows s tick Nothing bytes h refl refl
store_none area rows s tick PassedOver bytes h n = told_none area rows s tick PassedOver bytes h refl refl
store_none area rows s tick Broken bytes h n = told_none area rows s tick Broken bytes h refl refl
store_none area rows s tick (Frame w) bytes h n = absurd (n w refl)
store_none area rows s tick (Damaged w m) bytes h n = told_none area rows s tick (Damaged w m) bytes h refl refl

pub store_frame : (area area' : List ℕ) (rows : ℕ) (s : Sought) (tick : ℕ) (event : Event) (bytes : List ℕ) (r : Result (Option Put) Refusal) (w : Whole) → rows ≤ length area / 255 → event ≡ Frame w
    → FrameIs area area' rows s tick w bytes r → StoreIs area area' rows s tick event bytes r
store_frame area area' rows s tick event bytes r w h e v = record {
  put_is = if_not_below (length area) (row_bytes * rows) (called_as r) _ _ (not_short (length area) rows h) (v.put_is ∙ ap (λ (x : Event). put_of rows s tick x bytes) (sym e));
  area_is = if_not_below (length area) (row_bytes * rows) area' _ _ (not_short (length area) rows h) (v.area_is ∙ ap (λ (x : Event). area_of rows s area x bytes) (sym e));
}

pub ruleset puts = (refl, row_fits, put_within, put_outside, put_match, put_empty, put_full, frame_put, frame_not, not_short)

pub ruleset stores = (refl, store_short, store_none, store_frame, not_short)
