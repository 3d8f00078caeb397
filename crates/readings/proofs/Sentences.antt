-- Item 7's sentences on one operation, for any table: what stays, when it is 15 or 20, and that the newest frame of its key entered again changes nothing.
use Prim.Native.Nat.{ℕ, zero, suc, ◌+◌, ◌*◌, ◌≤◌, ◌<◌}
use native.Mathlib.Nat.{add-zero, add-suc, suc-add}
use native.Mathlib.Omega.{arith}
use native.Mathlib.Decide.{dec_lt}
use mathlib.Core.Path.{◌≡◌, refl, sym, ap, subst, ◌∙◌}
use mathlib.Core.Bool.{Bool, true, false}
use mathlib.Core.List.{List, [], ◌∷◌}
use mathlib.Core.Option.{Option, none, some}
use lib.ListN.{length, get_or, set, length-set}
use lib.Seq.{get_or-set_other}
use borrow.Author.Tests.{ltb-true, ltb-false, le-ltb, eqb-true, ne_eqb}
use Rattle.base.specs.Choice.{when◌then◌else◌, ◌<?◌, ◌=?◌}
use Rattle.base.specs.Store.{stored}
use Rattle.base.proofs.Choices.{true_false, if_is_true, if_is_false}
use Rattle.base.proofs.Stores.{length_stored}
use Rattle.line.specs.declared.Event.{Event}
use Rattle.line.specs.declared.Event.TheVariants.{Nothing, PassedOver, Broken, Frame, Damaged}
use Rattle.line.specs.declared.Whole.{Whole}
use Rattle.readings.specs.Table.{row_bytes, is_reading, key_of, has_key, is_empty, first_of, row_of, sought, looked_up, empty_row, own_bits, kept_bits, stored_bytes, stored_data, new_row, Entered, unchanged, superseded, entered_by, entered}
use Rattle.readings.specs.History.{key_in, SoughtIs, is_match, is_first_empty, is_full, OneRow, IsFull, Refuses, Reading, Op, told, clears, is_entered, Kept, after_op, after_all, fresh, OpFits, OpsFit, FromCleared, is_of, newest_of, RowHolds, Newest, Found, OtherKey, OtherKeys, entered_then, Again}
use Rattle.readings.specs.declared.Key.{Key}
use Rattle.readings.specs.declared.Row.{Row}
use Rattle.readings.specs.declared.Sought.{Sought}
use Rattle.readings.specs.declared.Sought.TheVariants.{Match}
use Rattle.readings.proofs.Bytes.{stored_front_stays, stored_behind_stays, length_take_most}
use Rattle.readings.proofs.Searches.{first_most}
use Rattle.readings.proofs.Views.{first_holds, first_before, first_match, not_frame, Goes, EnteredView, entered_view, Tells, a_frame, no_frame, tells_view}
use Rattle.readings.proofs.Newest.{same?, key_is, is_key, same_key, reading_address, here, there, key_new, bytes_stay, bytes_new, no_frame_kept, newest}

-- ---- "Every other row and data bytes past the new count stay."
abbrev reading_of : ℕ → Whole → List ℕ → Reading
reading_of tick w bytes = record { tick = tick; frame = w; bytes = bytes }

all_stay : (rows : List Row) (area : List ℕ) (n : ℕ) → OneRow rows area (unchanged rows area n)
all_stay rows area n = record { row = 0; others_stay = λ j ne. refl; before_stay = λ k l. refl; past_stay = λ k l. refl; same_rows = refl; same_area = refl }

one_of : (rows : List Row) (area : List ℕ) (r : Reading) → OneRow rows area (entered rows area r.tick (Frame r.frame) r.bytes)
one_of rows area r = by (entered rows area r.tick (Frame r.frame) r.bytes) (is_entered rows area r.frame r.bytes) (entered_view rows area r)
  where
    by : (e : Entered) (was : Bool) → EnteredView rows area r e was → OneRow rows area e
    by e was (EnteredView.stays n q f) = subst (OneRow rows area) (sym q) (all_stay rows area n)
    by e was (EnteredView.goes i q f l room reads to) =
        subst (OneRow rows area) (sym q) (record {
          row = i;
          others_stay = λ j ne. get_or-set_other rows i j (new_row rows i r.tick r.frame r.bytes) empty_row ne;
          before_stay = λ k h. stored_front_stays area (stored_data r.frame r.bytes) (row_bytes * i) k h;
          past_stay = λ k h. stored_behind_stays area (stored_data r.frame r.bytes) (row_bytes * i) k (past k h);
          same_rows = length-set rows i (new_row rows i r.tick r.frame r.bytes);
          same_area = length_stored area (row_bytes * i) (stored_data r.frame r.bytes);
        })
      where
        past : (k : ℕ) → row_bytes * i + (row_of (set rows i (new_row rows i r.tick r.frame r.bytes)) i).count ≤ k → row_bytes * i + length (stored_data r.frame r.bytes) ≤ k
        past k h =
            let m = length_take_most r.frame.count (stored_bytes r.bytes) in
            let c : (row_of (set rows i (new_row rows i r.tick r.frame r.bytes)) i).count ≡ r.frame.count = ap (λ (x : Row). x.count) (here rows area r i l reads) in
            omega (arith, m, h, c)

pub one_row : (rows : List Row) (area : List ℕ) (tick : ℕ) (event : Event) (bytes : List ℕ) → OneRow rows area (entered rows area tick event bytes)
one_row rows area tick event bytes = by (tells_view rows area tick event bytes)
  where
    by : Tells rows area tick event bytes → OneRow rows area (entered rows area tick event bytes)
    by (a_frame w e) = subst (λ (x : Event). OneRow rows area (entered rows area tick x bytes)) (sym e) (one_of rows area (reading_of tick w bytes))
    by (no_frame nf n e) = subst (OneRow rows area) (sym e) (all_stay rows area n)

-- ---- the refusals
data Answers (rows : List Row) (area : List ℕ) (event : Event) (bytes : List ℕ) (e : Entered) : Type 0 where
  answers_short : length area < row_bytes * length rows → e ≡ unchanged rows area 15 → Answers rows area event bytes e
  answers_full : row_bytes * length rows ≤ length area → (w : Whole) → event ≡ Frame w → is_reading w bytes ≡ true → IsFull rows w → e ≡ unchanged rows area 20 → Answers rows area event bytes e
  answers_none : row_bytes * length rows ≤ length area → e.refusal ≡ 0 → ((w : Whole) → event ≡ Frame w → is_reading w bytes ≡ true → IsFull rows w → ⊥) → Answers rows area event bytes e

refuses_by : (rows : List Row) (area : List ℕ) (event : Event) (bytes : List ℕ) (e : Entered) → Answers rows area event bytes e → Refuses rows area event bytes e
refuses_by rows area event bytes e (answers_short l q) =
    let n : e.refusal ≡ 15 = ap (λ (x : Entered). x.refusal) q in
    record {
      short = λ m. n;
      is_short = λ m. l;
      full = λ room w f reads full. absurd (omega (arith, l, room));
      is_full = λ m. absurd (omega (arith, n, m));
      stays = λ m. q ∙ ap (unchanged rows area) (sym n);
    }
refuses_by rows area event bytes e (answers_full room w f reads full q) =
    let n : e.refusal ≡ 20 = ap (λ (x : Entered). x.refusal) q in
    record {
      short = λ l. absurd (omega (arith, l, room));
      is_short = λ m. absurd (omega (arith, n, m));
      full = λ s v g k h. n;
      is_full = λ m. (w, (f, (reads, full)));
      stays = λ m. q ∙ ap (unchanged rows area) (sym n);
    }
refuses_by rows area event bytes e (answers_none room n f) = record {
  short = λ l. absurd (omega (arith, l, room));
  is_short = λ m. absurd (omega (arith, n, m));
  full = λ s w g reads full. absurd (f w g reads full);
  is_full = λ m. absurd (omega (arith, n, m));
  stays = λ m. absurd (m n);
}

frame_or : Whole → Event → Whole
frame_or v Nothing = v
frame_or v PassedOver = v
frame_or v Broken = v
frame_or v (Frame w) = w
frame_or v (Damaged w m) = v

answers : (rows : List Row) (area : List ℕ) (tick : ℕ) (w : Whole) (bytes : List ℕ) → Answers rows area (Frame w) bytes (entered rows area tick (Frame w) bytes)
unfolding entered when◌then◌else◌ frame_or
answers rows area tick w bytes = by (length area <? row_bytes * length rows) (is_reading w bytes) refl refl (first_match rows (key_of w))
  where
    same : (v : Whole) → Frame w ≡ Frame v → w ≡ v
    same v e = ap (frame_or w) e

    by : (t u : Bool) → (length area <? row_bytes * length rows) ≡ t → is_reading w bytes ≡ u → SoughtIs rows (key_of w) (sought rows (key_of w))
        → Answers rows area (Frame w) bytes (when t then unchanged rows area 15 else when u then entered_by rows area tick w bytes (sought rows (key_of w)) else unchanged rows area 0)
    by true u e f s = answers_short (ltb-true (length area) (row_bytes * length rows) e) refl
    by false false e f s = answers_none (ltb-false (length area) (row_bytes * length rows) e) refl (λ v g reads full. true_false (sym reads ∙ ap (λ (x : Whole). is_reading x bytes) (sym (same v g)) ∙ f))
    by false true e f (is_match i s l k first) =
        answers_none (ltb-false (length area) (row_bytes * length rows) e) (ap (λ (x : Sought). (entered_by rows area tick w bytes x).refusal) s)
        (λ v g reads full. true_false (sym k ∙ ap (λ (x : Whole). has_key (key_of x) (row_of rows i)) (same v g) ∙ full.0 i l))
    by false true e f (is_first_empty i s l k first no_key) =
        answers_none (ltb-false (length area) (row_bytes * length rows) e) (ap (λ (x : Sought). (entered_by rows area tick w bytes x).refusal) s)
        (λ v g reads full. true_false (sym k ∙ full.1 i l))
    by false true e f (is_full s no_key filled) =
        answers_full (ltb-false (length area) (row_bytes * length rows) e) w refl f (no_key, filled) (ap (entered_by rows area tick w bytes) s)

other_answers : (rows : List Row) (area : List ℕ) (event : Event) (bytes : List ℕ) (e : Entered) → ((w : Whole) → event ≡ Frame w → ⊥)
    → e ≡ (when length area <? row_bytes * length rows then unchanged rows area 15 else unchanged rows area 0) → Answers rows area event bytes e
unfolding when◌then◌else◌
other_answers rows area event bytes e f = by (length area <? row_bytes * length rows) refl
  where
    by : (t : Bool) → (length area <? row_bytes * length rows) ≡ t → e ≡ (when t then unchanged rows area 15 else unchanged rows area 0) → Answers rows area event bytes e
    by true k q = answers_short (ltb-true (length area) (row_bytes * length rows) k) q
    by false k q = answers_none (ltb-false (length area) (row_bytes * length rows) k) (ap (λ (x : Entered). x.refusal) q) (λ w g reads full. f w g)

pub refuses : (rows : List Row) (area : List ℕ) (tick : ℕ) (event : Event) (bytes : List ℕ) → Refuses rows area event bytes (entered rows area tick event bytes)
unfolding entered
refuses rows area tick Nothing bytes = refuses_by rows area Nothing bytes _ (other_answers rows area Nothing bytes _ (λ w e. not_frame Nothing w refl e) refl)
refuses rows area tick PassedOver bytes = refuses_by rows area PassedOver bytes _ (other_answers rows area PassedOver bytes _ (λ w e. not_frame PassedOver w refl e) refl)
refuses rows area tick Broken bytes = refuses_by rows area Broken bytes _ (other_answers rows area Broken bytes _ (λ w e. not_frame Broken w refl e) refl)
refuses rows area tick (Frame w) bytes = refuses_by rows area (Frame w) bytes _ (answers rows area tick w bytes)
refuses rows area tick (Damaged w m) bytes = refuses_by rows area (Damaged w m) bytes _ (other_answers rows area (Damaged w m) bytes _ (λ v e. not_frame (Damaged w m) v refl e) refl)

-- ---- the newest frame of its key, entered again
set_same : {A : Type 0} (xs : List A) (i : ℕ) (v d : A) → i < length xs → get_or xs i d ≡ v → set xs i v ≡ xs
set_same [] i v d l e = absurd (omega (arith, l))
set_same (x ∷ xs) zero v d l e = ap (λ y. y ∷ xs) (sym e)
set_same (x ∷ xs) (suc i) v d l e = ap (λ ys. x ∷ ys) (set_same xs i v d (omega (arith, l)) e)

stored_same : (xs vs : List ℕ) (p : ℕ) → p + length vs ≤ length xs → ((k : ℕ) → k < length vs → get_or xs (p + k) 0 ≡ get_or vs k 0) → stored xs p vs ≡ xs
unfolding stored
stored_same xs [] p l same = refl
stored_same xs (v ∷ vs) p l same =
    ap (λ (ys : List ℕ). stored ys (suc p) vs) (set_same xs p v 0 (omega (arith, l)) (ap (λ (j : ℕ). get_or xs j 0) (sym (add-zero p)) ∙ same 0 (omega arith)))
    ∙ stored_same xs vs (suc p) (omega (arith, l)) (λ k lk. ap (λ (j : ℕ). get_or xs j 0) (suc-add p k ∙ sym (add-suc p k)) ∙ same (suc k) (omega (arith, lk)))

module _ (r : Reading) (fits : r.frame.count ≤ row_bytes) (reads : is_reading r.frame r.bytes ≡ true) (i : ℕ) (row : Row) where
  abbrev key : Key
  key = key_of r.frame

  abbrev d : List ℕ
  d = stored_data r.frame r.bytes

  -- row i is the first of the frame's key and holds it
  record Holding (rows : List Row) (area : List ℕ) : Type 0 where
    in_rows : i < length rows
    room : row_bytes * length rows ≤ length area
    row_is : row_of rows i ≡ row
    has_key_lem : has_key key row ≡ true
    first : (j : ℕ) → j < i → has_key key (row_of rows j) ≡ false
    data_is : (k : ℕ) → k < length d → get_or area (row_bytes * i + k) 0 ≡ get_or d k 0

  short : length d ≤ row_bytes
  short = let m = length_take_most r.frame.count (stored_bytes r.bytes) in omega (arith, m, fits)

  -- a frame of another key goes to another row
  elsewhere : (rows : List Row) (area : List ℕ) → Holding rows area → (s : Reading) (j : ℕ) → is_of key s.frame ≡ false → Goes rows (key_of s.frame) j → j ≡ i → ⊥
  elsewhere rows area v s j other (Goes.to_match m first) e =
      let one = key_is row.address row.command key.address key.command v.has_key_lem in
      let two = key_is (row_of rows j).address (row_of rows j).command s.frame.header.address s.frame.header.command m in
      let at : row_of rows j ≡ row = ap (row_of rows) e ∙ v.row_is in
      true_false
      (sym (is_key s.frame.header.address s.frame.header.command key.address key.command
      (sym two.0 ∙ ap (λ (x : Row). x.address) at ∙ one.0) (sym two.1 ∙ ap (λ (x : Row). x.command) at ∙ one.1)) ∙ other)
  elsewhere rows area v s j other (Goes.to_empty m first no_key) e =
      let one = key_is row.address row.command key.address key.command v.has_key_lem in
      let z = eqb-true (row_of rows j).address 0 m in
      reading_address r.frame r.bytes reads (sym one.0 ∙ ap (λ (x : Row). x.address) (sym (ap (row_of rows) e ∙ v.row_is)) ∙ z)

  -- one frame of another key more
  still_holding : (rows : List Row) (area : List ℕ) → Holding rows area → (s : Reading) (j : ℕ) → s.frame.count ≤ row_bytes → (l : j < length rows) → (reads' : is_reading s.frame s.bytes ≡ true)
      → is_of key s.frame ≡ false → Goes rows (key_of s.frame) j
      → Holding (superseded rows area s.tick s.frame s.bytes j).rows (superseded rows area s.tick s.frame s.bytes j).area
  still_holding rows area v s j fits' l reads' other to = record {
    in_rows = subst (λ (n : ℕ). i < n) (sym same_rows) v.in_rows;
    room = let m = length_stored area (row_bytes * j) (stored_data s.frame s.bytes) in let q = v.room in let p = same_rows in omega (arith, m, q, p);
    row_is = there rows area s j l reads' i (λ e. apart (sym e)) ∙ v.row_is;
    has_key_lem = v.has_key_lem;
    first = earlier;
    data_is = λ k lk. bytes_stay rows area s j l reads' fits' i k (λ e. apart (sym e)) (let m = short in omega (arith, m, lk)) ∙ v.data_is k lk;
  }
    where
      apart : j ≡ i → ⊥
      apart e = elsewhere rows area v s j other to e

      same_rows : length (set rows j (new_row rows j s.tick s.frame s.bytes)) ≡ length rows
      same_rows = length-set rows j (new_row rows j s.tick s.frame s.bytes)

      earlier : (m : ℕ) → m < i → has_key key (row_of (set rows j (new_row rows j s.tick s.frame s.bytes)) m) ≡ false
      earlier m lm = by (same? m j)
        where
          by : Dec (m ≡ j) → has_key key (row_of (set rows j (new_row rows j s.tick s.frame s.bytes)) m) ≡ false
          by (yes e) = ap (λ (n : ℕ). has_key key (row_of (set rows j (new_row rows j s.tick s.frame s.bytes)) n)) e ∙ ap (has_key key) (here rows area s j l reads') ∙ other
          by (no ne) = ap (has_key key) (there rows area s j l reads' m ne) ∙ v.first m lm

  frame_holding : (k : Kept) (s : Reading) → s.frame.count ≤ row_bytes → is_of key s.frame ≡ false → Holding k.rows k.area
      → Holding (entered k.rows k.area s.tick (Frame s.frame) s.bytes).rows (entered k.rows k.area s.tick (Frame s.frame) s.bytes).area
  frame_holding k s fits' other v = by (entered k.rows k.area s.tick (Frame s.frame) s.bytes) (is_entered k.rows k.area s.frame s.bytes) (entered_view k.rows k.area s)
    where
      by : (e : Entered) (was : Bool) → EnteredView k.rows k.area s e was → Holding e.rows e.area
      by e was (EnteredView.stays n q f) = subst (λ (x : Entered). Holding x.rows x.area) (sym q) v
      by e was (EnteredView.goes j q f l room reads' to) = subst (λ (x : Entered). Holding x.rows x.area) (sym q) (still_holding k.rows k.area v s j fits' l reads' other to)

  abbrev Holds : Kept → Type 0
  Holds k = Holding k.rows k.area

  holds_after : (op : Op) (k : Kept) → OpFits op → OtherKey key op → Holds k → Holds (after_op op k)
  unfolding after_op
  holds_after clears k fits' other v = absurd other
  holds_after (told tick (Frame w) bytes) k fits' other v = frame_holding k (reading_of tick w bytes) fits'.0 other v
  holds_after (told tick Nothing bytes) k fits' other v = subst Holds (sym (no_frame_kept k tick Nothing bytes refl (λ w e. not_frame Nothing w refl e))) v
  holds_after (told tick PassedOver bytes) k fits' other v = subst Holds (sym (no_frame_kept k tick PassedOver bytes refl (λ w e. not_frame PassedOver w refl e))) v
  holds_after (told tick Broken bytes) k fits' other v = subst Holds (sym (no_frame_kept k tick Broken bytes refl (λ w e. not_frame Broken w refl e))) v
  holds_after (told tick (Damaged w m) bytes) k fits' other v = subst Holds (sym (no_frame_kept k tick (Damaged w m) bytes refl (λ x e. not_frame (Damaged w m) x refl e))) v

  holds_all : (ops : List Op) (k : Kept) → OpsFit ops → OtherKeys key ops → Holds k → Holds (after_all ops k)
  unfolding after_all
  holds_all [] k fits' other v = v
  holds_all (op ∷ ops) k fits' other v = holds_all ops (after_op op k) fits'.1 other.1 (holds_after op k fits'.0 other.0 v)

  -- it is found again
  found_again : (rows : List Row) (area : List ℕ) → Holding rows area → sought rows key ≡ Match i (row_of rows i)
  found_again rows area v = by (first_match rows key)
    where
      at_i : has_key key (row_of rows i) ≡ true
      at_i = ap (has_key key) v.row_is ∙ v.has_key_lem

      by : SoughtIs rows key (sought rows key) → sought rows key ≡ Match i (row_of rows i)
      by (is_match k s lk e first) = at (dec_lt k i) (dec_lt i k)
        where
          at : Dec (k < i) → Dec (i < k) → sought rows key ≡ Match i (row_of rows i)
          at (yes b) c = absurd (true_false (sym e ∙ v.first k b))
          at (no b) (yes c) = absurd (true_false (sym at_i ∙ first i c))
          at (no b) (no c) = s ∙ ap (λ (n : ℕ). Match n (row_of rows n)) (let m : k ≡ i = omega (arith, b, c) in m)
      by (is_first_empty k s lk e first no_key) = absurd (true_false (sym at_i ∙ no_key i v.in_rows))
      by (is_full s no_key filled) = absurd (true_false (sym at_i ∙ no_key i v.in_rows))

  same_again : (rows : List Row) (area : List ℕ) → Holding rows area → new_row rows i r.tick r.frame r.bytes ≡ row → entered rows area r.tick (Frame r.frame) r.bytes ≡ unchanged rows area 0
  unfolding entered
  same_again rows area v e =
      if_is_false (length area <? row_bytes * length rows) _ _ (le-ltb (length area) (row_bytes * length rows) v.room)
      ∙ if_is_true (is_reading r.frame r.bytes) _ _ reads
      ∙ ap (entered_by rows area r.tick r.frame r.bytes) (found_again rows area v)
      ∙ (λ j. record {
        rows = (ap (set rows i) e ∙ set_same rows i row empty_row v.in_rows v.row_is) j;
        area = stored_same area d (row_bytes * i) (let m = short in let n = v.in_rows in let q = v.room in omega (arith, m, n, q)) v.data_is j;
        refusal = 0;
      })

-- a frame that was entered is held
start_holding : (rows : List Row) (area : List ℕ) (r : Reading) (fits : r.frame.count ≤ row_bytes) (reads : is_reading r.frame r.bytes ≡ true) (i : ℕ) → i < length rows → row_bytes * length rows ≤ length area
    → Goes rows (key_of r.frame) i
    → Holding r fits reads i (new_row rows i r.tick r.frame r.bytes) (superseded rows area r.tick r.frame r.bytes i).rows (superseded rows area r.tick r.frame r.bytes i).area
start_holding rows area r fits reads i l room to = record {
  in_rows = subst (λ (n : ℕ). i < n) (sym (length-set rows i (new_row rows i r.tick r.frame r.bytes))) l;
  room = let m = length_stored area (row_bytes * i) (stored_data r.frame r.bytes) in let n = length-set rows i (new_row rows i r.tick r.frame r.bytes) in omega (arith, m, n, room);
  row_is = here rows area r i l reads;
  has_key_lem = key_new rows area r i l reads;
  first = λ j lj. ap (has_key (key_of r.frame)) (there rows area r i l reads j (λ e. absurd (omega (arith, e, lj)))) ∙ none_before j lj to;
  data_is = bytes_new rows area r i l reads fits room;
}
  where
    none_before : (j : ℕ) → j < i → Goes rows (key_of r.frame) i → has_key (key_of r.frame) (row_of rows j) ≡ false
    none_before j lj (Goes.to_match k first) = first j lj
    none_before j lj (Goes.to_empty k first no_key) = no_key j (omega (arith, lj, l))

-- a frame that a row holds leaves the row as it was
bits_again : (p e : Bool) (own kept z : ℕ) → e ≡ false → (when p then own else when e then 0 else when true then (when p then own else kept) else z) ≡ (when p then own else kept)
unfolding when◌then◌else◌
bits_again true e own kept z f = refl
bits_again false true own kept z f = absurd (true_false f)
bits_again false false own kept z f = refl

bits_too : (p e : Bool) (own kept z : ℕ) → e ≡ false → (when p then (when e then 0 else when false then z else (when p then kept else own)) else own) ≡ (when p then kept else own)
unfolding when◌then◌else◌
bits_too true true own kept z f = absurd (true_false f)
bits_too true false own kept z f = refl
bits_too false e own kept z f = refl

same_row : (rows now : List Row) (r : Reading) (i : ℕ) → is_reading r.frame r.bytes ≡ true → row_of now i ≡ new_row rows i r.tick r.frame r.bytes
    → new_row now i r.tick r.frame r.bytes ≡ new_row rows i r.tick r.frame r.bytes
same_row rows now r i reads e = λ j. record {
  address = r.frame.header.address;
  tick = r.tick;
  place = row_bytes * i;
  command = r.frame.header.command;
  count = r.frame.count;
  primary = (ap (λ (row : Row). when to then own else kept_bits true row) e ∙ bits_again to (is_empty new) own (kept_bits true (row_of rows i)) new.secondary filled) j;
  secondary = (ap (λ (row : Row). when to then kept_bits false row else own) e ∙ bits_too to (is_empty new) own (kept_bits false (row_of rows i)) new.primary filled) j;
  spare = 0;
}
  where
    to : Bool
    to = r.frame.header.primary

    own : ℕ
    own = own_bits (get_or r.bytes 1 0)

    new : Row
    new = new_row rows i r.tick r.frame r.bytes

    filled : is_empty new ≡ false
    filled = ne_eqb r.frame.header.address 0 (reading_address r.frame r.bytes reads)

pub again : (k : Kept) (r : Reading) (ops : List Op) → Again k r ops
unfolding after_op
again k r ops = record {
  nothing_changes = λ fits fits' was other.
      by fits fits' other (entered k.rows k.area r.tick (Frame r.frame) r.bytes) (is_entered k.rows k.area r.frame r.bytes) refl was (entered_view k.rows k.area r);
}
  where
    by : r.frame.count ≤ row_bytes → OpsFit ops → OtherKeys (key_of r.frame) ops
        → (e : Entered) (t : Bool) → entered k.rows k.area r.tick (Frame r.frame) r.bytes ≡ e → t ≡ true → EnteredView k.rows k.area r e t
        → entered (entered_then k r ops).rows (entered_then k r ops).area r.tick (Frame r.frame) r.bytes ≡ unchanged (entered_then k r ops).rows (entered_then k r ops).area 0
    by fits fits' other e t p w (EnteredView.stays n q f) = absurd (true_false (sym w ∙ f))
    by fits fits' other e t p w (EnteredView.goes i q f l room reads to) =
        let new = new_row k.rows i r.tick r.frame r.bytes in
        let start = subst (λ (x : Entered). Holding r fits reads i new x.rows x.area) (sym (p ∙ q)) (start_holding k.rows k.area r fits reads i l room to) in
        let v = holds_all r fits reads i new ops (after_op (told r.tick (Frame r.frame) r.bytes) k) fits' other start in
        same_again r fits reads i new (entered_then k r ops).rows (entered_then k r ops).area v (same_row k.rows (entered_then k r ops).rows r i reads v.row_is)

-- ---- the row that is looked up holds the newest frame of its key
key_in_lem : (key : Key) (row : Row) → has_key key row ≡ true → key_in row ≡ key
key_in_lem key row e = let k = key_is row.address row.command key.address key.command e in same_key (key_in row) key k.0 k.1

some_same : (r s : Reading) → some r ≡ some s → r ≡ s
some_same r s e = ap (get r) e
  where
    get : Reading → Option Reading → Reading
    get x none = x
    get x (some y) = y

first_in : (test : Row → Bool) (rows : List Row) (i : ℕ) → i < length rows → test (row_of rows i) ≡ true → first_of test rows < length rows
first_in test rows i l e = by (dec_lt (first_of test rows) (length rows))
  where
    by : Dec (first_of test rows < length rows) → first_of test rows < length rows
    by (yes b) = b
    by (no b) = absurd (true_false (sym e ∙ first_before test rows i (let m = first_most test rows in omega (arith, b, m, l))))

found_in : (k : Kept) → Newest k → Found k
found_in k v key r e = by (v.has_row key r e)
  where
    by : (i : ℕ) × ((i < length k.rows) × ((is_empty (row_of k.rows i) ≡ false) × (has_key key (row_of k.rows i) ≡ true)))
        → (looked_up k.rows key < length k.rows) × RowHolds k.area (looked_up k.rows key) (row_of k.rows (looked_up k.rows key)) r
    by (i, (l, (filled, of))) =
        let one = key_is (row_of k.rows i).address (row_of k.rows i).command key.address key.command of in
        let nonzero : (key.address =? 0) ≡ false = ap (λ (n : ℕ). n =? 0) (sym one.0) ∙ filled in
        let j = first_of (has_key key) k.rows in
        let is : looked_up k.rows key ≡ j = if_is_false (key.address =? 0) (length k.rows) j nonzero in
        let lj : j < length k.rows = first_in (has_key key) k.rows i l of in
        let at : has_key key (row_of k.rows j) ≡ true = first_holds (has_key key) k.rows lj in
        let two = key_is (row_of k.rows j).address (row_of k.rows j).command key.address key.command at in
        let held = v.held j lj (ap (λ (n : ℕ). n =? 0) two.0 ∙ nonzero) in
        let same : held.0 ≡ r = some_same held.0 r (sym held.1.0 ∙ ap (λ (x : Key). newest_of x k.log) (key_in_lem key (row_of k.rows j) at) ∙ e) in
        subst (λ (n : ℕ). (n < length k.rows) × RowHolds k.area n (row_of k.rows n) r) (sym is)
        (lj, subst (λ (x : Reading). RowHolds k.area j (row_of k.rows j) x) same held.1.1)

pub found : FromCleared Found
found n area ops fits = found_in (after_all ops (fresh n area)) (newest n area ops fits)
