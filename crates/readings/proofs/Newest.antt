-- From a cleared table on, for every list of operations: each filled row holds the newest frame of its key, each frame that was entered has a row, keys differ, and filled rows come first.
use Prim.Native.Nat.{ℕ, ◌+◌, ◌*◌, ◌≤◌, ◌<◌}
use native.Mathlib.Omega.{arith}
use native.Mathlib.Decide.{dec_lt}
use mathlib.Core.Path.{◌≡◌, refl, sym, ap, subst, ◌∙◌}
use mathlib.Core.Bool.{Bool, true, false}
use mathlib.Core.List.{List, [], ◌∷◌}
use mathlib.Core.Option.{Option, none, some}
use lib.ListN.{length, get_or, set, replicate, length-set, length-replicate, get_or-replicate}
use lib.Seq.{get_or-set_same, get_or-set_other}
use borrow.Author.Tests.{eqb-true, eqb-false, eq-eqb, ne_eqb}
use Rattle.base.specs.Choice.{when◌then◌else◌, ◌=?◌, ◌≤?◌}
use Rattle.base.specs.Store.{stored}
use Rattle.base.proofs.Choices.{true_false, if_is_true, if_is_false, went_else}
use Rattle.base.proofs.Tables.{chain_first, chain_second}
use Rattle.line.specs.declared.Event.{Event}
use Rattle.line.specs.declared.Event.TheVariants.{Nothing, PassedOver, Broken, Frame, Damaged}
use Rattle.line.specs.declared.Whole.{Whole}
use Rattle.readings.specs.Table.{row_bytes, is_reading, key_of, has_key, is_empty, row_of, empty_row, stored_bytes, stored_data, new_row, Entered, entered}
use Rattle.readings.specs.History.{key_in, Reading, Op, told, clears, is_entered, Kept, logged, after_op, after_all, fresh, OpFits, OpsFit, FromCleared, is_of, newest_of, RowHolds, Newest}
use Rattle.readings.specs.declared.Key.{Key}
use Rattle.readings.specs.declared.Row.{Row}
use Rattle.readings.proofs.Bytes.{stored_front_stays, stored_behind_stays, stored_here, length_take_most}
use Rattle.readings.proofs.Views.{not_frame, Goes, EnteredView, entered_view, NoFrame, Tells, a_frame, no_frame, tells_view}

pub same? : (m n : ℕ) → Dec (m ≡ n)
same? m n = by (m =? n) refl
  where
    by : (t : Bool) → (m =? n) ≡ t → Dec (m ≡ n)
    by true e = yes (eqb-true m n e)
    by false e = no (eqb-false m n e)

-- ---- keys
pub key_is : (a c b d : ℕ) → (when a =? b then c =? d else false) ≡ true → (a ≡ b) × (c ≡ d)
key_is a c b d e = (eqb-true a b (chain_first (a =? b) (c =? d) e), eqb-true c d (chain_second (a =? b) (c =? d) e))

pub is_key : (a c b d : ℕ) → a ≡ b → c ≡ d → (when a =? b then c =? d else false) ≡ true
is_key a c b d e f = if_is_true (a =? b) (c =? d) false (eq-eqb a b e) ∙ eq-eqb c d f

-- a key from a row and a key from another
pub same_key : (key other : Key) → key.address ≡ other.address → key.command ≡ other.command → key ≡ other
same_key key other e f = λ i. record { address = e i; command = f i }

newest_here : (key : Key) (r : Reading) (log : List Reading) → is_of key r.frame ≡ true → newest_of key (r ∷ log) ≡ some r
unfolding newest_of
newest_here key r log e = if_is_true (is_of key r.frame) (some r) (newest_of key log) e

pub newest_later : (key : Key) (r : Reading) (log : List Reading) → is_of key r.frame ≡ false → newest_of key (r ∷ log) ≡ newest_of key log
unfolding newest_of
newest_later key r log e = if_is_false (is_of key r.frame) (some r) (newest_of key log) e

-- a reading's address is not 0
pub reading_address : (w : Whole) (bytes : List ℕ) → is_reading w bytes ≡ true → w.header.address ≡ 0 → ⊥
reading_address w bytes e z =
    let a = (went_else (128 ≤? get_or bytes 0 0) false _ true e (λ q. true_false (sym q))).1 in
    let b = (went_else (w.header.address =? 0) false _ true a (λ q. true_false (sym q))).0 in
    true_false (sym (eq-eqb w.header.address 0 z) ∙ b)

module _ (rows : List Row) (area : List ℕ) (r : Reading) (i : ℕ) (l : i < length rows) (reads : is_reading r.frame r.bytes ≡ true) where
  abbrev pub h : Key
  h = key_of r.frame

  abbrev pub d : List ℕ
  d = stored_data r.frame r.bytes

  abbrev pub new : Row
  new = new_row rows i r.tick r.frame r.bytes

  abbrev pub rows' : List Row
  rows' = set rows i new

  abbrev pub area' : List ℕ
  area' = stored area (row_bytes * i) d

  pub here : row_of rows' i ≡ new
  here = get_or-set_same rows i new empty_row l

  pub there : (j : ℕ) → (j ≡ i → ⊥) → row_of rows' j ≡ row_of rows j
  there j ne = get_or-set_other rows i j new empty_row ne

  pub in_old : (j : ℕ) → j < length rows' → j < length rows
  in_old j lj = subst (λ (n : ℕ). j < n) (length-set rows i new) lj

  pub in_new : (j : ℕ) → j < length rows → j < length rows'
  in_new j lj = subst (λ (n : ℕ). j < n) (sym (length-set rows i new)) lj

  -- the new row is of the frame's key, and filled
  pub key_new : has_key h new ≡ true
  key_new = is_key h.address h.command h.address h.command refl refl

  pub filled_new : is_empty new ≡ false
  filled_new = ne_eqb h.address 0 (reading_address r.frame r.bytes reads)

  -- the bytes of another row stay
  pub bytes_stay : r.frame.count ≤ row_bytes → (j k : ℕ) → (j ≡ i → ⊥) → k < row_bytes → get_or area' (row_bytes * j + k) 0 ≡ get_or area (row_bytes * j + k) 0
  bytes_stay fits j k ne lk = by (dec_lt j i)
    where
      short : length d ≤ row_bytes
      short = let m = length_take_most r.frame.count (stored_bytes r.bytes) in omega (arith, m, fits)

      by : Dec (j < i) → get_or area' (row_bytes * j + k) 0 ≡ get_or area (row_bytes * j + k) 0
      by (yes b) = stored_front_stays area d (row_bytes * i) (row_bytes * j + k) (omega (arith, b, lk))
      by (no b) = stored_behind_stays area d (row_bytes * i) (row_bytes * j + k) (let m : i < j = omega (arith, b, ne) in omega (arith, m, short))

  -- the bytes of the new row are the frame's
  pub bytes_new : r.frame.count ≤ row_bytes → row_bytes * length rows ≤ length area → (k : ℕ) → k < length d → get_or area' (row_bytes * i + k) 0 ≡ get_or d k 0
  bytes_new fits room k lk = stored_here area d (row_bytes * i) k lk (let m = length_take_most r.frame.count (stored_bytes r.bytes) in omega (arith, m, fits, room, l))

module _ (rows : List Row) (area : List ℕ) (log : List Reading) (v : Newest (record { rows = rows; area = area; log = log })) (r : Reading) (fits : r.frame.count ≤ row_bytes) (i : ℕ) (l : i < length rows)
    (room : row_bytes * length rows ≤ length area) (reads : is_reading r.frame r.bytes ≡ true) (to : Goes rows (key_of r.frame) i) where
  abbrev key : Key
  key = key_of r.frame

  abbrev after : List Row
  after = rows' rows area r i l reads

  abbrev bytes : List ℕ
  bytes = area' rows area r i l reads

  at_i : row_of after i ≡ new rows area r i l reads
  at_i = here rows area r i l reads

  at_other : (j : ℕ) → (j ≡ i → ⊥) → row_of after j ≡ row_of rows j
  at_other j ne = there rows area r i l reads j ne

  -- no other row has the frame's key
  pub other_key : (j : ℕ) → j < length rows → (j ≡ i → ⊥) → has_key key (row_of rows j) ≡ true → ⊥
  other_key j lj ne e = by to
    where
      by : Goes rows key i → ⊥
      by (Goes.to_match k first) =
          let one = key_is (row_of rows i).address (row_of rows i).command key.address key.command k in
          let two = key_is (row_of rows j).address (row_of rows j).command key.address key.command e in
          let filled : is_empty (row_of rows i) ≡ false = ne_eqb (row_of rows i).address 0 (λ z. reading_address r.frame r.bytes reads (sym one.0 ∙ z)) in
          ne (sym (v.keys_differ i j l lj filled (is_key (row_of rows j).address (row_of rows j).command (row_of rows i).address (row_of rows i).command (two.0 ∙ sym one.0) (two.1 ∙ sym one.1))))
      by (Goes.to_empty k first no_key) = true_false (sym e ∙ no_key j lj)

  -- a filled row other than the frame's is of another key
  pub not_of : (j : ℕ) → j < length rows → (j ≡ i → ⊥) → is_of (key_in (row_of rows j)) r.frame ≡ false
  not_of j lj ne = by (is_of (key_in (row_of rows j)) r.frame) refl
    where
      by : (t : Bool) → is_of (key_in (row_of rows j)) r.frame ≡ t → t ≡ false
      by true e =
          let k = key_is key.address key.command (row_of rows j).address (row_of rows j).command e in
          absurd (other_key j lj ne (is_key (row_of rows j).address (row_of rows j).command key.address key.command (sym k.0) (sym k.1)))
      by false e = refl

  holds_new : RowHolds bytes i (new rows area r i l reads) r
  holds_new = record {
    address = refl;
    command = refl;
    tick = refl;
    count = refl;
    place = refl;
    in_row = fits;
    bytes = bytes_new rows area r i l reads fits room;
  }

  holds_old : (j : ℕ) (s : Reading) → (j ≡ i → ⊥) → RowHolds area j (row_of rows j) s → RowHolds bytes j (row_of rows j) s
  holds_old j s ne w = record {
    address = w.address;
    command = w.command;
    tick = w.tick;
    count = w.count;
    place = w.place;
    in_row = w.in_row;
    bytes = λ k lk. bytes_stay rows area r i l reads fits j k ne (let m = length_take_most s.frame.count (stored_bytes s.bytes) in let f = w.in_row in omega (arith, m, f, lk)) ∙ w.bytes k lk;
  }

  abbrev Held : ℕ → Row → Type 0
  Held j row = (s : Reading) × ((newest_of (key_in row) (r ∷ log) ≡ some s) × RowHolds bytes j row s)

  held' : (j : ℕ) → j < length after → is_empty (row_of after j) ≡ false → Held j (row_of after j)
  held' j lj filled = by (same? j i)
    where
      lj' : j < length rows
      lj' = in_old rows area r i l reads j lj

      by : Dec (j ≡ i) → Held j (row_of after j)
      by (yes e) = subst (λ (k : ℕ). Held k (row_of after k)) (sym e) (subst (Held i) (sym at_i) (r, (newest_here key r log (key_new rows area r i l reads), holds_new)))
      by (no ne) =
          subst (Held j) (sym (at_other j ne))
          (let old = v.held j lj' (ap is_empty (sym (at_other j ne)) ∙ filled) in
          (old.0, (newest_later (key_in (row_of rows j)) r log (not_of j lj' ne) ∙ old.1.0, holds_old j old.0 ne old.1.1)))

  abbrev HasRow : List Row → Key → Type 0
  HasRow rs a = (j : ℕ) × ((j < length rs) × ((is_empty (row_of rs j) ≡ false) × (has_key a (row_of rs j) ≡ true)))

  has_row' : (a : Key) (s : Reading) → newest_of a (r ∷ log) ≡ some s → HasRow after a
  has_row' a s e = by (is_of a r.frame) refl
    where
      by : (t : Bool) → is_of a r.frame ≡ t → HasRow after a
      by true k = (i, (in_new rows area r i l reads i l, (ap is_empty at_i ∙ filled_new rows area r i l reads, ap (has_key a) at_i ∙ k)))
      by false k = old (v.has_row a s (sym (newest_later a r log k) ∙ e))
        where
          old : HasRow rows a → HasRow after a
          old w = at (same? w.0 i)
            where
              at : Dec (w.0 ≡ i) → HasRow after a
              at (no ne) = (w.0, (in_new rows area r i l reads w.0 w.1.0, (ap is_empty (at_other w.0 ne) ∙ w.1.1.0, ap (has_key a) (at_other w.0 ne) ∙ w.1.1.1)))
              at (yes q) = absurd (clash to)
                where
                  clash : Goes rows key i → ⊥
                  clash (Goes.to_match m first) =
                      let one = key_is (row_of rows i).address (row_of rows i).command key.address key.command m in
                      let two = key_is (row_of rows i).address (row_of rows i).command a.address a.command (ap (λ (n : ℕ). has_key a (row_of rows n)) (sym q) ∙ w.1.1.1) in
                      true_false (sym (is_key key.address key.command a.address a.command (sym one.0 ∙ two.0) (sym one.1 ∙ two.1)) ∙ k)
                  clash (Goes.to_empty m first no_key) = true_false (sym m ∙ ap (λ (n : ℕ). is_empty (row_of rows n)) (sym q) ∙ w.1.1.0)

  differ' : (j k : ℕ) → j < length after → k < length after → is_empty (row_of after j) ≡ false → has_key (key_in (row_of after j)) (row_of after k) ≡ true → j ≡ k
  differ' j k lj lk filled e = by (same? j i) (same? k i)
    where
      lj' : j < length rows
      lj' = in_old rows area r i l reads j lj

      lk' : k < length rows
      lk' = in_old rows area r i l reads k lk

      at_new : (m : ℕ) → m ≡ i → row_of after m ≡ new rows area r i l reads
      at_new m q = ap (row_of after) q ∙ at_i

      by : Dec (j ≡ i) → Dec (k ≡ i) → j ≡ k
      by (yes p) (yes q) = p ∙ sym q
      by (yes p) (no q) = absurd (other_key k lk' q (sym (ap (λ (x : Row). has_key (key_in x) (row_of after k)) (at_new j p) ∙ ap (has_key key) (at_other k q)) ∙ e))
      by (no p) (yes q) =
          let m = key_is key.address key.command (row_of rows j).address (row_of rows j).command (sym (ap (λ (x : Row). has_key (key_in x) (row_of after k)) (at_other j p) ∙ ap (has_key (key_in (row_of rows j))) (at_new k q)) ∙ e) in
          absurd (other_key j lj' p (is_key (row_of rows j).address (row_of rows j).command key.address key.command (sym m.0) (sym m.1)))
      by (no p) (no q) =
          v.keys_differ j k lj' lk' (ap is_empty (sym (at_other j p)) ∙ filled)
          (sym (ap (λ (x : Row). has_key (key_in x) (row_of after k)) (at_other j p) ∙ ap (has_key (key_in (row_of rows j))) (at_other k q)) ∙ e)

  -- the frame went to a filled row, or to the first empty one
  first' : (j k : ℕ) → j < k → k < length after → is_empty (row_of after j) ≡ true → is_empty (row_of after k) ≡ true
  first' j k b lk e = by (same? j i) (same? k i)
    where
      lk' : k < length rows
      lk' = in_old rows area r i l reads k lk

      by : Dec (j ≡ i) → Dec (k ≡ i) → is_empty (row_of after k) ≡ true
      by (yes p) q = absurd (true_false (sym e ∙ ap (λ (n : ℕ). is_empty (row_of after n)) p ∙ ap is_empty at_i ∙ filled_new rows area r i l reads))
      by (no p) (no q) = ap is_empty (at_other k q) ∙ v.filled_first j k b lk' (ap is_empty (sym (at_other j p)) ∙ e)
      by (no p) (yes q) = absurd (clash to)
        where
          empty_j : is_empty (row_of rows j) ≡ true
          empty_j = ap is_empty (sym (at_other j p)) ∙ e

          clash : Goes rows key i → ⊥
          clash (Goes.to_match m first) =
              let one = key_is (row_of rows i).address (row_of rows i).command key.address key.command m in
              let z = eqb-true (row_of rows i).address 0 (ap (λ (n : ℕ). is_empty (row_of rows n)) (sym q) ∙ v.filled_first j k b lk' empty_j) in
              reading_address r.frame r.bytes reads (sym one.0 ∙ z)
          clash (Goes.to_empty m first no_key) = true_false (sym empty_j ∙ first j (omega (arith, b, q)))

  newest_entered : Newest (record { rows = after; area = bytes; log = r ∷ log })
  newest_entered = record { held = held'; has_row = has_row'; keys_differ = differ'; filled_first = first' }

-- ---- a cleared table
pub empty_row_in : (n i : ℕ) → i < length (replicate n empty_row) → row_of (replicate n empty_row) i ≡ empty_row
empty_row_in n i l = get_or-replicate n i empty_row empty_row (let k = length-replicate n empty_row in omega (arith, k, l))

pub none_some : (r : Reading) → none ≡ some r → ⊥
none_some r e = true_false (ap is_none e)
  where
    is_none : Option Reading → Bool
    is_none none = true
    is_none (some x) = false

pub newest_fresh : (n : ℕ) (area : List ℕ) → Newest (fresh n area)
unfolding newest_of
newest_fresh n area = record {
  held = λ i l e. absurd (true_false (sym (ap is_empty (empty_row_in n i l)) ∙ e));
  has_row = λ key r e. absurd (none_some r e);
  keys_differ = λ i j l m e f. absurd (true_false (sym (ap is_empty (empty_row_in n i l)) ∙ e));
  filled_first = λ i j b l e. ap is_empty (empty_row_in n j l);
}

-- ---- one operation, then any list
pub kept_same : (k : Kept) (e f : Entered) (log log' : List Reading) → e ≡ f → log ≡ log'
    → ◌≡◌ {A = Kept} (record { rows = f.rows; area = f.area; log = log' }) (record { rows = e.rows; area = e.area; log = log })
kept_same k e f log log' q g = sym (λ j. record { rows = (q j).rows; area = (q j).area; log = g j })

frame_entered : (k : Kept) (r : Reading) → r.frame.count ≤ row_bytes → Newest k → Newest (after_op (told r.tick (Frame r.frame) r.bytes) k)
unfolding after_op
frame_entered k r fits v = by (entered k.rows k.area r.tick (Frame r.frame) r.bytes) (is_entered k.rows k.area r.frame r.bytes) (entered_view k.rows k.area r)
  where
    by : (e : Entered) (was : Bool) → EnteredView k.rows k.area r e was → Newest (record { rows = e.rows; area = e.area; log = when was then r ∷ k.log else k.log })
    by e was (EnteredView.stays n q f) = subst Newest (kept_same k e _ _ _ q (if_is_false was (r ∷ k.log) k.log f)) v
    by e was (EnteredView.goes i q f l room reads to) =
        subst Newest (kept_same k e _ _ _ q (if_is_true was (r ∷ k.log) k.log f))
        (newest_entered k.rows k.area k.log v r fits i l room reads to)

-- what is no frame leaves table and log as they were
pub no_frame_kept : (k : Kept) (tick : ℕ) (event : Event) (bytes : List ℕ) → logged k tick event bytes ≡ k.log → NoFrame event → after_op (told tick event bytes) k ≡ k
unfolding after_op
no_frame_kept k tick event bytes g f = by (tells_view k.rows k.area tick event bytes)
  where
    by : Tells k.rows k.area tick event bytes
        → ◌≡◌ {A = Kept} (record { rows = (entered k.rows k.area tick event bytes).rows; area = (entered k.rows k.area tick event bytes).area; log = logged k tick event bytes }) k
    by (a_frame w e) = absurd (f w e)
    by (no_frame nf n e) = λ j. record { rows = (e j).rows; area = (e j).area; log = g j }

pub newest_after : (op : Op) (k : Kept) → OpFits op → Newest k → Newest (after_op op k)
unfolding after_op
newest_after clears k fits v = newest_fresh (length k.rows) k.area
newest_after (told tick (Frame w) bytes) k fits v = frame_entered k (record { tick = tick; frame = w; bytes = bytes }) fits.0 v
newest_after (told tick Nothing bytes) k fits v = subst Newest (sym (no_frame_kept k tick Nothing bytes refl (λ w e. not_frame Nothing w refl e))) v
newest_after (told tick PassedOver bytes) k fits v = subst Newest (sym (no_frame_kept k tick PassedOver bytes refl (λ w e. not_frame PassedOver w refl e))) v
newest_after (told tick Broken bytes) k fits v = subst Newest (sym (no_frame_kept k tick Broken bytes refl (λ w e. not_frame Broken w refl e))) v
newest_after (told tick (Damaged w m) bytes) k fits v = subst Newest (sym (no_frame_kept k tick (Damaged w m) bytes refl (λ x e. not_frame (Damaged w m) x refl e))) v

newest_all : (ops : List Op) (k : Kept) → OpsFit ops → Newest k → Newest (after_all ops k)
unfolding after_all
newest_all [] k fits v = v
newest_all (op ∷ ops) k fits v = newest_all ops (after_op op k) fits.1 (newest_after op k fits.0 v)

pub newest : FromCleared Newest
newest n area ops fits = newest_all ops (fresh n area) fits (newest_fresh n area)
