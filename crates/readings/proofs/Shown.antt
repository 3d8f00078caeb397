-- What a host is shown is what the entered frames to its master say, and so nothing of the other master's frames.
use Prim.Native.Nat.{ℕ, zero, suc, ◌+◌, ◌*◌, ◌≤◌, ◌<◌}
use native.Mathlib.Omega.{arith}
use mathlib.Core.Path.{◌≡◌, refl, sym, ap, subst, ◌∙◌}
use mathlib.Core.Bool.{Bool, true, false}
use mathlib.Core.List.{List, [], ◌∷◌}
use mathlib.Core.Option.{Option, none, some}
use lib.ListN.{length, get_or, set, take, length-set}
use lib.Seq.{get_or-set_same, get_or-take}
use borrow.Author.Tests.{ne_eqb, ltb-false}
use Rattle.base.specs.Choice.{when◌then◌else◌, ◌=?◌, ◌<?◌, ◌≤?◌}
use Rattle.base.proofs.Choices.{true_false, if_is_true, if_is_false, went_else}
use Rattle.base.specs.Store.{stored}
use Rattle.line.specs.declared.Event.TheVariants.{Nothing, PassedOver, Broken, Frame, Damaged}
use Rattle.line.specs.declared.Whole.{Whole}
use Rattle.readings.specs.Table.{row_bytes, is_reading, key_of, is_empty, row_of, own_bits, common_byte, kept_bits, stored_bytes, stored_data, new_row, Entered, entered}
use Rattle.readings.specs.History.{key_in, Reading, Op, told, clears, is_entered, Kept, after_op, after_all, fresh, OpFits, OpsFit, FromCleared, is_of, newest_of, Newest}
use Rattle.readings.specs.Masters.{is_to, Mine, mine, mine_of, last_bits, Shown, Apart, OtherStays}
use Rattle.readings.specs.declared.Key.{Key}
use Rattle.readings.specs.declared.Row.{Row}
use Rattle.readings.proofs.Bits.{common_own, own_shown, own_own, own_none}
use Rattle.readings.proofs.Views.{not_frame, Goes, EnteredView, entered_view}
use Rattle.readings.proofs.Newest.{same?, key_is, same_key, newest_later, reading_address, empty_row_in, kept_same, no_frame_kept, newest_fresh, newest_after, here, there, in_old, filled_new, key_new, bytes_stay, bytes_new, not_of}

-- ---- the newest bits after one frame more
bits_of : Key → Bool → Reading → ℕ → ℕ
bits_of key primary r before = when is_to primary r then (when is_of key r.frame then own_bits (get_or r.bytes 1 0) else before) else before

one_more : (primary : Bool) (key : Key) (r : Reading) (log : List Reading) → last_bits key (mine_of primary (r ∷ log)) ≡ bits_of key primary r (last_bits key (mine_of primary log))
unfolding mine_of last_bits bits_of when◌then◌else◌
one_more primary key r log = by (is_to primary r)
  where
    by : (t : Bool) → last_bits key (when t then mine r ∷ mine_of primary log else mine_of primary log)
        ≡ (when t then (when is_of key r.frame then own_bits (get_or r.bytes 1 0) else last_bits key (mine_of primary log)) else last_bits key (mine_of primary log))
    by true = refl
    by false = refl

same_both : (t : Bool) (x : ℕ) → (when t then x else x) ≡ x
unfolding when◌then◌else◌
same_both true x = refl
same_both false x = refl

more_other : (primary : Bool) (key : Key) (r : Reading) (log : List Reading) → is_of key r.frame ≡ false → last_bits key (mine_of primary (r ∷ log)) ≡ last_bits key (mine_of primary log)
unfolding bits_of
more_other primary key r log e =
    one_more primary key r log
    ∙ ap (λ (x : ℕ). when is_to primary r then x else last_bits key (mine_of primary log)) (if_is_false (is_of key r.frame) (own_bits (get_or r.bytes 1 0)) (last_bits key (mine_of primary log)) e)
    ∙ same_both (is_to primary r) (last_bits key (mine_of primary log))

more_here : (primary : Bool) (key : Key) (r : Reading) (log : List Reading) → is_of key r.frame ≡ true
    → last_bits key (mine_of primary (r ∷ log)) ≡ (when is_to primary r then own_bits (get_or r.bytes 1 0) else last_bits key (mine_of primary log))
unfolding bits_of
more_here primary key r log e =
    one_more primary key r log
    ∙ ap (λ (x : ℕ). when is_to primary r then x else last_bits key (mine_of primary log)) (if_is_true (is_of key r.frame) (own_bits (get_or r.bytes 1 0)) (last_bits key (mine_of primary log)) e)

-- the bits that frames say are own bits
own_if : (t : Bool) (a b : ℕ) → own_bits a ≡ a → own_bits b ≡ b → own_bits (when t then a else b) ≡ (when t then a else b)
unfolding when◌then◌else◌
own_if true a b e f = e
own_if false a b e f = f

bits_own : (key : Key) (primary : Bool) (r : Reading) (before : ℕ) → own_bits before ≡ before → own_bits (bits_of key primary r before) ≡ bits_of key primary r before
unfolding bits_of
bits_own key primary r before e =
    own_if (is_to primary r) (when is_of key r.frame then own_bits (get_or r.bytes 1 0) else before) before
    (own_if (is_of key r.frame) (own_bits (get_or r.bytes 1 0)) before (own_own (get_or r.bytes 1 0)) e) e

last_own : (primary : Bool) (key : Key) (log : List Reading) → own_bits (last_bits key (mine_of primary log)) ≡ last_bits key (mine_of primary log)
unfolding mine_of last_bits
last_own primary key [] = own_none
last_own primary key (r ∷ log) =
    ap own_bits (one_more primary key r log) ∙ bits_own key primary r (last_bits key (mine_of primary log)) (last_own primary key log) ∙ sym (one_more primary key r log)

-- no frame of a key, no bits
some_none : (r : Reading) → some r ≡ none → ⊥
some_none r e = true_false (ap is_some e)
  where
    is_some : Option Reading → Bool
    is_some none = false
    is_some (some x) = true

none_bits : (primary : Bool) (key : Key) (log : List Reading) → newest_of key log ≡ none → last_bits key (mine_of primary log) ≡ 0
unfolding newest_of mine_of last_bits
none_bits primary key [] e = refl
none_bits primary key (r ∷ log) e = by (is_of key r.frame) refl (none_bits primary key log)
  where
    by : (t : Bool) → is_of key r.frame ≡ t → (newest_of key log ≡ none → last_bits key (mine_of primary log) ≡ 0) → last_bits key (mine_of primary (r ∷ log)) ≡ 0
    by true f rest = absurd (some_none r (sym (if_is_true (is_of key r.frame) (some r) (newest_of key log) f) ∙ e))
    by false f rest = more_other primary key r log f ∙ rest (sym (newest_later key r log f) ∙ e)

-- a new row's bits, for either master
new_bits : (primary p empty : Bool) (own kt kf : ℕ) → empty ≡ false
    → (when empty then 0 else when primary then (when p then own else kt) else (when p then kf else own))
    ≡ (when (when primary then p else when p then false else true) then own else (when primary then kt else kf))
unfolding when◌then◌else◌
new_bits primary p true own kt kf e = absurd (true_false e)
new_bits true true false own kt kf e = refl
new_bits true false false own kt kf e = refl
new_bits false true false own kt kf e = refl
new_bits false false false own kt kf e = refl

kept_by : (primary : Bool) (row : Row) → (when primary then kept_bits true row else kept_bits false row) ≡ kept_bits primary row
kept_by true row = if_is_true true (kept_bits true row) (kept_bits false row) refl
kept_by false row = if_is_false false (kept_bits true row) (kept_bits false row) refl

-- ---- "must not change the other's": on any table, what is not to a master leaves the bits that its host is shown in every row that was filled
kept_stays : (rows : List Row) (area : List ℕ) (r : Reading) (primary : Bool) (j : ℕ) → j < length rows → is_empty (row_of rows j) ≡ false → is_to primary r ≡ false
    → kept_bits primary (row_of (entered rows area r.tick (Frame r.frame) r.bytes).rows j) ≡ kept_bits primary (row_of rows j)
kept_stays rows area r primary j lj f other = by (entered rows area r.tick (Frame r.frame) r.bytes) (is_entered rows area r.frame r.bytes) (entered_view rows area r)
  where
    by : (e : Entered) (was : Bool) → EnteredView rows area r e was → kept_bits primary (row_of e.rows j) ≡ kept_bits primary (row_of rows j)
    by e was (EnteredView.stays n q g) = ap (λ (x : Entered). kept_bits primary (row_of x.rows j)) q
    by e was (EnteredView.goes i q g l room reads to) = ap (λ (x : Entered). kept_bits primary (row_of x.rows j)) q ∙ at (same? j i)
      where
        at : Dec (j ≡ i) → kept_bits primary (row_of (set rows i (new_row rows i r.tick r.frame r.bytes)) j) ≡ kept_bits primary (row_of rows j)
        at (no ne) = ap (kept_bits primary) (there rows area r i l reads j ne)
        at (yes e) =
            ap (λ (n : ℕ). kept_bits primary (row_of (set rows i (new_row rows i r.tick r.frame r.bytes)) n)) e
            ∙ ap (kept_bits primary) (here rows area r i l reads)
            ∙ new_bits primary r.frame.header.primary (is_empty (new_row rows i r.tick r.frame r.bytes)) (own_bits (get_or r.bytes 1 0)) (kept_bits true (row_of rows i)) (kept_bits false (row_of rows i))
            (filled_new rows area r i l reads)
            ∙ if_is_false (is_to primary r) (own_bits (get_or r.bytes 1 0)) (when primary then kept_bits true (row_of rows i) else kept_bits false (row_of rows i)) other
            ∙ kept_by primary (row_of rows i)
            ∙ ap (λ (n : ℕ). kept_bits primary (row_of rows n)) (sym e)

pub other_stays : (k : Kept) (r : Reading) (primary : Bool) → OtherStays k r primary
unfolding after_op
other_stays k r primary = record {
  stays = λ other j lj filled.
      own_shown (get_or (entered k.rows k.area r.tick (Frame r.frame) r.bytes).area (row_bytes * j + 1) 0) (kept_bits primary (row_of (entered k.rows k.area r.tick (Frame r.frame) r.bytes).rows j))
      ∙ ap own_bits (kept_stays k.rows k.area r primary j lj filled other)
      ∙ sym (own_shown (get_or k.area (row_bytes * j + 1) 0) (kept_bits primary (row_of k.rows j)));
}

-- ---- a frame to be entered has at least 2 data bytes
reading_count : (w : Whole) (bytes : List ℕ) → is_reading w bytes ≡ true → 2 ≤ w.count
reading_count w bytes e =
    let a = (went_else (128 ≤? get_or bytes 0 0) false _ true e (λ q. true_false (sym q))).1 in
    let b = (went_else (w.header.address =? 0) false _ true a (λ q. true_false (sym q))).1 in
    let c = (went_else (274877906944 ≤? w.header.address) false _ true b (λ q. true_false (sym q))).1 in
    let d = (went_else (w.count <? 2) false _ true c (λ q. true_false (sym q))).0 in
    ltb-false w.count 2 d

length_least : (n : ℕ) (xs : List ℕ) → 2 ≤ n → 2 ≤ length xs → 1 < length (take n xs)
length_least zero xs a b = absurd (omega (arith, a))
length_least (suc zero) xs a b = absurd (omega (arith, a))
length_least (suc (suc n)) [] a b = absurd (omega (arith, b))
length_least (suc (suc n)) (x ∷ []) a b = absurd (omega (arith, b))
length_least (suc (suc n)) (x ∷ y ∷ xs) a b = omega arith

-- so its second one is stored, without the two bits
second_stored : (w : Whole) (bytes : List ℕ) → is_reading w bytes ≡ true → length bytes ≡ row_bytes → (1 < length (stored_data w bytes)) × (own_bits (get_or (stored_data w bytes) 1 0) ≡ 0)
second_stored w bytes reads full =
    let two = reading_count w bytes reads in
    let same = length-set bytes 1 (common_byte (get_or bytes 1 0)) in (
      length_least w.count (stored_bytes bytes) two (let m : 2 ≤ length (stored_bytes bytes) = omega (arith, same, full) in m),
      ap own_bits (get_or-take w.count (stored_bytes bytes) 1 0 (omega (arith, two)) ∙ get_or-set_same bytes 1 (common_byte (get_or bytes 1 0)) 0 (omega (arith, full)))
          ∙ common_own (get_or bytes 1 0),
    )

-- the invariant: what is kept for each master, and that the stored byte has neither bit
record KeptIs (k : Kept) : Type 0 where
  keeps : (primary : Bool) (i : ℕ) → i < length k.rows → is_empty (row_of k.rows i) ≡ false → kept_bits primary (row_of k.rows i) ≡ last_bits (key_in (row_of k.rows i)) (mine_of primary k.log)
  bare : (i : ℕ) → i < length k.rows → is_empty (row_of k.rows i) ≡ false → own_bits (get_or k.area (row_bytes * i + 1) 0) ≡ 0

module _ (rows : List Row) (area : List ℕ) (log : List Reading) (v : Newest (record { rows = rows; area = area; log = log })) (w : KeptIs (record { rows = rows; area = area; log = log })) (r : Reading) (fits : r.frame.count ≤ row_bytes)
    (full : length r.bytes ≡ row_bytes) (i : ℕ) (l : i < length rows) (room : row_bytes * length rows ≤ length area) (reads : is_reading r.frame r.bytes ≡ true) (to : Goes rows (key_of r.frame) i) where
  abbrev key : Key
  key = key_of r.frame

  abbrev row_new : Row
  row_new = new_row rows i r.tick r.frame r.bytes

  abbrev rows_new : List Row
  rows_new = set rows i row_new

  abbrev area_new : List ℕ
  area_new = stored area (row_bytes * i) (stored_data r.frame r.bytes)

  -- what the row kept for a master is what the frames to it said so far
  kept_is : (primary : Bool) → kept_bits primary (row_of rows i) ≡ last_bits key (mine_of primary log)
  kept_is primary = by to
    where
      by : Goes rows key i → kept_bits primary (row_of rows i) ≡ last_bits key (mine_of primary log)
      by (Goes.to_match k first) =
          let one = key_is (row_of rows i).address (row_of rows i).command key.address key.command k in
          let was_filled : is_empty (row_of rows i) ≡ false = ne_eqb (row_of rows i).address 0 (λ z. reading_address r.frame r.bytes reads (sym one.0 ∙ z)) in
          w.keeps primary i l was_filled ∙ ap (λ (x : Key). last_bits x (mine_of primary log)) (same_key (key_in (row_of rows i)) key one.0 one.1)
      by (Goes.to_empty k first no_key) =
          if_is_true (is_empty (row_of rows i)) 0 (when primary then (row_of rows i).primary else (row_of rows i).secondary) k
          ∙ sym (none_bits primary key log (is_none (newest_of key log) refl))
        where
          is_none : (n : Option Reading) → newest_of key log ≡ n → newest_of key log ≡ none
          is_none none e = e
          is_none (some s) e = let row = v.has_row key s e in absurd (true_false (sym row.1.1.1 ∙ no_key row.0 row.1.0))

  both : (t : Bool) → (when t then kept_bits true (row_of rows i) else kept_bits false (row_of rows i)) ≡ last_bits key (mine_of t log)
  both true = if_is_true true (kept_bits true (row_of rows i)) (kept_bits false (row_of rows i)) refl ∙ kept_is true
  both false = if_is_false false (kept_bits true (row_of rows i)) (kept_bits false (row_of rows i)) refl ∙ kept_is false

  keeps_new : (primary : Bool) → kept_bits primary row_new ≡ last_bits key (mine_of primary (r ∷ log))
  keeps_new primary =
      new_bits primary r.frame.header.primary (is_empty row_new) (own_bits (get_or r.bytes 1 0)) (kept_bits true (row_of rows i)) (kept_bits false (row_of rows i)) (filled_new rows area r i l reads)
      ∙ ap (λ (x : ℕ). when is_to primary r then own_bits (get_or r.bytes 1 0) else x) (both primary)
      ∙ sym (more_here primary key r log (key_new rows area r i l reads))

  abbrev Keeps : Bool → Row → Type 0
  Keeps primary row = kept_bits primary row ≡ last_bits (key_in row) (mine_of primary (r ∷ log))

  kept_entered : KeptIs (record { rows = rows_new; area = area_new; log = r ∷ log })
  kept_entered = record { keeps = all; bare = each }
    where
      all : (primary : Bool) (j : ℕ) → j < length rows_new → is_empty (row_of rows_new j) ≡ false → Keeps primary (row_of rows_new j)
      all primary j lj f = by (same? j i)
        where
          by : Dec (j ≡ i) → Keeps primary (row_of rows_new j)
          by (yes e) = subst (Keeps primary) (sym (ap (row_of rows_new) e ∙ here rows area r i l reads)) (keeps_new primary)
          by (no ne) =
              let stays = there rows area r i l reads j ne in
              let lj' = in_old rows area r i l reads j lj in
              subst (Keeps primary) (sym stays)
              (w.keeps primary j lj' (ap is_empty (sym stays) ∙ f) ∙ sym (more_other primary (key_in (row_of rows j)) r log (not_of rows area log v r fits i l room reads to j lj' ne)))

      each : (j : ℕ) → j < length rows_new → is_empty (row_of rows_new j) ≡ false → own_bits (get_or area_new (row_bytes * j + 1) 0) ≡ 0
      each j lj f = by (same? j i)
        where
          by : Dec (j ≡ i) → own_bits (get_or area_new (row_bytes * j + 1) 0) ≡ 0
          by (yes e) =
              let second = second_stored r.frame r.bytes reads full in
              ap (λ (n : ℕ). own_bits (get_or area_new (row_bytes * n + 1) 0)) e ∙ ap own_bits (bytes_new rows area r i l reads fits room 1 second.0) ∙ second.1
          by (no ne) =
              let stays = there rows area r i l reads j ne in
              ap own_bits (bytes_stay rows area r i l reads fits j 1 ne (omega arith)) ∙ w.bare j (in_old rows area r i l reads j lj) (ap is_empty (sym stays) ∙ f)

-- ---- from a cleared table on
kept_fresh : (n : ℕ) (area : List ℕ) → KeptIs (fresh n area)
kept_fresh n area = record {
  keeps = λ primary i l e. absurd (true_false (sym (ap is_empty (empty_row_in n i l)) ∙ e));
  bare = λ i l e. absurd (true_false (sym (ap is_empty (empty_row_in n i l)) ∙ e));
}

frame_kept : (k : Kept) (r : Reading) → r.frame.count ≤ row_bytes → length r.bytes ≡ row_bytes → Newest k → KeptIs k → KeptIs (after_op (told r.tick (Frame r.frame) r.bytes) k)
unfolding after_op
frame_kept k r fits full v w = by (entered k.rows k.area r.tick (Frame r.frame) r.bytes) (is_entered k.rows k.area r.frame r.bytes) (entered_view k.rows k.area r)
  where
    by : (e : Entered) (was : Bool) → EnteredView k.rows k.area r e was → KeptIs (record { rows = e.rows; area = e.area; log = when was then r ∷ k.log else k.log })
    by e was (EnteredView.stays n q f) = subst KeptIs (kept_same k e _ _ _ q (if_is_false was (r ∷ k.log) k.log f)) w
    by e was (EnteredView.goes i q f l room reads to) =
        subst KeptIs (kept_same k e _ _ _ q (if_is_true was (r ∷ k.log) k.log f))
        (kept_entered k.rows k.area k.log v w r fits full i l room reads to)

kept_after : (op : Op) (k : Kept) → OpFits op → Newest k → KeptIs k → KeptIs (after_op op k)
unfolding after_op
kept_after clears k fits v w = kept_fresh (length k.rows) k.area
kept_after (told tick (Frame x) bytes) k fits v w = frame_kept k (record { tick = tick; frame = x; bytes = bytes }) fits.0 fits.1 v w
kept_after (told tick Nothing bytes) k fits v w = subst KeptIs (sym (no_frame_kept k tick Nothing bytes refl (λ x e. not_frame Nothing x refl e))) w
kept_after (told tick PassedOver bytes) k fits v w = subst KeptIs (sym (no_frame_kept k tick PassedOver bytes refl (λ x e. not_frame PassedOver x refl e))) w
kept_after (told tick Broken bytes) k fits v w = subst KeptIs (sym (no_frame_kept k tick Broken bytes refl (λ x e. not_frame Broken x refl e))) w
kept_after (told tick (Damaged y m) bytes) k fits v w = subst KeptIs (sym (no_frame_kept k tick (Damaged y m) bytes refl (λ x e. not_frame (Damaged y m) x refl e))) w

kept_all : (ops : List Op) (k : Kept) → OpsFit ops → Newest k → KeptIs k → KeptIs (after_all ops k)
unfolding after_all
kept_all [] k fits v w = w
kept_all (op ∷ ops) k fits v w = kept_all ops (after_op op k) fits.1 (newest_after op k fits.0 v) (kept_after op k fits.0 v w)

-- what a host is shown, for every list of operations
pub shown_is : FromCleared Shown
shown_is n area ops fits =
    let k = after_all ops (fresh n area) in
    let w = kept_all ops (fresh n area) fits (newest_fresh n area) (kept_fresh n area) in
    record {
      stored = w.bare;
      shows = λ primary i l filled.
          own_shown (get_or k.area (row_bytes * i + 1) 0) (kept_bits primary (row_of k.rows i))
          ∙ ap own_bits (w.keeps primary i l filled)
          ∙ last_own primary (key_in (row_of k.rows i)) k.log;
    }

-- two runs from cleared tables, of any sizes
pub apart : Apart
apart primary n m area area₂ ops ops₂ f g e = record {
  same = λ i j l lj filled of.
      let k = after_all ops (fresh n area) in
      let k₂ = after_all ops₂ (fresh m area₂) in
      let both = key_is (row_of k₂.rows j).address (row_of k₂.rows j).command (row_of k.rows i).address (row_of k.rows i).command of in
      let filled₂ : is_empty (row_of k₂.rows j) ≡ false = ap (λ (x : ℕ). x =? 0) both.0 ∙ filled in
      let one = (shown_is n area ops f).shows primary i l filled in
      let two = (shown_is m area₂ ops₂ g).shows primary j lj filled₂ in
      one
      ∙ ap (λ (x : List Mine). last_bits (key_in (row_of k.rows i)) x) e
      ∙ ap (λ (x : Key). last_bits x (mine_of primary k₂.log)) (sym (same_key (key_in (row_of k₂.rows j)) (key_in (row_of k.rows i)) both.0 both.1))
      ∙ sym two;
}
