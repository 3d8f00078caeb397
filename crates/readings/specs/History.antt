-- To be believed: what the engine must do, or what is claimed of it.
-- Document 02, item 7: "Analysts want the newest data per device and command." What one operation leaves of any table, and what a table holds after any list of operations from a cleared table on.
use Rattle.std.specs.Prelude.{ℕ, ◌+◌, ◌*◌, ◌<◌, ◌≤◌, Bool, true, false, List, [], ◌∷◌, ◌≡◌, length, get_or, replicate}
use Rattle.std.proofs.Math.Option.{Option, none, some}
use Rattle.base.specs.Choice.{when◌then◌else◌, ◌<?◌, ◌=?◌}
use Rattle.line.specs.declared.Event.{Event}
use Rattle.line.specs.declared.Event.TheVariants.{Nothing, PassedOver, Broken, Frame, Damaged}
use Rattle.line.specs.declared.Whole.{Whole}
use Rattle.readings.specs.Table.{row_bytes, is_reading, key_of, has_key, is_empty, row_of, sought, looked_up, stored_data, empty_row, Entered, unchanged, entered, cleared}
use Rattle.readings.specs.declared.Key.{Key}
use Rattle.readings.specs.declared.Row.{Row}
use Rattle.readings.specs.declared.Sought.{Sought}
use Rattle.readings.specs.declared.Sought.TheVariants.{Match, Empty, Full}

-- a test holds of no row
abbrev pub NoRow : (Row → Bool) → List Row → Type 0
NoRow test rows = (j : ℕ) → j < length rows → test (row_of rows j) ≡ false

-- ---- one operation, on any table

-- "supersedes the first row of its address and command, else takes the first empty row (address 0)": which row is sought, said by facts on the rows
pub data SoughtIs (rows : List Row) (key : Key) (s : Sought) : Type 0 where
  is_match : (i : ℕ) → s ≡ Match i (row_of rows i) → i < length rows → has_key key (row_of rows i) ≡ true
      → ((j : ℕ) → j < i → has_key key (row_of rows j) ≡ false)
      → SoughtIs rows key s
  is_first_empty : (i : ℕ) → s ≡ Empty i (row_of rows i) → i < length rows → is_empty (row_of rows i) ≡ true
      → ((j : ℕ) → j < i → is_empty (row_of rows j) ≡ false)
      → NoRow (has_key key) rows → SoughtIs rows key s
  is_full : s ≡ Full → NoRow (has_key key) rows → NoRow is_empty rows → SoughtIs rows key s

-- "Every other row and data bytes past the new count stay": there is one row such that every other row stays, and so does every byte before its data or past its new count
pub record OneRow (rows : List Row) (area : List ℕ) (e : Entered) : Type 0 where
  pub row : ℕ
  pub others_stay : (j : ℕ) → (j ≡ row → ⊥) → row_of e.rows j ≡ row_of rows j
  pub before_stay : (k : ℕ) → k < row_bytes * row → get_or e.area k 0 ≡ get_or area k 0
  pub past_stay : (k : ℕ) → row_bytes * row + (row_of e.rows row).count ≤ k → get_or e.area k 0 ≡ get_or area k 0
  pub same_rows : length e.rows ≡ length rows
  pub same_area : length e.area ≡ length area

-- no row matches and all are filled
abbrev pub IsFull : List Row → Whole → Type 0
IsFull rows w = NoRow (has_key (key_of w)) rows × NoRow is_empty rows

-- the refusals: 15 exactly where the area is short; else 20 exactly for a frame to be entered for which the table is full; and a refused call changes nothing
pub record Refuses (rows : List Row) (area : List ℕ) (event : Event) (bytes : List ℕ) (e : Entered) : Type 0 where
  pub short : length area < row_bytes * length rows → e.refusal ≡ 15
  pub is_short : e.refusal ≡ 15 → length area < row_bytes * length rows
  pub full : row_bytes * length rows ≤ length area → (w : Whole) → event ≡ Frame w → is_reading w bytes ≡ true → IsFull rows w → e.refusal ≡ 20
  pub is_full : e.refusal ≡ 20 → (w : Whole) × ((event ≡ Frame w) × ((is_reading w bytes ≡ true) × IsFull rows w))
  pub stays : (e.refusal ≡ 0 → ⊥) → e ≡ unchanged rows area e.refusal

-- ---- any list of operations

-- what the hosts do with a table, whichever host it is: they enter what a tick tells, with the tick of the frame's last character and the lent buffer whose first bytes are its data; or they clear the table
pub data Op : Type 0 where
  told : ℕ → Event → List ℕ → Op
  clears : Op

-- a frame that was entered
pub record Reading : Type 0 where
  pub tick : ℕ
  pub frame : Whole
  pub bytes : List ℕ

abbrev pub is_place : Sought → Bool
is_place (Match i was) = true
is_place (Empty i was) = true
is_place Full = false

-- whether a frame is entered
abbrev pub is_entered : List Row → List ℕ → Whole → List ℕ → Bool
is_entered rows area w bytes =
    when length area <? row_bytes * length rows then false else
    when is_reading w bytes then is_place (sought rows (key_of w)) else
    false

-- a table with its byte area, and the frames that were entered since it was cleared, the newest first
pub record Kept : Type 0 where
  pub rows : List Row
  pub area : List ℕ
  pub log : List Reading

abbrev pub logged : Kept → ℕ → Event → List ℕ → List Reading
logged k tick Nothing bytes = k.log
logged k tick PassedOver bytes = k.log
logged k tick Broken bytes = k.log
logged k tick (Frame w) bytes = when is_entered k.rows k.area w bytes then record { tick = tick; frame = w; bytes = bytes } ∷ k.log else k.log
logged k tick (Damaged w m) bytes = k.log

unfoldable pub after_op : Op → Kept → Kept
after_op (told tick event bytes) k = record {
  rows = (entered k.rows k.area tick event bytes).rows;
  area = (entered k.rows k.area tick event bytes).area;
  log = logged k tick event bytes;
}
after_op clears k = record { rows = cleared k.rows; area = k.area; log = [] }

unfoldable pub after_all : List Op → Kept → Kept
after_all [] k = k
after_all (op ∷ ops) k = after_all ops (after_op op k)

-- a cleared table of n rows
abbrev pub fresh : ℕ → List ℕ → Kept
fresh n area = record { rows = replicate n empty_row; area = area; log = [] }

-- a byte count is a byte, and the lent buffer has 255 bytes, as the code's types say
abbrev pub OpFits : Op → Type 0
OpFits (told tick (Frame w) bytes) = (w.count ≤ row_bytes) × (length bytes ≡ row_bytes)
OpFits (told tick Nothing bytes) = Unit {0}
OpFits (told tick PassedOver bytes) = Unit {0}
OpFits (told tick Broken bytes) = Unit {0}
OpFits (told tick (Damaged w m) bytes) = Unit {0}
OpFits clears = Unit {0}

abbrev pub OpsFit : List Op → Type 0
OpsFit [] = Unit {0}
OpsFit (op ∷ ops) = OpFits op × OpsFit ops

-- a claim on every table after any list of operations from a cleared table on, of any number of rows and with any byte area
abbrev pub FromCleared : (Kept → Type 0) → Type 0
FromCleared claim = (n : ℕ) (area : List ℕ) (ops : List Op) → OpsFit ops → claim (after_all ops (fresh n area))

-- the newest frame of an address and a command
abbrev pub is_of : Key → Whole → Bool
is_of key w = when w.header.address =? key.address then w.header.command =? key.command else false

unfoldable pub newest_of : Key → List Reading → Option Reading
newest_of key [] = none
newest_of key (r ∷ log) = when is_of key r.frame then some r else newest_of key log

-- row i holds a frame: its fields, and its data at their place
pub record RowHolds (area : List ℕ) (i : ℕ) (row : Row) (r : Reading) : Type 0 where
  pub address : row.address ≡ r.frame.header.address
  pub command : row.command ≡ r.frame.header.command
  pub tick : row.tick ≡ r.tick
  pub count : row.count ≡ r.frame.count
  pub place : row.place ≡ row_bytes * i
  pub in_row : r.frame.count ≤ row_bytes
  pub bytes : (k : ℕ) → k < length (stored_data r.frame r.bytes) → get_or area (row_bytes * i + k) 0 ≡ get_or (stored_data r.frame r.bytes) k 0

-- the key of a row
abbrev pub key_in : Row → Key
key_in row = record { address = row.address; command = row.command }

-- from a cleared table on: every filled row holds the newest frame of its address and command; every frame that was entered since has a row; no two rows have the same address and command; filled rows come first
pub record Newest (k : Kept) : Type 0 where
  pub held : (i : ℕ) → i < length k.rows → is_empty (row_of k.rows i) ≡ false
      → (r : Reading) × ((newest_of (key_in (row_of k.rows i)) k.log ≡ some r) × RowHolds k.area i (row_of k.rows i) r)
  pub has_row : (key : Key) (r : Reading) → newest_of key k.log ≡ some r
      → (i : ℕ) × ((i < length k.rows) × ((is_empty (row_of k.rows i) ≡ false) × (has_key key (row_of k.rows i) ≡ true)))
  pub keys_differ : (i j : ℕ) → i < length k.rows → j < length k.rows → is_empty (row_of k.rows i) ≡ false
      → has_key (key_in (row_of k.rows i)) (row_of k.rows j) ≡ true → i ≡ j
  pub filled_first : (i j : ℕ) → i < j → j < length k.rows → is_empty (row_of k.rows i) ≡ true → is_empty (row_of k.rows j) ≡ true

-- from a cleared table on: the row that is looked up by the key of a frame that was entered holds the newest frame of that key
abbrev pub Found : Kept → Type 0
Found k = (key : Key) (r : Reading) → newest_of key k.log ≡ some r
    → (looked_up k.rows key < length k.rows) × RowHolds k.area (looked_up k.rows key) (row_of k.rows (looked_up k.rows key)) r

-- what is told is of another key, or is no frame; the table is not cleared
abbrev pub OtherKey : Key → Op → Type 0
OtherKey key (told tick (Frame w) bytes) = is_of key w ≡ false
OtherKey key (told tick Nothing bytes) = Unit {0}
OtherKey key (told tick PassedOver bytes) = Unit {0}
OtherKey key (told tick Broken bytes) = Unit {0}
OtherKey key (told tick (Damaged w m) bytes) = Unit {0}
OtherKey key clears = ⊥

abbrev pub OtherKeys : Key → List Op → Type 0
OtherKeys key [] = Unit {0}
OtherKeys key (op ∷ ops) = OtherKey key op × OtherKeys key ops

-- a frame was entered, and then other operations came
abbrev pub entered_then : Kept → Reading → List Op → Kept
entered_then k r ops = after_all ops (after_op (told r.tick (Frame r.frame) r.bytes) k)

-- entering the newest frame of its key again changes nothing, on any table, whatever frames of other keys came between
pub record Again (k : Kept) (r : Reading) (ops : List Op) : Type 0 where
  pub nothing_changes : r.frame.count ≤ row_bytes → OpsFit ops → is_entered k.rows k.area r.frame r.bytes ≡ true → OtherKeys (key_of r.frame) ops
      → entered (entered_then k r ops).rows (entered_then k r ops).area r.tick (Frame r.frame) r.bytes
      ≡ unchanged (entered_then k r ops).rows (entered_then k r ops).area 0
