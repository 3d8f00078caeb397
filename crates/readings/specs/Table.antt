-- To be believed: what the engine must do, or what is claimed of it.
-- Document 02, item 7: "The logger lends a table of rows: unique address, command, tick heard (its last character's), byte count, and the place of the data in a lent byte area". Every list of rows is some table: with empty rows anywhere, with rows of one address and command, with any numbers. Item 8: "Each row therefore holds these two bits once per master, and its data byte is stored with both as 0."
use Rattle.std.specs.Prelude.{ℕ, suc, ◌+◌, ◌-◌, ◌*◌, ◌/◌, ◌%◌, ◌^◌, Bool, true, false, List, [], ◌∷◌, length, take, set, get_or, replicate}
use Rattle.base.specs.Choice.{when◌then◌else◌, ◌<?◌, ◌≤?◌, ◌=?◌}
use Rattle.base.specs.Refusal.{number}
use Rattle.base.specs.declared.Refusal.TheVariants.{BufferShort, TableFull}
use Rattle.base.specs.Store.{stored}
use Rattle.frame.specs.Delimiter.{from_device}
use Rattle.line.specs.declared.Event.{Event}
use Rattle.line.specs.declared.Event.TheVariants.{Nothing, PassedOver, Broken, Frame, Damaged}
use Rattle.line.specs.declared.Whole.{Whole}
use Rattle.readings.specs.declared.Key.{Key}
use Rattle.readings.specs.declared.Row.{Row}
use Rattle.readings.specs.declared.Sought.{Sought}
use Rattle.readings.specs.declared.Sought.TheVariants.{Match, Empty, Full}

-- "255 bytes a row in row order"
abbrev pub row_bytes : ℕ
row_bytes = 255

-- "A row is emptied only by clearing the whole table to 0, data aside."
abbrev pub empty_row : Row
empty_row = record { address = 0; tick = 0; place = 0; command = 0; count = 0; primary = 0; secondary = 0; spare = 0 }

abbrev pub cleared : List Row → List Row
cleared rows = replicate (length rows) empty_row

-- ---- which frames

-- "One with bit 7 of its first data byte set, or of address 0, is not entered"; every other "long BACK or ACK" is. A tick tells no unique address above 38 bits, and no ACK or BACK with fewer than 2 data bytes; a frame that no tick told may have them, and is not entered.
abbrev pub is_reading : Whole → List ℕ → Bool
is_reading w bytes =
    when 128 ≤? get_or bytes 0 0 then false else
    when w.header.address =? 0 then false else
    when 2 ^ 38 ≤? w.header.address then false else
    when w.count <? 2 then false else
    when w.header.long then from_device w.header.kind else
    false

-- ---- which row

-- "its address and command"
abbrev pub key_of : Whole → Key
key_of w = record { address = w.header.address; command = w.header.command }

abbrev pub has_key : Key → Row → Bool
has_key key row = when row.address =? key.address then row.command =? key.command else false

-- "empty row (address 0)"
abbrev pub is_empty : Row → Bool
is_empty row = row.address =? 0

-- the number of the first row of which a test holds, or the number of rows where it holds of none
unfoldable pub first_of : (Row → Bool) → List Row → ℕ
first_of test [] = 0
first_of test (row ∷ rows) = when test row then 0 else suc (first_of test rows)

-- row i of a table
abbrev pub row_of : List Row → ℕ → Row
row_of rows i = get_or rows i empty_row

-- "supersedes the first row of its address and command, else takes the first empty row": its number, and what it holds
unfoldable pub sought : List Row → Key → Sought
sought rows key =
    when first_of (has_key key) rows <? length rows then Match (first_of (has_key key) rows) (row_of rows (first_of (has_key key) rows)) else
    when first_of is_empty rows <? length rows then Empty (first_of is_empty rows) (row_of rows (first_of is_empty rows)) else
    Full

-- the row that a host looks up: the first of an address and command, or the number of rows where there is none; no device has address 0
abbrev pub looked_up : List Row → Key → ℕ
looked_up rows key = when key.address =? 0 then length rows else first_of (has_key key) rows

-- ---- the two bits of each master

-- "The second data byte has two bits meant for one master only: 0x40 configuration changed and 0x10 more status available."
abbrev pub configuration_changed : ℕ
configuration_changed = 0x40

abbrev pub more_status : ℕ
more_status = 0x10

abbrev pub own_bits : ℕ → ℕ
own_bits b = configuration_changed * (b / configuration_changed % 2) + more_status * (b / more_status % 2)

-- "its data byte is stored with both as 0"
abbrev pub common_byte : ℕ → ℕ
common_byte b = b - own_bits b

abbrev pub stored_bytes : List ℕ → List ℕ
stored_bytes bytes = set bytes 1 (common_byte (get_or bytes 1 0))

-- "A new row's bits are 0 for the master it was not sent to": of an empty row no bits are kept
abbrev pub kept_bits : Bool → Row → ℕ
kept_bits primary row = when is_empty row then 0 else when primary then row.primary else row.secondary

-- "what one host is shown": the second data byte, as it is stored, with its own two bits as they are kept for its master
abbrev pub shown_byte : ℕ → ℕ → ℕ
shown_byte stored bits = common_byte stored + own_bits bits

-- ---- what entering leaves

-- "A frame to one master sets its two bits and must not change the other's": the frame's master bit says to which it is
abbrev pub row_for : ℕ → ℕ → Whole → ℕ → Row → Row
row_for i tick w second was = record {
  address = w.header.address;
  tick = tick;
  place = row_bytes * i;
  command = w.header.command;
  count = w.count;
  primary = when w.header.primary then own_bits second else kept_bits true was;
  secondary = when w.header.primary then kept_bits false was else own_bits second;
  spare = 0;
}

-- the bytes of its data that are stored
abbrev pub stored_data : Whole → List ℕ → List ℕ
stored_data w bytes = take w.count (stored_bytes bytes)

-- the row that a frame leaves at row i
abbrev pub new_row : List Row → ℕ → ℕ → Whole → List ℕ → Row
new_row rows i tick w bytes = row_for i tick w (get_or bytes 1 0) (row_of rows i)

-- after entering: the table's rows, its byte area, and 0 or the refusal's number
pub record Entered : Type 0 where
  pub rows : List Row
  pub area : List ℕ
  pub refusal : ℕ

abbrev pub unchanged : List Row → List ℕ → ℕ → Entered
unchanged rows area refusal = record { rows = rows; area = area; refusal = refusal }

-- "Every other row and data bytes past the new count stay."
abbrev pub superseded : List Row → List ℕ → ℕ → Whole → List ℕ → ℕ → Entered
superseded rows area tick w bytes i = record {
  rows = set rows i (new_row rows i tick w bytes);
  area = stored area (row_bytes * i) (stored_data w bytes);
  refusal = 0;
}

abbrev pub entered_by : List Row → List ℕ → ℕ → Whole → List ℕ → Sought → Entered
entered_by rows area tick w bytes (Match i was) = superseded rows area tick w bytes i
entered_by rows area tick w bytes (Empty i was) = superseded rows area tick w bytes i
entered_by rows area tick w bytes Full = unchanged rows area (number TableFull)

-- "An undamaged" frame is entered; nothing else that a tick tells is
abbrev pub entered_of : List Row → List ℕ → ℕ → Event → List ℕ → Entered
entered_of rows area tick Nothing bytes = unchanged rows area 0
entered_of rows area tick PassedOver bytes = unchanged rows area 0
entered_of rows area tick Broken bytes = unchanged rows area 0
entered_of rows area tick (Frame w) bytes = when is_reading w bytes then entered_by rows area tick w bytes (sought rows (key_of w)) else unchanged rows area 0
entered_of rows area tick (Damaged w m) bytes = unchanged rows area 0

-- "It refuses an area below 255 bytes a row with 15, then a frame to be entered with 20 when no row matches and all are filled."
unfoldable pub entered : List Row → List ℕ → ℕ → Event → List ℕ → Entered
entered rows area tick event bytes =
    when length area <? row_bytes * length rows then unchanged rows area (number BufferShort) else
    entered_of rows area tick event bytes
