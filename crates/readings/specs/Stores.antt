-- How the code stands for what is to be believed.
-- The data of a frame that is entered are stored first, and its row is then put into the table.
use Rattle.std.specs.Prelude.{ℕ, ◌*◌, List, ◌≡◌, length, get_or, Option, Some, None, Result}
use Rattle.base.specs.Choice.{when◌then◌else◌, ◌<?◌, ◌=?◌}
use Rattle.base.specs.Refusal.{number, Called, accepted, refused, called_as}
use Rattle.base.specs.Store.{stored}
use Rattle.base.specs.declared.Refusal.{Refusal}
use Rattle.base.specs.declared.Refusal.TheVariants.{BufferShort, TableFull}
use Rattle.line.specs.declared.Event.{Event}
use Rattle.line.specs.declared.Event.TheVariants.{Nothing, PassedOver, Broken, Frame, Damaged}
use Rattle.line.specs.declared.Whole.{Whole}
use Rattle.readings.specs.Table.{row_bytes, is_reading, row_for, common_byte, stored_data, entered}
use Rattle.readings.specs.declared.Put.{Put}
use Rattle.readings.specs.declared.Row.{Row}
use Rattle.readings.specs.declared.Sought.{Sought}
use Rattle.readings.specs.declared.Sought.TheVariants.{Match, Empty, Full}

-- what is stored for data byte i
abbrev pub stored_byte : ℕ → ℕ → ℕ
stored_byte i b = when i =? 1 then common_byte b else b

-- no row is put
abbrev pub nothing_put : Called (Option Put)
nothing_put = accepted None

-- a frame's row at place i, where the row `was` stands
abbrev pub row_put : ℕ → ℕ → Whole → List ℕ → Row → Put
row_put i tick w bytes was = record { at = i; row = row_for i tick w (get_or bytes 1 0) was }

-- at a place that is no row's, nothing is put
abbrev pub put_at : ℕ → ℕ → Whole → List ℕ → ℕ → Row → Option Put
put_at rows tick w bytes i was = when i <? rows then Some (row_put i tick w bytes was) else None

abbrev pub put_by : ℕ → ℕ → Whole → List ℕ → Sought → Called (Option Put)
put_by rows tick w bytes (Match i was) = accepted (put_at rows tick w bytes i was)
put_by rows tick w bytes (Empty i was) = accepted (put_at rows tick w bytes i was)
put_by rows tick w bytes Full = refused (number TableFull)

abbrev pub put_frame : ℕ → Sought → ℕ → Whole → List ℕ → Called (Option Put)
put_frame rows s tick w bytes = when is_reading w bytes then put_by rows tick w bytes s else nothing_put

abbrev pub put_of : ℕ → Sought → ℕ → Event → List ℕ → Called (Option Put)
put_of rows s tick Nothing bytes = nothing_put
put_of rows s tick PassedOver bytes = nothing_put
put_of rows s tick Broken bytes = nothing_put
put_of rows s tick (Frame w) bytes = put_frame rows s tick w bytes
put_of rows s tick (Damaged w m) bytes = nothing_put

abbrev pub put_for : ℕ → ℕ → Sought → ℕ → Event → List ℕ → Called (Option Put)
put_for size rows s tick event bytes =
    when size <? row_bytes * rows then refused (number BufferShort) else
    put_of rows s tick event bytes

-- the byte area with the frame's data in row i
abbrev pub area_row : List ℕ → Whole → List ℕ → ℕ → List ℕ
area_row area w bytes i = stored area (row_bytes * i) (stored_data w bytes)

abbrev pub area_at : ℕ → List ℕ → Whole → List ℕ → ℕ → List ℕ
area_at rows area w bytes i = when i <? rows then area_row area w bytes i else area

abbrev pub area_by : ℕ → List ℕ → Whole → List ℕ → Sought → List ℕ
area_by rows area w bytes (Match i was) = area_at rows area w bytes i
area_by rows area w bytes (Empty i was) = area_at rows area w bytes i
area_by rows area w bytes Full = area

abbrev pub area_frame : ℕ → Sought → List ℕ → Whole → List ℕ → List ℕ
area_frame rows s area w bytes = when is_reading w bytes then area_by rows area w bytes s else area

abbrev pub area_of : ℕ → Sought → List ℕ → Event → List ℕ → List ℕ
area_of rows s area Nothing bytes = area
area_of rows s area PassedOver bytes = area
area_of rows s area Broken bytes = area
area_of rows s area (Frame w) bytes = area_frame rows s area w bytes
area_of rows s area (Damaged w m) bytes = area

abbrev pub area_for : ℕ → Sought → List ℕ → Event → List ℕ → List ℕ
area_for rows s area event bytes = when length area <? row_bytes * rows then area else area_of rows s area event bytes

-- what a frame that is entered in row i leaves: the area before and after, and the row that is put
pub record RowIs (area area' : List ℕ) (i tick : ℕ) (w : Whole) (bytes : List ℕ) (was : Row) (r : Put) : Type 0 where
  pub put_is : r ≡ row_put i tick w bytes was
  pub area_is : area' ≡ area_row area w bytes i

pub record PutIs (area area' : List ℕ) (rows i tick : ℕ) (w : Whole) (bytes : List ℕ) (was : Row) (r : Option Put) : Type 0 where
  pub put_is : r ≡ put_at rows tick w bytes i was
  pub area_is : area' ≡ area_at rows area w bytes i

pub record PutByIs (area area' : List ℕ) (rows : ℕ) (s : Sought) (tick : ℕ) (w : Whole) (bytes : List ℕ) (r : Result (Option Put) Refusal) : Type 0 where
  pub put_is : called_as r ≡ put_by rows tick w bytes s
  pub area_is : area' ≡ area_by rows area w bytes s

pub record FrameIs (area area' : List ℕ) (rows : ℕ) (s : Sought) (tick : ℕ) (w : Whole) (bytes : List ℕ) (r : Result (Option Put) Refusal) : Type 0 where
  pub put_is : called_as r ≡ put_frame rows s tick w bytes
  pub area_is : area' ≡ area_frame rows s area w bytes

pub record StoreIs (area area' : List ℕ) (rows : ℕ) (s : Sought) (tick : ℕ) (event : Event) (bytes : List ℕ) (r : Result (Option Put) Refusal) : Type 0 where
  pub put_is : called_as r ≡ put_for (length area) rows s tick event bytes
  pub area_is : area' ≡ area_for rows s area event bytes

-- a table of rows and a byte area, before and after what a tick tells is entered
pub record EnterIs (rows rows' : List Row) (area area' : List ℕ) (tick : ℕ) (event : Event) (bytes : List ℕ) (r : ℕ) : Type 0 where
  pub rows_are : rows' ≡ (entered rows area tick event bytes).rows
  pub area_is : area' ≡ (entered rows area tick event bytes).area
  pub returns : r ≡ (entered rows area tick event bytes).refusal
