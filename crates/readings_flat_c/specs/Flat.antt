-- How the code stands for what is to be believed.
-- A table of flat numbers and a byte area, before and after what a tick tells is entered.
use Rattle.std.specs.Prelude.{ℕ, ◌/◌, ◌<◌, ◌^◌, List, ◌≡◌, length, Option, Some, None}
use Rattle.base.specs.Refusal.{Called, accepted, refused}
use Rattle.line.specs.declared.Event.{Event}
use Rattle.readings.specs.Table.{sought}
use Rattle.readings.specs.Search.{told_key, rows_of, numbers_put}
use Rattle.readings.specs.Stores.{put_for, EnterIs}
use Rattle.readings.specs.declared.Put.{Put}
use Rattle.readings.specs.declared.Row.{Row}

abbrev pub flat_put : List ℕ → List ℕ → ℕ → Event → List ℕ → Called (Option Put)
flat_put numbers area tick event bytes = put_for (length area) (length numbers / 7) (sought (rows_of numbers) (told_key event)) tick event bytes

-- the numbers with the row that is put, if one is
abbrev pub numbers_after : List ℕ → Called (Option Put) → List ℕ
numbers_after numbers (accepted (Some p)) = numbers_put numbers p.at p.row
numbers_after numbers (accepted None) = numbers
numbers_after numbers (refused n) = numbers

-- a row that is put; its command, its byte count and the masters' bits are bytes, as their types say
pub record RowIsPut (numbers numbers' : List ℕ) (at : ℕ) (row : Row) : Type 0 where
  pub numbers_are : numbers' ≡ numbers_put numbers at row
  pub command : row.command < 2 ^ 8
  pub count : row.count < 2 ^ 8
  pub primary : row.primary < 2 ^ 8
  pub secondary : row.secondary < 2 ^ 8

-- its rows are entered as those of any table, and every other number stays
pub record FlatIs (numbers numbers' area area' : List ℕ) (tick : ℕ) (event : Event) (bytes : List ℕ) (r : ℕ) : Type 0 where
  pub enters : EnterIs (rows_of numbers) (rows_of numbers') area area' tick event bytes r
  pub numbers_are : numbers' ≡ numbers_after numbers (flat_put numbers area tick event bytes)
