-- How the code stands for what is to be believed.
-- The search, row by row: what it has found after each row; and a table as flat numbers, seven for a row in document 02's order.
use Rattle.std.specs.Prelude.{ℕ, zero, suc, ◌+◌, ◌*◌, ◌/◌, ◌%◌, List, [], ◌∷◌, get_or, length}
use Rattle.base.specs.Choice.{when◌then◌else◌, ◌≤?◌, ◌=?◌}
use Rattle.base.specs.Store.{stored}
use Rattle.line.specs.declared.Event.{Event}
use Rattle.line.specs.declared.Event.TheVariants.{Nothing, PassedOver, Broken, Frame, Damaged}
use Rattle.readings.specs.Table.{key_of, has_key, is_empty}
use Rattle.readings.specs.declared.Key.{Key}
use Rattle.readings.specs.declared.Row.{Row}
use Rattle.readings.specs.declared.Sought.{Sought}
use Rattle.readings.specs.declared.Sought.TheVariants.{Match, Empty, Full}

-- a key that no frame to be entered has
abbrev pub no_key : Key
no_key = record { address = 0; command = 0 }

-- the key that is searched for; where no frame is told, what is found does not matter
abbrev pub told_key : Event → Key
told_key Nothing = no_key
told_key PassedOver = no_key
told_key Broken = no_key
told_key (Frame w) = key_of w
told_key (Damaged w m) = no_key

-- one more row is looked at: a match stays; an empty row stays until there is a match; where neither was found yet, this row is taken if it is one of them
abbrev pub next : Sought → ℕ → Row → Key → Sought
next (Match i was) at row key = Match i was
next (Empty i was) at row key = when has_key key row then Match at row else Empty i was
next Full at row key = when has_key key row then Match at row else when is_empty row then Empty at row else Full

-- what the search finds, where the rows from a number on are still to be looked at
unfoldable pub sought_from : ℕ → Sought → List Row → Key → Sought
sought_from at s [] key = s
sought_from at s (row ∷ rows) key = sought_from (suc at) (next s at row key) rows key

-- the number of the matching row, or the number of rows where none matches
abbrev pub match_of : ℕ → Sought → ℕ
match_of rows (Match i was) = i
match_of rows (Empty i was) = rows
match_of rows Full = rows

abbrev pub looked_up_by : ℕ → Sought → Key → ℕ
looked_up_by rows s key = when key.address =? 0 then rows else match_of rows s

-- ---- flat numbers

-- the numbers of a row: address, command, tick, byte count, place of the data, the primary's bits, the secondary's
abbrev pub row_at : List ℕ → ℕ → Row
row_at numbers i = record {
  address = get_or numbers i 0;
  command = get_or numbers (i + 1) 0 % 256;
  tick = get_or numbers (i + 2) 0;
  count = get_or numbers (i + 3) 0 % 256;
  place = get_or numbers (i + 4) 0;
  primary = get_or numbers (i + 5) 0 % 256;
  secondary = get_or numbers (i + 6) 0 % 256;
  spare = 0;
}

-- so many rows, from the row with this number on
unfoldable pub rows_from : List ℕ → ℕ → ℕ → List Row
rows_from numbers i zero = []
rows_from numbers i (suc n) = row_at numbers (7 * i) ∷ rows_from numbers (suc i) n

-- the rows; numbers that are left over belong to none
abbrev pub rows_of : List ℕ → List Row
rows_of numbers = rows_from numbers 0 (length numbers / 7)

-- a row's numbers
abbrev pub row_numbers : Row → List ℕ
row_numbers row = row.address ∷ row.command ∷ row.tick ∷ row.count ∷ row.place ∷ row.primary ∷ row.secondary ∷ []

-- the numbers with a row put at a place, or as they were where no row has that place
abbrev pub numbers_put : List ℕ → ℕ → Row → List ℕ
numbers_put numbers at row = when length numbers / 7 ≤? at then numbers else stored numbers (7 * at) (row_numbers row)
