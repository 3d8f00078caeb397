-- To be believed: what the engine must do, or what is claimed of it.
-- Document 02, item 5: reads and writes of the registers. "It refuses a write to bytes 0, 3 and 4 to 7, and any byte above 7, with 19."
use Rattle.std.specs.Prelude.{ℕ, false, List, [], ◌∷◌}
use Rattle.base.specs.Choice.{when◌then◌else◌, ◌<?◌, ◌=?◌}
use Rattle.base.specs.Refusal.{Called, accepted, refused}
use Rattle.modem.specs.Chip.{receives, register_at, controlled, data_written}
use Rattle.modem.specs.declared.Chip.{Chip}
use Rattle.modem.specs.declared.Looked.{Looked}

-- "Reading byte 2 clears status bit 5."
abbrev pub register_read : Chip → ℕ → Called Looked
register_read x n =
    when 7 <? n then refused 19 else
    when n =? 2 then accepted (record { value = register_at x n; chip = receives x x.carrier x.latest x.kind false }) else
    accepted (record { value = register_at x n; chip = x })

abbrev pub register_written : Chip → ℕ → ℕ → Called Chip
register_written x n v =
    when n =? 1 then accepted (controlled x v) else
    when n =? 2 then accepted (data_written x v) else
    refused 19

-- the value and the chip after a read: a refused one shows 0 and changes nothing
abbrev pub looked_by : Chip → Called Looked → Looked
looked_by x (accepted looked) = looked
looked_by x (refused why) = record { value = 0; chip = x }

unfoldable pub looks : Chip → ℕ → Looked
looks x n = looked_by x (register_read x n)

-- the chip after a write: a refused one changes nothing
abbrev pub put_by : Chip → Called Chip → Chip
put_by x (accepted y) = y
put_by x (refused why) = x

unfoldable pub puts : Chip → ℕ → ℕ → Chip
puts x n v = put_by x (register_written x n v)

-- ---- accesses one after the other

-- a register is read, or written
pub data Access : Type 0 where
  reads : ℕ → Access
  writes : ℕ → ℕ → Access

-- the chip after an access, and after all of a list
abbrev pub accessed : Chip → Access → Chip
accessed x (reads n) = (looks x n).chip
accessed x (writes n v) = puts x n v

unfoldable pub after_all : Chip → List Access → Chip
after_all x [] = x
after_all x (a ∷ more) = after_all (accessed x a) more
