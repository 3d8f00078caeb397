-- To be believed: what the engine must do, or what is claimed of it.
-- Document 02, item 5: "Bytes 4 to 7 are a free-running tick count, most significant first, going from the largest value back to 0." The claims hold whatever happens to a chip.
use Rattle.std.specs.Prelude.{◌≡◌, ℕ, ◌+◌, ◌*◌, ◌%◌, ◌^◌, ◌<◌, List, [], ◌∷◌}
use Rattle.modem.specs.Chip.{arrives, chip_after, register_at, elapsed}
use Rattle.modem.specs.Accesses.{Access, accessed}
use Rattle.modem.specs.declared.Carried.{Carried}
use Rattle.modem.specs.declared.Chip.{Chip}

-- a tick begins with what the line carried in the tick before; a register is read or written; a tick ends
pub data Operation : Type 0 where
  begins : Carried → Operation
  accesses : Access → Operation
  ends : Operation

abbrev pub operated : Chip → Operation → Chip
operated x (begins w) = arrives x w
operated x (accesses a) = accessed x a
operated x ends = chip_after x

-- the chip after any operations, and how many ticks end in them
unfoldable pub chip_behind : Chip → List Operation → Chip
chip_behind x [] = x
chip_behind x (o ∷ os) = chip_behind (operated x o) os

unfoldable pub ticks_in : List Operation → ℕ
ticks_in [] = 0
ticks_in (ends ∷ os) = ticks_in os + 1
ticks_in (begins w ∷ os) = ticks_in os
ticks_in (accesses a ∷ os) = ticks_in os

-- "going from the largest value back to 0": after n ticks the count is n more, modulo 2^32
abbrev pub CountBehind : Type 0
CountBehind = (x : Chip) (os : List Operation) → x.count < 2 ^ 32 → (chip_behind x os).count ≡ (x.count + ticks_in os) % 2 ^ 32

-- bytes 4 to 7, "most significant first"
abbrev pub reading : Chip → ℕ
reading x = register_at x 4 * 16777216 + register_at x 5 * 65536 + register_at x 6 * 256 + register_at x 7

-- the ticks from one reading to a later one, as long as there are fewer than 2^32
abbrev pub ElapsedBehind : Type 0
ElapsedBehind = (x : Chip) (os : List Operation) → x.count < 2 ^ 32 → ticks_in os < 2 ^ 32 → elapsed (reading x) (reading (chip_behind x os)) ≡ ticks_in os
