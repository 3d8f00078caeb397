-- To be believed: what the engine must do, or what is claimed of it.
-- Document 01, "Frames": "Preamble of 0xFF, delimiter, address, expansion bytes, command, byte count, data, check byte."
use Rattle.std.specs.Prelude.{ℕ, ◌+◌, Bool, false, List, [], ◌∷◌, ◌++◌, length, replicate}
use Rattle.base.specs.Choice.{when◌then◌else◌, ◌<?◌}
use Rattle.frame.specs.Limits.{fewest_answered}
use Rattle.frame.specs.Delimiter.{from_device, delimiter_byte}
use Rattle.frame.specs.Address.{address_length, address_bytes}
use Rattle.frame.specs.Check.{exclusive_or}
use Rattle.frame.specs.declared.Header.{Header}

-- "ACK and BACK carry at least 2 data bytes"
abbrev pub too_few : ℕ → ℕ → Bool
too_few frame count = when from_device frame then count <? fewest_answered else false

-- delimiter, address, command and byte count
unfoldable pub header_bytes : Header → ℕ → List ℕ
header_bytes h count = delimiter_byte h.kind h.long ∷ (address_bytes h ++ (h.command ∷ count ∷ []))

-- what the check byte protects: delimiter to data
unfoldable pub protected_bytes : Header → List ℕ → List ℕ
protected_bytes h bytes = header_bytes h (length bytes) ++ bytes

-- delimiter to check byte
unfoldable pub body_bytes : Header → List ℕ → List ℕ
body_bytes h bytes = protected_bytes h bytes ++ (exclusive_or (protected_bytes h bytes) ∷ [])

unfoldable pub preamble_bytes : ℕ → List ℕ
preamble_bytes n = replicate n 0xFF

-- the whole frame
unfoldable pub frame_bytes : ℕ → Header → List ℕ → List ℕ
frame_bytes preamble h bytes = preamble_bytes preamble ++ body_bytes h bytes

-- how many bytes each of these has
abbrev pub header_length : Header → ℕ
header_length h = address_length h.long + 3

abbrev pub frame_length : ℕ → Header → ℕ → ℕ
frame_length preamble h count = preamble + (header_length h + count + 1)
