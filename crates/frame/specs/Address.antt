-- To be believed: what the engine must do, or what is claimed of it.
-- Document 01, "Frames": the address, "most significant bit first: master bit (1 primary), burst flag, then a 6-bit polling address in one byte, or a 38-bit unique address in five".
use Rattle.std.specs.Prelude.{ℕ, ◌+◌, ◌*◌, ◌/◌, ◌%◌, ◌^◌, ◌-◌, Bool, List, [], ◌∷◌, get_or}
use Rattle.base.specs.Choice.{when◌then◌else◌, ◌<?◌, ◌=?◌}
use Rattle.frame.specs.Limits.{largest_polling}
use Rattle.frame.specs.declared.Header.{Header}

-- how many bytes an address has
abbrev pub address_length : Bool → ℕ
address_length long = when long then 5 else 1

-- the largest address, where polling addresses go up to `polling`; a unique address has 38 bits
abbrev pub largest_with : ℕ → Bool → ℕ
largest_with polling long = when long then 2 ^ 38 - 1 else polling

abbrev pub address_above : ℕ → Header → Bool
address_above polling h = largest_with polling h.long <? h.address

-- the largest address of a frame, which says no revision: 6 bits, or 38 bits
abbrev pub largest_address : Bool → ℕ
largest_address long = largest_with largest_polling long

-- "polling above 63 or unique above 38 bits"
abbrev pub address_too_large : Header → Bool
address_too_large h = address_above largest_polling h

-- an address's first byte: master bit, burst flag and the six bits that the address begins with
abbrev pub first_byte : Header → ℕ → ℕ
first_byte h bits = (when h.primary then 128 else 0) + (when h.burst then 64 else 0) + bits

abbrev pub short_address : Header → List ℕ
short_address h = first_byte h h.address ∷ []

abbrev pub long_address : Header → List ℕ
long_address h =
    first_byte h (h.address / 2 ^ 32) ∷
    (h.address / 2 ^ 24 % 256) ∷
    (h.address / 2 ^ 16 % 256) ∷
    (h.address / 2 ^ 8 % 256) ∷
    (h.address % 256) ∷
    []

-- an address's bytes
abbrev pub address_bytes : Header → List ℕ
address_bytes h = when h.long then long_address h else short_address h

-- the byte at a place, or 0 past the last
abbrev pub byte_at : List ℕ → ℕ → ℕ
byte_at bytes place = get_or bytes place 0

-- what is read from a frame whose delimiter is the first of these bytes: the master bit, the burst flag and the address
abbrev pub master_bit : List ℕ → Bool
master_bit frame = byte_at frame 1 / 128 =? 1

abbrev pub burst_flag : List ℕ → Bool
burst_flag frame = byte_at frame 1 / 64 % 2 =? 1

abbrev pub polling_address : List ℕ → ℕ
polling_address frame = byte_at frame 1 % 64

abbrev pub unique_address : List ℕ → ℕ
unique_address frame =
    (byte_at frame 1 % 64) * 2 ^ 32 + byte_at frame 2 * 2 ^ 24 + byte_at frame 3 * 2 ^ 16 + byte_at frame 4 * 2 ^ 8 + byte_at frame 5

abbrev pub address_of : Bool → List ℕ → ℕ
address_of long frame = when long then unique_address frame else polling_address frame
