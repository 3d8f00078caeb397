-- Inner contracts: nothing that is to be believed rests on them.
-- The exclusive-or a 64-bit word at a time (document 02, item 3): what the functions that work it out so promise. Its definition, byte by byte, is in crates/frame/specs/Check.antt.
use Rattle.std.specs.Prelude.{ℕ, ◌+◌, ◌*◌, ◌/◌, ◌%◌, ◌^◌, ◌<◌, ◌≡◌, List, [], ◌∷◌, length, take, drop}
use Rattle.std.specs.Int.Bits.{bit_xor}
use Rattle.frame.specs.Check.{xor_from, exclusive_or}

-- the exclusive-or of so many bytes from a place on
abbrev pub xor_at : List ℕ → ℕ → ℕ → ℕ
xor_at bytes i count = exclusive_or (take count (drop i bytes))

-- the exclusive-or of every second word of the eight from a place on
abbrev pub every_other : List ℕ → ℕ → ℕ
every_other bytes i = bit_xor (bit_xor (xor_at bytes i 8) (xor_at bytes (i + 16) 8)) (bit_xor (xor_at bytes (i + 32) 8) (xor_at bytes (i + 48) 8))

-- the exclusive-or of every second word of the sixteen from a place on
abbrev pub every_other_of16 : List ℕ → ℕ → ℕ
every_other_of16 bytes i = bit_xor (every_other bytes i) (every_other bytes (i + 64))

-- the exclusive-or of a number's low k bits and the bits above them
unfoldable pub halves : ℕ → ℕ → ℕ
halves k n = bit_xor (n % 2 ^ k) (n / 2 ^ k)

-- the exclusive-or of a word's eight bytes
abbrev pub folded : ℕ → ℕ
folded word = halves 8 (halves 16 (halves 32 word))

-- the exclusive-or of a word's bytes and so many bytes from a place on
abbrev pub xor_onto : ℕ → List ℕ → ℕ → ℕ → ℕ
xor_onto word bytes i count = xor_from (folded word) (take count (drop i bytes))

-- how many bytes are in whole blocks of sixteen words
abbrev pub in_blocks : List ℕ → ℕ
in_blocks bytes = length bytes / 128 * 128

-- how many bytes are in whole words
abbrev pub in_words : List ℕ → ℕ
in_words bytes = length bytes / 8 * 8

-- bytes as one number, the first byte the least significant
unfoldable pub number : List ℕ → ℕ
number [] = 0
number (b ∷ bytes) = number bytes * 256 + b

pub data Bytes : List ℕ → Type 0 where
  none : Bytes []
  byte_and : {b : ℕ} {bytes : List ℕ} → b < 256 → Bytes bytes → Bytes (b ∷ bytes)

-- n is the number of so many bytes from a place on
pub record NumberIs (bytes : List ℕ) (i count n : ℕ) : Type 0 where
  pub is : n ≡ number (take count (drop i bytes))
  pub of_bytes : Bytes (take count (drop i bytes))
