-- How the code stands for what is to be believed.
-- Numbers as text, for the programs that print.
use Rattle.std.specs.Prelude.{ℕ, ◌+◌, ◌*◌, ◌/◌, ◌%◌, Bool, false, List, [], ◌∷◌, ◌++◌}
use Rattle.base.specs.Choice.{when◌then◌else◌, ◌<?◌}
use Rattle.texts.specs.Decimal.{decimal_of}

-- a number in decimal; one of 64 bits has at most 20 digits
abbrev pub decimal : ℕ → List ℕ
decimal n = decimal_of 20 n

-- 1 for a flag that is set
abbrev pub bit_of : Bool → ℕ
bit_of on = when on then 1 else 0

-- a hexadecimal digit: 0 to 9, then A to F or a to f
abbrev pub digit_of : Bool → ℕ → ℕ
digit_of capital n = when n <? 10 then 48 + n else (when capital then 55 + n else 87 + n)

-- a byte in hexadecimal, two digits
abbrev pub hexadecimal : Bool → ℕ → List ℕ
hexadecimal capital byte = digit_of capital (byte / 16) ∷ digit_of capital (byte % 16) ∷ []

-- bytes in hexadecimal, a space in front of each
unfoldable pub spaced : List ℕ → List ℕ
spaced [] = []
spaced (byte ∷ bytes) = 32 ∷ (hexadecimal false byte ++ spaced bytes)

-- the value of a hexadecimal digit, 0 to 9 or a to f
abbrev pub value_of : ℕ → ℕ
value_of c = when c <? 97 then c % 16 else c % 16 + 9

-- the byte of two such digits
abbrev pub byte_of : ℕ → ℕ → ℕ
byte_of a b = value_of a % 16 * 16 + value_of b % 16
