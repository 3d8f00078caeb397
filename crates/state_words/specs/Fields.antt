-- How the code stands for what is to be believed.
-- One field of a state in one word of 64 bits. Every word is some value of the field.
use Rattle.std.specs.Prelude.{ℕ, ◌%◌, ◌^◌, Bool, List, get_or}
use mir.Val.{bool_byte}
use Rattle.base.specs.Choice.{◌=?◌}

-- the word at a place, or 0 past the last
abbrev pub word_at : List ℕ → ℕ → ℕ
word_at words place = get_or words place 0

-- a number of so many bits: the lowest bits of the word
abbrev pub number_at : ℕ → List ℕ → ℕ → ℕ
number_at bits words place = word_at words place % 2 ^ bits

-- a flag: 1 for true and 0 for false; any other word is false
abbrev pub flag_word : Bool → ℕ
flag_word on = bool_byte on

abbrev pub flag_at : List ℕ → ℕ → Bool
flag_at words place = word_at words place =? 1
