-- To be believed: what the engine must do, or what is claimed of it.
-- Document 01, "The player": the text of the output, which is the header line and then a line for each frame.
use Rattle.std.specs.Prelude.{ℕ, Bool, List, [], ◌∷◌, ◌++◌}
use Rattle.base.specs.Choice.{when◌then◌else◌, ◌=?◌}
use Rattle.texts.specs.Decimal.{decimal_of}
use Rattle.frame.specs.Delimiter.{stx, ack}
use Rattle.player_listing.specs.Lines.{Line}

-- a number in decimal; one of 32 bits has at most ten digits
abbrev pub decimal : ℕ → List ℕ
decimal n = decimal_of 10 n

-- "tick party type master length", a fixed byte string
abbrev pub head_line : List ℕ
head_line =
    116 ∷ 105 ∷ 99 ∷ 107 ∷ 32 ∷ 112 ∷ 97 ∷ 114 ∷ 116 ∷ 121 ∷ 32 ∷ 116 ∷ 121 ∷ 112 ∷ 101 ∷ 32
    ∷ 109 ∷ 97 ∷ 115 ∷ 116 ∷ 101 ∷ 114 ∷ 32 ∷ 108 ∷ 101 ∷ 110 ∷ 103 ∷ 116 ∷ 104 ∷ 10 ∷ []

-- the types' names, fixed byte strings: STX, ACK, BACK
abbrev pub type_name : ℕ → List ℕ
type_name frame = when frame =? stx then 83 ∷ 84 ∷ 88 ∷ [] else (when frame =? ack then 65 ∷ 67 ∷ 75 ∷ [] else 66 ∷ 65 ∷ 67 ∷ 75 ∷ [])

-- "master (0 primary)"
abbrev pub master_digit : Bool → ℕ
master_digit primary = when primary then 48 else 49

-- a word of a line, with a space after it
abbrev pub word : List ℕ → List ℕ
word text = text ++ (32 ∷ [])

-- a line: its words, and a newline
unfoldable pub line_text : Line → List ℕ
line_text l =
    word (decimal l.tick)
    ++ (word (decimal l.party)
    ++ (word (type_name l.header.kind)
    ++ (word (master_digit l.header.primary ∷ [])
    ++ (decimal l.length ++ (10 ∷ [])))))

unfoldable pub lines_text : List Line → List ℕ
lines_text [] = []
lines_text (l ∷ ls) = line_text l ++ lines_text ls
