-- To be believed: what the engine must do, or what is claimed of it.
-- Document 01, "Line and ticks": "A party hears silence, a character, or a damaged character with its kind: 1 parity, 2 overrun, 3 framing".
use Rattle.std.specs.Prelude.{ℕ, ◌+◌, List, [], ◌∷◌}
use Rattle.base.specs.Choice.{when◌then◌else◌, ◌=?◌}
use Rattle.line.specs.declared.Damage.{Damage}
use Rattle.line.specs.declared.Damage.TheVariants.{Parity, Overrun, Framing}
use Rattle.line.specs.declared.Heard.{Heard}
use Rattle.line.specs.declared.Heard.TheVariants.{Silence, Character, Damaged}

abbrev pub damage_number : Damage → ℕ
damage_number Parity = 1
damage_number Overrun = 2
damage_number Framing = 3

-- what is heard in a tick, as a kind and a character say it to a program in C and in a recording (document 02, item 9): "0 silence, 1 character, 2 to 4 damage 1 to 3"; any other kind is silence
abbrev pub heard_of : ℕ → ℕ → Heard
heard_of kind c =
    when kind =? 1 then Character c else
    when kind =? 1 + damage_number Parity then Damaged c Parity else
    when kind =? 1 + damage_number Overrun then Damaged c Overrun else
    when kind =? 1 + damage_number Framing then Damaged c Framing else
    Silence

-- characters as they are heard, one a tick
abbrev pub characters : List ℕ → List Heard
characters [] = []
characters (c ∷ cs) = Character c ∷ characters cs
