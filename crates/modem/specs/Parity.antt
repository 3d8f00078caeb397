-- To be believed: what the engine must do, or what is claimed of it.
-- Document 02, item 5: "The line carries nine bits, with damage 2 or 3 marked beside them and kept, and the chip adds and checks odd parity."
use Rattle.std.specs.Prelude.{ℕ, ◌%◌, Bool, count_ones}
use Rattle.base.specs.Choice.{when◌then◌else◌, ◌=?◌}
use Rattle.line.specs.Heard.{damage_number}
use Rattle.line.specs.declared.Damage.{Damage}
use Rattle.modem.specs.declared.Mark.{Mark}
use Rattle.modem.specs.declared.Mark.TheVariants.{Sound, Overrun, Framing}

-- "adds .. odd parity": with the ninth bit the count of ones is odd
abbrev pub ninth : ℕ → Bool
ninth c = count_ones c % 2 =? 0

-- "checks odd parity": 0 where the ninth bit is the one that a character has, else the number of parity damage
abbrev pub parity_kind : Bool → Bool → ℕ
parity_kind bit right = when bit then (when right then 0 else damage_number Damage.Parity) else (when right then damage_number Damage.Parity else 0)

-- the damage kind of nine bits, or 0; "damage 2 or 3 marked beside them and kept"
abbrev pub kind_of : ℕ → Bool → Mark → ℕ
kind_of c bit Sound = parity_kind bit (ninth c)
kind_of c bit Overrun = damage_number Damage.Overrun
kind_of c bit Framing = damage_number Damage.Framing
