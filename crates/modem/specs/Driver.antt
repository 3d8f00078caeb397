-- To be believed: what the engine must do, or what is claimed of it.
-- A driver: how a party hears and sends by means of the chip's registers alone.
use Rattle.std.specs.Prelude.{ℕ, ◌+◌, ◌/◌, ◌%◌, Bool, true, false}
use Rattle.base.specs.Choice.{when◌then◌else◌, ◌=?◌}
use Rattle.line.specs.Heard.{damage_number}
use Rattle.line.specs.declared.Damage.TheVariants.{Parity, Overrun, Framing}
use Rattle.line.specs.declared.Heard.{Heard}
use Rattle.line.specs.declared.Heard.TheVariants.{Silence, Character, Damaged}
use Rattle.modem.specs.Parity.{ninth}
use Rattle.modem.specs.Accesses.{looks, puts}
use Rattle.modem.specs.declared.Mark.{Mark}
use Rattle.modem.specs.declared.Carried.{Carried}
use Rattle.modem.specs.declared.Carried.TheVariants.{Nine}
use Rattle.modem.specs.declared.Chip.{Chip}
use Rattle.modem.specs.declared.ChipHeard.{ChipHeard}

-- a character with its damage kind
abbrev pub damaged_by : ℕ → ℕ → Heard
damaged_by c kind =
    when kind =? 0 then Character c else
    when kind =? damage_number Parity then Damaged c Parity else
    when kind =? damage_number Overrun then Damaged c Overrun else
    Damaged c Framing

-- what is heard, by status bit 5, byte 3 and byte 2
abbrev pub heard_from : ℕ → ℕ → ℕ → Heard
heard_from status kind c = when status / 32 % 2 =? 1 then damaged_by c kind else Silence

-- the driver reads status, then byte 3, then byte 2, "that reads byte 2 in every tick"
abbrev pub hears : Chip → ChipHeard
hears x = record {
  chip = (looks (looks (looks x 0).chip 3).chip 2).chip;
  heard = heard_from (looks x 0).value (looks (looks x 0).chip 3).value (looks (looks (looks x 0).chip 3).chip 2).value;
}

-- it sets request to send, then writes the character; control bits 6 and 5 stay
abbrev pub transmits : Chip → ℕ → Chip
transmits x c = puts (puts (looks x 1).chip 1 ((looks x 1).value % 128 + 128)) 2 c

-- it clears request to send
abbrev pub stays_silent : Chip → Chip
stays_silent x = puts (looks x 1).chip 1 ((looks x 1).value % 128)

-- ---- what the line carries for a chip, for what is heard without one

abbrev pub other : Bool → Bool
other bit = when bit then false else true

-- a character with its ninth bit, damage 1 with the other ninth bit, damage 2 and 3 with their marks; under a mark the ninth bit may be either
abbrev pub wire : Heard → Bool → Carried
wire Silence bit = Carried.Silence
wire (Character c) bit = Nine c (ninth c) Mark.Sound
wire (Damaged c Parity) bit = Nine c (other (ninth c)) Mark.Sound
wire (Damaged c Overrun) bit = Nine c bit Mark.Overrun
wire (Damaged c Framing) bit = Nine c bit Mark.Framing
