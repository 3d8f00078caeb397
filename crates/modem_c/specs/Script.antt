-- How the code stands for what is to be believed.
-- A script for the modem chip has two bytes for each access: 16 times the operation plus a low part, and a value. Each access gives a number.
use Rattle.std.specs.Prelude.{ℕ, ◌+◌, ◌*◌, ◌/◌, ◌%◌, List}
use Rattle.base.specs.Choice.{when◌then◌else◌, ◌<?◌, ◌=?◌}
use Rattle.base.specs.Refusal.{Called, accepted, refused}
use Rattle.recording.specs.Recording.{Ticked, trace}
use Rattle.modem.specs.Chip.{fresh_chip, arrives, goes_out, chip_after}
use Rattle.modem.specs.Accesses.{register_read, register_written, looks, puts}
use Rattle.modem.specs.declared.Carried.{Carried}
use Rattle.modem.specs.declared.Carried.TheVariants.{Silence, Nine}
use Rattle.modem.specs.declared.Chip.{Chip}
use Rattle.modem.specs.declared.Looked.{Looked}
use Rattle.modem.specs.declared.Mark.{Mark}
use Rattle.modem.specs.declared.Mark.TheVariants.{Sound, Overrun, Framing}
use Rattle.modem_c.specs.declared.Accessed.{Accessed}

abbrev pub gives : ℕ → Chip → Ticked Chip
gives number chip = record { number = number; behind = chip }

abbrev pub accessed_as : Accessed → Ticked Chip
accessed_as r = gives r.number r.chip

-- ---- operations 0 to 2: a register

-- the register of the low part; 10 to 15 stand for registers 255 to 260
abbrev pub register_of : ℕ → ℕ
register_of low = when low <? 10 then low else low + 245

-- 0, or the refusal's number
abbrev pub read_refusal : Called Looked → ℕ
read_refusal (accepted looked) = 0
read_refusal (refused why) = why % 256

abbrev pub write_refusal : Called Chip → ℕ
write_refusal (accepted chip) = 0
write_refusal (refused why) = why % 256

-- 0 reads, and gives the value; 1 says whether a read is refused; 2 writes, and says whether that is refused
abbrev pub on_register : Chip → ℕ → ℕ → ℕ → Ticked Chip
on_register x operation n v =
    when operation =? 0 then gives (looks x n).value (looks x n).chip else
    when operation =? 1 then gives (read_refusal (register_read x n)) x else
    gives (write_refusal (register_written x n v)) (puts x n v)

-- ---- operations 3 to 15: a tick, and a chip to begin with

abbrev pub mark_of : ℕ → Mark
mark_of n = when n =? 1 then Overrun else when n =? 2 then Framing else Sound

-- what goes out, as a number: 0 for nothing, else 1 or 2 by the character's ninth bit
abbrev pub out_number : Carried → ℕ
out_number Silence = 0
out_number (Nine c ninth mark) = when ninth then 2 else 1

abbrev pub out_character : Carried → ℕ
out_character Silence = 0
out_character (Nine c ninth mark) = c

-- the count moved up by one byte, with the value as its lowest byte
abbrev pub counting : Chip → ℕ → Chip
counting x v = record {
  count = x.count % 16777216 * 256 + v;
  control = x.control;
  latest = x.latest;
  kind = x.kind;
  carrier = x.carrier;
  received = x.received;
  ready = x.ready;
  sending = x.sending;
  outgoing = x.outgoing;
  deaf = x.deaf;
}

-- 3: a tick begins after silence; 4: after a character, with its ninth bit and mark in the low part; 5: the tick ends, and gives what goes out; 6: which character that is; 7: a fresh chip; 8 and above: the count moves up by one byte, and the value becomes its lowest byte
abbrev pub on_tick : Chip → ℕ → ℕ → ℕ → Ticked Chip
on_tick x operation low v =
    when operation =? 3 then gives 0 (arrives x Silence) else
    when operation =? 4 then gives 0 (arrives x (Nine v (low % 2 =? 1) (mark_of (low / 2)))) else
    when operation =? 5 then gives (out_number (goes_out x)) (chip_after x) else
    when operation =? 6 then gives (out_character (goes_out x)) x else
    when operation =? 7 then gives 0 fresh_chip else
    gives 0 (counting x v)

unfoldable pub accessed : Chip → ℕ → ℕ → Ticked Chip
accessed x first v = when first / 16 <? 3 then on_register x (first / 16) (register_of (first % 16)) v else on_tick x (first / 16) (first % 16) v

-- from a fresh chip on
abbrev pub answers : List ℕ → List ℕ
answers script = trace accessed fresh_chip script
