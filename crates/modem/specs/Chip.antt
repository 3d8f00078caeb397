-- To be believed: what the engine must do, or what is claimed of it.
-- Document 02, item 5: the modem chip's registers, and its tick. A tick has three parts: the chip takes what the line carried in the tick before; its host reads and writes registers; the tick ends.
use Rattle.std.specs.Prelude.{ℕ, ◌+◌, ◌-◌, ◌*◌, ◌/◌, ◌%◌, ◌^◌, Bool, true, false}
use Rattle.base.specs.Choice.{when◌then◌else◌, ◌=?◌}
use Rattle.modem.specs.Parity.{ninth, kind_of}
use Rattle.modem.specs.declared.Mark.TheVariants.{Sound}
use Rattle.modem.specs.declared.Carried.{Carried}
use Rattle.modem.specs.declared.Carried.TheVariants.{Silence, Nine}
use Rattle.modem.specs.declared.Chip.{Chip}
use Rattle.modem.specs.declared.TickEnded.{TickEnded}

-- "All start at 0, but for ready."
abbrev pub fresh_chip : Chip
fresh_chip =
    record { count = 0; control = 0; latest = 0; kind = 0; carrier = false; received = false; ready = true; sending = false; outgoing = 0; deaf = false }

-- ---- a tick begins

-- the chip with these values for what it receives
abbrev pub receives : Chip → Bool → ℕ → ℕ → Bool → Chip
receives x carrier latest kind received = record {
  count = x.count;
  control = x.control;
  latest = latest;
  kind = kind;
  carrier = carrier;
  received = received;
  ready = x.ready;
  sending = x.sending;
  outgoing = x.outgoing;
  deaf = x.deaf;
}

-- "bit 7 carrier (something heard last tick)"; document 01: "A sending party hears nothing". "A character arriving before that replaces it, with damage 2."
abbrev pub arrives : Chip → Carried → Chip
arrives x Silence = receives x false x.latest x.kind x.received
arrives x (Nine c bit mark) =
    when x.deaf then receives x false x.latest x.kind x.received
    else receives x true c (when x.received then 2 else kind_of c bit mark) true

-- ---- what the registers show

-- "5 interrupt on bit 4": control bit 5, and ready
abbrev pub interrupt_ready : Chip → Bool
interrupt_ready x = when x.ready then x.control / 32 % 2 =? 1 else false

-- "6 interrupt on bit 5": control bit 6, and a character received; or the other
abbrev pub interrupt : Chip → Bool
interrupt x = when x.received then (when x.control / 64 % 2 =? 1 then true else interrupt_ready x) else interrupt_ready x

-- "Byte 0, status: bit 7 carrier .., 6 clear to send (as control bit 7), 5 character received, 4 ready (none written this tick), 3 interrupt, the rest 0."
abbrev pub status_by : Chip → Bool → ℕ
status_by x interrupting =
    (when x.carrier then 128 else 0) +
    x.control / 128 % 2 * 64 +
    (when x.received then 32 else 0) +
    (when x.ready then 16 else 0) +
    (when interrupting then 8 else 0)

abbrev pub status : Chip → ℕ
status x = status_by x (interrupt x)

-- "Bytes 4 to 7 are a free-running tick count, most significant first"
abbrev pub count_byte : ℕ → ℕ → ℕ
count_byte count n =
    when n =? 4 then count / 16777216 % 256 else
    when n =? 5 then count / 65536 % 256 else
    when n =? 6 then count / 256 % 256 else
    count % 256

-- byte n; "Byte 2 is data: read, the last character received"; "Byte 3 is the damage kind of the character received, or 0."
abbrev pub register_at : Chip → ℕ → ℕ
register_at x n =
    when n =? 0 then status x else
    when n =? 1 then x.control else
    when n =? 2 then x.latest else
    when n =? 3 then x.kind else
    count_byte x.count n

-- ---- what a write leaves

-- "Byte 1, control: bit 7 request to send, 6 interrupt on bit 5, 5 interrupt on bit 4, the rest 0."
abbrev pub controlled : Chip → ℕ → Chip
controlled x v = record {
  count = x.count;
  control = v / 32 * 32;
  latest = x.latest;
  kind = x.kind;
  carrier = x.carrier;
  received = x.received;
  ready = x.ready;
  sending = x.sending;
  outgoing = x.outgoing;
  deaf = x.deaf;
}

-- byte 2 was written in this tick; whether a character goes out at its end, and which
abbrev pub loaded : Chip → Bool → ℕ → Chip
loaded x sending outgoing = record {
  count = x.count;
  control = x.control;
  latest = x.latest;
  kind = x.kind;
  carrier = x.carrier;
  received = x.received;
  ready = false;
  sending = sending;
  outgoing = outgoing;
  deaf = x.deaf;
}

-- "a tick's first write goes out in it if request to send is then set, any other is lost"
abbrev pub data_written : Chip → ℕ → Chip
data_written x v = when x.ready then loaded x (x.control / 128 % 2 =? 1) v else loaded x x.sending x.outgoing

-- ---- a tick ends

-- the count goes on, "going from the largest value back to 0"; the chip is ready again, and deaf if it sends
abbrev pub chip_after : Chip → Chip
chip_after x = record {
  count = (x.count + 1) % 2 ^ 32;
  control = x.control;
  latest = x.latest;
  kind = x.kind;
  carrier = x.carrier;
  received = x.received;
  ready = true;
  sending = false;
  outgoing = x.outgoing;
  deaf = x.sending;
}

-- what goes out in the tick, "and the chip adds .. odd parity"
abbrev pub goes_out : Chip → Carried
goes_out x = when x.sending then Nine x.outgoing (ninth x.outgoing) Sound else Silence

abbrev pub tick_ends : Chip → TickEnded
tick_ends x = record { chip = chip_after x; carried = goes_out x }

-- ticks from one reading of the count to a later one
abbrev pub elapsed : ℕ → ℕ → ℕ
elapsed from to = (to + (2 ^ 32 - from)) % 2 ^ 32
