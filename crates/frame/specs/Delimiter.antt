-- To be believed: what the engine must do, or what is claimed of it.
-- Document 01, "Frames": the delimiter.
use Rattle.std.specs.Prelude.{ℕ, ◌+◌, ◌/◌, ◌%◌, Bool, true, Option, None, Some}
use Rattle.base.specs.Choice.{when◌then◌else◌, ◌=?◌}
use Rattle.frame.specs.declared.Delimiter.{Delimiter}

-- "2 for STX (master's request), 6 for ACK (device's answer), 1 for BACK (burst)"
abbrev pub stx : ℕ
stx = 2

abbrev pub ack : ℕ
ack = 6

abbrev pub back : ℕ
back = 1

-- the two that a device sends
abbrev pub from_device : ℕ → Bool
from_device n = when n =? ack then true else n =? back

abbrev pub is_type : ℕ → Bool
is_type n = when n =? stx then true else from_device n

-- a delimiter that says these three
abbrev pub delimiter_with : ℕ → Bool → ℕ → Option Delimiter
delimiter_with kind long expansion = Some (record { kind = kind; long = long; expansion = expansion })

-- "bit 7 long address; bits 6 and 5 the number of expansion bytes, 0 to 3; bits 4 and 3 zero; bits 2 to 0" the type. "Any other value is no delimiter."
unfoldable pub delimiter_of : ℕ → Option Delimiter
delimiter_of byte =
    when byte / 8 % 4 =? 0 then
    (when is_type (byte % 8) then delimiter_with (byte % 8) (byte / 128 =? 1) (byte / 32 % 4) else None)
    else None

-- the delimiter that is written: "It writes no expansion bytes"
abbrev pub delimiter_byte : ℕ → Bool → ℕ
delimiter_byte frame long = (when long then 128 else 0) + frame
