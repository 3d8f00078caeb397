-- To be believed: what the engine must do, or what is claimed of it.
-- The frame reader. Document 01, "Frames": "the reader needs two" preambles and "gives the fields, the end, and the data as that part of the caller's bytes"; "Refusals", the line of the frame reader.
use Rattle.std.specs.Prelude.{ℕ, ◌+◌, Bool, List, [], ◌∷◌, length, take, drop, Option, Some, None}
use Rattle.base.specs.Choice.{when◌then◌else◌, ◌<?◌, ◌≤?◌, ◌=?◌}
use Rattle.base.specs.Refusal.{Called, accepted, refused}
use Rattle.frame.specs.Delimiter.{delimiter_of}
use Rattle.frame.specs.Address.{address_length, byte_at, master_bit, burst_flag, address_of}
use Rattle.frame.specs.Check.{exclusive_or}
use Rattle.frame.specs.Frame.{too_few}
use Rattle.frame.specs.declared.Delimiter.{Delimiter}
use Rattle.frame.specs.declared.Header.{Header}
use Rattle.frame.specs.declared.Found.{Found}

-- how many 0xFF the bytes begin with
unfoldable pub preambles : List ℕ → ℕ
preambles [] = 0
preambles (b ∷ bytes) = when b =? 0xFF then preambles bytes + 1 else 0

-- Below, `body` is what stands from the delimiter on, after so many preamble characters. The command follows address and expansion bytes, and the byte count follows the command.
abbrev pub command_place : Bool → ℕ → ℕ
command_place long expansion = address_length long + expansion + 1

abbrev pub header_of : ℕ → Bool → ℕ → List ℕ → Header
header_of frame long place body = record {
  kind = frame;
  long = long;
  primary = master_bit body;
  burst = burst_flag body;
  address = address_of long body;
  command = byte_at body place;
}

-- the frame, with its command at this place of the body and so many data bytes
abbrev pub found_at : ℕ → List ℕ → ℕ → Bool → ℕ → ℕ → ℕ → Found
found_at preamble body frame long expansion place count = record {
  preamble = preamble;
  header = header_of frame long place body;
  expansion = expansion;
  start = preamble + (place + 2);
  count = count;
  end = preamble + (place + 3 + count);
}

-- once the byte count is read: "13: bytes end early; 14: ACK or BACK with count below 2, else wrong check byte"
abbrev pub with_count : ℕ → List ℕ → ℕ → Bool → ℕ → ℕ → ℕ → Called Found
with_count preamble body frame long expansion place count =
    when length body ≤? place + 2 + count then refused 13 else
    when too_few frame count then refused 14 else
    when exclusive_or (take (place + 3 + count) body) =? 0 then accepted (found_at preamble body frame long expansion place count) else
    refused 14

-- once the delimiter is read
abbrev pub with_command : ℕ → List ℕ → ℕ → Bool → ℕ → ℕ → Called Found
with_command preamble body frame long expansion place =
    when length body ≤? place + 1 then refused 13 else
    with_count preamble body frame long expansion place (byte_at body (place + 1))

-- "12: the byte behind them is no delimiter"
abbrev pub with_delimiter : ℕ → List ℕ → Option Delimiter → Called Found
with_delimiter preamble body None = refused 12
with_delimiter preamble body (Some d) = with_command preamble body d.kind d.long d.expansion (command_place d.long d.expansion)

unfoldable pub read_body : ℕ → List ℕ → Called Found
read_body preamble body =
    when length body =? 0 then refused 13 else
    with_delimiter preamble body (delimiter_of (byte_at body 0))

-- "11: fewer than two preambles"
unfoldable pub read_frame : List ℕ → Called Found
read_frame bytes =
    when preambles bytes <? 2 then refused 11 else
    read_body (preambles bytes) (drop (preambles bytes) bytes)

-- the part of the caller's bytes that begins at a place and has so many bytes; none where it would run past the end
abbrev pub part_of : List ℕ → ℕ → ℕ → List ℕ
part_of bytes start count = when start + count ≤? length bytes then take count (drop start bytes) else []
