-- To be believed: what the engine must do, or what is claimed of it.
-- The frame writer. Document 01, "Frames": it "starts at a place the caller names in its lent buffer and changes only the frame's bytes there"; "Refusals", the line of the frame writer.
use Rattle.std.specs.Prelude.{ℕ, ◌+◌, ◌≡◌, List, length, Result}
use Rattle.base.specs.Choice.{when◌then◌else◌, ◌<?◌, ◌≤?◌, ◌outside◌to◌}
use Rattle.base.specs.Store.{stored}
use Rattle.base.specs.Refusal.{Called, accepted, refused, called_as}
use Rattle.frame.specs.Limits.{fewest_preambles, most_preambles, most_data}
use Rattle.frame.specs.Delimiter.{is_type}
use Rattle.frame.specs.Address.{address_too_large}
use Rattle.frame.specs.Frame.{too_few, frame_bytes, frame_length}
use Rattle.frame.specs.declared.Header.{Header}
use Rattle.base.specs.declared.Refusal.{Refusal}

-- the refusal for the fields alone, the lowest where several apply; else `fits`. ("6: data above 255" comes before "9: data outside 2 to 255", so 9 is left for fewer than 2.)
abbrev pub by_fields : ℕ → Header → ℕ → Called ℕ → Called ℕ
by_fields preamble h count fits =
    when preamble outside fewest_preambles to most_preambles then refused 3 else
    when address_too_large h then refused 4 else
    when most_data <? count then refused 6 else
    when too_few h.kind count then refused 9 else
    when is_type h.kind then fits else
    refused 12

-- "15: buffer too short", also for a place beyond the buffer
abbrev pub by_room : ℕ → ℕ → Called ℕ
by_room end room = when end ≤? room then accepted end else refused 15

-- the answer, for so many data bytes and a buffer of so many bytes: where the frame ends, or the refusal
unfoldable pub write_answer : ℕ → Header → ℕ → ℕ → ℕ → Called ℕ
write_answer preamble h count room place = by_fields preamble h count (by_room (place + frame_length preamble h count) room)

-- the buffer after the call: with the frame from the named place on where it is written; as it was where it is refused
abbrev pub buffer_by : Called ℕ → List ℕ → ℕ → List ℕ → List ℕ
buffer_by (accepted end) buffer place frame = stored buffer place frame
buffer_by (refused why) buffer place frame = buffer

unfoldable pub write_buffer : ℕ → Header → List ℕ → List ℕ → ℕ → List ℕ
write_buffer preamble h bytes buffer place =
    buffer_by (write_answer preamble h (length bytes) (length buffer) place) buffer place (frame_bytes preamble h bytes)

-- what writing promises
pub record WriteIs (preamble : ℕ) (h : Header) (bytes buffer : List ℕ) (place : ℕ) (r : Result ℕ Refusal) (after : List ℕ) : Type 0 where
  pub answer : called_as r ≡ write_answer preamble h (length bytes) (length buffer) place
  pub buffer_after : after ≡ write_buffer preamble h bytes buffer place
