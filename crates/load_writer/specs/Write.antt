-- To be believed: what the engine must do, or what is claimed of it.
-- The writer of a load. Document 02, item 4: "It refuses seed 0, no records or above 65,536 with 18, then a buffer too short with 15."
use Rattle.std.specs.Prelude.{ℕ, ◌*◌, ◌≡◌, List, length, Result}
use Rattle.base.specs.Choice.{when◌then◌else◌, ◌≤?◌, ◌=?◌, ◌outside◌to◌}
use Rattle.base.specs.Store.{stored}
use Rattle.base.specs.Refusal.{Called, accepted, refused, called_as}
use Rattle.load_writer.specs.Load.{load, script_bytes}
use Rattle.base.specs.declared.Refusal.{Refusal}

abbrev pub most_records : ℕ
most_records = 65536

-- "a buffer too short": a script of so many records has four bytes for each
abbrev pub by_room : ℕ → ℕ → Called ℕ
by_room end room = when end ≤? room then accepted end else refused 15

-- the answer, for a buffer of so many bytes: how many of them the script takes, or the refusal
unfoldable pub load_answer : ℕ → ℕ → ℕ → Called ℕ
load_answer seed count room =
    when seed =? 0 then refused 18 else
    when count outside 1 to most_records then refused 18 else
    by_room (4 * count) room

-- the buffer: with the script at its front where it is written; as it was where it is refused
abbrev pub buffer_by : Called ℕ → List ℕ → List ℕ → List ℕ
buffer_by (accepted end) buffer script = stored buffer 0 script
buffer_by (refused why) buffer script = buffer

unfoldable pub load_buffer : ℕ → ℕ → List ℕ → List ℕ
load_buffer seed count buffer = buffer_by (load_answer seed count (length buffer)) buffer (script_bytes (load seed count))

-- what writing promises
pub record LoadIs (seed count : ℕ) (buffer : List ℕ) (r : Result ℕ Refusal) (after : List ℕ) : Type 0 where
  pub answer : called_as r ≡ load_answer seed count (length buffer)
  pub buffer_after : after ≡ load_buffer seed count buffer
