-- To be believed: what the engine must do, or what is claimed of it.
-- For a caller who reads from a buffer that grows (include/nengapiko.h): which of the reader's answers ask for more bytes, and that every other answer is final.
use Rattle.std.specs.Prelude.{ℕ, ◌+◌, ◌≤◌, ◌<◌, ◌≡◌, Bool, true, false, List, ◌++◌, length}
use Rattle.base.specs.Choice.{when◌then◌else◌, ◌=?◌}
use Rattle.base.specs.Refusal.{Called, accepted, refused}
use Rattle.frame.specs.Address.{byte_at}
use Rattle.frame.specs.Read.{preambles, read_frame}
use Rattle.frame.specs.declared.Found.{Found}

-- "13, and 11 while there are fewer than two bytes and each is 0xFF, mean that more bytes are wanted"
abbrev pub wants_more : List ℕ → Called Found → Bool
wants_more bytes (accepted f) = false
wants_more bytes (refused why) =
    when why =? 13 then true else
    when why =? 11 then preambles bytes =? length bytes else
    false

-- "Every other answer is final: it stays the same whatever follows."
abbrev pub OthersFinal : Type 0
OthersFinal = (bytes rest : List ℕ) → wants_more bytes (read_frame bytes) ≡ false → read_frame (bytes ++ rest) ≡ read_frame bytes

-- "Behind the preamble 267 bytes are always enough."
abbrev pub most_behind_preamble : ℕ
most_behind_preamble = 267

abbrev pub EnoughBytes : Type 0
EnoughBytes =
    (bytes : List ℕ) → ((i : ℕ) → byte_at bytes i < 256) → 2 ≤ preambles bytes → preambles bytes + most_behind_preamble ≤ length bytes
    → wants_more bytes (read_frame bytes) ≡ false
