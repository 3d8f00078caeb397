-- How the code stands for what is to be believed.
-- What is claimed of the lines and of the first bad tick: a recording may be read in pieces of any size, and nothing is left out of an output that has room for it.
use Rattle.std.specs.Prelude.{ℕ, ◌+◌, ◌*◌, ◌≤◌, ◌≡◌, List, ◌++◌, length, take}
use Rattle.base.specs.Choice.{when◌then◌else◌}
use Rattle.line.specs.declared.Heard.{Heard}
use Rattle.recording.specs.Form.{ticks_of, bad_recording}
use Rattle.recording_lines.specs.Bad.{first_bad, is_bad}
use Rattle.recording_lines.specs.Lines.{Kept, lines_from, kept_behind}
use Rattle.recording_lines.specs.Promises.{LinesAre}
use Rattle.recording_lines.specs.declared.Printed.{Printed}
use Rattle.recording_lines.specs.declared.Progress.{Progress}

-- The lines of two pieces are those of the first, and then those of the second with what the first left: the reader, the tick, the frame's first tick and its data so far.
pub record TwoPieces (k : Kept) (first second : List ℕ) : Type 0 where
  pub lines : lines_from k (ticks_of (first ++ second)) ≡ lines_from k (ticks_of first) ++ lines_from (kept_behind k (ticks_of first)) (ticks_of second)
  pub kept : kept_behind k (ticks_of (first ++ second)) ≡ kept_behind (kept_behind k (ticks_of first)) (ticks_of second)

abbrev pub LinesInPieces : Type 0
LinesInPieces = (n : ℕ) (k : Kept) (first second : List ℕ) → length first ≡ 2 * n → TwoPieces k first second

-- 21 is for the recording as a whole: its first bad tick is that of the first piece that has one, its ticks counted on
abbrev pub BadInPieces : Type 0
BadInPieces =
    (t n : ℕ) (first second : List ℕ) → length first ≡ 2 * n
    → first_bad t (first ++ second) ≡ (when is_bad (first_bad t first) then first_bad t first else first_bad (t + n) second)

-- there is a first bad tick exactly where the recording is refused
abbrev pub BadSaid : Type 0
BadSaid = (t : ℕ) (recording : List ℕ) → is_bad (first_bad t recording) ≡ bad_recording recording

-- With room for 900 bytes a tick, what is written out is the lines, all of them.
abbrev pub LinesFit : Type 0
LinesFit =
    (p : Progress) (hs : List Heard) (bytes after before : List ℕ) (r : Printed) (out : List ℕ)
    → length bytes ≡ 255 → 900 * length hs ≤ length before → LinesAre p hs bytes after before r out
    → take r.at out ≡ lines_from (record { progress = p; bytes = bytes }) hs
