-- How the code stands for what is to be believed.
-- What is promised of a tick and of a piece: what is kept after it, and the text of its lines in the lent output buffer.
use Rattle.std.specs.Prelude.{ℕ, List, ◌≡◌}
use Rattle.line.specs.Reader.{taken, taken_data}
use Rattle.line.specs.declared.Heard.{Heard}
use Rattle.texts.specs.Put.{PutIs}
use Rattle.recording_lines.specs.Lines.{Kept, first_of, next_tick, line_at, lines_from, kept_behind}
use Rattle.recording_lines.specs.declared.Progress.{Progress}
use Rattle.recording_lines.specs.declared.Printed.{Printed}

abbrev pub keep : Progress → List ℕ → Kept
keep p bytes = record { progress = p; bytes = bytes }

-- a tick: what is kept after it, part by part, and its line from a place of the output on
pub record TickIs (p : Progress) (h : Heard) (bytes after before : List ℕ) (at : ℕ) (r : Printed) (out : List ℕ) : Type 0 where
  pub receiver_is : r.progress.receiver ≡ (taken p.receiver h).receiver
  pub tick_is : r.progress.tick ≡ next_tick p.tick
  pub first_is : r.progress.first ≡ first_of p
  pub bytes_are : after ≡ taken_data p.receiver h bytes
  pub text : PutIs (line_at (keep p bytes) h) before at r.at out

-- the ticks of a piece, from the front of the output on
pub record LinesAre (p : Progress) (hs : List Heard) (bytes after before : List ℕ) (r : Printed) (out : List ℕ) : Type 0 where
  pub kept : keep r.progress after ≡ kept_behind (keep p bytes) hs
  pub text : PutIs (lines_from (keep p bytes) hs) before 0 r.at out
