-- How the code stands for what is to be believed.
-- What is promised of a tick and of a piece: what is kept after it, and its packets in the lent output buffer.
use Rattle.std.specs.Prelude.{◌≡◌, ℕ, List}
use Rattle.line.specs.Reader.{taken, taken_data}
use Rattle.line.specs.declared.Heard.{Heard}
use Rattle.texts.specs.Put.{PutIs}
use Rattle.recording_capture.specs.Capture.{Kept, heard_text, grown, progress_behind, packet_at, packets_from, kept_behind}
use Rattle.recording_capture.specs.declared.Captured.{Captured}
use Rattle.recording_capture.specs.declared.Progress.{Progress}

abbrev pub keep : Progress → List ℕ → List ℕ → Kept
keep p bytes frame = record { progress = p; bytes = bytes; message = frame }

-- a tick: what is kept after it, and the packet after a place of the output
pub record TickIs (p : Progress) (h : Heard) (bytes after frame grew before : List ℕ) (at : ℕ) (r : Captured) (out : List ℕ) : Type 0 where
  pub progress_is : r.progress ≡ progress_behind p (taken p.receiver h) (grown frame p.held h).at
  pub bytes_are : after ≡ taken_data p.receiver h bytes
  pub frame_is : PutIs (heard_text h) frame p.held (grown frame p.held h).at grew
  pub text : PutIs (packet_at (keep p bytes frame) h) before at r.at out

-- the ticks of a piece, from the front of the output on
pub record PacketsAre (p : Progress) (hs : List Heard) (bytes after frame grew before : List ℕ) (r : Captured) (out : List ℕ) : Type 0 where
  pub kept : keep r.progress after grew ≡ kept_behind (keep p bytes frame) hs
  pub text : PutIs (packets_from (keep p bytes frame) hs) before 0 r.at out
