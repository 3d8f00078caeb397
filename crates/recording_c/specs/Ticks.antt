-- How the code stands for what is to be believed.
-- What the tick reader tells over a recording.
use Rattle.std.specs.Prelude.{ℕ, ◌/◌, List}
use Rattle.line.specs.Reader.{passing, taken}
use Rattle.line.specs.Told.{event_number}
use Rattle.line.specs.declared.Receiver.{Receiver}
use Rattle.line.specs.declared.Taken.{Taken}
use Rattle.line.specs.Heard.{heard_of}
use Rattle.recording.specs.Recording.{Ticked, trace}

-- a tick of the reader, made from the two bytes
abbrev pub step : Receiver → ℕ → ℕ → Taken
step r first c = taken r (heard_of (first / 32) c)

abbrev pub ticked : Receiver → ℕ → ℕ → Ticked Receiver
ticked r first c = record { number = event_number (step r first c).event; behind = (step r first c).receiver }

-- what the reader tells in each tick of a recording, from its start on
abbrev pub told : List ℕ → List ℕ
told recording = trace ticked passing recording
