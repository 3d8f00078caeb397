-- Inner contracts: nothing that is to be believed rests on them.
-- Names for parts of the definitions in crates/turns/specs/Master.antt.
use Rattle.std.specs.Prelude.{ℕ, ◌≤◌, true, false, List, ◌≡◌, length}
use Rattle.base.specs.Store.{stored}
use Rattle.frame.specs.Limits.{fewest_preambles, most_preambles, largest_polling}
use Rattle.frame.specs.Frame.{frame_bytes, frame_length}
use Rattle.frame.specs.declared.Header.{Header}
use Rattle.line.specs.Reader.{passing}
use Rattle.turns.specs.Master.{master_with, sends, attempted}
use Rattle.turns.specs.declared.Master.{Master}
use Rattle.turns.specs.declared.MasterSent.{MasterSent}
use Rattle.turns.specs.declared.Sent.{Sent}
use Rattle.turns.specs.declared.Stage.{Stage}
use Rattle.turns.specs.declared.Stage.TheVariants.{Waiting}
use Rattle.turns.specs.declared.Timer.{Timer}

-- a master with a message that waits
abbrev pub with_message : Master → Header → ℕ → Master
with_message m h length = master_with m m.receiver m.burst m.noted m.timer (record { stage = Waiting; header = h; length = length; attempts = 0 })

-- preamble and largest polling address of a request whose preamble and revision are not refused
pub record Fitting (polling preamble : ℕ) : Type 0 where
  pub polling_high : polling ≤ largest_polling
  pub preamble_low : fewest_preambles ≤ preamble
  pub preamble_high : preamble ≤ most_preambles

-- a frame is put into a buffer from its first byte on, and is so many characters long
pub record FramePutIs (preamble : ℕ) (h : Header) (bytes frame : List ℕ) (n : ℕ) (after : List ℕ) : Type 0 where
  pub count : n ≡ frame_length preamble h (length bytes)
  pub buffer : after ≡ stored frame 0 (frame_bytes preamble h bytes)

-- no character is sent
abbrev pub sends_nothing : Master → MasterSent
sends_nothing m = sends m false m.timer m.message m.receiver Sent.Silent

-- a character of the STX is sent, with the timer and the stage after it
abbrev pub sends_character : Master → Timer → Stage → ℕ → ℕ → MasterSent
sends_character m t stage attempts c = sends m true t (attempted m.message stage attempts) passing (Sent.Character c)
