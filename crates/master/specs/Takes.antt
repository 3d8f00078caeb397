-- Inner contracts: nothing that is to be believed rests on them.
-- What a master does on what it hears, by the definitions of crates/turns.
use Rattle.std.specs.Prelude.{ℕ, List, [], ◌≡◌}
use Rattle.base.specs.Choice.{when◌then◌else◌}
use Rattle.line.specs.declared.Heard.{Heard}
use Rattle.turns.specs.Link.{master_data}
use Rattle.turns.specs.Master.{master_with, message_at, timer_counted, burst_counted, at_break, waited, rt1_ends, unless_ended, master_takes}
use Rattle.turns.specs.declared.Ending.{Ending}
use Rattle.turns.specs.declared.Master.{Master}
use Rattle.turns.specs.declared.MasterTaken.{MasterTaken}
use Rattle.turns.specs.declared.MasterTold.{MasterTold}
use Rattle.turns.specs.declared.Stage.{Stage}
use Rattle.turns.specs.declared.Timer.{Timer}

-- the lent data buffer after what was heard
abbrev pub heard_bytes : Master → Heard → List ℕ → List ℕ
heard_bytes m heard bytes = master_data (record { master = m; frame = []; bytes = bytes }) heard

-- `after` is the lent data buffer after the tick
pub record MasterTakeIs (m : Master) (heard : Heard) (bytes : List ℕ) (t : MasterTaken) (after : List ℕ) : Type 0 where
  pub takes : t ≡ master_takes m heard after
  pub buffer : after ≡ heard_bytes m heard bytes

-- ---- names for parts of the definitions

-- the message after a silent tick, and what is told
abbrev pub counted_message : Master → MasterTold → Ending
counted_message m told = when rt1_ends m.message.stage then at_break m else record { message = message_at m.message (waited m.message.stage); told = told }

-- the timer after a silent tick that leaves the message at a stage
abbrev pub counted_timer : Master → Stage → Timer
counted_timer m left = when rt1_ends m.message.stage then unless_ended left (timer_counted m) else timer_counted m

-- the master with its timer counted, and nothing else
abbrev pub timer_ticked : Master → Master
timer_ticked m = master_with m m.receiver (burst_counted m) m.noted (timer_counted m) m.message
