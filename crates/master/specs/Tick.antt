-- How the code stands for what is to be believed.
-- A tick of a master, by `master_tick` of crates/turns/specs/Link.antt.
use Rattle.std.specs.Prelude.{ℕ, List, ◌≡◌, Option, Some, None}
use Rattle.line.specs.declared.Event.{Event}
use Rattle.line.specs.declared.Heard.{Heard}
use Rattle.turns.specs.Master.{tells, master_takes, master_sends}
use Rattle.turns.specs.Link as L
use Rattle.turns.specs.Link.{no_request, requests, MasterSide, MasterStep, master_sent, master_calls, master_tick}
use Rattle.turns.specs.declared.Master.{Master}
use Rattle.turns.specs.declared.MasterTold.{MasterTold}
use Rattle.turns.specs.declared.CallResult.{CallResult}
use Rattle.master.specs.declared.MasterCallTaken.{MasterCallTaken}
use Rattle.master.specs.declared.MasterTicked.{MasterTicked}
use Rattle.turns.specs.declared.Request.{Request}

-- the call, with the data that are lent beside it
abbrev pub call_of : Option Request → List ℕ → L.MasterCall
call_of None put = no_request
call_of (Some q) put = requests q put

-- a master with its lent buffers
abbrev pub side_of : Master → List ℕ → List ℕ → MasterSide
side_of m frame bytes = record { master = m; frame = frame; bytes = bytes }

abbrev pub step_of : MasterTicked → List ℕ → List ℕ → MasterStep
step_of r frame bytes = record { side = side_of r.master frame bytes; sent = r.sent; told = r.told; result = r.result }

abbrev pub uncalled : Master → MasterCallTaken
uncalled m = record { master = m; result = CallResult.Nothing }

-- a call, whatever the tick told before it and whatever data it heard: `after` is the frame buffer after the call
pub record MasterCalledIs (limit : ℕ) (m : Master) (call : Option Request) (put frame : List ℕ) (r : MasterCallTaken) (after : List ℕ) : Type 0 where
  pub goes : (told : MasterTold) (event : Event) (bytes : List ℕ)
      → master_calls limit (tells m told event) (call_of call put) frame bytes
      ≡ master_sent (master_sends r.master after) after bytes told r.result

-- a tick: what is sent, told and answered, the state and both lent buffers after it; and each frame that its reader found
pub record MasterTickIs (limit : ℕ) (m : Master) (heard : Heard) (call : Option Request) (put frame bytes : List ℕ) (r : MasterTicked)
    (frame_after bytes_after : List ℕ) : Type 0 where
  pub step : step_of r frame_after bytes_after ≡ master_tick limit (side_of m frame bytes) heard (call_of call put)
  pub found : r.event ≡ (master_takes m heard bytes_after).event
