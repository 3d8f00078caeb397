-- Inner contracts: nothing that is to be believed rests on them.
-- What the parts of the master's tick promise, and a call inside it.
use Rattle.std.specs.Prelude.{ℕ, List, ◌≡◌, Option}
use Rattle.line.specs.declared.Event.{Event}
use Rattle.line.specs.declared.Event.TheVariants.{Frame}
use Rattle.line.specs.declared.Heard.{Heard}
use Rattle.line.specs.declared.Receiver.{Receiver}
use Rattle.line.specs.declared.Whole.{Whole}
use Rattle.turns.specs.Master.{tells, master_with, ended_by, timer_after, if_awaiting, at_frame}
use Rattle.turns.specs.declared.Master.{Master}
use Rattle.turns.specs.declared.MasterTaken.{MasterTaken}
use Rattle.turns.specs.declared.MasterTold.{MasterTold}
use Rattle.turns.specs.declared.CallResult.{CallResult}
use Rattle.master.specs.Takes.{heard_bytes}
use Rattle.master.specs.Tick.{call_of}
use Rattle.port.specs.Master.{port_master_takes, port_master_sends}
use Rattle.port.specs.Ticks.{port_master_sent, master_calls}
use Rattle.port.specs.declared.PortMaster.{PortMaster}
use Rattle.port.specs.declared.PortMasterTaken.{PortMasterTaken}
use Rattle.port_master.specs.declared.PortCallTaken.{PortCallTaken}
use Rattle.turns.specs.declared.Request.{Request}

-- after a frame that is no BACK
abbrev pub after_other : Master → Receiver → Whole → List ℕ → MasterTaken
after_other m r w bytes =
    tells (master_with m r m.burst m.noted
    (timer_after m.profile m.primary (ended_by m w.header) m.burst)
    (if_awaiting m.message.stage m.message (at_frame m w bytes)).message)
    (if_awaiting m.message.stage m.message (at_frame m w bytes)).told
    (Frame w)

-- `after` is the lent data buffer after the tick
pub record PortTakeIs (x : PortMaster) (heard : Heard) (bytes : List ℕ) (t : PortMasterTaken) (after : List ℕ) : Type 0 where
  pub takes : t ≡ port_master_takes x heard after
  pub buffer : after ≡ heard_bytes x.master heard bytes

abbrev pub uncalled : PortMaster → PortCallTaken
uncalled x = record { master = x; result = CallResult.Nothing }

-- the port's master after what it heard, as the call finds it
abbrev pub took : PortMaster → MasterTold → Event → PortMasterTaken
took x told event = record { master = x; told = told; event = event }

-- a call, whatever the tick told before it and whatever data it heard: `after` is the frame buffer after the call
pub record PortCalledIs (limit : ℕ) (x : PortMaster) (call : Option Request) (put frame : List ℕ) (r : PortCallTaken) (after : List ℕ) : Type 0 where
  pub goes : (heard : Heard) (told : MasterTold) (event : Event) (bytes : List ℕ)
      → master_calls limit heard (took x told event) (call_of call put) frame bytes
      ≡ port_master_sent heard (took x told event) (port_master_sends r.master after) after bytes r.result
