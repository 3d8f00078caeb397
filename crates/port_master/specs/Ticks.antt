-- How the code stands for what is to be believed.
-- A tick of the port's master, by `port_master_tick` of crates/port/specs/Ticks.antt.
use Rattle.std.specs.Prelude.{ℕ, List, ◌≡◌, Option}
use Rattle.line.specs.declared.Heard.{Heard}
use Rattle.master.specs.Tick.{call_of}
use Rattle.port.specs.Ticks.{PortMasterSide, PortMasterStep, port_master_tick}
use Rattle.port.specs.declared.PortMaster.{PortMaster}
use Rattle.port_master.specs.declared.PortMasterTicked.{PortMasterTicked}
use Rattle.turns.specs.declared.Request.{Request}

-- the port's master with its lent buffers
abbrev pub side_of : PortMaster → List ℕ → List ℕ → PortMasterSide
side_of x frame bytes = record { master = x; frame = frame; bytes = bytes }

abbrev pub step_of : Heard → PortMasterTicked → List ℕ → List ℕ → PortMasterStep
step_of heard r frame bytes =
    record { heard = heard; side = side_of r.master frame bytes; sent = r.sent; told = r.told; event = r.event; result = r.result }

-- a tick: what is sent, told, found and answered, the state and both lent buffers after it
abbrev pub PortMasterTickIs : ℕ → PortMaster → Heard → Option Request → List ℕ → List ℕ → List ℕ → PortMasterTicked → List ℕ → List ℕ → Type 0
PortMasterTickIs limit x heard call put frame bytes r frame_after bytes_after =
    step_of heard r frame_after bytes_after ≡ port_master_tick limit (side_of x frame bytes) heard (call_of call put)
