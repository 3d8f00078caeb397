-- How the code stands for what is to be believed.
-- A tick of a device of the port, by `port_device_tick` of crates/port/specs/Ticks.antt.
use Rattle.std.specs.Prelude.{ℕ, List, ◌≡◌, Option, Some, None}
use Rattle.line.specs.declared.Heard.{Heard}
use Rattle.port.specs.Ticks as P
use Rattle.port.specs.Ticks.{no_call, gives_answer, PortDeviceSide, PortDeviceStep, port_device_tick}
use Rattle.port.specs.declared.PortDevice.{PortDevice}
use Rattle.port_device.specs.declared.PortDeviceTicked.{PortDeviceTicked}
use Rattle.turns.specs.declared.Wish.{Wish}

-- a device of the port with its lent buffers
abbrev pub side_of : PortDevice → List ℕ → List ℕ → PortDeviceSide
side_of y frame bytes = record { device = y; frame = frame; bytes = bytes }

abbrev pub call_of : Option Wish → List ℕ → P.PortCall
call_of None put = no_call
call_of (Some wish) put = gives_answer wish put

abbrev pub step_of : Heard → PortDeviceTicked → List ℕ → List ℕ → PortDeviceStep
step_of heard r frame bytes =
    record { heard = heard; side = side_of r.device frame bytes; sent = r.sent; told = r.told; event = r.event; result = r.result }

-- a tick: what is sent, told, found and answered, the state and both lent buffers after it
abbrev pub PortDeviceTickIs : ℕ → PortDevice → Heard → Option Wish → List ℕ → List ℕ → List ℕ → PortDeviceTicked → List ℕ → List ℕ → Type 0
PortDeviceTickIs limit y heard call put frame bytes r frame_after bytes_after =
    step_of heard r frame_after bytes_after ≡ port_device_tick limit (side_of y frame bytes) heard (call_of call put)
