-- Inner contracts: nothing that is to be believed rests on them.
-- What the parts of a device's tick promise, and a call inside it.
use Rattle.std.specs.Prelude.{ℕ, List, ◌≡◌, Option}
use Rattle.base.specs.Choice.{when◌then◌else◌}
use Rattle.line.specs.declared.Event.{Event}
use Rattle.line.specs.declared.Heard.{Heard}
use Rattle.turns.specs.Device.{device_takes, error_frame}
use Rattle.turns.specs.declared.DeviceTold.{DeviceTold}
use Rattle.turns.specs.declared.CallResult.{CallResult}
use Rattle.device_rules.specs.Hearing.{lent}
use Rattle.turns.specs.Link as L
use Rattle.port.specs.Device.{awake, hears_wake_up, port_device_takes, port_device_sends}
use Rattle.port.specs.Ticks.{device_data, heard_frame, device_sent, device_calls}
use Rattle.port.specs.declared.PortDevice.{PortDevice}
use Rattle.port.specs.declared.PortDeviceTaken.{PortDeviceTaken}
use Rattle.port_device.specs.declared.PortCallTaken.{PortCallTaken}
use Rattle.port_device.specs.Ticks.{side_of, call_of}
use Rattle.turns.specs.declared.Wish.{Wish}

-- a device that is awake and hears: it reads, unless it hears 0x00 between frames
pub record AwakeIs (y : PortDevice) (heard : Heard) (bytes frame : List ℕ) (t : PortDeviceTaken) (bytes_after frame_after : List ℕ) : Type 0 where
  pub takes : t ≡ awake y heard
  pub data_is : bytes_after ≡ (when hears_wake_up y.device heard then bytes else L.device_data (lent y.device bytes) heard)
  pub frame_is : frame_after ≡ (when hears_wake_up y.device heard then frame else error_frame y.device (device_takes y.device heard).event frame)

pub record PortTakeIs (y : PortDevice) (heard : Heard) (bytes frame : List ℕ) (t : PortDeviceTaken) (bytes_after frame_after : List ℕ) : Type 0 where
  pub takes : t ≡ port_device_takes y heard
  pub data_is : bytes_after ≡ device_data (side_of y frame bytes) heard
  pub frame_is : frame_after ≡ heard_frame (side_of y frame bytes) heard

abbrev pub uncalled : PortDevice → PortCallTaken
uncalled y = record { device = y; result = CallResult.Nothing }

-- a device of the port after what it heard, as the call finds it
abbrev pub took : PortDevice → DeviceTold → Event → PortDeviceTaken
took y told event = record { device = y; told = told; event = event }

-- a call, whatever the tick told before it and whatever data it heard: `after` is the frame buffer after the call
pub record PortCalledIs (limit : ℕ) (y : PortDevice) (call : Option Wish) (put frame : List ℕ) (r : PortCallTaken) (after : List ℕ) : Type 0 where
  pub goes : (heard : Heard) (told : DeviceTold) (event : Event) (bytes : List ℕ)
      → device_calls limit heard (took y told event) (call_of call put) frame bytes
      ≡ device_sent heard (took y told event) (port_device_sends r.device after) after bytes r.result
