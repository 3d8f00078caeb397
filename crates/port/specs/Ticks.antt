-- To be believed: what the engine must do, or what is claimed of it.
-- A tick of the port's master and of a device of the port, with their lent buffers, as `master_tick` and `device_tick` of crates/turns/specs/Link.antt are for the pair: they take what the port carried in the tick before, then the host's call, then send one character or none.
use Rattle.std.specs.Prelude.{ℕ, Bool, true, false, List, [], ◌∷◌, length}
use Rattle.base.specs.Choice.{when◌then◌else◌}
use Rattle.base.specs.Refusal.{Called, accepted, refused}
use Rattle.base.specs.Store.{stored}
use Rattle.frame.specs.Frame.{frame_bytes}
use Rattle.line.specs.Reader.{taken_data}
use Rattle.line.specs.declared.Event.{Event}
use Rattle.line.specs.declared.Heard.{Heard}
use Rattle.turns.specs.Master.{request_header}
use Rattle.turns.specs.Device.{answer_frame, device_takes, error_frame}
use Rattle.turns.specs.Link.{MasterCall, no_request, requests}
use Rattle.turns.specs.declared.CallResult.{CallResult}
use Rattle.turns.specs.declared.Master.{Master}
use Rattle.turns.specs.declared.MasterTold.{MasterTold}
use Rattle.turns.specs.declared.Device.{Device}
use Rattle.turns.specs.declared.DeviceTold.{DeviceTold}
use Rattle.turns.specs.declared.Sent.{Sent}
use Rattle.turns.specs.declared.Wish.{Wish}
use Rattle.port.specs.Master.{port_master_takes, port_requested, port_master_sends}
use Rattle.port.specs.Device.{port_device_takes, port_answered, port_device_sends, hears_wake_up}
use Rattle.port.specs.declared.Ear.{Ear}
use Rattle.port.specs.declared.Ear.TheVariants.{Awake, PassesOver, Dozes}
use Rattle.port.specs.declared.PortMaster.{PortMaster}
use Rattle.port.specs.declared.PortMasterTaken.{PortMasterTaken}
use Rattle.port.specs.declared.PortMasterSent.{PortMasterSent}
use Rattle.port.specs.declared.PortDevice.{PortDevice}
use Rattle.port.specs.declared.PortDeviceTaken.{PortDeviceTaken}
use Rattle.port.specs.declared.PortDeviceSent.{PortDeviceSent}

-- ---- the master

pub record PortMasterSide : Type 0 where
  pub master : PortMaster
  -- its STX
  pub frame : List ℕ
  -- the data of the frame that it hears
  pub bytes : List ℕ

pub record PortMasterStep : Type 0 where
  -- what it took: what the port carried in the tick before
  pub heard : Heard
  pub side : PortMasterSide
  pub sent : Sent
  pub told : MasterTold
  pub event : Event
  pub result : CallResult

abbrev pub master_data : PortMasterSide → Heard → List ℕ
master_data x heard = when x.master.master.deaf then x.bytes else taken_data x.master.master.receiver heard x.bytes

abbrev pub with_master : PortMaster → Master → PortMaster
with_master x m = record { master = m; since = x.since; wake = x.wake }

abbrev pub port_master_sent : Heard → PortMasterTaken → PortMasterSent → List ℕ → List ℕ → CallResult → PortMasterStep
port_master_sent heard t s frame bytes result = record {
  heard = heard;
  side = record { master = s.master; frame = frame; bytes = bytes };
  sent = s.sent;
  told = t.told;
  event = t.event;
  result = result;
}

-- `put` is the STX of the request
abbrev pub master_called : Heard → PortMasterTaken → Called Master → List ℕ → List ℕ → List ℕ → PortMasterStep
master_called heard t (accepted m) put frame bytes =
    port_master_sent heard t (port_master_sends (with_master t.master m) (stored frame 0 put)) (stored frame 0 put) bytes CallResult.Taken
master_called heard t (refused why) put frame bytes = port_master_sent heard t (port_master_sends t.master frame) frame bytes (CallResult.Refused why)

abbrev pub master_calls : ℕ → Heard → PortMasterTaken → MasterCall → List ℕ → List ℕ → PortMasterStep
master_calls limit heard t no_request frame bytes = port_master_sent heard t (port_master_sends t.master frame) frame bytes CallResult.Nothing
master_calls limit heard t (requests q put) frame bytes =
    master_called heard t (port_requested limit t.master.master q (length put))
    (frame_bytes q.preamble (request_header t.master.master q) put) frame bytes

unfoldable pub port_master_tick : ℕ → PortMasterSide → Heard → MasterCall → PortMasterStep
port_master_tick limit x heard call = master_calls limit heard (port_master_takes x.master heard (master_data x heard)) call x.frame (master_data x heard)

-- what the master does in each tick of a list of what it hears and what its host asks. The list may come from any devices, and from damage, noise and unknown senders on the port.
pub record MasterInput : Type 0 where
  pub heard : Heard
  pub call : MasterCall

unfoldable pub port_master_run : ℕ → PortMasterSide → List MasterInput → List PortMasterStep
port_master_run limit x [] = []
port_master_run limit x (i ∷ is) = port_master_tick limit x i.heard i.call ∷ port_master_run limit (port_master_tick limit x i.heard i.call).side is

-- ---- a device

pub record PortDeviceSide : Type 0 where
  pub device : PortDevice
  -- its ACK
  pub frame : List ℕ
  -- the data of the frame that it hears
  pub bytes : List ℕ

pub record PortDeviceStep : Type 0 where
  pub heard : Heard
  pub side : PortDeviceSide
  pub sent : Sent
  pub told : DeviceTold
  pub event : Event
  pub result : CallResult

-- its host's answer; the port has no burst content
pub data PortCall : Type 0 where
  no_call : PortCall
  gives_answer : Wish → List ℕ → PortCall

-- an awake device reads, unless it hears 0x00 between frames
abbrev pub reads_by : Device → Heard → Ear → Bool
reads_by d heard Awake = when hears_wake_up d heard then false else true
reads_by d heard (PassesOver before) = false
reads_by d heard (Dozes a b) = false

abbrev pub reads_tick : PortDevice → Heard → Bool
reads_tick y heard = when y.device.deaf then false else reads_by y.device heard y.ear

abbrev pub device_data : PortDeviceSide → Heard → List ℕ
device_data x heard = when reads_tick x.device heard then taken_data x.device.device.receiver heard x.bytes else x.bytes

-- the frame buffer after what was heard: an error answer may have been put into it
abbrev pub heard_frame : PortDeviceSide → Heard → List ℕ
heard_frame x heard = when reads_tick x.device heard then error_frame x.device.device (device_takes x.device.device heard).event x.frame else x.frame

abbrev pub with_device : PortDevice → Device → PortDevice
with_device y d = record { device = d; ear = y.ear; quiet = y.quiet }

abbrev pub device_sent : Heard → PortDeviceTaken → PortDeviceSent → List ℕ → List ℕ → CallResult → PortDeviceStep
device_sent heard t s frame bytes result = record {
  heard = heard;
  side = record { device = s.device; frame = frame; bytes = bytes };
  sent = s.sent;
  told = t.told;
  event = t.event;
  result = result;
}

-- `written` is the frame buffer with the answer
abbrev pub device_called : Heard → PortDeviceTaken → Called Device → List ℕ → List ℕ → List ℕ → PortDeviceStep
device_called heard t (accepted d) written frame bytes = device_sent heard t (port_device_sends (with_device t.device d) written) written bytes CallResult.Taken
device_called heard t (refused why) written frame bytes = device_sent heard t (port_device_sends t.device frame) frame bytes (CallResult.Refused why)

abbrev pub device_calls : ℕ → Heard → PortDeviceTaken → PortCall → List ℕ → List ℕ → PortDeviceStep
device_calls limit heard t no_call frame bytes = device_sent heard t (port_device_sends t.device frame) frame bytes CallResult.Nothing
device_calls limit heard t (gives_answer wish put) frame bytes =
    device_called heard t (port_answered limit t.device.device wish (length put)) (answer_frame t.device.device wish put frame) frame bytes

unfoldable pub port_device_tick : ℕ → PortDeviceSide → Heard → PortCall → PortDeviceStep
port_device_tick limit x heard call = device_calls limit heard (port_device_takes x.device heard) call (heard_frame x heard) (device_data x heard)

pub record DeviceInput : Type 0 where
  pub heard : Heard
  pub call : PortCall

unfoldable pub port_device_run : ℕ → PortDeviceSide → List DeviceInput → List PortDeviceStep
port_device_run limit x [] = []
port_device_run limit x (i ∷ is) = port_device_tick limit x i.heard i.call ∷ port_device_run limit (port_device_tick limit x i.heard i.call).side is
