-- How the code stands for what is to be believed.
-- A tick of a device, by `device_tick` of crates/turns/specs/Link.antt.
use Rattle.std.specs.Prelude.{ℕ, List, ◌≡◌, Result, Ok, Err}
use Rattle.base.specs.Choice.{when◌then◌else◌, ◌=?◌}
use Rattle.base.specs.Refusal.{number}
use Rattle.line.specs.declared.Event.{Event}
use Rattle.line.specs.declared.Heard.{Heard}
use Rattle.turns.specs.Device.{tells, device_takes}
use Rattle.turns.specs.Link as L
use Rattle.turns.specs.Link.{no_call, gives_answer, gives_content, DeviceSide, DeviceStep, device_sent, device_calls, device_tick}
use Rattle.turns.specs.declared.Device.{Device}
use Rattle.turns.specs.declared.DeviceTold.{DeviceTold}
use Rattle.turns.specs.declared.Wish.TheVariants.{Same, On, Off}
use Rattle.turns.specs.declared.CallResult.{CallResult}
use Rattle.device_tick.specs.declared.DeviceCall.{DeviceCall}
use Rattle.device_tick.specs.declared.DeviceCallTaken.{DeviceCallTaken}
use Rattle.device_tick.specs.declared.DeviceTicked.{DeviceTicked}
use Rattle.base.specs.declared.Refusal.{Refusal}

-- a host's call by its number, as programs in C, recordings and lists of ticks have it: 1 is an answer, 2 one that turns burst on, 3 one that turns it off, 4 burst content of this command, any other number nothing
abbrev pub host_call_by : ℕ → ℕ → DeviceCall
host_call_by number command =
    when number =? 1 then DeviceCall.Answers Same else
    when number =? 2 then DeviceCall.Answers On else
    when number =? 3 then DeviceCall.Answers Off else
    when number =? 4 then DeviceCall.Content command else
    DeviceCall.Nothing

-- the call, with the data that are lent beside it
abbrev pub call_of : DeviceCall → List ℕ → L.DeviceCall
call_of DeviceCall.Nothing put = no_call
call_of (DeviceCall.Answers wish) put = gives_answer wish put
call_of (DeviceCall.Content command) put = gives_content command put

-- a device with its lent buffers
abbrev pub side_of : Device → List ℕ → List ℕ → List ℕ → DeviceSide
side_of d frame bytes contents = record { device = d; frame = frame; bytes = bytes; contents = contents }

abbrev pub step_of : DeviceTicked → List ℕ → List ℕ → List ℕ → DeviceStep
step_of r frame bytes contents = record { side = side_of r.device frame bytes contents; sent = r.sent; told = r.told; result = r.result }

abbrev pub uncalled : Device → DeviceCallTaken
uncalled d = record { device = d; result = CallResult.Nothing }

-- after an answer or a burst content, by what the call answered
abbrev pub called_by : Device → Result Device Refusal → DeviceCallTaken
called_by d (Ok e) = record { device = e; result = CallResult.Taken }
called_by d (Err why) = record { device = d; result = CallResult.Refused (number why) }

-- a call, whatever the tick told before it and whatever data it heard: `frame_after` and `contents_after` are the frame buffer and the burst content after the call
pub record DeviceCalledIs (limit : ℕ) (d : Device) (call : DeviceCall) (put frame contents : List ℕ) (r : DeviceCallTaken)
    (frame_after contents_after : List ℕ) : Type 0 where
  pub goes : (told : DeviceTold) (event : Event) (bytes : List ℕ)
      → device_calls limit (tells d told event) (call_of call put) frame bytes contents
      ≡ device_sent r.device frame_after bytes contents_after told r.result

-- a tick: what is sent, told and answered, the state and the lent buffers after it; and each frame that its reader found
pub record DeviceTickIs (limit : ℕ) (d : Device) (heard : Heard) (call : DeviceCall) (put frame bytes contents : List ℕ) (r : DeviceTicked)
    (frame_after bytes_after contents_after : List ℕ) : Type 0 where
  pub step : step_of r frame_after bytes_after contents_after ≡ device_tick limit (side_of d frame bytes contents) heard (call_of call put)
  pub found : r.event ≡ (device_takes d heard).event
