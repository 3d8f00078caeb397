-- Inner contracts: nothing that is to be believed rests on them.
-- What a device does on what it hears, by the definitions of turns, and what taking promises.
use Rattle.std.specs.Prelude.{ℕ, Bool, false, ◌≡◌, List, []}
use Rattle.frame.specs.Frame.{frame_length}
use Rattle.line.specs.declared.Heard.{Heard}
use Rattle.turns.specs.Device.{device_takes}
use Rattle.turns.specs.Link.{DeviceSide, device_data}
use Rattle.turns.specs.declared.Device.{Device}
use Rattle.turns.specs.declared.DeviceTaken.{DeviceTaken}

-- how many characters a frame has; of its header only the form of the address matters
abbrev pub length_by : ℕ → Bool → ℕ → ℕ
length_by preamble long count = frame_length preamble (record { kind = 0; long = long; primary = false; burst = false; address = 0; command = 0 }) count

-- a device with the data buffer that it is lent
abbrev pub lent : Device → List ℕ → DeviceSide
lent d bytes = record { device = d; frame = []; bytes = bytes; contents = [] }

-- what taking promises
pub record HeardIs (d : Device) (heard : Heard) (bytes : List ℕ) (t : DeviceTaken) (after : List ℕ) : Type 0 where
  pub taken : t ≡ device_takes d heard
  pub data_is : after ≡ device_data (lent d bytes) heard
