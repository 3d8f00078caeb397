-- To be believed: what the engine must do, or what is claimed of it.
-- Document 02, item 13: what a device does on a wake-up and on the STX behind it, and how long it stays awake. The claims; the proofs are in proofs/Waking, proofs/Stx and proofs/Listening.
use Rattle.std.specs.Prelude.{ℕ, ◌<◌, ◌≤◌, true, false, ◌≡◌, List, [], ◌∷◌, ◌++◌, length}
use Rattle.base.specs.Refusal.{accepted}
use Rattle.frame.specs.Delimiter.{stx, is_type}
use Rattle.frame.specs.Address.{largest_address}
use Rattle.frame.specs.Check.{exclusive_or}
use Rattle.frame.specs.Frame.{too_few, protected_bytes, preamble_bytes}
use Rattle.frame.specs.declared.Header.{Header}
use Rattle.line.specs.Gaps.{IsCharacter}
use Rattle.line.specs.Reader.{blank}
use Rattle.line.specs.declared.Heard.TheVariants.{Character}
use Rattle.line.specs.declared.Place.TheVariants.{Idle, Preamble}
use Rattle.turns.specs.Device.{may_answer}
use Rattle.turns.specs.declared.DeviceTold.{DeviceTold}
use Rattle.turns.specs.declared.DeviceTold.TheVariants.{Request}
use Rattle.turns.specs.declared.Sent.TheVariants.{Silent}
use Rattle.turns.specs.declared.Turn.TheVariants.{Listens}
use Rattle.port.specs.Numbers.{doze_ticks, wake_up_length}
use Rattle.port.specs.Device.{port_device_starts}
use Rattle.port.specs.Sending.{wake_up_bytes}
use Rattle.port.specs.Listening.{manner, reading, dozing}
use Rattle.port.specs.Ticks.{PortCall, PortDeviceSide, PortDeviceStep, DeviceInput, port_device_tick, port_device_run}
use Rattle.port.specs.declared.Ear.TheVariants.{Awake}

-- ticks that carry these characters, whatever the device's host gives meanwhile
pub data Carries : List DeviceInput → List ℕ → Type 0 where
  no_more : Carries [] []
  and : {c : ℕ} {call : PortCall} {is : List DeviceInput} {cs : List ℕ} → Carries is cs → Carries (record { heard = Character c; call = call } ∷ is) (c ∷ cs)

-- a device that dozes or passes over characters, or is awake between frames
pub data Hears (x : PortDeviceSide) : Type 0 where
  while_resting : (manner x.device.ear ≡ reading → ⊥) → Hears x
  between_frames : x.device.ear ≡ Awake → x.device.device.deaf ≡ false → x.device.device.receiver.place ≡ Idle → Hears x

-- the device after a list of ticks
unfoldable pub after_ticks : ℕ → PortDeviceSide → List DeviceInput → PortDeviceSide
after_ticks limit x [] = x
after_ticks limit x (i ∷ is) = after_ticks limit (port_device_tick limit x i.heard i.call).side is

-- nothing is sent, and nothing told
pub data Quietly : List PortDeviceStep → Type 0 where
  no_tick : Quietly []
  quiet_and : {s : PortDeviceStep} {ss : List PortDeviceStep} → s.sent ≡ Silent → s.told ≡ DeviceTold.Nothing → Quietly ss → Quietly (s ∷ ss)

-- awake, with a reader that has heard two 0xFF
pub record ReadsPreamble (x : PortDeviceSide) : Type 0 where
  pub is_awake : x.device.ear ≡ Awake
  pub hears : x.device.device.deaf ≡ false
  pub listens : x.device.device.turn ≡ Listens
  pub reader : x.device.device.receiver ≡ blank (Preamble 2)

-- After any ticks since its start, a wake-up and the first character of the preamble behind it bring every such device into the preamble: what follows is read as document 01's reader reads it.
abbrev pub WakeUpHeard : Type 0
WakeUpHeard =
    (limit preamble polling unique : ℕ) (x : PortDeviceSide) (before inputs : List DeviceInput)
    → port_device_starts preamble polling unique ≡ accepted x.device → Hears (after_ticks limit x before)
    → Carries inputs (wake_up_bytes wake_up_length ++ (0xFF ∷ []))
    → Quietly (port_device_run limit (after_ticks limit x before) inputs) × ReadsPreamble (after_ticks limit (after_ticks limit x before) inputs)

-- ---- a device that heard an answer's last character is awake when a master begins without a wake-up

-- a device that is not dozing after a tick in which it heard a character is not dozing in the next 20,945 ticks either, whatever it hears
abbrev pub StaysAwake : Type 0
StaysAwake =
    (limit : ℕ) (x : PortDeviceSide) (i : DeviceInput) (inputs : List DeviceInput) → x.device.device.deaf ≡ false → IsCharacter i.heard
    → (manner (port_device_tick limit x i.heard i.call).side.device.ear ≡ dozing → ⊥) → length inputs < doze_ticks
    → manner (after_ticks limit (port_device_tick limit x i.heard i.call).side inputs).device.ear ≡ dozing → ⊥

-- ---- "the message directly behind"

-- the fields of a frame that can be written, whatever its preamble
pub record CanBeHeard (h : Header) (put : List ℕ) : Type 0 where
  pub typed : is_type h.kind ≡ true
  pub address_high : h.address ≤ largest_address h.long
  pub count_high : length put ≤ 255
  pub enough : too_few h.kind (length put) ≡ false

-- An STX behind a wake-up, from the second character of its preamble on: it is told to the host of each device that heard the wake-up and may answer it, in the tick that takes its check byte, and nothing is sent or told before.
abbrev pub StxTold : Type 0
StxTold =
    (limit : ℕ) (x : PortDeviceSide) (h : Header) (put : List ℕ) (front : List DeviceInput) (call : PortCall) → ReadsPreamble x → CanBeHeard h put
    → h.kind ≡ stx → may_answer x.device.device h ≡ true
    → Carries front (preamble_bytes 4 ++ protected_bytes h put)
    → Quietly (port_device_run limit x front)
    × ((port_device_tick limit (after_ticks limit x front) (Character (exclusive_or (protected_bytes h put))) call).told
    ≡ Request (record { header = h; expansion = 0; count = length put }))
