-- To be believed: what the engine must do, or what is claimed of it.
-- Document 02, item 13: when a device dozes, when it wakes and when it goes on reading, worked out from what it heard and sent, for every list. The proofs are in proofs/Listening and proofs/Hands.
use Rattle.std.specs.Prelude.{ℕ, ◌+◌, Bool, true, false, ◌≡◌, List, [], ◌∷◌}
use Rattle.base.specs.Choice.{when◌then◌else◌, ◌≤?◌}
use Rattle.base.specs.Refusal.{accepted}
use Rattle.line.specs.declared.Heard.{Heard}
use Rattle.line.specs.declared.Heard.TheVariants.{Silence, Character, Damaged}
use Rattle.line.specs.declared.Place.TheVariants.{Idle}
use Rattle.turns.specs.declared.Device.{Device}
use Rattle.turns.specs.declared.Sent.{Sent}
use Rattle.turns.specs.declared.Sent.TheVariants.{Silent}
use Rattle.turns.specs.declared.Turn.TheVariants.{Listens}
use Rattle.port.specs.Numbers.{doze_ticks}
use Rattle.port.specs.Device.{is_undamaged, wakes, hears_wake_up, port_device_starts}
use Rattle.port.specs.Ticks.{PortDeviceSide, PortDeviceStep, DeviceInput, port_device_tick, port_device_run}
use Rattle.port.specs.declared.Ear.{Ear}
use Rattle.port.specs.declared.Ear.TheVariants.{Awake, PassesOver, Dozes}

-- how a device listens
pub data Manner : Type 0 where
  reading : Manner
  passing_over : Manner
  dozing : Manner

abbrev pub manner : Ear → Manner
manner Awake = reading
manner (PassesOver before) = passing_over
manner (Dozes a b) = dozing

-- ---- the quiet ticks: silent ticks since the last character that the device heard or sent

abbrev pub quiet_heard : Heard → ℕ → ℕ
quiet_heard Silence q = q + 1
quiet_heard (Character c) q = 0
quiet_heard (Damaged c kind) q = 0

-- in a tick in which it is deaf a device hears nothing
abbrev pub quiet_taken : PortDeviceSide → Heard → ℕ → ℕ
quiet_taken x heard q = when x.device.device.deaf then q else quiet_heard heard q

abbrev pub quiet_sent : Sent → ℕ → ℕ
quiet_sent Silent q = q
quiet_sent (Sent.Character c) q = 0

-- ---- by what was heard in the ticks before, the newest first, since the device has listened in this manner

-- "wakes on three wake-up bytes that alternate, or on two characters other than 0xFF, damaged or not", "in successive ticks"
abbrev pub last_wake : List Heard → Heard → Bool
last_wake [] h = wakes Silence Silence h
last_wake (b ∷ []) h = wakes Silence b h
last_wake (b ∷ (a ∷ past)) h = wakes a b h

-- "passes over characters until two 0xFF", "in successive ticks"
abbrev pub last_two_ones : List Heard → Heard → Bool
last_two_ones [] h = false
last_two_ones (b ∷ past) h = when is_undamaged 0xFF b then is_undamaged 0xFF h else false

-- how it listens after a tick that it hears, with so many quiet ticks, this tick included: "dozes after 20,946 quiet ticks"
abbrev pub manner_after : Manner → Device → List Heard → Heard → ℕ → Manner
-- "an awake one that hears 0x00 between frames does the same"
manner_after reading d past h q = when doze_ticks ≤? q then dozing else (when hears_wake_up d h then passing_over else reading)
manner_after passing_over d past h q = when doze_ticks ≤? q then dozing else (when last_two_ones past h then reading else passing_over)
manner_after dozing d past h q = when last_wake past h then passing_over else dozing

-- what was heard in the ticks since it has listened in this manner
abbrev pub past_after : Manner → Manner → List Heard → Heard → List Heard
past_after reading reading past h = h ∷ past
past_after passing_over passing_over past h = h ∷ past
past_after dozing dozing past h = h ∷ past
past_after reading passing_over past h = []
past_after reading dozing past h = []
past_after passing_over reading past h = []
past_after passing_over dozing past h = []
past_after dozing reading past h = []
past_after dozing passing_over past h = []

-- in every tick: a deaf device listens as before, and one that hears listens as its last ticks say
pub data ListensAsSaid (limit : ℕ) : ℕ → List Heard → PortDeviceSide → List DeviceInput → Type 0 where
  no_tick : {q : ℕ} {past : List Heard} {x : PortDeviceSide} → ListensAsSaid limit q past x []
  deaf_and : {q : ℕ} {past : List Heard} {x : PortDeviceSide} {i : DeviceInput} {is : List DeviceInput} → x.device.device.deaf ≡ true
      → manner (port_device_tick limit x i.heard i.call).side.device.ear ≡ manner x.device.ear
      → ListensAsSaid limit (quiet_sent (port_device_tick limit x i.heard i.call).sent q) past (port_device_tick limit x i.heard i.call).side is
      → ListensAsSaid limit q past x (i ∷ is)
  hears_and : {q : ℕ} {past : List Heard} {x : PortDeviceSide} {i : DeviceInput} {is : List DeviceInput} → x.device.device.deaf ≡ false
      → manner (port_device_tick limit x i.heard i.call).side.device.ear
      ≡ manner_after (manner x.device.ear) x.device.device past i.heard (quiet_heard i.heard q)
      → ListensAsSaid limit (quiet_sent (port_device_tick limit x i.heard i.call).sent (quiet_heard i.heard q))
      (past_after (manner x.device.ear) (manner (port_device_tick limit x i.heard i.call).side.device.ear) past i.heard)
      (port_device_tick limit x i.heard i.call).side is
      → ListensAsSaid limit q past x (i ∷ is)

-- "A device starts awake"
abbrev pub Listening : Type 0
Listening =
    (limit preamble polling unique : ℕ) (x : PortDeviceSide) (inputs : List DeviceInput)
    → port_device_starts preamble polling unique ≡ accepted x.device → (manner x.device.ear ≡ reading) × ListensAsSaid limit 0 [] x inputs

-- 0x00 between frames: it is undamaged, and the reader is not passing over characters after a broken frame
pub record HearsZero (d : Device) (heard : Heard) : Type 0 where
  pub between_frames : d.receiver.place ≡ Idle
  pub is_zero : heard ≡ Character 0x00

abbrev pub ZeroBetweenFrames : Type 0
ZeroBetweenFrames = (d : Device) (heard : Heard) → (hears_wake_up d heard ≡ true → HearsZero d heard) × (HearsZero d heard → hears_wake_up d heard ≡ true)

-- ---- a device that is not awake has no request in hand and is not deaf

pub record HasNothing (x : PortDeviceSide) : Type 0 where
  pub hears : x.device.device.deaf ≡ false
  pub no_request : x.device.device.turn ≡ Listens

pub data NothingInHand : List PortDeviceStep → Type 0 where
  no_tick : NothingInHand []
  tick_and : {s : PortDeviceStep} {ss : List PortDeviceStep} → ((manner s.side.device.ear ≡ reading → ⊥) → HasNothing s.side) → NothingInHand ss
      → NothingInHand (s ∷ ss)

abbrev pub NothingWhileResting : Type 0
NothingWhileResting =
    (limit preamble polling unique : ℕ) (x : PortDeviceSide) (inputs : List DeviceInput)
    → port_device_starts preamble polling unique ≡ accepted x.device → NothingInHand (port_device_run limit x inputs)
