-- To be believed: what the engine must do, or what is claimed of it.
-- "A device bursts from the first character of an ACK whose answer turned burst on until the first character of one whose answer turned it off." Here that is worked out from what the device heard, what its host gave and what it sent, without the field `burst`; BurstsAsSaid says that the field agrees with it in every tick.
use Rattle.std.specs.Prelude.{ℕ, ◌≡◌, Bool, false, List, [], ◌∷◌}
use Rattle.base.specs.Refusal.{accepted}
use Rattle.base.specs.Choice.{when◌then◌else◌}
use Rattle.line.specs.Profile.{profile_made}
use Rattle.line.specs.declared.Heard.{Heard}
use Rattle.line.specs.declared.Heard.TheVariants.{Silence, Character, Damaged}
use Rattle.line.specs.declared.Profile.{Profile}
use Rattle.turns.specs.Device.{wished}
use Rattle.turns.specs.Link.{DeviceCall, no_call, gives_answer, gives_content, DeviceSide, DeviceStep, device_tick}
use Rattle.turns.specs.Run.{DeviceStarts}
use Rattle.turns.specs.declared.CallResult.{CallResult}
use Rattle.turns.specs.declared.Sent.{Sent}
use Rattle.turns.specs.declared.Sent.TheVariants.{Silent}
use Rattle.turns.specs.declared.Wish.{Wish}

-- the wish of an answer that was taken and whose ACK has not begun
pub data Wished : Type 0 where
  no_wish : Wished
  wishes : Wish → Wished

pub record BurstLog : Type 0 where
  pub on : Bool
  pub pending : Wished

-- "A character heard before then drops the request", and the wish with it; a device that is deaf hears nothing
abbrev pub dropped_by : Heard → Wished → Wished
dropped_by Silence w = w
dropped_by (Character c) w = no_wish
dropped_by (Damaged c kind) w = no_wish

-- the host's answer is taken
abbrev pub taken_with : Wish → CallResult → Wished → Wished
taken_with wish CallResult.Nothing w = w
taken_with wish CallResult.Taken w = wishes wish
taken_with wish (CallResult.Refused why) w = w

abbrev pub wished_by : DeviceCall → CallResult → Wished → Wished
wished_by no_call a w = w
wished_by (gives_answer wish put) a w = taken_with wish a w
wished_by (gives_content command put) a w = w

-- "A wish takes effect with its ACK's first character": the first that the device sends after the answer
abbrev pub effective : Bool → Wished → BurstLog
effective on no_wish = record { on = on; pending = no_wish }
effective on (wishes wish) = record { on = wished on wish; pending = no_wish }

abbrev pub sent_with : Sent → Bool → Wished → BurstLog
sent_with Silent on w = record { on = on; pending = w }
sent_with (Sent.Character c) on w = effective on w

-- a tick of the device
abbrev pub log_after : DeviceSide → Heard → DeviceCall → DeviceStep → BurstLog → BurstLog
log_after x heard c s g = sent_with s.sent g.on (wished_by c s.result (when x.device.deaf then g.pending else dropped_by heard g.pending))

-- what a device hears in a tick, and what its host gives
pub record DeviceInput : Type 0 where
  pub heard : Heard
  pub call : DeviceCall

-- the field agrees with the log in every tick
pub data Agrees (limit : ℕ) : BurstLog → DeviceSide → List DeviceInput → Type 0 where
  no_tick : {g : BurstLog} {x : DeviceSide} → Agrees limit g x []
  tick_and : {g : BurstLog} {x : DeviceSide} {i : DeviceInput} {is : List DeviceInput}
      → (device_tick limit x i.heard i.call).side.device.burst ≡ (log_after x i.heard i.call (device_tick limit x i.heard i.call) g).on
      → Agrees limit (log_after x i.heard i.call (device_tick limit x i.heard i.call) g) (device_tick limit x i.heard i.call).side is
      → Agrees limit g x (i ∷ is)

-- "burst starts off"; for every device that started, whatever it hears and whatever its host gives
abbrev pub BurstsAsSaid : ℕ → Type 0
BurstsAsSaid limit =
    (p : Profile) (x : DeviceSide) (inputs : List DeviceInput) → profile_made p ≡ accepted p → DeviceStarts p x
    → Agrees limit (record { on = false; pending = no_wish }) x inputs
