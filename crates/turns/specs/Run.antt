-- To be believed: what the engine must do, or what is claimed of it.
-- What is said of a run of the link: document 01, "Runs of the link". How the parties start, what is asked of the devices, and who sends.
use Rattle.std.specs.Prelude.{ℕ, ◌+◌, ◌≤◌, ◌≡◌, Bool, true, false, List, [], ◌∷◌, length}
use Rattle.base.specs.Refusal.{accepted}
use Rattle.frame.specs.Limits.{most_data, longest_frame}
use Rattle.line.specs.declared.Profile.{Profile}
use Rattle.turns.specs.Master.{master_starts}
use Rattle.turns.specs.Device.{device_starts}
use Rattle.turns.specs.Link.{MasterSide, DeviceSide, DeviceStep, Link, LinkStep, sides}
use Rattle.turns.specs.declared.Sent.{Sent}
use Rattle.turns.specs.declared.Sent.TheVariants.{Silent, Character}

-- ---- devices

-- P holds of every device
pub data All (P : DeviceSide → Type 0) : List DeviceSide → Type 0 where
  none : All P []
  and : {x : DeviceSide} {xs : List DeviceSide} → P x → All P xs → All P (x ∷ xs)

-- no address in common: neither the polling address nor the unique one
pub record Differ (x y : DeviceSide) : Type 0 where
  pub polling_differs : x.device.polling ≡ y.device.polling → ⊥
  pub unique_differs : x.device.unique ≡ y.device.unique → ⊥

-- "devices that share no address"
pub data Distinct : List DeviceSide → Type 0 where
  none : Distinct []
  and : {x : DeviceSide} {xs : List DeviceSide} → All (Differ x) xs → Distinct xs → Distinct (x ∷ xs)

-- "at most one device bursts at a time"
pub data Sole : List DeviceSide → Type 0 where
  no_one : Sole []
  sole_and : {x : DeviceSide} {xs : List DeviceSide}
      → All (λ (y : DeviceSide). x.device.burst ≡ true → y.device.burst ≡ true → ⊥) xs → Sole xs → Sole (x ∷ xs)

-- ---- the start

-- a master that its start accepted, with room for the longest frame
pub record MasterStarts (p : Profile) (primary : Bool) (retries : ℕ) (x : MasterSide) : Type 0 where
  pub starts : master_starts p primary retries ≡ accepted x.master
  pub room : longest_frame most_data ≤ length x.frame

-- a device that its start accepted, with room for the longest frame and the longest content
pub record DeviceStarts (p : Profile) (x : DeviceSide) : Type 0 where
  pub preamble : ℕ
  pub polling : ℕ
  pub unique : ℕ
  pub starts : device_starts p preamble polling unique ≡ accepted x.device
  pub room : longest_frame most_data ≤ length x.frame
  pub content_room : most_data ≤ length x.contents

-- "a primary master, a secondary master and devices that share no address all start in the same tick with one profile and one retry limit R"
pub record Starts (p : Profile) (retries : ℕ) (l : Link) : Type 0 where
  pub primary : MasterStarts p true retries l.primary
  pub secondary : MasterStarts p false retries l.secondary
  pub devices : All (DeviceStarts p) l.devices
  pub distinct : Distinct l.devices

-- ---- who sends in a tick

-- 1 for a party that sends
abbrev pub count : Sent → ℕ
count Silent = 0
count (Character c) = 1

unfoldable pub device_senders : List DeviceStep → ℕ
device_senders [] = 0
device_senders (s ∷ ss) = count s.sent + device_senders ss

abbrev pub senders : LinkStep → ℕ
senders s = count s.for_primary.sent + (count s.for_secondary.sent + device_senders s.for_devices)

-- ---- every tick of a run

pub data EachTick (P : LinkStep → Type 0) : List LinkStep → Type 0 where
  no_tick : EachTick P []
  tick_and : {s : LinkStep} {ss : List LinkStep} → P s → EachTick P ss → EachTick P (s ∷ ss)

-- "at most one device bursts at a time", after this tick
abbrev pub OneBursts : LinkStep → Type 0
OneBursts s = Sole (sides s.for_devices)

-- "no two send in one tick"
abbrev pub NoTwoSend : LinkStep → Type 0
NoTwoSend s = senders s ≤ 1
