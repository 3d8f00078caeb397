-- The phases of the link: what holds of every party while the line is silent, and while one party sends.
use Prim.Native.Nat.{ℕ, ◌≤◌, ◌<◌}
use mathlib.Core.Path.{◌≡◌, refl}
use mathlib.Core.Bool.{Bool, true, false}
use mathlib.Core.List.{List, ◌∷◌}
use lib.ListN.{length}
use Rattle.frame.specs.declared.Header.{Header}
use Rattle.line.specs.Reader.{idle, passing, tells, taken}
use Rattle.line.specs.declared.Event.TheVariants.{Nothing}
use Rattle.line.specs.declared.Heard.TheVariants.{Silence}
use Rattle.line.specs.declared.Profile.{Profile}
use Rattle.line.specs.declared.Receiver.{Receiver}
use Rattle.line.proofs.Ticks.{outside_idle}
use Rattle.turns.specs.Device.{may_answer}
use Rattle.turns.specs.Link.{MasterSide, DeviceSide}
use Rattle.turns.specs.Run.{All}
use Rattle.turns.specs.declared.Turn.TheVariants.{Listens}
use Rattle.turns.specs.declared.Noted.{Noted}
use Rattle.turns.specs.declared.Timer.{Timer}
use Rattle.turns.proofs.Masters.{Formed, Still}
use Rattle.turns.proofs.Devices.{Sound, Hand, ticks_in_hand}
use Rattle.turns.proofs.Windows.{Apart, Gap}

-- ---- lists of devices

-- one of them is of the kind P, and all others of the kind Q
pub data OneOf (P Q : DeviceSide → Type 0) : List DeviceSide → Type 0 where
  here : {x : DeviceSide} {xs : List DeviceSide} → P x → All Q xs → OneOf P Q (x ∷ xs)
  further : {x : DeviceSide} {xs : List DeviceSide} → Q x → OneOf P Q xs → OneOf P Q (x ∷ xs)

pub data Some (P : DeviceSide → Type 0) : List DeviceSide → Type 0 where
  this : {x : DeviceSide} {xs : List DeviceSide} → P x → Some P (x ∷ xs)
  later : {x : DeviceSide} {xs : List DeviceSide} → Some P xs → Some P (x ∷ xs)

-- ---- a party that does not send

-- a silent tick leads its reader to idle, and tells nothing
unfoldable pub Ready : Receiver → Type 0
Ready r = taken r Silence ≡ tells idle Nothing

pub idle_ready : Ready idle
unfolding Ready
idle_ready = outside_idle idle refl

pub passing_ready : Ready passing
unfolding Ready
passing_ready = outside_idle passing refl

pub record MasterIs (p : Profile) (primary : Bool) (x : MasterSide) : Type 0 where
  pub profile_is : x.master.profile ≡ p
  pub primary_is : x.master.primary ≡ primary
  pub room : 284 ≤ length x.frame

pub record MasterListens (p : Profile) (primary : Bool) (x : MasterSide) : Type 0 where
  pub is_it : MasterIs p primary x
  pub hears : x.master.deaf ≡ false
  pub still : Still x.master.message.stage
  pub formed : Formed x.master.primary x.frame x.master.message

pub record DeviceListens (p : Profile) (x : DeviceSide) : Type 0 where
  pub profile_is : x.device.profile ≡ p
  pub hears : x.device.deaf ≡ false
  pub hand : Hand x.device x.frame
  pub sound : Sound x.device x.frame x.contents

-- ---- BURST and the devices: the masters' BURST, and whom they noted

-- `next` says whether the next BACK is for the primary
pub record BurstIs (burst : Bool) (noted : Noted) (next : Bool) (x : DeviceSide) : Type 0 where
  pub burst_set : x.device.burst ≡ true → burst ≡ true
  pub long_noted : x.device.burst ≡ true → noted.long ≡ true
  pub unique_noted : x.device.burst ≡ true → noted.address ≡ x.device.unique
  pub next_is : x.device.burst ≡ true → x.device.primary ≡ next

abbrev pub Bursting : DeviceSide → Type 0
Bursting x = x.device.burst ≡ true

pub record Agreed (burst : Bool) (noted : Noted) (next : Bool) (xs : List DeviceSide) : Type 0 where
  pub each : All (BurstIs burst noted next) xs
  pub one_bursts : burst ≡ true → Some Bursting xs

-- ---- the silent line

-- a device while the line is silent: g ticks more an answer may begin, to the STX with the header h; a BACK is due in n ticks
pub record DeviceQuiet (p : Profile) (g : ℕ) (h : Header) (n : ℕ) (x : DeviceSide) : Type 0 where
  pub listens : DeviceListens p x
  pub ready : Ready x.device.receiver
  pub in_time : ticks_in_hand x.device.turn ≤ g
  pub asked_own : (x.device.turn ≡ Listens → ⊥) → may_answer x.device h ≡ true
  pub asked_for : (x.device.turn ≡ Listens → ⊥) → x.device.request ≡ h
  pub back_due : x.device.burst ≡ true → x.device.due ≡ n

pub record MasterQuiet (p : Profile) (primary burst : Bool) (noted : Noted) (x : MasterSide) : Type 0 where
  pub listens : MasterListens p primary x
  pub ready : Ready x.master.receiver
  pub burst_is : x.master.burst ≡ burst
  pub noted_is : x.master.noted ≡ noted

-- BURST clear: one master's window opens first
pub data ClearWindows (p : Profile) (a b : Timer) : Type 0 where
  primary_first : (gap : ℕ) → Gap p gap → Apart p gap a b → ClearWindows p a b
  secondary_first : (gap : ℕ) → Gap p gap → Apart p gap b a → ClearWindows p a b

-- no window is open or opens within g ticks
pub record ShutFor (g : ℕ) (t : Timer) : Type 0 where
  pub shut : 1 ≤ g → t.window ≡ 0
  pub later : 1 ≤ g → g < t.next
