-- How the code stands for what is to be believed.
-- Values within their types, as the code's masters and devices of the port hold them.
use Rattle.std.specs.Prelude.{ℕ, ◌<◌, ◌^◌, Option, Some, None}
use Rattle.line.specs.declared.Heard.{Heard}
use Rattle.line.specs.declared.Heard.TheVariants.{Silence, Character, Damaged}
use Rattle.master_c.specs.Words.{MasterFits}
use Rattle.device_c.specs.Fits.{DeviceFits}
use Rattle.port.specs.declared.Ear.{Ear}
use Rattle.port.specs.declared.Ear.TheVariants.{Awake, PassesOver, Dozes}
use Rattle.port.specs.declared.PortDevice.{PortDevice}
use Rattle.port.specs.declared.PortMaster.{PortMaster}

abbrev pub WakeFits : Option ℕ → Type 0
WakeFits None = Unit {0}
WakeFits (Some n) = n < 2 ^ 16

pub record PortMasterFits (x : PortMaster) : Type 0 where
  pub master : MasterFits x.master
  pub since : x.since < 2 ^ 16
  pub wake : WakeFits x.wake

abbrev pub HeardFits : Heard → Type 0
HeardFits Silence = Unit {0}
HeardFits (Character c) = c < 2 ^ 8
HeardFits (Damaged c kind) = c < 2 ^ 8

pub record BothFit (a b : Heard) : Type 0 where
  pub first : HeardFits a
  pub second : HeardFits b

abbrev pub EarFits : Ear → Type 0
EarFits Awake = Unit {0}
EarFits (PassesOver before) = Unit {0}
EarFits (Dozes a b) = BothFit a b

pub record PortDeviceFits (y : PortDevice) : Type 0 where
  pub device : DeviceFits y.device
  pub ear : EarFits y.ear
  pub quiet : y.quiet < 2 ^ 16
