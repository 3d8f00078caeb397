-- How the code stands for what is to be believed.
-- A tick of a master and of a device behind a chip, by `master_tick` and `device_tick` of crates/turns/specs/Link.antt.
use Rattle.std.specs.Prelude.{ℕ, Bool, List, Option}
use Rattle.base.specs.Lent.{Lent, before, after}
use Rattle.line.specs.declared.Heard.{Heard}
use Rattle.modem.specs.Chip.{arrives}
use Rattle.modem.specs.Driver.{hears}
use Rattle.modem.specs.declared.Carried.{Carried}
use Rattle.modem.specs.declared.Chip.{Chip}
use Rattle.turns.specs.Link.{MasterCall, MasterSide, MasterStep, master_tick, DeviceCall, DeviceSide, DeviceStep, device_tick}
use Rattle.turns.specs.declared.Master.{Master}
use Rattle.turns.specs.declared.Device.{Device}
use Rattle.master.specs.Tick as M
use Rattle.device_tick.specs.Tick as D
use Rattle.device_tick.specs.declared.DeviceCall as DC
use Rattle.modem_party.specs.Behind.{Step, BehindSame, BehindIs}
use Rattle.modem_party.specs.declared.MasterBehind.{MasterBehind}
use Rattle.modem_party.specs.declared.DeviceBehind.{DeviceBehind}
use Rattle.turns.specs.declared.Request.{Request}

-- ---- the two parties; all that a tick tells is the whole step

abbrev pub master_done : MasterStep → Step MasterSide MasterStep
master_done u = record { behind = u.side; sent = u.sent; told = u }

abbrev pub master_step : ℕ → MasterSide → Heard → MasterCall → Step MasterSide MasterStep
master_step limit s h c = master_done (master_tick limit s h c)

abbrev pub device_done : DeviceStep → Step DeviceSide DeviceStep
device_done u = record { behind = u.side; sent = u.sent; told = u }

abbrev pub device_step : ℕ → DeviceSide → Heard → DeviceCall → Step DeviceSide DeviceStep
device_step limit s h c = device_done (device_tick limit s h c)

abbrev pub master_deaf : MasterSide → Bool
master_deaf s = s.master.deaf

abbrev pub device_deaf : DeviceSide → Bool
device_deaf s = s.device.deaf

-- over every list of ticks
abbrev pub MasterSame : ℕ → Type 0
MasterSame limit = BehindSame (master_step limit) master_deaf

abbrev pub DeviceSame : ℕ → Type 0
DeviceSame limit = BehindSame (device_step limit) device_deaf

-- ---- what a tick of the code promises: the party's tick, each frame that its reader found in it, and what holds of any party behind a chip

pub record MasterBehindIs (limit : ℕ) (x : Chip) (w : Carried) (m : Master) (call : Option Request) (put frame bytes : List ℕ)
    (r : MasterBehind) (frame_after bytes_after : List ℕ) : Type 0 where
  pub ticks : M.MasterTickIs limit m (hears (arrives x w)).heard call put frame bytes r.ticked frame_after bytes_after
  pub behind : BehindIs (master_step limit) master_deaf x w (M.side_of m frame bytes) (M.call_of call put)
      (master_done (M.step_of r.ticked frame_after bytes_after)) r.ended

abbrev pub MasterTicks : ℕ → Chip → Carried → Master → Option Request → List ℕ → Lent (List ℕ) → Lent (List ℕ) → MasterBehind → Type 0
MasterTicks limit x w m call put frame bytes r = MasterBehindIs limit x w m call put (before frame) (before bytes) r (after frame) (after bytes)

pub record DeviceBehindIs (limit : ℕ) (x : Chip) (w : Carried) (d : Device) (call : DC.DeviceCall) (put frame bytes contents : List ℕ)
    (r : DeviceBehind) (frame_after bytes_after contents_after : List ℕ) : Type 0 where
  pub ticks : D.DeviceTickIs limit d (hears (arrives x w)).heard call put frame bytes contents r.ticked frame_after bytes_after contents_after
  pub behind : BehindIs (device_step limit) device_deaf x w (D.side_of d frame bytes contents) (D.call_of call put)
      (device_done (D.step_of r.ticked frame_after bytes_after contents_after)) r.ended

abbrev pub DeviceTicks : ℕ → Chip → Carried → Device → DC.DeviceCall → List ℕ → Lent (List ℕ) → Lent (List ℕ) → Lent (List ℕ) → DeviceBehind → Type 0
DeviceTicks limit x w d call put frame bytes contents r =
    DeviceBehindIs limit x w d call put (before frame) (before bytes) (before contents) r (after frame) (after bytes) (after contents)
