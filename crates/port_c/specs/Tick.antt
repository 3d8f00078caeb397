-- How the code stands for what is to be believed.
-- A tick of the port's master and of a device of the port, over their words and lent buffers.
use Rattle.std.specs.Prelude.{ℕ, List, ◌≡◌, Option, Some, None}
use Rattle.base.specs.Choice.{when◌then◌else◌, ◌=?◌}
use Rattle.base.specs.Lent.{Lent, before, after}
use Rattle.line.specs.declared.Heard.{Heard}
use Rattle.turns.specs.Told.{master_tells, device_tells}
use Rattle.turns.specs.declared.Wish.TheVariants.{Same, On, Off}
use Rattle.party.specs.Numbers.{sent_number, call_number}
use Rattle.state_words.specs.Numbers.{tick_numbers}
use Rattle.master.specs.Tick.{call_of}
use Rattle.master_c.specs.Tick.{told_attempts}
use Rattle.master_c.specs.Words as MasterWords
use Rattle.device_c.specs.Words as DeviceWords
use Rattle.port.specs.Ticks.{PortMasterStep, port_master_tick, PortDeviceStep, port_device_tick}
use Rattle.port_master.specs.Ticks.{side_of}
use Rattle.port_device.specs.Ticks as D
use Rattle.port_c.specs.Words.{master_words, unpacked_master, device_words, unpacked_device}
use Rattle.turns.specs.declared.Request.{Request}
use Rattle.turns.specs.declared.Wish.{Wish}

-- ---- the master

-- what a call leaves after a tick: the words, which are unpacked to the master, both lent buffers, the results and what it returns
pub record MasterStepIs (limit : ℕ) (s : PortMasterStep) (words port frame bytes results : List ℕ) (r : ℕ) : Type 0 where
  pub words_are : words ≡ MasterWords.packed limit s.side.master.master
  pub limit_is : MasterWords.limit_at words ≡ limit
  pub port_are : port ≡ master_words s.side.master
  pub unpacked_is : unpacked_master words port ≡ s.side.master
  pub frame_is : frame ≡ s.side.frame
  pub bytes_are : bytes ≡ s.side.bytes
  pub results_are : results ≡ tick_numbers (sent_number s.sent) (master_tells s.told).number (told_attempts s.told) s.event
  pub returned : r ≡ call_number s.result

-- the step of the master that the words stood for before the call; the data of the host's request are `put`
abbrev pub PortMasterTicks : Lent (List ℕ) → Lent (List ℕ) → Lent (List ℕ) → Lent (List ℕ) → Heard → Option Request → List ℕ → Lent (List ℕ) → ℕ → Type 0
PortMasterTicks words port frame bytes heard call put results r =
    MasterStepIs (MasterWords.limit_at (before words))
    (port_master_tick (MasterWords.limit_at (before words)) (side_of (unpacked_master (before words) (before port)) (before frame) (before bytes)) heard
    (call_of call put))
    (after words) (after port) (after frame) (after bytes) (after results) r

-- ---- a device

-- a host's call by its number: 1 is an answer, 2 one that wishes burst on, 3 one that wishes it off, any other number nothing
abbrev pub call_by : ℕ → Option Wish
call_by number =
    when number =? 1 then Some Same else
    when number =? 2 then Some On else
    when number =? 3 then Some Off else
    None

pub record DeviceStepIs (limit : ℕ) (s : PortDeviceStep) (words port frame bytes results : List ℕ) (r : ℕ) : Type 0 where
  pub words_are : words ≡ DeviceWords.packed limit s.side.device.device
  pub limit_is : DeviceWords.limit_at words ≡ limit
  pub port_are : port ≡ device_words s.side.device
  pub unpacked_is : unpacked_device words port ≡ s.side.device
  pub frame_is : frame ≡ s.side.frame
  pub bytes_are : bytes ≡ s.side.bytes
  pub results_are : results ≡ tick_numbers (sent_number s.sent) (device_tells s.told).number 0 s.event
  pub returned : r ≡ call_number s.result

-- the step of the device that the words stood for before the call; the data of the host's answer are `put`
abbrev pub PortDeviceTicks : Lent (List ℕ) → Lent (List ℕ) → Lent (List ℕ) → Lent (List ℕ) → Heard → Option Wish → List ℕ → Lent (List ℕ) → ℕ → Type 0
PortDeviceTicks words port frame bytes heard call put results r =
    DeviceStepIs (DeviceWords.limit_at (before words))
    (port_device_tick (DeviceWords.limit_at (before words)) (D.side_of (unpacked_device (before words) (before port)) (before frame) (before bytes)) heard
    (D.call_of call put))
    (after words) (after port) (after frame) (after bytes) (after results) r
