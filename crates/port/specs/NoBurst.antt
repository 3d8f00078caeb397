-- To be believed: what the engine must do, or what is claimed of it.
-- Document 02, item 13: "burst is never on nor BURST ever set, and a BACK counts as a damaged frame". "It refuses burst on with 10". These are claimed for every list of what a party hears and what its host asks or gives; the proofs are in proofs/NoBurst.
use Rattle.std.specs.Prelude.{ℕ, ◌≤◌, Bool, false, ◌≡◌, List, [], ◌∷◌}
use Rattle.base.specs.Refusal.{accepted}
use Rattle.frame.specs.Delimiter.{back}
use Rattle.line.specs.declared.Event.{Event}
use Rattle.line.specs.declared.Event.TheVariants.{Frame}
use Rattle.line.specs.declared.Whole.{Whole}
use Rattle.turns.specs.declared.CallResult.{CallResult}
use Rattle.turns.specs.declared.Wish.TheVariants.{Same, On}
use Rattle.port.specs.Master.{port_master_starts}
use Rattle.port.specs.Device.{port_device_starts}
use Rattle.port.specs.Ticks.{PortMasterSide, PortMasterStep, MasterInput, port_master_run, gives_answer, PortDeviceSide, DeviceInput, port_device_tick}

-- no BACK is told as a frame; that it counts as a damaged one is `back_damaged` in proofs/Sentences
abbrev pub NoBack : Event → Type 0
NoBack e = (w : Whole) → e ≡ Frame w → w.header.kind ≡ back → ⊥

-- in every tick the master's BURST is clear, and no BACK is told as a frame
pub data NeverSet : List PortMasterStep → Type 0 where
  no_tick : NeverSet []
  clear_and : {s : PortMasterStep} {ss : List PortMasterStep} → s.side.master.master.burst ≡ false → NoBack s.event → NeverSet ss → NeverSet (s ∷ ss)

-- an answer that wishes burst on, compared with the same answer without a wish: "8: no request in hand, or past T+STO; 9: data outside 2 to 255", else 10
pub data RefusedOn : CallResult → CallResult → Type 0 where
  by_10 : RefusedOn CallResult.Taken (CallResult.Refused 10)
  by_8 : RefusedOn (CallResult.Refused 8) (CallResult.Refused 8)
  by_9 : RefusedOn (CallResult.Refused 9) (CallResult.Refused 9)

-- in every tick a device does not burst, no BACK is told as a frame, and an answer that wishes burst on is refused
pub data NeverOn (limit : ℕ) : PortDeviceSide → List DeviceInput → Type 0 where
  no_tick : {x : PortDeviceSide} → NeverOn limit x []
  off_and : {x : PortDeviceSide} {i : DeviceInput} {is : List DeviceInput}
      → (port_device_tick limit x i.heard i.call).side.device.device.burst ≡ false → NoBack (port_device_tick limit x i.heard i.call).event
      → ((put : List ℕ) → RefusedOn (port_device_tick limit x i.heard (gives_answer Same put)).result
      (port_device_tick limit x i.heard (gives_answer On put)).result)
      → NeverOn limit (port_device_tick limit x i.heard i.call).side is → NeverOn limit x (i ∷ is)

abbrev pub BurstNeverSet : Type 0
BurstNeverSet =
    (limit : ℕ) (primary : Bool) (retries : ℕ) (x : PortMasterSide) (inputs : List MasterInput) → limit ≤ 255
    → port_master_starts primary retries ≡ accepted x.master → NeverSet (port_master_run limit x inputs)

abbrev pub BurstNeverOn : Type 0
BurstNeverOn =
    (limit preamble polling unique : ℕ) (x : PortDeviceSide) (inputs : List DeviceInput)
    → port_device_starts preamble polling unique ≡ accepted x.device → NeverOn limit x inputs
