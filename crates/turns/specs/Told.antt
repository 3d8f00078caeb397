-- To be believed: what the engine must do, or what is claimed of it.
-- What a master and a device tell their hosts, in numbers: the number of each case, as the C header has it, and the values that come with it.
use Rattle.std.specs.Prelude.{ℕ, List, [], ◌∷◌}
use Rattle.base.specs.Choice.{bit}
use Rattle.line.specs.declared.Whole.{Whole}
use Rattle.turns.specs.declared.MasterTold.{MasterTold}
use Rattle.turns.specs.declared.DeviceTold.{DeviceTold}

pub record Told : Type 0 where
  pub number : ℕ
  pub values : List ℕ

-- a frame that was heard: its type, long or short address, master bit, burst flag, address, expansion bytes, command and byte count; its data stand in the lent data buffer
abbrev pub heard_values : Whole → List ℕ
heard_values w =
    w.header.kind ∷
    bit w.header.long ∷
    bit w.header.primary ∷
    bit w.header.burst ∷
    w.header.address ∷
    w.expansion ∷
    w.header.command ∷
    w.count ∷
    []

-- 0 nothing; 1 "answered", with the ACK; 2 "given up, with the attempts"; 3 a broadcast, "reported as sent"
abbrev pub master_tells : MasterTold → Told
master_tells MasterTold.Nothing = record { number = 0; values = [] }
master_tells (MasterTold.Answered w) = record { number = 1; values = heard_values w }
master_tells (MasterTold.GivenUp attempts) = record { number = 2; values = attempts ∷ [] }
master_tells MasterTold.BroadcastSent = record { number = 3; values = [] }

-- 0 nothing; 1 a request; 2 a broadcast, "told to the host and never answered"; each with its STX
abbrev pub device_tells : DeviceTold → Told
device_tells DeviceTold.Nothing = record { number = 0; values = [] }
device_tells (DeviceTold.Request w) = record { number = 1; values = heard_values w }
device_tells (DeviceTold.Broadcast w) = record { number = 2; values = heard_values w }
