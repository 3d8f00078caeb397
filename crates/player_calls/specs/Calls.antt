-- Inner contracts: nothing that is to be believed rests on them.
-- Document 01, "The player": the calls of the code's link in a tick of a script. The law `calls_stand` in proofs/Wanteds.antt says that they are those that the script wants.
use Rattle.std.specs.Prelude.{ℕ, Bool, true, false, List, [], ◌∷◌, replicate, get_or, Option, Some, None}
use Rattle.base.specs.Choice.{when◌then◌else◌, ◌=?◌}
use Rattle.frame.specs.Limits.{most_data}
use Rattle.turns.specs.declared.Wish.{Wish}
use Rattle.turns.specs.declared.Wish.TheVariants.{Same, On, Off}
use Rattle.device_tick.specs.declared.DeviceCall.{DeviceCall}
use Rattle.link_parties.specs.Stands.{no_master_call, no_device_call}
use Rattle.link_parties.specs.declared.Calls.{Calls}
use Rattle.link_parties.specs.declared.DeviceCallWithPart.{DeviceCallWithPart}
use Rattle.link_parties.specs.declared.MasterCallWithPart.{MasterCallWithPart}
use Rattle.link_parties.specs.declared.Part.{Part}
use Rattle.player_script.specs.declared.ScriptTick.{ScriptTick}
use Rattle.player_script.specs.declared.ScriptCall.{ScriptCall}

-- what is put beside every tick's calls
unfoldable pub zero_bytes : List ℕ
zero_bytes = replicate most_data 0

-- so many of them, from the first on
abbrev pub zeros : ℕ → Part
zeros n = record { from = 0; count = n }

-- "FSK, R 3, preamble 5"
abbrev pub request_with : Bool → ℕ → ℕ → MasterCallWithPart
request_with long address command = record {
  call = Some (record { preamble = 5; revision = 7; long = long; address = address; command = command });
  part = zeros 0;
}

-- "1 master asks command 0 of that polling address", "3 master asks command 3 of that unique address"
abbrev pub master_call_for : Option ScriptCall → MasterCallWithPart
master_call_for None = no_master_call
master_call_for (Some w) = when w.action =? 1 then request_with false w.argument 0 else request_with true w.argument 3

abbrev pub answer_with : Wish → ℕ → DeviceCallWithPart
answer_with wish count = record { call = DeviceCall.Answers wish; part = zeros count }

-- "2 device answers with that many zero bytes", "4 and 5 as 2, with burst on or off"
abbrev pub device_call_for : Option ScriptCall → DeviceCallWithPart
device_call_for None = no_device_call
device_call_for (Some w) =
    when w.action =? 2 then answer_with Same w.argument else
    when w.action =? 4 then answer_with On w.argument else answer_with Off w.argument

-- "Burst content is command 3 with two zero bytes": each device's call of tick 0
abbrev pub device_call_in : ℕ → Option ScriptCall → DeviceCallWithPart
device_call_in tick w = when tick =? 0 then record { call = DeviceCall.Content 3; part = zeros 2 } else device_call_for w

abbrev pub calls_for : ℕ → ScriptTick → Calls
calls_for tick t = record {
  masters = master_call_for (get_or t.calls 0 None) ∷ master_call_for (get_or t.calls 1 None) ∷ [];
  devices =
      device_call_in tick (get_or t.calls 2 None) ∷ device_call_in tick (get_or t.calls 3 None) ∷ device_call_in tick (get_or t.calls 4 None)
      ∷ device_call_in tick (get_or t.calls 5 None) ∷ device_call_in tick (get_or t.calls 6 None) ∷ device_call_in tick (get_or t.calls 7 None) ∷ [];
}
