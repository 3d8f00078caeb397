-- How the code stands for what is to be believed.
-- For each call the nearest one that can be encoded, and the calls for which a run over the nearest ones is the same run. That each call is refused with the number with which its nearest is, and that a run over any list of ticks is one over some byte string, is proved in proofs/Nearest.antt.
use Rattle.std.specs.Prelude.{ℕ, zero, suc, ◌-◌, ◌^◌, ◌<◌, Bool, true, false, List, [], ◌∷◌, map, take}
use Rattle.base.specs.Refusal.{Called, accepted, refused}
use Rattle.base.specs.Choice.{when◌then◌else◌, ◌<?◌}
use Rattle.turns.specs.Link.{MasterCall, no_request, requests, DeviceCall, no_call, gives_answer, gives_content, Calls}
use Rattle.turns.specs.declared.CallResult.{CallResult}
use Rattle.turns.specs.declared.Request.{Request}
use Rattle.turns.specs.declared.Wish.{Wish}
use Rattle.link_list.specs.Ticks.{Here}
use Rattle.link_list.specs.Encode.{Bytes}

-- ---- the nearest call that can be encoded

-- n, or the most where n is above it
abbrev pub at_most : ℕ → ℕ → ℕ
at_most most n = when most <? n then most else n

-- at most 256 data bytes
abbrev pub nearest_data : List ℕ → List ℕ
nearest_data put = map (at_most 0xFF) (take 256 put)

abbrev pub nearest_request : Request → Request
nearest_request q = record {
  preamble = at_most 0xFF q.preamble;
  revision = at_most 0x3F q.revision;
  long = q.long;
  address = at_most (2 ^ 40 - 1) q.address;
  command = at_most 0xFF q.command;
}

abbrev pub nearest_master : MasterCall → MasterCall
nearest_master no_request = no_request
nearest_master (requests q put) = requests (nearest_request q) (nearest_data put)

abbrev pub nearest_device : DeviceCall → DeviceCall
nearest_device no_call = no_call
nearest_device (gives_answer wish put) = gives_answer wish (nearest_data put)
nearest_device (gives_content command put) = gives_content (at_most 0xFF command) (nearest_data put)

-- how many slots have a device
abbrev pub present : List Bool → ℕ
present [] = 0
present (false ∷ slots) = present slots
present (true ∷ slots) = suc (present slots)

-- a call for each of n devices; "a device past the end of the list has none"
abbrev pub nearest_devices : ℕ → List DeviceCall → List DeviceCall
nearest_devices zero calls = []
nearest_devices (suc n) [] = no_call ∷ nearest_devices n []
nearest_devices (suc n) (c ∷ cs) = nearest_device c ∷ nearest_devices n cs

abbrev pub nearest_tick : Here → Calls → Calls
nearest_tick here c = record {
  for_primary = nearest_master c.for_primary;
  for_secondary = nearest_master c.for_secondary;
  for_devices = nearest_devices (present here) c.for_devices;
}

unfoldable pub nearest_ticks : Here → List Calls → List Calls
nearest_ticks here [] = []
nearest_ticks here (c ∷ cs) = nearest_tick here c ∷ nearest_ticks here cs

-- what became of a call: taken, or refused with a number
abbrev pub outcome : {A : Type 0} → Called A → CallResult
outcome (accepted a) = CallResult.Taken
outcome (refused why) = CallResult.Refused why

-- it was refused
pub data IsRefused : CallResult → Type 0 where
  is_refused : (why : ℕ) → IsRefused (CallResult.Refused why)

-- ---- calls whose command and data are bytes, whatever else they hold

pub data MasterGives : MasterCall → Type 0 where
  gives_none : MasterGives no_request
  gives_request : {q : Request} {put : List ℕ} → q.command < 256 → Bytes put → MasterGives (requests q put)

pub data DeviceGives : DeviceCall → Type 0 where
  gives_none : DeviceGives no_call
  gives_wished : {wish : Wish} {put : List ℕ} → Bytes put → DeviceGives (gives_answer wish put)
  gives_burst : {command : ℕ} {put : List ℕ} → command < 256 → Bytes put → DeviceGives (gives_content command put)

pub data DevicesGive : List DeviceCall → Type 0 where
  no_device : DevicesGive []
  device_and : {c : DeviceCall} {cs : List DeviceCall} → DeviceGives c → DevicesGive cs → DevicesGive (c ∷ cs)

pub record TickGives (c : Calls) : Type 0 where
  pub primary : MasterGives c.for_primary
  pub secondary : MasterGives c.for_secondary
  pub devices : DevicesGive c.for_devices

pub data TicksGive : List Calls → Type 0 where
  no_tick : TicksGive []
  tick_and : {c : Calls} {cs : List Calls} → TickGives c → TicksGive cs → TicksGive (c ∷ cs)
