-- How the code stands for what is to be believed.
-- A list of ticks as bytes, so that a run can be lent "a list of ticks from tick 0" (document 01, "Runs of the link"). Every byte string is some list of ticks. A tick of a link with six slots is eight calls, one after the other: to the primary, to the secondary, and to the devices of the slots.
-- A call is one byte 0, no call; or a kind that is not 0, the preamble, the command, the address in five bytes, the length of the data in two, each most significant first, and the data. The length counts modulo 257, so that a call can have 0 to 256 data bytes. Past the list's end every byte counts as 0, and a call's data end where the list ends.
use Rattle.std.specs.Prelude.{ℕ, zero, suc, ◌+◌, ◌*◌, ◌/◌, ◌%◌, ◌^◌, Bool, true, false, List, [], ◌∷◌, length, take, drop, Option, Some, None}
use Rattle.base.specs.Choice.{when◌then◌else◌, ◌=?◌}
use Rattle.frame.specs.Address.{byte_at}
use Rattle.turns.specs.Link.{DeviceCall, Calls}
use Rattle.master.specs.Tick as M
use Rattle.device_tick.specs.Tick as D
use Rattle.device_tick.specs.Tick.{host_call_by}
use Rattle.device_tick.specs.declared.DeviceCall as DeviceHost
use Rattle.link_parties.specs.Stands.{if_here}
use Rattle.turns.specs.declared.Request.{Request}

-- ---- a call, in front of the rest of the list

abbrev pub kind_in : List ℕ → ℕ
kind_in rest = byte_at rest 0

abbrev pub address_in : List ℕ → ℕ
address_in rest = byte_at rest 3 * 2 ^ 32 + byte_at rest 4 * 2 ^ 24 + byte_at rest 5 * 2 ^ 16 + byte_at rest 6 * 2 ^ 8 + byte_at rest 7

abbrev pub length_in : List ℕ → ℕ
length_in rest = (byte_at rest 8 * 256 + byte_at rest 9) % 257

abbrev pub data_in : List ℕ → List ℕ
data_in rest = take (length_in rest) (drop 10 rest)

-- a master's call: the kind is four times the revision, plus 1 for a request with a short address or 2 for one with a long address; any other kind is no call
abbrev pub request_of : Bool → List ℕ → Option Request
request_of long rest = Some (record {
  preamble = byte_at rest 1;
  revision = kind_in rest / 4;
  long = long;
  address = address_in rest;
  command = byte_at rest 2;
})

abbrev pub request_by : ℕ → List ℕ → Option Request
request_by form rest = when form =? 1 then request_of false rest else (when form =? 2 then request_of true rest else None)

abbrev pub request_in : List ℕ → Option Request
request_in rest = request_by (kind_in rest % 4) rest

-- a device's call, by its kind
abbrev pub answer_in : List ℕ → DeviceHost.DeviceCall
answer_in rest = host_call_by (kind_in rest) (byte_at rest 2)

-- the rest of the list after a call
unfoldable pub behind_call : List ℕ → List ℕ
behind_call rest = when kind_in rest =? 0 then drop 1 rest else drop (10 + length_in rest) rest

-- ---- a tick

-- which slots have a device
abbrev pub Here : Type 0
Here = List Bool

-- how many calls a tick has: one for each master and one for each slot
abbrev pub calls_each : Here → ℕ
calls_each here = suc (suc (length here))

-- a device's call, with its data
abbrev pub device_call_in : List ℕ → DeviceCall
device_call_in rest = D.call_of (answer_in rest) (data_in rest)

-- the calls of the slots that have a device; a call to an absent slot does nothing
unfoldable pub slots_in : Here → List ℕ → List DeviceCall
slots_in [] rest = []
slots_in (h ∷ hs) rest = if_here h (device_call_in rest) (slots_in hs (behind_call rest))

-- the rest of the list after so many calls
unfoldable pub behind : ℕ → List ℕ → List ℕ
behind zero rest = rest
behind (suc n) rest = behind n (behind_call rest)

unfoldable pub calls_in : Here → List ℕ → Calls
calls_in here rest = record {
  for_primary = M.call_of (request_in rest) (data_in rest);
  for_secondary = M.call_of (request_in (behind_call rest)) (data_in (behind_call rest));
  for_devices = slots_in here (behind 2 rest);
}

-- ---- the list

-- at most n ticks; each takes at least one byte, so there are no more ticks than bytes
unfoldable pub ticks_from : Here → ℕ → List ℕ → List Calls
ticks_from here zero rest = []
ticks_from here (suc n) [] = []
ticks_from here (suc n) (b ∷ bs) = calls_in here (b ∷ bs) ∷ ticks_from here n (behind (calls_each here) (b ∷ bs))

abbrev pub ticks_of : Here → List ℕ → List Calls
ticks_of here bytes = ticks_from here (length bytes) bytes
