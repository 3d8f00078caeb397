-- How the code stands for what is to be believed.
-- How the parties, rows and calls of the code stand for those of crates/turns/specs/Link.antt. The devices of a link are those of the slots that have one, in the slots' order.
use Rattle.std.specs.Prelude.{ℕ, suc, ◌+◌, Bool, true, false, List, [], ◌∷◌, map, get_or, Option, Some, None, is_some}
use Rattle.base.specs.Lent.{Lent, before, after}
use Rattle.line.specs.declared.Heard.{Heard}
use Rattle.turns.specs.Master.{fresh_master}
use Rattle.turns.specs.Link.{MasterSide, DeviceSide, no_request}
use Rattle.turns.specs.Link as L
use Rattle.turns.specs.declared.Device.{Device}
use Rattle.turns.specs.declared.Master.{Master}
use Rattle.master.specs.Tick as M
use Rattle.master.specs.declared.MasterTicked.{MasterTicked}
use Rattle.device_tick.specs.Tick as D
use Rattle.device_tick.specs.declared.DeviceTicked.{DeviceTicked}
use Rattle.device_tick.specs.declared.DeviceCall.{DeviceCall}
use Rattle.link_parties.specs.Part.{data_of}
use Rattle.link_parties.specs.declared.Calls.{Calls}
use Rattle.link_parties.specs.declared.DeviceCallWithPart.{DeviceCallWithPart}
use Rattle.link_parties.specs.declared.Link.{Link}
use Rattle.link_parties.specs.declared.MasterCallWithPart.{MasterCallWithPart}
use Rattle.link_parties.specs.declared.Part.{Part}

-- ---- the parties

-- what is lent: rows 0 and 1 of frames and bytes are the masters'; row i + 2, and row i of contents, are device i's
pub record Rows : Type 0 where
  pub frames : List (List ℕ)
  pub bytes : List (List ℕ)
  pub contents : List (List ℕ)

abbrev pub rows_of : List (List ℕ) → List (List ℕ) → List (List ℕ) → Rows
rows_of frames bytes contents = record { frames = frames; bytes = bytes; contents = contents }

-- the master with this number
abbrev pub master_at : Rows → ℕ → Master → MasterSide
master_at x i m = M.side_of m (get_or x.frames i []) (get_or x.bytes i [])

-- there are always two masters; this one is given for any other number
abbrev pub any_master : Master
any_master = fresh_master (record { sto = 0; hold = 0; rt2 = 0; rt1p = 0; rt1s = 0 }) true 0

-- the device with this number
abbrev pub device_at : Rows → ℕ → Device → DeviceSide
device_at x i d = D.side_of d (get_or x.frames (i + 2) []) (get_or x.bytes (i + 2) []) (get_or x.contents i [])

abbrev pub if_here : {A : Type 0} → Bool → A → List A → List A
if_here true a others = a ∷ others
if_here false a others = others

-- the devices of the slots that have one, from this number on
unfoldable pub devices_from : Rows → ℕ → List (Option Device) → List DeviceSide
devices_from x i [] = []
devices_from x i (None ∷ ss) = devices_from x (suc i) ss
devices_from x i (Some d ∷ ss) = device_at x i d ∷ devices_from x (suc i) ss

abbrev pub link_of : Link → Rows → L.Link
link_of l x = record {
  primary = master_at x 0 (get_or l.masters 0 any_master);
  secondary = master_at x 1 (get_or l.masters 1 any_master);
  devices = devices_from x 0 l.devices;
  line = l.line;
}

-- which slots have a device
abbrev pub heres : List (Option Device) → List Bool
heres ss = map is_some ss

-- ---- the calls, with their data in what is put

abbrev pub no_part : Part
no_part = record { from = 0; count = 0 }

abbrev pub no_master_call : MasterCallWithPart
no_master_call = record { call = None; part = no_part }

abbrev pub no_device_call : DeviceCallWithPart
no_device_call = record { call = DeviceCall.Nothing; part = no_part }

abbrev pub master_call_of : List ℕ → MasterCallWithPart → L.MasterCall
master_call_of put c = M.call_of c.call (data_of c.part put)

abbrev pub device_call_of : List ℕ → DeviceCallWithPart → L.DeviceCall
device_call_of put c = D.call_of c.call (data_of c.part put)

-- a call to an absent device does nothing
unfoldable pub device_calls_from : List ℕ → List DeviceCallWithPart → ℕ → List Bool → List L.DeviceCall
device_calls_from put cs i [] = []
device_calls_from put cs i (h ∷ hs) = if_here h (device_call_of put (get_or cs i no_device_call)) (device_calls_from put cs (suc i) hs)

abbrev pub calls_of : List ℕ → List Bool → Calls → L.Calls
calls_of put hs c = record {
  for_primary = master_call_of put (get_or c.masters 0 no_master_call);
  for_secondary = master_call_of put (get_or c.masters 1 no_master_call);
  for_devices = device_calls_from put c.devices 0 hs;
}

-- no host calls
abbrev pub uncalled : L.Calls
uncalled = record { for_primary = no_request; for_secondary = no_request; for_devices = [] }

-- ---- a tick of a party, whose call names its data in what is put

abbrev pub MasterIs : ℕ → Master → Heard → MasterCallWithPart → List ℕ → Lent (List ℕ) → Lent (List ℕ) → MasterTicked → Type 0
MasterIs limit m heard c put frame bytes r =
    M.MasterTickIs limit m heard c.call (data_of c.part put) (before frame) (before bytes) r (after frame) (after bytes)

abbrev pub DeviceIs : ℕ → Device → Heard → DeviceCallWithPart → List ℕ → Lent (List ℕ) → Lent (List ℕ) → Lent (List ℕ) → DeviceTicked → Type 0
DeviceIs limit d heard c put frame bytes contents r =
    D.DeviceTickIs limit d heard c.call (data_of c.part put) (before frame) (before bytes) (before contents) r (after frame) (after bytes) (after contents)
