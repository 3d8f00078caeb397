-- How the code stands for what is to be believed.
-- The bytes of a list of ticks: the encoder for the decoder of Ticks.antt, and which lists it encodes. That every such list is decoded from its bytes is proved in proofs/Encode.antt.
use Rattle.std.specs.Prelude.{ℕ, ◌+◌, ◌*◌, ◌/◌, ◌%◌, ◌^◌, ◌≤◌, ◌<◌, Bool, true, false, ◌≡◌, List, [], ◌∷◌, ◌++◌, length}
use Rattle.base.specs.Choice.{when◌then◌else◌}
use Rattle.turns.specs.Link.{MasterCall, no_request, requests, DeviceCall, no_call, gives_answer, gives_content, Calls}
use Rattle.turns.specs.declared.Request.{Request}
use Rattle.turns.specs.declared.Wish.{Wish}
use Rattle.turns.specs.declared.Wish.TheVariants.{Same, On, Off}
use Rattle.link_list.specs.Ticks.{Here, ticks_of}

-- ---- the encoder

-- "a kind that is not 0, the preamble, the command, the address in five bytes, the length of the data in two, each most significant first, and the data"
abbrev pub call_bytes : ℕ → ℕ → ℕ → ℕ → List ℕ → List ℕ
call_bytes kind preamble command address put =
    kind ∷ preamble ∷ command ∷
    (address / 2 ^ 32) ∷ (address / 2 ^ 24 % 256) ∷ (address / 2 ^ 16 % 256) ∷ (address / 2 ^ 8 % 256) ∷ (address % 256) ∷
    (length put / 256) ∷ (length put % 256) ∷
    put

-- "one byte 0, no call"; the kind of a request is four times its revision, plus 1 with a short address or 2 with a long address
abbrev pub master_bytes : MasterCall → List ℕ
master_bytes no_request = 0 ∷ []
master_bytes (requests q put) = call_bytes (q.revision * 4 + (when q.long then 2 else 1)) q.preamble q.command q.address put

-- kind 1 is an answer, 2 one that turns burst on, 3 one that turns it off, 4 is burst content
abbrev pub wish_kind : Wish → ℕ
wish_kind Same = 1
wish_kind On = 2
wish_kind Off = 3

abbrev pub device_bytes : DeviceCall → List ℕ
device_bytes no_call = 0 ∷ []
device_bytes (gives_answer wish put) = call_bytes (wish_kind wish) 0 0 0 put
device_bytes (gives_content command put) = call_bytes 4 0 command 0 put

-- the calls to the present slots, one after the other; no call to an absent slot, nor to a device past the end of the list
abbrev pub slots_bytes : List Bool → List DeviceCall → List ℕ
slots_bytes [] calls = []
slots_bytes (false ∷ slots) calls = 0 ∷ slots_bytes slots calls
slots_bytes (true ∷ slots) [] = 0 ∷ slots_bytes slots []
slots_bytes (true ∷ slots) (c ∷ cs) = device_bytes c ++ slots_bytes slots cs

-- a tick: "to the primary, to the secondary, and to the devices of the slots"
abbrev pub tick_bytes : Here → Calls → List ℕ
tick_bytes here c = master_bytes c.for_primary ++ (master_bytes c.for_secondary ++ slots_bytes here c.for_devices)

unfoldable pub ticks_bytes : Here → List Calls → List ℕ
ticks_bytes here [] = []
ticks_bytes here (c ∷ cs) = tick_bytes here c ++ ticks_bytes here cs

-- ---- the lists that it encodes

-- every number is a byte
pub data Bytes : List ℕ → Type 0 where
  no_byte : Bytes []
  byte_and : {b : ℕ} {bs : List ℕ} → b < 256 → Bytes bs → Bytes (b ∷ bs)

-- at most 256 data bytes
pub record DataCodable (put : List ℕ) : Type 0 where
  pub at_most_lem : length put ≤ 256
  pub are_bytes : Bytes put

pub record RequestCodable (q : Request) : Type 0 where
  pub preamble_byte : q.preamble < 256
  pub revision_small : q.revision < 64
  pub address_small : q.address < 2 ^ 40
  pub command_byte : q.command < 256

pub data MasterCodable : MasterCall → Type 0 where
  codable_none : MasterCodable no_request
  codable_request : {q : Request} {put : List ℕ} → RequestCodable q → DataCodable put → MasterCodable (requests q put)

pub data DeviceCodable : DeviceCall → Type 0 where
  codable_none : DeviceCodable no_call
  codable_answer : {wish : Wish} {put : List ℕ} → DataCodable put → DeviceCodable (gives_answer wish put)
  codable_content : {command : ℕ} {put : List ℕ} → command < 256 → DataCodable put → DeviceCodable (gives_content command put)

-- one call for each present slot
pub data SlotsCodable : List Bool → List DeviceCall → Type 0 where
  no_slot : SlotsCodable [] []
  absent_and : {slots : List Bool} {calls : List DeviceCall} → SlotsCodable slots calls → SlotsCodable (false ∷ slots) calls
  present_and : {slots : List Bool} {c : DeviceCall} {cs : List DeviceCall} → DeviceCodable c → SlotsCodable slots cs → SlotsCodable (true ∷ slots) (c ∷ cs)

pub record TickCodable (here : Here) (c : Calls) : Type 0 where
  pub primary : MasterCodable c.for_primary
  pub secondary : MasterCodable c.for_secondary
  pub devices : SlotsCodable here c.for_devices

pub data TicksCodable (here : Here) : List Calls → Type 0 where
  no_tick : TicksCodable here []
  tick_and : {c : Calls} {cs : List Calls} → TickCodable here c → TicksCodable here cs → TicksCodable here (c ∷ cs)

-- a byte string that is decoded to these ticks
pub record Encodes (here : Here) (bytes : List ℕ) (ticks : List Calls) : Type 0 where
  pub are_bytes : Bytes bytes
  pub decoded : ticks_of here bytes ≡ ticks
