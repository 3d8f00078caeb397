-- How the code stands for what is to be believed.
-- Ticks of a link: one with calls, and more without calls, up to one in which a host is told something. They are a run of crates/turns/specs/Link.antt.
use Rattle.std.specs.Prelude.{ℕ, zero, suc, ◌+◌, ◌<◌, Bool, true, false, List, [], ◌∷◌, ◌++◌, ◌≡◌, length, drop, get_or, replicate, Option}
use Rattle.base.specs.Choice.{when◌then◌else◌, ◌<?◌}
use Rattle.base.specs.Lent.{Lent, before, after}
use Rattle.line.specs.declared.Heard.{Heard}
use Rattle.turns.specs.Link.{MasterStep, DeviceStep, LinkStep, link_after, run}
use Rattle.turns.specs.Link as L
use Rattle.turns.specs.Run.{EachTick}
use Rattle.turns.specs.declared.CallResult.{CallResult}
use Rattle.turns.specs.declared.Device.{Device}
use Rattle.turns.specs.declared.DeviceTold.{DeviceTold}
use Rattle.turns.specs.declared.Master.{Master}
use Rattle.turns.specs.declared.MasterTold.{MasterTold}
use Rattle.turns.specs.declared.Sent.{Sent}
use Rattle.turns.specs.declared.Sent.TheVariants.{Silent, Character}
use Rattle.party.specs.Numbers.{sent_number}
use Rattle.link_parties.specs.Stands.{Rows, rows_of, link_of, heres, calls_of, no_master_call, no_device_call, uncalled}
use Rattle.link_parties.specs.declared.Calls.{Calls}
use Rattle.link_parties.specs.declared.DeviceCallWithPart.{DeviceCallWithPart}
use Rattle.link_parties.specs.declared.DeviceDid.{DeviceDid}
use Rattle.link_parties.specs.declared.Link.{Link}
use Rattle.link_parties.specs.declared.MasterCallWithPart.{MasterCallWithPart}
use Rattle.link_parties.specs.declared.MasterDid.{MasterDid}
use Rattle.link_parties.specs.declared.Ticked.{Ticked}

-- ---- whether a host is told something in a tick

abbrev pub master_host_told : MasterTold → Bool → Bool
master_host_told MasterTold.Nothing others = others
master_host_told (MasterTold.Answered w) others = true
master_host_told (MasterTold.GivenUp n) others = true
master_host_told MasterTold.BroadcastSent others = true

abbrev pub device_host_told : DeviceTold → Bool → Bool
device_host_told DeviceTold.Nothing others = others
device_host_told (DeviceTold.Request w) others = true
device_host_told (DeviceTold.Broadcast w) others = true

unfoldable pub devices_tell : List DeviceStep → Bool → Bool
devices_tell [] others = others
devices_tell (s ∷ ss) others = device_host_told s.told (devices_tell ss others)

abbrev pub a_host_told : LinkStep → Bool
a_host_told s = master_host_told s.for_primary.told (master_host_told s.for_secondary.told (devices_tell s.for_devices false))

-- ---- the ticks

-- a run up to the first tick in which a host is told something
unfoldable pub up_to_told : List LinkStep → List LinkStep
up_to_told [] = []
up_to_told (s ∷ ss) = s ∷ (when a_host_told s then [] else up_to_told ss)

-- so many ticks, the first with calls
unfoldable pub calls_first : ℕ → L.Calls → List L.Calls
calls_first zero c = []
calls_first (suc n) c = c ∷ replicate n uncalled

-- the call in the tick with this number
abbrev pub master_call_in : ℕ → MasterCallWithPart → MasterCallWithPart
master_call_in zero c = c
master_call_in (suc t) c = no_master_call

abbrev pub device_call_in : ℕ → DeviceCallWithPart → DeviceCallWithPart
device_call_in zero c = c
device_call_in (suc t) c = no_device_call

-- whether there is a tick with this number
abbrev pub goes_on : ℕ → ℕ → Bool → Bool
goes_on t most told = when told then false else when t <? most then t <? 64 else false

-- at most 64
abbrev pub at_most : ℕ → ℕ
at_most most = when most <? 64 then most else 64

-- `limit` is the link's data limit
abbrev pub steps_of : ℕ → Link → Calls → List ℕ → ℕ → Rows → List LinkStep
steps_of limit l c put most x = up_to_told (run limit (link_of l x) (calls_first (at_most most) (calls_of put (heres l.devices) c)))

-- the link after a run
unfoldable pub link_behind : L.Link → List LinkStep → L.Link
link_behind l [] = l
link_behind l (s ∷ ss) = link_behind (link_after s) ss

-- ---- what each party sent, by its number

-- a value for each slot: what its device gives, or what stood there where the slot has no device
unfoldable pub on_here : {A B : Type 0} → (A → B → B) → List Bool → List A → List B → List B
on_here f hs xs [] = []
on_here f [] xs (b ∷ bs) = b ∷ bs
on_here f (false ∷ hs) xs (b ∷ bs) = b ∷ on_here f hs xs bs
on_here f (true ∷ hs) [] (b ∷ bs) = b ∷ on_here f hs [] bs
on_here f (true ∷ hs) (a ∷ xs) (b ∷ bs) = f a b ∷ on_here f hs xs bs

abbrev pub device_code : DeviceStep → ℕ → ℕ
device_code s c = sent_number s.sent

abbrev pub codes : List Bool → LinkStep → List ℕ
codes hs s = sent_number s.for_primary.sent ∷ sent_number s.for_secondary.sent ∷ on_here device_code hs s.for_devices (replicate 6 0)

unfoldable pub codes_of : List Bool → List LinkStep → List (List ℕ)
codes_of hs [] = []
codes_of hs (s ∷ ss) = codes hs s ∷ codes_of hs ss

-- a character that is sent is a byte, so that its number tells it from silence
pub data SendsByte : Sent → Type 0 where
  sends_none : SendsByte Silent
  sends_byte : {c : ℕ} → c < 256 → SendsByte (Character c)

pub data DevicesSendBytes : List DeviceStep → Type 0 where
  no_device : DevicesSendBytes []
  device_and : {s : DeviceStep} {ss : List DeviceStep} → SendsByte s.sent → DevicesSendBytes ss → DevicesSendBytes (s ∷ ss)

pub record SendBytes (s : LinkStep) : Type 0 where
  pub primary : SendsByte s.for_primary.sent
  pub secondary : SendsByte s.for_secondary.sent
  pub devices : DevicesSendBytes s.for_devices

pub record CodeIs (sent : Sent) (r : ℕ) : Type 0 where
  pub is : r ≡ sent_number sent
  pub byte : SendsByte sent

-- ---- what each host was told and answered. In these ticks that is at most one thing each: a tick that tells is the last, and only the first has calls.

abbrev pub answer_kept : CallResult → CallResult → CallResult
answer_kept old CallResult.Nothing = old
answer_kept old CallResult.Taken = CallResult.Taken
answer_kept old (CallResult.Refused why) = CallResult.Refused why

abbrev pub master_told_kept : MasterTold → MasterTold → MasterTold
master_told_kept old MasterTold.Nothing = old
master_told_kept old (MasterTold.Answered w) = MasterTold.Answered w
master_told_kept old (MasterTold.GivenUp n) = MasterTold.GivenUp n
master_told_kept old MasterTold.BroadcastSent = MasterTold.BroadcastSent

abbrev pub device_told_kept : DeviceTold → DeviceTold → DeviceTold
device_told_kept old DeviceTold.Nothing = old
device_told_kept old (DeviceTold.Request w) = DeviceTold.Request w
device_told_kept old (DeviceTold.Broadcast w) = DeviceTold.Broadcast w

abbrev pub master_did_by : MasterDid → MasterTold → CallResult → MasterDid
master_did_by old told result = record { told = master_told_kept old.told told; result = answer_kept old.result result }

abbrev pub device_did_by : DeviceDid → DeviceTold → CallResult → DeviceDid
device_did_by old told result = record { told = device_told_kept old.told told; result = answer_kept old.result result }

abbrev pub master_did : MasterStep → MasterDid → MasterDid
master_did s old = master_did_by old s.told s.result

abbrev pub device_did : DeviceStep → DeviceDid → DeviceDid
device_did s old = device_did_by old s.told s.result

abbrev pub master_nothing : MasterDid
master_nothing = record { told = MasterTold.Nothing; result = CallResult.Nothing }

abbrev pub device_nothing : DeviceDid
device_nothing = record { told = DeviceTold.Nothing; result = CallResult.Nothing }

-- after one tick
abbrev pub masters_do : LinkStep → List MasterDid → List MasterDid
masters_do s ds = master_did s.for_primary (get_or ds 0 master_nothing) ∷ master_did s.for_secondary (get_or ds 1 master_nothing) ∷ []

abbrev pub devices_do : List Bool → LinkStep → List DeviceDid → List DeviceDid
devices_do hs s ds = on_here device_did hs s.for_devices ds

-- after all of them
unfoldable pub masters_did : List LinkStep → List MasterDid → List MasterDid
masters_did [] ds = ds
masters_did (s ∷ ss) ds = masters_did ss (masters_do s ds)

unfoldable pub devices_did : List Bool → List LinkStep → List DeviceDid → List DeviceDid
devices_did hs [] ds = ds
devices_did hs (s ∷ ss) ds = devices_did hs ss (devices_do hs s ds)

-- ---- link and calls, taken apart

abbrev pub link_with : List Master → List (Option Device) → Heard → Link
link_with masters devices line = record { masters = masters; devices = devices; line = line }

abbrev pub calls_with : List MasterCallWithPart → List DeviceCallWithPart → Calls
calls_with masters devices = record { masters = masters; devices = devices }

-- a slot, what stands in it, and its rows of frames, bytes and contents are after the ticks what they were before
pub record SlotStays (i : ℕ) (slots : List (Option Device)) (x : Rows) (slots-after : List (Option Device)) (x_after : Rows) : Type 0 where
  pub slot : (d : Option Device) → get_or slots-after i d ≡ get_or slots i d
  pub frame : get_or x_after.frames (i + 2) [] ≡ get_or x.frames (i + 2) []
  pub bytes : get_or x_after.bytes (i + 2) [] ≡ get_or x.bytes (i + 2) []
  pub contents : get_or x_after.contents i [] ≡ get_or x.contents i []

-- ---- the promise: `x` is the rows and `sent` what stands in `sent` before the ticks, `x_after` and `sent_after` are those after them

pub record RunIs (limit : ℕ) (l : Link) (c : Calls) (put : List ℕ) (most : ℕ) (x : Rows) (sent : List (List ℕ))
    (r : Ticked) (x_after : Rows) (sent_after : List (List ℕ)) : Type 0 where
  pub link_is : link_of r.link x_after ≡ link_behind (link_of l x) (steps_of limit l c put most x)
  pub slots : heres r.link.devices ≡ heres l.devices
  pub absent_stay : (i : ℕ) → get_or (heres l.devices) i true ≡ false → SlotStays i l.devices x r.link.devices x_after
  pub count_is : r.count ≡ length (steps_of limit l c put most x)
  -- a row of what each party sent for each tick; the other rows stay
  pub sent_is : sent_after ≡ codes_of (heres l.devices) (steps_of limit l c put most x) ++ drop (length (steps_of limit l c put most x)) sent
  pub bytes_sent : EachTick SendBytes (steps_of limit l c put most x)
  pub masters_are : r.masters ≡ masters_did (steps_of limit l c put most x) (replicate 2 master_nothing)
  pub devices_are : r.devices ≡ devices_did (heres l.devices) (steps_of limit l c put most x) (replicate 6 device_nothing)

abbrev pub TicksAre : ℕ → Link → Calls → List ℕ → ℕ
    → Lent (List (List ℕ)) → Lent (List (List ℕ)) → Lent (List (List ℕ)) → Lent (List (List ℕ)) → Ticked → Type 0
TicksAre limit l c put most frames bytes contents sent r =
    RunIs limit l c put most (rows_of (before frames) (before bytes) (before contents)) (before sent) r
    (rows_of (after frames) (after bytes) (after contents)) (after sent)
