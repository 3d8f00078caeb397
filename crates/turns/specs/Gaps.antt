-- To be believed: what the engine must do, or what is claimed of it.
-- Document 02, item 1, for master and device, said of what each hears, what its host calls and what it sends: "One silent tick inside a frame is now passed over", "The second in a row breaks the frame, and both then count in the timers", and "Senders still leave no gap".
use Rattle.std.specs.Prelude.{ℕ, suc, ◌≤◌, ◌≡◌, Bool, true, false, List, [], ◌∷◌, length}
use Rattle.base.specs.Refusal.{accepted}
use Rattle.base.specs.Choice.{when◌then◌else◌}
use Rattle.frame.specs.Frame.{frame_bytes}
use Rattle.frame.specs.Write.{write_answer}
use Rattle.frame.specs.declared.Header.{Header}
use Rattle.line.specs.Gaps.{IsCharacter}
use Rattle.line.specs.Profile.{profile_made}
use Rattle.line.specs.Reader.{taken}
use Rattle.line.specs.declared.Event.TheVariants.{Nothing}
use Rattle.line.specs.declared.Heard.{Heard}
use Rattle.line.specs.declared.Heard.TheVariants.{Silence}
use Rattle.line.specs.declared.Profile.{Profile}
use Rattle.line.specs.declared.Receiver.{Receiver}
use Rattle.turns.specs.Party.{is_broadcast}
use Rattle.turns.specs.Master.{own_rt1, quiet_time}
use Rattle.turns.specs.Link.{MasterCall, no_request, DeviceCall, no_call, MasterSide, DeviceSide, master_tick, device_tick}
use Rattle.turns.specs.Run.{MasterStarts, DeviceStarts}
use Rattle.turns.specs.Bursts.{DeviceInput}
use Rattle.turns.specs.declared.CallResult.{CallResult}
use Rattle.turns.specs.declared.Sent.{Sent}
use Rattle.turns.specs.declared.Sent.TheVariants.{Silent, Character}
use Rattle.turns.specs.declared.Stage.TheVariants.{Waiting, Awaiting}
use Rattle.turns.specs.declared.Master.{Master}
use Rattle.turns.specs.declared.MasterTold.{MasterTold}
use Rattle.turns.specs.declared.DeviceTold.{DeviceTold}

-- ---- a party alone, tick by tick

-- what a master hears in a tick, and what its host asks
pub record MasterInput : Type 0 where
  pub heard : Heard
  pub call : MasterCall

-- what it sends in each tick
unfoldable pub master_sents : ℕ → MasterSide → List MasterInput → List Sent
master_sents limit x [] = []
master_sents limit x (i ∷ is) = (master_tick limit x i.heard i.call).sent ∷ master_sents limit (master_tick limit x i.heard i.call).side is

unfoldable pub device_sents : ℕ → DeviceSide → List DeviceInput → List Sent
device_sents limit x [] = []
device_sents limit x (i ∷ is) = (device_tick limit x i.heard i.call).sent ∷ device_sents limit (device_tick limit x i.heard i.call).side is

-- what comes of its host's request in each tick
unfoldable pub master_results : ℕ → MasterSide → List MasterInput → List CallResult
master_results limit x [] = []
master_results limit x (i ∷ is) =
    (master_tick limit x i.heard i.call).result ∷ master_results limit (master_tick limit x i.heard i.call).side is

-- ---- "One silent tick inside a frame is now passed over."

-- The line carries a character in tick T. A party takes it in tick T+1, and it is inside a frame: the party's reader tells nothing of it.
pub record InsideFrame (last : Heard) (deaf : Bool) (r : Receiver) : Type 0 where
  pub hears : deaf ≡ false
  pub character : IsCharacter last
  pub inside : (taken r last).event ≡ Nothing

-- in a silent tick after it, without a call, nothing is sent and nothing told, and the next character is taken as if that tick had not been
pub record MasterPassesOver (limit : ℕ) (x : MasterSide) (next : Heard) (call : MasterCall) : Type 0 where
  pub sends_nothing : (master_tick limit x Silence no_request).sent ≡ Silent
  pub tells_nothing : (master_tick limit x Silence no_request).told ≡ MasterTold.Nothing
  pub as_if_not : master_tick limit (master_tick limit x Silence no_request).side next call ≡ master_tick limit x next call

pub record DevicePassesOver (limit : ℕ) (x : DeviceSide) (next : Heard) (call : DeviceCall) : Type 0 where
  pub sends_nothing : (device_tick limit x Silence no_call).sent ≡ Silent
  pub tells_nothing : (device_tick limit x Silence no_call).told ≡ DeviceTold.Nothing
  pub as_if_not : device_tick limit (device_tick limit x Silence no_call).side next call ≡ device_tick limit x next call

-- in any state of a master that sends nothing in tick T+1, and in any state of a device
abbrev pub MasterGapPassed : ℕ → Type 0
MasterGapPassed limit =
    (x : MasterSide) (last next : Heard) (call after : MasterCall) → InsideFrame last x.master.deaf x.master.receiver
    → (master_tick limit x last call).sent ≡ Silent → IsCharacter next
    → MasterPassesOver limit (master_tick limit x last call).side next after

abbrev pub DeviceGapPassed : ℕ → Type 0
DeviceGapPassed limit =
    (x : DeviceSide) (last next : Heard) (call after : DeviceCall) → InsideFrame last x.device.deaf x.device.receiver → IsCharacter next
    → DevicePassesOver limit (device_tick limit x last call).side next after

-- ---- "The second in a row breaks the frame, and both then count in the timers."

-- The line carries no character after tick T: from tick T+2 on the party takes silent line ticks, whatever its host calls.
unfoldable pub master_silence : List MasterCall → List MasterInput
master_silence [] = []
master_silence (c ∷ cs) = record { heard = Silence; call = c } ∷ master_silence cs

unfoldable pub device_silence : List DeviceCall → List DeviceInput
device_silence [] = []
device_silence (c ∷ cs) = record { heard = Silence; call = c } ∷ device_silence cs

-- n ticks in which nothing is sent, and a character in the next: from tick T+1 on, the party begins in tick T+n+1 and not before. "A timer n counts silent line ticks since the last character .. After n the party may begin on the next tick."
pub data BeginsAfter : ℕ → List Sent → Type 0 where
  begins : {c : ℕ} {ss : List Sent} → BeginsAfter 0 (Character c ∷ ss)
  waits : {n : ℕ} {ss : List Sent} → BeginsAfter n ss → BeginsAfter (suc n) (Silent ∷ ss)

-- a request is taken in the first of these ticks, or in one of the n after it: from tick T+1 on, in tick T+n+1 at the latest
pub data TakenWithin : ℕ → List CallResult → Type 0 where
  now : {n : ℕ} {rs : List CallResult} → TakenWithin n (CallResult.Taken ∷ rs)
  later : {n : ℕ} {r : CallResult} {rs : List CallResult} → TakenWithin n rs → TakenWithin (suc n) (r ∷ rs)

-- "A waiting message, or a retry that is due", also one that this break makes due: "a broken one .. also fails it"
pub data ToSend (m : Master) : Type 0 where
  message_waits : m.message.stage ≡ Waiting → ToSend m
  retry_left : (n : ℕ) → m.message.stage ≡ Awaiting n → is_broadcast m.message.header ≡ false → m.message.attempts ≤ m.retries → ToSend m

-- "BURST clear, .. after a broken .. frame ..: timer RT1"; "BURST set: .. a broken frame included, .. the quiet time from the last character"
abbrev pub behind_break : Master → ℕ
behind_break m = when m.burst then quiet_time m.profile m.primary else own_rt1 m.profile m.primary

-- a master takes the last character in tick T+1, and silence after it
abbrev pub cut_off : Heard → MasterCall → List MasterCall → List MasterInput
cut_off last call calls = record { heard = last; call = call } ∷ master_silence calls

-- what it has to send when that timer ends: a message or a retry as above; or, of a master that is free or whose message this break ends, a request that is taken by then. Such a master sends nothing in tick T+1; the request may be taken in any tick from there to the one in which the window opens.
pub data ToBegin (limit : ℕ) (x : MasterSide) (last : Heard) (call : MasterCall) (calls : List MasterCall) : Type 0 where
  in_hand : ToSend x.master → ToBegin limit x last call calls
  request_taken : (master_tick limit x last call).sent ≡ Silent → TakenWithin (behind_break x.master) (master_results limit x (cut_off last call calls))
      → ToBegin limit x last call calls

-- in any state: the message, its retry or the request begins where the timer ends that counts from the last character
abbrev pub MasterBeginsBehindBreak : ℕ → Type 0
MasterBeginsBehindBreak limit =
    (x : MasterSide) (last : Heard) (call : MasterCall) (calls : List MasterCall) → profile_made x.master.profile ≡ accepted x.master.profile
    → InsideFrame last x.master.deaf x.master.receiver → ToBegin limit x last call calls → behind_break x.master ≤ length calls
    → BeginsAfter (behind_break x.master) (master_sents limit x (cut_off last call calls))

-- in any state: the message, or its retry, begins where the timer ends that counts from the last character
abbrev pub MasterCountsBoth : ℕ → Type 0
MasterCountsBoth limit =
    (x : MasterSide) (last : Heard) (call : MasterCall) (calls : List MasterCall) → profile_made x.master.profile ≡ accepted x.master.profile
    → InsideFrame last x.master.deaf x.master.receiver → ToSend x.master → behind_break x.master ≤ length calls
    → BeginsAfter (behind_break x.master) (master_sents limit x (record { heard = last; call = call } ∷ master_silence calls))

-- and a bursting device's BACK: "after RT1 primary behind anything else"
abbrev pub DeviceCountsBoth : ℕ → Type 0
DeviceCountsBoth limit =
    (x : DeviceSide) (last : Heard) (call : DeviceCall) (calls : List DeviceCall) → profile_made x.device.profile ≡ accepted x.device.profile
    → InsideFrame last x.device.deaf x.device.receiver → x.device.burst ≡ true → x.device.profile.rt1p ≤ length calls
    → BeginsAfter x.device.profile.rt1p (device_sents limit x (record { heard = last; call = call } ∷ device_silence calls))

-- ---- "Senders still leave no gap"

-- w is a frame that the frame writer takes
pub record IsFrame (w : List ℕ) : Type 0 where
  pub preamble : ℕ
  pub header : Header
  pub bytes : List ℕ
  pub taken_by_writer : write_answer preamble header (length bytes) (length w) 0 ≡ accepted (length w)
  pub written : w ≡ frame_bytes preamble header bytes

-- what a party sends, where `left` is left of the frame that it is sending: with nothing left it is silent or begins a frame; with something left it sends the next character, in every tick
pub data NoGap : List ℕ → List Sent → Type 0 where
  no_tick : {left : List ℕ} → NoGap left []
  silent_tick : {ss : List Sent} → NoGap [] ss → NoGap [] (Silent ∷ ss)
  begins_frame : {c : ℕ} {left : List ℕ} {ss : List Sent} → IsFrame (c ∷ left) → NoGap left ss → NoGap [] (Character c ∷ ss)
  goes_on : {c : ℕ} {left : List ℕ} {ss : List Sent} → NoGap left ss → NoGap (c ∷ left) (Character c ∷ ss)

-- every master and device that started, whatever it hears and whatever its host calls
abbrev pub MasterLeavesNoGap : ℕ → Type 0
MasterLeavesNoGap limit =
    (p : Profile) (primary : Bool) (retries : ℕ) (x : MasterSide) (inputs : List MasterInput) → profile_made p ≡ accepted p
    → MasterStarts p primary retries x → NoGap [] (master_sents limit x inputs)

abbrev pub DeviceLeavesNoGap : ℕ → Type 0
DeviceLeavesNoGap limit =
    (p : Profile) (x : DeviceSide) (inputs : List DeviceInput) → profile_made p ≡ accepted p → DeviceStarts p x → NoGap [] (device_sents limit x inputs)
