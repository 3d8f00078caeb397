-- To be believed: what the engine must do, or what is claimed of it.
-- What document 02, item 6, says of a device, on what it hears, what its host is told and gives, and what it sends: whose host is told a command 11 by broadcast, up to which tick it may answer, which ACK goes out, and which wish is taken.
use Rattle.std.specs.Prelude.{ℕ, zero, suc, ◌≤◌, ◌≡◌, Bool, true, false, List, [], ◌∷◌, length, replicate}
use Rattle.base.specs.Refusal.{accepted}
use Rattle.frame.specs.Delimiter.{stx, ack}
use Rattle.frame.specs.Frame.{frame_bytes}
use Rattle.frame.specs.declared.Header.{Header}
use Rattle.line.specs.Gaps.{IsCharacter}
use Rattle.line.specs.Profile.{profile_made}
use Rattle.line.specs.Reader.{taken}
use Rattle.line.specs.declared.Event.TheVariants.{Frame}
use Rattle.line.specs.declared.Heard.{Heard}
use Rattle.line.specs.declared.Heard.TheVariants.{Silence}
use Rattle.line.specs.declared.Profile.{Profile}
use Rattle.line.specs.declared.Whole.{Whole}
use Rattle.turns.specs.Device.{wished}
use Rattle.turns.specs.Link.{DeviceCall, no_call, gives_answer, DeviceSide, device_tick}
use Rattle.turns.specs.Run.{DeviceStarts}
use Rattle.turns.specs.Ledgers.{Ledger, blank, told, told_by, ledger_after}
use Rattle.turns.specs.Bursts.{DeviceInput}
use Rattle.turns.specs.Gaps.{device_sents}
use Rattle.turns.specs.declared.CallResult.{CallResult}
use Rattle.turns.specs.declared.CallResult.TheVariants.{Taken, Refused}
use Rattle.turns.specs.declared.DeviceTold.{DeviceTold}
use Rattle.turns.specs.declared.Sent.{Sent}
use Rattle.turns.specs.declared.Sent.TheVariants.{Silent, Character}
use Rattle.turns.specs.declared.Wish.{Wish}
use Rattle.turns.specs.declared.Wish.TheVariants.{Same, On}

-- command 11 to a unique address, of either master, or its ACK; address 0 is the broadcast address
abbrev pub command11 : ℕ → Bool → Bool → ℕ → Header
command11 kind primary burst address = record { kind = kind; long = true; primary = primary; burst = burst; address = address; command = 11 }

-- ---- "a device's host answers command 11 if the tag is its own": every device's host is told it as a request

-- The line carries the last character of a frame in tick T. The device, which sent nothing in tick T, takes it in tick T+1, and its reader finds the frame whole and undamaged, without expansion bytes (which characters lead to that: FrameWithGaps in line/Gaps).
pub record HearsWhole (x : DeviceSide) (last : Heard) (w : Whole) : Type 0 where
  pub hears : x.device.deaf ≡ false
  pub character : IsCharacter last
  pub whole : (taken x.device.receiver last).event ≡ Frame w
  pub plain : w.expansion ≡ 0

-- in any state of the device, of either master, whatever the host calls
abbrev pub TagTold : ℕ → Type 0
TagTold limit =
    (x : DeviceSide) (last : Heard) (w : Whole) (primary flag : Bool) (call : DeviceCall) → HearsWhole x last w → w.header ≡ command11 stx primary flag 0
    → (device_tick limit x last call).told ≡ DeviceTold.Request w

-- ---- and may answer it up to tick T+STO

-- the device after these ticks
unfoldable pub device_after : ℕ → DeviceSide → List DeviceInput → DeviceSide
device_after limit x [] = x
device_after limit x (i ∷ is) = device_after limit (device_tick limit x i.heard i.call).side is

-- a tick in which nothing is heard and nothing called
abbrev pub nothing_tick : DeviceInput
nothing_tick = record { heard = Silence; call = no_call }

-- what becomes of the host's answer in tick T+1+n, where nothing more is heard and nothing else called
unfoldable pub answer_in : ℕ → DeviceSide → Heard → List ℕ → ℕ → CallResult
answer_in limit x last put zero = (device_tick limit x last (gives_answer Same put)).result
answer_in limit x last put (suc n) =
    (device_tick limit (device_after limit (device_tick limit x last no_call).side (replicate n nothing_tick)) Silence (gives_answer Same put)).result

-- an answer of 2 data bytes up to the link's limit is taken in the ticks T+1 to T+STO, and refused with 8 after them
abbrev pub TagTime : ℕ → Type 0
TagTime limit =
    (x : DeviceSide) (last : Heard) (w : Whole) (primary flag : Bool) (put : List ℕ) (n : ℕ)
    → profile_made x.device.profile ≡ accepted x.device.profile → HearsWhole x last w → w.header ≡ command11 stx primary flag 0
    → 2 ≤ length put → length put ≤ limit
    → (suc n ≤ x.device.profile.sto → answer_in limit x last put n ≡ Taken) × (x.device.profile.sto ≤ n → answer_in limit x last put n ≡ Refused 8)

-- ---- "Our transmitters repeat the request's address bytes, with their burst flag."

-- what is sent, tick by tick, begins with these characters, as far as the ticks go
pub data StartsWith : List ℕ → List Sent → Type 0 where
  all_sent : {ss : List Sent} → StartsWith [] ss
  no_tick : {cs : List ℕ} → StartsWith cs []
  next_sent : {c : ℕ} {cs : List ℕ} {ss : List Sent} → StartsWith cs ss → StartsWith (c ∷ cs) (Character c ∷ ss)

-- The host's answer is taken in this tick of a device with the state x; `ack` is what then goes out, and `after` are further ticks.
pub record GoesOut (limit : ℕ) (x : DeviceSide) (i : DeviceInput) (ack : List ℕ) (after : List DeviceInput) : Type 0 where
  -- "the ACK begins in the tick of the host's answer", where the request was told in an earlier one
  pub at_once : (device_tick limit x i.heard i.call).told ≡ DeviceTold.Nothing → StartsWith ack (device_sents limit x (i ∷ after))
  -- "an answer at T+1 begins at T+2", where no character drops the request
  pub waits : (w : Whole) → (device_tick limit x i.heard i.call).told ≡ DeviceTold.Request w → (device_tick limit x i.heard i.call).sent ≡ Silent
  pub begins : (w : Whole) (call : DeviceCall) → (device_tick limit x i.heard i.call).told ≡ DeviceTold.Request w
      → StartsWith ack (device_sents limit (device_tick limit x i.heard i.call).side (record { heard = Silence; call = call } ∷ after))

-- the ledger of a device's host after these ticks
unfoldable pub device_ledger : ℕ → Ledger → DeviceSide → List DeviceInput → Ledger
device_ledger limit g x [] = g
device_ledger limit g x (i ∷ is) =
    device_ledger limit (ledger_after i.call (device_tick limit x i.heard i.call) g) (device_tick limit x i.heard i.call).side is

-- In a tick after any others of a device that started, its host has been told this request last, in this tick or before.
pub record ToldLast (limit : ℕ) (start : DeviceSide) (before : List DeviceInput) (i : DeviceInput) (h : Header) : Type 0 where
  pub is_last : told_by (device_tick limit (device_after limit start before) i.heard i.call).told (device_ledger limit blank start before) ≡ told h

-- The host's answer to a command 11 by broadcast is taken: its ACK has the request's master bit and address 0, and the burst flag if the device bursts (BurstsAsSaid in Bursts).
abbrev pub TagAnswered : ℕ → Type 0
TagAnswered limit =
    (p : Profile) (start : DeviceSide) (s : DeviceStarts p start) (before after : List DeviceInput)
    (heard : Heard) (wish : Wish) (put : List ℕ) (primary flag : Bool)
    → let x : DeviceSide = device_after limit start before in let i : DeviceInput = record { heard = heard; call = gives_answer wish put } in
    profile_made p ≡ accepted p → ToldLast limit start before i (command11 stx primary flag 0)
    → (device_tick limit x heard (gives_answer wish put)).result ≡ Taken
    → GoesOut limit x i (frame_bytes s.preamble (command11 ack primary x.device.burst 0) put) after

-- ---- command 11 to a device's own unique address is no search for a tag: its wish is taken

-- An answer that is taken without a wish is taken with one, burst on if there is content, and the ACK has the flag that was wished.
pub record WishTaken (limit : ℕ) (x : DeviceSide) (i : DeviceInput) (ack : List ℕ) (after : List DeviceInput) : Type 0 where
  pub is_taken : (device_tick limit x i.heard i.call).result ≡ Taken
  pub goes_out : GoesOut limit x i ack after

abbrev pub OwnWish : ℕ → Type 0
OwnWish limit =
    (p : Profile) (start : DeviceSide) (s : DeviceStarts p start) (before after : List DeviceInput)
    (heard : Heard) (wish : Wish) (put : List ℕ) (primary flag : Bool)
    → let x : DeviceSide = device_after limit start before in let i : DeviceInput = record { heard = heard; call = gives_answer wish put } in
    profile_made p ≡ accepted p → ToldLast limit start before i (command11 stx primary flag s.unique) → (wish ≡ On → x.device.content.given ≡ true)
    → (device_tick limit x heard (gives_answer Same put)).result ≡ Taken
    → WishTaken limit x i (frame_bytes s.preamble (command11 ack primary (wished x.device.burst wish) s.unique) put) after
