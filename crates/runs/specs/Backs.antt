-- To be believed: what the engine must do, or what is claimed of it.
-- For BACKs what Credit says for ACKs: each BACK that a master finds whole has the unique address of the device that sent it, and the command and data that its host gave last before its first character. For each device a log is kept of what its host gave and what it sent, from what a run shows.
use Rattle.std.specs.Prelude.{ℕ, ◌-◌, ◌≤◌, ◌≡◌, Bool, true, false, List, [], ◌∷◌, length, take, get_or}
use Rattle.frame.specs.Limits.{most_data}
use Rattle.frame.specs.Delimiter.{back}
use Rattle.frame.specs.Frame.{frame_length}
use Rattle.line.specs.declared.Event.{Event}
use Rattle.line.specs.declared.Event.TheVariants.{Frame}
use Rattle.line.specs.declared.Heard.{Heard}
use Rattle.line.specs.declared.Profile.{Profile}
use Rattle.line.specs.declared.Whole.{Whole}
use Rattle.turns.specs.Master.{master_takes}
use Rattle.turns.specs.Link.{DeviceCall, no_call, gives_answer, gives_content, MasterSide, master_data, DeviceSide, DeviceStep, Link, LinkStep, Calls, link_tick, link_after}
use Rattle.turns.specs.Demand3.{Premises, master_in}
use Rattle.turns.specs.declared.CallResult.{CallResult}
use Rattle.turns.specs.declared.Sent.{Sent}
use Rattle.turns.specs.declared.Sent.TheVariants.{Silent, Character}

-- ---- the log of a device

-- the burst content that its host gave last
pub data LastGiven : Type 0 where
  no_content : LastGiven
  content : ℕ → List ℕ → LastGiven

pub record ContentLog : Type 0 where
  pub last : LastGiven
  -- of the characters that it sent without a silent tick, the newest first: what its host had given last when each went out
  pub sent_with : List LastGiven

-- the host's content is taken
abbrev pub content_by : ℕ → List ℕ → CallResult → LastGiven → LastGiven
content_by command put CallResult.Nothing g = g
content_by command put CallResult.Taken g = content command put
content_by command put (CallResult.Refused why) g = g

abbrev pub given_by : DeviceCall → CallResult → LastGiven → LastGiven
given_by no_call a g = g
given_by (gives_answer wish put) a g = g
given_by (gives_content command put) a g = content_by command put a g

-- after the call of the tick a character goes out, or none
abbrev pub sent_by : Sent → LastGiven → List LastGiven → ContentLog
sent_by Silent g row = record { last = g; sent_with = [] }
sent_by (Character c) g row = record { last = g; sent_with = g ∷ row }

-- a tick of the device
abbrev pub content_log_after : DeviceCall → DeviceStep → ContentLog → ContentLog
content_log_after c s g = sent_by s.sent (given_by c s.result g.last) g.sent_with

unfoldable pub content_logs_after : List DeviceCall → List DeviceStep → List ContentLog → List ContentLog
content_logs_after calls [] gs = []
content_logs_after calls (s ∷ ss) [] = []
content_logs_after [] (s ∷ ss) (g ∷ gs) = content_log_after no_call s g ∷ content_logs_after [] ss gs
content_logs_after (c ∷ cs) (s ∷ ss) (g ∷ gs) = content_log_after c s g ∷ content_logs_after cs ss gs

-- at the start
unfoldable pub no_contents : List DeviceSide → List ContentLog
no_contents [] = []
no_contents (x ∷ xs) = record { last = no_content; sent_with = [] } ∷ no_contents xs

-- ---- a BACK that a master finds whole

-- the primary, or the secondary
abbrev pub master_of : Bool → Link → MasterSide
master_of true l = l.primary
master_of false l = l.secondary

-- what the master's reader tells in the tick
abbrev pub found_by : MasterSide → Heard → Event
found_by x heard = (master_takes x.master heard (master_data x heard)).event

-- a device with the BACK's address sent as many characters as the BACK has; when the first of them went out, its host had given this command and these data last
pub data SentBack (w : Whole) (bytes : List ℕ) : List DeviceSide → List ContentLog → Type 0 where
  this_one : {x : DeviceSide} {xs : List DeviceSide} {g : ContentLog} {gs : List ContentLog} → w.header.address ≡ x.device.unique
      → get_or g.sent_with (frame_length x.device.preamble w.header w.count - 1) no_content ≡ content w.header.command bytes
      → SentBack w bytes (x ∷ xs) (g ∷ gs)
  another : {x : DeviceSide} {xs : List DeviceSide} {g : ContentLog} {gs : List ContentLog} → SentBack w bytes xs gs → SentBack w bytes (x ∷ xs) (g ∷ gs)

pub record BackFound (primary : Bool) (gs : List ContentLog) (l : Link) (s : LinkStep) (w : Whole) : Type 0 where
  pub long_is : w.header.long ≡ true
  pub sent : SentBack w (take w.count (master_in primary s).side.bytes) l.devices gs

-- every BACK of a run
pub data EachBack (limit : ℕ) : List ContentLog → Link → List Calls → Type 0 where
  no_tick : {gs : List ContentLog} {l : Link} → EachBack limit gs l []
  tick_and : {gs : List ContentLog} {l : Link} {c : Calls} {cs : List Calls}
      → ((primary : Bool) (w : Whole) → found_by (master_of primary l) l.line ≡ Frame w → w.header.kind ≡ back
      → BackFound primary gs l (link_tick limit l c) w)
      → EachBack limit (content_logs_after c.for_devices (link_tick limit l c).for_devices gs) (link_after (link_tick limit l c)) cs
      → EachBack limit gs l (c ∷ cs)

-- under demand 3's premises, with room for the longest data in the masters' lent buffers
abbrev pub BacksInARun : ℕ → Type 0
BacksInARun limit =
    (p : Profile) (retries : ℕ) (l : Link) (ticks : List Calls) → Premises limit p retries l ticks
    → most_data ≤ length l.primary.bytes → most_data ≤ length l.secondary.bytes
    → EachBack limit (no_contents l.devices) l ticks
