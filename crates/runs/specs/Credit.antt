-- To be believed: what the engine must do, or what is claimed of it.
-- Beyond demand 3, and what the user fears most: an answer credited to the wrong transmitter. For each device a ledger is kept of what its host was told and gave, and for each master the request that was taken from its host last, both from what a run shows. A master may report its message as answered only with what stands there, and once.
use Rattle.std.specs.Prelude.{ℕ, ◌≤◌, ◌≡◌, Bool, true, List, [], ◌∷◌, length, take}
use Rattle.frame.specs.Limits.{most_data}
use Rattle.frame.specs.declared.Header.{Header}
use Rattle.line.specs.Reader.{no_header}
use Rattle.line.specs.declared.Profile.{Profile}
use Rattle.line.specs.declared.Whole.{Whole}
use Rattle.turns.specs.Party.{seeks_tag}
use Rattle.turns.specs.Device.{may_answer}
use Rattle.turns.specs.Link.{MasterCall, no_request, requests, DeviceSide, Link, LinkStep, Calls, link_tick, link_after}
pub use Rattle.turns.specs.Ledgers.{Ledger, blank, told, given, told_by, answered_with, answer_by, called_by, ledger_after}
unfoldable pub use Rattle.turns.specs.Ledgers.{ledgers_after, blanks, finders}
use Rattle.turns.specs.Demand3.{Premises, master_in}
use Rattle.turns.specs.Attempts.{stx_header}
use Rattle.runs.specs.FirstStx.{call_in}
use Rattle.turns.specs.declared.CallResult.{CallResult}
use Rattle.turns.specs.declared.MasterTold.{MasterTold}
use Rattle.turns.specs.declared.MasterTold.TheVariants.{Answered, GivenUp, BroadcastSent}
use Rattle.turns.specs.declared.Sent.{Sent}
use Rattle.turns.specs.declared.Sent.TheVariants.{Silent, Character}

-- ---- when ledgers are closed

-- nothing that stands in the ledgers can be reported any more
unfoldable pub closed : List Ledger → List Ledger
closed [] = []
closed (g ∷ gs) = blank ∷ closed gs

-- a report closes them, whatever it says: its message is over, so no answer to that message's STX is the answer to the next one
abbrev pub closed_by : MasterTold → List Ledger → List Ledger
closed_by MasterTold.Nothing gs = gs
closed_by (Answered w) gs = closed gs
closed_by (GivenUp n) gs = closed gs
closed_by BroadcastSent gs = closed gs

-- after every tick in which a master sends all are closed: what stands in them was told and given after the last STX on the line
abbrev pub closed_after : Sent → List Ledger → List Ledger
closed_after Silent gs = gs
closed_after (Character c) gs = closed gs

-- a tick of the link
abbrev pub booked_by : Calls → LinkStep → List Ledger → List Ledger
booked_by c s gs =
    closed_after s.for_primary.sent
    (closed_after s.for_secondary.sent
    (ledgers_after c.for_devices s.for_devices (closed_by s.for_primary.told (closed_by s.for_secondary.told gs))))

-- ---- what a master was asked

-- the header of the STX of the request that was taken last; it is the message until its report
abbrev pub asked_by : Bool → MasterCall → CallResult → Header → Header
asked_by primary no_request r h = h
asked_by primary (requests q put) CallResult.Nothing h = h
asked_by primary (requests q put) CallResult.Taken h = stx_header primary q
asked_by primary (requests q put) (CallResult.Refused why) h = h

-- of the primary, or of the secondary, after a tick
abbrev pub asked_after : Calls → LinkStep → (Bool → Header) → Bool → Header
asked_after c s asked primary = asked_by primary (call_in primary c) (master_in primary s).result (asked primary)

-- at the start
abbrev pub none_asked : Bool → Header
none_asked primary = no_header

-- ---- an answer that is credited

-- a device that may answer this request was told it last, and its host gave these data as the answer to it
pub data Gave (h : Header) (put : List ℕ) : List DeviceSide → List Ledger → Type 0 where
  this_one : {x : DeviceSide} {xs : List DeviceSide} {gs : List Ledger} → may_answer x.device h ≡ true → Gave h put (x ∷ xs) (given h put ∷ gs)
  another : {x : DeviceSide} {xs : List DeviceSide} {g : Ledger} {gs : List Ledger} → Gave h put xs gs → Gave h put (x ∷ xs) (g ∷ gs)

-- `asked` is the message's header. The ACK that is reported has its form, master bit, address and command; its data are those that the host of a device that was told the message's STX gave as the answer to it. That STX was the last on the line, and the message is not reported yet: ledgers are closed where a master sends and at every report. An addressed message is told to the device of its address alone; of those that are told a command 11 by broadcast one host's answer was taken, and no other's.
pub record Credited (primary : Bool) (asked : Header) (gs : List Ledger) (l : Link) (s : LinkStep) (w : Whole) : Type 0 where
  pub put : List ℕ
  pub gave : Gave asked put l.devices gs
  pub form_is : w.header.long ≡ asked.long
  pub bit_is : w.header.primary ≡ asked.primary
  pub address_is : w.header.address ≡ asked.address
  pub command_is : w.header.command ≡ asked.command
  pub data_is : take w.count (master_in primary s).side.bytes ≡ put
  pub no_other : seeks_tag asked ≡ true → finders gs ≡ 1

-- every report of a run
pub data EachCredited (limit : ℕ) : (Bool → Header) → List Ledger → Link → List Calls → Type 0 where
  no_tick : {asked : Bool → Header} {gs : List Ledger} {l : Link} → EachCredited limit asked gs l []
  tick_and : {asked : Bool → Header} {gs : List Ledger} {l : Link} {c : Calls} {cs : List Calls}
      → ((primary : Bool) (w : Whole) → (master_in primary (link_tick limit l c)).told ≡ Answered w
      → Credited primary (asked primary) gs l (link_tick limit l c) w)
      → EachCredited limit (asked_after c (link_tick limit l c) asked) (booked_by c (link_tick limit l c) gs) (link_after (link_tick limit l c)) cs
      → EachCredited limit asked gs l (c ∷ cs)

-- under demand 3's premises, with room for the longest data in the masters' lent buffers
abbrev pub CreditInARun : ℕ → Type 0
CreditInARun limit =
    (p : Profile) (retries : ℕ) (l : Link) (ticks : List Calls) → Premises limit p retries l ticks
    → most_data ≤ length l.primary.bytes → most_data ≤ length l.secondary.bytes
    → EachCredited limit none_asked (blanks l.devices) l ticks
