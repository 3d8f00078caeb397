-- To be believed: what the engine must do, or what is claimed of it.
-- Document 02, item 14: masters switched on when it suits. Each master starts at a tick of its own. The statement follows the item's words; a run shows what each party sends, tells and answers in each tick.
use Rattle.std.specs.Prelude.{ℕ, zero, suc, ◌+◌, ◌-◌, ◌≤◌, ◌<◌, ◌≡◌, Bool, true, false, List, [], ◌∷◌, length, drop}
use Rattle.base.specs.Refusal.{accepted}
use Rattle.frame.specs.Limits.{longest_frame}
use Rattle.line.specs.Profile.{profile_made}
use Rattle.line.specs.Reader.{passing, tells, taken}
use Rattle.line.specs.declared.Event.{Event}
use Rattle.line.specs.declared.Event.TheVariants.{Nothing, Frame}
use Rattle.line.specs.declared.Heard.{Heard}
use Rattle.line.specs.declared.Heard.TheVariants.{Silence}
use Rattle.line.specs.declared.Profile.{Profile}
use Rattle.line.specs.declared.Receiver.{Receiver}
use Rattle.line.specs.declared.Taken.{Taken}
use Rattle.line.specs.declared.Whole.{Whole}
use Rattle.turns.specs.Link.{MasterCall, MasterSide, MasterStep, DeviceCall, DeviceSide, Link, LinkStep, Calls, master_tick, device_tick, device_ticks, link_after}
use Rattle.turns.specs.Run.{All, Distinct, MasterStarts, DeviceStarts, count, device_senders, senders, EachTick}
use Rattle.turns.specs.Ledgers.{blanks, OneFinds}
use Rattle.turns.specs.Demand3.{master_in, AcceptedIn, BeginsWithin, NoneBurstsIn, longest_wait}
use Rattle.runs.specs.FirstStx.{FirstStxIn}
use Rattle.turns.specs.declared.CallResult.{CallResult}
use Rattle.turns.specs.declared.MasterTold.{MasterTold}
use Rattle.turns.specs.declared.Sent.{Sent}
use Rattle.turns.specs.declared.Sent.TheVariants.{Silent, Character}

-- ---- "each master starts at a tick of its own"

-- a master that starts in n ticks: until then it neither hears, nor takes a call, nor sends. In its start tick it does what it does in tick 0 of the common start: it hears nothing, and its host may ask.
abbrev pub late_master : ℕ → ℕ → MasterSide → Heard → MasterCall → MasterStep
late_master limit zero x heard call = master_tick limit x heard call
late_master limit (suc n) x heard call = record { side = x; sent = Silent; told = MasterTold.Nothing; result = CallResult.Nothing }

-- a tick of the link; the primary starts in a ticks, the secondary in b
unfoldable pub late_tick : ℕ → ℕ → ℕ → Link → Calls → LinkStep
late_tick limit a b l c = record {
  for_primary = late_master limit a l.primary l.line c.for_primary;
  for_secondary = late_master limit b l.secondary l.line c.for_secondary;
  for_devices = device_ticks limit l.line l.devices c.for_devices;
}

-- the run in which the primary starts in tick a and the secondary in tick b; with both in tick 0 it is the run of the common start
unfoldable pub late_run : ℕ → ℕ → ℕ → Link → List Calls → List LinkStep
late_run limit a b l [] = []
late_run limit a b l (c ∷ cs) = late_tick limit a b l c ∷ late_run limit (a - 1) (b - 1) (link_after (late_tick limit a b l c)) cs

-- ---- "all else is as for the common start, devices were started before, no character is otherwise damaged or lost and no device bursts"

-- "devices were started before": in the run's first tick, or some ticks earlier on a line that nobody had used, whatever its host gave since
pub data Started (limit : ℕ) (p : Profile) (line : Heard) : DeviceSide → Type 0 where
  starts_now : {x : DeviceSide} → DeviceStarts p x → Started limit p line x
  started_before : {x : DeviceSide} → line ≡ Silence → Started limit p line x → (call : DeviceCall)
      → Started limit p line (device_tick limit x Silence call).side

-- the masters of l are those that their starts made, and its devices share no address. That no character is otherwise damaged or lost is how the line is defined in Link.
pub record LatePremises (limit : ℕ) (p : Profile) (retries a b : ℕ) (l : Link) (ticks : List Calls) : Type 0 where
  pub made : profile_made p ≡ accepted p
  pub primary : MasterStarts p true retries l.primary
  pub secondary : MasterStarts p false retries l.secondary
  pub devices : All (Started limit p l.line) l.devices
  pub distinct : Distinct l.devices
  pub none_bursts : EachTick NoneBurstsIn (late_run limit a b l ticks)
  -- item 6: "one tag, one device, so that at most one host's answer to each command 11 is taken"
  pub one_finds : OneFinds (blanks l.devices) ticks (late_run limit a b l ticks)

-- ---- who sends in tick t

-- a number that tick t of a run shows; past the last tick it is 0
unfoldable pub in_tick : (LinkStep → ℕ) → List LinkStep → ℕ → ℕ
in_tick f [] t = 0
in_tick f (s ∷ ss) zero = f s
in_tick f (s ∷ ss) (suc t) = in_tick f ss t

-- 1 where the primary sends, or the secondary
abbrev pub master_sent_in : Bool → List LinkStep → ℕ → ℕ
master_sent_in primary steps t = in_tick (λ (s : LinkStep). count (master_in primary s).sent) steps t

abbrev pub devices_sent : List LinkStep → ℕ → ℕ
devices_sent steps t = in_tick (λ (s : LinkStep). device_senders s.for_devices) steps t

-- how many parties send
abbrev pub senders_in : List LinkStep → ℕ → ℕ
senders_in steps t = in_tick senders steps t

-- ---- the overlap

-- 1 where it sends in the tick before t: nobody does before tick 0
abbrev pub sent_before : Bool → List LinkStep → ℕ → ℕ
sent_before primary steps zero = 0
sent_before primary steps (suc t) = master_sent_in primary steps t

-- "two masters begin together": both send in tick t, and neither did in the tick before
pub record BeginTogether (steps : List LinkStep) (t : ℕ) : Type 0 where
  pub primary_sends : master_sent_in true steps t ≡ 1
  pub secondary_sends : master_sent_in false steps t ≡ 1
  pub primary_did_not : sent_before true steps t ≡ 0
  pub secondary_did_not : sent_before false steps t ≡ 0

-- both masters send, and no device does
pub record BothSend (steps : List LinkStep) (t : ℕ) : Type 0 where
  pub primary_sends : master_sent_in true steps t ≡ 1
  pub secondary_sends : master_sent_in false steps t ≡ 1
  pub no_device : devices_sent steps t ≡ 0

-- a tick of the overlap: both masters have sent since they began together, for no longer than the longest frame
pub record InOverlap (limit : ℕ) (steps : List LinkStep) (t : ℕ) : Type 0 where
  pub first : ℕ
  pub begin_together : BeginTogether steps first
  pub from_first : first ≤ t
  pub since : (u : ℕ) → first ≤ u → u ≤ t → BothSend steps u
  pub in_a_frame : t < first + longest_frame limit

-- the overlap that begins in tick u has ended by tick t: in some tick from u to t not both masters send
pub record EndedBy (steps : List LinkStep) (u t : ℕ) : Type 0 where
  pub tick : ℕ
  pub since_first : u ≤ tick
  pub by_now : tick ≤ t
  pub not_both : master_sent_in true steps tick ≡ 1 → master_sent_in false steps tick ≡ 1 → ⊥

pub record OneOverlap (limit : ℕ) (steps : List LinkStep) : Type 0 where
  -- "there is at most one tick in which two masters begin together"
  pub at_most_one : (t u : ℕ) → BeginTogether steps t → BeginTogether steps u → t ≡ u
  -- where two parties send in one tick, it is a tick of that overlap
  pub two_send : (t : ℕ) → 2 ≤ senders_in steps t → InOverlap limit steps t
  -- "Once that overlap has ended, no two parties send in one tick again"
  pub once_ended : (u t : ℕ) → BeginTogether steps u → EndedBy steps u t → senders_in steps t ≤ 1
  -- "without one they never do"
  pub without_one : ((u : ℕ) → BeginTogether steps u → ⊥) → (t : ℕ) → senders_in steps t ≤ 1

-- ---- a frame that a master sent, or heard whole

-- the tick reader beside a master, in one tick: it hears what the line carries, but "a sending party hears nothing", and after its own frame it "passes over all characters until a silent tick"
abbrev pub hears : Sent → Receiver → Heard → Taken
hears Silent r heard = taken r heard
hears (Character c) r heard = tells passing Nothing

-- what this reader tells of tick t, where the master starts in tick n and the reader with it
unfoldable pub heard_in : Bool → ℕ → Receiver → List LinkStep → ℕ → Event
heard_in primary n r [] t = Nothing
heard_in primary zero r (s ∷ ss) zero = (hears (master_in primary s).sent r (link_after s).line).event
heard_in primary zero r (s ∷ ss) (suc t) = heard_in primary zero (hears (master_in primary s).sent r (link_after s).line).receiver ss t
heard_in primary (suc n) r (s ∷ ss) zero = Nothing
heard_in primary (suc n) r (s ∷ ss) (suc t) = heard_in primary n r ss t

-- "a frame that one master sent or heard whole and the other heard whole": what each sent and heard in the tick of its last character
pub data Shared (by_primary by_secondary : ℕ) (to-primary to-secondary : Event) : Type 0 where
  both_heard : (w : Whole) → to-primary ≡ Frame w → to-secondary ≡ Frame w → Shared by_primary by_secondary to-primary to-secondary
  primary_sent : (w : Whole) → by_primary ≡ 1 → to-secondary ≡ Frame w → Shared by_primary by_secondary to-primary to-secondary
  secondary_sent : (w : Whole) → by_secondary ≡ 1 → to-primary ≡ Frame w → Shared by_primary by_secondary to-primary to-secondary

-- such a frame ends in tick t
abbrev pub SharedFrame : ℕ → ℕ → List LinkStep → ℕ → Type 0
SharedFrame a b steps t =
    Shared (master_sent_in true steps t) (master_sent_in false steps t) (heard_in true a passing steps t) (heard_in false b passing steps t)

-- how it is seen on the line: both masters have started, tick u is silent, one party sends in each tick after it up to t, and the next tick is silent
pub record FrameSeen (a b : ℕ) (steps : List LinkStep) (u t : ℕ) : Type 0 where
  pub primary_on : a ≤ u
  pub secondary_on : b ≤ u
  pub silent_before : senders_in steps u ≡ 0
  pub some : u < t
  pub one_sends : (i : ℕ) → u < i → i ≤ t → senders_in steps i ≡ 1
  pub silent_behind : senders_in steps (suc t) ≡ 0
  pub in_the_run : suc t < length steps

-- a frame seen in this way is a shared frame
abbrev pub SeenIsShared : ℕ → ℕ → List LinkStep → Type 0
SeenIsShared a b steps = (u t : ℕ) → FrameSeen a b steps u t → SharedFrame a b steps t

-- ---- the wait

-- the ticks from which on it is claimed: "from the end of the overlap on", here even from the tick after its first one, or "from the end of the first frame that one master sent or heard whole and the other heard whole"
pub data Claimed (a b : ℕ) (steps : List LinkStep) (t : ℕ) : Type 0 where
  behind_overlap : (u : ℕ) → u < t → BeginTogether steps u → Claimed a b steps t
  behind_frame : (u : ℕ) → u ≤ t → SharedFrame a b steps u → Claimed a b steps t

-- "The wait of the common start holds for messages accepted from" there on, counted from their acceptance alone. Tick t of the run is s, and `after` are the ticks after it; of a message due only after the last tick, no wait is claimed.
abbrev pub LateWaitIn : ℕ → Profile → ℕ → ℕ → ℕ → List LinkStep → Type 0
LateWaitIn limit p retries a b steps =
    (primary : Bool) (t : ℕ) (s : LinkStep) (after : List LinkStep) → drop t steps ≡ s ∷ after → Claimed a b steps t → AcceptedIn primary s
    → longest_wait limit p retries < length (s ∷ after) → BeginsWithin primary (longest_wait limit p retries) (s ∷ after)

-- "Its first character is the first of its first STX" here, too, as FirstStx says it of the common start; of the premises only the masters' starts are needed
abbrev pub FirstStxInALateRun : ℕ → Type 0
FirstStxInALateRun limit =
    (p : Profile) (retries a b : ℕ) (l : Link) (ticks : List Calls) → MasterStarts p true retries l.primary
    → MasterStarts p false retries l.secondary → FirstStxIn ticks (late_run limit a b l ticks)

-- ---- item 14

pub record LateStart (limit : ℕ) (p : Profile) (retries a b : ℕ) (steps : List LinkStep) : Type 0 where
  pub one_overlap : OneOverlap limit steps
  pub waits : LateWaitIn limit p retries a b steps
  pub seen_is_shared : SeenIsShared a b steps

abbrev pub Item14 : ℕ → Type 0
Item14 limit =
    (p : Profile) (retries a b : ℕ) (l : Link) (ticks : List Calls) → LatePremises limit p retries a b l ticks
    → LateStart limit p retries a b (late_run limit a b l ticks)
