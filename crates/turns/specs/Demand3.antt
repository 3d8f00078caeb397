-- To be believed: what the engine must do, or what is claimed of it.
-- Demand 3: what is promised of a whole run, in the words of document 01, "Runs of the link". It is one claim about the whole list of ticks. The definitions that it rests on stand in Master, Device, Link and Run.
use Rattle.std.specs.Prelude.{ℕ, suc, ◌+◌, ◌-◌, ◌*◌, ◌<◌, ◌≡◌, Bool, true, false, List, [], ◌∷◌, length, drop}
use Rattle.base.specs.Refusal.{accepted}
use Rattle.frame.specs.Limits.{longest_frame}
use Rattle.line.specs.Profile.{profile_made}
use Rattle.line.specs.declared.Profile.{Profile}
use Rattle.turns.specs.Link.{MasterStep, DeviceSide, Link, LinkStep, Calls, sides, run}
use Rattle.turns.specs.Ledgers.{blanks, OneFinds}
use Rattle.turns.specs.Run.{All, Starts, EachTick, OneBursts, NoTwoSend}
use Rattle.turns.specs.declared.CallResult.{CallResult}
use Rattle.turns.specs.declared.Sent.TheVariants.{Silent, Character}

-- ---- the premises

-- "Let a primary master, a secondary master and devices that share no address all start in the same tick with one profile and one retry limit R. For every list of ticks from there, whatever master's request, device's answer or burst content each host gives in any of them, refused ones included". That no character is damaged or lost is how the line is defined in Link, and a run has no restart. `limit` is the link's data limit; 255 where none is given (document 02, item 12).
pub record Premises (limit : ℕ) (p : Profile) (retries : ℕ) (l : Link) (ticks : List Calls) : Type 0 where
  -- the profile is one that the check takes
  pub made : profile_made p ≡ accepted p
  pub starts : Starts p retries l
  -- "at most one device bursts at a time"
  pub one_bursts : EachTick OneBursts (run limit l ticks)
  -- item 6: "one tag, one device, so that at most one host's answer to each command 11 is taken"
  pub one_finds : OneFinds (blanks l.devices) ticks (run limit l ticks)

-- ---- "then no two send in one tick"

abbrev pub NoTwoSendInARun : ℕ → Type 0
NoTwoSendInARun limit = (p : Profile) (retries : ℕ) (l : Link) (ticks : List Calls) → Premises limit p retries l ticks → EachTick NoTwoSend (run limit l ticks)

-- ---- "and every accepted message's first character goes out within" so many ticks "of being accepted"

-- what the primary, or the secondary, did in a tick
abbrev pub master_in : Bool → LinkStep → MasterStep
master_in true s = s.for_primary
master_in false s = s.for_secondary

-- "An accepted message is a master's request that was taken."
abbrev pub AcceptedIn : Bool → LinkStep → Type 0
AcceptedIn primary s = (master_in primary s).result ≡ CallResult.Taken

-- "Its first character is the first of its first STX": a master has one message in hand at a time, so it is the first character that the master sends from the tick of acceptance on. It goes out in this tick, or in one of the next n.
pub data BeginsWithin (primary : Bool) : ℕ → List LinkStep → Type 0 where
  begins : (n c : ℕ) {s : LinkStep} {ss : List LinkStep} → (master_in primary s).sent ≡ Character c → BeginsWithin primary n (s ∷ ss)
  waits : {n : ℕ} {s : LinkStep} {ss : List LinkStep} → (master_in primary s).sent ≡ Silent → BeginsWithin primary n ss → BeginsWithin primary (suc n) (s ∷ ss)

-- no device bursts in a tick
abbrev pub NoneBurstsIn : LinkStep → Type 0
NoneBurstsIn s = All (λ (x : DeviceSide). x.device.burst ≡ true → ⊥) (sides s.for_devices)

-- no device bursts meanwhile: "Meanwhile is from the tick of acceptance to that of the first character, or to the list's last tick if the list ends before it."
pub data NoneBursts (primary : Bool) : List LinkStep → Type 0 where
  until_the_end : NoneBursts primary []
  until_it_begins : (c : ℕ) {s : LinkStep} {ss : List LinkStep} → NoneBurstsIn s → (master_in primary s).sent ≡ Character c → NoneBursts primary (s ∷ ss)
  and_on : {s : LinkStep} {ss : List LinkStep} → NoneBurstsIn s → NoneBursts primary ss → NoneBursts primary (s ∷ ss)

-- "2×RT2 + HOLD + (R+1)×(F + RT1 secondary) + STO + F ticks", where "F is 284, the longest frame"; on a link with a data limit "F being 29 more than the data length" (document 02, item 12)
abbrev pub longest_wait : ℕ → Profile → ℕ → ℕ
longest_wait limit p retries = 2 * p.rt2 + p.hold + (retries + 1) * (longest_frame limit + p.rt1s) + p.sto + longest_frame limit

-- "plus 4×F + RT1 secondary + 2×RT2 if a device bursts meanwhile"
abbrev pub longer_with_burst : ℕ → Profile → ℕ
longer_with_burst limit p = 4 * longest_frame limit + p.rt1s + 2 * p.rt2

-- "of being accepted (of tick RT1 secondary, if that is later)": the ticks from tick t on
abbrev pub due_within : ℕ → Profile → ℕ → ℕ → ℕ
due_within limit p retries t = (p.rt1s - t) + longest_wait limit p retries

-- "Of a message due only after the list's last tick, no wait is claimed." Tick t of the run is s, and `after` are the ticks after it.
abbrev pub WaitIn : ℕ → Profile → ℕ → List LinkStep → Type 0
WaitIn limit p retries steps =
    (primary : Bool) (t : ℕ) (s : LinkStep) (after : List LinkStep) → drop t steps ≡ s ∷ after → AcceptedIn primary s
    → (NoneBursts primary (s ∷ after) → due_within limit p retries t < length (s ∷ after) → BeginsWithin primary (due_within limit p retries t) (s ∷ after))
    × (due_within limit p retries t + longer_with_burst limit p < length (s ∷ after)
    → BeginsWithin primary (due_within limit p retries t + longer_with_burst limit p) (s ∷ after))

abbrev pub WaitInARun : ℕ → Type 0
WaitInARun limit = (p : Profile) (retries : ℕ) (l : Link) (ticks : List Calls) → Premises limit p retries l ticks → WaitIn limit p retries (run limit l ticks)

-- ---- demand 3

abbrev pub Demand3 : ℕ → Type 0
Demand3 limit = NoTwoSendInARun limit × WaitInARun limit
