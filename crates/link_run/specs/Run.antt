-- How the code stands for what is to be believed.
-- Document 01, "Runs of the link": "A run is a list of ticks from tick 0, in which every party is fresh". What every party does in each tick of a lent list, and what is promised of that run: demand 3, the credited answer and the BACKs.
use Rattle.std.specs.Prelude.{ℕ, ◌+◌, ◌*◌, ◌/◌, ◌%◌, ◌≤◌, ◌<◌, ◌≡◌, List, [], ◌∷◌, length, take, get_or, Result, Option}
use Rattle.base.specs.Refusal.{Called, accepted, refused, called_as}
use Rattle.base.specs.Store.{stored}
use Rattle.line.specs.Profile.{profile_made}
use Rattle.line.specs.declared.Profile.{Profile}
use Rattle.turns.specs.Link.{DeviceSide, LinkStep, Calls}
use Rattle.turns.specs.Link as L
use Rattle.turns.specs.Run.{Distinct, EachTick, OneBursts, NoTwoSend, count, senders}
use Rattle.turns.specs.Ledgers.{blanks, OneFinds}
use Rattle.turns.specs.Demand3.{WaitIn}
use Rattle.turns.specs.declared.CallResult.{CallResult}
use Rattle.runs.specs.Credit.{none_asked, EachCredited}
use Rattle.runs.specs.Backs.{no_contents, EachBack}
use Rattle.link_parties.specs.Stands.{heres}
use Rattle.link_parties.specs.declared.Link.{Link}
use Rattle.link_start.specs.Fresh.{lent_fresh}
use Rattle.link_start.specs.Start.{limited_starts}
use Rattle.link_start.specs.declared.Setting.{Setting}
use Rattle.link_list.specs.Ticks.{ticks_of}
use Rattle.base.specs.declared.Refusal.{Refusal}

-- ---- the run, with a data limit (document 02, item 12)

-- what every party does in each tick
abbrev pub run_steps : ℕ → L.Link → List Calls → List LinkStep
run_steps limit l ticks = L.run limit l ticks

-- the same from the parties' start on, with the list as bytes; no tick where a start is refused
abbrev pub steps_by : ℕ → Called Link → List ℕ → List LinkStep
steps_by limit (accepted l) ticks = run_steps limit (lent_fresh l) (ticks_of (heres l.devices) ticks)
steps_by limit (refused why) ticks = []

unfoldable pub steps_of : ℕ → Profile → ℕ → List (Option Setting) → List ℕ → List LinkStep
steps_of limit p retries s ticks = steps_by limit (limited_starts limit p retries s) ticks

abbrev pub devices_by : Called Link → List DeviceSide
devices_by (accepted l) = (lent_fresh l).devices
devices_by (refused why) = []

-- the calls of its ticks
abbrev pub calls_by : Called Link → List ℕ → List Calls
calls_by (accepted l) ticks = ticks_of (heres l.devices) ticks
calls_by (refused why) ticks = []

-- item 6: "one tag, one device, so that at most one host's answer to each command 11 is taken"
abbrev pub FindsBy : ℕ → Called Link → List ℕ → Type 0
FindsBy limit c ticks = OneFinds (blanks (devices_by c)) (calls_by c ticks) (steps_by limit c ticks)

-- ---- what is written of it

-- 1 for a request that was taken
abbrev pub taken : CallResult → ℕ
taken CallResult.Nothing = 0
taken CallResult.Taken = 1
taken (CallResult.Refused why) = 0

-- a tick's number: how many send, plus 16 for a request of the primary that was taken and 32 for one of the secondary, plus 64 if the primary sends and 128 if the secondary does
abbrev pub tick_number : LinkStep → ℕ
tick_number s =
    senders s
    + 16 * (taken s.for_primary.result + 4 * count s.for_primary.sent)
    + 32 * (taken s.for_secondary.result + 4 * count s.for_secondary.sent)

unfoldable pub numbers_of : List LinkStep → List ℕ
numbers_of [] = []
numbers_of (s ∷ ss) = tick_number s ∷ numbers_of ss

abbrev pub ran_by : Called Link → ℕ → Called ℕ
ran_by (accepted l) n = accepted n
ran_by (refused why) n = refused why

-- ---- who sends, as a tick's number tells it

-- how many send
abbrev pub senders_told : ℕ → ℕ
senders_told n = n % 16

-- 1 if the primary sends
abbrev pub primary_told : ℕ → ℕ
primary_told n = n / 64 % 2

-- 1 if the secondary sends
abbrev pub secondary_told : ℕ → ℕ
secondary_told n = n / 128 % 2

-- the number tells of at most one sender: one at most is counted, and a master that sends is counted
pub record OneSender (n : ℕ) : Type 0 where
  pub at_most_one : senders_told n ≤ 1
  pub masters_counted : primary_told n + secondary_told n ≤ senders_told n

-- ---- demand 3, the credited answer and the BACKs, for the run that was made

-- "Let a primary master, a secondary master and devices that share no address all start in the same tick with one profile and one retry limit R. .. if .. at most one device bursts at a time" and, by item 6, "at most one host's answer to each command 11 is taken". That all start so is how the run begins; that no character is damaged or lost is how its line is defined.
pub record RunPremises (limit : ℕ) (p : Profile) (retries : ℕ) (s : List (Option Setting)) (ticks : List ℕ) : Type 0 where
  -- the profile is one that the check takes
  pub made : profile_made p ≡ accepted p
  pub distinct : Distinct (devices_by (limited_starts limit p retries s))
  pub one_bursts : EachTick OneBursts (steps_of limit p retries s ticks)
  pub one_finds : FindsBy limit (limited_starts limit p retries s) ticks

-- "then no two send in one tick, and every accepted message's first character goes out within" its ticks
abbrev pub Demand3Of : ℕ → Profile → ℕ → List (Option Setting) → List ℕ → Type 0
Demand3Of limit p retries s ticks = EachTick NoTwoSend (steps_of limit p retries s ticks) × WaitIn limit p retries (steps_of limit p retries s ticks)

-- beyond demand 3, of the link l that was started: every answer that a master reports is credited
abbrev pub CreditOf : ℕ → Profile → ℕ → List (Option Setting) → List ℕ → Type 0
CreditOf limit p retries s ticks =
    (l : Link) → limited_starts limit p retries s ≡ accepted l
    → EachCredited limit none_asked (blanks (devices_by (accepted l))) (lent_fresh l) (calls_by (accepted l) ticks)

-- and every BACK that a master finds whole is as its device's host gave it
abbrev pub BacksOf : ℕ → Profile → ℕ → List (Option Setting) → List ℕ → Type 0
BacksOf limit p retries s ticks =
    (l : Link) → limited_starts limit p retries s ≡ accepted l
    → EachBack limit (no_contents (devices_by (accepted l))) (lent_fresh l) (calls_by (accepted l) ticks)

-- ---- what a run promises

-- the numbers that it writes, as many as there is room for
abbrev pub written : List LinkStep → List ℕ → List ℕ
written steps before = take (length before) (numbers_of steps)

-- its answer, and the numbers at the front of the lent events; and where the premises hold demand 3, the credited answer and the BACKs of the run, and at most one sender in each number that was written
pub record RunKeeps (limit : ℕ) (p : Profile) (retries : ℕ) (s : List (Option Setting)) (ticks before : List ℕ)
    (r : Result ℕ Refusal) (after : List ℕ) : Type 0 where
  pub answered : called_as r ≡ ran_by (limited_starts limit p retries s) (length (written (steps_of limit p retries s ticks) before))
  pub events : after ≡ stored before 0 (written (steps_of limit p retries s ticks) before)
  pub demand_3 : RunPremises limit p retries s ticks → Demand3Of limit p retries s ticks
  pub credit : RunPremises limit p retries s ticks → CreditOf limit p retries s ticks
  pub backs : RunPremises limit p retries s ticks → BacksOf limit p retries s ticks
  pub one_sender : RunPremises limit p retries s ticks → (i : ℕ) → i < length (written (steps_of limit p retries s ticks) before) → OneSender (get_or after i 0)
