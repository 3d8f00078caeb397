-- Inner contracts: nothing that is to be believed rests on them.
-- One tick of a run: its number, the link after it, and the place after it in the list. The code ticks all parties; a master that has not started has no call in that tick, and after it is what it was before.
use Rattle.std.specs.Prelude.{ℕ, ◌+◌, ◌-◌, ◌*◌, ◌<◌, ◌≡◌, true, List, [], ◌∷◌, length, drop, get_or, None}
use Rattle.base.specs.Choice.{when◌then◌else◌, ◌<?◌, ◌=?◌}
use Rattle.base.specs.Events.{RunIs}
use Rattle.base.specs.Lent as B
use Rattle.base.specs.Lent.{Lent}
use Rattle.turns.specs.Link.{LinkStep, link_after}
use Rattle.runs.specs.Late.{late_tick, late_run}
use Rattle.turns.specs.declared.Master.{Master}
use Rattle.turns.specs.declared.Stage.TheVariants.{Free}
use Rattle.link_parties.specs.Stands.{Rows, rows_of, any_master, link_of, heres, no_master_call}
use Rattle.turns.specs.declared.CallResult.{CallResult}
use Rattle.link_parties.specs.declared.Calls.{Calls}
use Rattle.link_parties.specs.declared.Link.{Link}
use Rattle.link_parties.specs.declared.MasterCallWithPart.{MasterCallWithPart}
use Rattle.link_parties.specs.declared.MasterDid.{MasterDid}
use Rattle.link_ticks.specs.Ticks.{master_nothing}
use Rattle.link_list.specs.Ticks.{behind, calls_in, ticks_of}
use Rattle.link_run.specs.Run.{tick_number, numbers_of}
use Rattle.link_run.specs.declared.StartTicks.{StartTicks}
use Rattle.link_run.specs.declared.Stepped.{Stepped}

-- ---- a tick's number, from what each party sent, as a number, and what became of the masters' calls

-- 1 for a party that sends
abbrev pub count_in : ℕ → ℕ
count_in code = when code <? 256 then 0 else 1

unfoldable pub senders_in : List ℕ → ℕ
senders_in [] = 0
senders_in (c ∷ cs) = count_in c + senders_in cs

-- 1 for a request that was taken
abbrev pub taken_in : CallResult → ℕ
taken_in CallResult.Nothing = 0
taken_in CallResult.Taken = 1
taken_in (CallResult.Refused why) = 0

-- what a master adds, in units of 16
abbrev pub master_number : List ℕ → List MasterDid → ℕ → ℕ
master_number row dids i = taken_in (get_or dids i master_nothing).result + 4 * count_in (get_or row i 0)

abbrev pub row_number : List ℕ → List MasterDid → ℕ
row_number row dids = senders_in row + 16 * master_number row dids 0 + 32 * master_number row dids 1

-- ---- masters that have not started

-- in how many ticks each master starts, a tick later
abbrev pub starts_left : StartTicks → StartTicks
starts_left s = record { primary = s.primary - 1; secondary = s.secondary - 1 }

-- the calls that are taken: none of a master that has not started
abbrev pub call_taken : ℕ → MasterCallWithPart → MasterCallWithPart
call_taken start c = when start =? 0 then c else record { call = None; part = c.part }

abbrev pub requests_taken : StartTicks → List MasterCallWithPart → List MasterCallWithPart
requests_taken s cs = call_taken s.primary (get_or cs 0 no_master_call) ∷ call_taken s.secondary (get_or cs 1 no_master_call) ∷ []

abbrev pub calls_taken : StartTicks → Calls → Calls
calls_taken s c = record { masters = requests_taken s c.masters; devices = c.devices }

-- the link after a tick: a master that has not started is what it was before
abbrev pub ticked_master : ℕ → Master → Master → Master
ticked_master start before ticked = when start =? 0 then ticked else before

abbrev pub ticked_masters : StartTicks → List Master → List Master → List Master
ticked_masters s before ticked =
    ticked_master s.primary (get_or before 0 any_master) (get_or ticked 0 any_master)
    ∷ ticked_master s.secondary (get_or before 1 any_master) (get_or ticked 1 any_master)
    ∷ []

abbrev pub ticked_link : StartTicks → Link → Link → Link
ticked_link s l t = record { masters = ticked_masters s l.masters t.masters; devices = t.devices; line = t.line }

-- a fresh master: it hears nothing in its first tick, and has no message
pub record Fresh (m : Master) : Type 0 where
  pub hears_nothing : m.deaf ≡ true
  pub no_message : m.message.stage ≡ Free

-- a link with six slots, in which a master that has not started is fresh
pub record LateReady (s : StartTicks) (l : Link) : Type 0 where
  pub six : length l.devices ≡ 6
  pub primary : 0 < s.primary → Fresh (get_or l.masters 0 any_master)
  pub secondary : 0 < s.secondary → Fresh (get_or l.masters 1 any_master)

-- ---- a run

-- the numbers of a whole run from a link on
abbrev pub late_numbers : ℕ → Link → StartTicks → Rows → List ℕ → List ℕ
late_numbers limit l starts x ticks = numbers_of (late_run limit starts.primary starts.secondary (link_of l x) (ticks_of (heres l.devices) ticks))

abbrev pub LateRunIs : ℕ → Link → StartTicks → List ℕ → Lent (List ℕ) → Lent (List (List ℕ)) → Lent (List (List ℕ)) → Lent (List (List ℕ)) → ℕ → Type 0
LateRunIs limit l starts ticks events frames bytes contents r =
    RunIs (late_numbers limit l starts (rows_of (B.before frames) (B.before bytes) (B.before contents)) ticks) (B.before events) r (B.after events)

-- ---- the tick that turns gives for the calls at this place of the list

abbrev pub step_at : ℕ → Link → StartTicks → Rows → List ℕ → ℕ → LinkStep
step_at limit l starts x ticks at = late_tick limit starts.primary starts.secondary (link_of l x) (calls_in (heres l.devices) (drop at ticks))

pub record LateStepping (limit : ℕ) (l : Link) (starts : StartTicks) (ticks : List ℕ) (at : ℕ) (x : Rows) (r : Stepped) (x_after : Rows) : Type 0 where
  pub behind_is : link_of r.link x_after ≡ link_after (step_at limit l starts x ticks at)
  pub number_is : r.number ≡ tick_number (step_at limit l starts x ticks at)
  pub ready : LateReady (starts_left starts) r.link
  pub slots : heres r.link.devices ≡ heres l.devices
  pub next : drop r.next ticks ≡ behind 8 (drop at ticks)

-- so it is for a link that is ready
abbrev pub LateStepIs : ℕ → Link → StartTicks → List ℕ → ℕ → Lent (List (List ℕ)) → Lent (List (List ℕ)) → Lent (List (List ℕ)) → Stepped → Type 0
LateStepIs limit l starts ticks at frames bytes contents r =
    LateReady starts l
    → LateStepping limit l starts ticks at (rows_of (B.before frames) (B.before bytes) (B.before contents)) r
    (rows_of (B.after frames) (B.after bytes) (B.after contents))
