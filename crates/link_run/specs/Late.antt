-- How the code stands for what is to be believed.
-- Document 02, item 14: "If each master starts at a tick of its own". What every party does in each tick of a lent list, where the primary starts in tick a and the secondary in tick b, and item 14's claim for that run.
use Rattle.std.specs.Prelude.{ℕ, ◌<◌, ◌≡◌, List, [], length, get_or, Result, Option}
use Rattle.base.specs.Refusal.{Called, accepted, refused, called_as}
use Rattle.base.specs.Store.{stored}
use Rattle.line.specs.Profile.{profile_made}
use Rattle.line.specs.declared.Profile.{Profile}
use Rattle.turns.specs.Link.{LinkStep}
use Rattle.turns.specs.Run.{Distinct, EachTick}
use Rattle.turns.specs.Ledgers.{blanks, OneFinds}
use Rattle.turns.specs.Demand3.{NoneBurstsIn}
use Rattle.runs.specs.Late.{late_run, InOverlap, LateStart}
use Rattle.link_parties.specs.Stands.{heres}
use Rattle.link_parties.specs.declared.Link.{Link}
use Rattle.link_start.specs.Fresh.{lent_fresh}
use Rattle.link_start.specs.Start.{limited_starts}
use Rattle.link_start.specs.declared.Setting.{Setting}
use Rattle.link_list.specs.Ticks.{ticks_of}
use Rattle.link_run.specs.Run.{devices_by, calls_by, ran_by, OneSender, written, RunKeeps}
use Rattle.base.specs.declared.Refusal.{Refusal}

-- ---- the run

-- what every party does in each tick, from the parties' start on; no tick where a start is refused
abbrev pub late_steps_by : ℕ → ℕ → ℕ → Called Link → List ℕ → List LinkStep
late_steps_by limit a b (accepted l) ticks = late_run limit a b (lent_fresh l) (ticks_of (heres l.devices) ticks)
late_steps_by limit a b (refused why) ticks = []

unfoldable pub late_steps : ℕ → Profile → ℕ → List (Option Setting) → ℕ → ℕ → List ℕ → List LinkStep
late_steps limit p retries s a b ticks = late_steps_by limit a b (limited_starts limit p retries s) ticks

-- ---- item 14, for the run that was made

-- "all else is as for the common start, devices were started before, no character is otherwise damaged or lost and no device bursts" and, by item 6, "at most one host's answer to each command 11 is taken". That the devices start in tick 0 is how the run begins; that no character is otherwise damaged or lost is how its line is defined.
pub record LateRunPremises (limit : ℕ) (p : Profile) (retries : ℕ) (s : List (Option Setting)) (a b : ℕ) (ticks : List ℕ) : Type 0 where
  -- the profile is one that the check takes
  pub made : profile_made p ≡ accepted p
  pub distinct : Distinct (devices_by (limited_starts limit p retries s))
  pub none_bursts : EachTick NoneBurstsIn (late_steps limit p retries s a b ticks)
  pub one_finds : OneFinds (blanks (devices_by (limited_starts limit p retries s))) (calls_by (limited_starts limit p retries s) ticks)
      (late_steps limit p retries s a b ticks)

-- "then there is at most one tick in which two masters begin together", and what follows it in item 14
abbrev pub Item14Of : ℕ → Profile → ℕ → List (Option Setting) → ℕ → ℕ → List ℕ → Type 0
Item14Of limit p retries s a b ticks = LateStart limit p retries a b (late_steps limit p retries s a b ticks)

-- what a run promises: its answer, and the numbers at the front of the lent events; where the premises hold item 14 of the run, and at most one sender in each number that was written but those of the overlap; and where both masters start in tick 0 all that a run of the common start promises
pub record LateKeeps (limit : ℕ) (p : Profile) (retries : ℕ) (s : List (Option Setting)) (a b : ℕ) (ticks before : List ℕ)
    (r : Result ℕ Refusal) (after : List ℕ) : Type 0 where
  pub answered : called_as r ≡ ran_by (limited_starts limit p retries s) (length (written (late_steps limit p retries s a b ticks) before))
  pub events : after ≡ stored before 0 (written (late_steps limit p retries s a b ticks) before)
  pub item_14 : LateRunPremises limit p retries s a b ticks → Item14Of limit p retries s a b ticks
  pub one_sender : LateRunPremises limit p retries s a b ticks → (i : ℕ) → i < length (written (late_steps limit p retries s a b ticks) before)
      → (InOverlap limit (late_steps limit p retries s a b ticks) i → ⊥) → OneSender (get_or after i 0)
  pub common_start : a ≡ 0 → b ≡ 0 → RunKeeps limit p retries s ticks before r after
