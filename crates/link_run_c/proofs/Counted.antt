-- What the call gives: how many numbers the run gave, none where a start is refused, and that start's number.
use Rattle.std.specs.Prelude.{Result, Err, Option}
use Prim.Native.Nat.{ℕ}
use mathlib.Core.Path.{◌≡◌, refl, sym, ap, subst, ◌∙◌}
use mathlib.Core.List.{List}
use lib.ListN.{length, take}
use lib.Seq.{take-nil}
use Rattle.base.specs.Lent.{Lent, before, after}
use Rattle.base.specs.Refusal.{number, Called, accepted, refused, called_as}
use Rattle.base.specs.declared.Refusal.{Refusal}
use Rattle.line.specs.declared.Profile.{Profile}
use Rattle.link_parties.specs.declared.Link.{Link}
use Rattle.link_start.specs.Start.{limited_starts}
use Rattle.link_start.specs.declared.Setting.{Setting}
use Rattle.link_run.specs.Run.{numbers_of, ran_by}
use Rattle.link_run.specs.Late.{late_steps_by, late_steps, LateKeeps}
use Rattle.link_run_c.specs.Settings.{refusal_of, count_of, EndsAs, RunsAs}

-- ---- a run whose start was refused

pub ended_refused : (why : Refusal) (n : ℕ) (ended : Result ℕ Refusal) (refusal : Lent ℕ) → ended ≡ Err why → n ≡ number why → after refusal ≡ n → EndsAs ended refusal 0
ended_refused why n ended refusal e q k = record {
  returned = ap (λ (x : Result ℕ Refusal). count_of (called_as x)) (sym e);
  refusal_is = k ∙ q ∙ ap (λ (x : Result ℕ Refusal). refusal_of (called_as x)) (sym e);
}

pub ruleset ends = (refl, ended_refused)

-- ---- the run, with the settings as the code has them

module _ (limit : ℕ) (p : Profile) (retries : ℕ) (s : List (Option Setting)) (a b : ℕ) (ticks : List ℕ) (events : Lent (List ℕ)) where
  -- how many numbers were given
  abbrev counted : Called Link → ℕ
  counted c = length (take (length (before events)) (numbers_of (late_steps_by limit a b c ticks)))

  count_is : (c : Called Link) → count_of (ran_by c (counted c)) ≡ counted c
  unfolding numbers_of
  count_is (accepted l) = refl
  count_is (refused why) = sym (ap length (take-nil (length (before events))))

  refusal_by : (c : Called Link) (n : ℕ) → refusal_of (ran_by c n) ≡ refusal_of c
  refusal_by (accepted l) n = refl
  refusal_by (refused why) n = refl

  runs_as : (ended : Result ℕ Refusal) (refusal : Lent ℕ) (r : ℕ) → LateKeeps limit p retries s a b ticks (before events) ended (after events) → EndsAs ended refusal r
      → RunsAs p retries limit s a b ticks events refusal r
  unfolding late_steps
  runs_as ended refusal r k e = record {
    numbers = record { events = k.events; returned = e.returned ∙ ap count_of k.answered ∙ count_is (limited_starts limit p retries s) };
    refusal_is = e.refusal_is ∙ ap refusal_of k.answered ∙ refusal_by (limited_starts limit p retries s) _;
  }

  pub run_ends : (made : List (Option Setting)) (ended : Result ℕ Refusal) (refusal : Lent ℕ) (r : ℕ) → made ≡ s → LateKeeps limit p retries made a b ticks (before events) ended (after events)
      → EndsAs ended refusal r → RunsAs p retries limit s a b ticks events refusal r
  run_ends made ended refusal r e k = runs_as ended refusal r (subst (λ (x : List (Option Setting)). LateKeeps limit p retries x a b ticks (before events) ended (after events)) e k)

pub ruleset counts = (refl, run_ends)
