-- A run with two start ticks keeps its promise: by whether its start was accepted.
use Rattle.std.specs.Prelude.{Result, Ok, Err, Option}
use Prim.Native.Nat.{ℕ, zero, suc, ◌≤◌, ◌<◌}
use native.Mathlib.Omega.{arith}
use mathlib.Core.Bool.{Bool, true}
use mathlib.Core.Path.{◌≡◌, refl, sym, ap, subst, ◌∙◌}
use mathlib.Core.List.{List, [], ◌∷◌}
use lib.ListN.{length, get_or}
use lib.Seq.{take-nil, drop-nil}
use Rattle.base.specs.Events.{RunIs}
use Rattle.base.specs.Store.{stored}
use Rattle.base.specs.Refusal.{number, Called, accepted, refused, called_as}
use Rattle.base.specs.declared.Refusal.{Refusal}
use Rattle.line.specs.declared.Heard.{Heard}
use Rattle.line.specs.declared.Profile.{Profile}
use Rattle.turns.specs.Master.{master_starts}
use Rattle.turns.specs.Link.{DeviceSide, LinkStep}
use Rattle.turns.specs.Run.{All, none, and, Distinct, DeviceStarts, EachTick, count, senders}
use Rattle.turns.specs.Ledgers.{blanks, OneFinds}
use Rattle.turns.specs.Demand3.{master_in, NoneBurstsIn}
use Rattle.runs.specs.Late.{Started, starts_now, in_tick, senders_in, BeginTogether, InOverlap, LateStart}
use Rattle.turns.specs.declared.Master.{Master}
use Rattle.turns.proofs.Fresh.{master_is}
use Rattle.runs.proofs.Item14.{item_14}
use Rattle.runs.proofs.Late.{common_start}
use Rattle.link_parties.specs.Stands.{any_master, heres}
use Rattle.link_parties.specs.declared.Link.{Link}
use Rattle.link_start.specs.Fresh.{rows_fresh, lent_fresh}
use Rattle.link_start.specs.Start.{limited_starts, made, LimitedIs}
use Rattle.link_start.specs.declared.Setting.{Setting}
use Rattle.link_start.specs.declared.LinkStarted.{LinkStarted}
use Rattle.link_start.proofs.Started.{masters_start_lem, slots_started, all_start, limited_bounds, limited_link}
use Rattle.link_list.specs.Ticks.{ticks_of}
use Rattle.link_run.specs.Run.{steps_by, steps_of, devices_by, calls_by, numbers_of, ran_by, written, RunKeeps}
use Rattle.link_run.specs.Late.{late_steps_by, late_steps, LateRunPremises, Item14Of, LateKeeps}
use Rattle.link_run.specs.Step.{Fresh, LateReady, late_numbers}
use Rattle.link_run.specs.declared.StartTicks.{StartTicks}
use Rattle.link_run.proofs.Kept.{run_keeps}
use Rattle.link_run.proofs.Senders.{written_tells}

-- ---- item 14

-- a run without a tick
none_sends : (f : LinkStep → ℕ) (t : ℕ) → in_tick f [] t ≡ 0
unfolding in_tick
none_sends f t = refl

no_tick_starts : (limit : ℕ) (p : Profile) (retries a b : ℕ) → LateStart limit p retries a b []
no_tick_starts limit p retries a b = record {
  one_overlap = record {
    at_most_one = λ t u x y. absurd (begin t x);
    two_send = λ t h. absurd (omega (arith, none_sends senders t));
    once_ended = λ u t x y. absurd (begin u x);
    without_one = λ f t. omega (arith, none_sends senders t);
  };
  waits = λ primary t s after e. absurd (impossible s after (sym (drop-nil t) ∙ e));
  seen_is_shared = λ u t f. let k = f.in_the_run in absurd (omega arith);
}
  where
    begin : (t : ℕ) → BeginTogether [] t → ⊥
    begin t x = omega (arith, none_sends (λ (s : LinkStep). count (master_in true s).sent) t, x.primary_sends)

    impossible : (s : LinkStep) (after : List LinkStep) → [] ≡ s ∷ after → ⊥
    impossible s after q = let k : ◌≡◌ {A = ℕ} 0 (length (s ∷ after)) = ap length q in omega (arith, k)

all_started : (limit : ℕ) {p : Profile} {line : Heard} {xs : List DeviceSide} → All (DeviceStarts p) xs → All (Started limit p line) xs
all_started limit none = none
all_started limit (and x q) = and (starts_now x) (all_started limit q)

item_14_kept : (limit : ℕ) (p : Profile) (retries : ℕ) (s : List (Option Setting)) (six : length s ≡ 6) (a b : ℕ) (ticks : List ℕ) → LateRunPremises limit p retries s a b ticks → Item14Of limit p retries s a b ticks
unfolding late_steps
item_14_kept limit p retries s six a b ticks k = by (limited_starts limit p retries s) refl
  where
    by : (c : Called Link) → limited_starts limit p retries s ≡ c → LateStart limit p retries a b (late_steps_by limit a b c ticks)
    by (refused why) e = no_tick_starts limit p retries a b
    by (accepted l) e =
        let all = all_start p retries s six l (limited_link limit p retries s l e) (subst (λ (c : Called Link). Distinct (devices_by c)) e k.distinct) in
        item_14 limit (limited_bounds limit p retries s l e).0 (limited_bounds limit p retries s l e).1 p retries a b (lent_fresh l) (ticks_of (heres l.devices) ticks)
        (record {
          made = k.made;
          primary = all.primary;
          secondary = all.secondary;
          devices = all_started limit all.devices;
          distinct = all.distinct;
          none_bursts = subst (λ (c : Called Link). EachTick NoneBurstsIn (late_steps_by limit a b c ticks)) e k.none_bursts;
          one_finds = subst (λ (c : Called Link). OneFinds (blanks (devices_by c)) (calls_by c ticks) (late_steps_by limit a b c ticks)) e k.one_finds;
        })

-- where two send, it is a tick of the overlap
one_but_in_overlap : (limit : ℕ) (p : Profile) (retries : ℕ) (s : List (Option Setting)) (six : length s ≡ 6) (a b : ℕ) (ticks : List ℕ) (i : ℕ) → LateRunPremises limit p retries s a b ticks → (InOverlap limit (late_steps limit p retries s a b ticks) i → ⊥) → senders_in (late_steps limit p retries s a b ticks) i ≤ 1
one_but_in_overlap limit p retries s six a b ticks i k f = by (senders_in (late_steps limit p retries s a b ticks) i) ((item_14_kept limit p retries s six a b ticks k).one_overlap.two_send i)
  where
    by : (n : ℕ) → (2 ≤ n → InOverlap limit (late_steps limit p retries s a b ticks) i) → n ≤ 1
    by zero h = omega arith
    by (suc zero) h = omega arith
    by (suc (suc n)) h = absurd (f (h (omega arith)))

-- where both masters start in tick 0, it is the run of the common start
common : (limit : ℕ) (p : Profile) (retries : ℕ) (s : List (Option Setting)) (ticks : List ℕ) → late_steps limit p retries s 0 0 ticks ≡ steps_of limit p retries s ticks
unfolding late_steps steps_of
common limit p retries s ticks = by (limited_starts limit p retries s)
  where
    by : (c : Called Link) → late_steps_by limit 0 0 c ticks ≡ steps_by limit c ticks
    by (accepted l) = common_start limit (lent_fresh l) (ticks_of (heres l.devices) ticks)
    by (refused why) = refl

as_common : (limit : ℕ) (p : Profile) (retries : ℕ) (s : List (Option Setting)) (six : length s ≡ 6) (a b : ℕ) (ticks before : List ℕ) (r : Result ℕ Refusal) (after : List ℕ) → a ≡ 0 → b ≡ 0
    → called_as r ≡ ran_by (limited_starts limit p retries s) (length (written (late_steps limit p retries s a b ticks) before)) → after ≡ stored before 0 (written (late_steps limit p retries s a b ticks) before) → RunKeeps limit p retries s ticks before r after
as_common limit p retries s six a b ticks before r after f g x y =
    let same : late_steps limit p retries s a b ticks ≡ steps_of limit p retries s ticks = (λ i. late_steps limit p retries s (f i) (g i) ticks) ∙ common limit p retries s ticks in
    run_keeps limit p retries s six ticks before r after (x ∙ ap (λ (steps : List LinkStep). ran_by (limited_starts limit p retries s) (length (written steps before))) same)
    (y ∙ ap (λ (steps : List LinkStep). stored before 0 (written steps before)) same)

-- ---- the run

fresh : (p : Profile) (primary : Bool) (retries : ℕ) (m : Master) → master_starts p primary retries ≡ accepted m → Fresh m
fresh p primary retries m e = subst Fresh (sym (master_is p primary retries m e)) (record { hears_nothing = refl; no_message = refl })

module _ (limit : ℕ) (p : Profile) (retries : ℕ) (s : List (Option Setting)) (starts : StartTicks) (ticks before : List ℕ) (started : LinkStarted) (six : length s ≡ 6) (q : LimitedIs limit p retries s started) where
  -- what the answer says of the start
  was_started : started.answer ≡ Ok tt → limited_starts limit p retries s ≡ accepted started.link
  was_started e = sym q.answer_is ∙ ap (made started.link) e

  pub start_ready : started.answer ≡ Ok tt → LateReady starts started.link
  start_ready e =
      let link = limited_link limit p retries s started.link (was_started e) in
      let masters = masters_start_lem p retries s six started.link link in
      record {
        six = slots_started p retries s started.link link ∙ six;
        primary = λ h. fresh p _ retries (get_or started.link.masters 0 any_master) masters.0;
        secondary = λ h. fresh p _ retries (get_or started.link.masters 1 any_master) masters.1;
      }

  abbrev steps_from : Called Link → List LinkStep
  steps_from c = late_steps_by limit starts.primary starts.secondary c ticks

  promised : (c : Called Link) (r : Result ℕ Refusal) (after : List ℕ) → limited_starts limit p retries s ≡ c → called_as r ≡ ran_by c (length (written (steps_from c) before)) → after ≡ stored before 0 (written (steps_from c) before)
      → LateKeeps limit p retries s starts.primary starts.secondary ticks before r after
  unfolding late_steps
  promised c r after e x y =
      let a = starts.primary in
      let b = starts.secondary in
      let result = x ∙ ap (λ (k : Called Link). ran_by k (length (written (steps_from k) before))) (sym e) in
      let stores = y ∙ ap (λ (k : Called Link). stored before 0 (written (steps_from k) before)) (sym e) in
      record {
        answered = result;
        events = stores;
        item_14 = item_14_kept limit p retries s six a b ticks;
        one_sender = λ k i h f. written_tells (late_steps limit p retries s a b ticks) before after i stores h (one_but_in_overlap limit p retries s six a b ticks i k f);
        common_start = λ f g. as_common limit p retries s six a b ticks before r after f g result stores;
      }

  -- its limit is a byte
  pub limit_small : started.answer ≡ Ok tt → limit < 256
  limit_small e = omega (arith, limited_bounds limit p retries s started.link (was_started e))

  pub run_accepted : (n : ℕ) (after : List ℕ) → started.answer ≡ Ok tt → RunIs (late_numbers limit started.link starts rows_fresh ticks) before n after
      → LateKeeps limit p retries s starts.primary starts.secondary ticks before (Ok n) after
  run_accepted n after e r =
      promised (accepted started.link) (Ok n) after (was_started e) (ap (λ (k : ℕ). accepted k) r.returned) r.events

  pub run_refused : (why : Refusal) → started.answer ≡ Err why → LateKeeps limit p retries s starts.primary starts.secondary ticks before (Err why) before
  unfolding numbers_of stored
  run_refused why e = promised (refused (number why)) (Err why) before (sym q.answer_is ∙ ap (made started.link) e) refl (sym (ap (λ (l : List ℕ). stored before 0 l) (take-nil (length before))))

pub ruleset kept = (refl, start_ready, limit_small, run_accepted, run_refused)

-- what is promised where both masters start in tick 0
pub common_kept : (limit : ℕ) (p : Profile) (retries : ℕ) (s : List (Option Setting)) (ticks before : List ℕ) (r : Result ℕ Refusal) (after : List ℕ) → LateKeeps limit p retries s 0 0 ticks before r after → RunKeeps limit p retries s ticks before r after
common_kept limit p retries s ticks before r after k = k.common_start refl refl
