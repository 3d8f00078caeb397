-- The loop of a run: what is left of the list gives what the whole gives.
use Prim.Native.Nat.{ℕ, suc, ◌+◌, ◌≤◌, ◌<◌}
use native.Mathlib.Omega.{arith}
use mathlib.Core.Path.{◌≡◌, refl, sym, ap, subst, ◌∙◌}
use mathlib.Core.List.{List, [], ◌∷◌}
use lib.ListN.{length, drop, set, length-drop}
use Rattle.std.specs.Prelude.{Option}
use Rattle.base.specs.Events.{RunIs}
use Rattle.base.proofs.Filling.{Filling, filling_begun, filling_more, filling_ended, filling_full}
use Rattle.turns.specs.Link.{Calls, link_after}
use Rattle.turns.specs.Link as L
use Rattle.turns.specs.declared.Device.{Device}
use Rattle.runs.specs.Late.{late_tick, late_run}
use Rattle.link_parties.specs.Stands.{Rows, link_of, heres}
use Rattle.link_parties.specs.declared.Link.{Link}
use Rattle.link_list.specs.Ticks.{Here, behind, calls_in, ticks_of}
use Rattle.link_list.proofs.Whole.{ticks_more, ticks_none}
use Rattle.link_run.specs.Run.{tick_number, numbers_of}
use Rattle.link_run.specs.Step.{starts_left, LateReady, late_numbers, step_at, LateStepping}
use Rattle.link_run.specs.declared.StartTicks.{StartTicks}
use Rattle.link_run.specs.declared.Stepped.{Stepped}

pub heres_length : (ss : List (Option Device)) → length (heres ss) ≡ length ss
heres_length [] = refl
heres_length (s ∷ ss) = ap suc (heres_length ss)

-- the rest behind a tick of six slots
pub ticks_first : (here : Here) (rest : List ℕ) → length here ≡ 6 → 0 < length rest → ticks_of here rest ≡ calls_in here rest ∷ ticks_of here (behind 8 rest)
ticks_first here rest six h = ticks_more here rest h ∙ ap (λ (n : ℕ). calls_in here rest ∷ ticks_of here (behind (suc (suc n)) rest)) six

-- the numbers of what is left: the masters' start ticks, a link, and the ticks that it has still to make
abbrev left : ℕ → (StartTicks × L.Link × List Calls) → List ℕ
left limit s = numbers_of (late_run limit s.0.primary s.0.secondary s.1 s.2)

pub record Going (limit : ℕ) (here : Here) (numbers ticks before : List ℕ) (l : Link) (starts : StartTicks) (x : Rows) (events : List ℕ) (at i : ℕ) : Type 0 where
  pub ready : LateReady starts l
  pub here_is : heres l.devices ≡ here
  pub filling : Filling (left limit) numbers before (starts, link_of l x, ticks_of here (drop at ticks)) events i

pub going_begun : (limit : ℕ) (l : Link) (starts : StartTicks) (x : Rows) (ticks before : List ℕ) → LateReady starts l → Going limit (heres l.devices) (late_numbers limit l starts x ticks) ticks before l starts x before 0 0
going_begun limit l starts x ticks before k = record {
  ready = k;
  here_is = refl;
  filling = filling_begun (left limit) before (starts, link_of l x, ticks_of (heres l.devices) ticks);
}

module _ (limit : ℕ) (here : Here) (numbers ticks before : List ℕ) (l : Link) (starts : StartTicks) (x : Rows) (events : List ℕ) (at i : ℕ) (g : Going limit here numbers ticks before l starts x events at i) where
  pub going_on : (r : Stepped) (onward : StartTicks) (x_after : Rows) → i < length events → at < length ticks → (LateReady starts l → LateStepping limit l starts ticks at x r x_after) → onward ≡ starts_left starts
      → Going limit here numbers ticks before r.link onward x_after (set events i r.number) r.next (i + 1)
  unfolding numbers_of late_run
  going_on r onward x_after h k is e =
      let t = is g.ready in
      let as_many : length here ≡ 6 = ap length (sym g.here_is) ∙ heres_length l.devices ∙ g.ready.six in
      let first = ticks_first here (drop at ticks) as_many (omega (arith, length-drop at ticks, k)) in
      let step : late_tick limit starts.primary starts.secondary (link_of l x) (calls_in here (drop at ticks)) ≡ step_at limit l starts x ticks at = ap (λ (y : Here). late_tick limit starts.primary starts.secondary (link_of l x) (calls_in y (drop at ticks))) (sym g.here_is) in
      record {
        ready = subst (λ (y : StartTicks). LateReady y r.link) (sym e) t.ready;
        here_is = t.slots ∙ g.here_is;
        filling = filling_more (left limit) numbers before (starts, link_of l x, ticks_of here (drop at ticks)) (onward, link_of r.link x_after, ticks_of here (drop r.next ticks)) events i r.number g.filling h
            (ap (λ (cs : List Calls). left limit (starts, link_of l x, cs)) first
            ∙ (λ j. tick_number (step j) ∷ left limit (starts_left starts, link_after (step j), ticks_of here (behind 8 (drop at ticks))))
            ∙ (λ j. sym t.number_is j ∷ left limit (sym e j, sym t.behind_is j, ticks_of here (sym t.next j))));
      }

  pub going_ended : length ticks ≤ at → RunIs numbers before i events
  unfolding numbers_of late_run
  going_ended h =
      filling_ended (left limit) numbers before (starts, link_of l x, ticks_of here (drop at ticks)) events i g.filling
      (ap (λ (cs : List Calls). left limit (starts, link_of l x, cs)) (ticks_none here (drop at ticks) (omega (arith, length-drop at ticks))))

  pub going_full : length events ≤ i → RunIs numbers before i events
  going_full h = filling_full (left limit) numbers before (starts, link_of l x, ticks_of here (drop at ticks)) events i g.filling h

pub ruleset goings = (refl, going_begun, going_on, going_ended, going_full)
