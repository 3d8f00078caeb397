-- A run of the common start keeps its promise.
use Rattle.std.specs.Prelude.{Result, Option}
use Prim.Native.Nat.{ℕ, ◌<◌}
use native.Mathlib.Omega.{arith}
use mathlib.Core.Path.{◌≡◌, refl, sym, ap, subst, ◌∙◌}
use mathlib.Core.List.{List, [], ◌∷◌}
use lib.ListN.{length, get_or, length-replicate}
use lib.Seq.{drop-nil}
use Rattle.base.specs.Store.{stored}
use Rattle.base.specs.Refusal.{Called, accepted, refused, called_as}
use Rattle.line.specs.declared.Profile.{Profile}
use Rattle.turns.specs.Run.{Distinct, EachTick, no_tick, OneBursts, NoTwoSend}
use Rattle.turns.specs.Demand3.{Premises, WaitIn}
use Rattle.runs.proofs.Wait as W
use Rattle.runs.proofs.Credit.{credit_in_a_run}
use Rattle.runs.proofs.Backs.{backs_in_a_run}
use Rattle.link_parties.specs.Stands.{heres}
use Rattle.link_parties.specs.declared.Link.{Link}
use Rattle.link_start.specs.Fresh.{lent_fresh}
use Rattle.link_start.specs.Start.{limited_starts}
use Rattle.link_start.specs.declared.Setting.{Setting}
use Rattle.link_start.proofs.Started.{all_start, limited_bounds, limited_link}
use Rattle.link_list.specs.Ticks.{ticks_of}
use Rattle.link_run.specs.Run.{steps_by, steps_of, devices_by, FindsBy, ran_by, OneSender, RunPremises, Demand3Of, CreditOf, BacksOf, written, RunKeeps}
use Rattle.link_run.proofs.Senders.{none_in_tick, written_tells}
use Rattle.base.specs.declared.Refusal.{Refusal}

-- ---- demand 3

no_wait : (limit : ℕ) (p : Profile) (retries : ℕ) → WaitIn limit p retries []
no_wait limit p retries primary t s after e a = absurd (impossible (sym (drop-nil t) ∙ e))
  where
    impossible : [] ≡ s ∷ after → ⊥
    impossible q = let k : ◌≡◌ {A = ℕ} 0 (length (s ∷ after)) = ap length q in omega (arith, k)

-- the premises of turns, for the link that was started
premises : (limit : ℕ) (p : Profile) (retries : ℕ) (s : List (Option Setting)) (six : length s ≡ 6) (ticks : List ℕ) (l : Link) → limited_starts limit p retries s ≡ accepted l → RunPremises limit p retries s ticks → Premises limit p retries (lent_fresh l) (ticks_of (heres l.devices) ticks)
unfolding steps_of
premises limit p retries s six ticks l e k = record {
  made = k.made;
  starts = all_start p retries s six l (limited_link limit p retries s l e) (subst (λ (c : Called Link). Distinct (devices_by c)) e k.distinct);
  one_bursts = subst (λ (c : Called Link). EachTick OneBursts (steps_by limit c ticks)) e k.one_bursts;
  one_finds = subst (λ (c : Called Link). FindsBy limit c ticks) e k.one_finds;
}

demand_3_kept : (limit : ℕ) (p : Profile) (retries : ℕ) (s : List (Option Setting)) (six : length s ≡ 6) (ticks : List ℕ) → RunPremises limit p retries s ticks → Demand3Of limit p retries s ticks
unfolding steps_of
demand_3_kept limit p retries s six ticks k = by (limited_starts limit p retries s) refl
  where
    by : (c : Called Link) → limited_starts limit p retries s ≡ c → EachTick NoTwoSend (steps_by limit c ticks) × WaitIn limit p retries (steps_by limit c ticks)
    by (refused why) e = (no_tick, no_wait limit p retries)
    by (accepted l) e =
        let bounds = limited_bounds limit p retries s l e in
        let claim = W.demand_3 limit bounds.0 bounds.1 in
        let met = premises limit p retries s six ticks l e k in
        (claim.0 p retries (lent_fresh l) (ticks_of (heres l.devices) ticks) met, claim.1 p retries (lent_fresh l) (ticks_of (heres l.devices) ticks) met)

-- ---- the credited answer and the BACKs: the masters' buffers have 255 bytes

pub credit_kept : (limit : ℕ) (p : Profile) (retries : ℕ) (s : List (Option Setting)) (six : length s ≡ 6) (ticks : List ℕ) → RunPremises limit p retries s ticks → CreditOf limit p retries s ticks
credit_kept limit p retries s six ticks k l e =
    let room = length-replicate {A = ℕ} 255 0 in
    let bounds = limited_bounds limit p retries s l e in
    credit_in_a_run limit bounds.0 bounds.1 p retries (lent_fresh l) (ticks_of (heres l.devices) ticks) (premises limit p retries s six ticks l e k) (omega (arith, room)) (omega (arith, room))

pub backs_kept : (limit : ℕ) (p : Profile) (retries : ℕ) (s : List (Option Setting)) (six : length s ≡ 6) (ticks : List ℕ) → RunPremises limit p retries s ticks → BacksOf limit p retries s ticks
backs_kept limit p retries s six ticks k l e =
    let room = length-replicate {A = ℕ} 255 0 in
    let bounds = limited_bounds limit p retries s l e in
    backs_in_a_run limit bounds.0 bounds.1 p retries (lent_fresh l) (ticks_of (heres l.devices) ticks) (premises limit p retries s six ticks l e k) (omega (arith, room)) (omega (arith, room))

-- ---- at most one sender in each number

one_sender_kept : (limit : ℕ) (p : Profile) (retries : ℕ) (s : List (Option Setting)) (six : length s ≡ 6) (ticks before after : List ℕ) → after ≡ stored before 0 (written (steps_of limit p retries s ticks) before)
    → RunPremises limit p retries s ticks → (i : ℕ) → i < length (written (steps_of limit p retries s ticks) before) → OneSender (get_or after i 0)
one_sender_kept limit p retries s six ticks before after e k i h =
    let steps = steps_of limit p retries s ticks in
    written_tells steps before after i e h (none_in_tick steps i (demand_3_kept limit p retries s six ticks k).0)

-- ---- the run

-- a run that answers and writes what the definitions give keeps the rest
pub run_keeps : (limit : ℕ) (p : Profile) (retries : ℕ) (s : List (Option Setting)) (six : length s ≡ 6) (ticks before : List ℕ) (r : Result ℕ Refusal) (after : List ℕ) → called_as r ≡ ran_by (limited_starts limit p retries s) (length (written (steps_of limit p retries s ticks) before))
    → after ≡ stored before 0 (written (steps_of limit p retries s ticks) before) → RunKeeps limit p retries s ticks before r after
run_keeps limit p retries s six ticks before r after x y = record {
  answered = x;
  events = y;
  demand_3 = demand_3_kept limit p retries s six ticks;
  credit = credit_kept limit p retries s six ticks;
  backs = backs_kept limit p retries s six ticks;
  one_sender = one_sender_kept limit p retries s six ticks before after y;
}
