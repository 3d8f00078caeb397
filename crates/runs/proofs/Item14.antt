-- Document 02, item 14: the claim of specs/Late, for every valid profile, every accepted R, any number of devices, every pair of start ticks and every list of ticks.
use Prim.Native.Nat.{ℕ, zero, suc, ◌-◌, ◌≤◌}
use native.Mathlib.Omega.{arith}
use mathlib.Core.Path.{◌≡◌, sym, ap, subst, ◌∙◌}
use mathlib.Core.Bool.{Bool, true}
use mathlib.Core.List.{List, [], ◌∷◌}
use Rattle.base.proofs.Choices.{if_is_true}
use Rattle.line.specs.Reader.{passing, taken}
use Rattle.line.specs.declared.Event.{Event}
use Rattle.line.specs.declared.Heard.{Heard}
use Rattle.line.specs.declared.Profile.{Profile}
use Rattle.line.specs.declared.Taken.{Taken}
use Rattle.turns.specs.Link.{MasterSide, DeviceSide, Link, LinkStep, Calls, link_after, run, sides}
use Rattle.turns.specs.Run.{All, none, and, MasterStarts, DeviceStarts, EachTick, no_tick, tick_and}
use Rattle.turns.specs.Ledgers.{Ledger, blanks, OneFinds}
use Rattle.turns.specs.Ledgers as G
use Rattle.turns.specs.Demand3.{Premises, NoneBurstsIn}
use Rattle.runs.specs.Late.{late_tick, late_run, Started, starts_now, LatePremises, senders_in, BeginTogether, InOverlap, OneOverlap, Shared, both_heard, primary_sent, secondary_sent, Claimed, behind_overlap, behind_frame, Item14}
use Rattle.turns.specs.declared.Master.{Master}
use Rattle.runs.proofs.Fair.{SoleTag}
use Rattle.turns.proofs.Fresh.{valid, master_is}
use Rattle.runs.proofs.KeptLink.{LinkKept, fresh_kept}
use Rattle.runs.proofs.Tags.{AllOwe, all_tick, sole}
use Rattle.runs.proofs.NoBurst.{NoBurstIn}
use Rattle.runs.proofs.Readers.{Beside, primary_heard, secondary_heard}
use Rattle.runs.proofs.LateTicks.{LateTicks, BeginFrom, at_most_one, two_send, ClaimedIn, both_sent, frame_ended, in_time, framed_in}
use Rattle.runs.proofs.NoneOn.{started_none, started_kept, started_owe}
use Rattle.runs.proofs.Late.{common_start, every_late_run}

-- ---- the premises, tick by tick

-- under item 6's premise at most one device answers a command 11
late_tag : (limit a b : ℕ) (gs : List Ledger) (l : Link) (ticks : List Calls) → AllOwe gs l.devices → OneFinds gs ticks (late_run limit a b l ticks)
    → EachTick (λ (s : LinkStep). SoleTag (sides s.for_devices)) (late_run limit a b l ticks)
unfolding late_run late_tick
late_tag limit a b gs l [] o G.no_tick = no_tick
late_tag limit a b gs l (c ∷ cs) o (G.tick_and q qs) =
    let next = all_tick limit l.line c.for_devices o in
    tick_and (sole next q) (late_tag limit (a - 1) (b - 1) _ (link_after (late_tick limit a b l c)) cs next qs)

both : {ss : List LinkStep} → EachTick NoneBurstsIn ss → EachTick (λ (s : LinkStep). SoleTag (sides s.for_devices)) ss → EachTick NoBurstIn ss
both no_tick no_tick = no_tick
both (tick_and a q) (tick_and b r) = tick_and (a, b) (both q r)

-- ---- the overlap

from_tick : (steps : List LinkStep) (t : ℕ) → BeginTogether steps t → BeginFrom 0 0 steps t
from_tick steps zero b = record { primary_sends = b.primary_sends; secondary_sends = b.secondary_sends; primary_did_not = b.primary_did_not; secondary_did_not = b.secondary_did_not }
from_tick steps (suc t) b = record { primary_sends = b.primary_sends; secondary_sends = b.secondary_sends; primary_did_not = b.primary_did_not; secondary_did_not = b.secondary_did_not }

to_tick : (steps : List LinkStep) (t : ℕ) → BeginFrom 0 0 steps t → BeginTogether steps t
to_tick steps zero b = record { primary_sends = b.primary_sends; secondary_sends = b.secondary_sends; primary_did_not = b.primary_did_not; secondary_did_not = b.secondary_did_not }
to_tick steps (suc t) b = record { primary_sends = b.primary_sends; secondary_sends = b.secondary_sends; primary_did_not = b.primary_did_not; secondary_did_not = b.secondary_did_not }

at_most : (n : ℕ) → (2 ≤ n → ⊥) → n ≤ 1
at_most zero f = omega arith
at_most (suc zero) f = omega arith
at_most (suc (suc n)) f = absurd (f (omega arith))

overlap_of : {limit : ℕ} {p : Profile} {retries a b : ℕ} {steps : List LinkStep} → LateTicks limit p retries a b 0 steps → OneOverlap limit steps
overlap_of {limit} {p} {retries} {a} {b} {steps} c = record {
  at_most_one = one;
  two_send = two;
  once_ended = λ u t begins e. at_most (senders_in steps t) (λ z. let o = two t z in let b = o.since e.tick (omega (arith, one o.first u o.begin_together begins, e.since_first)) e.by_now in e.not_both b.primary_sends b.secondary_sends);
  without_one = λ none t. at_most (senders_in steps t) (λ z. let o = two t z in none o.first o.begin_together);
}
  where
    one : (t u : ℕ) → BeginTogether steps t → BeginTogether steps u → t ≡ u
    one t u x y = let o = at_most_one c 0 0 in o.is t (from_tick steps t x) ∙ sym (o.is u (from_tick steps u y))

    two : (t : ℕ) → 2 ≤ senders_in steps t → InOverlap limit steps t
    two t z = let o = two_send c 0 0 (omega arith) t z in record { first = o.first; begin_together = to_tick steps o.first o.begins; from_first = o.from_first; since = o.since; in_a_frame = omega (arith, o.in_a_frame) }

-- ---- the whole claim

heard_is : {x y : ℕ} {h k h' k' : Event} → h ≡ h' → k ≡ k' → Shared x y h k → Shared x y h' k'
heard_is a b (both_heard w e f) = both_heard w (sym a ∙ e) (sym b ∙ f)
heard_is a b (primary_sent w e f) = primary_sent w e (sym b ∙ f)
heard_is a b (secondary_sent w e f) = secondary_sent w e (sym a ∙ f)

start_beside : {p : Profile} {primary : Bool} {retries n : ℕ} {x : MasterSide} {heard : Heard} → MasterStarts p primary retries x → Beside n x heard passing
start_beside {p} {primary} {retries} {n} {x} {heard} s =
    let e = master_is p primary retries x.master s.starts in
    let d : x.master.deaf ≡ true = ap (λ (m : Master). m.deaf) e in
    record { off = λ z. d; is = ap (λ (t : Taken). t.receiver) (if_is_true x.master.deaf _ (taken x.master.receiver heard) d) ∙ ap (λ (m : Master). m.receiver) e }

-- demand 3's premises with no device bursting are those of a start of both masters in tick 0
pub common_premises : {limit : ℕ} {p : Profile} {retries : ℕ} {l : Link} {ticks : List Calls} → Premises limit p retries l ticks → EachTick NoneBurstsIn (run limit l ticks) → LatePremises limit p retries 0 0 l ticks
common_premises {limit} {p} {retries} {l} {ticks} k off = record {
  made = k.made;
  primary = k.starts.primary;
  secondary = k.starts.secondary;
  devices = now k.starts.devices;
  distinct = k.starts.distinct;
  none_bursts = subst (EachTick NoneBurstsIn) (sym (common_start limit l ticks)) off;
  one_finds = subst (OneFinds (blanks l.devices) ticks) (sym (common_start limit l ticks)) k.one_finds;
}
  where
    now : {xs : List DeviceSide} → All (DeviceStarts p) xs → All (Started limit p l.line) xs
    now none = none
    now (and s ss) = and (starts_now s) (now ss)

pub late_ticks_of : (limit : ℕ) → 2 ≤ limit → limit ≤ 255 → (p : Profile) (retries a b : ℕ) (l : Link) (ticks : List Calls) → LatePremises limit p retries a b l ticks → LateTicks limit p retries a b 0 (late_run limit a b l ticks)
late_ticks_of limit low high p retries a b l ticks k =
    let v = valid p k.made in
    let kept : LinkKept limit retries l = record { primary = fresh_kept limit k.primary; secondary = fresh_kept limit k.secondary; devices = started_kept limit low p l.line k.devices } in
    every_late_run limit low high p v retries a b l ticks kept k.primary k.secondary k.distinct (started_none limit low high p v l.line k.devices)
    (both k.none_bursts (late_tag limit a b (blanks l.devices) l ticks (started_owe limit low high p v l.line k.devices) k.one_finds))

pub item_14 : (limit : ℕ) → 2 ≤ limit → limit ≤ 255 → Item14 limit
item_14 limit low high p retries a b l ticks k = record {
  one_overlap = overlap_of late_ticks;
  waits = λ bit t s after q z. in_time late_ticks bit t s after q (claimed t z);
  seen_is_shared = λ u t f. heard_is (sym (primary_heard limit high a b l ticks _ (start_beside k.primary) t)) (sym (secondary_heard limit high a b l ticks _ (start_beside k.secondary) t))
      (framed_in late_ticks u t (omega (arith, f.primary_on)) (omega (arith, f.secondary_on)) f.silent_before (f.one_sends (suc u) (omega arith) (omega (arith, f.some))) f.some
      (record { one_sends = f.one_sends t f.some (omega arith); silent_behind = f.silent_behind; in_the_run = f.in_the_run }));
}
  where
    late_ticks : LateTicks limit p retries a b 0 (late_run limit a b l ticks)
    late_ticks = late_ticks_of limit low high p retries a b l ticks k

    claimed : (t : ℕ) → Claimed a b (late_run limit a b l ticks) t → ClaimedIn (late_run limit a b l ticks) t
    claimed t (behind_overlap u less z) = both_sent u less z.primary_sends z.secondary_sends
    claimed t (behind_frame u less z) = frame_ended u less (heard_is (primary_heard limit high a b l ticks _ (start_beside k.primary) u) (secondary_heard limit high a b l ticks _ (start_beside k.secondary) u) z)
