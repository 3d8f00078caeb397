-- Theorem: the output of all parties has, of each party, the lines of the frames that it sent to the end alone, and no other.
use Prim.Native.Nat.{ℕ, zero, suc, ◌+◌, ◌<◌}
use native.Mathlib.Omega.{arith}
use mathlib.Core.Path.{◌≡◌, refl, sym, ap, subst, ◌∙◌}
use mathlib.Core.Bool.{Bool, true, false}
use mathlib.Core.List.{List, [], ◌∷◌, ◌++◌, append-nil}
use lib.ListN.{length, get_or, replicate, length-replicate, get_or-replicate}
use Rattle.base.specs.Choice.{when◌then◌else◌, ◌=?◌}
use Rattle.base.proofs.Choices.{if_equal, if_unequal}
use Rattle.line.specs.Reader.{taken}
use Rattle.line.specs.declared.Event.{Event}
use Rattle.line.specs.declared.Event.TheVariants.{Nothing, PassedOver, Broken, Frame, Damaged}
use Rattle.line.specs.declared.Heard.TheVariants.{Character}
use Rattle.line.specs.declared.Receiver.{Receiver}
use Rattle.turns.specs.declared.Sent.{Sent}
use Rattle.turns.specs.declared.Sent.TheVariants.{Silent}
use Rattle.player_listing.specs.Lines.{Line, line_of, quiet_monitor, PartyLines, frame_ends, ends_by, ends_with, one_more, listens, lines_of, is_lone, tick_lines, lines_from}
use Rattle.player_listing.specs.FrameLines.{party_lines, Frames, lines_by, sent_by, Ticks, no_more, one_more_tick, OutputListed}
use Rattle.player_listing.specs.declared.Monitor.{Monitor}
use Rattle.player_listing.proofs.FrameLines.{no_gap_listed}

abbrev none : List Line
none = []

no_lines : (b : Bool) → none ≡ (when b then none else none)
unfolding when◌then◌else◌
no_lines true = refl
no_lines false = refl

if_append : (b : Bool) (l : Line) (ls ks both : List Line) → both ≡ ls ++ ks → (when b then l ∷ both else both) ≡ (when b then l ∷ ls else ls) ++ ks
unfolding when◌then◌else◌
if_append true l ls ks both e = ap (λ (x : List Line). l ∷ x) e
if_append false l ls ks both e = e

lines_by_append : (k : ℕ) (ls ks : List Line) → lines_by k (ls ++ ks) ≡ lines_by k ls ++ lines_by k ks
unfolding lines_by
lines_by_append k [] ks = refl
lines_by_append k (l ∷ ls) ks = if_append (l.party =? k) l (lines_by k ls) (lines_by k ks) (lines_by k (ls ++ ks)) (lines_by_append k ls ks)

-- ---- one party

module _ (k tick party : ℕ) where
  frame_by : (h : Line) (alone : Bool) → h.party ≡ party → lines_by k (frame_ends h alone).lines ≡ (when party =? k then (frame_ends h alone).lines else [])
  unfolding lines_by frame_ends when◌then◌else◌
  frame_by h true e = ap (λ (n : ℕ). when n =? k then h ∷ [] else []) e
  frame_by h false e = no_lines (party =? k)

  event_by : (count : ℕ) (alone : Bool) (r : Receiver) (e : Event) → lines_by k (ends_by tick party count alone r e).lines ≡ (when party =? k then (ends_by tick party count alone r e).lines else [])
  unfolding lines_by
  event_by count alone r Nothing = no_lines (party =? k)
  event_by count alone r PassedOver = no_lines (party =? k)
  event_by count alone r Broken = no_lines (party =? k)
  event_by count alone r (Frame w) = frame_by (line_of tick party w.header count) alone refl
  event_by count alone r (Damaged w m) = no_lines (party =? k)

  listens_by : (lone : Bool) (e : Monitor) (s : Sent) → lines_by k (listens tick party lone e s).lines ≡ (when party =? k then (listens tick party lone e s).lines else [])
  unfolding listens ends_with lines_by
  listens_by lone e Silent = no_lines (party =? k)
  listens_by lone e (Sent.Character c) =
      event_by (one_more e.count) (when e.alone then lone else false) (taken e.receiver (Character c)).receiver (taken e.receiver (Character c)).event

own : (tick k : ℕ) (lone : Bool) (e : Monitor) (s : Sent) → lines_by k (listens tick k lone e s).lines ≡ (listens tick k lone e s).lines
own tick k lone e s = listens_by k tick k lone e s ∙ sym (if_equal k k _ (listens tick k lone e s).lines [] refl refl)

others : (tick k party : ℕ) (lone : Bool) (e : Monitor) (s : Sent) → (party ≡ k → ⊥) → lines_by k (listens tick party lone e s).lines ≡ []
others tick k party lone e s ne = listens_by k tick party lone e s ∙ sym (if_unequal party k _ (listens tick party lone e s).lines [] ne refl)

-- ---- a tick

nobody_before : (tick k party : ℕ) (lone : Bool) (es : List Monitor) (ss : List Sent) → k < party → lines_by k (lines_of tick party lone es ss).lines ≡ []
unfolding lines_of lines_by
nobody_before tick k party lone [] ss below = refl
nobody_before tick k party lone (e ∷ es) [] below = refl
nobody_before tick k party lone (e ∷ es) (s ∷ ss) below =
    lines_by_append k (listens tick party lone e s).lines (lines_of tick (party + 1) lone es ss).lines
    ∙ ap (λ (l : List Line). l ++ lines_by k (lines_of tick (party + 1) lone es ss).lines) (others tick k party lone e s (λ q. omega arith))
    ∙ nobody_before tick k (party + 1) lone es ss (omega arith)

-- the lines and the monitor of the party that stands k behind the first
record Of (tick party k : ℕ) (lone : Bool) (es : List Monitor) (ss : List Sent) : Type 0 where
  lines_are : lines_by (party + k) (lines_of tick party lone es ss).lines ≡ (listens tick (party + k) lone (get_or es k quiet_monitor) (get_or ss k Silent)).lines
  monitor_is : get_or (lines_of tick party lone es ss).monitors k quiet_monitor ≡ (listens tick (party + k) lone (get_or es k quiet_monitor) (get_or ss k Silent)).monitor

of_tick : (tick party k : ℕ) (lone : Bool) (es : List Monitor) (ss : List Sent) → length es ≡ length ss → k < length es → Of tick party k lone es ss
unfolding lines_of
of_tick tick party k lone [] ss same below = absurd (omega arith)
of_tick tick party k lone (e ∷ es) [] same below = absurd (omega (arith, same))
of_tick tick party zero lone (e ∷ es) (s ∷ ss) same below =
    let here : party ≡ party + 0 = omega arith in
    record {
      lines_are = subst (λ (n : ℕ). lines_by n (lines_of tick party lone (e ∷ es) (s ∷ ss)).lines ≡ (listens tick n lone e s).lines) here
          (lines_by_append party (listens tick party lone e s).lines (lines_of tick (party + 1) lone es ss).lines
          ∙ ap (λ (l : List Line). lines_by party (listens tick party lone e s).lines ++ l) (nobody_before tick party (party + 1) lone es ss (omega arith))
          ∙ append-nil (lines_by party (listens tick party lone e s).lines)
          ∙ own tick party lone e s);
      monitor_is = ap (λ (n : ℕ). (listens tick n lone e s).monitor) here;
    }
of_tick tick party (suc k) lone (e ∷ es) (s ∷ ss) same below =
    let there : party + 1 + k ≡ party + suc k = omega arith in
    let rest = of_tick tick (party + 1) k lone es ss (omega (arith, same)) (omega arith) in
    record {
      lines_are = lines_by_append (party + suc k) (listens tick party lone e s).lines (lines_of tick (party + 1) lone es ss).lines
          ∙ ap (λ (l : List Line). l ++ lines_by (party + suc k) (lines_of tick (party + 1) lone es ss).lines) (others tick (party + suc k) party lone e s (λ q. omega (arith, q)))
          ∙ subst (λ (n : ℕ). lines_by n (lines_of tick (party + 1) lone es ss).lines ≡ (listens tick n lone (get_or es k quiet_monitor) (get_or ss k Silent)).lines) there rest.lines_are;
      monitor_is = rest.monitor_is ∙ ap (λ (n : ℕ). (listens tick n lone (get_or es k quiet_monitor) (get_or ss k Silent)).monitor) there;
    }

as_many : (tick party : ℕ) (lone : Bool) (es : List Monitor) (ss : List Sent) → length es ≡ length ss → length (lines_of tick party lone es ss).monitors ≡ length es
unfolding lines_of
as_many tick party lone [] ss same = refl
as_many tick party lone (e ∷ es) [] same = absurd (omega (arith, same))
as_many tick party lone (e ∷ es) (s ∷ ss) same = ap (λ (n : ℕ). suc n) (as_many tick (party + 1) lone es ss (omega (arith, same)))

-- ---- the output

of_output : (lone : ℕ → Bool) (n party tick : ℕ) (es : List Monitor) (ticks : List (List Sent)) → Ticks lone n tick ticks → length es ≡ n → party < n
    → lines_by party (lines_from tick es ticks) ≡ party_lines lone party tick (get_or es party quiet_monitor) (sent_by party ticks)
unfolding lines_from tick_lines lines_by party_lines sent_by
of_output lone n party tick es _ no_more long below = refl
of_output lone n party tick es _ (one_more_tick {ss = ss} {ticks = ticks} sized says t) long below =
    let now = lines_of tick 0 (is_lone ss) es ss in
    let at = of_tick tick 0 party (is_lone ss) es ss (long ∙ sym sized) (omega (arith, long)) in
    let zero_on : 0 + party ≡ party = omega arith in
    let x : Bool → PartyLines = λ (b : Bool). listens tick party b (get_or es party quiet_monitor) (get_or ss party Silent) in
    let lines : lines_by party now.lines ≡ (x (is_lone ss)).lines =
    subst (λ (m : ℕ). lines_by m now.lines ≡ (listens tick m (is_lone ss) (get_or es party quiet_monitor) (get_or ss party Silent)).lines) zero_on at.lines_are in
    let monitor : get_or now.monitors party quiet_monitor ≡ (x (is_lone ss)).monitor =
    subst (λ (m : ℕ). get_or now.monitors party quiet_monitor ≡ (listens tick m (is_lone ss) (get_or es party quiet_monitor) (get_or ss party Silent)).monitor) zero_on at.monitor_is in
    lines_by_append party now.lines (lines_from (tick + 1) now.monitors ticks)
    ∙ ap (λ (l : List Line). lines_by party now.lines ++ l) (of_output lone n party (tick + 1) now.monitors ticks t (as_many tick 0 (is_lone ss) es ss (long ∙ sym sized) ∙ long) below)
    ∙ (λ i. lines i ++ party_lines lone party (tick + 1) (monitor i) (sent_by party ticks))
    ∙ (λ i. (x (sym says i)).lines ++ party_lines lone party (tick + 1) (x (sym says i)).monitor (sent_by party ticks))

pub output_listed : OutputListed
output_listed lone n party tick ticks t below g =
    let quiet : get_or (replicate n quiet_monitor) party quiet_monitor ≡ quiet_monitor = get_or-replicate n party quiet_monitor quiet_monitor below in
    subst (λ (l : List Line). Frames lone party tick (sent_by party ticks) l)
    (ap (λ (e : Monitor). party_lines lone party tick e (sent_by party ticks)) (sym quiet) ∙ sym (of_output lone n party tick (replicate n quiet_monitor) ticks t (length-replicate {A = Monitor} n quiet_monitor) below))
    (no_gap_listed lone party tick (sent_by party ticks) g)
