-- The ticks of a run whose masters start at ticks of their own, one by one: until one party begins alone, heard by both masters, or both masters begin together; and item 14's claims of every run that goes so.
use Prim.Native.Nat.{ℕ, zero, suc, ◌+◌, ◌-◌, ◌≤◌, ◌<◌}
use native.Mathlib.Omega.{arith}
use mathlib.Core.Path.{◌≡◌, refl, sym, ap, subst}
use mathlib.Core.Bool.{Bool, true, false}
use mathlib.Core.List.{List, [], ◌∷◌}
use lib.ListN.{length, drop}
use Rattle.frame.specs.Limits.{longest_frame}
use Rattle.line.specs.declared.Heard.TheVariants.{Silence}
use Rattle.line.specs.declared.Profile.{Profile}
use Rattle.turns.specs.Link.{DeviceSide, LinkStep, link_after, sides}
use Rattle.turns.specs.Run.{All, count, device_senders, senders, EachTick, no_tick, tick_and, NoTwoSend}
use Rattle.turns.specs.Demand3.{master_in, AcceptedIn, BeginsWithin, longest_wait}
use Rattle.turns.specs.Demand3 as D
use Rattle.runs.specs.Late.{in_tick, master_sent_in, senders_in, BothSend, Shared}
use Rattle.turns.specs.declared.Sent.{Sent}
use Rattle.turns.proofs.Phases.{Ready}
use Rattle.turns.proofs.Senders.{silent_none}
use Rattle.runs.proofs.SoundPairs.{AllOutside}
use Rattle.runs.proofs.Readers.{reading, told_in}

-- ---- what is said of a tick

-- both masters send, and no device does
pub record BothIn (s : LinkStep) : Type 0 where
  pub primary_sends : count s.for_primary.sent ≡ 1
  pub secondary_sends : count s.for_secondary.sent ≡ 1
  pub no_device : device_senders s.for_devices ≡ 0

-- a frame ends that one master sent or hears whole and the other hears whole, by the masters' own readers
abbrev pub SharedBy : LinkStep → Type 0
SharedBy s = Shared (count s.for_primary.sent) (count s.for_secondary.sent) (reading s.for_primary.side (link_after s).line).event (reading s.for_secondary.side (link_after s).line).event

abbrev pub SharedIn : List LinkStep → ℕ → Type 0
SharedIn steps t = Shared (master_sent_in true steps t) (master_sent_in false steps t) (told_in true steps t) (told_in false steps t)

-- behind it, no reader stands inside a frame where the line is silent
abbrev pub ReadyAfter : LinkStep → Type 0
ReadyAfter s = AllOutside (link_after s).line s.for_primary.side s.for_secondary.side (sides s.for_devices)

pub sent_ready : (s : LinkStep) → 1 ≤ senders s → ReadyAfter s
sent_ready s z = record { primary = λ e. absurd (none e); secondary = λ e. absurd (none e); devices = each (sides s.for_devices) }
  where
    none : (link_after s).line ≡ Silence → ⊥
    none e = omega (arith, z, silent_none s e)

    each : (xs : List DeviceSide) → All (λ (x : DeviceSide). (link_after s).line ≡ Silence → Ready x.device.receiver) xs
    each [] = All.none
    each (x ∷ xs) = All.and (λ e. absurd (none e)) (each xs)

-- ---- ends of frames

-- where one party sends in a tick and nobody in the next one, such a frame ends
pub data Ends : List LinkStep → Type 0 where
  no_end : Ends []
  end_and : {s : LinkStep} {ss : List LinkStep} → (senders s ≡ 1 → 1 ≤ length ss → senders_in ss 0 ≡ 0 → SharedBy s) → Ends ss → Ends (s ∷ ss)

-- it is so from the tick on in which one party begins behind a silent one
abbrev pub Begun : List LinkStep → Type 0
Begun ss = senders_in ss 0 ≡ 1 → Ends ss

pub data Framed : List LinkStep → Type 0 where
  no_frame : Framed []
  frame_and : {s : LinkStep} {ss : List LinkStep} → (senders s ≡ 0 → Begun ss) → Framed ss → Framed (s ∷ ss)

-- what is asked of ticks t and t + 1
pub record Ending (ss : List LinkStep) (t : ℕ) : Type 0 where
  pub one_sends : senders_in ss t ≡ 1
  pub silent_behind : senders_in ss (suc t) ≡ 0
  pub in_the_run : suc t < length ss

nearer_ending : {s : LinkStep} {ss : List LinkStep} {t : ℕ} → Ending (s ∷ ss) (suc t) → Ending ss t
unfolding in_tick
nearer_ending e = record { one_sends = e.one_sends; silent_behind = e.silent_behind; in_the_run = omega (arith, e.in_the_run) }

ends_at : {ss : List LinkStep} → Ends ss → (t : ℕ) → Ending ss t → SharedIn ss t
unfolding in_tick told_in
ends_at no_end t e = absurd (omega (arith, e.in_the_run))
ends_at (end_and f q) zero e = f e.one_sends (omega (arith, e.in_the_run)) e.silent_behind
ends_at (end_and f q) (suc t) e = ends_at q t (nearer_ending e)

framed_at : {ss : List LinkStep} → Framed ss → (u t : ℕ) → senders_in ss u ≡ 0 → senders_in ss (suc u) ≡ 1 → u < t → Ending ss t → SharedIn ss t
unfolding in_tick told_in
framed_at no_frame u t z o less e = absurd (omega (arith, e.in_the_run))
framed_at (frame_and f q) u zero z o less e = absurd (omega (arith, less))
framed_at (frame_and f q) zero (suc t) z o less e = ends_at (f z o) t (nearer_ending e)
framed_at (frame_and f q) (suc u) (suc t) z o less e = framed_at q u t z o (omega (arith, less)) (nearer_ending e)

-- a tick in which somebody sends
pub sent_framed : {s : LinkStep} {ss : List LinkStep} → 1 ≤ senders s → Framed ss → Framed (s ∷ ss)
sent_framed {s} {ss} b f = frame_and {s = s} {ss = ss} (λ z. absurd (omega (arith, z, b))) f

-- ---- waits

-- every message accepted in these ticks is in time
abbrev pub AllWait : ℕ → Profile → ℕ → List LinkStep → Type 0
AllWait limit p retries ss =
    (bit : Bool) (t : ℕ) (s : LinkStep) (after : List LinkStep) → drop t ss ≡ s ∷ after → AcceptedIn bit s → longest_wait limit p retries < length (s ∷ after) → BeginsWithin bit (longest_wait limit p retries) (s ∷ after)

head_is : {x y : LinkStep} {xs ys : List LinkStep} → x ∷ xs ≡ y ∷ ys → x ≡ y
head_is e = cc

none_more : {y : LinkStep} {ys : List LinkStep} → [] ≡ y ∷ ys → ⊥
none_more e = let z : ◌≡◌ {A = ℕ} 0 1 = cc in omega arith

none_behind : (t : ℕ) {y : LinkStep} {ys : List LinkStep} → drop t [] ≡ y ∷ ys → ⊥
none_behind zero e = none_more e
none_behind (suc t) e = none_more e

module _ (limit : ℕ) (p : Profile) (retries : ℕ) where
  abbrev pub InTime : Bool → LinkStep → List LinkStep → Type 0
  InTime bit s after = AcceptedIn bit s → longest_wait limit p retries < length (s ∷ after) → BeginsWithin bit (longest_wait limit p retries) (s ∷ after)

  pub all_none : AllWait limit p retries []
  all_none bit t s after q acc long = absurd (none_behind t q)

  -- a tick in front
  pub all_cons : {x : LinkStep} {xs : List LinkStep} → ((bit : Bool) → InTime bit x xs) → AllWait limit p retries xs → AllWait limit p retries (x ∷ xs)
  all_cons f g bit zero s after q acc long =
      subst (BeginsWithin bit (longest_wait limit p retries)) q (f bit (subst (AcceptedIn bit) (sym (head_is q)) acc) (subst (λ (ss : List LinkStep). longest_wait limit p retries < length ss) (sym q) long))
  all_cons f g bit (suc t) s after q acc long = g bit t s after q acc long

  -- where it sends, its message begins
  pub sends_begins : (bit : Bool) {s : LinkStep} {ss : List LinkStep} → count (master_in bit s).sent ≡ 1 → BeginsWithin bit (longest_wait limit p retries) (s ∷ ss)
  sends_begins bit {s} {ss} e = go (master_in bit s).sent refl e
    where
      go : (x : Sent) → (master_in bit s).sent ≡ x → count x ≡ 1 → BeginsWithin bit (longest_wait limit p retries) (s ∷ ss)
      go Sent.Silent q z = absurd (omega (arith, z))
      go (Sent.Character c) q z = D.begins _ c q

  both_in_time : {s : LinkStep} {ss : List LinkStep} → BothIn s → (bit : Bool) → InTime bit s ss
  both_in_time b true acc long = sends_begins true b.primary_sends
  both_in_time b false acc long = sends_begins false b.secondary_sends

-- ---- the ticks

-- in step, or behind the overlap
pub record Behind (limit : ℕ) (p : Profile) (retries : ℕ) (ss : List LinkStep) : Type 0 where
  pub alone : EachTick NoTwoSend ss
  pub waits : AllWait limit p retries ss
  pub framed : Framed ss
  pub ready : EachTick ReadyAfter ss

-- behind k + 1 ticks of the overlap
pub data Overlapping (limit : ℕ) (p : Profile) (retries : ℕ) : ℕ → List LinkStep → Type 0 where
  has_ended : {k : ℕ} {ss : List LinkStep} → Behind limit p retries ss → Overlapping limit p retries k ss
  goes_on : {k : ℕ} {s : LinkStep} {ss : List LinkStep} → BothIn s → suc k < longest_frame limit → Overlapping limit p retries (suc k) ss → Overlapping limit p retries k (s ∷ ss)

-- the primary starts in a ticks, the secondary in b; n parties sent in the tick before
pub data LateTicks (limit : ℕ) (p : Profile) (retries : ℕ) : ℕ → ℕ → ℕ → List LinkStep → Type 0 where
  ended : {a b n : ℕ} → LateTicks limit p retries a b n []
  not_yet : {a b n : ℕ} {s : LinkStep} {ss : List LinkStep} → NoTwoSend s → ReadyAfter s → (SharedBy s → ⊥) → (a ≡ 0 → b ≡ 0 → senders s ≡ 0 → Begun ss) → LateTicks limit p retries (a - 1) (b - 1) (senders s) ss
      → LateTicks limit p retries a b n (s ∷ ss)
  in_step : {a b n : ℕ} {ss : List LinkStep} → Behind limit p retries ss → LateTicks limit p retries a b n ss
  overlaps : {a b n : ℕ} {s : LinkStep} {ss : List LinkStep} → n ≡ 0 → BothIn s → Overlapping limit p retries 0 ss → LateTicks limit p retries a b n (s ∷ ss)

-- ---- the overlap

-- the tick before tick 0 of these ticks sent x
abbrev before : ℕ → (ℕ → ℕ) → ℕ → ℕ
before x f zero = x
before x f (suc t) = f t

-- x and y: what the primary and the secondary sent in the tick before
pub record BeginFrom (x y : ℕ) (ss : List LinkStep) (t : ℕ) : Type 0 where
  pub primary_sends : master_sent_in true ss t ≡ 1
  pub secondary_sends : master_sent_in false ss t ≡ 1
  pub primary_did_not : before x (λ (i : ℕ). master_sent_in true ss i) t ≡ 0
  pub secondary_did_not : before y (λ (i : ℕ). master_sent_in false ss i) t ≡ 0

pub record OverlapFrom (limit x y : ℕ) (ss : List LinkStep) (t : ℕ) : Type 0 where
  pub first : ℕ
  pub begins : BeginFrom x y ss first
  pub from_first : first ≤ t
  pub since : (u : ℕ) → first ≤ u → u ≤ t → BothSend ss u
  pub in_a_frame : t < first + longest_frame limit

-- a tick further on
further : {x y : ℕ} {s : LinkStep} {ss : List LinkStep} (t : ℕ) → BeginFrom (count s.for_primary.sent) (count s.for_secondary.sent) ss t → BeginFrom x y (s ∷ ss) (suc t)
unfolding in_tick
further zero b = record { primary_sends = b.primary_sends; secondary_sends = b.secondary_sends; primary_did_not = b.primary_did_not; secondary_did_not = b.secondary_did_not }
further (suc t) b = record { primary_sends = b.primary_sends; secondary_sends = b.secondary_sends; primary_did_not = b.primary_did_not; secondary_did_not = b.secondary_did_not }

nearer : {x y : ℕ} {s : LinkStep} {ss : List LinkStep} (t : ℕ) → BeginFrom x y (s ∷ ss) (suc t) → BeginFrom (count s.for_primary.sent) (count s.for_secondary.sent) ss t
unfolding in_tick
nearer zero b = record { primary_sends = b.primary_sends; secondary_sends = b.secondary_sends; primary_did_not = b.primary_did_not; secondary_did_not = b.secondary_did_not }
nearer (suc t) b = record { primary_sends = b.primary_sends; secondary_sends = b.secondary_sends; primary_did_not = b.primary_did_not; secondary_did_not = b.secondary_did_not }

-- where both send, two do
two_of : (ss : List LinkStep) (t : ℕ) → master_sent_in true ss t ≡ 1 → master_sent_in false ss t ≡ 1 → 2 ≤ senders_in ss t
unfolding in_tick
two_of [] t a b = absurd (omega (arith, a))
two_of (s ∷ ss) zero a b = omega (arith, a, b)
two_of (s ∷ ss) (suc t) a b = two_of ss t a b

alone_at : {ss : List LinkStep} → EachTick NoTwoSend ss → (t : ℕ) → 2 ≤ senders_in ss t → ⊥
unfolding in_tick
alone_at no_tick t z = omega (arith, z)
alone_at (tick_and f fs) zero z = omega (arith, f, z)
alone_at (tick_and f fs) (suc t) z = alone_at fs t z

head_both : {s : LinkStep} {ss : List LinkStep} → BothIn s → BothSend (s ∷ ss) 0
unfolding in_tick
head_both b = record { primary_sends = b.primary_sends; secondary_sends = b.secondary_sends; no_device = b.no_device }

later_both : {s : LinkStep} {ss : List LinkStep} (u : ℕ) → BothSend ss u → BothSend (s ∷ ss) (suc u)
unfolding in_tick
later_both u b = record { primary_sends = b.primary_sends; secondary_sends = b.secondary_sends; no_device = b.no_device }

-- the first one, where nobody sent in the tick before
begins_here : {n x y : ℕ} {s : LinkStep} {ss : List LinkStep} → n ≡ 0 → x + y ≤ n → BothIn s → BeginFrom x y (s ∷ ss) 0
unfolding in_tick
begins_here n few b = record { primary_sends = b.primary_sends; secondary_sends = b.secondary_sends; primary_did_not = omega (arith, n, few); secondary_did_not = omega (arith, n, few) }

-- every tick from the first one to t
all_both : {s : LinkStep} {ss : List LinkStep} {t : ℕ} → BothIn s → ((u : ℕ) → u ≤ t → BothSend ss u) → (u : ℕ) → u ≤ suc t → BothSend (s ∷ ss) u
all_both b f zero z = head_both b
all_both b f (suc u) z = later_both u (f u (omega (arith, z)))

only_first : {s : LinkStep} {ss : List LinkStep} → BothIn s → (u : ℕ) → u ≤ 0 → BothSend (s ∷ ss) u
only_first b zero z = head_both b
only_first b (suc u) z = absurd (omega (arith, z))

-- they begin together in this tick alone
pub record Only (x y : ℕ) (ss : List LinkStep) : Type 0 where
  pub at : ℕ
  pub is : (t : ℕ) → BeginFrom x y ss t → t ≡ at

-- behind a tick in which both send, or from the end of a shared frame on
pub data ClaimedIn (ss : List LinkStep) (t : ℕ) : Type 0 where
  both_sent : (u : ℕ) → u < t → master_sent_in true ss u ≡ 1 → master_sent_in false ss u ≡ 1 → ClaimedIn ss t
  frame_ended : (u : ℕ) → u ≤ t → SharedIn ss u → ClaimedIn ss t

module _ {limit : ℕ} {p : Profile} {retries : ℕ} where
  -- a tick in which two send behind k + 1 ticks of it
  overlapping_at : {k : ℕ} {ss : List LinkStep} → Overlapping limit p retries k ss → (t : ℕ) → 2 ≤ senders_in ss t → ((u : ℕ) → u ≤ t → BothSend ss u) × (suc (t + k) < longest_frame limit)
  unfolding in_tick
  overlapping_at (has_ended b) t z = absurd (alone_at b.alone t z)
  overlapping_at (goes_on b less o) zero z = (only_first b, omega (arith, less))
  overlapping_at (goes_on b less o) (suc t) z = let q = overlapping_at o t z in (all_both b q.0, omega (arith, q.1))

  pub two_send : {a b n : ℕ} {ss : List LinkStep} → LateTicks limit p retries a b n ss → (x y : ℕ) → x + y ≤ n → (t : ℕ) → 2 ≤ senders_in ss t → OverlapFrom limit x y ss t
  unfolding in_tick
  two_send ended x y few t z = absurd (omega (arith, z))
  two_send (not_yet one r not begun c) x y few zero z = absurd (omega (arith, one, z))
  two_send (not_yet {s = s} {ss} one r not begun c) x y few (suc t) z = let o = two_send c (count s.for_primary.sent) (count s.for_secondary.sent) (omega arith) t z in
      record { first = suc o.first; begins = further o.first o.begins; from_first = omega (arith, o.from_first); since = later o.first o.since; in_a_frame = omega (arith, o.in_a_frame) }
    where
      later : (i : ℕ) → ((u : ℕ) → i ≤ u → u ≤ t → BothSend ss u) → (u : ℕ) → suc i ≤ u → u ≤ suc t → BothSend (s ∷ ss) u
      later i f zero a b = absurd (omega (arith, a))
      later i f (suc u) a b = later_both u (f u (omega (arith, a)) (omega (arith, b)))
  two_send (in_step b) x y few t z = absurd (alone_at b.alone t z)
  two_send (overlaps n b o) x y few zero z = record { first = 0; begins = begins_here n few b; from_first = omega arith; since = λ u c d. only_first b u d; in_a_frame = omega arith }
  two_send (overlaps n b o) x y few (suc t) z =
      let q = overlapping_at o t z in
      record { first = 0; begins = begins_here n few b; from_first = omega arith; since = λ u c d. all_both b q.0 u d; in_a_frame = omega (arith, q.1) }

  -- no other begins in it
  overlapping_begins : {k : ℕ} {ss : List LinkStep} → Overlapping limit p retries k ss → (x y : ℕ) → x ≡ 1 → (t : ℕ) → BeginFrom x y ss t → ⊥
  overlapping_begins {ss = ss} (has_ended b) x y e t z = alone_at b.alone t (two_of ss t z.primary_sends z.secondary_sends)
  overlapping_begins (goes_on b less o) x y e zero z = omega (arith, e, z.primary_did_not)
  overlapping_begins (goes_on b less o) x y e (suc t) z = overlapping_begins o _ _ b.primary_sends t (nearer t z)

  pub at_most_one : {a b n : ℕ} {ss : List LinkStep} → LateTicks limit p retries a b n ss → (x y : ℕ) → Only x y ss
  unfolding in_tick
  at_most_one ended x y = record { at = 0; is = λ t z. absurd (none t z) }
    where
      none : (t : ℕ) → BeginFrom x y [] t → ⊥
      none t z = omega (arith, z.primary_sends)
  at_most_one (not_yet {s = s} {ss} one r not begun c) x y = let o = at_most_one c (count s.for_primary.sent) (count s.for_secondary.sent) in record { at = suc o.at; is = by o }
    where
      by : (o : Only (count s.for_primary.sent) (count s.for_secondary.sent) ss) (t : ℕ) → BeginFrom x y (s ∷ ss) t → t ≡ suc o.at
      by o zero z = absurd (omega (arith, one, z.primary_sends, z.secondary_sends))
      by o (suc t) z = ap suc (o.is t (nearer t z))
  at_most_one (in_step {ss = ss} b) x y = record { at = 0; is = λ t z. absurd (alone_at b.alone t (two_of ss t z.primary_sends z.secondary_sends)) }
  at_most_one (overlaps {s = s} {ss} n b o) x y = record { at = 0; is = by }
    where
      by : (t : ℕ) → BeginFrom x y (s ∷ ss) t → t ≡ 0
      by zero z = refl
      by (suc t) z = absurd (overlapping_begins o _ _ b.primary_sends t (nearer t z))

  -- ---- the wait

  overlapping_waits : {k : ℕ} {ss : List LinkStep} → Overlapping limit p retries k ss → AllWait limit p retries ss
  overlapping_waits (has_ended b) = b.waits
  overlapping_waits (goes_on b less o) = all_cons limit p retries (both_in_time limit p retries b) (overlapping_waits o)

  pub in_time : {a b n : ℕ} {ss : List LinkStep} → LateTicks limit p retries a b n ss → (bit : Bool) (t : ℕ) (s : LinkStep) (after : List LinkStep) → drop t ss ≡ s ∷ after → ClaimedIn ss t → InTime limit p retries bit s after
  unfolding in_tick told_in
  in_time ended bit t s after q z = absurd (none_behind t q)
  in_time (not_yet {s = h} {ss} one r not begun c) bit t s after q z = by t q z (λ i. in_time c bit i s after)
    where
      -- the tick in front is none of those
      nearer_claim : (t : ℕ) → ClaimedIn (h ∷ ss) (suc t) → ClaimedIn ss t
      nearer_claim t (both_sent zero less e f) = absurd (omega (arith, one, e, f))
      nearer_claim t (both_sent (suc u) less e f) = both_sent u (omega (arith, less)) e f
      nearer_claim t (frame_ended zero less e) = absurd (not e)
      nearer_claim t (frame_ended (suc u) less e) = frame_ended u (omega (arith, less)) e

      not_first : ClaimedIn (h ∷ ss) 0 → ⊥
      not_first (both_sent u less e f) = omega (arith, less)
      not_first (frame_ended zero less e) = not e
      not_first (frame_ended (suc u) less e) = omega (arith, less)

      by : (t : ℕ) → drop t (h ∷ ss) ≡ s ∷ after → ClaimedIn (h ∷ ss) t → ((i : ℕ) → drop i ss ≡ s ∷ after → ClaimedIn ss i → InTime limit p retries bit s after) → InTime limit p retries bit s after
      by zero q z rec = absurd (not_first z)
      by (suc t) q z rec = rec t q (nearer_claim t z)
  in_time (in_step b) bit t s after q z = b.waits bit t s after q
  in_time (overlaps n b o) bit t s after q z = all_cons limit p retries (both_in_time limit p retries b) (overlapping_waits o) bit t s after q

  -- ---- the frame on the line

  overlapping_framed : {k : ℕ} {ss : List LinkStep} → Overlapping limit p retries k ss → Framed ss
  overlapping_framed (has_ended b) = b.framed
  overlapping_framed (goes_on b less o) = sent_framed (omega (arith, b.primary_sends)) (overlapping_framed o)

  pub framed_in : {a b n : ℕ} {ss : List LinkStep} → LateTicks limit p retries a b n ss → (u t : ℕ) → a ≤ u → b ≤ u → senders_in ss u ≡ 0 → senders_in ss (suc u) ≡ 1 → u < t → Ending ss t → SharedIn ss t
  unfolding in_tick told_in
  framed_in ended u t c d z o less e = absurd (omega (arith, e.in_the_run))
  framed_in (not_yet one r not begun c) u zero d f z o less e = absurd (omega (arith, less))
  framed_in (not_yet one r not begun c) zero (suc t) d f z o less e = ends_at (begun (omega (arith, d)) (omega (arith, f)) z o) t (nearer_ending e)
  framed_in (not_yet one r not begun c) (suc u) (suc t) d f z o less e = framed_in c u t (omega (arith, d)) (omega (arith, f)) z o (omega (arith, less)) (nearer_ending e)
  framed_in (in_step b) u t c d z o less e = framed_at b.framed u t z o less e
  framed_in (overlaps n b q) u t c d z o less e = framed_at (sent_framed (omega (arith, b.primary_sends)) (overlapping_framed q)) u t z o less e

  -- ---- readers

  overlapping_ready : {k : ℕ} {ss : List LinkStep} → Overlapping limit p retries k ss → EachTick ReadyAfter ss
  overlapping_ready (has_ended b) = b.ready
  overlapping_ready (goes_on {s = s} b less o) = tick_and (sent_ready s (omega (arith, b.primary_sends))) (overlapping_ready o)

  pub ready_in : {a b n : ℕ} {ss : List LinkStep} → LateTicks limit p retries a b n ss → EachTick ReadyAfter ss
  ready_in ended = no_tick
  ready_in (not_yet one r not begun c) = tick_and r (ready_in c)
  ready_in (in_step b) = b.ready
  ready_in (overlaps {s = s} n b o) = tick_and (sent_ready s (omega (arith, b.primary_sends))) (overlapping_ready o)
