-- Theorem: where a frame ends.
use Prim.Native.Nat.{ℕ, zero, suc, ◌+◌, ◌-◌}
use native.Mathlib.Omega.{arith}
use mathlib.Core.Path.{◌≡◌, refl, sym, ap, ap₂, subst, ◌∙◌}
use mathlib.Core.Bool.{Bool, false}
use mathlib.Core.List.{List, [], ◌∷◌, ◌++◌, append-nil, append_assoc}
use lib.Bits.{bit_xor}
use lib.ListN.{length, length-append}
use Rattle.line.specs.Gaps.{IsCharacter, is_sound, is_with_damage, GapsBefore, no_more, at_once, behind_silence, Gapped, from_first}
use Rattle.line.specs.Reader.{idle, passing, blank, tells, gapped, counted, taken}
use Rattle.line.specs.declared.Event.TheVariants.{Nothing}
use Rattle.line.specs.declared.Heard.{Heard}
use Rattle.line.specs.declared.Heard.TheVariants.{Silence, Character}
use Rattle.line.specs.declared.Place.TheVariants.{Preamble}
use Rattle.line.specs.declared.Receiver.{Receiver}
use Rattle.line.specs.declared.Taken.{Taken}
use Rattle.line.proofs.Gaps.{Within, silent_ticks}
use Rattle.line.proofs.Ticks.{outside_idle, two_silent_idle, gap_passed, gapped_takes}
use Rattle.recording_list.specs.Listing.{entry, adds, found, list_of}
use Rattle.recording_list.specs.Reading.{verdict_of, InHead, InTail}
use Rattle.recording_list.specs.Claims.{behind, MayStart, frame_ended, first_silent, two_silent, outside_silent, preamble, frame_of, Complete, silences, summed_by, sum_from, hurt_by, hurt_from, frame_verdict, JumpEnd}
use Rattle.recording_list.proofs.Readers.{found_tick, found_none, HeadStep, head_any, TailStep, tail_any}
use Rattle.recording_list.proofs.Frames.{begun_by, begun_head, count_on, counted_place, in_tail, head_within, tail_within, check_any, first_on, more_on, delimiter_on}
use Rattle.recording_list.proofs.Pieces.{found_ticks, behind_ticks}
use Rattle.recording_list.proofs.Short.{ended_idle}

-- ---- one character more, at once or behind a silent tick

record Along (t : ℕ) (r q : Receiver) (cs hs rest : List Heard) : Type 0 where
  left : List Heard
  tick : ℕ
  gaps : GapsBefore cs left
  same : found t r (hs ++ rest) ≡ found tick q (left ++ rest)
  ticks : tick + length left ≡ t + length hs

-- a silent tick inside a frame is passed over
reach : (t : ℕ) (r : Receiver) {h : Heard} (hs : List Heard) → Within r → IsCharacter h → found t r (Silence ∷ h ∷ hs) ≡ found (t + 1) r (h ∷ hs)
reach t r {h} hs w c =
    found_tick t r Silence (h ∷ hs) (tells (gapped r) Nothing) (gap_passed r w.inside w.no_gap)
    ∙ found_tick (t + 1) (gapped r) h hs (taken r h) (gapped_takes r c)
    ∙ sym (found_tick (t + 1) r h hs (taken r h) refl)

one_along : (t : ℕ) (r q : Receiver) (h : Heard) (cs hs rest : List Heard) → Within r → taken r h ≡ tells q Nothing → GapsBefore (h ∷ cs) hs → Along t r q cs hs rest
one_along t r q h cs hs rest w e (at_once {hs = on} c g) = record {
  left = on;
  tick = t + 1;
  gaps = g;
  same = found_tick t r h (on ++ rest) (tells q Nothing) e;
  ticks = omega arith;
}
one_along t r q h cs hs rest w e (behind_silence {hs = on} c g) = record {
  left = on;
  tick = t + 1 + 1;
  gaps = g;
  same = reach t r (on ++ rest) w c ∙ found_tick (t + 1) r h (on ++ rest) (tells q Nothing) e;
  ticks = omega arith;
}

then_along : (t : ℕ) (r q z : Receiver) (cs ds hs rest : List Heard) (a : Along t r q cs hs rest) → Along a.tick q z ds a.left rest → Along t r z ds hs rest
then_along t r q z cs ds hs rest a b = record { left = b.left; tick = b.tick; gaps = b.gaps; same = a.same ∙ b.same; ticks = b.ticks ∙ a.ticks }

first_character : {h : Heard} {cs hs : List Heard} → GapsBefore (h ∷ cs) hs → IsCharacter h
first_character (at_once c g) = c
first_character (behind_silence c g) = c

-- ---- a frame's parts

two_within : Within (blank (Preamble 2))
two_within = record { inside = refl; no_gap = refl }

preamble_along : (p : ℕ) (ds hs rest : List Heard) (t : ℕ) → GapsBefore (preamble p ++ ds) hs → Along t (blank (Preamble 2)) (blank (Preamble 2)) ds hs rest
unfolding preamble
preamble_along zero ds hs rest t g = record { left = hs; tick = t; gaps = g; same = refl; ticks = refl }
preamble_along (suc p) ds hs rest t g =
    let a : Along t (blank (Preamble 2)) (blank (Preamble 2)) (preamble p ++ ds) hs rest = one_along t (blank (Preamble 2)) (blank (Preamble 2)) (Character 0xFF) (preamble p ++ ds) hs rest two_within (more_on 2) g in
    then_along t _ _ _ (preamble p ++ ds) ds hs rest a (preamble_along p ds a.left rest a.tick a.gaps)

record HeadAlong (t : ℕ) (r : Receiver) (frame n s : ℕ) (b : Bool) (ds hs rest : List Heard) : Type 0 where
  reader : Receiver
  still : InHead frame n s b reader
  along : Along t r reader ds hs rest

head_along : (cs ds hs rest : List Heard) (t frame m n s : ℕ) (b : Bool) (r : Receiver) → InHead frame m s b r → m ≡ length cs + n → GapsBefore (cs ++ ds) hs
    → HeadAlong t r frame n (sum_from s cs) (hurt_from b cs) ds hs rest
unfolding sum_from hurt_from
head_along [] ds hs rest t frame m n s b r i e g = record {
  reader = r;
  still = subst (λ (k : ℕ). InHead frame k s b r) (none m n e) i;
  along = record { left = hs; tick = t; gaps = g; same = refl; ticks = refl };
}
  where
    none : (m n : ℕ) → m ≡ 0 + n → m ≡ n
    none m n e = omega arith
head_along (h ∷ cs) ds hs rest t frame m n s b r i e g =
    let step : HeadStep frame (length cs + n) (summed_by s h) (hurt_by b h) (taken r h) =
    head_any frame (length cs + n) s b r (first_character g) (subst (λ (k : ℕ). InHead frame k s b r) (one m (length cs) n e) i) in
    let a : Along t r step.reader (cs ++ ds) hs rest = one_along t r step.reader h (cs ++ ds) hs rest (head_within frame m s b r i) step.is g in
    let on : HeadAlong a.tick step.reader frame n (sum_from (summed_by s h) cs) (hurt_from (hurt_by b h) cs) ds a.left rest =
    head_along cs ds a.left rest a.tick frame (length cs + n) n (summed_by s h) (hurt_by b h) step.reader step.still refl a.gaps in
    record { reader = on.reader; still = on.still; along = then_along t _ _ _ (cs ++ ds) ds hs rest a on.along }
  where
    one : (m k n : ℕ) → m ≡ suc k + n → m ≡ suc (k + n)
    one m k n e = omega arith

-- the last character, in tick u, and the tick w behind it
ending : (t s u w : ℕ) (b : Bool) (r : Receiver) (h : Heard) (rest : List Heard) → IsCharacter h → InTail 0 s b r → t ≡ u → t + 1 ≡ w
    → found t r (h ∷ rest) ≡ entry u (verdict_of (summed_by s h) (hurt_by b h)) ++ found w idle rest
ending t s u w b r h rest c i e f =
    let told : (adds t (taken r h).event ≡ entry t (verdict_of (summed_by s h) (hurt_by b h))) × ((taken r h).receiver ≡ idle) = check_any t s b r c i in
    found_tick t r h rest (taken r h) refl
    ∙ ap₂ (λ (l : List ℕ) (x : Receiver). l ++ found (t + 1) x rest) told.0 told.1
    ∙ ap₂ (λ (k n : ℕ). entry k (verdict_of (summed_by s h) (hurt_by b h)) ++ found n idle rest) e f

last_along : (t s : ℕ) (b : Bool) (r : Receiver) (h : Heard) (hs rest : List Heard) → InTail 0 s b r → GapsBefore (h ∷ []) hs
    → found t r (hs ++ rest) ≡ entry (t + length hs - 1) (verdict_of (summed_by s h) (hurt_by b h)) ++ found (t + length hs) idle rest
last_along t s b r h hs rest i (at_once c no_more) = ending t s (t + 1 - 1) (t + 1) b r h rest c i (omega arith) (omega arith)
last_along t s b r h hs rest i (behind_silence c no_more) =
    reach t r rest (tail_within 0 s b r i) c ∙ ending (t + 1) s (t + 2 - 1) (t + 2) b r h rest c i (omega arith) (omega arith)

tail_along : (cs hs rest : List Heard) (t n s : ℕ) (b : Bool) (r : Receiver) → InTail n s b r → length cs ≡ n + 1 → GapsBefore cs hs
    → found t r (hs ++ rest) ≡ entry (t + length hs - 1) (verdict_of (sum_from s cs) (hurt_from b cs)) ++ found (t + length hs) idle rest
unfolding sum_from hurt_from
tail_along [] hs rest t n s b r i e g = absurd (omega arith)
tail_along (h ∷ []) hs rest t n s b r i e g = last_along t s b r h hs rest (subst (λ (k : ℕ). InTail k s b r) (none n e) i) g
  where
    none : (n : ℕ) → 1 ≡ n + 1 → n ≡ 0
    none n e = omega arith
tail_along (h ∷ k ∷ cs) hs rest t n s b r i e g =
    let step : TailStep (length cs) (summed_by s h) (hurt_by b h) (taken r h) = tail_any (length cs) s b r (first_character g) (subst (λ (m : ℕ). InTail m s b r) (one n (length cs) e) i) in
    let a : Along t r step.reader (k ∷ cs) hs rest = one_along t r step.reader h (k ∷ cs) hs rest (tail_within n s b r i) step.is g in
    a.same
    ∙ tail_along (k ∷ cs) a.left rest a.tick (length cs) (summed_by s h) (hurt_by b h) step.reader step.still (more (length cs)) a.gaps
    ∙ ap (λ (w : ℕ). entry (w - 1) (verdict_of (sum_from (summed_by s h) (k ∷ cs)) (hurt_from (hurt_by b h) (k ∷ cs))) ++ found w idle rest) a.ticks
  where
    one : (n m : ℕ) → suc (suc m) ≡ n + 1 → n ≡ suc m
    one n m e = omega arith

    more : (m : ℕ) → suc m ≡ m + 1
    more m = omega arith

-- ---- a frame

frame_along : (preambles d : ℕ) (head : List Heard) (c : ℕ) (tail hs rest : List Heard) (s : ℕ) → Complete preambles d head c tail → Gapped (frame_of preambles d head c tail) hs
    → found s idle (hs ++ rest) ≡ entry (s + length hs - 1) (frame_verdict d head c tail) ++ found (s + length hs) idle rest
unfolding preamble
frame_along zero d head c tail hs rest s k g = absurd (omega (arith, k.two))
frame_along (suc zero) d head c tail hs rest s k g = absurd (omega (arith, k.two))
frame_along (suc (suc p)) d head c tail hs rest s k (from_first {hs = on} sound g) =
    let begun : Receiver = begun_by d k.frame k.long k.expansion in
    let behind_count : List Heard = Character c ∷ tail in
    let body : List Heard = Character d ∷ (head ++ behind_count) in
    let a : Along (s + 1) (blank (Preamble 1)) (blank (Preamble 2)) (preamble p ++ body) on rest =
    one_along (s + 1) (blank (Preamble 1)) (blank (Preamble 2)) (Character 0xFF) (preamble p ++ body) on rest (record { inside = refl; no_gap = refl }) (more_on 1) g in
    let b : Along a.tick (blank (Preamble 2)) (blank (Preamble 2)) body a.left rest = preamble_along p body a.left rest a.tick a.gaps in
    let e : Along b.tick (blank (Preamble 2)) begun (head ++ behind_count) b.left rest =
    one_along b.tick (blank (Preamble 2)) begun (Character d) (head ++ behind_count) b.left rest two_within (delimiter_on d k.frame k.expansion k.long k.delimiter) b.gaps in
    let h : HeadAlong e.tick begun k.frame 0 (sum_from d head) (hurt_from false head) behind_count e.left rest =
    head_along head behind_count e.left rest e.tick k.frame (length head) 0 d false begun (begun_head d k.frame k.expansion (length head) k.long k.head_length) (zero_more (length head)) e.gaps in
    let f : Along e.tick begun h.reader behind_count e.left rest = h.along in
    let q : Receiver = (counted h.reader c (counted_place c)).receiver in
    let n : Along f.tick h.reader q tail f.left rest =
    one_along f.tick h.reader q (Character c) tail f.left rest (head_within k.frame 0 (sum_from d head) (hurt_from false head) h.reader h.still)
    (count_on k.frame (sum_from d head) c (hurt_from false head) h.reader h.still k.enough) f.gaps in
    found_tick s idle (Character 0xFF) (on ++ rest) (tells (blank (Preamble 1)) Nothing) first_on
    ∙ a.same ∙ b.same ∙ e.same ∙ f.same ∙ n.same
    ∙ tail_along tail n.left rest n.tick c (bit_xor (sum_from d head) c) (hurt_from false head) q
    (in_tail k.frame (sum_from d head) c (hurt_from false head) h.reader h.still) k.tail_length n.gaps
    ∙ ap (λ (w : ℕ). entry (w - 1) (frame_verdict d head c tail) ++ found w idle rest) (omega (arith, a.ticks, b.ticks, e.ticks, f.ticks, n.ticks))
  where
    zero_more : (m : ℕ) → m ≡ m + 0
    zero_more m = omega arith

-- its characters and its silent ticks
gaps_length : {cs hs : List Heard} → GapsBefore cs hs → length hs ≡ length cs + silences hs
unfolding silences
gaps_length no_more = refl
gaps_length (at_once is_sound g) = omega (arith, gaps_length g)
gaps_length (at_once is_with_damage g) = omega (arith, gaps_length g)
gaps_length (behind_silence is_sound g) = omega (arith, gaps_length g)
gaps_length (behind_silence is_with_damage g) = omega (arith, gaps_length g)

gapped_length : {cs hs : List Heard} → Gapped cs hs → length hs ≡ length cs + silences hs
unfolding silences
gapped_length (from_first is_sound g) = omega (arith, gaps_length g)
gapped_length (from_first is_with_damage g) = omega (arith, gaps_length g)

preamble_length : (p : ℕ) → length (preamble p) ≡ p
unfolding preamble
preamble_length zero = refl
preamble_length (suc p) = omega (arith, preamble_length p)

frame_length : (preambles d : ℕ) (head : List Heard) (c : ℕ) (tail : List Heard) → Complete preambles d head c tail → length (frame_of preambles d head c tail) ≡ preambles + 1 + length head + 1 + c + 1
frame_length preambles d head c tail k =
    omega (arith, length-append (preamble preambles) (Character d ∷ (head ++ (Character c ∷ tail))), preamble_length preambles, length-append head (Character c ∷ tail), k.tail_length)

-- ---- a start

starts_idle : (past : List Heard) → MayStart past → behind passing past ≡ idle
unfolding behind
starts_idle past (frame_ended before h e) = behind_ticks before (h ∷ []) passing ∙ ended_idle (behind passing before) h e
starts_idle past first_silent = ap (λ (t : Taken). t.receiver) (outside_idle passing refl)
starts_idle past (two_silent before) = behind_ticks before (Silence ∷ Silence ∷ []) passing ∙ two_silent_idle (behind passing before)
starts_idle past (outside_silent before h c told) =
    behind_ticks before (h ∷ Silence ∷ []) passing ∙ ap (λ (t : Taken). t.receiver) ((silent_ticks (behind passing before) h c).outside told)

-- from the reader's start on
from_start : (past hs rest : List Heard) (preambles d : ℕ) (head : List Heard) (c : ℕ) (tail : List Heard) → MayStart past → Complete preambles d head c tail → Gapped (frame_of preambles d head c tail) hs
    → list_of (past ++ (hs ++ rest)) ≡ list_of past ++ (entry (length past + (preambles + 1 + length head + 1 + c + silences hs)) (frame_verdict d head c tail) ++ found (length past + length hs) idle rest)
from_start past hs rest preambles d head c tail m k g =
    found_ticks past (hs ++ rest) 0 passing
    ∙ ap (λ (l : List ℕ). list_of past ++ l)
    (ap₂ (λ (t : ℕ) (r : Receiver). found t r (hs ++ rest)) (none (length past)) (starts_idle past m)
    ∙ frame_along preambles d head c tail hs rest (length past) k g
    ∙ ap (λ (w : ℕ). entry w (frame_verdict d head c tail) ++ found (length past + length hs) idle rest) (omega (arith, gapped_length g, frame_length preambles d head c tail k)))
  where
    none : (n : ℕ) → 0 + n ≡ n
    none n = omega arith

pub jump_end : JumpEnd
jump_end recording past hs rest preambles d head c tail e m k g =
    let last : ℕ = length past + (preambles + 1 + length head + 1 + c + silences hs) in
    let verdict : ℕ = frame_verdict d head c tail in
    let up_to : list_of (past ++ hs) ≡ list_of past ++ entry last verdict =
    ap (λ (l : List Heard). list_of (past ++ l)) (sym (append-nil hs))
    ∙ from_start past hs [] preambles d head c tail m k g
    ∙ ap (λ (l : List ℕ). list_of past ++ (entry last verdict ++ l)) (found_none (length past + length hs) idle)
    ∙ ap (λ (l : List ℕ). list_of past ++ l) (append-nil (entry last verdict)) in
    record {
      next_entry = up_to;
      later = found (length past + length hs) idle rest;
      listed = ap list_of e ∙ from_start past hs rest preambles d head c tail m k g
          ∙ sym (append_assoc (list_of past) (entry last verdict) (found (length past + length hs) idle rest))
          ∙ ap (λ (l : List ℕ). l ++ found (length past + length hs) idle rest) (sym up_to);
    }
