-- Theorems: the claims of specs/Kept.
use Rattle.std.specs.Prelude.{Some, None}
use Prim.Native.Nat.{ℕ, zero, suc, ◌+◌, ◌*◌, ◌/◌, ◌<◌}
use native.Mathlib.Omega.{arith}
use mathlib.Core.Path.{◌≡◌, refl, sym, ap, ap₂, subst, ◌∙◌}
use mathlib.Core.Bool.{Bool, true, false}
use mathlib.Core.List.{List, [], ◌∷◌}
use lib.ListN.{length, get_or}
use borrow.Author.Tests.{eqb-true, eqb-false, ne_eqb}
use Rattle.base.specs.Choice.{when◌then◌else◌, ◌=?◌, ◌<?◌}
use Rattle.base.proofs.Choices.{if_is_false, went_else, true_false}
use Rattle.line.specs.Heard.{damage_number}
use Rattle.line.specs.declared.Damage.{Damage}
use Rattle.line.specs.declared.Damage.TheVariants.{Parity, Overrun, Framing}
use Rattle.line.specs.declared.Heard.{Heard}
use Rattle.line.specs.declared.Heard.TheVariants.{Silence, Character, Damaged}
use Rattle.recording.specs.Form.{ticks_of, tick_refused, bad_recording}
use Rattle.recording.proofs.Forms.{length_ticks}
use Rattle.recording.proofs.Ticks.{hears_kind}
use Rattle.recording_join.specs.Joining.{Together, both, differ, together, all_together, recorded, joined_of, difference_from, difference_of}
use Rattle.recording_join.specs.Kept.{heard_in, Either, in_first, in_second, OneOfTheTaps, NoneLost, SilentWhereBoth, JoinedGood, DifferIn, FirstNamed, FirstDifferenceNamed}
use Rattle.recording_join.proofs.Answers.{Joinable, joinable, difference_said}
use Rattle.recording_join.proofs.Loops.{both_not, choice_not, nowhere_over}
use Rattle.recording_join.proofs.Pieces.{length_together}

-- ---- one tick

pub same_both : (h k : Heard) → both h ≡ both k → k ≡ h
same_both h k e = cc

abbrev OneOf : Heard → Heard → Heard → Type 0
OneOf h g k = Either (k ≡ h) (k ≡ g)

one_choice : (t : Bool) (h g k : Heard) → (when t then both g else both h) ≡ both k → OneOf h g k
unfolding when◌then◌else◌
one_choice true h g k e = in_second (same_both g k e)
one_choice false h g k e = in_first (same_both h k e)

one_same : (t : Bool) (h g k : Heard) → (when t then both h else differ) ≡ both k → OneOf h g k
unfolding when◌then◌else◌
one_same true h g k e = in_first (same_both h k e)
one_same false h g k e = absurd (both_not k (sym e))

one_of : (h g k : Heard) → together h g ≡ both k → OneOf h g k
one_of (Character c) (Character d) k e = one_same (c =? d) (Character c) (Character d) k e
one_of (Character c) Silence k e = in_first (same_both (Character c) k e)
one_of (Character c) (Damaged d b) k e = in_first (same_both (Character c) k e)
one_of Silence (Character d) k e = in_second (same_both (Character d) k e)
one_of (Damaged c a) (Character d) k e = in_second (same_both (Character d) k e)
one_of Silence (Damaged d b) k e = in_second (same_both (Damaged d b) k e)
one_of (Damaged c a) Silence k e = in_first (same_both (Damaged c a) k e)
one_of (Damaged c a) (Damaged d b) k e = one_choice (damage_number b <? damage_number a) (Damaged c a) (Damaged d b) k e
one_of Silence Silence k e = in_first (same_both Silence k e)

-- a character is taken, unless the other tap has another
same_choice : (c d : ℕ) (t : Bool) (k : Heard) → (c =? d) ≡ t → (when t then both (Character c) else differ) ≡ both k → (k ≡ Character c) × (k ≡ Character d)
unfolding when◌then◌else◌
same_choice c d true k h e = (same_both (Character c) k e, same_both (Character c) k e ∙ ap Character (eqb-true c d h))
same_choice c d false k h e = absurd (both_not k (sym e))

kept_first : (c : ℕ) (g k : Heard) → together (Character c) g ≡ both k → k ≡ Character c
kept_first c (Character d) k e = (same_choice c d (c =? d) k refl e).0
kept_first c Silence k e = same_both (Character c) k e
kept_first c (Damaged d b) k e = same_both (Character c) k e

kept_second : (d : ℕ) (h k : Heard) → together h (Character d) ≡ both k → k ≡ Character d
kept_second d (Character c) k e = (same_choice c d (c =? d) k refl e).1
kept_second d Silence k e = same_both (Character d) k e
kept_second d (Damaged c a) k e = same_both (Character d) k e

-- silence only where both are silent
not_silent : (c : ℕ) → Character c ≡ Silence → ⊥
not_silent c e = let z : ◌≡◌ {A = ℕ} 0 1 = cc in omega arith

not_silent_hurt : (c : ℕ) (kind : Damage) → Damaged c kind ≡ Silence → ⊥
not_silent_hurt c kind e = let z : ◌≡◌ {A = ℕ} 0 1 = cc in omega arith

choice_silent : (t : Bool) (c d : ℕ) (a b : Damage) → (when t then both (Damaged d b) else both (Damaged c a)) ≡ both Silence → ⊥
unfolding when◌then◌else◌
choice_silent true c d a b e = not_silent_hurt d b (sym (same_both (Damaged d b) Silence e))
choice_silent false c d a b e = not_silent_hurt c a (sym (same_both (Damaged c a) Silence e))

both_silent : (h g : Heard) → together h g ≡ both Silence → (h ≡ Silence) × (g ≡ Silence)
both_silent (Character c) g e = absurd (not_silent c (sym (kept_first c g Silence e)))
both_silent Silence (Character d) e = absurd (not_silent d (sym (same_both (Character d) Silence e)))
both_silent Silence (Damaged d b) e = absurd (not_silent_hurt d b (sym (same_both (Damaged d b) Silence e)))
both_silent Silence Silence e = (refl, refl)
both_silent (Damaged c a) (Character d) e = absurd (not_silent d (sym (same_both (Character d) Silence e)))
both_silent (Damaged c a) Silence e = absurd (not_silent_hurt c a (sym (same_both (Damaged c a) Silence e)))
both_silent (Damaged c a) (Damaged d b) e = absurd (choice_silent (damage_number b <? damage_number a) c d a b e)

-- two different characters
two_choice : (c d : ℕ) (t : Bool) → (c =? d) ≡ t → (when t then both (Character c) else differ) ≡ differ → c ≡ d → ⊥
unfolding when◌then◌else◌
two_choice c d true h e = absurd (both_not (Character c) e)
two_choice c d false h e = eqb-false c d h

record Two (h g : Heard) : Type 0 where
  c : ℕ
  d : ℕ
  of_first : h ≡ Character c
  of_second : g ≡ Character d
  unequal : c ≡ d → ⊥

two_told : (h g : Heard) → together h g ≡ differ → Two h g
two_told (Character c) (Character d) e = record { c = c; d = d; of_first = refl; of_second = refl; unequal = two_choice c d (c =? d) refl e }
two_told (Character c) Silence e = absurd (both_not (Character c) e)
two_told (Character c) (Damaged d b) e = absurd (both_not (Character c) e)
two_told Silence (Character d) e = absurd (both_not (Character d) e)
two_told (Damaged c a) (Character d) e = absurd (both_not (Character d) e)
two_told Silence (Damaged d b) e = absurd (both_not (Damaged d b) e)
two_told (Damaged c a) Silence e = absurd (both_not (Damaged c a) e)
two_told (Damaged c a) (Damaged d b) e = absurd (choice_not (damage_number b <? damage_number a) (Damaged d b) (Damaged c a) e)
two_told Silence Silence e = absurd (both_not Silence e)

two_differ : (h g : Heard) (c d : ℕ) → h ≡ Character c → g ≡ Character d → (c ≡ d → ⊥) → together h g ≡ differ
two_differ h g c d e f n = ap₂ together e f ∙ if_is_false (c =? d) (both (Character c)) differ (ne_eqb c d n)

-- ---- tick by tick

-- what is heard where nothing differs
abbrev heards : List Together → List Heard
heards [] = []
heards (both h ∷ zs) = h ∷ heards zs
heards (differ ∷ zs) = Silence ∷ heards zs

-- a joined tick is read back as what it is
read_back : (h : Heard) (zs : List Together) → ticks_of (recorded (both h ∷ zs)) ≡ h ∷ ticks_of (recorded zs)
unfolding ticks_of recorded when◌then◌else◌
read_back Silence zs = refl
read_back (Character c) zs = refl
read_back (Damaged c kind) zs = ap (λ (h : Heard). h ∷ ticks_of (recorded zs)) (hears_kind c kind)

not_first : (t : ℕ) (zs : List Together) → difference_from t (differ ∷ zs) ≡ None → ⊥
unfolding difference_from
not_first t zs e = let z : ◌≡◌ {A = ℕ} 0 1 = cc in omega arith

later : (t : ℕ) (h : Heard) (zs : List Together) → difference_from t (both h ∷ zs) ≡ None → difference_from (t + 1) zs ≡ None
unfolding difference_from
later t h zs e = e

read_all : (t : ℕ) (zs : List Together) → difference_from t zs ≡ None → ticks_of (recorded zs) ≡ heards zs
unfolding recorded ticks_of
read_all t [] e = refl
read_all t (both h ∷ zs) e = read_back h zs ∙ ap (λ (l : List Heard). h ∷ l) (read_all (t + 1) zs (later t h zs e))
read_all t (differ ∷ zs) e = absurd (not_first t zs e)

-- the tick of both in the list of those taken together
tick_both : (z : Together) (t : ℕ) (zs : List Together) → difference_from t (z ∷ zs) ≡ None → z ≡ both (get_or (heards (z ∷ zs)) 0 Silence)
tick_both (both h) t zs e = refl
tick_both differ t zs e = absurd (not_first t zs e)

tick_later : (z : Together) (zs : List Together) (k : ℕ) → get_or (heards (z ∷ zs)) (suc k) Silence ≡ get_or (heards zs) k Silence
tick_later (both h) zs k = refl
tick_later differ zs k = refl

quiet_later : (t : ℕ) (z : Together) (zs : List Together) → difference_from t (z ∷ zs) ≡ None → difference_from (t + 1) zs ≡ None
quiet_later t (both h) zs e = later t h zs e
quiet_later t differ zs e = absurd (not_first t zs e)

ticks_both : (s : ℕ) (hs gs : List Heard) → length hs ≡ length gs → difference_from s (all_together hs gs) ≡ None → (t : ℕ)
    → together (get_or hs t Silence) (get_or gs t Silence) ≡ both (get_or (heards (all_together hs gs)) t Silence)
unfolding all_together
ticks_both s [] [] l e t = refl
ticks_both s [] (g ∷ gs) l e t = absurd (omega arith)
ticks_both s (h ∷ hs) [] l e t = absurd (omega arith)
ticks_both s (h ∷ hs) (g ∷ gs) l e zero = tick_both (together h g) s (all_together hs gs) e
ticks_both s (h ∷ hs) (g ∷ gs) l e (suc t) =
    ticks_both (s + 1) hs gs (omega arith) (quiet_later s (together h g) (all_together hs gs) e) t
    ∙ ap both (sym (tick_later (together h g) (all_together hs gs) t))

same_ticks : (first second : List ℕ) → length first ≡ length second → length (ticks_of first) ≡ length (ticks_of second)
same_ticks first second e = length_ticks first ∙ ap (λ (n : ℕ). n / 2) e ∙ sym (length_ticks second)

-- tick t of the joined recording is tick t of the taps, taken together
pub joined_tick : (first second : List ℕ) → Joinable first second → (t : ℕ) → together (heard_in t first) (heard_in t second) ≡ both (heard_in t (joined_of first second))
joined_tick first second j t =
    ticks_both 0 (ticks_of first) (ticks_of second) (same_ticks first second j.same_length) j.no_difference t
    ∙ ap (λ (l : List Heard). both (get_or l t Silence)) (sym (read_all 0 (all_together (ticks_of first) (ticks_of second)) j.no_difference))

-- ---- the claims

pub one_of_the_taps : OneOfTheTaps
one_of_the_taps first second room j t = one_of (heard_in t first) (heard_in t second) (heard_in t (joined_of first second)) (joined_tick first second (joinable first second room j) t)

pub none_lost : NoneLost
none_lost first second room j t c (in_first e) =
    kept_first c (heard_in t second) (heard_in t (joined_of first second)) (ap (λ (h : Heard). together h (heard_in t second)) (sym e) ∙ joined_tick first second (joinable first second room j) t)
none_lost first second room j t c (in_second e) =
    kept_second c (heard_in t first) (heard_in t (joined_of first second)) (ap (together (heard_in t first)) (sym e) ∙ joined_tick first second (joinable first second room j) t)

pub silent_where_both : SilentWhereBoth
silent_where_both first second room j t = record {
  only_there = λ e. both_silent (heard_in t first) (heard_in t second) (joined_tick first second (joinable first second room j) t ∙ ap both e);
  there = λ e f. same_both Silence (heard_in t (joined_of first second)) (sym (ap₂ together e f) ∙ joined_tick first second (joinable first second room j) t);
}

-- a joined tick has bytes of a recording
good_bytes : (h : Heard) (zs : List Together) → bad_recording (recorded (both h ∷ zs)) ≡ bad_recording (recorded zs)
unfolding bad_recording recorded when◌then◌else◌
good_bytes Silence zs = refl
good_bytes (Character c) zs = refl
good_bytes (Damaged c Parity) zs = refl
good_bytes (Damaged c Overrun) zs = refl
good_bytes (Damaged c Framing) zs = refl

good_all : (t : ℕ) (zs : List Together) → difference_from t zs ≡ None → bad_recording (recorded zs) ≡ false
unfolding bad_recording recorded
good_all t [] e = refl
good_all t (both h ∷ zs) e = good_bytes h zs ∙ good_all (t + 1) zs (later t h zs e)
good_all t (differ ∷ zs) e = absurd (not_first t zs e)

two_bytes : (h : Heard) (zs : List Together) → length (recorded (both h ∷ zs)) ≡ 2 + length (recorded zs)
unfolding recorded
two_bytes Silence zs = omega arith
two_bytes (Character c) zs = omega arith
two_bytes (Damaged c kind) zs = omega arith

long_all : (t : ℕ) (zs : List Together) → difference_from t zs ≡ None → length (recorded zs) ≡ 2 * length zs
unfolding recorded
long_all t [] e = refl
long_all t (both h ∷ zs) e = omega (arith, two_bytes h zs, long_all (t + 1) zs (later t h zs e))
long_all t (differ ∷ zs) e = absurd (not_first t zs e)

-- a recording has two bytes for each tick
pub good_even : (l : List ℕ) → bad_recording l ≡ false → length l ≡ 2 * length (ticks_of l)
unfolding bad_recording ticks_of
good_even [] e = refl
good_even (a ∷ []) e = absurd (true_false e)
good_even (a ∷ b ∷ l) e = omega (arith, good_even l (went_else (tick_refused a b) true (bad_recording l) false e true_false).1)

pub joined_good : JoinedGood
joined_good first second room a =
    let j : Joinable first second = joinable first second room a in
    record {
      good = good_all 0 (all_together (ticks_of first) (ticks_of second)) j.no_difference;
      as_long = long_all 0 (all_together (ticks_of first) (ticks_of second)) j.no_difference
          ∙ ap (λ (n : ℕ). 2 * n) (length_together (ticks_of first) (ticks_of second) (same_ticks first second j.same_length))
          ∙ sym (good_even first j.good_first);
    }

-- ---- the first difference

abbrev DifferAt : ℕ → List Heard → List Heard → Type 0
DifferAt k hs gs = together (get_or hs k Silence) (get_or gs k Silence) ≡ differ

record NamedFrom (s t : ℕ) (hs gs : List Heard) : Type 0 where
  place : ℕ
  is : t ≡ s + place
  there : DifferAt place hs gs
  none_before : (j : ℕ) → j < place → DifferAt j hs gs → ⊥

same_tick : (s t : ℕ) → Some s ≡ Some t → t ≡ s
same_tick s t e = cc

not_tick : (t : ℕ) → None ≡ Some t → ⊥
not_tick t e = let z : ◌≡◌ {A = ℕ} 0 1 = cc in omega arith

begins_here : (s : ℕ) (zs : List Together) → difference_from s (differ ∷ zs) ≡ Some s
unfolding difference_from
begins_here s zs = refl

begins_later : (s : ℕ) (h : Heard) (zs : List Together) → difference_from s (both h ∷ zs) ≡ difference_from (s + 1) zs
unfolding difference_from
begins_later s h zs = refl

named_from : (s t : ℕ) (hs gs : List Heard) → difference_from s (all_together hs gs) ≡ Some t → NamedFrom s t hs gs
unfolding all_together
named_from s t [] gs e = absurd (not_tick t (sym (nowhere_over s) ∙ e))
named_from s t (h ∷ hs) [] e = absurd (not_tick t (sym (nowhere_over s) ∙ e))
named_from s t (h ∷ hs) (g ∷ gs) e = go (λ f. named_from (s + 1) t hs gs f) (together h g) refl
  where
    go : (difference_from (s + 1) (all_together hs gs) ≡ Some t → NamedFrom (s + 1) t hs gs) → (z : Together) → together h g ≡ z → NamedFrom s t (h ∷ hs) (g ∷ gs)
    go ih differ d = record {
      place = 0;
      is = omega (arith, same_tick s t (sym (begins_here s (all_together hs gs)) ∙ ap (λ (y : Together). difference_from s (y ∷ all_together hs gs)) (sym d) ∙ e));
      there = d;
      none_before = λ j h k. absurd (omega arith);
    }
    go ih (both k) d =
        let v : NamedFrom (s + 1) t hs gs = ih (sym (begins_later s k (all_together hs gs)) ∙ ap (λ (y : Together). difference_from s (y ∷ all_together hs gs)) (sym d) ∙ e) in
        record {
          place = suc v.place;
          is = omega (arith, v.is);
          there = v.there;
          none_before = before v;
        }
      where
        before : (v : NamedFrom (s + 1) t hs gs) (j : ℕ) → j < suc v.place → DifferAt j (h ∷ hs) (g ∷ gs) → ⊥
        before v zero i f = both_not k (sym d ∙ f)
        before v (suc j) i f = v.none_before j (omega arith) f

nowhere_none : (s : ℕ) (hs gs : List Heard) → difference_from s (all_together hs gs) ≡ None → (k : ℕ) → DifferAt k hs gs → ⊥
unfolding all_together
nowhere_none s [] gs e k d = silent_first gs k d
  where
    beside : (g : Heard) → together Silence g ≡ differ → ⊥
    beside Silence f = both_not Silence f
    beside (Character c) f = both_not (Character c) f
    beside (Damaged c a) f = both_not (Damaged c a) f

    silent_first : (gs : List Heard) (k : ℕ) → DifferAt k [] gs → ⊥
    silent_first gs k f = beside (get_or gs k Silence) f
nowhere_none s (h ∷ hs) [] e k d = beside (get_or (h ∷ hs) k Silence) d
  where
    beside : (g : Heard) → together g Silence ≡ differ → ⊥
    beside Silence f = both_not Silence f
    beside (Character c) f = both_not (Character c) f
    beside (Damaged c a) f = both_not (Damaged c a) f
nowhere_none s (h ∷ hs) (g ∷ gs) e zero d = not_first s (all_together hs gs) (ap (λ (y : Together). difference_from s (y ∷ all_together hs gs)) (sym d) ∙ e)
nowhere_none s (h ∷ hs) (g ∷ gs) e (suc k) d = nowhere_none (s + 1) hs gs (quiet_later s (together h g) (all_together hs gs) e) k d

differ_in : (t : ℕ) (first second : List ℕ) → DifferAt t (ticks_of first) (ticks_of second) → DifferIn t first second
differ_in t first second e =
    let v : Two (heard_in t first) (heard_in t second) = two_told (heard_in t first) (heard_in t second) e in
    record { c = v.c; d = v.d; of_first = v.of_first; of_second = v.of_second; unequal = v.unequal }

differ_at : (t : ℕ) (first second : List ℕ) → DifferIn t first second → DifferAt t (ticks_of first) (ticks_of second)
differ_at t first second v = two_differ (heard_in t first) (heard_in t second) v.c v.d v.of_first v.of_second v.unequal

pub first_named : FirstDifferenceNamed
first_named first second room = record {
  named = λ t e. named t (difference_said first second room t e);
  none = λ e t d. nowhere_none 0 (ticks_of first) (ticks_of second) (joinable first second room e).no_difference t (differ_at t first second d);
}
  where
    named : (t : ℕ) → difference_of first second ≡ Some t → FirstNamed t first second
    named t e =
        let v : NamedFrom 0 t (ticks_of first) (ticks_of second) = named_from 0 t (ticks_of first) (ticks_of second) e in
        let same : v.place ≡ t = omega (arith, v.is) in
        subst (λ (k : ℕ). FirstNamed k first second) same (record {
          there = differ_in v.place first second v.there;
          none_before = λ s h d. v.none_before s h (differ_at s first second d);
        })
