-- Theorems: a recording joined with itself or with silence is unchanged; the other order gives the same but for damage of equal kind.
use Rattle.std.specs.Prelude.{Option, None, Result, Err}
use Prim.Native.Nat.{ℕ, zero, suc, ◌+◌, ◌*◌, ◌/◌, ◌≤◌}
use native.Mathlib.Omega.{arith}
use mathlib.Core.Path.{◌≡◌, refl, sym, ap, ap₂, ◌∙◌}
use mathlib.Core.Bool.{Bool, true, false}
use mathlib.Core.List.{List, [], ◌∷◌, ◌++◌}
use lib.ListN.{length}
use borrow.Author.Tests.{eq-eqb, ne_eqb, eqb-true, eqb-false, le-ltb}
use Rattle.base.specs.Choice.{when◌then◌else◌, ◌=?◌, ◌<?◌}
use Rattle.base.specs.declared.Refusal.TheVariants.{BadRecording, BufferShort, UnequalTaps}
use Rattle.base.proofs.Choices.{if_is_true, if_is_false, went_else, true_false}
use Rattle.line.specs.Heard.{damage_number, heard_of}
use Rattle.line.specs.declared.Damage.{Damage}
use Rattle.line.specs.declared.Damage.TheVariants.{Parity, Overrun, Framing}
use Rattle.line.specs.declared.Heard.{Heard}
use Rattle.line.specs.declared.Heard.TheVariants.{Silence, Character, Damaged}
use Rattle.recording.specs.Form.{ticks_of, tick_refused, bad_recording}
use Rattle.recording.proofs.Forms.{length_ticks}
use Rattle.recording.proofs.Ticks.{good_tick, heard_as_lem}
use Rattle.recording_join.specs.Joining.{Together, both, differ, together, all_together, bytes_of, recorded, joined_of, difference_from, difference_of, by_difference, join_answer}
use Rattle.recording_join.specs.Kept.{heard_in, Either, in_first, in_second, Gives, WithItself, silence, WithSilence, EqualKinds, OtherOrder}
use Rattle.recording_join.specs.declared.JoinError.{JoinError}
use Rattle.recording_join.specs.declared.JoinError.TheVariants.{Refused}
use Rattle.recording_join.proofs.Answers.{joinable, answered}
use Rattle.recording_join.proofs.Rule.{bytes_of_lem}
use Rattle.recording_join.proofs.Kept.{joined_tick, same_both}

-- ---- ticks that are all one thing heard

abbrev boths : List Heard → List Together
boths [] = []
boths (h ∷ hs) = both h ∷ boths hs

boths_nowhere : (t : ℕ) (hs : List Heard) → difference_from t (boths hs) ≡ None
unfolding difference_from
boths_nowhere t [] = refl
boths_nowhere t (h ∷ hs) = boths_nowhere (t + 1) hs

-- a good tick's bytes are read back
bytes_back : (x c : ℕ) → tick_refused x c ≡ false → bytes_of (heard_of (x / 32) c) ≡ x ∷ c ∷ []
bytes_back x c e = ap bytes_of (heard_as_lem (good_tick x c e)) ∙ bytes_of_lem (good_tick x c e)

boths_recorded : (l : List ℕ) → bad_recording l ≡ false → recorded (boths (ticks_of l)) ≡ l
unfolding bad_recording ticks_of recorded
boths_recorded [] e = refl
boths_recorded (a ∷ []) e = absurd (true_false e)
boths_recorded (a ∷ b ∷ l) e =
    let good : (tick_refused a b ≡ false) × (bad_recording l ≡ false) = went_else (tick_refused a b) true (bad_recording l) false e true_false in
    ap₂ (λ (x y : List ℕ). x ++ y) (bytes_back a b good.0) (boths_recorded l good.1)

-- two taps whose ticks are those of a recording, taken together
gives : (first second l : List ℕ) (room : ℕ) → bad_recording first ≡ false → bad_recording second ≡ false → length first ≡ length second → length first ≤ room
    → bad_recording l ≡ false → all_together (ticks_of first) (ticks_of second) ≡ boths (ticks_of l) → Gives first second room l
gives first second l room p q e h g same = record {
  answered = answered first second room p q e h ∙ ap by_difference (ap (difference_from 0) same ∙ boths_nowhere 0 (ticks_of l));
  same = ap recorded same ∙ boths_recorded l g;
}

-- ---- with itself

itself_tick : (h : Heard) → together h h ≡ both h
itself_tick Silence = refl
itself_tick (Character c) = if_is_true (c =? c) _ _ (eq-eqb c c refl)
itself_tick (Damaged c kind) = if_is_false (damage_number kind <? damage_number kind) _ _ (le-ltb (damage_number kind) (damage_number kind) (omega arith))

itself_all : (hs : List Heard) → all_together hs hs ≡ boths hs
unfolding all_together
itself_all [] = refl
itself_all (h ∷ hs) = ap₂ (λ (z : Together) (zs : List Together). z ∷ zs) (itself_tick h) (itself_all hs)

pub with_itself : WithItself
with_itself recording room g h = gives recording recording recording room g g refl h g (itself_all (ticks_of recording))

-- ---- with silence

silent_second : (h : Heard) → together h Silence ≡ both h
silent_second Silence = refl
silent_second (Character c) = refl
silent_second (Damaged c kind) = refl

silent_first : (h : Heard) → together Silence h ≡ both h
silent_first Silence = refl
silent_first (Character c) = refl
silent_first (Damaged c kind) = refl

silence_ticks : (n : ℕ) → ticks_of (silence (suc n)) ≡ Silence ∷ ticks_of (silence n)
unfolding ticks_of silence when◌then◌else◌
silence_ticks n = refl

silence_good : (n : ℕ) → bad_recording (silence n) ≡ false
unfolding bad_recording silence when◌then◌else◌
silence_good zero = refl
silence_good (suc n) = silence_good n

silence_long : (n : ℕ) → length (silence n) ≡ 2 * n
unfolding silence
silence_long zero = refl
silence_long (suc n) = omega (arith, silence_long n)

silence_none : ticks_of (silence zero) ≡ []
unfolding ticks_of silence
silence_none = refl

all_second : (n : ℕ) (hs : List Heard) → length hs ≡ n → all_together hs (ticks_of (silence n)) ≡ boths hs
unfolding all_together
all_second n [] e = refl
all_second zero (h ∷ hs) e = absurd (omega arith)
all_second (suc n) (h ∷ hs) e =
    ap (all_together (h ∷ hs)) (silence_ticks n)
    ∙ ap₂ (λ (z : Together) (zs : List Together). z ∷ zs) (silent_second h) (all_second n hs (omega arith))

all_first : (n : ℕ) (hs : List Heard) → length hs ≡ n → all_together (ticks_of (silence n)) hs ≡ boths hs
unfolding all_together
all_first zero [] e = ap (λ (l : List Heard). all_together l []) silence_none
all_first zero (h ∷ hs) e = absurd (omega arith)
all_first (suc n) [] e = absurd (omega arith)
all_first (suc n) (h ∷ hs) e =
    ap (λ (l : List Heard). all_together l (h ∷ hs)) (silence_ticks n)
    ∙ ap₂ (λ (z : Together) (zs : List Together). z ∷ zs) (silent_first h) (all_first n hs (omega arith))

pub with_silence : WithSilence
with_silence n recording room g e h =
    let ticks : length (ticks_of recording) ≡ n = omega (arith, length_ticks recording) in
    record {
      as_second = gives recording (silence n) recording room g (silence_good n) (e ∙ sym (silence_long n)) h g (all_second n (ticks_of recording) ticks);
      as_first = gives (silence n) recording recording room (silence_good n) g (silence_long n ∙ sym e) (omega (arith, silence_long n)) g (all_first n (ticks_of recording) ticks);
    }

-- ---- in the other order

-- a tick in both orders
data Swapped (h g : Heard) (x y : Together) : Type 0 where
  alike : y ≡ x → Swapped h g x y
  equal : (c d : ℕ) (kind : Damage) → h ≡ Damaged c kind → g ≡ Damaged d kind → x ≡ both (Damaged c kind) → y ≡ both (Damaged d kind) → Swapped h g x y

swapped_characters : (c d : ℕ) → together (Character d) (Character c) ≡ together (Character c) (Character d)
swapped_characters c d = go (c =? d) refl
  where
    go : (t : Bool) → (c =? d) ≡ t → together (Character d) (Character c) ≡ together (Character c) (Character d)
    go true e =
        let same : c ≡ d = eqb-true c d e in
        if_is_true (d =? c) _ _ (eq-eqb d c (sym same)) ∙ ap (λ (n : ℕ). both (Character n)) (sym same) ∙ sym (if_is_true (c =? d) _ _ e)
    go false e = if_is_false (d =? c) _ _ (ne_eqb d c (λ k. eqb-false c d e (sym k))) ∙ sym (if_is_false (c =? d) _ _ e)

swapped_damage : (c d : ℕ) (j k : Damage) → Swapped (Damaged c j) (Damaged d k) (together (Damaged c j) (Damaged d k)) (together (Damaged d k) (Damaged c j))
unfolding when◌then◌else◌
swapped_damage c d Parity Parity = equal c d Parity refl refl refl refl
swapped_damage c d Parity Overrun = alike refl
swapped_damage c d Parity Framing = alike refl
swapped_damage c d Overrun Parity = alike refl
swapped_damage c d Overrun Overrun = equal c d Overrun refl refl refl refl
swapped_damage c d Overrun Framing = alike refl
swapped_damage c d Framing Parity = alike refl
swapped_damage c d Framing Overrun = alike refl
swapped_damage c d Framing Framing = equal c d Framing refl refl refl refl

swapped : (h g : Heard) → Swapped h g (together h g) (together g h)
swapped (Character c) (Character d) = alike (swapped_characters c d)
swapped (Character c) Silence = alike refl
swapped (Character c) (Damaged d k) = alike refl
swapped Silence (Character d) = alike refl
swapped Silence Silence = alike refl
swapped Silence (Damaged d k) = alike refl
swapped (Damaged c j) (Character d) = alike refl
swapped (Damaged c j) Silence = alike refl
swapped (Damaged c j) (Damaged d k) = swapped_damage c d j k

-- a difference is found in the same tick
same_head : (t : ℕ) (z : Together) (xs ys : List Together) → difference_from (t + 1) ys ≡ difference_from (t + 1) xs → difference_from t (z ∷ ys) ≡ difference_from t (z ∷ xs)
unfolding difference_from
same_head t (both h) xs ys e = e
same_head t differ xs ys e = refl

both_head : (t : ℕ) (h g : Heard) (xs ys : List Together) → difference_from (t + 1) ys ≡ difference_from (t + 1) xs → difference_from t (both g ∷ ys) ≡ difference_from t (both h ∷ xs)
unfolding difference_from
both_head t h g xs ys e = e

swapped_head : (t : ℕ) (h g : Heard) (x y : Together) (xs ys : List Together) → Swapped h g x y → difference_from (t + 1) ys ≡ difference_from (t + 1) xs → difference_from t (y ∷ ys) ≡ difference_from t (x ∷ xs)
swapped_head t h g x y xs ys (alike e) k = ap (λ (z : Together). difference_from t (z ∷ ys)) e ∙ same_head t x xs ys k
swapped_head t h g x y xs ys (equal c d kind p q e f) k =
    ap (λ (z : Together). difference_from t (z ∷ ys)) f
    ∙ both_head t (Damaged c kind) (Damaged d kind) xs ys k
    ∙ ap (λ (z : Together). difference_from t (z ∷ xs)) (sym e)

swapped_difference : (t : ℕ) (hs gs : List Heard) → difference_from t (all_together gs hs) ≡ difference_from t (all_together hs gs)
unfolding all_together
swapped_difference t [] [] = refl
swapped_difference t [] (g ∷ gs) = refl
swapped_difference t (h ∷ hs) [] = refl
swapped_difference t (h ∷ hs) (g ∷ gs) =
    swapped_head t h g (together h g) (together g h) (all_together hs gs) (all_together gs hs) (swapped h g) (swapped_difference (t + 1) hs gs)

-- the answer
swapped_tests : (a b : Bool) (x y : Result Unit JoinError) → y ≡ x
    → (when b then Err (Refused BadRecording) else when a then Err (Refused BadRecording) else y) ≡ (when a then Err (Refused BadRecording) else when b then Err (Refused BadRecording) else x)
unfolding when◌then◌else◌
swapped_tests true true x y e = refl
swapped_tests true false x y e = refl
swapped_tests false true x y e = refl
swapped_tests false false x y e = e

abbrev by_lengths : ℕ → ℕ → ℕ → Option ℕ → Result Unit JoinError
by_lengths m n room d = when m =? n then (when room <? m then Err (Refused BufferShort) else by_difference d) else Err (Refused UnequalTaps)

swapped_length : (m n room : ℕ) (d e : Option ℕ) → e ≡ d → by_lengths n m room e ≡ by_lengths m n room d
swapped_length m n room d e k = go (m =? n) refl
  where
    go : (t : Bool) → (m =? n) ≡ t → by_lengths n m room e ≡ by_lengths m n room d
    go true f =
        let same : m ≡ n = eqb-true m n f in
        if_is_true (n =? m) _ _ (eq-eqb n m (sym same))
        ∙ ap₂ (λ (l : ℕ) (x : Option ℕ). when room <? l then Err (Refused BufferShort) else by_difference x) (sym same) k
        ∙ sym (if_is_true (m =? n) _ _ f)
    go false f = if_is_false (n =? m) _ _ (ne_eqb n m (λ z. eqb-false m n f (sym z))) ∙ sym (if_is_false (m =? n) _ _ f)

swapped_answer : (first second : List ℕ) (room : ℕ) → join_answer second first room ≡ join_answer first second room
swapped_answer first second room =
    swapped_tests (bad_recording first) (bad_recording second) _ _
    (swapped_length (length first) (length second) room (difference_of first second) (difference_of second first) (swapped_difference 0 (ticks_of first) (ticks_of second)))

-- a tick of both joined recordings
swapped_heard : (t : ℕ) (first second : List ℕ) (h g k l : Heard) (x y : Together) → heard_in t first ≡ h → heard_in t second ≡ g → Swapped h g x y → x ≡ both k → y ≡ both l
    → heard_in t (joined_of first second) ≡ k → heard_in t (joined_of second first) ≡ l
    → Either (heard_in t (joined_of second first) ≡ heard_in t (joined_of first second)) (EqualKinds t first second)
swapped_heard t first second h g k l x y a b (alike e) p q r s = in_first (s ∙ same_both k l (sym p ∙ sym e ∙ q) ∙ sym r)
swapped_heard t first second h g k l x y a b (equal c d kind i j e f) p q r s = in_second (record {
  kind = kind;
  c = c;
  d = d;
  of_first = a ∙ i;
  of_second = b ∙ j;
  joined = r ∙ same_both (Damaged c kind) k (sym e ∙ p);
  other_order = s ∙ same_both (Damaged d kind) l (sym f ∙ q);
})

pub other_order : OtherOrder
other_order first second room = record {
  answer = swapped_answer first second room;
  ticks = λ e t. swapped_heard t first second (heard_in t first) (heard_in t second) (heard_in t (joined_of first second)) (heard_in t (joined_of second first)) _ _ refl refl (swapped (heard_in t first) (heard_in t second))
      (joined_tick first second (joinable first second room e) t)
      (joined_tick second first (joinable second first room (swapped_answer first second room ∙ e)) t) refl refl;
}
