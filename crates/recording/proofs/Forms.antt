-- Laws of `bad_recording`, for a loop that looks at every tick.
use Prim.Native.Nat.{ℕ, zero, suc, ◌+◌, ◌*◌, ◌/◌, ◌%◌, ◌≤◌, ◌<◌}
use native.Mathlib.Numerals.{add-one}
use native.Mathlib.Omega.{arith}
use mathlib.Core.Path.{◌≡◌, refl, sym, ap, ap₂, subst, ◌∙◌}
use mathlib.Core.Bool.{Bool, true, false}
use mathlib.Core.List.{List, [], ◌∷◌, ◌++◌}
use lib.Bits.{bit_or, or_add_and, and_le_r}
use lib.ListN.{length, drop, get_or, length-drop}
use borrow.Author.Tests.{eq-eqb, ne_eqb, eqb-true, eqb-false, le-ltb, lt-ltb, ltb-true, ltb-false}
use Rattle.base.specs.Choice.{when◌then◌else◌, ◌=?◌, ◌<?◌}
use Rattle.base.proofs.Choices.{if_is_true, if_is_false, went_else, true_false}
use Rattle.line.specs.declared.Heard.{Heard}
use Rattle.line.specs.Heard.{heard_of}
use Rattle.recording.specs.Form.{ticks_of, tick_refused, bad_recording}
use Rattle.recording.specs.Recording.{TickIs, TickAt}
use Rattle.recording.specs.Marks.{is_marked, or_marked, BadnessIs}
use Rattle.recording.proofs.Runs.{two_more}

-- ---- marks

pub unmarked : (n : ℕ) → n ≡ 0 → is_marked n ≡ false
unfolding is_marked
unmarked n e = if_is_true (n =? 0) false true (eq-eqb n 0 e)

pub marked : (n : ℕ) → (n ≡ 0 → ⊥) → is_marked n ≡ true
unfolding is_marked
marked n e = if_is_false (n =? 0) false true (ne_eqb n 0 e)

-- a bit of either is one of both
or_not_zero : (a b : ℕ) → (a ≡ 0 → ⊥) → bit_or a b ≡ 0 → ⊥
or_not_zero a b h e = h (omega (arith, or_add_and a b, and_le_r a b))

pub or_marks : (a b r : ℕ) → r ≡ bit_or a b → is_marked r ≡ or_marked a b
or_marks a b r e = ap is_marked e ∙ go (a =? 0) refl
  where
    go : (t : Bool) → (a =? 0) ≡ t → is_marked (bit_or a b) ≡ or_marked a b
    go true z =
        let none : a ≡ 0 = eqb-true a 0 z in
        ap (λ (x : ℕ). is_marked (bit_or x b)) none ∙ sym (if_is_false (is_marked a) true (is_marked b) (unmarked a none))
    go false z =
        let some : a ≡ 0 → ⊥ = eqb-false a 0 z in
        marked (bit_or a b) (or_not_zero a b some) ∙ sym (if_is_true (is_marked a) true (is_marked b) (marked a some))

-- ---- a tick's number

tick_is : (recording : List ℕ) (t a b v : ℕ) → a ≡ get_or recording (2 * t) 0 → b ≡ get_or recording (2 * t + 1) 0 → a ≤ 255 → b ≤ 255 → v ≡ a + 256 * b → TickIs recording t v
tick_is recording t a b v p q h k e = record { first = low ∙ p; character = high ∙ q; small = omega arith }
  where
    low : v % 256 ≡ a
    low = omega arith

    high : v / 256 ≡ b
    high = omega arith

pub tick_there : (recording : List ℕ) (t a b v : ℕ) → t < length recording / 2 → a ≡ get_or recording (2 * t) 0 → b ≡ get_or recording (2 * t + 1) 0 → a ≤ 255 → b ≤ 255 → v ≡ a + 256 * b → TickAt recording t v
tick_there recording t a b v i p q h k e = record { there = λ _. tick_is recording t a b v p q h k e; beyond = λ n. absurd (omega arith) }

pub tick_beyond : (recording : List ℕ) (t v : ℕ) → length recording / 2 ≤ t → v ≡ 0 → TickAt recording t v
tick_beyond recording t v i e = record { there = λ n. absurd (omega arith); beyond = λ _. e }

-- ---- a tick that no recording has

-- a choice between two, in either order of its tests
or_or : (a b c : Bool) → (when (when a then true else b) then true else c) ≡ (when a then true else (when b then true else c))
unfolding when◌then◌else◌
or_or true b c = refl
or_or false b c = refl

marks_three : (a b c r : ℕ) → r ≡ bit_or (bit_or a b) c → is_marked r ≡ (when is_marked a then true else (when is_marked b then true else is_marked c))
marks_three a b c r e =
    or_marks (bit_or a b) c r e
    ∙ ap (λ (t : Bool). when t then true else is_marked c) (or_marks a b (bit_or a b) refl)
    ∙ or_or (is_marked a) (is_marked b) (is_marked c)

-- each test of the definition at the first byte f and the character c
refused_low : (f c : ℕ) → (f % 32 ≡ 0 → ⊥) → tick_refused f c ≡ true
refused_low f c h = if_is_false (f % 32 =? 0) _ true (ne_eqb (f % 32) 0 h)

refused_high : (f c : ℕ) → f % 32 ≡ 0 → 128 < f → tick_refused f c ≡ true
refused_high f c z h = if_is_true (f % 32 =? 0) _ true (eq-eqb (f % 32) 0 z) ∙ if_is_true (4 <? f / 32) true _ (lt-ltb 4 (f / 32) (omega arith))

taken_kind : (f c : ℕ) → f % 32 ≡ 0 → f ≤ 128 → (f ≡ 0 → ⊥) → tick_refused f c ≡ false
taken_kind f c z h n =
    if_is_true (f % 32 =? 0) _ true (eq-eqb (f % 32) 0 z)
    ∙ if_is_false (4 <? f / 32) true _ (le-ltb 4 (f / 32) (omega arith))
    ∙ if_is_false (f / 32 =? 0) _ false (ne_eqb (f / 32) 0 (λ e. n (omega arith)))

in_silence_is : (f c : ℕ) → f ≡ 0 → tick_refused f c ≡ (when c =? 0 then false else true)
in_silence_is f c e =
    if_is_true (f % 32 =? 0) _ true (eq-eqb (f % 32) 0 (omega arith))
    ∙ if_is_false (4 <? f / 32) true _ (le-ltb 4 (f / 32) (omega arith))
    ∙ if_is_true (f / 32 =? 0) _ false (eq-eqb (f / 32) 0 (omega arith))

-- the three marks of a tick, by the same tests
module _ (v f a b : ℕ) (ef : f ≡ v % 256) (ea : a ≡ (when 128 <? f then 1 else 0)) (eb : b ≡ (when f =? 0 then v else 0)) where
  abbrev Three : Bool
  Three = when is_marked (f % 32) then true else (when is_marked a then true else is_marked b)

  three : (p : Bool) → (f % 32 =? 0) ≡ p → (q : Bool) → (128 <? f) ≡ q → (s : Bool) → (f =? 0) ≡ s → (u : Bool) → (v =? 0) ≡ u → Three ≡ tick_refused f (v / 256)
  three false ep q eq s es u eu =
      let h : f % 32 ≡ 0 → ⊥ = eqb-false (f % 32) 0 ep in
      if_is_true (is_marked (f % 32)) true _ (marked (f % 32) h) ∙ sym (refused_low f (v / 256) h)
  three true ep true eq s es u eu =
      let z : f % 32 ≡ 0 = eqb-true (f % 32) 0 ep in
      let one : a ≡ 1 = ea ∙ if_is_true (128 <? f) 1 0 eq in
      if_is_false (is_marked (f % 32)) true _ (unmarked (f % 32) z)
      ∙ if_is_true (is_marked a) true _ (marked a (λ e. absurd (omega arith)))
      ∙ sym (refused_high f (v / 256) z (ltb-true 128 f eq))
  three true ep false eq false es u eu =
      let z : f % 32 ≡ 0 = eqb-true (f % 32) 0 ep in
      if_is_false (is_marked (f % 32)) true _ (unmarked (f % 32) z)
      ∙ if_is_false (is_marked a) true _ (unmarked a (ea ∙ if_is_false (128 <? f) 1 0 eq))
      ∙ unmarked b (eb ∙ if_is_false (f =? 0) v 0 es)
      ∙ sym (taken_kind f (v / 256) z (ltb-false 128 f eq) (eqb-false f 0 es))
  three true ep false eq true es true eu =
      let z : f % 32 ≡ 0 = eqb-true (f % 32) 0 ep in
      let none : v ≡ 0 = eqb-true v 0 eu in
      if_is_false (is_marked (f % 32)) true _ (unmarked (f % 32) z)
      ∙ if_is_false (is_marked a) true _ (unmarked a (ea ∙ if_is_false (128 <? f) 1 0 eq))
      ∙ unmarked b (eb ∙ if_is_true (f =? 0) v 0 es ∙ none)
      ∙ sym (in_silence_is f (v / 256) (eqb-true f 0 es) ∙ if_is_true (v / 256 =? 0) false true (eq-eqb (v / 256) 0 (omega arith)))
  three true ep false eq true es false eu =
      let z : f % 32 ≡ 0 = eqb-true (f % 32) 0 ep in
      let none : f ≡ 0 = eqb-true f 0 es in
      let some : v ≡ 0 → ⊥ = eqb-false v 0 eu in
      let here : b ≡ v = eb ∙ if_is_true (f =? 0) v 0 es in
      if_is_false (is_marked (f % 32)) true _ (unmarked (f % 32) z)
      ∙ if_is_false (is_marked a) true _ (unmarked a (ea ∙ if_is_false (128 <? f) 1 0 eq))
      ∙ marked b (λ e. some (sym here ∙ e))
      ∙ sym (in_silence_is f (v / 256) none ∙ if_is_false (v / 256 =? 0) false true (ne_eqb (v / 256) 0 (λ e. some (omega arith))))

pub badness_is : (v f a b r : ℕ) → f ≡ v % 256 → a ≡ (when 128 <? f then 1 else 0) → b ≡ (when f =? 0 then v else 0) → r ≡ bit_or (bit_or (f % 32) a) b → BadnessIs v r
badness_is v f a b r ef ea eb er =
    marks_three (f % 32) a b r er
    ∙ three v f a b ef ea eb (f % 32 =? 0) refl (128 <? f) refl (f =? 0) refl (v =? 0) refl
    ∙ ap (λ (x : ℕ). tick_refused x (v / 256)) ef

-- ---- the loop: what was marked, and what is left, give what the whole gives

pub record Looking (recording : List ℕ) (ticks bad t : ℕ) : Type 0 where
  pub count : ticks ≡ length recording / 2
  pub within : 2 * t ≤ length recording
  pub left : (when is_marked bad then true else bad_recording (drop (2 * t) recording)) ≡ bad_recording recording

pub looking_none : (recording : List ℕ) (ticks : ℕ) → ticks ≡ length recording / 2 → Looking recording ticks 0 0
looking_none recording ticks e = record { count = e; within = omega arith; left = if_is_false (is_marked 0) true _ (unmarked 0 refl) }

bad_tick : (first c : ℕ) (recording : List ℕ) → bad_recording (first ∷ c ∷ recording) ≡ (when tick_refused first c then true else bad_recording recording)
unfolding bad_recording
bad_tick first c recording = refl

pub looking_more : (recording : List ℕ) (ticks bad t v n r : ℕ) → Looking recording ticks bad t → t < ticks → TickAt recording t v → BadnessIs v n → r ≡ bit_or bad n → Looking recording ticks r (t + 1)
looking_more recording ticks bad t v n r w h tick b e = record {
  count = w.count;
  within = omega arith;
  left = ap (λ (x : Bool). when x then true else bad_recording (drop (2 * (t + 1)) recording)) (or_marks bad n r e ∙ ap (λ (x : Bool). when is_marked bad then true else x) seen)
      ∙ or_or (is_marked bad) (tick_refused first c) (bad_recording (drop (2 * (t + 1)) recording))
      ∙ ap (λ (x : Bool). when is_marked bad then true else x) (sym split)
      ∙ w.left;
}
  where
    first : ℕ
    first = get_or recording (2 * t) 0

    c : ℕ
    c = get_or recording (2 * t + 1) 0

    here : TickIs recording t v
    here = tick.there (omega (arith, w.count))

    seen : is_marked n ≡ tick_refused first c
    seen = b ∙ ap₂ tick_refused here.first here.character

    next : 2 * t + 2 ≡ 2 * (t + 1)
    next = omega arith

    split : bad_recording (drop (2 * t) recording) ≡ (when tick_refused first c then true else bad_recording (drop (2 * (t + 1)) recording))
    split =
        ap bad_recording (two_more recording (2 * t) (omega arith))
        ∙ bad_tick first c (drop (2 * t + 2) recording)
        ∙ ap (λ (k : ℕ). when tick_refused first c then true else bad_recording (drop k recording)) next

-- what is said by the ticks from one on
pub ticks_on : (recording : List ℕ) (t : ℕ) → 2 * t + 2 ≤ length recording → ticks_of (drop (2 * t) recording) ≡ heard_of (get_or recording (2 * t) 0 / 32) (get_or recording (2 * t + 1) 0) ∷ ticks_of (drop (2 * (t + 1)) recording)
unfolding ticks_of
ticks_on recording t h =
    ap ticks_of (two_more recording (2 * t) (omega arith))
    ∙ ap (λ (k : ℕ). heard_of (get_or recording (2 * t) 0 / 32) (get_or recording (2 * t + 1) 0) ∷ ticks_of (drop k recording)) (next t)
  where
    next : (t : ℕ) → 2 * t + 2 ≡ 2 * (t + 1)
    next t = omega arith

short_silent : (l : List ℕ) → length l < 2 → ticks_of l ≡ []
unfolding ticks_of
short_silent [] h = refl
short_silent (a ∷ []) h = refl
short_silent (a ∷ b ∷ l) h = absurd (omega arith)

-- no tick is left
pub ticks_over : (recording : List ℕ) (t : ℕ) → length recording / 2 ≤ t → ticks_of (drop (2 * t) recording) ≡ []
ticks_over recording t h = short_silent (drop (2 * t) recording) (omega (arith, length-drop (2 * t) recording))

-- a tick for every two bytes
pub length_ticks : (l : List ℕ) → length (ticks_of l) ≡ length l / 2
unfolding ticks_of
length_ticks [] = refl
length_ticks (a ∷ []) = refl
length_ticks (a ∷ b ∷ l) = omega (arith, length_ticks l)

-- two pieces, the first of whole ticks, one behind the other
pub ticks_both : (n : ℕ) (first second : List ℕ) → length first ≡ 2 * n → ticks_of (first ++ second) ≡ ticks_of first ++ ticks_of second
unfolding ticks_of
ticks_both n [] second e = refl
ticks_both n (a ∷ []) second e = absurd (omega arith)
ticks_both zero (a ∷ b ∷ first) second e = absurd (omega arith)
ticks_both (suc n) (a ∷ b ∷ first) second e = ap (λ (l : List Heard). heard_of (a / 32) b ∷ l) (ticks_both n first second (omega arith))

-- they are bad just where one of them is
pub bad_both : (n : ℕ) (first second : List ℕ) → length first ≡ 2 * n → bad_recording (first ++ second) ≡ (when bad_recording first then true else bad_recording second)
unfolding bad_recording
bad_both n [] second e = sym (if_is_false false true (bad_recording second) refl)
bad_both n (a ∷ []) second e = absurd (omega arith)
bad_both zero (a ∷ b ∷ first) second e = absurd (omega arith)
bad_both (suc n) (a ∷ b ∷ first) second e =
    ap (λ (t : Bool). when tick_refused a b then true else t) (bad_both n first second (omega arith))
    ∙ sym (or_or (tick_refused a b) (bad_recording first) (bad_recording second))

-- a good recording's ticks are each good
pub good_here : (recording : List ℕ) (t : ℕ) → bad_recording (drop (2 * t) recording) ≡ false → 2 * t + 2 ≤ length recording
    → (tick_refused (get_or recording (2 * t) 0) (get_or recording (2 * t + 1) 0) ≡ false) × (bad_recording (drop (2 * (t + 1)) recording) ≡ false)
good_here recording t e h = went_else (tick_refused (get_or recording (2 * t) 0) (get_or recording (2 * t + 1) 0)) true _ false (sym split ∙ e) true_false
  where
    next : (t : ℕ) → 2 * t + 2 ≡ 2 * (t + 1)
    next t = omega arith

    split : bad_recording (drop (2 * t) recording) ≡ (when tick_refused (get_or recording (2 * t) 0) (get_or recording (2 * t + 1) 0) then true else bad_recording (drop (2 * (t + 1)) recording))
    split =
        ap bad_recording (two_more recording (2 * t) (omega arith))
        ∙ bad_tick (get_or recording (2 * t) 0) (get_or recording (2 * t + 1) 0) (drop (2 * t + 2) recording)
        ∙ ap (λ (k : ℕ). when tick_refused (get_or recording (2 * t) 0) (get_or recording (2 * t + 1) 0) then true else bad_recording (drop k recording)) (next t)

-- what follows a tick of a good recording is good, and so is each tick
pub good_from : (recording : List ℕ) → bad_recording recording ≡ false → (t : ℕ) → 2 * t ≤ length recording → bad_recording (drop (2 * t) recording) ≡ false
good_from recording g zero h = g
good_from recording g (suc t) h =
    subst (λ (k : ℕ). bad_recording (drop (2 * k) recording) ≡ false) (add-one t)
    (good_here recording t (good_from recording g t (omega arith)) (omega arith)).1

pub good_at : (recording : List ℕ) (t : ℕ) → bad_recording recording ≡ false → 2 * t + 2 ≤ length recording → tick_refused (get_or recording (2 * t) 0) (get_or recording (2 * t + 1) 0) ≡ false
good_at recording t g h = (good_here recording t (good_from recording g t (omega arith)) h).0

-- fewer than two bytes are no tick: none are good, and one is bad
short_bad : (l : List ℕ) (n : ℕ) → length l < 2 → length l ≡ n % 2 → bad_recording l ≡ (n % 2 =? 1)
unfolding bad_recording
short_bad [] n h e = sym (ne_eqb (n % 2) 1 (λ k. absurd (omega arith)))
short_bad (a ∷ []) n h e = sym (eq-eqb (n % 2) 1 (sym e))
short_bad (a ∷ b ∷ l) n h e = absurd (omega arith)

rest_bad : (recording : List ℕ) (t : ℕ) → 2 * t ≤ length recording → length recording / 2 ≤ t → bad_recording (drop (2 * t) recording) ≡ (length recording % 2 =? 1)
rest_bad recording t h k =
    short_bad (drop (2 * t) recording) (length recording) (omega (arith, length-drop (2 * t) recording)) (length-drop (2 * t) recording ∙ omega arith)

pub looked_good : (recording : List ℕ) (ticks bad t : ℕ) (r : Bool) → Looking recording ticks bad t → ticks ≤ t → bad ≡ 0 → r ≡ (length recording % 2 =? 1) → r ≡ bad_recording recording
looked_good recording ticks bad t r w h z e = e ∙ sym (rest_bad recording t w.within (omega arith)) ∙ sym (if_is_false (is_marked bad) true _ (unmarked bad z)) ∙ w.left

pub looked_bad : (recording : List ℕ) (ticks bad t : ℕ) (r : Bool) → Looking recording ticks bad t → (bad ≡ 0 → ⊥) → r ≡ true → r ≡ bad_recording recording
looked_bad recording ticks bad t r w z e = e ∙ sym (if_is_true (is_marked bad) true _ (marked bad z)) ∙ w.left

pub ruleset forms = (refl, or_marks, tick_there, tick_beyond, badness_is, looking_none, looking_more, looked_good, looked_bad)
