-- Laws of the two loops: the search for a difference, and the joined ticks at the front of a buffer.
use Rattle.std.specs.Prelude.{Option, Some, None}
use Prim.Native.Nat.{ℕ, ◌+◌, ◌*◌, ◌/◌, ◌%◌, ◌≤◌, ◌<◌}
use native.Mathlib.Numerals.{add-one, add-two}
use native.Mathlib.Omega.{arith}
use mathlib.Core.Path.{◌≡◌, refl, sym, ap, ap₂, subst, ◌∙◌}
use mathlib.Core.Bool.{Bool, true, false}
use mathlib.Core.List.{List, [], ◌∷◌, ◌++◌}
use lib.ListN.{length, drop, set, get_or, length-set}
use borrow.Author.Tests.{eq-eqb, ne_eqb, eqb-true, eqb-false}
use Rattle.base.specs.Choice.{when◌then◌else◌, ◌=?◌, ◌<?◌}
use Rattle.base.specs.Store.{stored}
use Rattle.base.proofs.Choices.{if_is_true, if_is_false}
use Rattle.line.specs.Heard.{damage_number, heard_of}
use Rattle.line.specs.declared.Heard.{Heard}
use Rattle.line.specs.declared.Heard.TheVariants.{Silence, Character, Damaged}
use Rattle.recording.specs.Form.{ticks_of, tick_refused, bad_recording}
use Rattle.recording.specs.Recording.{TickIs, TickAt}
use Rattle.recording.proofs.Forms.{ticks_on, ticks_over, good_here}
use Rattle.recording.proofs.Ticks.{Good, silent, sound, hurt, good_tick, heard_as, heard_as_lem}
use Rattle.recording_join.specs.Joining.{Together, both, differ, together, all_together, bytes_together, recorded, joined_of, difference_from, difference_of}
use Rattle.recording_join.specs.Choosing.{takes_second, differs}
use Rattle.recording_join.proofs.Rule.{positive, rule_is}

-- ---- whether two ticks differ

pub both_not : (h : Heard) → both h ≡ differ → ⊥
both_not h e = let z : ◌≡◌ {A = ℕ} 0 1 = cc in omega arith

-- what the test tells of the two taken together
pub data Told (t : Bool) (z : Together) : Type 0 where
  alike : t ≡ false → (z ≡ differ → ⊥) → Told t z
  unlike : t ≡ true → z ≡ differ → Told t z

pub choice_not : (t : Bool) (g h : Heard) → (when t then both g else both h) ≡ differ → ⊥
unfolding when◌then◌else◌
choice_not true g h e = both_not g e
choice_not false g h e = both_not h e

module _ (x c y d v w : ℕ) (vx : v % 256 ≡ x) (vc : v / 256 ≡ c) (wy : w % 256 ≡ y) (wd : w / 256 ≡ d) where
  no_first : (x ≡ 32 → ⊥) → differs v w ≡ false
  unfolding differs
  no_first h = if_is_false (v % 256 =? 32) _ _ (ne_eqb (v % 256) 32 (λ e. h (sym vx ∙ e)))

  no_second : x ≡ 32 → (y ≡ 32 → ⊥) → differs v w ≡ false
  unfolding differs
  no_second e h =
      if_is_true (v % 256 =? 32) _ _ (eq-eqb (v % 256) 32 (vx ∙ e))
      ∙ if_is_false (w % 256 =? 32) _ _ (ne_eqb (w % 256) 32 (λ e. h (sym wy ∙ e)))

  two_sound : x ≡ 32 → y ≡ 32 → differs v w ≡ (when v =? w then false else true)
  unfolding differs
  two_sound e f =
      if_is_true (v % 256 =? 32) _ _ (eq-eqb (v % 256) 32 (vx ∙ e))
      ∙ if_is_true (w % 256 =? 32) _ _ (eq-eqb (w % 256) 32 (wy ∙ f))

  told_sound : x ≡ 32 → y ≡ 32 → Told (differs v w) (together (Character c) (Character d))
  told_sound e f = go (c =? d) refl
    where
      go : (t : Bool) → (c =? d) ≡ t → Told (differs v w) (together (Character c) (Character d))
      go true h =
          let same : c ≡ d = eqb-true c d h in
          alike (two_sound e f ∙ if_is_true (v =? w) false true (eq-eqb v w (omega arith)))
          (λ k. both_not (Character c) (sym (if_is_true (c =? d) _ _ h) ∙ k))
      go false h =
          let other : c ≡ d → ⊥ = eqb-false c d h in
          unlike (two_sound e f ∙ if_is_false (v =? w) false true (ne_eqb v w (λ k. other (sym vc ∙ ap (λ (n : ℕ). n / 256) k ∙ wd))))
          (if_is_false (c =? d) _ _ h)

  told_as : (g : Good x c) (h : Good y d) → Told (differs v w) (together (heard_as g) (heard_as h))
  told_as (silent e f) (silent a b) = alike (no_first (λ k. absurd (omega arith))) (both_not Silence)
  told_as (silent e f) (sound a) = alike (no_first (λ k. absurd (omega arith))) (both_not (Character d))
  told_as (silent e f) (hurt k a) = alike (no_first (λ k. absurd (omega arith))) (both_not (Damaged d k))
  told_as (sound e) (silent a b) = alike (no_second e (λ k. absurd (omega arith))) (both_not (Character c))
  told_as (sound e) (sound a) = told_sound e a
  told_as (sound e) (hurt k a) = alike (no_second e (λ z. absurd (omega (arith, positive k)))) (both_not (Character c))
  told_as (hurt j e) h = alike (no_first (λ z. absurd (omega (arith, positive j)))) (not_differ h)
    where
      not_differ : (h : Good y d) → together (Damaged c j) (heard_as h) ≡ differ → ⊥
      not_differ (silent a b) = both_not (Damaged c j)
      not_differ (sound a) = both_not (Character d)
      not_differ (hurt k a) = choice_not (damage_number k <? damage_number j) (Damaged d k) (Damaged c j)

  told : tick_refused x c ≡ false → tick_refused y d ≡ false → Told (differs v w) (together (heard_of (x / 32) c) (heard_of (y / 32) d))
  told p q =
      let g : Good x c = good_tick x c p in
      let h : Good y d = good_tick y d q in
      subst (Told (differs v w)) (ap₂ together (sym (heard_as_lem g)) (sym (heard_as_lem h))) (told_as g h)

-- ---- ticks that are left

-- the two taps from tick t on, taken together
abbrev pub left_of : List ℕ → List ℕ → ℕ → List Together
left_of first second t = all_together (ticks_of (drop (2 * t) first)) (ticks_of (drop (2 * t) second))

-- tick t of the two, taken together
abbrev pub tick_of : List ℕ → List ℕ → ℕ → Together
tick_of first second t = together (heard_of (get_or first (2 * t) 0 / 32) (get_or first (2 * t + 1) 0)) (heard_of (get_or second (2 * t) 0 / 32) (get_or second (2 * t + 1) 0))

left_on : (first second : List ℕ) (t : ℕ) → 2 * t + 2 ≤ length first → 2 * t + 2 ≤ length second → left_of first second t ≡ tick_of first second t ∷ left_of first second (t + 1)
unfolding all_together
left_on first second t h k = ap₂ all_together (ticks_on first t h) (ticks_on second t k)

left_over : (first second : List ℕ) (t : ℕ) → length first / 2 ≤ t → left_of first second t ≡ []
unfolding all_together
left_over first second t h = ap (λ (l : List Heard). all_together l (ticks_of (drop (2 * t) second))) (ticks_over first t h)

goes_on : (t : ℕ) (z : Together) (xs : List Together) → (z ≡ differ → ⊥) → difference_from t (z ∷ xs) ≡ difference_from (t + 1) xs
unfolding difference_from
goes_on t (both h) xs n = refl
goes_on t differ xs n = absurd (n refl)

is_here : (t : ℕ) (z : Together) (xs : List Together) → z ≡ differ → difference_from t (z ∷ xs) ≡ Some t
unfolding difference_from
is_here t z xs e = ap (λ (y : Together). difference_from t (y ∷ xs)) e

pub nowhere_over : (t : ℕ) → difference_from t [] ≡ None
unfolding difference_from
nowhere_over t = refl

-- ---- two good recordings, from tick t on

pub record Both (first second : List ℕ) (ticks t : ℕ) : Type 0 where
  pub count : ticks ≡ length first / 2
  pub within : 2 * t ≤ length first
  pub same_length : length first ≡ length second
  pub good_first : bad_recording (drop (2 * t) first) ≡ false
  pub good_second : bad_recording (drop (2 * t) second) ≡ false

both_begun : (first second : List ℕ) (ticks : ℕ) → ticks ≡ length first / 2 → length first ≡ length second → bad_recording first ≡ false → bad_recording second ≡ false → Both first second ticks 0
both_begun first second ticks e l p q = record { count = e; within = omega arith; same_length = l; good_first = p; good_second = q }

both_more : (first second : List ℕ) (ticks t : ℕ) → Both first second ticks t → t < ticks → Both first second ticks (t + 1)
both_more first second ticks t v h = record {
  count = v.count;
  within = omega arith;
  same_length = v.same_length;
  good_first = (good_here first t v.good_first (omega arith)).1;
  good_second = (good_here second t v.good_second (omega arith)).1;
}

both_told : (first second : List ℕ) (ticks t v w : ℕ) → Both first second ticks t → t < ticks → TickAt first t v → TickAt second t w → Told (differs v w) (tick_of first second t)
both_told first second ticks t v w b h p q =
    let one : TickIs first t v = p.there (omega (arith, b.count)) in
    let other : TickIs second t w = q.there (omega (arith, b.count, b.same_length)) in
    told (get_or first (2 * t) 0) (get_or first (2 * t + 1) 0) (get_or second (2 * t) 0) (get_or second (2 * t + 1) 0) v w one.first one.character other.first other.character
    (good_here first t b.good_first (omega arith)).0 (good_here second t b.good_second (omega arith)).0

-- ---- the search

pub record Searching (first second : List ℕ) (ticks t : ℕ) : Type 0 where
  pub taps : Both first second ticks t
  pub left : difference_from t (left_of first second t) ≡ difference_of first second

pub search_begun : (first second : List ℕ) (ticks : ℕ) → ticks ≡ length first / 2 → length first ≡ length second → bad_recording first ≡ false → bad_recording second ≡ false → Searching first second ticks 0
search_begun first second ticks e l p q = record { taps = both_begun first second ticks e l p q; left = refl }

not_alike : (t : Bool) (z : Together) → Told t z → t ≡ true → z ≡ differ
not_alike t z (alike e n) f = let k : ◌≡◌ {A = ℕ} 0 1 = cc in absurd (omega arith)
not_alike t z (unlike e d) f = d

not_unlike : (t : Bool) (z : Together) → Told t z → t ≡ false → z ≡ differ → ⊥
not_unlike t z (alike e n) f = n
not_unlike t z (unlike e d) f = let k : ◌≡◌ {A = ℕ} 0 1 = cc in absurd (omega arith)

pub search_more : (first second : List ℕ) (ticks t v w : ℕ) (r : Bool) → Searching first second ticks t → t < ticks → TickAt first t v → TickAt second t w → r ≡ differs v w → r ≡ false → Searching first second ticks (t + 1)
search_more first second ticks t v w r s h p q e f = record {
  taps = both_more first second ticks t s.taps h;
  left = sym (goes_on t (tick_of first second t) _ (not_unlike (differs v w) _ (both_told first second ticks t v w s.taps h p q) (sym e ∙ f)))
      ∙ ap (difference_from t) (sym (left_on first second t (omega arith) (omega arith)))
      ∙ s.left;
}

pub search_found : (first second : List ℕ) (ticks t v w : ℕ) (r : Bool) (u : Option ℕ) → Searching first second ticks t → t < ticks → TickAt first t v → TickAt second t w → r ≡ differs v w → r ≡ true → u ≡ Some t → u ≡ difference_of first second
search_found first second ticks t v w r u s h p q e f k =
    k
    ∙ sym (is_here t (tick_of first second t) (left_of first second (t + 1)) (not_alike (differs v w) _ (both_told first second ticks t v w s.taps h p q) (sym e ∙ f)))
    ∙ ap (difference_from t) (sym (left_on first second t (omega arith) (omega arith)))
    ∙ s.left

pub search_over : (first second : List ℕ) (ticks t : ℕ) (u : Option ℕ) → Searching first second ticks t → ticks ≤ t → u ≡ None → u ≡ difference_of first second
search_over first second ticks t u s h k =
    k ∙ sym (nowhere_over t) ∙ ap (difference_from t) (sym (left_over first second t (omega arith))) ∙ s.left

pub ruleset searches = (refl, search_begun, search_more, search_found, search_over)

-- ---- the joined ticks

pub record Joining (first second before : List ℕ) (ticks : ℕ) (out : List ℕ) (t : ℕ) : Type 0 where
  pub taps : Both first second ticks t
  pub room : length first ≤ length out
  pub lent : length out ≡ length before
  pub quiet : difference_from t (left_of first second t) ≡ None
  pub stores : stored out (2 * t) (recorded (left_of first second t)) ≡ stored before 0 (joined_of first second)

pub joining_begun : (first second before : List ℕ) (ticks : ℕ) → ticks ≡ length first / 2 → length first ≡ length second → bad_recording first ≡ false → bad_recording second ≡ false → length first ≤ length before → difference_of first second ≡ None → Joining first second before ticks before 0
joining_begun first second before ticks e l p q h n = record { taps = both_begun first second ticks e l p q; room = h; lent = refl; quiet = n; stores = refl }

-- the tick that is taken, by its two bytes
taken_bytes : (x c y d v w u : ℕ) (t : Bool) → t ≡ takes_second x y → v % 256 ≡ x → v / 256 ≡ c → w % 256 ≡ y → w / 256 ≡ d → v < 65536 → w < 65536 → u ≡ (when t then w else v)
    → (when takes_second x y then y ∷ d ∷ [] else x ∷ c ∷ []) ≡ u % 256 ∷ u / 256 ∷ []
unfolding when◌then◌else◌
taken_bytes x c y d v w u true e vx vc wy wd hv hw f =
    if_is_true (takes_second x y) _ _ (sym e)
    ∙ ap₂ (λ (a b : ℕ). a ∷ b ∷ []) (sym wy ∙ ap (λ (n : ℕ). n % 256) (sym f)) (omega arith)
taken_bytes x c y d v w u false e vx vc wy wd hv hw f =
    if_is_false (takes_second x y) _ _ (sym e)
    ∙ ap₂ (λ (a b : ℕ). a ∷ b ∷ []) (sym vx ∙ ap (λ (n : ℕ). n % 256) (sym f)) (omega arith)

store_two : (out : List ℕ) (i a b : ℕ) (l : List ℕ) → stored out i ((a ∷ b ∷ []) ++ l) ≡ stored (set (set out i a) (i + 1) b) (i + 2) l
unfolding stored
store_two out i a b l = simp (add-one, add-two) refl

record_on : (z : Together) (xs : List Together) → recorded (z ∷ xs) ≡ bytes_together z ++ recorded xs
unfolding recorded
record_on z xs = refl

not_here : (t : ℕ) (z : Together) (xs : List Together) → difference_from t (z ∷ xs) ≡ None → z ≡ differ → ⊥
not_here t z xs e f = let k : ◌≡◌ {A = ℕ} 0 1 = cc (is_here t z xs f) in omega arith

pub joining_more : (first second before : List ℕ) (ticks : ℕ) (out : List ℕ) (t v w u : ℕ) → Joining first second before ticks out t → t < ticks → TickAt first t v → TickAt second t w
    → u ≡ (when takes_second (v % 256) (w % 256) then w else v) → Joining first second before ticks (set (set out (2 * t) (u % 256)) (2 * t + 1) (u / 256)) (t + 1)
joining_more first second before ticks out t v w u j h p q e = record {
  taps = both_more first second ticks t j.taps h;
  room = simp length-set j.room;
  lent = simp length-set j.lent;
  quiet = sym (goes_on t (tick_of first second t) _ quiet_here) ∙ left_quiet;
  stores = ap (λ (k : ℕ). stored (set (set out (2 * t) (u % 256)) (2 * t + 1) (u / 256)) k (recorded (left_of first second (t + 1)))) next
      ∙ sym (store_two out (2 * t) (u % 256) (u / 256) _)
      ∙ ap (λ (l : List ℕ). stored out (2 * t) (l ++ recorded (left_of first second (t + 1)))) (sym bytes)
      ∙ ap (stored out (2 * t)) (sym (record_on (tick_of first second t) _))
      ∙ ap (λ (l : List Together). stored out (2 * t) (recorded l)) (sym split)
      ∙ j.stores;
}
  where
    x : ℕ
    x = get_or first (2 * t) 0

    y : ℕ
    y = get_or second (2 * t) 0

    next : 2 * (t + 1) ≡ 2 * t + 2
    next = omega arith

    split : left_of first second t ≡ tick_of first second t ∷ left_of first second (t + 1)
    split = left_on first second t (omega arith) (omega arith)

    left_quiet : difference_from t (tick_of first second t ∷ left_of first second (t + 1)) ≡ None
    left_quiet = ap (difference_from t) (sym split) ∙ j.quiet

    quiet_here : tick_of first second t ≡ differ → ⊥
    quiet_here = not_here t (tick_of first second t) _ left_quiet

    one : TickIs first t v
    one = p.there (omega (arith, j.taps.count))

    other : TickIs second t w
    other = q.there (omega (arith, j.taps.count, j.taps.same_length))

    bytes : bytes_together (tick_of first second t) ≡ u % 256 ∷ u / 256 ∷ []
    bytes =
        rule_is x (get_or first (2 * t + 1) 0) y (get_or second (2 * t + 1) 0) (good_here first t j.taps.good_first (omega arith)).0 (good_here second t j.taps.good_second (omega arith)).0 quiet_here
        ∙ taken_bytes x (get_or first (2 * t + 1) 0) y (get_or second (2 * t + 1) 0) v w u (takes_second (v % 256) (w % 256)) (ap₂ takes_second one.first other.first) one.first one.character other.first other.character one.small other.small e

pub joining_over : (first second before : List ℕ) (ticks : ℕ) (out : List ℕ) (t : ℕ) → Joining first second before ticks out t → ticks ≤ t → out ≡ stored before 0 (joined_of first second)
unfolding stored recorded
joining_over first second before ticks out t j h =
    sym (ap (λ (l : List Together). stored out (2 * t) (recorded l)) (left_over first second t (omega arith))) ∙ j.stores

pub ruleset joinings = (refl, joining_begun, joining_more, joining_over)
