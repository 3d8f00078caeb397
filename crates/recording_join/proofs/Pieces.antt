-- Theorem: what is said of two taps by their pieces (specs/Pieces).
use Rattle.std.specs.Prelude.{Option, Some, None, Result, Ok, Err}
use Prim.Native.Nat.{ℕ, suc, ◌+◌, ◌*◌}
use native.Mathlib.Omega.{arith}
use mathlib.Core.Path.{◌≡◌, refl, sym, ap, ap₂, ◌∙◌}
use mathlib.Core.Bool.{Bool, true, false}
use mathlib.Core.List.{List, [], ◌∷◌, ◌++◌, append-nil, append_assoc}
use lib.ListN.{length, length-append}
use borrow.Author.Tests.{eq-eqb, ne_eqb, eqb-true, eqb-false, le-ltb}
use Rattle.base.specs.Choice.{when◌then◌else◌, ◌=?◌, ◌<?◌}
use Rattle.base.specs.Refusal.{number}
use Rattle.base.specs.declared.Refusal.{Refusal}
use Rattle.base.specs.declared.Refusal.TheVariants.{BadRecording, UnequalTaps}
use Rattle.base.proofs.Choices.{if_is_true, if_is_false}
use Rattle.line.specs.declared.Heard.{Heard}
use Rattle.recording.specs.Form.{ticks_of, bad_recording}
use Rattle.recording.proofs.Forms.{length_ticks, ticks_both, bad_both}
use Rattle.recording_join.specs.Joining.{Together, both, differ, together, all_together, bytes_together, recorded, joined_of, difference_from, difference_of, by_difference, join_answer}
use Rattle.recording_join.specs.Pieces.{refused_by, pieced, Piece, piece_answer, answer_from, joined_pieces, first_tap, second_tap, IsRead, full, ended, AllRead, no_piece, piece_and, InPieces}
use Rattle.recording_join.specs.declared.JoinError.{JoinError}
use Rattle.recording_join.specs.declared.JoinError.TheVariants.{Refused, Differ}

together_both : (hs gs hs2 gs2 : List Heard) → length hs ≡ length gs → all_together (hs ++ hs2) (gs ++ gs2) ≡ all_together hs gs ++ all_together hs2 gs2
unfolding all_together
together_both [] [] hs2 gs2 e = refl
together_both [] (g ∷ gs) hs2 gs2 e = absurd (omega arith)
together_both (h ∷ hs) [] hs2 gs2 e = absurd (omega arith)
together_both (h ∷ hs) (g ∷ gs) hs2 gs2 e = ap (λ (l : List Together). together h g ∷ l) (together_both hs gs hs2 gs2 (omega arith))

recorded_both : (xs ys : List Together) → recorded (xs ++ ys) ≡ recorded xs ++ recorded ys
unfolding recorded
recorded_both [] ys = refl
recorded_both (x ∷ xs) ys = ap (λ (l : List ℕ). bytes_together x ++ l) (recorded_both xs ys) ∙ sym (append_assoc (bytes_together x) (recorded xs) (recorded ys))

-- what is found in some ticks and those behind them: the first difference, if they have one
abbrev or_else : Option ℕ → Option ℕ → Option ℕ
or_else (Some t) later = Some t
or_else None later = later

difference_both : (xs ys : List Together) (t : ℕ) → difference_from t (xs ++ ys) ≡ or_else (difference_from t xs) (difference_from (t + length xs) ys)
unfolding difference_from
difference_both [] ys t = ap (λ (n : ℕ). difference_from n ys) (none t)
  where
    none : (t : ℕ) → t ≡ t + 0
    none t = omega arith
difference_both (both h ∷ xs) ys t = difference_both xs ys (t + 1) ∙ ap (λ (n : ℕ). or_else (difference_from (t + 1) xs) (difference_from n ys)) (next t (length xs))
  where
    next : (t n : ℕ) → t + 1 + n ≡ t + suc n
    next t n = omega arith
difference_both (differ ∷ xs) ys t = refl

pub length_together : (hs gs : List Heard) → length hs ≡ length gs → length (all_together hs gs) ≡ length hs
unfolding all_together
length_together [] gs e = refl
length_together (h ∷ hs) [] e = absurd (omega arith)
length_together (h ∷ hs) (g ∷ gs) e = omega (arith, length_together hs gs (omega arith))

-- ---- the answer by three facts: whether a tap is bad, whether the lengths are unequal, and the first difference

abbrev either : Bool → Bool → Bool
either a b = when a then true else b

abbrev answer_by : Bool → Bool → Option ℕ → Result Unit JoinError
answer_by bad unequal d = when bad then Err (Refused BadRecording) else when unequal then Err (Refused UnequalTaps) else by_difference d

abbrev bad : List ℕ → List ℕ → Bool
bad first second = either (bad_recording first) (bad_recording second)

abbrev unequal : List ℕ → List ℕ → Bool
unequal first second = when length first =? length second then false else true

-- an answer with room enough
abbrev answer_of : List ℕ → List ℕ → Result Unit JoinError
answer_of first second = join_answer first second (length first)

by_tests : (a b e : Bool) (x : Result Unit JoinError) (d : Option ℕ) → x ≡ by_difference d
    → (when a then Err (Refused BadRecording) else when b then Err (Refused BadRecording) else when e then x else Err (Refused UnequalTaps)) ≡ answer_by (either a b) (when e then false else true) d
unfolding when◌then◌else◌
by_tests true b e x d k = refl
by_tests false true e x d k = refl
by_tests false false true x d k = k
by_tests false false false x d k = refl

answer_by_lem : (first second : List ℕ) → answer_of first second ≡ answer_by (bad first second) (unequal first second) (difference_of first second)
answer_by_lem first second =
    by_tests (bad_recording first) (bad_recording second) (length first =? length second) _ (difference_of first second)
    (if_is_false (length first <? length first) _ _ (le-ltb (length first) (length first) (omega arith)))

-- ---- the answers of two pieces

abbrev later : ℕ → Option ℕ → Option ℕ
later n None = None
later n (Some t) = Some (n + t)

bad_stays : (n : ℕ) (y : Result Unit JoinError) → pieced n (Err (Refused BadRecording)) y ≡ Err (Refused BadRecording)
unfolding pieced when◌then◌else◌
bad_stays n (Ok _) = refl
bad_stays n (Err (Refused why)) = refl
bad_stays n (Err (Differ t)) = refl

by_parts : (n : ℕ) (p u : Bool) (d : Option ℕ) (q v : Bool) (e : Option ℕ)
    → pieced n (answer_by p u d) (answer_by q v e) ≡ answer_by (either p q) (either u v) (or_else d (later n e))
unfolding pieced when◌then◌else◌
by_parts n true u d q v e = bad_stays n (answer_by q v e)
by_parts n false true d true v e = refl
by_parts n false true d false true e = refl
by_parts n false true d false false None = refl
by_parts n false true d false false (Some t) = refl
by_parts n false false None true v e = refl
by_parts n false false None false true e = refl
by_parts n false false None false false None = refl
by_parts n false false None false false (Some t) = refl
by_parts n false false (Some s) true v e = refl
by_parts n false false (Some s) false true e = refl
by_parts n false false (Some s) false false None = refl
by_parts n false false (Some s) false false (Some t) = refl

either_four : (a b c d : Bool) → either (either a c) (either b d) ≡ either (either a b) (either c d)
unfolding when◌then◌else◌
either_four true b c d = refl
either_four false true true d = refl
either_four false false true d = refl
either_four false b false d = refl

-- ---- ticks count on

counted_on : (n t : ℕ) (zs : List Together) → difference_from (n + t) zs ≡ later n (difference_from t zs)
unfolding difference_from
counted_on n t [] = refl
counted_on n t (both h ∷ zs) = ap (λ (m : ℕ). difference_from m zs) (next n t) ∙ counted_on n (t + 1) zs
  where
    next : (n t : ℕ) → n + t + 1 ≡ n + (t + 1)
    next n t = omega arith
counted_on n t (differ ∷ zs) = refl

-- ---- a piece of each tap, and what follows

-- no ticks
bad_none : bad_recording [] ≡ false
unfolding bad_recording
bad_none = refl

none_joined : answer_of [] [] ≡ Ok tt
unfolding bad_recording ticks_of all_together difference_from when◌then◌else◌
none_joined = refl

joined_none : joined_of [] [] ≡ []
unfolding ticks_of all_together recorded
joined_none = refl

no_difference_none : difference_of [] [] ≡ None
unfolding ticks_of all_together difference_from
no_difference_none = refl

either_none : (a : Bool) → a ≡ either a false
unfolding when◌then◌else◌
either_none true = refl
either_none false = refl

or_nowhere : (n : ℕ) (d : Option ℕ) → d ≡ or_else d (later n None)
or_nowhere n None = refl
or_nowhere n (Some t) = refl

-- where the lengths are unequal no difference is asked for
not_asked : (b u : Bool) (d e : Option ℕ) → u ≡ true → answer_by b u d ≡ answer_by b u e
not_asked b u d e k = ap (λ (x : Result Unit JoinError). when b then Err (Refused BadRecording) else x) (if_is_true u _ _ k ∙ sym (if_is_true u _ _ k))

-- two lengths
abbrev apart : ℕ → ℕ → Bool
apart m n = when m =? n then false else true

apart_no : (m n : ℕ) → m ≡ n → apart m n ≡ false
apart_no m n e = if_is_true (m =? n) false true (eq-eqb m n e)

apart_yes : (m n : ℕ) → (m ≡ n → ⊥) → apart m n ≡ true
apart_yes m n e = if_is_false (m =? n) false true (ne_eqb m n e)

apart_sums : (m n k l : ℕ) → m ≡ n → apart (m + k) (n + l) ≡ either (apart m n) (apart k l)
apart_sums m n k l e = go (k =? l) refl
  where
    go : (t : Bool) → (k =? l) ≡ t → apart (m + k) (n + l) ≡ either (apart m n) (apart k l)
    go true f =
        let same : k ≡ l = eqb-true k l f in
        apart_no (m + k) (n + l) (omega arith) ∙ sym (if_is_false (apart m n) true (apart k l) (apart_no m n e) ∙ apart_no k l same)
    go false f =
        let other : k ≡ l → ⊥ = eqb-false k l f in
        apart_yes (m + k) (n + l) (λ z. other (omega arith)) ∙ sym (if_is_false (apart m n) true (apart k l) (apart_no m n e) ∙ apart_yes k l other)

module _ (n : ℕ) (a b a2 b2 : List ℕ) where
  abbrev together_of : List ℕ → List ℕ → List Together
  together_of first second = all_together (ticks_of first) (ticks_of second)

  record Halves : Type 0 where
    ticks : together_of (a ++ a2) (b ++ b2) ≡ together_of a b ++ together_of a2 b2
    long : length (together_of a b) ≡ n

  halves : length a ≡ 2 * n → length b ≡ 2 * n → Halves
  halves e f =
      let same : length (ticks_of a) ≡ length (ticks_of b) = omega (arith, length_ticks a, length_ticks b) in
      record {
        ticks = ap₂ all_together (ticks_both n a a2 e) (ticks_both n b b2 f) ∙ together_both (ticks_of a) (ticks_of b) (ticks_of a2) (ticks_of b2) same;
        long = omega (arith, length_together (ticks_of a) (ticks_of b) same, length_ticks a);
      }

  joined_halves : Halves → joined_of (a ++ a2) (b ++ b2) ≡ joined_of a b ++ joined_of a2 b2
  joined_halves h = ap recorded h.ticks ∙ recorded_both (together_of a b) (together_of a2 b2)

  difference_halves : Halves → difference_of (a ++ a2) (b ++ b2) ≡ or_else (difference_of a b) (later n (difference_of a2 b2))
  difference_halves h =
      ap (difference_from 0) h.ticks
      ∙ difference_both (together_of a b) (together_of a2 b2) 0
      ∙ ap (or_else (difference_of a b)) (ap (λ (m : ℕ). difference_from m (together_of a2 b2)) count ∙ counted_on n 0 (together_of a2 b2))
    where
      count : 0 + length (together_of a b) ≡ n + 0
      count = omega (arith, h.long)

  bad_tap : (l ls : List ℕ) → IsRead n l ls → bad_recording (l ++ ls) ≡ either (bad_recording l) (bad_recording ls)
  bad_tap l ls (full e) = bad_both n l ls e
  bad_tap l ls (ended h e) =
      ap (λ (k : List ℕ). bad_recording (l ++ k)) e
      ∙ ap bad_recording (append-nil l)
      ∙ either_none (bad_recording l)
      ∙ ap (either (bad_recording l)) (sym (ap bad_recording e ∙ bad_none))

  bad_halves : IsRead n a a2 → IsRead n b b2 → bad (a ++ a2) (b ++ b2) ≡ either (bad a b) (bad a2 b2)
  bad_halves r s = ap₂ either (bad_tap a a2 r) (bad_tap b b2 s) ∙ either_four (bad_recording a) (bad_recording b) (bad_recording a2) (bad_recording b2)

  -- the lengths, and the difference where it is asked for
  record Parts : Type 0 where
    lengths : unequal (a ++ a2) (b ++ b2) ≡ either (unequal a b) (unequal a2 b2)
    by_difference_lem : (w : Bool) → answer_by w (unequal (a ++ a2) (b ++ b2)) (difference_of (a ++ a2) (b ++ b2)) ≡ answer_by w (unequal (a ++ a2) (b ++ b2)) (or_else (difference_of a b) (later n (difference_of a2 b2)))

  by_lengths : apart (length (a ++ a2)) (length (b ++ b2)) ≡ apart (length a + length a2) (length b + length b2)
  by_lengths = ap₂ apart (length-append a a2) (length-append b b2)

  parts_apart : (length (a ++ a2) ≡ length (b ++ b2) → ⊥) → (length a ≡ length b → ⊥) → Parts
  parts_apart h k = record {
    lengths = apart_yes (length (a ++ a2)) (length (b ++ b2)) h ∙ sym (if_is_true (unequal a b) true (unequal a2 b2) (apart_yes (length a) (length b) k));
    by_difference_lem = λ w. not_asked w (unequal (a ++ a2) (b ++ b2)) (difference_of (a ++ a2) (b ++ b2)) (or_else (difference_of a b) (later n (difference_of a2 b2))) (apart_yes (length (a ++ a2)) (length (b ++ b2)) h);
  }

  parts : IsRead n a a2 → IsRead n b b2 → Parts
  parts (full e) (full f) = record {
    lengths = by_lengths ∙ apart_sums (length a) (length b) (length a2) (length b2) (e ∙ sym f);
    by_difference_lem = λ w. ap (answer_by w (unequal (a ++ a2) (b ++ b2))) (difference_halves (halves e f));
  }
  parts (full e) (ended h f) = parts_apart (λ z. absurd (omega (arith, length-append a a2, length-append b b2, ap length f))) (λ z. absurd (omega arith))
  parts (ended h e) (full f) = parts_apart (λ z. absurd (omega (arith, length-append a a2, length-append b b2, ap length e))) (λ z. absurd (omega arith))
  parts (ended h e) (ended k f) = record {
    lengths = ap₂ (λ (x y : List ℕ). unequal (a ++ x) (b ++ y)) e f
        ∙ ap₂ unequal (append-nil a) (append-nil b)
        ∙ either_none (unequal a b)
        ∙ ap (either (unequal a b)) (sym (apart_no (length a2) (length b2) (ap length e ∙ sym (ap length f))));
    by_difference_lem = λ w. ap (answer_by w (unequal (a ++ a2) (b ++ b2)))
        (ap₂ (λ (x y : List ℕ). difference_of (a ++ x) (b ++ y)) e f
        ∙ ap₂ difference_of (append-nil a) (append-nil b)
        ∙ or_nowhere n (difference_of a b)
        ∙ ap (λ (d : Option ℕ). or_else (difference_of a b) (later n d)) (sym (ap₂ difference_of e f ∙ no_difference_none)));
  }

  pub answer_halves : IsRead n a a2 → IsRead n b b2 → answer_of (a ++ a2) (b ++ b2) ≡ pieced n (answer_of a b) (answer_of a2 b2)
  answer_halves r s =
      let v : Parts = parts r s in
      answer_by_lem (a ++ a2) (b ++ b2)
      ∙ v.by_difference_lem (bad (a ++ a2) (b ++ b2))
      ∙ ap₂ (λ (x y : Bool). answer_by x y (or_else (difference_of a b) (later n (difference_of a2 b2)))) (bad_halves r s) v.lengths
      ∙ sym (by_parts n (bad a b) (unequal a b) (difference_of a b) (bad a2 b2) (unequal a2 b2) (difference_of a2 b2))
      ∙ ap₂ (pieced n) (sym (answer_by_lem a b)) (sym (answer_by_lem a2 b2))

  pub joined_parts : IsRead n a a2 → IsRead n b b2 → length (a ++ a2) ≡ length (b ++ b2) → joined_of (a ++ a2) (b ++ b2) ≡ joined_of a b ++ joined_of a2 b2
  joined_parts (full e) (full f) z = joined_halves (halves e f)
  joined_parts (full e) (ended h f) z = absurd (omega (arith, length-append a a2, length-append b b2, ap length f))
  joined_parts (ended h e) (full f) z = absurd (omega (arith, length-append a a2, length-append b b2, ap length e))
  joined_parts (ended h e) (ended k f) z =
      ap₂ (λ (x y : List ℕ). joined_of (a ++ x) (b ++ y)) e f
      ∙ ap₂ joined_of (append-nil a) (append-nil b)
      ∙ sym (append-nil (joined_of a b))
      ∙ ap (λ (l : List ℕ). joined_of a b ++ l) (sym (ap₂ joined_of e f ∙ joined_none))

  -- the rest of two taps of one length has one length
  pub rest_long : IsRead n a a2 → IsRead n b b2 → length (a ++ a2) ≡ length (b ++ b2) → length a2 ≡ length b2
  rest_long (full e) (full f) z = omega (arith, length-append a a2, length-append b b2)
  rest_long (full e) (ended h f) z = absurd (omega (arith, length-append a a2, length-append b b2, ap length f))
  rest_long (ended h e) (full f) z = absurd (omega (arith, length-append a a2, length-append b b2, ap length e))
  rest_long (ended h e) (ended k f) z = ap length e ∙ sym (ap length f)

-- ---- one piece after the other

refused_thrice : (a b c : Refusal) → refused_by (refused_by a b) c ≡ refused_by a (refused_by b c)
refused_thrice a b c = go (number a =? number BadRecording) refl
  where
    go : (t : Bool) → (number a =? number BadRecording) ≡ t → refused_by (refused_by a b) c ≡ refused_by a (refused_by b c)
    go true e =
        ap (λ (x : Refusal). refused_by x c) (if_is_true (number a =? number BadRecording) a b e)
        ∙ if_is_true (number a =? number BadRecording) a c e
        ∙ sym (if_is_true (number a =? number BadRecording) a (refused_by b c) e)
    go false e =
        ap (λ (x : Refusal). refused_by x c) (if_is_false (number a =? number BadRecording) a b e)
        ∙ sym (if_is_false (number a =? number BadRecording) a (refused_by b c) e)

pieced_thrice : (n k : ℕ) (x y z : Result Unit JoinError) → pieced (n + k) (pieced n x y) z ≡ pieced n x (pieced k y z)
unfolding pieced
pieced_thrice n k (Err (Refused a)) (Err (Refused b)) (Err (Refused c)) = ap (λ (x : Refusal). Err (Refused x)) (refused_thrice a b c)
pieced_thrice n k (Err (Refused a)) (Err (Refused b)) (Err (Differ t)) = refl
pieced_thrice n k (Err (Refused a)) (Err (Refused b)) (Ok _) = refl
pieced_thrice n k (Err (Refused a)) (Err (Differ s)) (Err (Refused c)) = refl
pieced_thrice n k (Err (Refused a)) (Err (Differ s)) (Err (Differ t)) = refl
pieced_thrice n k (Err (Refused a)) (Err (Differ s)) (Ok _) = refl
pieced_thrice n k (Err (Refused a)) (Ok _) (Err (Refused c)) = refl
pieced_thrice n k (Err (Refused a)) (Ok _) (Err (Differ t)) = refl
pieced_thrice n k (Err (Refused a)) (Ok _) (Ok _) = refl
pieced_thrice n k (Err (Differ r)) (Err (Refused b)) (Err (Refused c)) = refl
pieced_thrice n k (Err (Differ r)) (Err (Refused b)) (Err (Differ t)) = refl
pieced_thrice n k (Err (Differ r)) (Err (Refused b)) (Ok _) = refl
pieced_thrice n k (Err (Differ r)) (Err (Differ s)) (Err (Refused c)) = refl
pieced_thrice n k (Err (Differ r)) (Err (Differ s)) (Err (Differ t)) = refl
pieced_thrice n k (Err (Differ r)) (Err (Differ s)) (Ok _) = refl
pieced_thrice n k (Err (Differ r)) (Ok _) (Err (Refused c)) = refl
pieced_thrice n k (Err (Differ r)) (Ok _) (Err (Differ t)) = refl
pieced_thrice n k (Err (Differ r)) (Ok _) (Ok _) = refl
pieced_thrice n k (Ok _) (Err (Refused b)) (Err (Refused c)) = refl
pieced_thrice n k (Ok _) (Err (Refused b)) (Err (Differ t)) = refl
pieced_thrice n k (Ok _) (Err (Refused b)) (Ok _) = refl
pieced_thrice n k (Ok _) (Err (Differ s)) (Err (Refused c)) = refl
pieced_thrice n k (Ok _) (Err (Differ s)) (Err (Differ t)) = refl
pieced_thrice n k (Ok _) (Err (Differ s)) (Ok _) = refl
pieced_thrice n k (Ok _) (Ok _) (Err (Refused c)) = refl
pieced_thrice n k (Ok _) (Ok _) (Err (Differ t)) = ap (λ (x : ℕ). Err (Differ x)) (sum n k t)
  where
    sum : (n k t : ℕ) → n + k + t ≡ n + (k + t)
    sum n k t = omega arith
pieced_thrice n k (Ok _) (Ok _) (Ok _) = refl

nothing_more : (n : ℕ) (x : Result Unit JoinError) → pieced n x (Ok tt) ≡ x
unfolding pieced
nothing_more n (Err (Refused a)) = refl
nothing_more n (Err (Differ s)) = refl
nothing_more n (Ok _) = refl

nothing_before : (x : Result Unit JoinError) → pieced 0 (Ok tt) x ≡ x
unfolding pieced
nothing_before (Err (Refused a)) = refl
nothing_before (Err (Differ s)) = ap (λ (x : ℕ). Err (Differ x)) (none s)
  where
    none : (s : ℕ) → 0 + s ≡ s
    none s = omega arith
nothing_before (Ok _) = refl

answers_on : (size n : ℕ) (x : Result Unit JoinError) (ps : List Piece) → AllRead size ps → answer_from size n x ps ≡ pieced n x (answer_of (first_tap ps) (second_tap ps))
unfolding answer_from first_tap second_tap
answers_on size n x [] no_piece = sym (ap (pieced n x) none_joined ∙ nothing_more n x)
answers_on size n x (p ∷ ps) (piece_and r s rs) =
    answers_on size (n + size) (pieced n x (piece_answer p)) ps rs
    ∙ pieced_thrice n size x (piece_answer p) (answer_of (first_tap ps) (second_tap ps))
    ∙ ap (pieced n x) (sym (answer_halves size p.first p.second (first_tap ps) (second_tap ps) r s))

joined_on : (size : ℕ) (ps : List Piece) → AllRead size ps → length (first_tap ps) ≡ length (second_tap ps) → joined_pieces ps ≡ joined_of (first_tap ps) (second_tap ps)
unfolding joined_pieces first_tap second_tap
joined_on size [] no_piece e = sym joined_none
joined_on size (p ∷ ps) (piece_and r s rs) e =
    ap (λ (l : List ℕ). joined_of p.first p.second ++ l) (joined_on size ps rs (rest_long size p.first p.second (first_tap ps) (second_tap ps) r s e))
    ∙ sym (joined_parts size p.first p.second (first_tap ps) (second_tap ps) r s e)

pub in_pieces : InPieces
in_pieces size ps r = record {
  answer = answers_on size 0 (Ok tt) ps r ∙ nothing_before (answer_of (first_tap ps) (second_tap ps));
  joined = joined_on size ps r;
}
