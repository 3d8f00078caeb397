-- Laws of the first bad tick.
use Rattle.std.specs.Prelude.{Option, Some, None}
use Prim.Native.Nat.{ℕ, zero, suc, ◌+◌, ◌*◌, ◌/◌, ◌%◌, ◌≤◌, ◌<◌}
use native.Mathlib.Omega.{arith}
use mathlib.Core.Bool.{Bool, true, false}
use mathlib.Core.Path.{◌≡◌, refl, sym, ap, ◌∙◌}
use mathlib.Core.List.{List, [], ◌∷◌, ◌++◌}
use lib.ListN.{length, drop, get_or, length-drop}
use Rattle.base.specs.Choice.{when◌then◌else◌}
use Rattle.base.proofs.Choices.{if_is_true, if_is_false}
use Rattle.recording.specs.Form.{tick_refused, bad_recording}
use Rattle.recording.proofs.Runs.{two_more}
use Rattle.recording_lines.specs.Bad.{first_bad, is_bad}
use Rattle.recording_lines.specs.Claims.{BadInPieces, BadSaid}

-- ---- the loop: what is left gives what the whole gives

pub record Looking (recording : List ℕ) (ticks t : ℕ) : Type 0 where
  pub count : ticks ≡ length recording / 2
  pub within : 2 * t ≤ length recording
  pub left : first_bad t (drop (2 * t) recording) ≡ first_bad 0 recording

pub looking_none : (recording : List ℕ) (ticks : ℕ) → ticks ≡ length recording / 2 → Looking recording ticks 0
looking_none recording ticks e = record { count = e; within = omega arith; left = refl }

one : (t : ℕ) (l : List ℕ) → length l ≡ 1 → first_bad t l ≡ Some t
unfolding first_bad
one t [] e = absurd (omega arith)
one t (a ∷ []) e = refl
one t (a ∷ b ∷ l) e = absurd (omega arith)

none : (t : ℕ) (l : List ℕ) → length l ≡ 0 → first_bad t l ≡ None
unfolding first_bad
none t [] e = refl
none t (a ∷ l) e = absurd (omega arith)

module _ (recording : List ℕ) (ticks t : ℕ) (v : Looking recording ticks t) where
  split : t < ticks → first_bad t (drop (2 * t) recording) ≡ (when tick_refused (get_or recording (2 * t) 0) (get_or recording (2 * t + 1) 0) then Some t else first_bad (t + 1) (drop (2 * (t + 1)) recording))
  unfolding first_bad
  split h =
      ap (first_bad t) (two_more recording (2 * t) (omega (arith, v.count)))
      ∙ ap (λ (k : ℕ). when tick_refused (get_or recording (2 * t) 0) (get_or recording (2 * t + 1) 0) then Some t else first_bad (t + 1) (drop k recording)) (next t)
    where
      next : (t : ℕ) → 2 * t + 2 ≡ 2 * (t + 1)
      next t = omega arith

  pub looking_more : (r : Bool) → t < ticks → r ≡ tick_refused (get_or recording (2 * t) 0) (get_or recording (2 * t + 1) 0) → r ≡ false → Looking recording ticks (t + 1)
  looking_more r h e f = record {
    count = v.count;
    within = omega (arith, v.count);
    left = sym (if_is_false (tick_refused (get_or recording (2 * t) 0) (get_or recording (2 * t + 1) 0)) (Some t) _ (sym e ∙ f)) ∙ sym (split h) ∙ v.left;
  }

  pub bad_here : (r : Bool) (x : Option ℕ) → t < ticks → r ≡ tick_refused (get_or recording (2 * t) 0) (get_or recording (2 * t + 1) 0) → r ≡ true → x ≡ Some t → x ≡ first_bad 0 recording
  bad_here r x h e f k = k ∙ sym (if_is_true (tick_refused (get_or recording (2 * t) 0) (get_or recording (2 * t + 1) 0)) (Some t) _ (sym e ∙ f)) ∙ sym (split h) ∙ v.left

  pub bad_odd : (x : Option ℕ) → ticks ≤ t → length recording % 2 ≡ 1 → x ≡ Some ticks → x ≡ first_bad 0 recording
  bad_odd x h o k = k ∙ ap Some all ∙ sym (one t (drop (2 * t) recording) (omega (arith, length-drop (2 * t) recording, v.count, v.within))) ∙ v.left
    where
      all : ticks ≡ t
      all = omega (arith, v.count, v.within)

  pub bad_none : (x : Option ℕ) → ticks ≤ t → (length recording % 2 ≡ 1 → ⊥) → x ≡ None → x ≡ first_bad 0 recording
  bad_none x h o k = k ∙ sym (none t (drop (2 * t) recording) (omega (arith, length-drop (2 * t) recording, v.count, v.within))) ∙ v.left

pub ruleset bads = (refl, looking_none, looking_more, bad_here, bad_odd, bad_none)

-- ---- theorems

said_if : (t : ℕ) (r : Bool) (x : Option ℕ) (b : Bool) → is_bad x ≡ b → is_bad (when r then Some t else x) ≡ (when r then true else b)
unfolding when◌then◌else◌
said_if t true x b e = refl
said_if t false x b e = e

pub bad_said : BadSaid
unfolding first_bad bad_recording
bad_said t [] = refl
bad_said t (a ∷ []) = refl
bad_said t (a ∷ b ∷ recording) = said_if t (tick_refused a b) (first_bad (t + 1) recording) (bad_recording recording) (bad_said (t + 1) recording)

both_if : (t : ℕ) (r : Bool) (x y z : Option ℕ) → x ≡ (when is_bad y then y else z) → (when r then Some t else x) ≡ (when is_bad (when r then Some t else y) then (when r then Some t else y) else z)
unfolding when◌then◌else◌
both_if t true x y z e = refl
both_if t false x y z e = e

pub bad_in_pieces : BadInPieces
unfolding first_bad
bad_in_pieces t n [] second e = ap (λ (k : ℕ). first_bad k second) (still t n e) ∙ sym (if_is_false false None (first_bad (t + n) second) refl)
  where
    still : (t n : ℕ) → 0 ≡ 2 * n → t ≡ t + n
    still t n e = omega arith
bad_in_pieces t n (a ∷ []) second e = absurd (omega arith)
bad_in_pieces t zero (a ∷ b ∷ first) second e = absurd (omega arith)
bad_in_pieces t (suc n) (a ∷ b ∷ first) second e =
    both_if t (tick_refused a b) (first_bad (t + 1) (first ++ second)) (first_bad (t + 1) first) (first_bad (t + suc n) second)
    (bad_in_pieces (t + 1) n first second (omega arith) ∙ ap (λ (k : ℕ). when is_bad (first_bad (t + 1) first) then first_bad (t + 1) first else first_bad k second) (next t n))
  where
    next : (t n : ℕ) → t + 1 + n ≡ t + suc n
    next t n = omega arith
