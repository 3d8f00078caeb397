-- Laws of the answer: the choices of Joining.
use Rattle.std.specs.Prelude.{Option, Some, None, Result, Ok, Err}
use Prim.Native.Nat.{ℕ, ◌≤◌}
use native.Mathlib.Omega.{arith}
use borrow.Author.Tests.{eq-eqb, eqb-true, le-ltb, ltb-false}
use mathlib.Core.Path.{◌≡◌, refl, sym, ◌∙◌}
use mathlib.Core.Bool.{true, false}
use mathlib.Core.List.{List}
use lib.ListN.{length}
use Rattle.base.specs.Choice.{when◌then◌else◌, ◌<?◌, ◌=?◌}
use Rattle.base.proofs.Choices.{if_is_true, if_is_false, went_then, went_else}
use Rattle.base.specs.declared.Refusal.{Refusal}
use Rattle.base.specs.declared.Refusal.TheVariants.{BadRecording, BufferShort, UnequalTaps}
use Rattle.recording.specs.Form.{bad_recording}
use Rattle.recording_join.specs.Joining.{difference_of, by_difference, join_answer}
use Rattle.recording_join.specs.declared.JoinError.{JoinError}
use Rattle.recording_join.specs.declared.JoinError.TheVariants.{Refused, Differ}

-- ---- what an answer tells of the taps

record Reached (first second : List ℕ) (room : ℕ) (answer : Result Unit JoinError) : Type 0 where
  good_first : bad_recording first ≡ false
  good_second : bad_recording second ≡ false
  same_length : length first ≡ length second
  fits : length first ≤ room
  is : by_difference (difference_of first second) ≡ answer

abbrev ByRoom : List ℕ → List ℕ → ℕ → Result Unit JoinError
ByRoom first second room = when room <? length first then Err (Refused BufferShort) else by_difference (difference_of first second)

abbrev ByLength : List ℕ → List ℕ → ℕ → Result Unit JoinError
ByLength first second room = when length first =? length second then ByRoom first second room else Err (Refused UnequalTaps)

-- an answer that is no refusal by its number alone
reached : (first second : List ℕ) (room : ℕ) (answer : Result Unit JoinError) → ((why : Refusal) → Err (Refused why) ≡ answer → ⊥) → join_answer first second room ≡ answer → Reached first second room answer
reached first second room answer n e =
    let one : (bad_recording first ≡ false) × ((when bad_recording second then Err (Refused BadRecording) else ByLength first second room) ≡ answer) =
    went_else (bad_recording first) (Err (Refused BadRecording)) (when bad_recording second then Err (Refused BadRecording) else ByLength first second room) answer e (n BadRecording) in
    let two : (bad_recording second ≡ false) × (ByLength first second room ≡ answer) =
    went_else (bad_recording second) (Err (Refused BadRecording)) (ByLength first second room) answer one.1 (n BadRecording) in
    let three : ((length first =? length second) ≡ true) × (ByRoom first second room ≡ answer) =
    went_then (length first =? length second) (ByRoom first second room) (Err (Refused UnequalTaps)) answer two.1 (n UnequalTaps) in
    let four : ((room <? length first) ≡ false) × (by_difference (difference_of first second) ≡ answer) =
    went_else (room <? length first) (Err (Refused BufferShort)) (by_difference (difference_of first second)) answer three.1 (n BufferShort) in
    record {
      good_first = one.0;
      good_second = two.0;
      same_length = eqb-true (length first) (length second) three.0;
      fits = ltb-false room (length first) four.0;
      is = four.1;
    }

-- the other way round
pub answered : (first second : List ℕ) (room : ℕ) → bad_recording first ≡ false → bad_recording second ≡ false → length first ≡ length second → length first ≤ room → join_answer first second room ≡ by_difference (difference_of first second)
answered first second room p q l h =
    if_is_false (bad_recording first) _ _ p
    ∙ if_is_false (bad_recording second) _ _ q
    ∙ if_is_true (length first =? length second) _ _ (eq-eqb (length first) (length second) l)
    ∙ if_is_false (room <? length first) _ _ (le-ltb room (length first) h)

refused_not_joined : (why : Refusal) → ◌≡◌ {A = Result Unit JoinError} (Err (Refused why)) (Ok tt) → ⊥
refused_not_joined why e = let z : ◌≡◌ {A = ℕ} 0 1 = cc in omega arith

refused_not_differ : (t : ℕ) (why : Refusal) → ◌≡◌ {A = Result Unit JoinError} (Err (Refused why)) (Err (Differ t)) → ⊥
refused_not_differ t why e = let z : ◌≡◌ {A = ℕ} 0 1 = cc in omega arith

differ_not_joined : (t : ℕ) → ◌≡◌ {A = Result Unit JoinError} (Err (Differ t)) (Ok tt) → ⊥
differ_not_joined t e = let z : ◌≡◌ {A = ℕ} 0 1 = cc in omega arith

nowhere_joined : (d : Option ℕ) → by_difference d ≡ Ok tt → d ≡ None
nowhere_joined None e = refl
nowhere_joined (Some t) e = absurd (differ_not_joined t e)

differ_tick : (s t : ℕ) → ◌≡◌ {A = Result Unit JoinError} (Err (Differ s)) (Err (Differ t)) → Some s ≡ Some t
differ_tick s t e = cc

tick_differs : (d : Option ℕ) (t : ℕ) → by_difference d ≡ Err (Differ t) → d ≡ Some t
tick_differs None t e = absurd (differ_not_joined t (sym e))
tick_differs (Some s) t e = differ_tick s t e

-- two recordings that are joined
pub record Joinable (first second : List ℕ) : Type 0 where
  pub good_first : bad_recording first ≡ false
  pub good_second : bad_recording second ≡ false
  pub same_length : length first ≡ length second
  pub no_difference : difference_of first second ≡ None

pub joinable : (first second : List ℕ) (room : ℕ) → join_answer first second room ≡ Ok tt → Joinable first second
joinable first second room e =
    let v : Reached first second room (Ok tt) = reached first second room (Ok tt) refused_not_joined e in
    record { good_first = v.good_first; good_second = v.good_second; same_length = v.same_length; no_difference = nowhere_joined (difference_of first second) v.is }

pub difference_said : (first second : List ℕ) (room t : ℕ) → join_answer first second room ≡ Err (Differ t) → difference_of first second ≡ Some t
difference_said first second room t e = tick_differs (difference_of first second) t (reached first second room (Err (Differ t)) (refused_not_differ t) e).is
