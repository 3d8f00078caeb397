-- The whole play: a refused record size, a bad script, or the listing.
use Rattle.std.specs.Prelude.{Result, Ok, Err}
use Prim.Native.Nat.{ℕ}
use native.Mathlib.Omega.{arith}
use mathlib.Core.Bool.{Bool, true, false}
use mathlib.Core.Path.{◌≡◌, refl, sym, ap, subst, ◌∙◌}
use mathlib.Core.List.{List, [], ◌∷◌}
use Rattle.base.specs.Choice.{when◌then◌else◌, ◌=?◌}
use Rattle.base.specs.Refusal.{number, Called, accepted, refused, called_as}
use Rattle.base.specs.declared.Refusal.{Refusal}
use Rattle.base.proofs.Choices.{if_is_false, went_else}
use Rattle.texts.specs.Decimal.{decimal_of}
use Rattle.texts.specs.Put.{PutIs}
use Rattle.texts.proofs.Puts.{put_same}
use Rattle.player_script.specs.Script.{form_of, records_in, good_in}
use Rattle.player_script.specs.declared.Form.{Form}
use Rattle.player.specs.Play.{listing, output_of, play, sized_taken, play_sized}
use Rattle.player.proofs.Turned.{play_good}

-- what a call answered, where the code tests it
pub answer_is : (r t x : Bool) → r ≡ t → r ≡ x → t ≡ x
answer_is r t x e f = sym e ∙ f

pub plays_good : (form : Form) (script before : List ℕ) (r : ℕ) (after : List ℕ) → good_in form script ≡ true → PutIs (listing (records_in form script)) before 0 r after → PutIs (play form script) before 0 r after
plays_good form script before r after g p = put_same _ _ before 0 r after p (sym (play_good form script g))

-- "16", and a newline
bad_output : 49 ∷ 54 ∷ 10 ∷ [] ≡ output_of (refused 16)
unfolding decimal_of when◌then◌else◌
bad_output = refl

pub plays_bad : (form : Form) (script before : List ℕ) (r : ℕ) (after : List ℕ) → good_in form script ≡ false → PutIs (49 ∷ 54 ∷ 10 ∷ []) before 0 r after → PutIs (play form script) before 0 r after
unfolding play
plays_bad form script before r after g p = put_same _ _ before 0 r after p (bad_output ∙ sym (ap output_of (if_is_false (good_in form script) (accepted (records_in form script)) (refused 16) g)))

-- ---- by the record size

taken_not : (f : Form) (n : ℕ) → ◌≡◌ {A = Called Form} (accepted f) (refused n) → ⊥
taken_not f n e = absurd (let z : ◌≡◌ {A = ℕ} 0 1 = cc in omega arith)

abbrev number_in : Called Form → ℕ
number_in (accepted f) = 0
number_in (refused n) = n

-- the only refusal is 24
only_24 : (size n : ℕ) → form_of size ≡ refused n → n ≡ 24
unfolding form_of
only_24 size n e =
    let a = (went_else (size =? 4) _ _ (refused n) e (taken_not _ n)).1 in
    sym (ap number_in (went_else (size =? 6) _ _ (refused n) a (taken_not _ n)).1)

-- "24", and a newline
size_output : 50 ∷ 52 ∷ 10 ∷ [] ≡ output_of (refused 24)
unfolding decimal_of when◌then◌else◌
size_output = refl

pub sized_plays : (size : ℕ) (script before : List ℕ) (r : ℕ) (after : List ℕ) (form : Form) (s : Result Form Refusal) → s ≡ Ok form → called_as s ≡ form_of size
    → PutIs (play form script) before 0 r after → PutIs (play_sized size script) before 0 r after
unfolding play_sized play
sized_plays size script before r after form s e q p = put_same _ _ before 0 r after p (ap (λ (c : Called Form). output_of (sized_taken c script)) (ap called_as (sym e) ∙ q))

pub size_refused : (size : ℕ) (script before : List ℕ) (r : ℕ) (after : List ℕ) (why : Refusal) (s : Result Form Refusal) → s ≡ Err why → called_as s ≡ form_of size
    → PutIs (50 ∷ 52 ∷ 10 ∷ []) before 0 r after → PutIs (play_sized size script) before 0 r after
unfolding play_sized
size_refused size script before r after why s e q p =
    let same : refused (number why) ≡ form_of size = ap called_as (sym e) ∙ q in
    put_same _ _ before 0 r after p (size_output ∙ ap (λ (n : ℕ). output_of (refused n)) (sym (only_24 size (number why) (sym same))) ∙ ap (λ (c : Called Form). output_of (sized_taken c script)) same)

pub ruleset sizes = (refl, sized_plays, size_refused)
