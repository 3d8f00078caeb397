-- Theorems: the claims of specs/Kept, and a run of each.
use Prim.Native.Nat.{ℕ, ◌%◌}
use native.Mathlib.Omega.{arith}
use borrow.Author.Tests.{le-ltb}
use mathlib.Core.Bool.{true, false}
use mathlib.Core.List.{List, [], ◌∷◌}
use mathlib.Core.Path.{◌≡◌, refl, sym, ap, ◌∙◌}
use lib.ListN.{length}
use Rattle.base.specs.Choice.{when◌then◌else◌, ◌<?◌}
use Rattle.base.specs.Refusal.{Called, accepted, refused}
use Rattle.base.proofs.Choices.{if_is_true, if_is_false, went_then, went_else}
use Rattle.player_script.specs.Script.{width, records_of, long_records_of, records_in, is_in, is_good, good_in}
use Rattle.player_script.specs.declared.Form.{Form}
use Rattle.player_script.specs.declared.Form.TheVariants.{Old, New}
use Rattle.player_convert.specs.Turn.{turned, other, most_tick, any_above, by_room, by_ticks, converted}
use Rattle.player_convert.specs.Kept.{TurnKeeps, Bytes, ThereAndBack}
use Rattle.player_convert.proofs.Kept.{old_bytes, new_bytes, good_turns, good_whole}
use Rattle.player_convert.proofs.Fits.{fits_other, own_fits, none_above}

not_refused : (n : ℕ) (bytes : List ℕ) → ◌≡◌ {A = Called (List ℕ)} (refused n) (accepted bytes) → ⊥
not_refused n bytes e = absurd (let z : ◌≡◌ {A = ℕ} 0 1 = cc in omega arith)

abbrev bytes_in : Called (List ℕ) → List ℕ
bytes_in (accepted bytes) = bytes
bytes_in (refused why) = []

-- what a result tells of its script
pub record Turned (f : Form) (script result : List ℕ) : Type 0 where
  pub good : good_in f script ≡ true
  pub fits : any_above (most_tick (other f)) (records_in f script) ≡ false
  pub is : result ≡ turned (other f) (records_in f script)

pub result_of : (f : Form) (script result : List ℕ) (room : ℕ) → converted f script room ≡ accepted result → Turned f script result
result_of f script result room e =
    let a = went_then (good_in f script) (by_ticks f script room) (refused 16) (accepted result) e (not_refused 16 result) in
    let b = went_else (any_above (most_tick (other f)) (records_in f script)) (refused 25) (by_room (turned (other f) (records_in f script)) room) (accepted result) a.1 (not_refused 25 result) in
    let c = went_else (room <? length (turned (other f) (records_in f script))) (refused 15) (accepted (turned (other f) (records_in f script))) (accepted result) b.1 (not_refused 15 result) in
    record { good = a.0; fits = b.0; is = sym (ap bytes_in c.1) }

pub turn_keeps : TurnKeeps
turn_keeps f script result room e =
    let t = result_of f script result room e in
    let k = good_turns f (other f) script t.good (fits_other f (other f) script t.fits) in
    record { good = ap (good_in (other f)) t.is ∙ k.0; same_records = ap (records_in (other f)) t.is ∙ k.1 }

-- ---- there and back

twice : (f : Form) → other (other f) ≡ f
twice Old = refl
twice New = refl

own_bytes : (f : Form) (s : List ℕ) → Bytes s → length s % width f ≡ 0 → turned f (records_in f s) ≡ s
unfolding records_in width
own_bytes Old s h m = old_bytes s h m
own_bytes New s h m = new_bytes s h m

pub there_and_back : ThereAndBack
there_and_back f script result room back bytes e enough =
    let t = result_of f script result room e in
    let k = turn_keeps f script result room e in
    let own : turned (other (other f)) (records_in (other f) result) ≡ script =
    (λ i. turned (twice f i) (k.same_records i)) ∙ own_bytes f script bytes (good_whole f script t.good) in
    let low : any_above (most_tick (other (other f))) (records_in (other f) result) ≡ false =
    (λ i. any_above (most_tick (twice f i)) (k.same_records i)) ∙ none_above f (records_in f script) (own_fits f script bytes) in
    if_is_true (good_in (other f) result) _ _ k.good
    ∙ if_is_false (any_above (most_tick (other (other f))) (records_in (other f) result)) _ _ low
    ∙ ap (λ (s : List ℕ). by_room s back) own
    ∙ if_is_false (back <? length script) _ _ (le-ltb back (length script) enough)

-- ---- runs

-- a script with a request and a stop, there and back
run_there : converted Old (0 ∷ 0 ∷ 1 ∷ 0 ∷ 0 ∷ 60 ∷ 0 ∷ 0 ∷ []) 12 ≡ accepted (0 ∷ 0 ∷ 0 ∷ 0 ∷ 1 ∷ 0 ∷ 0 ∷ 0 ∷ 0 ∷ 60 ∷ 0 ∷ 0 ∷ [])
unfolding records_in records_of good_in is_good width any_above turned when◌then◌else◌ is_in
run_there = refl

-- a byte less of room is 15
run_short : converted Old (0 ∷ 60 ∷ 0 ∷ 0 ∷ []) 5 ≡ refused 15
unfolding records_in records_of good_in is_good width any_above turned when◌then◌else◌
run_short = refl

-- 65,535 fits, 65,536 is 25, before 15
run_fits : converted New (0 ∷ 0 ∷ 255 ∷ 255 ∷ 0 ∷ 0 ∷ []) 4 ≡ accepted (255 ∷ 255 ∷ 0 ∷ 0 ∷ [])
unfolding records_in long_records_of good_in is_good width any_above turned when◌then◌else◌
run_fits = refl

run_above : converted New (0 ∷ 1 ∷ 0 ∷ 0 ∷ 0 ∷ 0 ∷ []) 0 ≡ refused 25
unfolding records_in long_records_of good_in is_good width any_above turned when◌then◌else◌
run_above = refl

-- without a good script the stop does not decide: two stops, the first at tick 65,536
run_bad : converted New (0 ∷ 1 ∷ 0 ∷ 0 ∷ 0 ∷ 0 ∷ 0 ∷ 0 ∷ 0 ∷ 0 ∷ 0 ∷ 0 ∷ []) 8 ≡ refused 16
unfolding records_in long_records_of good_in is_good width any_above turned when◌then◌else◌
run_bad = refl
