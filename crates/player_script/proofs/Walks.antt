-- A walk over the calls of a script: what is left of it gives what the whole gives; and the records that end with the stop.
use Rattle.std.specs.Prelude.{Option, Some, None}
use Prim.Native.Nat.{ℕ, ◌+◌, ◌-◌, ◌%◌, ◌≤◌, ◌<◌}
use native.Mathlib.Omega.{arith}
use mathlib.Core.Bool.{Bool, true, false}
use mathlib.Core.Path.{◌≡◌, refl, sym, ap, ◌∙◌}
use mathlib.Core.List.{List, [], ◌∷◌, ◌++◌}
use lib.ListN.{length, take, drop, get_or, set, take-append-drop}
use lib.Seq.{length-take-le}
use Rattle.player_script.specs.Script.{width, records_in, is_call}
use Rattle.player_script.specs.Pieces.{Gone, bad, up_to, with_call, with_one, walked_by, stops_after, ends_after, rest_good, walked_as}
use Rattle.player_script.specs.Walk.{entry_in}
use Rattle.player_script.specs.declared.Entry.{Entry}
use Rattle.player_script.specs.declared.Form.{Form}
use Rattle.player_script.specs.declared.Form.TheVariants.{Old, New}
use Rattle.player_script.proofs.Records.{width_some, records_more, records_none, records_last, records_append}
use Rattle.player_script.proofs.Good.{call_party, call_falls, call_none, call_twice, call_more}

-- ---- the loop

pub bad_stays : (es : List Entry) → walked_by bad es ≡ bad
unfolding walked_by
bad_stays [] = refl
bad_stays (e ∷ es) = bad_stays es

pub record Passing (f : Form) (piece : List ℕ) (since : ℕ) (before marks : List ℕ) (last at : ℕ) : Type 0 where
  pub within : at ≤ length piece
  pub left : walked_by (up_to last marks) (records_in f (drop at piece)) ≡ walked_by (up_to since before) (records_in f piece)

pub walk_begun : (f : Form) (piece : List ℕ) (since : ℕ) (marks : List ℕ) → Passing f piece since marks marks since 0
walk_begun f piece since marks = record { within = omega arith; left = refl }

-- a record begins here
pub walk_within : (f : Form) (piece : List ℕ) (at w : ℕ) → w ≡ width f → w ≤ length piece - at → at + width f ≤ length piece
walk_within f piece at w p h = omega (arith, p, h, width_some f)

module _ (f : Form) (piece : List ℕ) (since : ℕ) (before marks : List ℕ) (last at w : ℕ) (e : Entry) (same : w ≡ width f) (v : Passing f piece since before marks last at) (p : e ≡ entry_in f piece at) (h : w ≤ length piece - at) where
  left_is : walked_by (up_to since before) (records_in f piece) ≡ walked_by (with_call last marks e) (records_in f (drop (at + width f) piece))
  unfolding walked_by
  left_is =
      sym v.left ∙ ap (walked_by (up_to last marks)) (records_more f piece at (walk_within f piece at w same h))
      ∙ ap (λ (x : Entry). walked_by (with_call last marks x) (records_in f (drop (at + width f) piece))) (sym p)

  ends_bad : with_call last marks e ≡ bad → walked_as None marks ≡ walked_by (up_to since before) (records_in f piece)
  unfolding walked_as
  ends_bad q = sym (left_is ∙ ap (λ (g : Gone). walked_by g (records_in f (drop (at + width f) piece))) q ∙ bad_stays (records_in f (drop (at + width f) piece)))

  pub walk_falls : e.tick < last → walked_as None marks ≡ walked_by (up_to since before) (records_in f piece)
  walk_falls l = ends_bad (call_falls last marks e l)

  pub walk_no_call : (r : Bool) → last ≤ e.tick → r ≡ is_call e → r ≡ false → walked_as None marks ≡ walked_by (up_to since before) (records_in f piece)
  walk_no_call r l q t = ends_bad (call_none last marks e l (sym q ∙ t))

  pub walk_twice : (r : Bool) → last ≤ e.tick → r ≡ is_call e → r ≡ true → get_or marks e.party 0 ≡ e.tick + 1 → walked_as None marks ≡ walked_by (up_to since before) (records_in f piece)
  walk_twice r l q t s = ends_bad (call_twice last marks e l (sym q ∙ t) s)

  pub walk_more : (r : Bool) → last ≤ e.tick → r ≡ is_call e → r ≡ true → (get_or marks e.party 0 ≡ e.tick + 1 → ⊥) → Passing f piece since before (set marks e.party (e.tick + 1)) e.tick (at + w)
  walk_more r l q t s = record {
    within = omega (arith, same, walk_within f piece at w same h);
    left = ap (λ (n : ℕ). walked_by (up_to e.tick (set marks e.party (e.tick + 1))) (records_in f (drop (at + n) piece))) same
        ∙ sym (left_is ∙ ap (λ (g : Gone). walked_by g (records_in f (drop (at + width f) piece))) (call_more last marks e l (sym q ∙ t) s));
  }

pub walk_ended : (f : Form) (piece : List ℕ) (since : ℕ) (before marks : List ℕ) (last at w : ℕ) → w ≡ width f → Passing f piece since before marks last at → length piece - at < w
    → walked_as (Some last) marks ≡ walked_by (up_to since before) (records_in f piece)
unfolding walked_as walked_by
walk_ended f piece since before marks last at w p v h = ap (walked_by (up_to last marks)) (sym (records_none f piece at (omega (arith, p, h, v.within, width_some f)))) ∙ v.left

pub ruleset passes = (refl, call_party, walk_begun, walk_within, walk_falls, walk_no_call, walk_twice, walk_more, walk_ended)

-- ---- the records that are left, the last of them the stop

pub rest_append : (gone : Gone) (cs : List Entry) (b : Entry) (bs : List Entry) → rest_good gone (cs ++ (b ∷ bs)) ≡ rest_good (walked_by gone cs) (b ∷ bs)
unfolding walked_by rest_good
rest_append gone [] b bs = refl
rest_append gone (a ∷ []) b bs = refl
rest_append gone (a ∷ c ∷ cs) b bs = rest_append (with_one gone a) (c ∷ cs) b bs

less_whole : (f : Form) (n w : ℕ) → w ≡ width f → n % width f ≡ 0 → w ≤ n → (n - w) % width f ≡ 0
unfolding width
less_whole Old n w p e h = omega arith
less_whole New n w p e h = omega arith

pub rest_none : (f : Form) (gone : Gone) (rest : List ℕ) (w : ℕ) → w ≡ width f → length rest < w → false ≡ rest_good gone (records_in f rest)
unfolding rest_good
rest_none f gone rest w p h = sym (ap (rest_good gone) (records_none f rest 0 (omega (arith, p, h))))

-- where the last record begins
pub rest_within : (f : Form) (n w : ℕ) → w ≡ width f → w ≤ n → n - w + width f ≤ n
rest_within f n w p h = omega (arith, p, h)

module _ (f : Form) (rest : List ℕ) (since w : ℕ) (marks after : List ℕ) (r : Option ℕ) (same : w ≡ width f) (even : length rest % width f ≡ 0) (h : w ≤ length rest)
    (q : walked_as r after ≡ walked_by (up_to since marks) (records_in f (take (length rest - w) rest))) where
  calls_whole : length (take (length rest - w) rest) % width f ≡ 0
  calls_whole = ap (λ (n : ℕ). n % width f) (length-take-le (length rest - w) rest (omega arith)) ∙ less_whole f (length rest) w same even h

  parts_is : records_in f rest ≡ records_in f (take (length rest - w) rest) ++ (entry_in f rest (length rest - w) ∷ [])
  parts_is =
      ap (records_in f) (sym (take-append-drop (length rest - w) rest))
      ∙ records_append f (take (length rest - w) rest) (drop (length rest - w) rest) calls_whole
      ∙ ap (λ (es : List Entry). records_in f (take (length rest - w) rest) ++ es)
      (records_last f rest (length rest - w) (rest_within f (length rest) w same h) (omega (arith, same, h, width_some f)))

  judged : rest_good (up_to since marks) (records_in f rest) ≡ ends_after (walked_as r after) (entry_in f rest (length rest - w))
  unfolding rest_good
  judged =
      ap (rest_good (up_to since marks)) parts_is
      ∙ rest_append (up_to since marks) (records_in f (take (length rest - w) rest)) (entry_in f rest (length rest - w)) []
      ∙ ap (λ (g : Gone). ends_after g (entry_in f rest (length rest - w))) (sym q)

  pub rest_bad : r ≡ None → false ≡ rest_good (up_to since marks) (records_in f rest)
  unfolding walked_as
  rest_bad k = sym (judged ∙ ap (λ (x : Option ℕ). ends_after (walked_as x after) (entry_in f rest (length rest - w))) k)

  pub rest_stop : (last : ℕ) (e : Entry) (b : Bool) → r ≡ Some last → e ≡ entry_in f rest (length rest - w) → b ≡ stops_after last e → b ≡ rest_good (up_to since marks) (records_in f rest)
  unfolding walked_as
  rest_stop last e b k p s = s ∙ ap (stops_after last) p ∙ sym (judged ∙ ap (λ (x : Option ℕ). ends_after (walked_as x after) (entry_in f rest (length rest - w))) k)

pub ruleset rests = (refl, rest_none, rest_within, rest_bad, rest_stop)
