-- Two masters that rest, and the loops.
use Prim.Native.Nat.{ℕ, zero, suc, ◌+◌, ◌≤◌, ◌<◌}
use native.Mathlib.Numerals.{add-one}
use native.Mathlib.Omega.{arith}
use mathlib.Core.Bool.{Bool, true, false}
use mathlib.Core.List.{List, [], ◌∷◌, ◌++◌, map, append-nil, append_assoc}
use mathlib.Core.Path.{◌≡◌, refl, sym, ap, ◌∙◌, ap₂}
use lib.ListN.{length, take, drop, get_or, set, length-set, drop_of_length-le}
use lib.Seq.{drop-cons, drop-set-lt, take_all, take-suc-set}
use Rattle.std.specs.Prelude.{Option}
use Rattle.base.specs.Choice.{when◌then◌else◌}
use Rattle.turns.specs.declared.Device.{Device}
use Rattle.turns.specs.declared.Master.{Master}
use Rattle.link_parties.specs.Stands.{any_master}
use Rattle.link_rests.specs.Rests.{master_rests, slot_rests, slots_rest, masters_rest, slot_rested}

-- ---- who rests

-- what stands at a place of two masters does not depend on what would stand behind them
at_place : (ms : List Master) (i : ℕ) (d : Master) → i < length ms → get_or ms i d ≡ get_or ms i any_master
at_place [] i d h = absurd (omega arith)
at_place (m ∷ ms) zero d h = refl
at_place (m ∷ ms) (suc i) d h = at_place ms i d (omega arith)

pub masters_rest_both : (ms : List Master) (d e : Master) (a b r : Bool) → length ms ≡ 2 → a ≡ master_rests (get_or ms 0 d) → b ≡ master_rests (get_or ms 1 e)
    → r ≡ (when a then b else false) → r ≡ masters_rest ms
masters_rest_both ms d e a b r two p q k =
    k ∙ ap₂ (λ (s t : Bool). when s then t else false) (p ∙ ap master_rests (at_place ms 0 d (omega (arith, two)))) (q ∙ ap master_rests (at_place ms 1 e (omega (arith, two))))

-- ---- the loop over the slots: who rests

pub record Asked (ss : List (Option Device)) (rest : Bool) (i : ℕ) : Type 0 where
  pub six : length ss ≡ 6
  pub within : i ≤ 6
  pub left : (when rest then slots_rest (drop i ss) else false) ≡ slots_rest ss

pub asked_none : (ss : List (Option Device)) → length ss ≡ 6 → Asked ss true 0
unfolding when◌then◌else◌
asked_none ss e = record { six = e; within = omega arith; left = refl }

pub asked_more : (ss : List (Option Device)) (rest rests both : Bool) (i : ℕ) (d : Option Device) → Asked ss rest i → i < 6 → rests ≡ slot_rests (get_or ss i d) → both ≡ (when rest then rests else false) → Asked ss both (i + 1)
unfolding slots_rest when◌then◌else◌
asked_more ss rest rests both i d v h p q = record {
  six = v.six;
  within = omega arith;
  left =
      ap (λ (b : Bool). when b then slots_rest (drop (i + 1) ss) else false) q
      ∙ chained rest rests (slots_rest (drop (i + 1) ss))
      ∙ (λ j. when rest then (when p j then slots_rest (drop (add-one i j) ss) else false) else false)
      ∙ ap (λ (l : List (Option Device)). when rest then slots_rest l else false) (sym (drop-cons ss i d (omega (arith, v.six))))
      ∙ v.left;
}
  where
    chained : (a b c : Bool) → (when (when a then b else false) then c else false) ≡ (when a then (when b then c else false) else false)
    chained true b c = refl
    chained false b c = refl

pub asked_all : (ss : List (Option Device)) (rest : Bool) (i : ℕ) → Asked ss rest i → 6 ≤ i → rest ≡ slots_rest ss
unfolding slots_rest when◌then◌else◌
asked_all ss rest i v h = same rest ∙ ap (λ (l : List (Option Device)). when rest then slots_rest l else false) (sym (drop_of_length-le ss {i = i} (omega (arith, v.six)))) ∙ v.left
  where
    same : (b : Bool) → b ≡ (when b then true else false)
    same true = refl
    same false = refl

pub asked_stop : (ss : List (Option Device)) (i : ℕ) (d : Option Device) (rests : Bool) → Asked ss true i → i < 6 → rests ≡ slot_rests (get_or ss i d) → rests ≡ false → false ≡ slots_rest ss
unfolding when◌then◌else◌
asked_stop ss i d rests v h p q = (asked_more ss true false false i d v h (sym q ∙ p) refl).left

pub ruleset asking = (asked_none, asked_more, asked_all, asked_stop)

-- ---- the loop over the slots: what they are

pub record Resting (n : ℕ) (ss₀ ss : List (Option Device)) (i : ℕ) : Type 0 where
  pub six : length ss ≡ 6
  pub within : i ≤ 6
  pub left : take i ss ++ map (slot_rested n) (drop i ss) ≡ map (slot_rested n) ss₀

pub resting_none : (n : ℕ) (ss : List (Option Device)) → length ss ≡ 6 → Resting n ss ss 0
resting_none n ss e = record { six = e; within = omega arith; left = refl }

pub resting_more : (n : ℕ) (ss₀ ss : List (Option Device)) (i : ℕ) (d e : Option Device) → Resting n ss₀ ss i → i < 6 → e ≡ slot_rested n (get_or ss i d) → Resting n ss₀ (set ss i e) (i + 1)
resting_more n ss₀ ss i d e v h p = record {
  six = length-set ss i e ∙ v.six;
  within = omega arith;
  left =
      (λ j. take (add-one i j) (set ss i e) ++ map (slot_rested n) (drop-set-lt (i + 1) ss i e (omega arith) j))
      ∙ ap (λ (l : List (Option Device)). l ++ map (slot_rested n) (drop (i + 1) ss)) (take-suc-set ss i e (omega (arith, v.six)))
      ∙ append_assoc (take i ss) (e ∷ []) (map (slot_rested n) (drop (i + 1) ss))
      ∙ (λ j. take i ss ++ (p j ∷ map (slot_rested n) (drop (add-one i j) ss)))
      ∙ ap (λ (l : List (Option Device)). take i ss ++ map (slot_rested n) l) (sym (drop-cons ss i d (omega (arith, v.six))))
      ∙ v.left;
}

pub resting_all : (n : ℕ) (ss₀ ss : List (Option Device)) (i : ℕ) → Resting n ss₀ ss i → 6 ≤ i → ss ≡ map (slot_rested n) ss₀
resting_all n ss₀ ss i v h =
    sym (take_all i ss (omega (arith, v.six))) ∙ sym (append-nil (take i ss))
    ∙ ap (λ (l : List (Option Device)). take i ss ++ map (slot_rested n) l) (sym (drop_of_length-le ss {i = i} (omega (arith, v.six))))
    ∙ v.left

pub ruleset resting = (resting_none, resting_more, resting_all)
