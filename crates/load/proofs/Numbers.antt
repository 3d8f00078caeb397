-- Reading a number digit by digit: what is left gives what the whole gives.
use Prim.Native.Nat.{ℕ, suc, ◌+◌, ◌-◌, ◌*◌, ◌≤◌, ◌<◌}
use native.Mathlib.Omega.{arith}
use mathlib.Core.Path.{◌≡◌, refl, sym, ap, ◌∙◌}
use mathlib.Core.Bool.{Bool, true, false}
use mathlib.Core.List.{List, ◌∷◌}
use lib.ListN.{length, get_or, drop, drop_of_length-le}
use lib.Seq.{drop-cons}
use borrow.Author.Tests.{lt-ltb, le-ltb}
use Rattle.base.specs.Choice.{when◌then◌else◌, ◌<?◌, ◌outside◌to◌}
use Rattle.base.proofs.Choices.{if_is_true, if_is_false}
use Rattle.load.specs.Arguments.{largest, number_from}

pub record Reading (text : List ℕ) (n i : ℕ) : Type 0 where
  pub small : n ≤ largest
  pub left : number_from n (drop i text) ≡ number_from 0 text

pub reading_none : (text : List ℕ) → Reading text 0 0
reading_none text = record { small = omega arith; left = refl }

module _ (text : List ℕ) (n i c : ℕ) (v : Reading text n i) (h : i < length text) (e : c ≡ get_or text i 0) where
  here : number_from n (drop i text) ≡ number_from n (c ∷ drop (suc i) text)
  here = ap (number_from n) (drop-cons text i 0 h ∙ ap (λ (d : ℕ). d ∷ drop (suc i) text) (sym e))

  pub no_digit : (r : Bool) → r ≡ (c outside 48 to 57) → r ≡ true → 0 ≡ number_from 0 text
  unfolding number_from
  no_digit r p q = sym (if_is_true (c outside 48 to 57) 0 _ (sym p ∙ q)) ∙ sym here ∙ v.left

  digit : (r : Bool) → r ≡ (c outside 48 to 57) → r ≡ false → number_from n (c ∷ drop (suc i) text) ≡ (when largest <? n * 10 + (c - 48) then 0 else number_from (n * 10 + (c - 48)) (drop (suc i) text))
  unfolding number_from
  digit r p q = if_is_false (c outside 48 to 57) 0 _ (sym p ∙ q)

  pub too_large : (r : Bool) → r ≡ (c outside 48 to 57) → r ≡ false → largest < n * 10 + (c - 48) → 0 ≡ number_from 0 text
  too_large r p q k = sym (if_is_true (largest <? n * 10 + (c - 48)) 0 _ (lt-ltb largest (n * 10 + (c - 48)) k)) ∙ sym (digit r p q) ∙ sym here ∙ v.left

  pub reading_more : (r : Bool) → r ≡ (c outside 48 to 57) → r ≡ false → n * 10 + (c - 48) ≤ largest → Reading text (n * 10 + (c - 48)) (i + 1)
  reading_more r p q k = record {
    small = k;
    left =
        ap (λ (j : ℕ). number_from (n * 10 + (c - 48)) (drop j text)) (next i)
        ∙ sym (if_is_false (largest <? n * 10 + (c - 48)) 0 _ (le-ltb largest (n * 10 + (c - 48)) k))
        ∙ sym (digit r p q) ∙ sym here ∙ v.left;
  }
    where
      next : (j : ℕ) → j + 1 ≡ suc j
      next j = omega arith

pub reading_all : (text : List ℕ) (n i : ℕ) → Reading text n i → length text ≤ i → n ≡ number_from 0 text
unfolding number_from
reading_all text n i v h = sym (ap (number_from n) (drop_of_length-le text {i = i} h)) ∙ v.left

pub ruleset reads = (refl, reading_none, no_digit, too_large, reading_more, reading_all)
