-- Laws of a choice by a test. Each says what a choice is where the test is known; `search choices` applies them to what the code's own tests showed.
use Prim.Native.Nat.{ℕ, ◌<◌, ◌≤◌}
use mathlib.Core.Path.{◌≡◌, refl, sym, ap, ◌∙◌}
use mathlib.Core.Bool.{Bool, true, false}
use native.Mathlib.Omega.{arith}
use borrow.Author.Tests.{lt-ltb, le-ltb, le-leb, lt-leb, eq-eqb, ne_eqb, ltb-false}
use Rattle.base.specs.Choice.{when◌then◌else◌, ◌<?◌, ◌≤?◌, ◌=?◌, ◌outside◌to◌}

pub true_false : true ≡ false → ⊥
true_false e = let k : ◌≡◌ {A = ℕ} 0 1 = cc in omega arith

module _ {A : Type 0} where
  pub if_true : (t : Bool) (x a b : A) → t ≡ true → x ≡ a → x ≡ (when t then a else b)
  unfolding when◌then◌else◌
  if_true t x a b e p = rw e p

  pub if_false : (t : Bool) (x a b : A) → t ≡ false → x ≡ b → x ≡ (when t then a else b)
  unfolding when◌then◌else◌
  if_false t x a b e p = rw e p

  -- what a choice is, as an equation
  pub if_is_true : (t : Bool) (a b : A) → t ≡ true → (when t then a else b) ≡ a
  if_is_true t a b e = sym (if_true t a a b e refl)

  pub if_is_false : (t : Bool) (a b : A) → t ≡ false → (when t then a else b) ≡ b
  if_is_false t a b e = sym (if_false t b a b e refl)

  -- the code tests what a call answered, and the definition what that answer equals
  pub if_answer_true : (r t : Bool) (x a b : A) → r ≡ t → r ≡ true → x ≡ a → x ≡ (when t then a else b)
  if_answer_true r t x a b q e p = if_true t x a b (sym q ∙ e) p

  pub if_answer_false : (r t : Bool) (x a b : A) → r ≡ t → r ≡ false → x ≡ b → x ≡ (when t then a else b)
  if_answer_false r t x a b q e p = if_false t x a b (sym q ∙ e) p

  pub if_below : (m n : ℕ) (x a b : A) → m < n → x ≡ a → x ≡ (when m <? n then a else b)
  if_below m n x a b h p = if_true (m <? n) x a b (lt-ltb m n h) p

  pub if_not_below : (m n : ℕ) (x a b : A) → n ≤ m → x ≡ b → x ≡ (when m <? n then a else b)
  if_not_below m n x a b h p = if_false (m <? n) x a b (le-ltb m n h) p

  pub if_at_most : (m n : ℕ) (x a b : A) → m ≤ n → x ≡ a → x ≡ (when m ≤? n then a else b)
  if_at_most m n x a b h p = if_true (m ≤? n) x a b (le-leb m n h) p

  pub if_above : (m n : ℕ) (x a b : A) → n < m → x ≡ b → x ≡ (when m ≤? n then a else b)
  if_above m n x a b h p = if_false (m ≤? n) x a b (lt-leb m n h) p

  pub if_equal : (m n : ℕ) (x a b : A) → m ≡ n → x ≡ a → x ≡ (when m =? n then a else b)
  if_equal m n x a b h p = if_true (m =? n) x a b (eq-eqb m n h) p

  pub if_unequal : (m n : ℕ) (x a b : A) → (m ≡ n → ⊥) → x ≡ b → x ≡ (when m =? n then a else b)
  if_unequal m n x a b h p = if_false (m =? n) x a b (ne_eqb m n h) p

pub ruleset choices = (refl, if_below, if_not_below, if_at_most, if_above, if_equal, if_unequal, if_true, if_false, if_answer_true, if_answer_false)

-- a definition by cases: w is what a call answered, v the case it is, u what the definition gives for it
pub by_case : {X Y A : Type 0} (g : X → Y) (f : Y → A) (w v : X) (u : Y) (r : A) → w ≡ v → g w ≡ u → r ≡ f (g v) → r ≡ f u
by_case g f w v u r e q p = p ∙ ap f (ap g (sym e) ∙ q)

-- the other way round: what a choice's value tells of its test
module _ {A : Type 0} where
  pub went_then : (t : Bool) (a b x : A) → (when t then a else b) ≡ x → (b ≡ x → ⊥) → (t ≡ true) × (a ≡ x)
  unfolding when◌then◌else◌
  went_then true a b x e f = (refl, e)
  went_then false a b x e f = absurd (f e)

  pub went_else : (t : Bool) (a b x : A) → (when t then a else b) ≡ x → (a ≡ x → ⊥) → (t ≡ false) × (b ≡ x)
  unfolding when◌then◌else◌
  went_else true a b x e f = absurd (f e)
  went_else false a b x e f = (refl, e)

-- what a range test tells
pub inside_low : (n low high : ℕ) (r : Bool) → r ≡ (n outside low to high) → r ≡ false → low ≤ n
inside_low n low high r q e = ltb-false n low (went_else (n <? low) true (high <? n) false (sym q ∙ e) true_false).0

pub inside_high : (n low high : ℕ) (r : Bool) → r ≡ (n outside low to high) → r ≡ false → n ≤ high
inside_high n low high r q e = ltb-false high n (went_else (n <? low) true (high <? n) false (sym q ∙ e) true_false).1

pub inside_is : (n low high : ℕ) → low ≤ n → n ≤ high → (n outside low to high) ≡ false
inside_is n low high h k = sym (if_not_below n low false true (high <? n) h (sym (le-ltb high n k)))
