-- Laws of lists in which one element is stored, and of what each slot gives.
use Prim.Native.Nat.{ℕ, suc, zero, ◌≤◌, ◌<◌}
use native.Mathlib.Omega.{arith}
use mathlib.Core.Bool.{Bool, true, false}
use mathlib.Core.List.{List, [], ◌∷◌}
use mathlib.Core.Path.{◌≡◌, refl, ap, ◌∙◌}
use lib.ListN.{length, drop, get_or, set, length-set}
use lib.Seq.{drop-cons, drop-set-lt, get_or-set_same, get_or-set_other}
use Rattle.link_ticks.specs.Ticks.{on_here}

module _ {A : Type 0} where
  -- the first n are the same
  abbrev pub Same : ℕ → List A → List A → Type 0
  Same n xs ys = (j : ℕ) (d : A) → j < n → get_or xs j d ≡ get_or ys j d

  -- fewer of them, where another is stored behind
  pub same_set : (m n k : ℕ) (xs ys : List A) (e : A) → Same m xs ys → n ≤ m → n ≤ k → Same n (set xs k e) ys
  same_set m n k xs ys e s h l = λ j d g. get_or-set_other xs k j e d (λ q. omega (arith, q, g, l)) ∙ s j d (omega (arith, g, h))

  pub same_less : (m n : ℕ) (xs ys : List A) → Same m xs ys → n ≤ m → Same n xs ys
  same_less m n xs ys s h = λ j d g. s j d (omega (arith, g, h))

  pub drop_set : (xs : List A) (n : ℕ) (e : A) → n < length xs → drop n (set xs n e) ≡ e ∷ drop (suc n) xs
  drop_set xs n e h =
      drop-cons (set xs n e) n e (omega (arith, length-set xs n e, h))
      ∙ (λ i. get_or-set_same xs n e e h i ∷ drop-set-lt (suc n) xs n e (omega arith) i)

  -- what stands at a place does not depend on what would stand behind the end
  pub any_default : (xs : List A) (n : ℕ) (d e : A) → n < length xs → get_or xs n d ≡ get_or xs n e
  any_default [] n d e h = absurd (omega arith)
  any_default (x ∷ xs) zero d e h = refl
  any_default (x ∷ xs) (suc n) d e h = any_default xs n d e (omega arith)

module _ {A B : Type 0} (f : A → B → B) where
  pub on_here_lem : (hs : List Bool) (a : A) (xs : List A) (b : B) (bs : List B) → on_here f (true ∷ hs) (a ∷ xs) (b ∷ bs) ≡ f a b ∷ on_here f hs xs bs
  unfolding on_here
  on_here_lem hs a xs b bs = refl

  pub on_none : (hs : List Bool) (xs : List A) (b : B) (bs : List B) → on_here f (false ∷ hs) xs (b ∷ bs) ≡ b ∷ on_here f hs xs bs
  unfolding on_here
  on_none hs xs b bs = refl

  pub on_end : (xs : List A) → on_here f [] xs [] ≡ []
  unfolding on_here
  on_end xs = refl

  pub on_length : (hs : List Bool) (xs : List A) (bs : List B) → length (on_here f hs xs bs) ≡ length bs
  unfolding on_here
  on_length hs xs [] = refl
  on_length [] xs (b ∷ bs) = refl
  on_length (false ∷ hs) xs (b ∷ bs) = ap suc (on_length hs xs bs)
  on_length (true ∷ hs) [] (b ∷ bs) = ap suc (on_length hs [] bs)
  on_length (true ∷ hs) (a ∷ xs) (b ∷ bs) = ap suc (on_length hs xs bs)
