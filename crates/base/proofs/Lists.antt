-- A list that is made from its front on, one element at a time.
use Prim.Native.Nat.{ℕ, ◌+◌, ◌<◌}
use native.Mathlib.Numerals.{add-one}
use mathlib.Core.List.{List, [], ◌∷◌, ◌++◌, append_assoc}
use mathlib.Core.Path.{◌≡◌, sym, ap, ◌∙◌}
use lib.ListN.{length, take, set}
use lib.Seq.{take-suc-set}

pub front_more : {A : Type 0} (es fs : List A) (i : ℕ) (e : A) → i < length es → take i es ++ (e ∷ fs) ≡ take (i + 1) (set es i e) ++ fs
front_more {A} es fs i e h =
    sym (append_assoc (take i es) (e ∷ []) fs)
    ∙ ap (λ (l : List A). l ++ fs) (sym (take-suc-set es i e h))
    ∙ ap (λ (n : ℕ). take n (set es i e) ++ fs) (sym (add-one i))
