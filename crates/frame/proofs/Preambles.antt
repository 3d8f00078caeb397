-- Laws of the preamble: how it is counted, and how it is set apart from what stands behind it.
use Prim.Native.Nat.{ℕ, zero, suc, ◌+◌}
use native.Mathlib.Numerals.{add-one}
use mathlib.Core.Path.{◌≡◌, refl, sym, ap, ◌∙◌}
use mathlib.Core.Bool.{Bool, true, false}
use mathlib.Core.List.{List, [], ◌∷◌, ◌++◌}
use lib.ListN.{drop}
use borrow.Author.Tests.{eqb-true}
use Rattle.base.specs.Choice.{when◌then◌else◌, ◌=?◌}
use Rattle.base.proofs.Choices.{if_unequal}
use Rattle.frame.specs.Address.{byte_at}
use Rattle.frame.specs.Frame.{preamble_bytes}
use Rattle.frame.specs.Read.{preambles}

-- so many 0xFF in front of another byte are so many preambles
pub preambles_are : (n : ℕ) (bytes : List ℕ) → preambles bytes ≡ 0 → preambles (preamble_bytes n ++ bytes) ≡ n
unfolding preambles preamble_bytes when◌then◌else◌
preambles_are zero bytes e = e
preambles_are (suc n) bytes e = add-one _ ∙ ap suc (preambles_are n bytes e)

pub no_preamble : (bytes : List ℕ) → (byte_at bytes 0 ≡ 0xFF → ⊥) → preambles bytes ≡ 0
unfolding preambles
no_preamble [] f = refl
no_preamble (b ∷ bytes) f = sym (if_unequal b 0xFF 0 _ 0 f refl)

-- what stands in front of the first other byte are 0xFF
pub preambles_split : (bytes : List ℕ) → bytes ≡ preamble_bytes (preambles bytes) ++ drop (preambles bytes) bytes
unfolding preambles preamble_bytes when◌then◌else◌
preambles_split [] = refl
preambles_split (b ∷ bytes) = go (b =? 0xFF) refl (preambles_split bytes)
  where
    all : ℕ → List ℕ
    all n = preamble_bytes n ++ drop n (b ∷ bytes)

    go : (t : Bool) → (b =? 0xFF) ≡ t → bytes ≡ preamble_bytes (preambles bytes) ++ drop (preambles bytes) bytes → b ∷ bytes ≡ all (when t then preambles bytes + 1 else 0)
    go true e rest = ap (λ (c : ℕ). c ∷ bytes) (eqb-true b 0xFF e) ∙ ap (λ (l : List ℕ). 0xFF ∷ l) rest ∙ ap all (sym (add-one (preambles bytes)))
    go false e rest = refl
