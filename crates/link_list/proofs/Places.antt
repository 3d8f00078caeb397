-- Laws of places in a list of ticks: its bytes, the calls, their data, and the place behind a call.
use Prim.Native.Nat.{ℕ, suc, ◌+◌, ◌-◌, ◌*◌, ◌/◌, ◌%◌, ◌^◌, ◌≤◌, ◌<◌}
use native.Mathlib.Omega.{arith}
use mathlib.Core.Path.{◌≡◌, refl, sym, ap, ◌∙◌}
use mathlib.Core.List.{List, [], ◌∷◌}
use lib.ListN.{length, take, drop, get_or, length-drop}
use lib.Seq.{take_all}
use Rattle.base.proofs.Choices.{if_not_below, if_unequal}
use Rattle.frame.specs.Address.{byte_at}
use Rattle.link_list.specs.Ticks.{kind_in, address_in, length_in}
use Rattle.link_list.specs.Read.{part_in, forward, next_in}

short : (xs : List ℕ) (k : ℕ) → length xs ≤ k → get_or xs k 0 ≡ 0
short [] k h = refl
short (x ∷ xs) Prim.Native.Nat.zero h = absurd (omega arith)
short (x ∷ xs) (suc k) h = short xs k (omega arith)

pub byte_behind : (rest : List ℕ) (k : ℕ) → length rest ≤ k → 0 ≡ byte_at rest k
byte_behind rest k h = sym (short rest k h)

-- numbers of several bytes
pub length_is : (rest : List ℕ) (high low n : ℕ) → high ≡ byte_at rest 8 → low ≡ byte_at rest 9 → n ≡ (high * 256 + low) % 257 → n ≡ length_in rest
length_is rest high low n p q e = e ∙ (λ i. (p i * 256 + q i) % 257)

pub length_same : (a b high low : ℕ) → a ≡ high → b ≡ low → (a * 256 + b) % 257 ≡ (high * 256 + low) % 257
length_same a b high low p q = λ i. (p i * 256 + q i) % 257

pub length_small : (high low n : ℕ) → n ≡ (high * 256 + low) % 257 → n < 257
length_small high low n e = omega arith

pub address_is : (rest : List ℕ) (a b c d e n : ℕ) → a ≡ byte_at rest 3 → b ≡ byte_at rest 4 → c ≡ byte_at rest 5 → d ≡ byte_at rest 6 → e ≡ byte_at rest 7
    → n ≡ a * 2 ^ 32 + b * 2 ^ 24 + c * 2 ^ 16 + d * 2 ^ 8 + e → n ≡ address_in rest
address_is rest a b c d e n p q r s t f = f ∙ (λ i. p i * 2 ^ 32 + q i * 2 ^ 24 + r i * 2 ^ 16 + s i * 2 ^ 8 + t i)

-- what is left of the list, as the code's slice of it
rest_is : (ticks : List ℕ) (at : ℕ) → take (length ticks - at) (drop at ticks) ≡ drop at ticks
rest_is ticks at = take_all (length ticks - at) (drop at ticks) (omega (arith, length-drop at ticks))

-- a call's data
pub part_some : (ticks : List ℕ) (at n : ℕ) → 10 ≤ length ticks - at → n ≡ length_in (take (length ticks - at) (drop at ticks)) → record { from = at + 10; count = n } ≡ part_in ticks at
part_some ticks at n h e = if_not_below (length ticks - at) 10 _ _ _ h (λ i. record { from = at + 10; count = (e ∙ ap length_in (rest_is ticks at)) i })

-- the place behind a call
pub next_some : (ticks : List ℕ) (at kind n r : ℕ) → kind ≡ byte_at (take (length ticks - at) (drop at ticks)) 0 → (kind ≡ 0 → ⊥) → n ≡ length_in (take (length ticks - at) (drop at ticks)) → r ≡ forward at (10 + n) (length ticks) → r ≡ next_in ticks at
unfolding next_in
next_some ticks at kind n r q z l f =
    if_unequal (kind_in (drop at ticks)) 0 _ _ _ (λ e. z (q ∙ ap kind_in (rest_is ticks at) ∙ e))
    (f ∙ ap (λ (m : ℕ). forward at (10 + m) (length ticks)) (l ∙ ap length_in (rest_is ticks at)))

pub ruleset places = (byte_behind, length_is, length_same, length_small, address_is)
