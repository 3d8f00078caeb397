-- The search from 255 down.
use Prim.Native.Nat.{ℕ, zero, suc, ◌-◌, ◌≤◌, ◌<◌}
use native.Mathlib.Omega.{arith}
use mathlib.Core.Path.{◌≡◌, refl, sym, ap, ◌∙◌}
use borrow.Author.Tests.{le-leb, lt-leb}
use Rattle.base.proofs.Choices.{if_is_true, if_is_false}
use Rattle.line.specs.declared.Profile.{Profile}
use Rattle.turns.specs.Demand3.{longest_wait}
use Rattle.link_length.specs.Length.{is_within, largest_from}

pub record Searching (p : Profile) (retries wait n : ℕ) : Type 0 where
  pub left : largest_from n p retries wait ≡ largest_from 255 p retries wait

pub search_begun : (p : Profile) (retries wait : ℕ) → Searching p retries wait 255
search_begun p retries wait = record { left = refl }

found : (p : Profile) (retries wait n : ℕ) → 0 < n → longest_wait n p retries ≤ wait → n ≡ largest_from n p retries wait
unfolding largest_from
found p retries wait zero h w = absurd (omega arith)
found p retries wait (suc n) h w = sym (if_is_true (is_within p retries wait (suc n)) _ _ (le-leb (longest_wait (suc n) p retries) wait w))

passed : (p : Profile) (retries wait n : ℕ) → 0 < n → wait < longest_wait n p retries → largest_from (n - 1) p retries wait ≡ largest_from n p retries wait
unfolding largest_from
passed p retries wait zero h w = absurd (omega arith)
passed p retries wait (suc n) h w =
    let k : suc n - 1 ≡ n = omega arith in
    ap (λ (m : ℕ). largest_from m p retries wait) k ∙ sym (if_is_false (is_within p retries wait (suc n)) _ _ (lt-leb (longest_wait (suc n) p retries) wait w))

pub search_found : (p : Profile) (retries wait n w : ℕ) → Searching p retries wait n → 0 < n → w ≡ longest_wait n p retries → w ≤ wait → n ≡ largest_from 255 p retries wait
search_found p retries wait n w v h e k = found p retries wait n h (omega (arith, e, k)) ∙ v.left

pub search_on : (p : Profile) (retries wait n w : ℕ) → Searching p retries wait n → 0 < n → w ≡ longest_wait n p retries → wait < w → Searching p retries wait (n - 1)
search_on p retries wait n w v h e k = record { left = passed p retries wait n h (omega (arith, e, k)) ∙ v.left }

pub search_ended : (p : Profile) (retries wait n : ℕ) → Searching p retries wait n → n ≤ 0 → 0 ≡ largest_from 255 p retries wait
unfolding largest_from
search_ended p retries wait n v h = let k : 0 ≡ n = omega arith in ap (λ (m : ℕ). largest_from m p retries wait) k ∙ v.left

pub ruleset searches = (refl, search_begun, search_found, search_on, search_ended)
