-- Laws of the exclusive-or: for the loop that works it out, and for the check byte.
use Prim.Native.Nat.{ℕ, ◌+◌, ◌≤◌, ◌<◌}
use native.Mathlib.Omega.{arith}
use mathlib.Core.Path.{◌≡◌, refl, sym, ap, ◌∙◌}
use mathlib.Core.List.{List, [], ◌∷◌, ◌++◌}
use lib.ListN.{length, take, get_or}
use lib.Seq.{take_all}
use lib.Bits.{bit_xor, xor_self, xor_add_and, and_le_l, and_le_r}
use Rattle.base.proofs.Stores.{take_more}
use Rattle.std.specs.List.{fold}
use Rattle.frame.specs.Check.{xor_from, exclusive_or}

pub xor_append : (x : ℕ) (us vs : List ℕ) → xor_from x (us ++ vs) ≡ xor_from (xor_from x us) vs
unfolding xor_from
xor_append x [] vs = refl
xor_append x (u ∷ us) vs = xor_append (bit_xor x u) us vs

-- as an iterator's fold works it out
pub xor_is_fold : (x : ℕ) (bytes : List ℕ) → fold bit_xor x bytes ≡ xor_from x bytes
unfolding xor_from
xor_is_fold x [] = refl
xor_is_fold x (b ∷ bytes) = xor_is_fold (bit_xor x b) bytes

-- the loop: sum is the exclusive-or of x and the first i bytes
pub record Passed (x : ℕ) (bytes : List ℕ) (sum i : ℕ) : Type 0 where
  pub within : i ≤ length bytes
  pub so_far : sum ≡ xor_from x (take i bytes)

pub passed_none : (x : ℕ) (bytes : List ℕ) → Passed x bytes x 0
unfolding xor_from
passed_none x bytes = record { within = omega arith; so_far = refl }

pub passed_more : (x : ℕ) (bytes : List ℕ) (sum i : ℕ) → Passed x bytes sum i → i < length bytes → Passed x bytes (bit_xor sum (get_or bytes i 0)) (i + 1)
unfolding xor_from
passed_more x bytes sum i v h = record {
  within = omega arith;
  so_far = ap (λ (y : ℕ). bit_xor y (get_or bytes i 0)) v.so_far ∙ sym (xor_append x (take i bytes) (get_or bytes i 0 ∷ [])) ∙ ap (xor_from x) (take_more bytes i h);
}

pub passed_all : (x : ℕ) (bytes : List ℕ) (sum i : ℕ) → Passed x bytes sum i → length bytes ≤ i → sum ≡ xor_from x bytes
passed_all x bytes sum i v h = v.so_far ∙ ap (xor_from x) (take_all i bytes h)

-- a check byte equal to the exclusive-or of what stands before it makes the whole zero
pub check_zero : (bytes : List ℕ) → exclusive_or (bytes ++ (exclusive_or bytes ∷ [])) ≡ 0
unfolding xor_from
check_zero bytes = xor_append 0 bytes (exclusive_or bytes ∷ []) ∙ xor_self (exclusive_or bytes)

-- and no other byte does
pub check_only : (bytes : List ℕ) (c : ℕ) → exclusive_or (bytes ++ (c ∷ [])) ≡ 0 → c ≡ exclusive_or bytes
unfolding xor_from
check_only bytes c e =
    let x : ℕ = exclusive_or bytes in
    let zero_xor : bit_xor x c ≡ 0 = sym (xor_append 0 bytes (c ∷ [])) ∙ e in
    omega (arith, zero_xor, xor_add_and x c, and_le_l x c, and_le_r x c)

-- the same of the first n + 1 bytes of a list: they come to zero just where the last of them is the exclusive-or of the n before it
pub check_right : (bytes : List ℕ) (n : ℕ) → n < length bytes → exclusive_or (take n bytes) ≡ get_or bytes n 0 → exclusive_or (take (n + 1) bytes) ≡ 0
check_right bytes n h e =
    ap exclusive_or (sym (take_more bytes n h)) ∙ ap (λ (c : ℕ). exclusive_or (take n bytes ++ (c ∷ []))) (sym e) ∙ check_zero (take n bytes)

pub check_from_zero : (bytes : List ℕ) (n : ℕ) → n < length bytes → exclusive_or (take (n + 1) bytes) ≡ 0 → exclusive_or (take n bytes) ≡ get_or bytes n 0
check_from_zero bytes n h e = sym (check_only (take n bytes) (get_or bytes n 0) (ap exclusive_or (take_more bytes n h) ∙ e))
