-- Laws of the exclusive-or of numbers: it is associative, and how it goes with the halves of a number, whatever their width.
use Prim.Native.Nat.{ℕ, zero, suc, ◌+◌, ◌*◌, ◌/◌, ◌%◌, ◌^◌, ◌<◌}
use native.Mathlib.Omega.{arith}
use native.Mathlib.Nat.{mod-lt}
use mathlib.Core.Path.{◌≡◌, refl, sym, ap, ap₂, ◌∙◌}
use lib.Arith.{bin_ind}
use lib.Bits.{bit_xor, differ, xor_step, xor_shr, xor_mod, xor_comm, xor_lt}
use lib.Pow.{high, low, pow_pos, shr_lt}
use Rattle.frame_check.specs.Words.{halves, folded}

-- ---- associativity, bit by bit

differ_lt : (x y : ℕ) → x < 2 → y < 2 → differ x y < 2
differ_lt zero y h k = k
differ_lt (suc zero) zero h k = omega arith
differ_lt (suc zero) (suc zero) h k = omega arith
differ_lt (suc zero) (suc (suc y)) h k = absurd (omega arith)
differ_lt (suc (suc x)) y h k = absurd (omega arith)

differ_assoc : (x y z : ℕ) → x < 2 → y < 2 → z < 2 → differ (differ x y) z ≡ differ x (differ y z)
differ_assoc zero y z h k l = refl
differ_assoc (suc zero) zero z h k l = refl
differ_assoc (suc zero) (suc zero) zero h k l = refl
differ_assoc (suc zero) (suc zero) (suc zero) h k l = refl
differ_assoc (suc zero) (suc zero) (suc (suc z)) h k l = absurd (omega arith)
differ_assoc (suc zero) (suc (suc y)) z h k l = absurd (omega arith)
differ_assoc (suc (suc x)) y z h k l = absurd (omega arith)

bit : (n : ℕ) → n % 2 < 2
bit n = omega arith

xor_half : (a b : ℕ) → bit_xor a b / 2 ≡ bit_xor (a / 2) (b / 2)
xor_half a b = omega (arith, xor_step a b, differ_lt (a % 2) (b % 2) (bit a) (bit b))

xor_odd : (a b : ℕ) → bit_xor a b % 2 ≡ differ (a % 2) (b % 2)
xor_odd a b = omega (arith, xor_step a b, differ_lt (a % 2) (b % 2) (bit a) (bit b))

pub xor_assoc : (a b c : ℕ) → bit_xor (bit_xor a b) c ≡ bit_xor a (bit_xor b c)
xor_assoc = bin_ind (λ (a : ℕ). (b c : ℕ) → bit_xor (bit_xor a b) c ≡ bit_xor a (bit_xor b c)) (λ b c. refl) step
  where
    step : (a : ℕ) → ((b c : ℕ) → bit_xor (bit_xor (a / 2) b) c ≡ bit_xor (a / 2) (bit_xor b c)) → (b c : ℕ) → bit_xor (bit_xor a b) c ≡ bit_xor a (bit_xor b c)
    step a ih b c =
        xor_step (bit_xor a b) c
        ∙ ap₂ (λ (h d : ℕ). bit_xor h (c / 2) * 2 + differ d (c % 2)) (xor_half a b) (xor_odd a b)
        ∙ ap₂ (λ (h d : ℕ). h * 2 + d) (ih (b / 2) (c / 2)) (differ_assoc (a % 2) (b % 2) (c % 2) (bit a) (bit b) (bit c))
        ∙ ap₂ (λ (h d : ℕ). bit_xor (a / 2) h * 2 + differ (a % 2) d) (sym (xor_half b c)) (sym (xor_odd b c))
        ∙ sym (xor_step a (bit_xor b c))

pub xor_swap : (a b c d : ℕ) → bit_xor (bit_xor a b) (bit_xor c d) ≡ bit_xor (bit_xor a c) (bit_xor b d)
xor_swap a b c d =
    xor_assoc a b (bit_xor c d)
    ∙ ap (bit_xor a) (sym (xor_assoc b c d) ∙ ap (λ (x : ℕ). bit_xor x d) (xor_comm b c) ∙ xor_assoc c b d)
    ∙ sym (xor_assoc a c (bit_xor b d))

-- four with four
pub xor_pairs : (a b c d p q r s : ℕ) → bit_xor (bit_xor (bit_xor a b) (bit_xor c d)) (bit_xor (bit_xor p q) (bit_xor r s)) ≡ bit_xor (bit_xor (bit_xor a p) (bit_xor b q)) (bit_xor (bit_xor c r) (bit_xor d s))
xor_pairs a b c d p q r s = xor_swap (bit_xor a b) (bit_xor c d) (bit_xor p q) (bit_xor r s) ∙ ap₂ bit_xor (xor_swap a b p q) (xor_swap c d r s)

-- ---- halves of k bits

pub halves_xor : (k a b : ℕ) → halves k (bit_xor a b) ≡ bit_xor (halves k a) (halves k b)
unfolding halves
halves_xor k a b = ap₂ bit_xor (xor_mod a b k) (xor_shr a b k) ∙ xor_swap (a % 2 ^ k) (b % 2 ^ k) (a / 2 ^ k) (b / 2 ^ k)

pub halves_join : (k high_part low_part : ℕ) → low_part < 2 ^ k → halves k (high_part * 2 ^ k + low_part) ≡ bit_xor low_part high_part
unfolding halves
halves_join k a b h = ap₂ bit_xor (low a k h) (high a k h)

halves_lt : (k n : ℕ) → n < 2 ^ (k + k) → halves k n < 2 ^ k
unfolding halves
halves_lt k n h = xor_lt k (n % 2 ^ k) (n / 2 ^ k) (mod-lt n (pow_pos k)) (shr_lt k k h)

pub folded_small : (w : ℕ) → w < 2 ^ 64 → folded w < 256
folded_small w h = halves_lt 8 _ (halves_lt 16 _ (halves_lt 32 w h))

pub folded_xor : (v w : ℕ) → folded (bit_xor v w) ≡ bit_xor (folded v) (folded w)
folded_xor v w =
    ap (λ (n : ℕ). halves 8 (halves 16 n)) (halves_xor 32 v w) ∙ ap (halves 8) (halves_xor 16 (halves 32 v) (halves 32 w)) ∙ halves_xor 8 _ _
