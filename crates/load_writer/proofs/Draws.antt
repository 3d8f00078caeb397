-- The first numbers that seed 1 draws; and that no two numbers draw the same number: each of the three steps of xorshift32 can be undone.
use Prim.Native.Nat.{ℕ, zero, suc, ◌+◌, ◌*◌, ◌/◌, ◌%◌, ◌^◌, ◌<◌}
use mathlib.Core.Path.{◌≡◌, refl, sym, ap, ap₂, ◌∙◌, subst}
use native.Mathlib.Nat.{mod-lt, mod-one, lt_of_le_of_lt, mod-eq_of_lt, mul-mod_left, not-suc-le-zero, le_of_suc-le-suc, add-zero, div-add-mod'}
use native.Mathlib.Omega.{arith}
use mathlib.Core.List.{[], ◌∷◌}
use lib.Arith.{bin_ind, digits_div, digits_mod, lt-one}
use lib.Pow.{pow_pos, mod-pow-add, mod-mod-pow, shl-shr, shr-shr, shr_le, shr_lt}
use lib.Bits.{bit_xor, differ, xor_step, xor_self, xor_mod, xor_shr, xor_lt, xor_zero_r}
use Rattle.load_writer.specs.Load.{leftwards, rightwards, draw}

-- what an independent generator gave
pub draws : draw 1 ∷ draw (draw 1) ∷ draw (draw (draw 1)) ∷ [] ≡ 270369 ∷ 67634689 ∷ 2647435461 ∷ []
unfolding draw
draws = refl

-- ---- exclusive-or with the same number can be undone

differ_back : (x y : ℕ) → x < 2 → y < 2 → differ (differ x y) y ≡ x
differ_back zero zero hx hy = refl
differ_back zero (suc zero) hx hy = refl
differ_back zero (suc (suc y)) hx hy = absurd (not-suc-le-zero (le_of_suc-le-suc (le_of_suc-le-suc hy)))
differ_back (suc zero) zero hx hy = refl
differ_back (suc zero) (suc zero) hx hy = refl
differ_back (suc zero) (suc (suc y)) hx hy = absurd (not-suc-le-zero (le_of_suc-le-suc (le_of_suc-le-suc hy)))
differ_back (suc (suc x)) y hx hy = absurd (not-suc-le-zero (le_of_suc-le-suc (le_of_suc-le-suc hx)))

differ_bit : (x y : ℕ) → x < 2 → y < 2 → differ x y < 2
differ_bit zero y hx hy = hy
differ_bit (suc zero) zero hx hy = hx
differ_bit (suc zero) (suc zero) hx hy = omega arith
differ_bit (suc zero) (suc (suc y)) hx hy = absurd (not-suc-le-zero (le_of_suc-le-suc (le_of_suc-le-suc hy)))
differ_bit (suc (suc x)) y hx hy = absurd (not-suc-le-zero (le_of_suc-le-suc (le_of_suc-le-suc hx)))

bit : (n : ℕ) → n % 2 < 2
bit n = mod-lt n (pow_pos 1)

half : (a c : ℕ) → bit_xor a c / 2 ≡ bit_xor (a / 2) (c / 2)
half a c = ap (λ (n : ℕ). n / 2) (xor_step a c) ∙ digits_div (bit_xor (a / 2) (c / 2)) (differ_bit (a % 2) (c % 2) (bit a) (bit c))

odd : (a c : ℕ) → bit_xor a c % 2 ≡ differ (a % 2) (c % 2)
odd a c = ap (λ (n : ℕ). n % 2) (xor_step a c) ∙ digits_mod (bit_xor (a / 2) (c / 2)) (differ_bit (a % 2) (c % 2) (bit a) (bit c))

xor_back : (a c : ℕ) → bit_xor (bit_xor a c) c ≡ a
xor_back a =
    bin_ind (λ (n : ℕ). (c : ℕ) → bit_xor (bit_xor n c) c ≡ n) (λ c. xor_self c)
    (λ n ih c. xor_step (bit_xor n c) c
    ∙ ap₂ (λ (q r : ℕ). bit_xor q (c / 2) * 2 + differ r (c % 2)) (half n c) (odd n c)
    ∙ ap₂ (λ (q r : ℕ). q * 2 + r) (ih (c / 2)) (differ_back (n % 2) (c % 2) (bit n) (bit c))
    ∙ div-add-mod' n 2) a

xor_cancel : (a b c : ℕ) → bit_xor a c ≡ bit_xor b c → a ≡ b
xor_cancel a b c h = sym (xor_back a c) ∙ ap (λ (n : ℕ). bit_xor n c) h ∙ xor_back b c

-- ---- to the left: the low digits that agree grow by the shift

module _ (k j d : ℕ) (e : d + (j + k) ≡ 32) where
  shifted : (z : ℕ) → z * 2 ^ k % 2 ^ (j + k) ≡ (z % 2 ^ j) * 2 ^ k
  shifted z = mod-pow-add (z * 2 ^ k) j k
      ∙ ap₂ (λ (q r : ℕ). (q % 2 ^ j) * 2 ^ k + r) (shl-shr z k) (mul-mod_left z (2 ^ k))
      ∙ add-zero ((z % 2 ^ j) * 2 ^ k)

  low : (z : ℕ) → z * 2 ^ k % 2 ^ 32 % 2 ^ (j + k) ≡ (z % 2 ^ j) * 2 ^ k
  low z = subst (λ (w : ℕ). z * 2 ^ k % 2 ^ w % 2 ^ (j + k) ≡ (z % 2 ^ j) * 2 ^ k) e (mod-mod-pow (z * 2 ^ k) d (j + k) ∙ shifted z)

  part : (z : ℕ) → leftwards k z % 2 ^ (j + k) ≡ bit_xor (z % 2 ^ (j + k)) ((z % 2 ^ j) * 2 ^ k)
  part z = xor_mod z (z * 2 ^ k % 2 ^ 32) (j + k) ∙ ap (λ (n : ℕ). bit_xor (z % 2 ^ (j + k)) n) (low z)

  grow : (x y : ℕ) → leftwards k x ≡ leftwards k y → x % 2 ^ j ≡ y % 2 ^ j → x % 2 ^ (j + k) ≡ y % 2 ^ (j + k)
  grow x y h same = xor_cancel (x % 2 ^ (j + k)) (y % 2 ^ (j + k)) ((x % 2 ^ j) * 2 ^ k)
      (sym (part x) ∙ ap (λ (n : ℕ). n % 2 ^ (j + k)) h ∙ part y ∙ ap (λ (n : ℕ). bit_xor (y % 2 ^ (j + k)) (n * 2 ^ k)) (sym same))

shrink : (i j x y : ℕ) → x % 2 ^ (i + j) ≡ y % 2 ^ (i + j) → x % 2 ^ j ≡ y % 2 ^ j
shrink i j x y h = sym (mod-mod-pow x i j) ∙ ap (λ (n : ℕ). n % 2 ^ j) h ∙ mod-mod-pow y i j

whole : (x y : ℕ) → x < 2 ^ 32 → y < 2 ^ 32 → x % 2 ^ 32 ≡ y % 2 ^ 32 → x ≡ y
whole x y hx hy h = sym (mod-eq_of_lt hx) ∙ h ∙ mod-eq_of_lt hy

none_yet : (x y : ℕ) → x % 2 ^ 0 ≡ y % 2 ^ 0
none_yet x y = mod-one x ∙ sym (mod-one y)

left_13 : (x y : ℕ) → x < 2 ^ 32 → y < 2 ^ 32 → leftwards 13 x ≡ leftwards 13 y → x ≡ y
left_13 x y hx hy h =
    whole x y hx hy (grow 13 19 0 refl x y h (grow 13 6 13 refl x y h (shrink 7 6 x y (grow 13 0 19 refl x y h (none_yet x y)))))

left_5 : (x y : ℕ) → x < 2 ^ 32 → y < 2 ^ 32 → leftwards 5 x ≡ leftwards 5 y → x ≡ y
left_5 x y hx hy h =
    whole x y hx hy (grow 5 27 0 refl x y h (grow 5 22 5 refl x y h (grow 5 17 10 refl x y h (grow 5 12 15 refl x y h (grow 5 7 20 refl x y h
    (grow 5 2 25 refl x y h (shrink 3 2 x y (grow 5 0 27 refl x y h (none_yet x y)))))))))

-- ---- to the right: the 15 high digits stay, and give the rest

gone : (x : ℕ) → x < 2 ^ 32 → x / 2 ^ 17 / 2 ^ 17 ≡ 0
gone x h =
    let wider : x < 2 ^ (0 + 34) = omega (arith, h) in
    shr-shr x 17 17 ∙ lt-one (shr_lt 0 34 wider)

top : (x : ℕ) → x < 2 ^ 32 → rightwards 17 x / 2 ^ 17 ≡ x / 2 ^ 17
top x h = xor_shr x (x / 2 ^ 17) 17 ∙ ap (λ (n : ℕ). bit_xor (x / 2 ^ 17) n) (gone x h) ∙ xor_zero_r (x / 2 ^ 17)

right_17 : (x y : ℕ) → x < 2 ^ 32 → y < 2 ^ 32 → rightwards 17 x ≡ rightwards 17 y → x ≡ y
right_17 x y hx hy h = xor_cancel x y (x / 2 ^ 17) (h ∙ ap (λ (n : ℕ). bit_xor y n) (sym same))
  where
    same : x / 2 ^ 17 ≡ y / 2 ^ 17
    same = sym (top x hx) ∙ ap (λ (n : ℕ). n / 2 ^ 17) h ∙ top y hy

-- ---- the draw

left_fits : (k x : ℕ) → x < 2 ^ 32 → leftwards k x < 2 ^ 32
left_fits k x h = xor_lt 32 x (x * 2 ^ k % 2 ^ 32) h (mod-lt (x * 2 ^ k) (pow_pos 32))

right_fits : (k x : ℕ) → x < 2 ^ 32 → rightwards k x < 2 ^ 32
right_fits k x h = xor_lt 32 x (x / 2 ^ k) h (lt_of_le_of_lt (shr_le x k) h)

pub draw_fits : (x : ℕ) → x < 2 ^ 32 → draw x < 2 ^ 32
unfolding draw
draw_fits x h = left_fits 5 (rightwards 17 (leftwards 13 x)) (right_fits 17 (leftwards 13 x) (left_fits 13 x h))

pub draw_injective : (x y : ℕ) → x < 2 ^ 32 → y < 2 ^ 32 → draw x ≡ draw y → x ≡ y
unfolding draw
draw_injective x y hx hy h =
    left_13 x y hx hy (right_17 (leftwards 13 x) (leftwards 13 y) (left_fits 13 x hx) (left_fits 13 y hy)
    (left_5 (rightwards 17 (leftwards 13 x)) (rightwards 17 (leftwards 13 y)) (right_fits 17 (leftwards 13 x) (left_fits 13 x hx)) (right_fits 17 (leftwards 13 y) (left_fits 13 y hy)) h))
