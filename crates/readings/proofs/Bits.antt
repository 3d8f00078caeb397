-- The two bits that are meant for one master only, in a second data byte.
use Prim.Native.Nat.{ℕ, ◌+◌, ◌-◌, ◌*◌, ◌/◌, ◌%◌, ◌<◌}
use native.Mathlib.Omega.{arith}
use mathlib.Core.Path.{◌≡◌, refl}
use Rattle.readings.specs.Table.{own_bits, common_byte, shown_byte}

-- a number by its bits: 4 low ones, 0x10, 0x20, 0x40 and the others
own_of : (b r s u q f : ℕ) → s < 2 → u < 2 → q < 2 → r < 16 → b ≡ 128 * f + 64 * q + 32 * u + 16 * s + r → own_bits b ≡ 64 * q + 16 * s
own_of b r s u q f hs hu hq hr e = let x : b / 64 % 2 ≡ q = omega (arith, e, hq, hs, hr, hu) in let y : b / 16 % 2 ≡ s = omega (arith, e, hq, hs, hr, hu) in omega (arith, x, y)

by_bits : (b : ℕ) → b ≡ 128 * (b / 128) + 64 * (b / 64 % 2) + 32 * (b / 32 % 2) + 16 * (b / 16 % 2) + b % 16
by_bits b =
    let x : b ≡ 16 * (b / 16) + b % 16 = omega arith in
    let y : b / 16 ≡ 2 * (b / 32) + b / 16 % 2 = omega arith in
    let z : b / 32 ≡ 2 * (b / 64) + b / 32 % 2 = omega arith in
    let v : b / 64 ≡ 2 * (b / 128) + b / 64 % 2 = omega arith in
    linear b (b / 16) (b / 32) (b / 64) (b / 128) (b % 16) (b / 16 % 2) (b / 32 % 2) (b / 64 % 2) x y z v
  where
    linear : (b c d e f r s u q : ℕ) → b ≡ 16 * c + r → c ≡ 2 * d + s → d ≡ 2 * e + u → e ≡ 2 * f + q → b ≡ 128 * f + 64 * q + 32 * u + 16 * s + r
    linear b c d e f r s u q x y z v = omega (arith, x, y, z, v)

without : (b f q u s r : ℕ) → b ≡ 128 * f + 64 * q + 32 * u + 16 * s + r → b - (64 * q + 16 * s) ≡ 128 * f + 64 * 0 + 32 * u + 16 * 0 + r
without b f q u s r e = omega (arith, e)

with_own : (c f u r q s : ℕ) → c ≡ 128 * f + 64 * 0 + 32 * u + 16 * 0 + r → c + (64 * q + 16 * s) ≡ 128 * f + 64 * q + 32 * u + 16 * s + r
with_own c f u r q s e = omega (arith, e)

bit : (n : ℕ) → n % 2 < 2
bit n = omega arith

low : (n : ℕ) → n % 16 < 16
low n = omega arith

no_bit : 0 < 2
no_bit = omega arith

common_is : (b : ℕ) → common_byte b ≡ 128 * (b / 128) + 64 * 0 + 32 * (b / 32 % 2) + 16 * 0 + b % 16
common_is b = without b (b / 128) (b / 64 % 2) (b / 32 % 2) (b / 16 % 2) (b % 16) (by_bits b)

-- the byte that is stored has neither bit
pub common_own : (b : ℕ) → own_bits (common_byte b) ≡ 0
common_own b = own_of (common_byte b) (b % 16) 0 (b / 32 % 2) 0 (b / 128) no_bit (bit (b / 32)) no_bit (low b) (common_is b)

-- the byte that is shown has those that are kept
pub own_shown : (s b : ℕ) → own_bits (shown_byte s b) ≡ own_bits b
own_shown s b =
    own_of (shown_byte s b) (s % 16) (b / 16 % 2) (s / 32 % 2) (b / 64 % 2) (s / 128) (bit (b / 16)) (bit (s / 32)) (bit (b / 64)) (low s)
    (with_own (common_byte s) (s / 128) (s / 32 % 2) (s % 16) (b / 64 % 2) (b / 16 % 2) (common_is s))

pub own_own : (b : ℕ) → own_bits (own_bits b) ≡ own_bits b
own_own b =
    let e : own_bits b ≡ 128 * 0 + 64 * (b / 64 % 2) + 32 * 0 + 16 * (b / 16 % 2) + 0 = omega arith in
    own_of (own_bits b) 0 (b / 16 % 2) 0 (b / 64 % 2) 0 (bit (b / 16)) no_bit (bit (b / 64)) (omega arith) e

pub own_none : own_bits 0 ≡ 0
own_none = refl
