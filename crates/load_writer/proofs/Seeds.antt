-- Two seeds never give one script, from thirteen records on: the mark says the first number, and no two seeds draw one number.
use Prim.Native.Nat.{ℕ, suc, ◌+◌, ◌-◌, ◌*◌, ◌/◌, ◌%◌, ◌^◌, ◌≤◌, ◌<◌}
use mathlib.Core.Path.{◌≡◌, refl, sym, ap, ap₂, ◌∙◌}
use mathlib.Core.List.{List}
use native.Mathlib.Nat.{mod-eq_of_lt, mod-one}
use lib.ListN.{get_or}
use lib.Pow.{mod-pow-add}
use native.Mathlib.Omega.{arith}
use Rattle.player_script.specs.Script.{records_of}
use Rattle.player_script.specs.declared.Entry.{Entry}
use Rattle.load_writer.specs.Load.{call, opening, draw, laid, load}
use Rattle.load_writer.specs.Claims.{SeedsDiffer}
use Rattle.load_writer.proofs.Bytes.{reads_back}
use Rattle.load_writer.proofs.Draws.{draw_fits, draw_injective}

-- thirteen records, and so many more
abbrev pub beyond : ℕ → ℕ
beyond m = suc (suc (suc (suc (suc (suc (suc (suc (suc (suc (suc (suc (suc m))))))))))))

-- the argument of a record
argument : ℕ → List Entry → ℕ
argument i es = (get_or es i (call 0 0 0 0)).argument

module _ (seed m : ℕ) where
  first : argument 8 (load seed (beyond m)) ≡ draw seed / 2 ^ 24 % 2 ^ 8
  unfolding load laid opening argument
  first = refl

  second : argument 9 (load seed (beyond m)) ≡ draw seed / 2 ^ 16 % 2 ^ 8
  unfolding load laid opening argument
  second = refl

  third : argument 10 (load seed (beyond m)) ≡ draw seed / 2 ^ 8 % 2 ^ 8
  unfolding load laid opening argument
  third = refl

  fourth : argument 11 (load seed (beyond m)) ≡ draw seed / 2 ^ 0 % 2 ^ 8
  unfolding load laid opening argument
  fourth = refl

byte_more : (k x y : ℕ) → x / 2 ^ k % 2 ^ 8 ≡ y / 2 ^ k % 2 ^ 8 → x % 2 ^ k ≡ y % 2 ^ k → x % 2 ^ (8 + k) ≡ y % 2 ^ (8 + k)
byte_more k x y b low = mod-pow-add x 8 k ∙ ap₂ (λ (p q : ℕ). p * 2 ^ k + q) b low ∙ sym (mod-pow-add y 8 k)

from_bytes : (x y : ℕ) → x < 2 ^ 32 → y < 2 ^ 32 → x / 2 ^ 24 % 2 ^ 8 ≡ y / 2 ^ 24 % 2 ^ 8 → x / 2 ^ 16 % 2 ^ 8 ≡ y / 2 ^ 16 % 2 ^ 8
    → x / 2 ^ 8 % 2 ^ 8 ≡ y / 2 ^ 8 % 2 ^ 8 → x / 2 ^ 0 % 2 ^ 8 ≡ y / 2 ^ 0 % 2 ^ 8 → x ≡ y
from_bytes x y hx hy a b c d =
    sym (mod-eq_of_lt hx) ∙ byte_more 24 x y a (byte_more 16 x y b (byte_more 8 x y c (byte_more 0 x y d (mod-one x ∙ sym (mod-one y))))) ∙ mod-eq_of_lt hy

by_mark : (s t m : ℕ) → s < 2 ^ 32 → t < 2 ^ 32 → load s (beyond m) ≡ load t (beyond m) → s ≡ t
by_mark s t m hs ht h =
    draw_injective s t hs ht
    (from_bytes (draw s) (draw t) (draw_fits s hs) (draw_fits t ht) (sym (first s m) ∙ ap (argument 8) h ∙ first t m) (sym (second s m) ∙ ap (argument 9) h ∙ second t m)
    (sym (third s m) ∙ ap (argument 10) h ∙ third t m) (sym (fourth s m) ∙ ap (argument 11) h ∙ fourth t m))

pub seeds_differ : SeedsDiffer
seeds_differ s t count hs ht low high h =
    by_mark s t (count - 13) hs ht
    (ap (load s) (back count low) ∙ sym (reads_back s count high) ∙ ap records_of h ∙ reads_back t count high ∙ sym (ap (load t) (back count low)))
  where
    back : (n : ℕ) → 13 ≤ n → beyond (n - 13) ≡ n
    back n h = omega (arith, h)
