-- Laws of a run without silence and damage.
use Rattle.std.specs.Prelude.{Option, Some, None, Result, Ok, Err}
use Prim.Native.Nat.{ℕ, ◌+◌, ◌*◌, ◌/◌, ◌%◌, ◌≤◌, ◌<◌}
use native.Mathlib.Omega.{arith}
use mathlib.Core.Path.{◌≡◌, refl, sym, ap, ap₂, subst, ◌∙◌}
use mathlib.Core.Bool.{Bool, true}
use mathlib.Core.List.{List}
use lib.Bits.{bit_xor, bit_or, or_add_and, and_le_l, and_le_r, xor_add_and, xor_shr}
use lib.ListN.{length}
use borrow.Author.Tests.{eq-eqb}
use Rattle.base.specs.Choice.{◌=?◌}
use Rattle.base.proofs.Choices.{if_is_true}
use Rattle.recording.specs.Recording.{TickIs}
use Rattle.recording_list.specs.Reading.{SoundTick, at_once, Walk, no_character, one_more, StillSound, PlainIs, RunIs}
use Rattle.recording_list.specs.declared.Run.{Run}
use Rattle.recording_list.specs.declared.Stop.{Stop}

pub still_sound : (other v r : ℕ) → r ≡ bit_or other (bit_xor (v % 256) 32) → StillSound other v r
still_sound other v r e = record { sound = λ z. (none z, same z) }
  where
    none : r ≡ 0 → other ≡ 0
    none z = omega (arith, e, or_add_and other (bit_xor (v % 256) 32), and_le_r other (bit_xor (v % 256) 32))

    same : r ≡ 0 → v % 256 ≡ 32
    same z =
        omega (arith, e, or_add_and other (bit_xor (v % 256) 32), and_le_l other (bit_xor (v % 256) 32), xor_add_and (v % 256) 32, and_le_l (v % 256) 32, and_le_r (v % 256) 32)

-- the loop: if each tick so far was an undamaged character
pub record Running (recording : List ℕ) (t need s other sum i : ℕ) : Type 0 where
  pub below : i ≤ need
  pub fits : 2 * (t + need) ≤ length recording
  pub so_far : other ≡ 0 → (b : Bool) → Walk recording t s b (t + i) i (sum / 256) b

pub running_none : (recording : List ℕ) (t need s w : ℕ) → 2 * (t + need) ≤ length recording → w ≡ s → Running recording t need s 0 (256 * w) 0
running_none recording t need s w h e = record { below = omega arith; fits = h; so_far = λ z b. begun b }
  where
    here : t ≡ t + 0
    here = omega arith

    same : s ≡ 256 * w / 256
    same = omega arith

    begun : (b : Bool) → Walk recording t s b (t + 0) 0 (256 * w / 256) b
    begun b = subst (λ (u : ℕ). Walk recording t s b u 0 (256 * w / 256) b) here (subst (λ (x : ℕ). Walk recording t s b t 0 x b) same no_character)

pub running_more : (recording : List ℕ) (t need s other sum i v r : ℕ) → Running recording t need s other sum i → i < need → TickIs recording (t + i) v → StillSound other v r → Running recording t need s r (bit_xor sum v) (i + 1)
running_more recording t need s other sum i v r w h k q = record { below = omega arith; fits = w.fits; so_far = on }
  where
    behind : t + i + 1 ≡ t + (i + 1)
    behind = omega arith

    on : r ≡ 0 → (b : Bool) → Walk recording t s b (t + (i + 1)) (i + 1) (bit_xor sum v / 256) b
    on z b =
        let is : v % 256 ≡ 32 = (q.sound z).1 in
        let tick : SoundTick recording (t + i) = record { number = v; tick = k; sounds = λ e. absurd (omega arith); within = omega (arith, w.fits) } in
        subst (λ (u : ℕ). Walk recording t s b u (i + 1) (bit_xor sum v / 256) b) behind
        (subst (λ (x : ℕ). Walk recording t s b (t + i + 1) (i + 1) x b) (sym (xor_shr sum v 8))
        (subst (λ (x : Bool). Walk recording t s b (t + i + 1) (i + 1) (bit_xor (sum / 256) (v / 256)) x) (if_is_true (v % 256 =? 32) b true (eq-eqb (v % 256) 32 is))
        (one_more (w.so_far (q.sound z).0 b) at_once tick)))

pub running_all : (recording : List ℕ) (t need s other sum i c : ℕ) (p : Option ℕ) → Running recording t need s other sum i → need ≤ i → other ≡ 0 → c ≡ sum / 256 → p ≡ Some c → PlainIs recording t need s p
running_all recording t need s other sum i c p w h z f e = record { run = λ x k b. whole x (same_sum x k) b }
  where
    all : i ≡ need
    all = omega (arith, w.below)

    same_sum : (x : ℕ) → p ≡ Some x → x ≡ sum / 256
    same_sum x k = some_same x c (sym k ∙ e) ∙ f
      where
        some_same : (x c : ℕ) → Some x ≡ Some c → x ≡ c
        some_same x c k = cc

    whole : (x : ℕ) → x ≡ sum / 256 → (b : Bool) → Walk recording t s b (t + need) need x b
    whole x k b = subst (λ (y : ℕ). Walk recording t s b (t + need) need y b) (sym k) (subst (λ (n : ℕ). Walk recording t s b (t + n) n (sum / 256) b) all (w.so_far z b))

pub not_plain : (recording : List ℕ) (t need s : ℕ) (p : Option ℕ) → p ≡ None → PlainIs recording t need s p
not_plain recording t need s p e = record { run = λ x k b. absurd (none_some x (sym e ∙ k)) }
  where
    none_some : (x : ℕ) → None ≡ Some x → ⊥
    none_some x k = let z : ◌≡◌ {A = ℕ} 0 1 = cc in omega arith

pub ruleset plains = (refl, still_sound, running_none, running_more, running_all, not_plain)

-- taken as a run
pub plain_to : (recording : List ℕ) (t need s sum : ℕ) (b : Bool) (p : Option ℕ) (r : Result Run Stop) → PlainIs recording t need s p → p ≡ Some sum → r ≡ Ok (record { end = t + need; sum = sum; harm = b }) → RunIs recording t need s b r
plain_to recording t need s sum b p r v e f = subst (RunIs recording t need s b) (sym f) (v.run sum e b)
