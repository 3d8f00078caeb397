-- The rule for two ticks: what a good tick says was heard, and that the choice by first bytes is that of Joining.
use Prim.Native.Nat.{ℕ, ◌+◌, ◌*◌, ◌/◌, ◌≤◌}
use native.Mathlib.Omega.{arith}
use mathlib.Core.Path.{◌≡◌, refl, sym, ap, ap₂, ◌∙◌}
use mathlib.Core.Bool.{Bool, true, false}
use mathlib.Core.List.{[], ◌∷◌}
use borrow.Author.Tests.{eq-eqb, ne_eqb, le-ltb, lt-ltb, ltb-true, ltb-false}
use Rattle.base.specs.Choice.{when◌then◌else◌, ◌=?◌, ◌<?◌}
use Rattle.base.proofs.Choices.{if_is_true, if_is_false}
use Rattle.line.specs.Heard.{damage_number, heard_of}
use Rattle.line.specs.declared.Damage.{Damage}
use Rattle.line.specs.declared.Damage.TheVariants.{Parity, Overrun, Framing}
use Rattle.line.specs.declared.Heard.TheVariants.{Character, Damaged}
use Rattle.recording.specs.Form.{tick_refused}
use Rattle.recording.proofs.Ticks.{Good, silent, sound, hurt, good_tick, heard_as, heard_as_lem}
use Rattle.recording_join.specs.Joining.{Together, both, differ, together, bytes_of, bytes_together}
use Rattle.recording_join.specs.Choosing.{takes_second}

-- ---- a good tick's bytes

-- its bytes are the tick's
pub bytes_of_lem : {x c : ℕ} (g : Good x c) → bytes_of (heard_as g) ≡ x ∷ c ∷ []
bytes_of_lem (silent e f) = ap₂ (λ (a b : ℕ). a ∷ b ∷ []) (sym e) (sym f)
bytes_of_lem {c = c} (sound e) = ap (λ (a : ℕ). a ∷ c ∷ []) (sym e)
bytes_of_lem {c = c} (hurt kind e) = ap (λ (a : ℕ). a ∷ c ∷ []) (sym e)

-- ---- the choice by first bytes

pub positive : (k : Damage) → 1 ≤ damage_number k
positive Parity = omega arith
positive Overrun = omega arith
positive Framing = omega arith

takes_none : (x y : ℕ) → y ≡ 0 → takes_second x y ≡ false
unfolding takes_second
takes_none x y e = if_is_true (y =? 0) _ _ (eq-eqb y 0 e)

takes_all : (x y : ℕ) → (y ≡ 0 → ⊥) → x ≡ 0 → takes_second x y ≡ true
unfolding takes_second
takes_all x y h e = if_is_false (y =? 0) _ _ (ne_eqb y 0 h) ∙ if_is_true (x =? 0) _ _ (eq-eqb x 0 e)

takes_lower : (x y : ℕ) → (y ≡ 0 → ⊥) → (x ≡ 0 → ⊥) → takes_second x y ≡ (y <? x)
unfolding takes_second
takes_lower x y h k = if_is_false (y =? 0) _ _ (ne_eqb y 0 h) ∙ if_is_false (x =? 0) _ _ (ne_eqb x 0 k)

-- the tick that is taken
module _ (x c y d : ℕ) where
  abbrev Taken : Together → Type 0
  Taken z = bytes_together z ≡ (when takes_second x y then y ∷ d ∷ [] else x ∷ c ∷ [])

  takes_first : (g : Good x c) → takes_second x y ≡ false → Taken (both (heard_as g))
  takes_first g e = bytes_of_lem g ∙ sym (if_is_false (takes_second x y) (y ∷ d ∷ []) (x ∷ c ∷ []) e)

  takes_other : (g : Good y d) → takes_second x y ≡ true → Taken (both (heard_as g))
  takes_other g e = bytes_of_lem g ∙ sym (if_is_true (takes_second x y) (y ∷ d ∷ []) (x ∷ c ∷ []) e)

  below_kinds : (j k : Damage) → x ≡ 32 * (1 + damage_number j) → y ≡ 32 * (1 + damage_number k) → (y <? x) ≡ (damage_number k <? damage_number j)
  below_kinds j k e f = go (damage_number k <? damage_number j) refl
    where
      go : (t : Bool) → (damage_number k <? damage_number j) ≡ t → (y <? x) ≡ t
      go true h = lt-ltb y x (omega (arith, ltb-true (damage_number k) (damage_number j) h))
      go false h = le-ltb y x (omega (arith, ltb-false (damage_number k) (damage_number j) h))

  taken_hurt : (j k : Damage) (e : x ≡ 32 * (1 + damage_number j)) (f : y ≡ 32 * (1 + damage_number k)) → Taken (together (Damaged c j) (Damaged d k))
  taken_hurt j k e f = go (damage_number k <? damage_number j) refl
    where
      order : takes_second x y ≡ (damage_number k <? damage_number j)
      order = takes_lower x y (λ z. absurd (omega arith)) (λ z. absurd (omega arith)) ∙ below_kinds j k e f

      go : (t : Bool) → (damage_number k <? damage_number j) ≡ t → Taken (together (Damaged c j) (Damaged d k))
      go true h = ap bytes_together (if_is_true (damage_number k <? damage_number j) _ _ h) ∙ takes_other (hurt k f) (order ∙ h)
      go false h = ap bytes_together (if_is_false (damage_number k <? damage_number j) _ _ h) ∙ takes_first (hurt j e) (order ∙ h)

  taken_sound : x ≡ 32 → y ≡ 32 → (together (Character c) (Character d) ≡ differ → ⊥) → Taken (together (Character c) (Character d))
  taken_sound e f n = go (c =? d) refl
    where
      go : (t : Bool) → (c =? d) ≡ t → Taken (together (Character c) (Character d))
      go true h = ap bytes_together (if_is_true (c =? d) _ _ h) ∙ takes_first (sound e) (takes_lower x y (λ z. absurd (omega arith)) (λ z. absurd (omega arith)) ∙ le-ltb y x (omega arith))
      go false h = absurd (n (if_is_false (c =? d) _ _ h))

  taken_as : (g : Good x c) (h : Good y d) → (together (heard_as g) (heard_as h) ≡ differ → ⊥) → Taken (together (heard_as g) (heard_as h))
  taken_as (silent e f) (silent a b) n = takes_first (silent e f) (takes_none x y a)
  taken_as (silent e f) (sound a) n = takes_other (sound a) (takes_all x y (λ z. absurd (omega arith)) e)
  taken_as (silent e f) (hurt k a) n = takes_other (hurt k a) (takes_all x y (λ z. absurd (omega arith)) e)
  taken_as (sound e) (silent a b) n = takes_first (sound e) (takes_none x y a)
  taken_as (sound e) (sound a) n = taken_sound e a n
  taken_as (sound e) (hurt k a) n = takes_first (sound e) (takes_lower x y (λ z. absurd (omega arith)) (λ z. absurd (omega arith)) ∙ le-ltb y x (omega arith))
  taken_as (hurt j e) (silent a b) n = takes_first (hurt j e) (takes_none x y a)
  taken_as (hurt j e) (sound a) n = takes_other (sound a) (takes_lower x y (λ z. absurd (omega arith)) (λ z. absurd (omega arith)) ∙ lt-ltb y x (omega (arith, positive j)))
  taken_as (hurt j e) (hurt k a) n = taken_hurt j k e a

  -- the rule, by the bytes of two good ticks
  abbrev Both : Together
  Both = together (heard_of (x / 32) c) (heard_of (y / 32) d)

  pub rule_is : tick_refused x c ≡ false → tick_refused y d ≡ false → (Both ≡ differ → ⊥) → bytes_together Both ≡ (when takes_second x y then y ∷ d ∷ [] else x ∷ c ∷ [])
  rule_is p q n =
      let g : Good x c = good_tick x c p in
      let h : Good y d = good_tick y d q in
      let same : Both ≡ together (heard_as g) (heard_as h) = ap₂ together (heard_as_lem g) (heard_as_lem h) in
      ap bytes_together same ∙ taken_as g h (λ e. n (same ∙ e))
