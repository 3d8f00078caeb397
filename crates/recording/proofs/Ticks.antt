-- What a tick of a recording is, where it is one that a recording may have.
use Prim.Native.Nat.{ℕ, ◌+◌, ◌*◌, ◌/◌, ◌%◌, ◌≤◌}
use native.Mathlib.Omega.{arith}
use mathlib.Core.Path.{◌≡◌, refl, ap, ◌∙◌}
use mathlib.Core.Bool.{Bool, true, false}
use borrow.Author.Tests.{eqb-true, eqb-false, ltb-false}
use Rattle.base.specs.Choice.{when◌then◌else◌, ◌=?◌, ◌<?◌}
use Rattle.base.proofs.Choices.{true_false}
use Rattle.line.specs.Heard.{damage_number, heard_of}
use Rattle.line.specs.declared.Damage.{Damage}
use Rattle.line.specs.declared.Damage.TheVariants.{Parity, Overrun, Framing}
use Rattle.line.specs.declared.Heard.{Heard}
use Rattle.line.specs.declared.Heard.TheVariants.{Silence, Character, Damaged}
use Rattle.recording.specs.Form.{tick_refused}

pub data Good (x c : ℕ) : Type 0 where
  silent : x ≡ 0 → c ≡ 0 → Good x c
  sound : x ≡ 32 → Good x c
  hurt : (kind : Damage) → x ≡ 32 * (1 + damage_number kind) → Good x c

kind_damage : (x c : ℕ) → x % 32 ≡ 0 → x / 32 ≤ 4 → (x / 32 ≡ 0 → ⊥) → Good x c
kind_damage x c z h n = go (x / 32 =? 1) refl (x / 32 =? 2) refl (x / 32 =? 3) refl
  where
    go : (p : Bool) → (x / 32 =? 1) ≡ p → (q : Bool) → (x / 32 =? 2) ≡ q → (s : Bool) → (x / 32 =? 3) ≡ s → Good x c
    go true e q f s g = sound (omega (arith, eqb-true (x / 32) 1 e))
    go false e true f s g = hurt Parity (omega (arith, eqb-true (x / 32) 2 f))
    go false e false f true g = hurt Overrun (omega (arith, eqb-true (x / 32) 3 g))
    go false e false f false g =
        let one : x / 32 ≡ 1 → ⊥ = eqb-false (x / 32) 1 e in
        let two : x / 32 ≡ 2 → ⊥ = eqb-false (x / 32) 2 f in
        let three : x / 32 ≡ 3 → ⊥ = eqb-false (x / 32) 3 g in
        hurt Framing (omega arith)

pub good_tick : (x c : ℕ) → tick_refused x c ≡ false → Good x c
unfolding when◌then◌else◌
good_tick x c e = go (x % 32 =? 0) refl (4 <? x / 32) refl (x / 32 =? 0) refl (c =? 0) refl e
  where
    go : (p : Bool) → (x % 32 =? 0) ≡ p → (q : Bool) → (4 <? x / 32) ≡ q → (s : Bool) → (x / 32 =? 0) ≡ s → (u : Bool) → (c =? 0) ≡ u
        → (when p then (when q then true else when s then (when u then false else true) else false) else true) ≡ false → Good x c
    go false ep q eq s es u eu k = absurd (true_false k)
    go true ep true eq s es u eu k = absurd (true_false k)
    go true ep false eq true es true eu k = silent (omega (arith, eqb-true (x % 32) 0 ep, eqb-true (x / 32) 0 es)) (eqb-true c 0 eu)
    go true ep false eq true es false eu k = absurd (true_false k)
    go true ep false eq false es u eu k = kind_damage x c (eqb-true (x % 32) 0 ep) (ltb-false 4 (x / 32) eq) (eqb-false (x / 32) 0 es)

-- what such a tick is heard as
abbrev pub heard_as : {x c : ℕ} → Good x c → Heard
heard_as (silent e f) = Silence
heard_as {c = c} (sound e) = Character c
heard_as {c = c} (hurt kind e) = Damaged c kind

pub hears_kind : (c : ℕ) (kind : Damage) → heard_of (32 * (1 + damage_number kind) / 32) c ≡ Damaged c kind
unfolding when◌then◌else◌
hears_kind c Parity = refl
hears_kind c Overrun = refl
hears_kind c Framing = refl

hears_silence : (c : ℕ) → heard_of (0 / 32) c ≡ Silence
unfolding when◌then◌else◌
hears_silence c = refl

hears_character : (c : ℕ) → heard_of (32 / 32) c ≡ Character c
unfolding when◌then◌else◌
hears_character c = refl

pub heard_as_lem : {x c : ℕ} (g : Good x c) → heard_of (x / 32) c ≡ heard_as g
heard_as_lem {c = c} (silent e f) = ap (λ (x : ℕ). heard_of (x / 32) c) e ∙ hears_silence c
heard_as_lem {c = c} (sound e) = ap (λ (x : ℕ). heard_of (x / 32) c) e ∙ hears_character c
heard_as_lem {c = c} (hurt kind e) = ap (λ (x : ℕ). heard_of (x / 32) c) e ∙ hears_kind c kind
