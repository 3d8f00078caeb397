-- Laws of the next character, and of so many characters.
use Rattle.std.specs.Prelude.{Result, Ok, Err}
use Prim.Native.Nat.{ℕ, ◌+◌, ◌-◌, ◌*◌, ◌/◌, ◌≤◌, ◌<◌}
use native.Mathlib.Omega.{arith}
use mathlib.Core.Path.{◌≡◌, refl, sym, ap, ap₂, subst, ◌∙◌}
use mathlib.Core.Bool.{Bool, true, false}
use mathlib.Core.List.{List}
use lib.Bits.{bit_xor}
use lib.ListN.{length}
use mir.Syntax.{w64}
use mir.Val.{Fits}
use Rattle.base.specs.Choice.{when◌then◌else◌}
use Rattle.base.proofs.Choices.{if_is_true, if_is_false}
use Rattle.recording.specs.Recording.{TickIs}
use Rattle.recording_list.specs.Reading.{SilentTick, SoundTick, at_once, behind_silence, NextAt, no_tick, last_silent, NextIs, harmed_by, Walk, no_character, one_more, RunIs}
use Rattle.recording_list.specs.declared.Run.{Run}
use Rattle.recording_list.specs.declared.Stop.{Stop}
use Rattle.recording_list.specs.declared.Stop.TheVariants.{Broke, Over}

-- ---- the next character

pub next_none : (recording : List ℕ) (t : ℕ) (n : Result ℕ Stop) → n ≡ Err Over → length recording / 2 ≤ t → NextIs recording t n
next_none recording t n e h = subst (NextIs recording t) (sym e) (no_tick h)

-- a tick by its number
pub silent_tick : (recording : List ℕ) (t v : ℕ) → TickIs recording t v → v ≡ 0 → 2 * t + 2 ≤ length recording → SilentTick recording t
silent_tick recording t v k e h = record { number = v; tick = k; is_silent = e; within = h }

abbrev pub sound_tick : (recording : List ℕ) (t v : ℕ) → TickIs recording t v → (v ≡ 0 → ⊥) → 2 * t + 2 ≤ length recording → SoundTick recording t
sound_tick recording t v k e h = record { number = v; tick = k; sounds = e; within = h }

pub next_last : (recording : List ℕ) (t v : ℕ) (n : Result ℕ Stop) → n ≡ Err Over → TickIs recording t v → v ≡ 0 → t < length recording / 2 → length recording / 2 - t ≡ 1 → NextIs recording t n
next_last recording t v n e k z h l = subst (NextIs recording t) (sym e) (last_silent (silent_tick recording t v k z (omega arith)) (omega arith))

pub next_breaks : (recording : List ℕ) (t v w : ℕ) (n : Result ℕ Stop) → n ≡ Err (Broke (t + 1)) → TickIs recording t v → v ≡ 0 → TickIs recording (t + 1) w → w ≡ 0 → t < length recording / 2 → (length recording / 2 - t ≡ 1 → ⊥) → NextIs recording t n
next_breaks recording t v w n e k z m y h l =
    subst (NextIs recording t) (sym e)
    (record { first = silent_tick recording t v k z (omega arith); second = silent_tick recording (t + 1) w m y (omega (arith, below l)); next = refl })
  where
    below : (length recording / 2 - t ≡ 1 → ⊥) → t + 1 < length recording / 2
    below l = omega arith

pub next_behind : (recording : List ℕ) (t v w : ℕ) (n : Result ℕ Stop) → n ≡ Ok (t + 1) → TickIs recording t v → v ≡ 0 → TickIs recording (t + 1) w → (w ≡ 0 → ⊥) → t < length recording / 2 → (length recording / 2 - t ≡ 1 → ⊥) → NextIs recording t n
next_behind recording t v w n e k z m y h l =
    subst (NextIs recording t) (sym e)
    (record { reaches = behind_silence (silent_tick recording t v k z (omega arith)); sound = sound_tick recording (t + 1) w m y (omega arith) })

pub next_here : (recording : List ℕ) (t v : ℕ) (n : Result ℕ Stop) → n ≡ Ok t → TickIs recording t v → (v ≡ 0 → ⊥) → t < length recording / 2 → NextIs recording t n
next_here recording t v n e k z h = subst (NextIs recording t) (sym e) (record { reaches = at_once; sound = sound_tick recording t v k z (omega arith) })

pub ruleset nexts = (refl, next_none, next_last, next_breaks, next_behind, next_here)

-- what an answer says
next_at : (recording : List ℕ) (t u : ℕ) (n : Result ℕ Stop) → NextIs recording t n → n ≡ Ok u → NextAt recording t u
next_at recording t u n v e = subst (NextIs recording t) e v

pub next_within : (recording : List ℕ) (t u : ℕ) (n : Result ℕ Stop) → NextIs recording t n → n ≡ Ok u → 2 * u + 2 ≤ length recording
next_within recording t u n v e = (next_at recording t u n v e).sound.within

-- a tick of a recording has another number behind it
pub next_fits : (recording : List ℕ) (t u : ℕ) (n : Result ℕ Stop) → NextIs recording t n → n ≡ Ok u → Fits w64 (length recording) → Fits w64 (u + 1)
next_fits recording t u n v e f = omega (arith, f, next_within recording t u n v e)

-- ---- so many characters

pub record Walking (recording : List ℕ) (from need s : ℕ) (b : Bool) (t count sum : ℕ) (harm : Bool) : Type 0 where
  pub walk : Walk recording from s b t count sum harm
  pub below : count ≤ need

pub walking_none : (recording : List ℕ) (from need s : ℕ) (b : Bool) → Walking recording from need s b from 0 s b
walking_none recording from need s b = record { walk = no_character; below = omega arith }

-- the tick's number is one
same_number : (recording : List ℕ) (t v w : ℕ) → TickIs recording t v → TickIs recording t w → v ≡ w
same_number recording t v w p q = omega (arith, p.first, p.character, q.first, q.character)

walk_on : (recording : List ℕ) (from s : ℕ) (b : Bool) (t u count sum v : ℕ) (harm : Bool) → Walk recording from s b t count sum harm → NextAt recording t u → TickIs recording u v
    → Walk recording from s b (u + 1) (count + 1) (bit_xor sum (v / 256)) (harmed_by harm v)
walk_on recording from s b t u count sum v harm w n k =
    subst (λ (x : ℕ). Walk recording from s b (u + 1) (count + 1) (bit_xor sum (x / 256)) (harmed_by harm x)) (same_number recording u n.sound.number v n.sound.tick k)
    (one_more w n.reaches n.sound)

pub walking_more : (recording : List ℕ) (from need s : ℕ) (b : Bool) (t count sum : ℕ) (harm : Bool) (n : Result ℕ Stop) (u v x y : ℕ) (z : Bool)
    → Walking recording from need s b t count sum harm → count < need → NextIs recording t n → n ≡ Ok u → TickIs recording u v → x ≡ v / 256 → y ≡ bit_xor sum x → z ≡ harmed_by harm v
    → Walking recording from need s b (u + 1) (count + 1) y z
walking_more recording from need s b t count sum harm n u v x y z w h k e m p q r = record {
  walk = subst (λ (l : ℕ). Walk recording from s b (u + 1) (count + 1) l z) (sym (q ∙ ap (bit_xor sum) p))
      (subst (λ (l : Bool). Walk recording from s b (u + 1) (count + 1) (bit_xor sum (v / 256)) l) (sym r) (walk_on recording from s b t u count sum v harm w.walk (next_at recording t u n k e) m));
  below = omega arith;
}

stopped : (recording : List ℕ) (from need s : ℕ) (b : Bool) (t count sum : ℕ) (harm : Bool) (stop : Stop)
    → Walking recording from need s b t count sum harm → count < need → NextIs recording t (Err stop) → RunIs recording from need s b (Err stop)
stopped recording from need s b t count sum harm (Broke u) w h k = record { place = t; count = count; sum = sum; harm = harm; walk = w.walk; fewer = h; two = k }
stopped recording from need s b t count sum harm Over w h k = record { place = t; count = count; sum = sum; harm = harm; walk = w.walk; fewer = h; none = k }

pub walking_stop : (recording : List ℕ) (from need s : ℕ) (b : Bool) (t count sum : ℕ) (harm : Bool) (n : Result ℕ Stop) (stop : Stop) (r : Result Run Stop)
    → Walking recording from need s b t count sum harm → count < need → NextIs recording t n → n ≡ Err stop → r ≡ Err stop → RunIs recording from need s b r
walking_stop recording from need s b t count sum harm n stop r w h k e f =
    subst (RunIs recording from need s b) (sym f) (stopped recording from need s b t count sum harm stop w h (subst (NextIs recording t) e k))

pub walking_all : (recording : List ℕ) (from need s : ℕ) (b : Bool) (t count sum : ℕ) (harm : Bool) (r : Result Run Stop)
    → Walking recording from need s b t count sum harm → need ≤ count → r ≡ Ok (record { end = t; sum = sum; harm = harm }) → RunIs recording from need s b r
walking_all recording from need s b t count sum harm r w h f =
    let all : count ≡ need = omega (arith, w.below) in
    subst (RunIs recording from need s b) (sym f) (subst (λ (n : ℕ). Walk recording from s b t n sum harm) all w.walk)

pub ruleset walks = (refl, next_within, next_fits, walking_none, walking_more, walking_stop, walking_all)

-- a choice and a sum
pub sum_of : (t : Bool) (a b c x : ℕ) → t ≡ true → x ≡ a + c → x ≡ (when t then a else b) + c
sum_of t a b c x e p = p ∙ ap (λ (n : ℕ). n + c) (sym (if_is_true t a b e))

pub sum_else : (t : Bool) (a b c x : ℕ) → t ≡ false → x ≡ b + c → x ≡ (when t then a else b) + c
sum_else t a b c x e p = p ∙ ap (λ (n : ℕ). n + c) (sym (if_is_false t a b e))

pub ruleset sums = (refl, sum_of, sum_else)
