-- Loops that put a number for each tick of a recording into a lent buffer.
use Prim.Native.Nat.{ℕ, suc, ◌+◌, ◌-◌, ◌≤◌, ◌<◌}
use native.Mathlib.Numerals.{add-one, add-two}
use native.Mathlib.Omega.{arith}
use mathlib.Core.Path.{◌≡◌, refl, sym, ap, ◌∙◌}
use mathlib.Core.List.{List, [], ◌∷◌}
use lib.ListN.{length, drop, get_or, set, length-drop}
use lib.Seq.{drop-cons}
use Rattle.base.specs.Events.{RunIs}
use Rattle.base.proofs.Filling.{Filling, filling_begun, filling_more, filling_ended, filling_full}
use Rattle.recording.specs.Recording.{Ticked, trace}

-- ---- over a recording, for every party that has a tick by the two bytes

pub two_more : (recording : List ℕ) (at : ℕ) → 2 ≤ length recording - at → drop at recording ≡ get_or recording at 0 ∷ get_or recording (at + 1) 0 ∷ drop (at + 2) recording
two_more recording at h = simp (add-one, add-two) (drop-cons recording at 0 (omega arith) ∙ ap (λ (l : List ℕ). get_or recording at 0 ∷ l) (drop-cons recording (suc at) 0 (omega arith)))

module _ {S : Type 0} (tick : S → ℕ → ℕ → Ticked S) where
  -- the numbers of a party that has still to hear so much of a recording
  abbrev left : (S × List ℕ) → List ℕ
  left s = trace tick s.0 s.1

  short_none : (s : S) (l : List ℕ) → length l < 2 → trace tick s l ≡ []
  unfolding trace
  short_none s [] h = refl
  short_none s (a ∷ []) h = refl
  short_none s (a ∷ b ∷ l) h = absurd (omega arith)

  pub record Running (numbers recording before : List ℕ) (s : S) (events : List ℕ) (at i : ℕ) : Type 0 where
    pub within : at ≤ length recording
    pub filling : Filling left numbers before (s, drop at recording) events i

  pub begun : (recording before : List ℕ) (s : S) → Running (trace tick s recording) recording before s before 0 0
  begun recording before s = record { within = omega arith; filling = filling_begun left before (s, recording) }

  pub goes_on : (numbers recording before : List ℕ) (s : S) (events : List ℕ) (at i : ℕ) (t : Ticked S)
      → Running numbers recording before s events at i → i < length events → 2 ≤ length recording - at
      → t ≡ tick s (get_or recording at 0) (get_or recording (at + 1) 0)
      → Running numbers recording before t.behind (set events i t.number) (at + 2) (i + 1)
  unfolding trace
  goes_on numbers recording before s events at i t v h k e = record {
    within = omega arith;
    filling = filling_more left numbers before (s, drop at recording) (t.behind, drop (at + 2) recording) events i t.number v.filling h
        (ap (trace tick s) (two_more recording at k)
        ∙ ap (λ (u : Ticked S). u.number ∷ trace tick u.behind (drop (at + 2) recording)) (sym e));
  }

  pub run_ended : (numbers recording before : List ℕ) (s : S) (events : List ℕ) (at i : ℕ) → Running numbers recording before s events at i → length recording - at < 2 → RunIs numbers before i events
  run_ended numbers recording before s events at i v h =
      filling_ended left numbers before (s, drop at recording) events i v.filling (short_none s (drop at recording) (omega (arith, length-drop at recording)))

  pub run_full : (numbers recording before : List ℕ) (s : S) (events : List ℕ) (at i : ℕ) → Running numbers recording before s events at i → length events ≤ i → RunIs numbers before i events
  run_full numbers recording before s events at i v h = filling_full left numbers before (s, drop at recording) events i v.filling h
