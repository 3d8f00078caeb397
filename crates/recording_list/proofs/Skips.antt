-- Laws of ticks that are left out: silence before a frame, and characters behind a break.
use Prim.Native.Nat.{ℕ, ◌+◌, ◌*◌, ◌/◌, ◌≤◌, ◌<◌}
use native.Mathlib.Omega.{arith}
use mathlib.Core.Path.{◌≡◌, refl, sym, ap, ap₂, subst, ◌∙◌}
use mathlib.Core.Bool.{false}
use mathlib.Core.List.{List, ◌++◌}
use lib.ListN.{length}
use Rattle.line.specs.Reader.{idle, passing, tells, taken}
use Rattle.line.specs.declared.Event.TheVariants.{Nothing, PassedOver}
use Rattle.line.specs.declared.Heard.{Heard}
use Rattle.line.specs.declared.Heard.TheVariants.{Silence}
use Rattle.line.specs.declared.Receiver.{Receiver}
use Rattle.line.proofs.Ticks.{outside_idle}
use Rattle.recording.specs.Form.{bad_recording}
use Rattle.recording.specs.Recording.{TickIs}
use Rattle.recording_list.specs.Reading.{found_from, LeftOut, SoundFrom}
use Rattle.recording_list.proofs.Sentences.{passed_none}
use Rattle.recording_list.proofs.Walks.{silent_tick, sound_tick}
use Rattle.recording_list.proofs.Readers.{found_at, found_over, silent_left, SoundAs, as_character, as_damaged, SoundView, sound_view}

-- ---- silence before a frame

pub record Skipping (recording : List ℕ) (from : ℕ) (r : Receiver) (ticks t : ℕ) : Type 0 where
  pub count : ticks ≡ length recording / 2
  pub onward : from ≤ t
  pub within : 2 * t ≤ length recording
  pub same : found_from recording from r ≡ found_from recording t r

pub skip_begun : (recording : List ℕ) (from ticks : ℕ) (r : Receiver) → 2 * from ≤ length recording → ticks ≡ length recording / 2 → Skipping recording from r ticks from
skip_begun recording from ticks r h e = record { count = e; onward = omega arith; within = h; same = refl }

pub skip_silence : (recording : List ℕ) (from ticks t v : ℕ) → Skipping recording from idle ticks t → t < ticks → TickIs recording t v → v ≡ 0 → Skipping recording from idle ticks (t + 1)
skip_silence recording from ticks t v p h k e = record {
  count = p.count;
  onward = omega (arith, p.onward);
  within = omega (arith, p.count);
  same = p.same ∙ found_at recording t idle Silence (tells idle Nothing) (silent_left recording t (silent_tick recording t v k e (omega (arith, p.count)))) (outside_idle idle refl);
}

pub sound_here : (recording : List ℕ) (from ticks t v : ℕ) → bad_recording recording ≡ false → Skipping recording from idle ticks t → t < ticks → TickIs recording t v → (v ≡ 0 → ⊥) → SoundFrom recording from t
sound_here recording from ticks t v g p h k e = record { left_out = record { from = p.onward; within = p.within; same = p.same }; first = λ l. sound_tick recording t v k e (omega arith) }

pub sound_none : (recording : List ℕ) (from ticks t : ℕ) → Skipping recording from idle ticks t → ticks ≤ t → SoundFrom recording from ticks
sound_none recording from ticks t p h =
    let all : t ≡ ticks = omega (arith, p.within, p.count) in
    subst (SoundFrom recording from) all
    (record { left_out = record { from = p.onward; within = p.within; same = p.same }; first = λ l. absurd (omega (arith, p.count)) })

pub ruleset sounds = (refl, skip_begun, skip_silence, sound_here, sound_none)

-- ---- characters behind a break

pub passed_over : (v : ℕ) (h : Heard) → SoundAs v h → taken passing h ≡ tells passing PassedOver
unfolding taken
passed_over v h (as_character k) = refl
passed_over v h (as_damaged kind k) = refl

pub skip_character : (recording : List ℕ) (from ticks t v : ℕ) → bad_recording recording ≡ false → 1 ≤ from → Skipping recording from passing ticks t → t < ticks → TickIs recording t v → (v ≡ 0 → ⊥) → Skipping recording from passing ticks (t + 1)
skip_character recording from ticks t v g o p h k e =
    let view : SoundView recording t v = sound_view recording t g (sound_tick recording t v k e (omega (arith, p.count))) in
    record {
      count = p.count;
      onward = omega (arith, p.onward);
      within = omega (arith, p.count);
      same = p.same ∙ found_at recording t passing view.heard (tells passing PassedOver) view.left (passed_over v view.heard view.sounding)
          ∙ ap (λ (l : List ℕ). l ++ found_from recording (t + 1) passing) (passed_none t (omega (arith, p.onward)));
    }

pub silence_here : (recording : List ℕ) (from ticks t v : ℕ) → Skipping recording from passing ticks t → t < ticks → TickIs recording t v → v ≡ 0 → LeftOut recording from passing t idle
silence_here recording from ticks t v p h k e =
    let left = silent_left recording t (silent_tick recording t v k e (omega (arith, p.count))) in
    record {
      from = p.onward;
      within = p.within;
      same = p.same ∙ found_at recording t passing Silence (tells idle Nothing) left (outside_idle passing refl)
          ∙ sym (found_at recording t idle Silence (tells idle Nothing) left (outside_idle idle refl));
    }

pub silence_none : (recording : List ℕ) (from ticks t : ℕ) → Skipping recording from passing ticks t → ticks ≤ t → LeftOut recording from passing ticks idle
silence_none recording from ticks t p h = subst (λ (u : ℕ). LeftOut recording from passing u idle) all (record {
  from = p.onward;
  within = p.within;
  same = p.same ∙ found_over recording t passing (omega (arith, p.count)) ∙ sym (found_over recording t idle (omega (arith, p.count)));
})
  where
    all : t ≡ ticks
    all = omega (arith, p.within, p.count)

pub ruleset silences = (refl, skip_begun, skip_character, silence_here, silence_none)
