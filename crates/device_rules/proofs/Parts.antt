-- Laws of silence: what a silent tick does to a device, by where its reader stands.
use Prim.Native.Nat.{ℕ}
use mathlib.Core.Bool.{Bool, true, false}
use mathlib.Core.Path.{◌≡◌, refl, sym, ap, ◌∙◌}
use Rattle.line.specs.Reader.{idle, gapped, inside_frame, taken}
use Rattle.line.specs.declared.Event.TheVariants.{Nothing, Broken}
use Rattle.line.specs.declared.Receiver.{Receiver}
use Rattle.line.specs.declared.Heard.TheVariants.{Silence}
use Rattle.turns.specs.Device.{device_with, tells, counts, broken_due, on_silence}
use Rattle.turns.specs.declared.Device.{Device}
use Rattle.turns.specs.declared.DeviceTaken.{DeviceTaken}
use Rattle.turns.specs.declared.DeviceTold.{DeviceTold}
use Rattle.turns.proofs.Silent.{device_outside, device_passed, device_second}

module _ (d : Device) (t : DeviceTaken) (inside : Bool) (is : inside ≡ inside_frame d.receiver.place) where
  pub hears_outside : (r : Receiver) → inside ≡ false → r ≡ idle → t ≡ counts d r d.due Nothing → t ≡ on_silence d (taken d.receiver Silence).receiver
  hears_outside r o q p = p ∙ ap (λ (x : Receiver). counts d x d.due Nothing) q ∙ sym (device_outside d (sym is ∙ o))

  pub hears_passed : inside ≡ true → d.receiver.gap ≡ false → t ≡ tells (device_with d (gapped d.receiver) d.turn d.request d.wish d.length d.due) DeviceTold.Nothing Nothing
      → t ≡ on_silence d (taken d.receiver Silence).receiver
  hears_passed i g p = p ∙ sym (device_passed d (sym is ∙ i) g)

  pub hears_second : (r : Receiver) (due : ℕ) → inside ≡ true → d.receiver.gap ≡ true → r ≡ idle → due ≡ broken_due d → t ≡ counts d r due Broken → t ≡ on_silence d (taken d.receiver Silence).receiver
  hears_second r due i g q u p = p ∙ (λ k. counts d (q k) (u k) Broken) ∙ sym (device_second d (sym is ∙ i) g)

pub ruleset silences = (refl, hears_outside, hears_passed, hears_second)
