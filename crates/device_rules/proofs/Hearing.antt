-- Laws of hearing: what taking promises, from what was heard.
use Prim.Native.Nat.{ℕ}
use mathlib.Core.Bool.{Bool, true, false}
use mathlib.Core.List.{List}
use mathlib.Core.Path.{◌≡◌, refl, sym, ap, ◌∙◌}
use Rattle.base.proofs.Choices.{if_true, if_false, true_false}
use Rattle.line.specs.Reader.{taken, taken_data}
use Rattle.line.specs.Reader as Reader
use Rattle.line.specs.declared.Event.{Event}
use Rattle.line.specs.declared.Heard.{Heard}
use Rattle.line.specs.declared.Heard.TheVariants.{Silence, Character, Damaged}
use Rattle.line.specs.declared.Taken.{Taken}
use Rattle.party.specs.Hears.{is_silence}
use Rattle.turns.specs.Device.{tells, on_silence, on_character, device_takes}
use Rattle.turns.specs.declared.Device.{Device}
use Rattle.turns.specs.declared.DeviceTaken.{DeviceTaken}
use Rattle.turns.specs.declared.DeviceTold.{DeviceTold}
use Rattle.device_rules.specs.Hearing.{HeardIs}

module _ (d : Device) (heard : Heard) (bytes : List ℕ) (x : DeviceTaken) where
  pub take_deaf : d.deaf ≡ true → x ≡ tells d DeviceTold.Nothing Event.Nothing → HeardIs d heard bytes x bytes
  unfolding device_takes
  take_deaf e p = record { taken = if_true d.deaf _ _ _ e p; data_is = if_true d.deaf _ _ _ e refl }

  module _ (e : d.deaf ≡ false) (s : Bool) (is-s : s ≡ is_silence heard) where
    pub take_silence : s ≡ true → x ≡ on_silence d (taken d.receiver Silence).receiver → HeardIs d heard bytes x bytes
    unfolding device_takes taken taken_data
    take_silence t q = by heard (sym is-s ∙ t)
      where
        by : (h : Heard) → is_silence h ≡ true → HeardIs d h bytes x bytes
        by Silence t = record { taken = if_false d.deaf _ _ _ e q; data_is = if_false d.deaf _ _ _ e refl }
        by (Character c) t = absurd (true_false (sym t))
        by (Damaged c k) t = absurd (true_false (sym t))

    pub take_character : (t : Taken) (after : List ℕ) → s ≡ false → Reader.ReaderTakeIs d.receiver heard bytes t after → x ≡ on_character d t.receiver t.event → HeardIs d heard bytes x after
    unfolding device_takes
    take_character t after f is q = by heard (sym is-s ∙ f) is
      where
        hears : (h : Heard) → t ≡ taken d.receiver h → x ≡ on_character d (taken d.receiver h).receiver (taken d.receiver h).event
        hears h r = q ∙ ap (λ (k : Taken). on_character d k.receiver k.event) r

        by : (h : Heard) → is_silence h ≡ false → Reader.ReaderTakeIs d.receiver h bytes t after → HeardIs d h bytes x after
        by Silence f is = absurd (true_false f)
        by (Character c) f is = record { taken = if_false d.deaf _ _ _ e (hears (Character c) is.reader); data_is = if_false d.deaf _ _ _ e is.buffer }
        by (Damaged c k) f is = record { taken = if_false d.deaf _ _ _ e (hears (Damaged c k) is.reader); data_is = if_false d.deaf _ _ _ e is.buffer }

pub ruleset hearings = (refl, take_deaf, take_silence, take_character)
