-- What a tick tells is what its numbers tell.
use Prim.Native.Nat.{ℕ}
use mathlib.Core.List.{◌∷◌}
use mathlib.Core.Path.{◌≡◌, refl}
use Rattle.line.specs.declared.Event.{Event}
use Rattle.base.specs.Choice.{when◌then◌else◌}
use Rattle.line.specs.Reader.{no_damage}
use Rattle.line.specs.declared.FrameDamage.{FrameDamage}
use Rattle.line.specs.declared.Whole.{Whole}
use Rattle.state_words.specs.Fits.{WholeFits, EventFits}
use Rattle.state_words.specs.Numbers.{frame_numbers, tick_numbers, whole_at, event_at}
use Rattle.state_words.proofs.Kept.{flag_kept, number_kept, damage_kept}

whole_kept : (sent told attempts event : ℕ) (w : Whole) (m : FrameDamage) → WholeFits w → whole_at (sent ∷ told ∷ attempts ∷ event ∷ frame_numbers w m) ≡ w
whole_kept sent told attempts event w m f = λ i. record {
  header = record {
    kind = number_kept 8 w.header.kind f.header.kind i;
    long = flag_kept w.header.long i;
    primary = flag_kept w.header.primary i;
    burst = flag_kept w.header.burst i;
    address = w.header.address;
    command = number_kept 8 w.header.command f.header.command i;
  };
  expansion = number_kept 8 w.expansion f.expansion i;
  count = number_kept 8 w.count f.count i;
}

-- what a tick tells is what its numbers tell
pub event_kept : (sent told attempts : ℕ) (event : Event) → EventFits event → event_at (tick_numbers sent told attempts event) ≡ event
unfolding when◌then◌else◌
event_kept sent told attempts Event.Nothing f = refl
event_kept sent told attempts Event.PassedOver f = refl
event_kept sent told attempts Event.Broken f = refl
event_kept sent told attempts (Event.Frame w) f = λ i. Event.Frame (whole_kept sent told attempts 3 w no_damage f i)
event_kept sent told attempts (Event.Damaged w m) f = λ i. Event.Damaged (whole_kept sent told attempts 4 w m f i) (damage_kept m i)
