-- Theorem: the list has an entry just where nengapiko_ticks gives 2, 3 or 4, or 1 in tick 0. Both go over the same ticks.
use Prim.Native.Nat.{ℕ, ◌+◌}
use mathlib.Core.Path.{◌≡◌, refl, ap₂}
use mathlib.Core.List.{List, [], ◌∷◌, ◌++◌}
use Rattle.base.specs.Choice.{when◌then◌else◌}
use Rattle.line.specs.Reader.{passing}
use Rattle.line.specs.declared.Event.{Event}
use Rattle.line.specs.declared.Event.TheVariants.{Nothing, PassedOver, Broken, Frame, Damaged}
use Rattle.line.specs.declared.Receiver.{Receiver}
use Rattle.line.specs.Told.{event_number}
use Rattle.recording_c.specs.Ticks.{step, ticked}
use Rattle.recording.specs.Form.{ticks_of}
use Rattle.recording.specs.Recording.{trace}
use Rattle.recording_list.specs.Listing.{adds, found}
use Rattle.recording_c.specs.Told.{entry_by, entries_by, ListedAsTold}

adds_by : (t : ℕ) (e : Event) → adds t e ≡ entry_by t (event_number e)
unfolding when◌then◌else◌
adds_by t Nothing = refl
adds_by t PassedOver = refl
adds_by t Broken = refl
adds_by t (Frame w) = refl
adds_by t (Damaged w m) = refl

found_by : (recording : List ℕ) (t : ℕ) (r : Receiver) → found t r (ticks_of recording) ≡ entries_by t (trace ticked r recording)
unfolding found ticks_of trace entries_by
found_by [] t r = refl
found_by (first ∷ []) t r = refl
found_by (first ∷ c ∷ recording) t r = ap₂ (λ (a b : List ℕ). a ++ b) (adds_by t (step r first c).event) (found_by recording (t + 1) (step r first c).receiver)

pub listed_as_told : ListedAsTold
listed_as_told recording = found_by recording 0 passing
