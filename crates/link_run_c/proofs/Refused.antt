-- Computed: the number of a refused start, for a data limit at its bounds, and beside the refusals of the parties' starts.
use Prim.Native.Nat.{ℕ}
use mathlib.Core.Path.{◌≡◌, refl}
use mathlib.Core.List.{[], ◌∷◌}
use lib.ListN.{replicate}
use Rattle.base.specs.Choice.{when◌then◌else◌}
use Rattle.line.specs.Profile.{fsk_profile}
use Rattle.link_start.specs.Start.{devices_start, limited_starts}
use Rattle.link_run_c.specs.Settings.{setting_of, refusal_of}

-- with R `retries`, and a device with this preamble and polling address
unfoldable pub number_of : ℕ → ℕ → ℕ → ℕ → ℕ
number_of limit retries preamble polling = refusal_of (limited_starts limit fsk_profile retries (setting_of preamble polling 2 ∷ replicate 5 (setting_of 0 0 0)))

-- "a start with a length outside 2 to 255 with 9"
pub at_the_bounds : number_of 1 3 5 0 ∷ number_of 2 3 5 0 ∷ number_of 255 3 5 0 ∷ number_of 256 3 5 0 ∷ [] ≡ 9 ∷ 0 ∷ 0 ∷ 9 ∷ []
unfolding number_of limited_starts devices_start when◌then◌else◌
at_the_bounds = refl

-- 2, 3 and 4 come before 9
pub lowest_first : number_of 256 2 4 64 ∷ number_of 256 3 4 64 ∷ number_of 256 3 5 64 ∷ [] ≡ 2 ∷ 3 ∷ 4 ∷ []
unfolding number_of limited_starts devices_start when◌then◌else◌
lowest_first = refl
