-- How the code stands for what is to be believed.
-- What a run is started with, as numbers: a profile, and for each of the six slots a preamble, a polling address and a unique address. And what the call gives.
use Rattle.std.specs.Prelude.{ℕ, List, [], ◌∷◌, ◌≡◌, Result, Option, Some, None}
use Rattle.base.specs.Choice.{when◌then◌else◌, ◌<?◌}
use Rattle.base.specs.Events.{RunIs}
use Rattle.base.specs.Lent.{Lent, before, after}
use Rattle.base.specs.Refusal.{Called, accepted, refused, called_as}
use Rattle.line.specs.declared.Profile.{Profile}
use Rattle.link_start.specs.Start.{limited_starts}
use Rattle.link_start.specs.declared.Setting.{Setting}
use Rattle.link_run.specs.Run.{numbers_of}
use Rattle.link_run.specs.Late.{late_steps}
use Rattle.base.specs.declared.Refusal.{Refusal}

abbrev pub profile_of : ℕ → ℕ → ℕ → ℕ → ℕ → Profile
profile_of sto hold rt2 rt1p rt1s = record { sto = sto; hold = hold; rt2 = rt2; rt1p = rt1p; rt1s = rt1s }

-- a preamble of 0 stands for a slot without a device
abbrev pub setting_of : ℕ → ℕ → ℕ → Option Setting
setting_of preamble polling unique = when 0 <? preamble then Some (record { preamble = preamble; polling = polling; unique = unique }) else None

-- slot by slot
unfoldable pub settings_of : List ℕ → List ℕ → List ℕ → List (Option Setting)
settings_of [] pollings uniques = []
settings_of (p ∷ ps) [] uniques = []
settings_of (p ∷ ps) (q ∷ qs) [] = []
settings_of (p ∷ ps) (q ∷ qs) (u ∷ us) = setting_of p q u ∷ settings_of ps qs us

abbrev pub settings_in : List ℕ → List ℕ → List ℕ → List (Option Setting)
settings_in preambles pollings uniques = settings_of preambles pollings uniques

-- the number of a refused start; 0 where none was refused
abbrev pub refusal_of : {A : Type 0} → Called A → ℕ
refusal_of (accepted x) = 0
refusal_of (refused why) = why

-- how many numbers were given; none where a start was refused
abbrev pub count_of : Called ℕ → ℕ
count_of (accepted n) = n
count_of (refused why) = 0

-- what the call returns and leaves in `refusal`, where the run ended so
pub record EndsAs (ended : Result ℕ Refusal) (refusal : Lent ℕ) (r : ℕ) : Type 0 where
  pub returned : r ≡ count_of (called_as ended)
  pub refusal_is : after refusal ≡ refusal_of (called_as ended)

-- the numbers of the run with these settings, in which the primary starts in tick a and the secondary in tick b, and why a start was refused
pub record RunsAs (p : Profile) (retries limit : ℕ) (s : List (Option Setting)) (a b : ℕ) (ticks : List ℕ) (events : Lent (List ℕ)) (refusal : Lent ℕ) (r : ℕ)
    : Type 0 where
  pub numbers : RunIs (numbers_of (late_steps limit p retries s a b ticks)) (before events) r (after events)
  pub refusal_is : after refusal ≡ refusal_of (limited_starts limit p retries s)
