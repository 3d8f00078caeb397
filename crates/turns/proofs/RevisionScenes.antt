-- Document 02, item 2, computed: requests of command 0 by revision and polling address.
use Prim.Native.Nat.{ℕ}
use mathlib.Core.Path.{◌≡◌, refl}
use mathlib.Core.Bool.{false}
use mathlib.Core.List.{[], ◌∷◌}
use Rattle.base.specs.Choice.{when◌then◌else◌}
use Rattle.frame.specs.Limits.{most_data}
use Rattle.turns.specs.Master.{requested, requested_up_to}
use Rattle.turns.specs.Settled.{Outcome, taken, refuses, outcome}
use Rattle.turns.specs.declared.Master.{Master}
use Rattle.turns.proofs.Limits.{free, busy}

-- preamble, revision and polling address of a request of command 0
abbrev pub ask_revision : Master → ℕ → ℕ → ℕ → Outcome
ask_revision m preamble revision polling = outcome (requested most_data m (record { preamble = preamble; revision = revision; long = false; address = polling; command = 0 }) 0)

pub revisions :
    ask_revision free 5 3 15 ∷ ask_revision free 5 5 15 ∷ ask_revision free 5 5 16 ∷ ask_revision free 5 6 16 ∷ ask_revision free 5 7 63 ∷ ask_revision free 5 6 64 ∷ []
    ≡ taken ∷ taken ∷ refuses 4 ∷ taken ∷ taken ∷ refuses 4 ∷ []
unfolding requested requested_up_to when◌then◌else◌
revisions = refl

-- 17 comes after 3 and before 4 to 7
pub revision_order :
    ask_revision free 5 2 0 ∷ ask_revision free 5 8 64 ∷ ask_revision free 4 2 0 ∷ ask_revision busy 5 2 0 ∷ ask_revision busy 5 7 0 ∷ []
    ≡ refuses 17 ∷ refuses 17 ∷ refuses 3 ∷ refuses 17 ∷ refuses 7 ∷ []
unfolding requested requested_up_to when◌then◌else◌
revision_order = refl
