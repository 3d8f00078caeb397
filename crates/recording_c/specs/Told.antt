-- How the code stands for what is to be believed.
-- The list of a recording, made from the numbers that nengapiko_ticks gives for its ticks.
use Rattle.std.specs.Prelude.{ℕ, ◌+◌, ◌≡◌, List, [], ◌∷◌, ◌++◌}
use Rattle.base.specs.Choice.{when◌then◌else◌, ◌=?◌}
use Rattle.recording_c.specs.Ticks.{told}
use Rattle.recording_list.specs.Listing.{entry, listing_of}

-- the entry of tick t, by its number: 2 broken, 3 whole, 4 damaged, and 1, passed over, in tick 0; any other tick has none
abbrev pub entry_by : ℕ → ℕ → List ℕ
entry_by t n =
    when n =? 2 then entry t 0 else
    when n =? 3 then entry t 1 else
    when n =? 4 then entry t 2 else
    when n =? 1 then (when t =? 0 then entry t 0 else []) else
    []

unfoldable pub entries_by : ℕ → List ℕ → List ℕ
entries_by t [] = []
entries_by t (n ∷ ns) = entry_by t n ++ entries_by (t + 1) ns

-- The list has an entry exactly where nengapiko_ticks gives 2, 3 or 4, or 1 in tick 0.
abbrev pub ListedAsTold : Type 0
ListedAsTold = (recording : List ℕ) → listing_of recording ≡ entries_by 0 (told recording)
