-- The definitions give what an independent generator gave: a script with drawn records, and one that is cut in the opening.
use mathlib.Core.Path.{◌≡◌, refl}
use mathlib.Core.List.{[], ◌∷◌}
use Rattle.base.specs.Choice.{when◌then◌else◌}
use Rattle.load_writer.specs.Load.{draw, opening, lower, upper, drawn_from, laid, load, script_bytes}

pub twenty_records : script_bytes (load 1 20) ≡ 0 ∷ 0 ∷ 3 ∷ 8 ∷ 0 ∷ 0 ∷ 19 ∷ 3 ∷ 0 ∷ 250 ∷ 3 ∷ 2 ∷ 1 ∷ 15 ∷ 50 ∷ 2 ∷ 1 ∷ 36 ∷ 36 ∷ 2 ∷ 1 ∷ 74 ∷ 3 ∷ 2 ∷ 1 ∷ 85 ∷ 50 ∷ 2 ∷ 1 ∷ 135 ∷ 37 ∷ 2 ∷ 1 ∷ 144 ∷ 66 ∷ 0 ∷ 1 ∷ 144 ∷ 82 ∷ 4 ∷ 1 ∷ 144 ∷ 98 ∷ 32 ∷ 1 ∷ 144 ∷ 114 ∷ 33 ∷ 1 ∷ 145 ∷ 19 ∷ 0 ∷ 1 ∷ 145 ∷ 66 ∷ 12 ∷ 1 ∷ 147 ∷ 50 ∷ 8 ∷ 1 ∷ 147 ∷ 66 ∷ 7 ∷ 1 ∷ 149 ∷ 3 ∷ 5 ∷ 1 ∷ 149 ∷ 82 ∷ 14 ∷ 1 ∷ 151 ∷ 1 ∷ 0 ∷ 1 ∷ 151 ∷ 0 ∷ 0 ∷ []
unfolding draw opening lower upper drawn_from laid load script_bytes when◌then◌else◌
twenty_records = refl

pub seven_records : script_bytes (load 4294967295 7) ≡ 0 ∷ 0 ∷ 3 ∷ 8 ∷ 0 ∷ 0 ∷ 19 ∷ 3 ∷ 0 ∷ 250 ∷ 3 ∷ 2 ∷ 1 ∷ 15 ∷ 50 ∷ 2 ∷ 1 ∷ 36 ∷ 36 ∷ 2 ∷ 1 ∷ 74 ∷ 3 ∷ 2 ∷ 1 ∷ 85 ∷ 0 ∷ 0 ∷ []
unfolding draw opening lower upper drawn_from laid load script_bytes when◌then◌else◌
seven_records = refl
