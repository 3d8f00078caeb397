-- How the code stands for what is to be believed.
-- The first tick for which a recording is refused with 21: document 02, item 9, "It refuses an odd length or another value with 21".
use Rattle.std.specs.Prelude.{ℕ, ◌+◌, Bool, true, false, List, [], ◌∷◌, Option, Some, None}
use Rattle.base.specs.Choice.{when◌then◌else◌}
use Rattle.recording.specs.Form.{tick_refused}

-- from tick t on; an odd last byte is a bad tick
unfoldable pub first_bad : ℕ → List ℕ → Option ℕ
first_bad t [] = None
first_bad t (first ∷ []) = Some t
first_bad t (first ∷ c ∷ recording) = when tick_refused first c then Some t else first_bad (t + 1) recording

abbrev pub is_bad : Option ℕ → Bool
is_bad (Some t) = true
is_bad None = false
