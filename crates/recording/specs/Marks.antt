-- Inner contracts: nothing that is to be believed rests on them.
-- A recording is looked through to its end without a stop; what was found on the way stands in marks, numbers that are not 0 where something was found.
use Rattle.std.specs.Prelude.{ℕ, ◌/◌, ◌%◌, Bool, true, false, ◌≡◌}
use Rattle.base.specs.Choice.{when◌then◌else◌, ◌=?◌}
use Rattle.recording.specs.Form.{tick_refused}

unfoldable pub is_marked : ℕ → Bool
is_marked n = when n =? 0 then false else true

abbrev pub or_marked : ℕ → ℕ → Bool
or_marked a b = when is_marked a then true else is_marked b

-- n is marked exactly where no recording can have the tick v
abbrev pub BadnessIs : ℕ → ℕ → Type 0
BadnessIs v n = is_marked n ≡ tick_refused (v % 256) (v / 256)
