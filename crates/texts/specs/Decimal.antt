-- To be believed: what the engine must do, or what is claimed of it.
-- A number as text: its decimal digits in ASCII.
use Rattle.std.specs.Prelude.{ℕ, zero, suc, ◌+◌, ◌/◌, ◌%◌, List, [], ◌∷◌, ◌++◌}
use Rattle.base.specs.Choice.{when◌then◌else◌, ◌<?◌}

-- a number in decimal, up to this many digits
unfoldable pub decimal_of : ℕ → ℕ → List ℕ
decimal_of zero n = []
decimal_of (suc digits) n = when n <? 10 then (48 + n) ∷ [] else decimal_of digits (n / 10) ++ ((48 + n % 10) ∷ [])
