-- How the code stands for what is to be believed.
-- An argument as a number of 32 bits.
use Rattle.std.specs.Prelude.{ℕ, ◌+◌, ◌-◌, ◌*◌, List, [], ◌∷◌}
use Rattle.base.specs.Choice.{when◌then◌else◌, ◌<?◌, ◌outside◌to◌}

-- the largest number of 32 bits
abbrev pub largest : ℕ
largest = 4294967295

-- the number that decimal digits give where those before them gave n; 0, which the writer refuses, where one is no digit or the number has more than 32 bits
unfoldable pub number_from : ℕ → List ℕ → ℕ
number_from n [] = n
number_from n (c ∷ text) =
    when c outside 48 to 57 then 0 else
    when largest <? n * 10 + (c - 48) then 0 else
    number_from (n * 10 + (c - 48)) text
