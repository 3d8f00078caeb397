-- How the code stands for what is to be believed.
-- Numbers at the front of a lent buffer, one for each tick of a run. The laws of a loop that puts them there are in proofs/Filling.antt.
use Rattle.std.specs.Prelude.{ℕ, ◌≡◌, List, length, take}
use Rattle.base.specs.Store.{stored}

-- what a run promises: as many of the numbers as there is room for, at the front of the lent events, and how many they are
pub record RunIs (numbers before : List ℕ) (r : ℕ) (after : List ℕ) : Type 0 where
  pub events : after ≡ stored before 0 (take (length before) numbers)
  pub returned : r ≡ length (take (length before) numbers)
