-- How the code stands for what is to be believed.
-- Text that is put into a lent output buffer, byte after byte. What does not fit is left out.
use Rattle.std.specs.Prelude.{ℕ, ◌+◌, List, [], ◌∷◌, ◌≡◌, length, set}
use Rattle.base.specs.Choice.{when◌then◌else◌, ◌<?◌}

-- the buffer, and the place of the next byte
pub record Out : Type 0 where
  pub bytes : List ℕ
  pub at : ℕ

abbrev pub out_of : List ℕ → ℕ → Out
out_of bytes at = record { bytes = bytes; at = at }

-- a byte is stored if there is room for it
unfoldable pub put_byte : Out → ℕ → Out
put_byte o b = when o.at <? length o.bytes then out_of (set o.bytes o.at b) (o.at + 1) else o

unfoldable pub put : Out → List ℕ → Out
put o [] = o
put o (b ∷ text) = put (put_byte o b) text

-- what a function that puts text promises: the buffer after it, and the place that it returns
pub record PutIs (text before : List ℕ) (at r : ℕ) (after : List ℕ) : Type 0 where
  pub out : out_of after r ≡ put (out_of before at) text
