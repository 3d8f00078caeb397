-- How the code stands for what is to be believed.
-- A script on standard input, and what is told of one that is longer than the room. Which bytes are read no contract can say: each step of reading has its definition here, and the claims join the steps.
use Rattle.std.specs.Prelude.{ℕ, ◌≤◌, List, ◌++◌, ◌≡◌, length, take, drop}
use Rattle.base.specs.Choice.{when◌then◌else◌}
use Rattle.base.specs.Store.{stored}
use Rattle.player_script.specs.Script.{width, records_in, good_in, stop_of}
use Rattle.player_script.specs.Pieces.{Gone, bad, nothing, good_after, EachWhole, joined, walked_over}
use Rattle.player_script.specs.declared.Form.{Form}
use Rattle.player_input.specs.declared.Input.{Input}
use Rattle.player_input.specs.declared.Input.TheVariants.{Whole, LongGood, LongBad}

-- how much of a script is held, where it is not longer than the room
abbrev pub held_in : Input → ℕ
held_in (Whole n) = n
held_in (LongGood stop) = 0
held_in LongBad = 0

-- ---- the steps

-- the bytes of a full room that are walked
abbrev pub piece_of : List ℕ → List ℕ
piece_of room = take 3145728 room

-- the others at the front, before more is read
abbrev pub end_kept : List ℕ → List ℕ
end_kept room = stored room 0 (drop 3145728 room)

-- and they stay there: what is read stands after them
pub record EndStays (room later : List ℕ) : Type 0 where
  pub front : take 12 later ≡ drop 3145728 room

-- what a script's last bytes tell of it, after the records gone by
unfoldable pub end_of : Form → Gone → List ℕ → Input
end_of f gone rest = when good_after f gone rest then LongGood (stop_of (records_in f rest)) else LongBad

-- ---- what they are together

-- document 02, item 11: "then 16 .. then a tick too large to turn back with 25, then 15", for a script that is longer than the room
unfoldable pub told_of : Form → List ℕ → Input
told_of f script = when good_in f script then LongGood (stop_of (records_in f script)) else LongBad

-- the last bytes tell what the whole tells, after any number of pieces of whole records
abbrev pub LongTold : Type 0
LongTold =
    (f : Form) (pieces : List (List ℕ)) (rest : List ℕ) → EachWhole f pieces → width f ≤ length rest
    → end_of f (walked_over f nothing pieces) rest ≡ told_of f (joined pieces ++ rest)

-- and where a piece is bad the whole is, whatever follows
abbrev pub BadTold : Type 0
BadTold =
    (f : Form) (pieces : List (List ℕ)) (rest : List ℕ) → EachWhole f pieces → width f ≤ length rest → walked_over f nothing pieces ≡ bad
    → told_of f (joined pieces ++ rest) ≡ LongBad
