-- How the code stands for what is to be believed.
-- A script read in pieces, since it may be longer than any buffer: what is kept of the records gone by, and that the whole is good just if the last piece is good after them.
use Rattle.std.specs.Prelude.{ℕ, ◌+◌, ◌%◌, ◌≤◌, Bool, false, List, [], ◌∷◌, ◌++◌, ◌≡◌, length, get_or, set, replicate, Option, Some, None}
use Rattle.base.specs.Choice.{when◌then◌else◌, ◌<?◌, ◌=?◌}
use Rattle.player_script.specs.Script.{width, records_in, is_stop, is_call, good_in, stop_of}
use Rattle.player_script.specs.declared.Entry.{Entry}
use Rattle.player_script.specs.declared.Form.{Form}

-- what is kept of records that must be calls: that one of them is bad; or the tick of the last, and for each party a mark, one more than the tick of its last call and 0 before its first
pub data Gone : Type 0 where
  bad : Gone
  up_to : ℕ → List ℕ → Gone

-- before the first record
abbrev pub nothing : Gone
nothing = up_to 0 (replicate 8 0)

-- a record more: a falling tick, what is no call, and a second call to a party in a tick are bad
unfoldable pub with_call : ℕ → List ℕ → Entry → Gone
with_call last marks e =
    when e.tick <? last then bad else
    when is_call e
    then (when get_or marks e.party 0 =? (e.tick + 1) then bad else up_to e.tick (set marks e.party (e.tick + 1)))
    else bad

abbrev pub with_one : Gone → Entry → Gone
with_one bad e = bad
with_one (up_to last marks) e = with_call last marks e

unfoldable pub walked_by : Gone → List Entry → Gone
walked_by gone [] = gone
walked_by gone (e ∷ es) = walked_by (with_one gone e) es

-- the last record is the stop
abbrev pub stops_after : ℕ → Entry → Bool
stops_after last e = when e.tick <? last then false else is_stop e

abbrev pub ends_after : Gone → Entry → Bool
ends_after bad e = false
ends_after (up_to last marks) e = stops_after last e

unfoldable pub rest_good : Gone → List Entry → Bool
rest_good gone [] = false
rest_good gone (e ∷ []) = ends_after gone e
rest_good gone (e ∷ f ∷ es) = rest_good (with_one gone e) (f ∷ es)

-- what is left of a script is good after the records gone by
unfoldable pub good_after : Form → Gone → List ℕ → Bool
good_after f gone rest = when length rest % width f =? 0 then rest_good gone (records_in f rest) else false

-- what the code says of a walk, with the marks that it leaves
unfoldable pub walked_as : Option ℕ → List ℕ → Gone
walked_as None marks = bad
walked_as (Some last) marks = up_to last marks

-- ---- claims

-- pieces of whole records, one after the other
pub data EachWhole (f : Form) : List (List ℕ) → Type 0 where
  none : EachWhole f []
  more : {piece : List ℕ} {pieces : List (List ℕ)} → length piece % width f ≡ 0 → EachWhole f pieces → EachWhole f (piece ∷ pieces)

unfoldable pub joined : List (List ℕ) → List ℕ
joined [] = []
joined (piece ∷ pieces) = piece ++ joined pieces

unfoldable pub walked_over : Form → Gone → List (List ℕ) → Gone
walked_over f gone [] = gone
walked_over f gone (piece ∷ pieces) = walked_over f (walked_by gone (records_in f piece)) pieces

-- a script is good just if its last piece, which has a record, is good after the others
abbrev pub PiecesGood : Type 0
PiecesGood =
    (f : Form) (pieces : List (List ℕ)) (rest : List ℕ) → EachWhole f pieces → width f ≤ length rest
    → good_in f (joined pieces ++ rest) ≡ good_after f (walked_over f nothing pieces) rest

-- and its stop's tick is that of the last piece
abbrev pub PiecesStop : Type 0
PiecesStop =
    (f : Form) (pieces : List (List ℕ)) (rest : List ℕ) → EachWhole f pieces → width f ≤ length rest
    → stop_of (records_in f (joined pieces ++ rest)) ≡ stop_of (records_in f rest)
