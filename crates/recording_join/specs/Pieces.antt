-- To be believed: what the engine must do, or what is claimed of it.
-- Document 02, item 10, for taps that are read in pieces, a piece of each at a time: the answer and the joined recording for the whole, made from those of the pieces.
use Rattle.std.specs.Prelude.{ℕ, ◌+◌, ◌*◌, ◌<◌, ◌≡◌, List, [], ◌∷◌, ◌++◌, length, Result, Ok, Err}
use Rattle.base.specs.Choice.{when◌then◌else◌, ◌<?◌, ◌=?◌}
use Rattle.base.specs.Refusal.{number}
use Rattle.base.specs.declared.Refusal.{Refusal}
use Rattle.base.specs.declared.Refusal.TheVariants.{BadRecording}
use Rattle.recording_join.specs.Joining.{join_answer, joined_of}
use Rattle.recording_join.specs.declared.JoinError.{JoinError}
use Rattle.recording_join.specs.declared.JoinError.TheVariants.{Refused, Differ}

-- "After 21 for either recording, it refuses unequal lengths with 22": 21 comes first, whichever piece has it
abbrev pub refused_by : Refusal → Refusal → Refusal
refused_by earlier later = when number earlier =? number BadRecording then earlier else later

-- the answer for n ticks and what follows them, made from the answers for each
unfoldable pub pieced : ℕ → Result Unit JoinError → Result Unit JoinError → Result Unit JoinError
pieced n (Err (Refused why)) (Err (Refused later)) = Err (Refused (refused_by why later))
pieced n (Err (Refused why)) (Err (Differ t)) = Err (Refused why)
pieced n (Err (Refused why)) (Ok _) = Err (Refused why)
-- 21 and 22 for what follows come before 23
pieced n (Err (Differ s)) (Err (Refused later)) = Err (Refused later)
-- "names the first such tick"
pieced n (Err (Differ s)) (Err (Differ t)) = Err (Differ s)
pieced n (Err (Differ s)) (Ok _) = Err (Differ s)
pieced n (Ok _) (Err (Refused later)) = Err (Refused later)
-- the tick is counted from the start of the n ticks on
pieced n (Ok _) (Err (Differ t)) = Err (Differ (n + t))
pieced n (Ok _) (Ok _) = Ok tt

-- the largest number of the code's 64 bits
abbrev pub largest_tick : ℕ
largest_tick = 18446744073709551615

-- an answer in 64 bits: a tick above the largest, which no file has, is given as the largest
unfoldable pub within64 : Result Unit JoinError → Result Unit JoinError
within64 (Ok _) = Ok tt
within64 (Err (Refused why)) = Err (Refused why)
within64 (Err (Differ t)) = Err (Differ (when largest_tick <? t then largest_tick else t))

-- a piece of each tap
pub record Piece : Type 0 where
  pub first : List ℕ
  pub second : List ℕ

-- the answer for a piece, with room enough
abbrev pub piece_answer : Piece → Result Unit JoinError
piece_answer p = join_answer p.first p.second (length p.first)

-- the answer for pieces of `size` ticks each, one after the other, where n ticks came before and had this answer
unfoldable pub answer_from : ℕ → ℕ → Result Unit JoinError → List Piece → Result Unit JoinError
answer_from size n answer [] = answer
answer_from size n answer (p ∷ ps) = answer_from size (n + size) (pieced n answer (piece_answer p)) ps

-- the joined pieces, and the taps, one piece after the other
unfoldable pub joined_pieces : List Piece → List ℕ
joined_pieces [] = []
joined_pieces (p ∷ ps) = joined_of p.first p.second ++ joined_pieces ps

unfoldable pub first_tap : List Piece → List ℕ
first_tap [] = []
first_tap (p ∷ ps) = p.first ++ first_tap ps

unfoldable pub second_tap : List Piece → List ℕ
second_tap [] = []
second_tap (p ∷ ps) = p.second ++ second_tap ps

-- a piece that was read: it is full, or shorter, and then nothing follows
pub data IsRead (size : ℕ) (piece rest : List ℕ) : Type 0 where
  full : length piece ≡ 2 * size → IsRead size piece rest
  ended : length piece < 2 * size → rest ≡ [] → IsRead size piece rest

pub data AllRead (size : ℕ) : List Piece → Type 0 where
  no_piece : AllRead size []
  piece_and : {p : Piece} {ps : List Piece} → IsRead size p.first (first_tap ps) → IsRead size p.second (second_tap ps)
      → AllRead size ps → AllRead size (p ∷ ps)

pub record PiecesAre (size : ℕ) (ps : List Piece) : Type 0 where
  pub answer : answer_from size 0 (Ok tt) ps ≡ join_answer (first_tap ps) (second_tap ps) (length (first_tap ps))
  pub joined : length (first_tap ps) ≡ length (second_tap ps) → joined_pieces ps ≡ joined_of (first_tap ps) (second_tap ps)

abbrev pub InPieces : Type 0
InPieces = (size : ℕ) (ps : List Piece) → AllRead size ps → PiecesAre size ps
