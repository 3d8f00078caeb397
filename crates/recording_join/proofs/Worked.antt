-- Computed runs: taps that are joined, each refusal that a claim's premise leaves out, and pieces.
use Rattle.std.specs.Prelude.{Ok, Err}
use Prim.Native.Nat.{ℕ}
use mathlib.Core.Path.{◌≡◌, refl}
use mathlib.Core.List.{List, [], ◌∷◌}
use Rattle.base.specs.Choice.{when◌then◌else◌}
use Rattle.base.specs.declared.Refusal.TheVariants.{BadRecording, BufferShort, UnequalTaps}
use Rattle.line.specs.declared.Heard.TheVariants.{Silence}
use Rattle.recording.specs.Form.{ticks_of, bad_recording}
use Rattle.recording_join.specs.Joining.{all_together, recorded, joined_of, difference_from, join_answer}
use Rattle.recording_join.specs.Kept.{heard_in, IsJoined}
use Rattle.recording_join.specs.Pieces.{pieced, Piece, answer_from}
use Rattle.recording_join.specs.declared.JoinError.TheVariants.{Refused, Differ}

-- a character that the second tap misses, one that it damages, damage in both, silence in both
abbrev first : List ℕ
first = 32 ∷ 7 ∷ 32 ∷ 8 ∷ 96 ∷ 9 ∷ 0 ∷ 0 ∷ 64 ∷ 1 ∷ []

abbrev second : List ℕ
second = 0 ∷ 0 ∷ 64 ∷ 9 ∷ 64 ∷ 5 ∷ 0 ∷ 0 ∷ 64 ∷ 2 ∷ []

pub are_joined : IsJoined first second 10
unfolding bad_recording ticks_of all_together difference_from when◌then◌else◌
are_joined = refl

pub joined_to : joined_of first second ≡ 32 ∷ 7 ∷ 32 ∷ 8 ∷ 64 ∷ 5 ∷ 0 ∷ 0 ∷ 64 ∷ 1 ∷ []
unfolding ticks_of all_together recorded when◌then◌else◌
joined_to = refl

-- the other order: the last tick has damage of equal kind
pub joined_other_order : joined_of second first ≡ 32 ∷ 7 ∷ 32 ∷ 8 ∷ 64 ∷ 5 ∷ 0 ∷ 0 ∷ 64 ∷ 2 ∷ []
unfolding ticks_of all_together recorded when◌then◌else◌
joined_other_order = refl

-- 21 goes before 22, 22 before 15 and 15 before 23
pub bad_first : join_answer (32 ∷ 7 ∷ []) (0 ∷ 1 ∷ 0 ∷ 0 ∷ []) 0 ≡ Err (Refused BadRecording)
unfolding bad_recording when◌then◌else◌
bad_first = refl

pub unequal_next : join_answer (32 ∷ 7 ∷ []) (32 ∷ 8 ∷ 0 ∷ 0 ∷ []) 0 ≡ Err (Refused UnequalTaps)
unfolding bad_recording when◌then◌else◌
unequal_next = refl

pub short_next : join_answer (32 ∷ 7 ∷ []) (32 ∷ 8 ∷ []) 1 ≡ Err (Refused BufferShort)
unfolding bad_recording when◌then◌else◌
short_next = refl

pub differ_last : join_answer (0 ∷ 0 ∷ 32 ∷ 7 ∷ []) (32 ∷ 3 ∷ 32 ∷ 8 ∷ []) 4 ≡ Err (Differ 1)
unfolding bad_recording ticks_of all_together difference_from when◌then◌else◌
differ_last = refl

-- of taps that are not joined a character can be lost, and a bad recording is not joined with itself
pub lost_without : heard_in 0 (joined_of (32 ∷ 7 ∷ []) (32 ∷ 8 ∷ [])) ≡ Silence
unfolding ticks_of all_together recorded when◌then◌else◌
lost_without = refl

pub bad_itself : join_answer (0 ∷ 1 ∷ []) (0 ∷ 1 ∷ []) 2 ≡ Err (Refused BadRecording)
unfolding bad_recording when◌then◌else◌
bad_itself = refl

-- ---- pieces of one tick

abbrev piece : List ℕ → List ℕ → Piece
piece a b = record { first = a; second = b }

-- 23 of the second piece, counted on
pub differ_behind : answer_from 1 0 (Ok tt) (piece (32 ∷ 7 ∷ []) (0 ∷ 0 ∷ []) ∷ piece (32 ∷ 7 ∷ []) (32 ∷ 8 ∷ []) ∷ []) ≡ Err (Differ 1)
unfolding answer_from pieced bad_recording ticks_of all_together difference_from when◌then◌else◌
differ_behind = refl

-- 23 of the first, and 21 behind it, where the second tap is over
pub bad_behind : answer_from 1 0 (Ok tt) (piece (32 ∷ 7 ∷ []) (32 ∷ 8 ∷ []) ∷ piece (0 ∷ 1 ∷ []) [] ∷ []) ≡ Err (Refused BadRecording)
unfolding answer_from pieced bad_recording ticks_of all_together difference_from when◌then◌else◌
bad_behind = refl

-- pieces that end inside a tick do not say what the whole does: they are not those that are read
pub cut_inside : answer_from 1 0 (Ok tt) (piece (32 ∷ []) (32 ∷ []) ∷ piece (7 ∷ []) (7 ∷ []) ∷ []) ≡ Err (Refused BadRecording)
unfolding answer_from pieced bad_recording when◌then◌else◌
cut_inside = refl

pub whole_joined : join_answer (32 ∷ 7 ∷ []) (32 ∷ 7 ∷ []) 2 ≡ Ok tt
unfolding bad_recording ticks_of all_together difference_from when◌then◌else◌
whole_joined = refl
