-- To be believed: what the engine must do, or what is claimed of it.
-- Document 02, item 10: "Two taps record the same pair from the same tick, and each misses characters. Join them."
use Rattle.std.specs.Prelude.{ℕ, ◌+◌, ◌*◌, ◌≡◌, List, [], ◌∷◌, ◌++◌, length, Option, Some, None, Result, Ok, Err}
use Rattle.base.specs.Choice.{when◌then◌else◌, ◌<?◌, ◌=?◌}
use Rattle.base.specs.Refusal.{number}
use Rattle.base.specs.Store.{stored}
use Rattle.base.specs.declared.Refusal.TheVariants.{BadRecording, BufferShort, UnequalTaps, TapsDiffer}
use Rattle.line.specs.Heard.{damage_number}
use Rattle.line.specs.declared.Heard.{Heard}
use Rattle.line.specs.declared.Heard.TheVariants.{Silence, Character, Damaged}
use Rattle.recording.specs.Form.{ticks_of, bad_recording}
use Rattle.recording_join.specs.declared.JoinError.{JoinError}
use Rattle.recording_join.specs.declared.JoinError.TheVariants.{Refused, Differ}

-- what two taps heard in a tick, taken together: one thing heard, or two different characters
pub data Together : Type 0 where
  both : Heard → Together
  differ : Together

-- what the first tap heard in a tick, and what the second did
abbrev pub together : Heard → Heard → Together
-- "Where one has a character and the other silence or damage, the character is taken."
together (Character c) Silence = both (Character c)
together (Character c) (Damaged d kind) = both (Character c)
together Silence (Character d) = both (Character d)
together (Damaged c kind) (Character d) = both (Character d)
-- "Damage is taken over silence"
together Silence (Damaged d kind) = both (Damaged d kind)
together (Damaged c kind) Silence = both (Damaged c kind)
-- "the lower kind over the higher, and the first tap's at equal kinds"
together (Damaged c j) (Damaged d k) = when damage_number k <? damage_number j then both (Damaged d k) else both (Damaged c j)
together Silence Silence = both Silence
-- "two different characters in one tick"
together (Character c) (Character d) = when c =? d then both (Character c) else differ

-- tick by tick
unfoldable pub all_together : List Heard → List Heard → List Together
all_together [] second = []
all_together (h ∷ first) [] = []
all_together (h ∷ first) (g ∷ second) = together h g ∷ all_together first second

-- the two bytes of a tick, by what was heard
abbrev pub bytes_of : Heard → List ℕ
bytes_of Silence = 0 ∷ 0 ∷ []
bytes_of (Character c) = 32 ∷ c ∷ []
bytes_of (Damaged c kind) = 32 * (1 + damage_number kind) ∷ c ∷ []

-- the bytes of a tick of both taps; a tick with two different characters has none, since nothing is joined then
abbrev pub bytes_together : Together → List ℕ
bytes_together (both h) = bytes_of h
bytes_together differ = []

unfoldable pub recorded : List Together → List ℕ
recorded [] = []
recorded (x ∷ xs) = bytes_together x ++ recorded xs

-- the joined recording
abbrev pub joined_of : List ℕ → List ℕ → List ℕ
joined_of first second = recorded (all_together (ticks_of first) (ticks_of second))

-- "the first such tick", counted on from t
unfoldable pub difference_from : ℕ → List Together → Option ℕ
difference_from t [] = None
difference_from t (both h ∷ xs) = difference_from (t + 1) xs
difference_from t (differ ∷ xs) = Some t

abbrev pub difference_of : List ℕ → List ℕ → Option ℕ
difference_of first second = difference_from 0 (all_together (ticks_of first) (ticks_of second))

-- "then two different characters in one tick with 23, which beside its number names the first such tick"
abbrev pub by_difference : Option ℕ → Result Unit JoinError
by_difference None = Ok tt
by_difference (Some t) = Err (Differ t)

-- "After 21 for either recording, it refuses unequal lengths with 22, then a shorter output buffer with 15, then .."
abbrev pub join_answer : List ℕ → List ℕ → ℕ → Result Unit JoinError
join_answer first second room =
    when bad_recording first then Err (Refused BadRecording) else
    when bad_recording second then Err (Refused BadRecording) else
    when length first =? length second then
    (when room <? length first then Err (Refused BufferShort) else by_difference (difference_of first second))
    else Err (Refused UnequalTaps)

-- the buffer after the call: the joined recording at its front, or as it was
abbrev pub buffer_after : Result Unit JoinError → List ℕ → List ℕ → List ℕ → List ℕ
buffer_after (Ok _) first second buffer = stored buffer 0 (joined_of first second)
buffer_after (Err (Refused why)) first second buffer = buffer
buffer_after (Err (Differ t)) first second buffer = buffer

-- what a call promises
pub record JoinIs (first second buffer : List ℕ) (r : Result Unit JoinError) (after : List ℕ) : Type 0 where
  pub answer : r ≡ join_answer first second (length buffer)
  pub joined : after ≡ buffer_after r first second buffer

-- an answer's number, and the tick that it names beside it
abbrev pub join_number : Result Unit JoinError → ℕ
join_number (Ok _) = 0
join_number (Err (Refused why)) = number why
join_number (Err (Differ t)) = number TapsDiffer

abbrev pub join_tick : Result Unit JoinError → ℕ → ℕ
join_tick (Ok _) before = before
join_tick (Err (Refused why)) before = before
join_tick (Err (Differ t)) before = t
