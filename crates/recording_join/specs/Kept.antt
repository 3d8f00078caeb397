-- To be believed: what the engine must do, or what is claimed of it.
-- Document 02, item 10: "Every character of the joined recording is one that a tap has, and none is lost." What is claimed of two taps that are joined, and of 23.
use Rattle.std.specs.Prelude.{ℕ, zero, suc, ◌*◌, ◌≤◌, ◌<◌, false, ◌≡◌, List, [], ◌∷◌, length, get_or, Ok, Err}
use Rattle.line.specs.declared.Damage.{Damage}
use Rattle.line.specs.declared.Heard.{Heard}
use Rattle.line.specs.declared.Heard.TheVariants.{Silence, Character, Damaged}
use Rattle.recording.specs.Form.{ticks_of, bad_recording}
use Rattle.recording_join.specs.Joining.{joined_of, join_answer}
use Rattle.recording_join.specs.declared.JoinError.TheVariants.{Differ}

-- what a recording has in a tick; past its end that is silence
abbrev pub heard_in : ℕ → List ℕ → Heard
heard_in t recording = get_or (ticks_of recording) t Silence

-- the two are joined, with so much room
abbrev pub IsJoined : List ℕ → List ℕ → ℕ → Type 0
IsJoined first second room = join_answer first second room ≡ Ok tt

-- one of two
pub data Either (A B : Type 0) : Type 0 where
  in_first : A → Either A B
  in_second : B → Either A B

-- "Every character of the joined recording is one that a tap has": so is every tick, silence and damage included
abbrev pub OneOfTheTaps : Type 0
OneOfTheTaps =
    (first second : List ℕ) (room : ℕ) → IsJoined first second room → (t : ℕ)
    → Either (heard_in t (joined_of first second) ≡ heard_in t first) (heard_in t (joined_of first second) ≡ heard_in t second)

-- "and none is lost"
abbrev pub NoneLost : Type 0
NoneLost =
    (first second : List ℕ) (room : ℕ) → IsJoined first second room → (t c : ℕ)
    → Either (heard_in t first ≡ Character c) (heard_in t second ≡ Character c) → heard_in t (joined_of first second) ≡ Character c

-- a tick is silent exactly where it is silent in both taps: damage never becomes silence
pub record SilentJustWhere (t : ℕ) (first second : List ℕ) : Type 0 where
  pub only_there : heard_in t (joined_of first second) ≡ Silence → (heard_in t first ≡ Silence) × (heard_in t second ≡ Silence)
  pub there : heard_in t first ≡ Silence → heard_in t second ≡ Silence → heard_in t (joined_of first second) ≡ Silence

abbrev pub SilentWhereBoth : Type 0
SilentWhereBoth = (first second : List ℕ) (room : ℕ) → IsJoined first second room → (t : ℕ) → SilentJustWhere t first second

-- what is joined is a recording again, as long as the taps: it may be read and joined again
pub record GoodIs (first joined : List ℕ) : Type 0 where
  pub good : bad_recording joined ≡ false
  pub as_long : length joined ≡ length first

abbrev pub JoinedGood : Type 0
JoinedGood = (first second : List ℕ) (room : ℕ) → IsJoined first second room → GoodIs first (joined_of first second)

-- ---- "two different characters in one tick with 23, which beside its number names the first such tick"

pub record DifferIn (t : ℕ) (first second : List ℕ) : Type 0 where
  pub c : ℕ
  pub d : ℕ
  pub of_first : heard_in t first ≡ Character c
  pub of_second : heard_in t second ≡ Character d
  pub unequal : c ≡ d → ⊥

pub record FirstNamed (t : ℕ) (first second : List ℕ) : Type 0 where
  pub there : DifferIn t first second
  pub none_before : (s : ℕ) → s < t → DifferIn s first second → ⊥

-- a join that is answered has no such tick
pub record DifferenceNamed (first second : List ℕ) (room : ℕ) : Type 0 where
  pub named : (t : ℕ) → join_answer first second room ≡ Err (Differ t) → FirstNamed t first second
  pub none : IsJoined first second room → (t : ℕ) → DifferIn t first second → ⊥

abbrev pub FirstDifferenceNamed : Type 0
FirstDifferenceNamed = (first second : List ℕ) (room : ℕ) → DifferenceNamed first second room

-- ---- joined with itself, with silence, and in the other order

-- the two are joined, and the joined recording is this one
pub record Gives (first second : List ℕ) (room : ℕ) (recording : List ℕ) : Type 0 where
  pub answered : IsJoined first second room
  pub same : joined_of first second ≡ recording

abbrev pub WithItself : Type 0
WithItself = (recording : List ℕ) (room : ℕ) → bad_recording recording ≡ false → length recording ≤ room → Gives recording recording room recording

-- a recording of so many silent ticks
unfoldable pub silence : ℕ → List ℕ
silence zero = []
silence (suc n) = 0 ∷ 0 ∷ silence n

pub record SilenceAdds (n : ℕ) (recording : List ℕ) (room : ℕ) : Type 0 where
  pub as_second : Gives recording (silence n) room recording
  pub as_first : Gives (silence n) recording room recording

abbrev pub WithSilence : Type 0
WithSilence =
    (n : ℕ) (recording : List ℕ) (room : ℕ) → bad_recording recording ≡ false → length recording ≡ 2 * n → length recording ≤ room
    → SilenceAdds n recording room

-- damage of equal kind in a tick: the first-named tap's is taken
pub record EqualKinds (t : ℕ) (first second : List ℕ) : Type 0 where
  pub kind : Damage
  pub c : ℕ
  pub d : ℕ
  pub of_first : heard_in t first ≡ Damaged c kind
  pub of_second : heard_in t second ≡ Damaged d kind
  pub joined : heard_in t (joined_of first second) ≡ Damaged c kind
  pub other_order : heard_in t (joined_of second first) ≡ Damaged d kind

-- the answer is the same, a refusal and its tick included, and so is each tick but for damage of equal kind
pub record SameInOtherOrder (first second : List ℕ) (room : ℕ) : Type 0 where
  pub answer : join_answer second first room ≡ join_answer first second room
  pub ticks : IsJoined first second room → (t : ℕ)
      → Either (heard_in t (joined_of second first) ≡ heard_in t (joined_of first second)) (EqualKinds t first second)

abbrev pub OtherOrder : Type 0
OtherOrder = (first second : List ℕ) (room : ℕ) → SameInOtherOrder first second room
