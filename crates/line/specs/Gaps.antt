-- To be believed: what the engine must do, or what is claimed of it.
-- Document 02, item 1: "One silent tick inside a frame is now passed over. The second in a row breaks the frame". What the tick reader tells, tick by tick, of a frame with silent ticks inside: the claims SilentTicks, GapsPassedOver and FrameWithGaps, proved in proofs/Gaps.
use Rattle.std.specs.Prelude.{ℕ, ◌≤◌, ◌≡◌, List, [], ◌∷◌, length}
use Rattle.base.specs.Refusal.{accepted}
use Rattle.base.specs.Store.{stored}
use Rattle.frame.specs.Frame.{frame_bytes}
use Rattle.frame.specs.Write.{write_answer}
use Rattle.frame.specs.declared.Header.{Header}
use Rattle.line.specs.Heard.{characters}
use Rattle.line.specs.Reader.{idle, tells, taken, taken_data}
use Rattle.line.specs.declared.Damage.{Damage}
use Rattle.line.specs.declared.Event.TheVariants.{Nothing, Broken, Frame}
use Rattle.line.specs.declared.Heard.{Heard}
use Rattle.line.specs.declared.Heard.TheVariants.{Silence, Character, Damaged}
use Rattle.line.specs.declared.Receiver.{Receiver}
use Rattle.line.specs.declared.Taken.{Taken}

-- a character, damaged or not
pub data IsCharacter : Heard → Type 0 where
  is_sound : {c : ℕ} → IsCharacter (Character c)
  is_with_damage : {c : ℕ} {kind : Damage} → IsCharacter (Damaged c kind)

-- ---- "The second in a row breaks the frame"

-- in the first silent tick the reader tells nothing; in the second it tells that the frame broke, "and the next character may start another"
pub record SecondBreaks (r : Receiver) : Type 0 where
  pub first : (taken r Silence).event ≡ Nothing
  pub second : taken (taken r Silence).receiver Silence ≡ tells idle Broken

-- in a silent tick outside a frame the reader tells nothing, and it is then before a frame
abbrev pub NothingBroken : Receiver → Type 0
NothingBroken r = taken r Silence ≡ tells idle Nothing

-- After a character of which the reader tells nothing, it is inside a frame; any other character was passed over, broke a frame or ended one. The claim is made of every character, whatever the reader held before it.
pub record SilenceBehind (t : Taken) : Type 0 where
  pub inside : t.event ≡ Nothing → SecondBreaks t.receiver
  pub outside : (t.event ≡ Nothing → ⊥) → NothingBroken t.receiver

abbrev pub SilentTicks : Type 0
SilentTicks = (r : Receiver) (h : Heard) → IsCharacter h → SilenceBehind (taken r h)

-- ---- "One silent tick inside a frame is now passed over."

-- the second list is the first, of characters alone, with at most one silent tick before each
pub data GapsBefore : List Heard → List Heard → Type 0 where
  no_more : GapsBefore [] []
  at_once : {h : Heard} {cs hs : List Heard} → IsCharacter h → GapsBefore cs hs → GapsBefore (h ∷ cs) (h ∷ hs)
  behind_silence : {h : Heard} {cs hs : List Heard} → IsCharacter h → GapsBefore cs hs → GapsBefore (h ∷ cs) (Silence ∷ h ∷ hs)

-- inside a frame: before each character but the first
pub data Gapped : List Heard → List Heard → Type 0 where
  from_first : {h : Heard} {cs hs : List Heard} → IsCharacter h → GapsBefore cs hs → Gapped (h ∷ cs) (h ∷ hs)

-- With the reader r and the lent buffer b, nothing is told before the last tick of what is heard. After that tick, t is the reader with what it tells there, and d is the buffer.
pub data Ends : Receiver → List ℕ → List Heard → Taken → List ℕ → Type 0 where
  last : {r : Receiver} {b d : List ℕ} {h : Heard} {t : Taken} → taken r h ≡ t → taken_data r h b ≡ d → Ends r b (h ∷ []) t d
  before : {r : Receiver} {b d : List ℕ} {h : Heard} {hs : List Heard} {t : Taken}
      → (taken r h).event ≡ Nothing → Ends (taken r h).receiver (taken_data r h b) hs t d → Ends r b (h ∷ hs) t d

-- Single silent ticks inside a frame, put in or taken out, change neither what is told of it, nor its data, nor the reader after it. The characters are arbitrary: expansion bytes and damaged characters may be among them, and what is told may be a whole frame, a damaged one or a break.
pub record SameEnd (r : Receiver) (b : List ℕ) (cs hs : List Heard) (t : Taken) (d : List ℕ) : Type 0 where
  pub put_in : Ends r b cs t d → Ends r b hs t d
  pub taken_out : Ends r b hs t d → Ends r b cs t d

abbrev pub GapsPassedOver : Type 0
GapsPassedOver = (r : Receiver) (b : List ℕ) (cs hs : List Heard) (t : Taken) (d : List ℕ) → Gapped cs hs → SameEnd r b cs hs t d

-- ---- a frame as it is written

-- Of a frame that the writer writes, with two or more 0xFF of its preamble and single silent ticks inside, nothing is told before its last character. There the frame that was written is told, with its data at the front of the lent buffer.
abbrev pub FrameWithGaps : Type 0
FrameWithGaps =
    (written heard room place end : ℕ) (h : Header) (bytes b : List ℕ) (hs : List Heard)
    → write_answer written h (length bytes) room place ≡ accepted end → 2 ≤ heard → Gapped (characters (frame_bytes heard h bytes)) hs
    → Ends idle b hs (tells idle (Frame (record { header = h; expansion = 0; count = length bytes }))) (stored b 0 bytes)
