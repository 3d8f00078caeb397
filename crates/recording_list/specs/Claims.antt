-- To be believed: what the engine must do, or what is claimed of it.
-- What is claimed of the list of Listing: where a frame ends, how long the list is at most, and that a recording may be listed in pieces.
use Rattle.std.specs.Prelude.{ℕ, zero, suc, ◌+◌, ◌*◌, ◌/◌, ◌≤◌, Bool, true, false, ◌≡◌, List, [], ◌∷◌, ◌++◌, length}
use Rattle.std.specs.Int.Bits.{bit_xor}
use Rattle.base.specs.Choice.{when◌then◌else◌, ◌=?◌}
use Rattle.frame.specs.Delimiter.{delimiter_of, delimiter_with}
use Rattle.frame.specs.Frame.{too_few}
use Rattle.line.specs.Gaps.{IsCharacter, Gapped}
use Rattle.line.specs.Reader.{passing, taken}
use Rattle.line.specs.declared.Event.{Event}
use Rattle.line.specs.declared.Event.TheVariants.{Nothing, PassedOver, Broken, Frame}
use Rattle.line.specs.declared.Heard.{Heard}
use Rattle.line.specs.declared.Heard.TheVariants.{Silence, Character, Damaged}
use Rattle.line.specs.declared.Receiver.{Receiver}
use Rattle.recording.specs.Form.{ticks_of}
use Rattle.recording_list.specs.Listing.{entry, found, list_of, listing_of}

-- ---- the list's length

-- at most an entry of nine bytes for every two ticks, rounded up
abbrev pub ListingShort : Type 0
ListingShort = (recording : List ℕ) → length (listing_of recording) ≤ 9 * ((length recording / 2 + 1) / 2)

-- ---- in pieces

-- the reader after some ticks
unfoldable pub behind : Receiver → List Heard → Receiver
behind r [] = r
behind r (h ∷ hs) = behind (taken r h).receiver hs

-- What is found in two pieces, one after the other, is what is found in the first, and then what the reader that it left finds in the second, its ticks counted on.
pub record TwoPieces (t : ℕ) (r : Receiver) (first second : List ℕ) : Type 0 where
  pub found_both : found t r (ticks_of (first ++ second)) ≡
      found t r (ticks_of first) ++ found (t + length first / 2) (behind r (ticks_of first)) (ticks_of second)
  pub behind_both : behind r (ticks_of (first ++ second)) ≡ behind (behind r (ticks_of first)) (ticks_of second)

-- for any two pieces of which the first has whole ticks
abbrev pub InPieces : Type 0
InPieces = (t n : ℕ) (r : Receiver) (first second : List ℕ) → length first ≡ 2 * n → TwoPieces t r first second

-- ---- "finding each start"

-- what the tick reader tells in a tick that follows some others
abbrev pub tells_behind : List Heard → Heard → Event
tells_behind past h = (taken (behind passing past) h).event

abbrev pub ends_frame : Event → Bool
ends_frame Nothing = false
ends_frame PassedOver = false
ends_frame Broken = false
ends_frame (Frame w) = true
ends_frame (Event.Damaged w m) = true

-- A frame may start in the tick that follows these. The last of them ended a frame; or it is silent, and is not the single silent tick that is passed over inside a frame: it is the recording's first, or the second in a row, or it follows a character of which something is told.
pub data MayStart : List Heard → Type 0 where
  frame_ended : (past : List Heard) (h : Heard) → ends_frame (tells_behind past h) ≡ true → MayStart (past ++ (h ∷ []))
  first_silent : MayStart (Silence ∷ [])
  two_silent : (past : List Heard) → MayStart (past ++ (Silence ∷ Silence ∷ []))
  outside_silent : (past : List Heard) (h : Heard) → IsCharacter h → (tells_behind past h ≡ Nothing → ⊥) → MayStart (past ++ (h ∷ Silence ∷ []))

-- ---- "jumping to the end that the byte count and passed-over silence give"

unfoldable pub preamble : ℕ → List Heard
preamble zero = []
preamble (suc n) = Character 0xFF ∷ preamble n

-- a frame's characters: 0xFF so many times, the delimiter d; address, expansion bytes and command; the byte count c; data and check byte
abbrev pub frame_of : ℕ → ℕ → List Heard → ℕ → List Heard → List Heard
frame_of preambles d head c tail = preamble preambles ++ (Character d ∷ (head ++ (Character c ∷ tail)))

-- as many of each as the delimiter and the byte count say; an ACK or a BACK has a byte count of 2 or more. Damaged characters may be among head and tail.
pub record Complete (preambles d : ℕ) (head : List Heard) (c : ℕ) (tail : List Heard) : Type 0 where
  pub frame : ℕ
  pub long : Bool
  pub expansion : ℕ
  pub two : 2 ≤ preambles
  pub delimiter : delimiter_of d ≡ delimiter_with frame long expansion
  pub head_length : length head ≡ (when long then 6 else 2) + expansion
  pub enough : too_few frame c ≡ false
  pub tail_length : length tail ≡ c + 1

-- how many ticks are silent
unfoldable pub silences : List Heard → ℕ
silences [] = 0
silences (Silence ∷ hs) = 1 + silences hs
silences (Character c ∷ hs) = silences hs
silences (Damaged c kind ∷ hs) = silences hs

-- the exclusive-or of characters, and whether one of them is damaged, going on from what came before
abbrev pub summed_by : ℕ → Heard → ℕ
summed_by s Silence = s
summed_by s (Character c) = bit_xor s c
summed_by s (Damaged c kind) = bit_xor s c

unfoldable pub sum_from : ℕ → List Heard → ℕ
sum_from s [] = s
sum_from s (h ∷ hs) = sum_from (summed_by s h) hs

abbrev pub hurt_by : Bool → Heard → Bool
hurt_by b Silence = b
hurt_by b (Character c) = b
hurt_by b (Damaged c kind) = true

unfoldable pub hurt_from : Bool → List Heard → Bool
hurt_from b [] = b
hurt_from b (h ∷ hs) = hurt_from (hurt_by b h) hs

-- "A frame is damaged if it is whole but a character in it is damaged or its check byte is wrong": 2, else 1
abbrev pub frame_verdict : ℕ → List Heard → ℕ → List Heard → ℕ
frame_verdict d head c tail =
    when hurt_from (hurt_from false head) tail then 2 else
    when sum_from (bit_xor (sum_from d head) c) tail =? 0 then 1 else
    2

-- the list up to tick e is the list of what stands before the frame's start, then the entry of e; and the recording's list begins with it
pub record JumpsTo (recording : List ℕ) (past hs : List Heard) (e verdict : ℕ) : Type 0 where
  pub next_entry : list_of (past ++ hs) ≡ list_of past ++ entry e verdict
  pub later : List ℕ
  pub listed : listing_of recording ≡ list_of (past ++ hs) ++ later

-- A frame starts in the tick that follows `past`, with single silent ticks before any of its characters but the first. It ends in the tick of its check byte: as many ticks later as it has silent ticks and characters before the check byte, among these the c data bytes that its byte count says.
abbrev pub JumpEnd : Type 0
JumpEnd =
    (recording : List ℕ) (past hs rest : List Heard) (preambles d : ℕ) (head : List Heard) (c : ℕ) (tail : List Heard)
    → ticks_of recording ≡ past ++ (hs ++ rest) → MayStart past → Complete preambles d head c tail → Gapped (frame_of preambles d head c tail) hs
    → JumpsTo recording past hs (length past + (preambles + 1 + length head + 1 + c + silences hs)) (frame_verdict d head c tail)
