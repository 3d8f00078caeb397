-- How the code stands for what is to be believed.
-- What is claimed of the packets: a packet's body is what was heard, a recording may be gone through in pieces, whatever their sizes, and nothing is left out of the output with room for it.
use Rattle.std.specs.Prelude.{◌≡◌, ℕ, ◌*◌, ◌≤◌, Bool, true, false, List, [], ◌∷◌, ◌++◌, length, take}
use Rattle.base.specs.Choice.{when◌then◌else◌}
use Rattle.line.specs.Reader.{taken}
use Rattle.line.specs.declared.Heard.{Heard}
use Rattle.line.specs.declared.Receiver.{Receiver}
use Rattle.recording.specs.Form.{ticks_of}
use Rattle.recording_capture.specs.Capture.{heard_text, is_inside, Kept, stepped, body_at, packets_from, kept_behind}
use Rattle.recording_capture.specs.Promises.{keep, PacketsAre}
use Rattle.recording_capture.specs.declared.Captured.{Captured}
use Rattle.recording_capture.specs.declared.Progress.{Progress}

-- what was heard in some ticks, as bytes
unfoldable pub heard_texts : List Heard → List ℕ
heard_texts [] = []
heard_texts (h ∷ hs) = heard_text h ++ heard_texts hs

-- the reader is after the delimiter after each of these ticks
unfoldable pub stays_inside : Receiver → List Heard → Bool
stays_inside r [] = true
stays_inside r (h ∷ hs) = when is_inside (taken r h).receiver.place then stays_inside (taken r h).receiver hs else false

-- A packet's body is the frame "from .. its delimiter to its check byte, as heard": with no bytes kept before the delimiter's tick, those of each tick from it on, as far as the buffer goes.
abbrev pub AsHeard : Type 0
AsHeard =
    (k : Kept) (hs : List Heard) (h : Heard)
    → k.progress.held ≡ 0 → stays_inside k.progress.receiver hs ≡ true → length (heard_texts hs ++ heard_text h) ≤ length k.message
    → body_at (kept_behind k hs) h ≡ heard_texts hs ++ heard_text h

-- before a delimiter no bytes are kept
abbrev pub NoneBefore : Type 0
NoneBefore = (k : Kept) (h : Heard) → is_inside (stepped k h).progress.receiver.place ≡ false → (stepped k h).progress.held ≡ 0

-- The packets of two pieces are those of the first, and then those of the second with what the first left: the reader, the clock, tick and number, and the frame's data and bytes so far.
pub record TwoPieces (k : Kept) (first second : List ℕ) : Type 0 where
  pub packets : packets_from k (ticks_of (first ++ second)) ≡ packets_from k (ticks_of first) ++ packets_from (kept_behind k (ticks_of first)) (ticks_of second)
  pub kept : kept_behind k (ticks_of (first ++ second)) ≡ kept_behind (kept_behind k (ticks_of first)) (ticks_of second)

abbrev pub PacketsInPieces : Type 0
PacketsInPieces = (n : ℕ) (k : Kept) (first second : List ℕ) → length first ≡ 2 * n → TwoPieces k first second

-- With room for 319 bytes a tick, what is written out is the packets, all of them.
abbrev pub PacketsFit : Type 0
PacketsFit =
    (p : Progress) (hs : List Heard) (bytes after frame grew before : List ℕ) (r : Captured) (out : List ℕ)
    → length frame ≤ 267 → 319 * length hs ≤ length before → PacketsAre p hs bytes after frame grew before r out
    → take r.at out ≡ packets_from (keep p bytes frame) hs
