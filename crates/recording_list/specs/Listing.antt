-- To be believed: what the engine must do, or what is claimed of it.
-- Document 02, item 9: "On every recording it must list the frames and breaks that the tick reader finds, at the same ticks". The tick reader is `taken` in crates/line/specs/Reader.antt.
use Rattle.std.specs.Prelude.{ℕ, ◌+◌, ◌/◌, ◌%◌, ◌^◌, ◌≡◌, List, [], ◌∷◌, ◌++◌, length, Result, Ok, Err}
use Rattle.base.specs.Choice.{when◌then◌else◌, ◌<?◌, ◌=?◌}
use Rattle.base.specs.Store.{stored}
use Rattle.base.specs.declared.Refusal.TheVariants.{BadRecording, BufferShort}
use Rattle.line.specs.Reader.{passing, taken}
use Rattle.line.specs.declared.Event.{Event}
use Rattle.line.specs.declared.Event.TheVariants.{Nothing, PassedOver, Broken, Frame, Damaged}
use Rattle.line.specs.declared.Heard.{Heard}
use Rattle.line.specs.declared.Receiver.{Receiver}
use Rattle.recording.specs.Form.{ticks_of, bad_recording}
use Rattle.base.specs.declared.Refusal.{Refusal}

-- "8 bytes of the tick that ends or breaks it, most significant first"
abbrev pub tick_bytes : ℕ → List ℕ
tick_bytes t =
    t / 2 ^ 56 % 256 ∷ t / 2 ^ 48 % 256 ∷ t / 2 ^ 40 % 256 ∷ t / 2 ^ 32 % 256
    ∷ t / 2 ^ 24 % 256 ∷ t / 2 ^ 16 % 256 ∷ t / 2 ^ 8 % 256 ∷ t % 256 ∷ []

-- "then a byte, 0 broken, 1 whole, 2 damaged"
unfoldable pub entry : ℕ → ℕ → List ℕ
entry t verdict = tick_bytes t ++ (verdict ∷ [])

-- what a tick adds to the list, by what the tick reader tells in it. "Characters passed over behind a break add none"; those at the reader's start, which only tick 0 can begin, are "a broken frame from the first of them on" (document 01)
abbrev pub adds : ℕ → Event → List ℕ
adds t Nothing = []
adds t PassedOver = when t =? 0 then entry t 0 else []
adds t Broken = entry t 0
adds t (Frame w) = entry t 1
adds t (Damaged w m) = entry t 2

-- what the reader r finds in the ticks from t on
unfoldable pub found : ℕ → Receiver → List Heard → List ℕ
found t r [] = []
found t r (h ∷ hs) = adds t (taken r h).event ++ found (t + 1) (taken r h).receiver hs

-- "list the frames and breaks that the tick reader finds": from its start on
abbrev pub list_of : List Heard → List ℕ
list_of ticks = found 0 passing ticks

abbrev pub listing_of : List ℕ → List ℕ
listing_of recording = list_of (ticks_of recording)

-- "It refuses an odd length or another value with 21, then a buffer too short with 15."
abbrev pub list_answer : List ℕ → ℕ → Result ℕ Refusal
list_answer recording room =
    when bad_recording recording then Err BadRecording else
    when room <? length (listing_of recording) then Err BufferShort else
    Ok (length (listing_of recording) / 9)

-- the buffer after the call: the list at its front, or as it was
abbrev pub buffer_after : Result ℕ Refusal → List ℕ → List ℕ → List ℕ
buffer_after (Ok n) recording buffer = stored buffer 0 (listing_of recording)
buffer_after (Err why) recording buffer = buffer

-- what a call promises
pub record ListIs (recording buffer : List ℕ) (r : Result ℕ Refusal) (after : List ℕ) : Type 0 where
  pub answer : r ≡ list_answer recording (length buffer)
  pub listed : after ≡ buffer_after r recording buffer
