-- To be believed: what the engine must do, or what is claimed of it.
-- Document 01, "Settled by proof": the ten questions M1 to M10, and what the definitions give for each. The table is proved as a whole in proofs/Settled.antt.
use Rattle.std.specs.Prelude.{ℕ, ◌+◌, ◌-◌, ◌≤◌, ◌≡◌, true, false, List, [], ◌∷◌, ◌++◌, length, replicate}
use Rattle.base.specs.Refusal.{Called, accepted, refused}
use Rattle.frame.specs.Limits.{fewest_preambles, most_data, longest_frame}
use Rattle.frame.specs.Delimiter.{stx}
use Rattle.frame.specs.Frame.{frame_bytes, preamble_bytes, protected_bytes}
use Rattle.frame.specs.Write.{write_answer}
use Rattle.frame.specs.declared.Header.{Header}
use Rattle.line.specs.Heard.{characters}
use Rattle.line.specs.Profile.{fsk_profile}
use Rattle.line.specs.declared.Heard.{Heard}
use Rattle.line.specs.declared.Heard.TheVariants.{Silence}
use Rattle.turns.specs.Master.{fresh_master, requested}
use Rattle.turns.specs.Device.{fresh_device}
use Rattle.turns.specs.Link.{no_call, gives_answer, DeviceSide, device_tick}
use Rattle.turns.specs.declared.CallResult.{CallResult}
use Rattle.turns.specs.declared.Wish.TheVariants.{Same}

pub data Question : Type 0 where
  -- the check byte of a frame with these bytes, from the delimiter on
  check_byte : List ℕ → Question
  -- a master asks command 0 of this polling address
  ask_polling_question : ℕ → Question
  -- a master sends so many data bytes
  ask_data_question : ℕ → Question
  -- a host answers so many ticks after the last character of the STX, with FSK
  answer_at_question : ℕ → Question
  -- the longest frame
  longest : Question

pub data Outcome : Type 0 where
  gives : ℕ → Outcome
  taken : Outcome
  refuses : ℕ → Outcome
  -- there was no call
  nothing : Outcome

-- ---- M1 to M3: a frame with these bytes from delimiter to data can be written, and every such frame is the preamble, these bytes and this check byte

pub record CheckByte (bytes : List ℕ) (check : ℕ) : Type 0 where
  pub header : Header
  pub content : List ℕ
  pub has_bytes : protected_bytes header content ≡ bytes
  pub is_written : write_answer fewest_preambles header (length content) (longest_frame most_data) 0 ≡ accepted (fewest_preambles + length bytes + 1)
  pub every : (preamble : ℕ) (h : Header) (put : List ℕ) → protected_bytes h put ≡ bytes
      → frame_bytes preamble h put ≡ preamble_bytes preamble ++ (bytes ++ (check ∷ []))

-- ---- M4 to M7: what a fresh master answers to a request

abbrev pub outcome : {A : Type 0} → Called A → Outcome
outcome (accepted x) = taken
outcome (refused why) = refuses why

abbrev pub ask_polling : ℕ → Outcome
ask_polling address =
    outcome (requested most_data (fresh_master fsk_profile true 3)
    (record { preamble = fewest_preambles; revision = 7; long = false; address = address; command = 0 }) 0)

abbrev pub ask_data : ℕ → Outcome
ask_data count =
    outcome (requested most_data (fresh_master fsk_profile true 3)
    (record { preamble = fewest_preambles; revision = 7; long = true; address = 1; command = 1 }) count)

-- ---- M8 and M9: what a device answers to its host

-- an STX with command 0 to polling address 0
abbrev pub request : Header
request = record { kind = stx; long = false; primary = true; burst = false; address = 0; command = 0 }

-- a device that hears all of this, one thing a tick, and whose host gives nothing
unfoldable pub hearing : DeviceSide → List Heard → DeviceSide
hearing x [] = x
hearing x (h ∷ hs) = hearing (device_tick most_data x h no_call).side hs

abbrev pub device : DeviceSide
device = record {
  device = fresh_device fsk_profile fewest_preambles 0 2;
  frame = replicate (longest_frame most_data) 0;
  bytes = replicate most_data 0;
  contents = replicate most_data 0;
}

abbrev pub result : CallResult → Outcome
result CallResult.Nothing = nothing
result CallResult.Taken = taken
result (CallResult.Refused why) = refuses why

-- the STX's last character goes out in tick T and is heard in T+1; each silent tick after it is one more. The host answers in tick T+late.
abbrev pub answer_at : ℕ → Outcome
answer_at late =
    result (device_tick most_data
    (hearing device (Silence ∷ Silence ∷ (characters (frame_bytes fewest_preambles request []) ++ replicate (late - 2) Silence)))
    Silence (gives_answer Same (0 ∷ 0 ∷ []))).result

-- ---- M10: no frame that the writer writes is longer than so many bytes, and one has that length

pub record Longest (n : ℕ) : Type 0 where
  pub none_longer : (preamble : ℕ) (h : Header) (put : List ℕ) (room place end : ℕ) → write_answer preamble h (length put) room place ≡ accepted end
      → (end ≤ place + n) × (length (frame_bytes preamble h put) ≤ n)
  pub preamble : ℕ
  pub header : Header
  pub content : List ℕ
  pub is_written : write_answer preamble header (length content) n 0 ≡ accepted n
  pub as_long : length (frame_bytes preamble header content) ≡ n

-- ---- the table, and its statement

-- the definitions give this outcome
pub data Settled : Question → Outcome → Type 0 where
  check_byte_is : {bytes : List ℕ} {check : ℕ} → CheckByte bytes check → Settled (check_byte bytes) (gives check)
  polling_is : {address : ℕ} {o : Outcome} → ask_polling address ≡ o → Settled (ask_polling_question address) o
  data_is : {count : ℕ} {o : Outcome} → ask_data count ≡ o → Settled (ask_data_question count) o
  answer_is : {late : ℕ} {o : Outcome} → answer_at late ≡ o → Settled (answer_at_question late) o
  longest_is : {n : ℕ} → Longest n → Settled longest (gives n)

-- a question with the outcome that document 01 states
pub record Row : Type 0 where
  pub asked : Question
  pub stated : Outcome

abbrev pub table : List Row
table =
    record { asked = check_byte (0x02 ∷ 0x80 ∷ 0x00 ∷ 0x00 ∷ []); stated = gives 0x82 }
    ∷ record { asked = check_byte (0x82 ∷ 0x80 ∷ 0x00 ∷ 0x00 ∷ 0x00 ∷ 0x02 ∷ 0x03 ∷ 0x00 ∷ []); stated = gives 0x03 }
    ∷ record { asked = check_byte (0x06 ∷ 0x80 ∷ 0x00 ∷ 0x02 ∷ 0x00 ∷ 0x00 ∷ []); stated = gives 0x84 }
    ∷ record { asked = ask_polling_question 63; stated = taken }
    ∷ record { asked = ask_polling_question 64; stated = refuses 4 }
    ∷ record { asked = ask_data_question 255; stated = taken }
    ∷ record { asked = ask_data_question 256; stated = refuses 6 }
    ∷ record { asked = answer_at_question 28; stated = taken }
    ∷ record { asked = answer_at_question 29; stated = refuses 8 }
    ∷ record { asked = longest; stated = gives 284 }
    ∷ []

-- every row: the definitions give what is stated
pub data AllSettled : List Row → Type 0 where
  no_more : AllSettled []
  row_and : {r : Row} {rs : List Row} → Settled r.asked r.stated → AllSettled rs → AllSettled (r ∷ rs)
