-- To be believed: what the engine must do, or what is claimed of it.
-- Document 02, item 13: "A master with no answer's last character in the 20,946 ticks before sends before each STX 358 characters of 0x00, 0xFF in turn, the message directly behind." This is claimed for every list, of what the master hears and sends, what its host asks and what it is told. Its messages, the STX frames sent and the attempts reported are followed as in crates/turns/specs/Attempts.antt. The proof is in proofs/Sending.
use Rattle.std.specs.Prelude.{ℕ, zero, suc, ◌+◌, ◌≤◌, ◌<◌, Bool, true, false, ◌≡◌, List, [], ◌∷◌, ◌++◌, length}
use Rattle.base.specs.Choice.{when◌then◌else◌}
use Rattle.base.specs.Refusal.{accepted}
use Rattle.frame.specs.Limits.{most_data, longest_frame}
use Rattle.line.specs.declared.Event.{Event}
use Rattle.turns.specs.Attempts.{MessageLog, no_message, in_hand, most_sent, Reports, behind_report, Asked}
use Rattle.turns.specs.declared.Sent.{Sent}
use Rattle.turns.specs.declared.Sent.TheVariants.{Silent, Character}
use Rattle.port.specs.Numbers.{doze_ticks, wake_up_length}
use Rattle.port.specs.Master.{wake_up_character, ends_answer, port_master_starts}
use Rattle.port.specs.Ticks.{PortMasterSide, MasterInput, port_master_tick}

-- the last n characters of a wake-up
unfoldable pub wake_up_bytes : ℕ → List ℕ
wake_up_bytes zero = []
wake_up_bytes (suc n) = wake_up_character (suc n) ∷ wake_up_bytes n

-- an answer ended within the last n of these ticks, the newest first
unfoldable pub answer_among : ℕ → List Event → Bool
answer_among zero es = false
answer_among (suc n) [] = false
answer_among (suc n) (e ∷ es) = when ends_answer e then true else answer_among n es

-- the characters of an attempt, which may be a retry, by what the master has found when it begins: the newest is what the port carried in the tick before
abbrev pub attempt : List Event → List ℕ → List ℕ
attempt found stx = when answer_among doze_ticks found then stx else wake_up_bytes wake_up_length ++ stx

-- What is sent in a tick: nothing, or the next character of an attempt, without a gap. `left` of the message's log is what is left of the attempt that is being sent. No attempt begins beyond the most that may be made, and an STX is counted with its last character.
pub data Sends (retries : ℕ) (found : List Event) : MessageLog → Sent → MessageLog → Type 0 where
  has_none : Sends retries found no_message Silent no_message
  rests : {stx : List ℕ} {broadcast : Bool} {n : ℕ} → Sends retries found (in_hand stx broadcast [] n) Silent (in_hand stx broadcast [] n)
  begins : {c : ℕ} {stx left : List ℕ} {broadcast : Bool} {n : ℕ} → attempt found stx ≡ c ∷ left → n < most_sent retries broadcast
      → Sends retries found (in_hand stx broadcast [] n) (Character c) (in_hand stx broadcast left n)
  goes_on : {c d : ℕ} {stx left : List ℕ} {broadcast : Bool} {n : ℕ}
      → Sends retries found (in_hand stx broadcast (c ∷ d ∷ left) n) (Character c) (in_hand stx broadcast (d ∷ left) n)
  ends : {c : ℕ} {stx : List ℕ} {broadcast : Bool} {n : ℕ}
      → Sends retries found (in_hand stx broadcast (c ∷ []) n) (Character c) (in_hand stx broadcast [] (n + 1))

-- in every tick: the report, then the host's call, then what is sent; `past` is what the master found in the ticks before, the newest first
pub data SentAsSaid (limit : ℕ) (primary : Bool) (retries : ℕ) : MessageLog → List Event → PortMasterSide → List MasterInput → Type 0 where
  no_tick : {g : MessageLog} {past : List Event} {x : PortMasterSide} → SentAsSaid limit primary retries g past x []
  tick_and : {g : MessageLog} {past : List Event} {x : PortMasterSide} {i : MasterInput} {is : List MasterInput} (asked after : MessageLog)
      → Reports retries g (port_master_tick limit x i.heard i.call).told
      → Asked primary i.call (port_master_tick limit x i.heard i.call).result (behind_report (port_master_tick limit x i.heard i.call).told g) asked
      → Sends retries ((port_master_tick limit x i.heard i.call).event ∷ past) asked (port_master_tick limit x i.heard i.call).sent after
      → SentAsSaid limit primary retries after ((port_master_tick limit x i.heard i.call).event ∷ past)
      (port_master_tick limit x i.heard i.call).side is
      → SentAsSaid limit primary retries g past x (i ∷ is)

-- of every master that its start accepted, with room for the longest frame, whatever it hears and whatever its host asks
abbrev pub WakeUpsAsSaid : Type 0
WakeUpsAsSaid =
    (limit : ℕ) (primary : Bool) (retries : ℕ) (x : PortMasterSide) (inputs : List MasterInput) → limit ≤ 255
    → port_master_starts primary retries ≡ accepted x.master → longest_frame most_data ≤ length x.frame
    → SentAsSaid limit primary retries no_message [] x inputs
