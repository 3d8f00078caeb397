-- To be believed: what the engine must do, or what is claimed of it.
-- "R failed retries after the first attempt end the message as given up, with the attempts, equal to the STX frames sent", and "Broadcast is sent once". Here the STX frames are counted from what the host asks, what it is answered and told and what the master sends, without the field `attempts`; AttemptsAsSaid says that every report agrees with this count.
use Rattle.std.specs.Prelude.{ℕ, ◌+◌, ◌≤◌, ◌<◌, ◌≡◌, Bool, true, false, List, [], ◌∷◌}
use Rattle.frame.specs.Delimiter.{stx}
use Rattle.frame.specs.Frame.{frame_bytes}
use Rattle.frame.specs.declared.Header.{Header}
use Rattle.line.specs.declared.Profile.{Profile}
use Rattle.line.specs.declared.Whole.{Whole}
use Rattle.turns.specs.Party.{is_broadcast}
use Rattle.turns.specs.Link.{MasterCall, no_request, requests, MasterSide, master_tick}
use Rattle.turns.specs.Run.{MasterStarts}
use Rattle.turns.specs.Gaps.{MasterInput, IsFrame}
use Rattle.turns.specs.declared.CallResult.{CallResult}
use Rattle.turns.specs.declared.Request.{Request}
use Rattle.turns.specs.declared.Sent.{Sent}
use Rattle.turns.specs.declared.Sent.TheVariants.{Silent, Character}
use Rattle.turns.specs.declared.MasterTold.{MasterTold}
use Rattle.turns.specs.declared.MasterTold.TheVariants.{Nothing, Answered, GivenUp, BroadcastSent}

-- the message in hand: its STX, what is left of the one that is being sent, and how many were sent to the end
pub data MessageLog : Type 0 where
  no_message : MessageLog
  in_hand : (stx : List ℕ) (broadcast : Bool) (left : List ℕ) (sent : ℕ) → MessageLog

-- the first attempt and R retries; "Broadcast is sent once"
abbrev pub most_sent : ℕ → Bool → ℕ
most_sent retries true = 1
most_sent retries false = retries + 1

-- what the host is told: nothing, or the end of a message in hand whose STX was sent so many times
pub data Reports (retries : ℕ) : MessageLog → MasterTold → Type 0 where
  no_report : {g : MessageLog} → Reports retries g Nothing
  is_answered : {stx : List ℕ} {broadcast : Bool} {n : ℕ} (w : Whole) → 1 ≤ n → Reports retries (in_hand stx broadcast [] n) (Answered w)
  is_given_up : {stx : List ℕ} {n : ℕ} → n ≡ retries + 1 → Reports retries (in_hand stx false [] n) (GivenUp n)
  is_sent_once : {stx : List ℕ} {n : ℕ} → n ≡ 1 → Reports retries (in_hand stx true [] n) BroadcastSent

-- after a report no message is in hand
abbrev pub behind_report : MasterTold → MessageLog → MessageLog
behind_report Nothing g = g
behind_report (Answered w) g = no_message
behind_report (GivenUp n) g = no_message
behind_report BroadcastSent g = no_message

-- the header of a request's STX
abbrev pub stx_header : Bool → Request → Header
stx_header primary q = record { kind = stx; long = q.long; primary = primary; burst = false; address = q.address; command = q.command }

-- what the host asks: a request is taken only where no message is in hand; it is then the message in hand, with no STX sent yet
pub data Asked (primary : Bool) : MasterCall → CallResult → MessageLog → MessageLog → Type 0 where
  asks_nothing : {g : MessageLog} → Asked primary no_request CallResult.Nothing g g
  is_taken : {q : Request} {put : List ℕ} → Asked primary (requests q put) CallResult.Taken no_message
      (in_hand (frame_bytes q.preamble (stx_header primary q) put) (is_broadcast (stx_header primary q)) [] 0)
  is_refused : {q : Request} {put : List ℕ} {why : ℕ} {g : MessageLog} → Asked primary (requests q put) (CallResult.Refused why) g g

-- what is sent: nothing, or the next character of the message's STX, without a gap. No STX begins beyond the most that may be sent, and one is counted with its last character.
pub data Sends (retries : ℕ) : MessageLog → Sent → MessageLog → Type 0 where
  has_none : Sends retries no_message Silent no_message
  rests : {stx : List ℕ} {broadcast : Bool} {n : ℕ} → Sends retries (in_hand stx broadcast [] n) Silent (in_hand stx broadcast [] n)
  begins : {c : ℕ} {left : List ℕ} {broadcast : Bool} {n : ℕ} → IsFrame (c ∷ left) → n < most_sent retries broadcast
      → Sends retries (in_hand (c ∷ left) broadcast [] n) (Character c) (in_hand (c ∷ left) broadcast left n)
  goes_on : {c d : ℕ} {stx left : List ℕ} {broadcast : Bool} {n : ℕ}
      → Sends retries (in_hand stx broadcast (c ∷ d ∷ left) n) (Character c) (in_hand stx broadcast (d ∷ left) n)
  ends : {c : ℕ} {stx : List ℕ} {broadcast : Bool} {n : ℕ} → Sends retries (in_hand stx broadcast (c ∷ []) n) (Character c) (in_hand stx broadcast [] (n + 1))

-- in every tick: the report, then the host's call, then what is sent
pub data Counted (limit : ℕ) (primary : Bool) (retries : ℕ) : MessageLog → MasterSide → List MasterInput → Type 0 where
  no_tick : {g : MessageLog} {x : MasterSide} → Counted limit primary retries g x []
  tick_and : {g : MessageLog} {x : MasterSide} {i : MasterInput} {is : List MasterInput} (asked after : MessageLog)
      → Reports retries g (master_tick limit x i.heard i.call).told
      → Asked primary i.call (master_tick limit x i.heard i.call).result (behind_report (master_tick limit x i.heard i.call).told g) asked
      → Sends retries asked (master_tick limit x i.heard i.call).sent after
      → Counted limit primary retries after (master_tick limit x i.heard i.call).side is → Counted limit primary retries g x (i ∷ is)

-- for every master that started, whatever it hears and whatever its host asks
abbrev pub AttemptsAsSaid : ℕ → Type 0
AttemptsAsSaid limit =
    (p : Profile) (primary : Bool) (retries : ℕ) (x : MasterSide) (inputs : List MasterInput) → MasterStarts p primary retries x
    → Counted limit primary retries no_message x inputs
