-- How the code stands for what is to be believed.
-- A master's tick, over its words and lent buffers.
use Rattle.std.specs.Prelude.{ℕ, Bool, List, ◌≡◌, Option, Some, None}
use Rattle.base.specs.Choice.{when◌then◌else◌}
use Rattle.base.specs.Lent.{Lent, before, after}
use Rattle.line.specs.declared.Event.{Event}
use Rattle.line.specs.declared.Event.TheVariants.{Frame}
use Rattle.line.specs.declared.Heard.{Heard}
use Rattle.turns.specs.Link.{MasterStep, master_tick}
use Rattle.turns.specs.Master.{master_takes}
use Rattle.turns.specs.Told.{master_tells}
use Rattle.turns.specs.declared.MasterTold.{MasterTold}
use Rattle.turns.specs.declared.MasterTold.TheVariants.{Nothing, Answered, GivenUp, BroadcastSent}
use Rattle.master.specs.Tick.{call_of, side_of}
use Rattle.party.specs.Numbers.{sent_number, call_number}
use Rattle.state_words.specs.Numbers.{tick_numbers}
use Rattle.master_c.specs.Words.{packed, unpacked, limit_at}
use Rattle.turns.specs.declared.Request.{Request}

-- the host's request, field by field, or none
abbrev pub request_of : Bool → ℕ → ℕ → Bool → ℕ → ℕ → Option Request
request_of requests preamble revision long address command =
    when requests then Some (record { preamble = preamble; revision = revision; long = long; address = address; command = command })
    else None

-- the attempts of a message that is given up; 0 where the host is told anything else
abbrev pub told_attempts : MasterTold → ℕ
told_attempts Nothing = 0
told_attempts (Answered w) = 0
told_attempts (GivenUp n) = n
told_attempts BroadcastSent = 0

-- what a call leaves after a tick: the words and both lent buffers, the results and what it returns
pub record StepIs (limit : ℕ) (s : MasterStep) (event : Event) (words frame bytes results : List ℕ) (r : ℕ) : Type 0 where
  pub words_are : words ≡ packed limit s.side.master
  pub limit_is : limit_at words ≡ limit
  pub unpacked_is : unpacked words ≡ s.side.master
  pub frame_is : frame ≡ s.side.frame
  pub bytes_are : bytes ≡ s.side.bytes
  pub results_are : results ≡ tick_numbers (sent_number s.sent) (master_tells s.told).number (told_attempts s.told) event
  pub returned : r ≡ call_number s.result

-- the step of the master that the words stood for before the call, and what its reader found; the data of the host's request are `put`
abbrev pub MasterTicks : Lent (List ℕ) → Lent (List ℕ) → Lent (List ℕ) → Heard → Option Request → List ℕ → Lent (List ℕ) → ℕ → Type 0
MasterTicks words frame bytes heard call put results r =
    StepIs
    (limit_at (before words))
    (master_tick (limit_at (before words)) (side_of (unpacked (before words)) (before frame) (before bytes)) heard (call_of call put))
    (master_takes (unpacked (before words)) heard (after bytes)).event
    (after words) (after frame) (after bytes) (after results) r

-- an ACK that the host is told is the frame that the reader found in that tick, whose fields stand in the results and whose data in the lent buffer (proofs/Found.antt)
abbrev pub ToldIsFound : MasterTold → Event → Type 0
ToldIsFound Nothing event = Unit {0}
ToldIsFound (Answered w) event = event ≡ Frame w
ToldIsFound (GivenUp n) event = Unit {0}
ToldIsFound BroadcastSent event = Unit {0}
