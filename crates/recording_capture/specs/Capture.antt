-- How the code stands for what is to be believed.
-- What the program `capture` writes after the file's header: a packet in the tick of each whole frame's check byte, in the order of the ticks. What goes from piece to piece of a recording is `Kept`.
use Rattle.std.specs.Prelude.{ℕ, ◌+◌, ◌%◌, ◌^◌, Bool, true, false, List, [], ◌∷◌, ◌++◌, take}
use Rattle.base.specs.Choice.{when◌then◌else◌}
use Rattle.line.specs.Reader.{passing, taken, taken_data}
use Rattle.line.specs.declared.Event.{Event}
use Rattle.line.specs.declared.Event.TheVariants.{Nothing, PassedOver, Broken, Frame, Damaged}
use Rattle.line.specs.declared.Heard.{Heard}
use Rattle.line.specs.declared.Heard.TheVariants as Variant
use Rattle.line.specs.declared.Place.{Place}
use Rattle.line.specs.declared.Place.TheVariants.{Passing, Idle, Preamble, First, Address, Expansion, Command, Count, Data, Check}
use Rattle.line.specs.declared.Taken.{Taken}
use Rattle.texts.specs.Put.{Out, out_of, put}
use Rattle.recording_capture.specs.Packet.{packet, next_number}
use Rattle.recording_capture.specs.declared.Clock.{Clock}
use Rattle.recording_capture.specs.declared.Progress.{Progress}

-- ---- the bytes of the frame that is being heard, from its delimiter on, stand at the front of a lent buffer

-- what a tick adds to them; a silent tick inside a frame is left out
unfoldable pub heard_text : Heard → List ℕ
heard_text Variant.Silence = []
heard_text (Variant.Character c) = c ∷ []
heard_text (Variant.Damaged c kind) = c ∷ []

abbrev pub grown : List ℕ → ℕ → Heard → Out
grown frame held h = put (out_of frame held) (heard_text h)

abbrev pub message_of : Out → List ℕ
message_of o = take o.at o.bytes

-- after the delimiter, up to the check byte
abbrev pub is_inside : Place → Bool
is_inside Passing = false
is_inside Idle = false
is_inside (Preamble n) = false
is_inside First = true
is_inside (Address n) = true
is_inside (Expansion n) = true
is_inside Command = true
is_inside Count = true
is_inside (Data n) = true
is_inside Check = true

-- there they are kept for the next tick; elsewhere there are none
abbrev pub held_behind : Place → ℕ → ℕ
held_behind place held = when is_inside place then held else 0

-- ---- a tick

-- "Damaged and broken frames are no packets"
abbrev pub packet_by : Clock → ℕ → ℕ → Event → List ℕ → List ℕ
packet_by clock tick number Nothing message = []
packet_by clock tick number PassedOver message = []
packet_by clock tick number Broken message = []
packet_by clock tick number (Frame w) message = packet clock tick number w.header message
packet_by clock tick number (Damaged w m) message = []

abbrev pub number_after : Event → ℕ → ℕ
number_after Nothing n = n
number_after PassedOver n = n
number_after Broken n = n
number_after (Frame w) n = next_number n
number_after (Damaged w m) n = n

-- ---- from tick to tick

-- ticks have 64 bits, and no file has more
abbrev pub next_tick : ℕ → ℕ
next_tick t = (t + 1) % 2 ^ 64

-- by what the reader's tick left, and how many bytes there are with it
unfoldable pub progress_behind : Progress → Taken → ℕ → Progress
progress_behind p t held = record {
  receiver = t.receiver;
  clock = p.clock;
  tick = next_tick p.tick;
  number = number_after t.event p.number;
  held = held_behind t.receiver.place held;
}

-- what goes from piece to piece: the reader, the clock, the next tick and packet's number, how many bytes of the frame there are; the reader's data so far, and those bytes
pub record Kept : Type 0 where
  pub progress : Progress
  pub bytes : List ℕ
  pub message : List ℕ

unfoldable pub stepped : Kept → Heard → Kept
stepped k h = record {
  progress = progress_behind k.progress (taken k.progress.receiver h) (grown k.message k.progress.held h).at;
  bytes = taken_data k.progress.receiver h k.bytes;
  message = (grown k.message k.progress.held h).bytes;
}

-- the bytes with those of this tick
abbrev pub body_at : Kept → Heard → List ℕ
body_at k h = message_of (grown k.message k.progress.held h)

unfoldable pub packet_at : Kept → Heard → List ℕ
packet_at k h = packet_by k.progress.clock k.progress.tick k.progress.number (taken k.progress.receiver h).event (body_at k h)

-- the packets of some ticks, and what is kept after them
unfoldable pub packets_from : Kept → List Heard → List ℕ
packets_from k [] = []
packets_from k (h ∷ hs) = packet_at k h ++ packets_from (stepped k h) hs

unfoldable pub kept_behind : Kept → List Heard → Kept
kept_behind k [] = k
kept_behind k (h ∷ hs) = kept_behind (stepped k h) hs

-- before the first tick
abbrev pub start_of : Clock → Progress
start_of clock = record { receiver = passing; clock = clock; tick = 0; number = 0; held = 0 }
