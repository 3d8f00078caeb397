-- How the code stands for what is to be believed.
-- What is told of a tick, as 17 numbers for every party, in the order of the C header's `enum nengapiko_result`: what is sent, what is told and the attempts, then what the reader found.
use Rattle.std.specs.Prelude.{ℕ, List, [], ◌∷◌}
use Rattle.base.specs.Choice.{when◌then◌else◌, ◌=?◌}
use Rattle.line.specs.Reader.{no_damage}
use Rattle.line.specs.Told.{event_number}
use Rattle.line.specs.declared.Event.{Event}
use Rattle.line.specs.declared.Event.TheVariants.{Nothing, PassedOver, Broken, Frame, Damaged}
use Rattle.line.specs.declared.FrameDamage.{FrameDamage}
use Rattle.line.specs.declared.Whole.{Whole}
use Rattle.state_words.specs.Fields.{word_at, number_at, flag_word, flag_at}
use Rattle.state_words.specs.Reader.{damage_words, damage_at}

-- the fields of a frame, and its damage
abbrev pub frame_numbers : Whole → FrameDamage → List ℕ
frame_numbers w m =
    w.header.kind ∷
    flag_word w.header.long ∷
    flag_word w.header.primary ∷
    flag_word w.header.burst ∷
    w.header.address ∷
    w.expansion ∷
    w.header.command ∷
    w.count ∷
    damage_words m

abbrev pub no_frame : List ℕ
no_frame = 0 ∷ 0 ∷ 0 ∷ 0 ∷ 0 ∷ 0 ∷ 0 ∷ 0 ∷ 0 ∷ 0 ∷ 0 ∷ 0 ∷ 0 ∷ []

-- what the reader found: the numbers of `enum nengapiko_event`, and every frame with its fields
abbrev pub event_fields : Event → List ℕ
event_fields Nothing = no_frame
event_fields PassedOver = no_frame
event_fields Broken = no_frame
event_fields (Frame w) = frame_numbers w no_damage
event_fields (Damaged w m) = frame_numbers w m

abbrev pub event_numbers : Event → List ℕ
event_numbers event = event_number event ∷ event_fields event

abbrev pub tick_numbers : ℕ → ℕ → ℕ → Event → List ℕ
tick_numbers sent told attempts event = sent ∷ told ∷ attempts ∷ event_numbers event

-- the other way round: what 17 numbers tell; any other number of an event tells nothing
abbrev pub whole_at : List ℕ → Whole
whole_at numbers = record {
  header = record {
    kind = number_at 8 numbers 4;
    long = flag_at numbers 5;
    primary = flag_at numbers 6;
    burst = flag_at numbers 7;
    address = word_at numbers 8;
    command = number_at 8 numbers 10;
  };
  expansion = number_at 8 numbers 9;
  count = number_at 8 numbers 11;
}

abbrev pub event_by : ℕ → Whole → FrameDamage → Event
event_by event w m =
    when event =? event_number PassedOver then PassedOver else
    when event =? event_number Broken then Broken else
    when event =? event_number (Frame w) then Frame w else
    when event =? event_number (Damaged w m) then Damaged w m else
    Nothing

abbrev pub event_at : List ℕ → Event
event_at numbers = event_by (word_at numbers 3) (whole_at numbers) (damage_at numbers 12)
