-- To be believed: what the engine must do, or what is claimed of it.
-- Document 01, "Device's turns", with the refusals of device start, device answer and burst content. In a tick a device takes what was heard, then its host's answer or burst content, then sends.
use Rattle.std.specs.Prelude.{ℕ, ◌+◌, ◌-◌, Bool, true, false, List, [], ◌∷◌, length, take}
use Rattle.base.specs.Refusal.{Called, accepted, refused}
use Rattle.base.specs.Choice.{when◌then◌else◌, ◌<?◌, ◌≤?◌, ◌=?◌, ◌outside◌to◌}
use Rattle.frame.specs.Limits.{fewest_preambles, most_preambles, fewest_answered, reserved_command}
use Rattle.frame.specs.Delimiter.{stx, ack, back}
use Rattle.frame.specs.Address.{byte_at, largest_address}
use Rattle.frame.specs.Frame.{frame_length}
use Rattle.frame.specs.Write.{write_buffer}
use Rattle.frame.specs.declared.Header.{Header}
use Rattle.line.specs.Reader.{passing, taken, no_header, inside_frame}
use Rattle.line.specs.declared.Event.{Event}
use Rattle.line.specs.declared.Event.TheVariants.{Nothing, PassedOver, Broken, Frame, Damaged}
use Rattle.line.specs.declared.FrameDamage.{FrameDamage}
use Rattle.line.specs.declared.Heard.{Heard}
use Rattle.line.specs.declared.Heard.TheVariants.{Silence, Character}
use Rattle.line.specs.declared.Profile.{Profile}
use Rattle.line.specs.declared.Receiver.{Receiver}
use Rattle.line.specs.declared.Whole.{Whole}
use Rattle.turns.specs.declared.Sent.{Sent}
use Rattle.turns.specs.declared.Sent.TheVariants.{Silent}
use Rattle.turns.specs.declared.Wish.{Wish}
use Rattle.turns.specs.declared.Wish.TheVariants.{Same, On, Off}
use Rattle.turns.specs.declared.Turn.{Turn}
use Rattle.turns.specs.declared.Turn.TheVariants.{Listens, Asked, AnswerWaits, Begins, Answers, Follows, Bursts}
use Rattle.turns.specs.declared.Content.{Content}
use Rattle.turns.specs.declared.Device.{Device}
use Rattle.turns.specs.declared.DeviceTold.{DeviceTold}
use Rattle.turns.specs.declared.DeviceTold.TheVariants.{Request, Broadcast}
use Rattle.turns.specs.declared.Change.{Change}
use Rattle.turns.specs.declared.DeviceTaken.{DeviceTaken}
use Rattle.turns.specs.declared.DeviceSent.{DeviceSent}
use Rattle.turns.specs.Party.{is_broadcast, seeks_tag}

-- the same device with other parts
abbrev pub device_with : Device → Receiver → Turn → Header → Wish → ℕ → ℕ → Device
device_with d r turn request wish length due = record {
  profile = d.profile;
  preamble = d.preamble;
  polling = d.polling;
  unique = d.unique;
  receiver = r;
  deaf = d.deaf;
  turn = turn;
  request = request;
  wish = wish;
  length = length;
  burst = d.burst;
  primary = d.primary;
  due = due;
  content = d.content;
}

-- ---- whose request it is

-- "STX to its unique address, or with command 0 to its polling address"
abbrev pub is_own : Device → Header → Bool
is_own d h = when h.long then d.unique =? h.address else (when d.polling =? h.address then h.command =? 0 else false)

-- which request the host may answer. Item 6: "a device's host answers command 11 if the tag is its own; other broadcasts still get none." Whose tag it is, the hosts decide.
abbrev pub may_answer : Device → Header → Bool
may_answer d h = when seeks_tag h then true else is_own d h

-- ---- the next BACK

-- what ended on the line, for this device's next BACK
pub data EndedForDevice : Type 0 where
  -- nothing: a frame goes on, one that is heard or its own
  inside : EndedForDevice
  own_ack : EndedForDevice
  own_back : EndedForDevice
  another's_ack : EndedForDevice
  anything_else : EndedForDevice

-- what a character ended, by what the reader tells
abbrev pub ended_by : Event → EndedForDevice
ended_by Nothing = inside
ended_by PassedOver = anything_else
ended_by Broken = anything_else
ended_by (Frame w) = when w.header.kind =? ack then another's_ack else anything_else
ended_by (Damaged w m) = anything_else

-- the silent line ticks before the next BACK; 0 where no timer runs
abbrev pub due_after : Profile → EndedForDevice → ℕ
-- "A bursting device sends a BACK directly behind its own ACK": as its next turn, with no timer
due_after p own_ack = 0
-- "after timer 1 behind another's ACK"
due_after p another's_ack = 1
-- "after RT2 behind its BACK"
due_after p own_back = p.rt2
-- "after RT1 primary behind anything else"
due_after p anything_else = p.rt1p
-- "any character stops it"
due_after p inside = 0

-- ---- the error answer

-- "0x80 plus each that occurred of 0x40 parity, 0x20 overrun, 0x10 framing, 0x08 check"
abbrev pub error_status : FrameDamage → ℕ
error_status m =
    0x80 + (when m.parity then 0x40 else 0) + (when m.overrun then 0x20 else 0) + (when m.framing then 0x10 else 0) + (when m.check then 0x08 else 0)

-- "two data bytes, .. then 0"
abbrev pub error_data : FrameDamage → List ℕ
error_data m = error_status m ∷ 0 ∷ []

-- an ACK to a request repeats the form of its address, its master bit and its command, and has the burst flag if the device bursts. Item 6: "Our transmitters repeat the request's address bytes, with their burst flag."
abbrev pub answer_header : Header → Bool → Header
answer_header h burst = record { kind = ack; long = h.long; primary = h.primary; burst = burst; address = h.address; command = h.command }

-- "Expansion bytes or damage in the address: no answer." Other damage in an STX "that as heard is for this device" is answered without the host. A damaged broadcast is for no device, so item 6's "A damaged one is never answered" holds (`damaged_unanswered` in proofs/TagSentences).
abbrev pub has_error : Device → Whole → FrameDamage → Bool
has_error d w m =
    when w.header.kind =? stx then
    (when w.expansion =? 0 then
    (when m.address then false else is_own d w.header) else false) else false

-- ---- take: what was heard

abbrev pub tells : Device → DeviceTold → Event → DeviceTaken
tells d told event = record { device = d; told = told; event = event }

-- nothing in hand: the device listens
abbrev pub listens_on : Device → DeviceTold → Change
listens_on d told = record { turn = Listens; request = d.request; length = d.length; told = told }

-- an undamaged STX without expansion bytes: one that the host may answer is told to it, with the ticks in which it may be answered; another broadcast is "told to the host and never answered"; of any other nothing is told
abbrev pub after_request : Device → Whole → Change
after_request d w =
    when may_answer d w.header then record { turn = Asked d.profile.sto; request = w.header; length = d.length; told = Request w } else
    when is_broadcast w.header then listens_on d (Broadcast w) else
    listens_on d DeviceTold.Nothing

abbrev pub after_frame : Device → Whole → Change
after_frame d w =
    when w.header.kind =? stx then
    (when w.expansion =? 0 then after_request d w else listens_on d DeviceTold.Nothing)
    else listens_on d DeviceTold.Nothing

-- the error answer is put into the lent frame buffer in this tick, and begins in the next
abbrev pub after_damage : Device → Whole → FrameDamage → Change
after_damage d w m =
    when has_error d w m then
    record { turn = AnswerWaits; request = w.header; length = frame_length d.preamble (answer_header w.header d.burst) 2; told = DeviceTold.Nothing }
    else listens_on d DeviceTold.Nothing

-- by what the reader tells of the character
abbrev pub after_character : Device → Event → Change
after_character d Nothing = listens_on d DeviceTold.Nothing
after_character d PassedOver = listens_on d DeviceTold.Nothing
after_character d Broken = listens_on d DeviceTold.Nothing
after_character d (Frame w) = after_frame d w
after_character d (Damaged w m) = after_damage d w m

-- the device after a character: "A character heard before then drops the request", and its wish
abbrev pub changed : Device → Receiver → Event → Change → DeviceTaken
changed d r event c = tells (device_with d r c.turn c.request Same c.length (due_after d.profile (ended_by event))) c.told event

abbrev pub on_character : Device → Receiver → Event → DeviceTaken
on_character d r event = changed d r event (after_character d event)

-- a silent tick: the request's ticks are counted, and an answer that was taken may begin
abbrev pub waited : Turn → Turn
waited Listens = Listens
waited (Asked n) = when n ≤? 1 then Listens else Asked (n - 1)
waited AnswerWaits = Begins
waited Begins = Begins
waited (Answers n) = Answers n
waited Follows = Follows
waited (Bursts n) = Bursts n

-- a bursting device's BACK begins where its timer ends
abbrev pub back_due : Device → ℕ → Bool
back_due d due = when d.burst then due =? 1 else false

abbrev pub next_turn : Device → ℕ → Turn
next_turn d due = when back_due d due then Follows else waited d.turn

abbrev pub counts : Device → Receiver → ℕ → Event → DeviceTaken
counts d r due event = tells (device_with d r (next_turn d due) d.request d.wish d.length (due - 1)) DeviceTold.Nothing event

-- "both then count in the timers": when the second silent tick is counted, one tick of RT1 primary is already over
abbrev pub broken_due : Device → ℕ
broken_due d = due_after d.profile (ended_by Broken) - 1

-- a silent tick that is passed over inside a frame counts nothing; the second in a row breaks the frame, and both count in the timer after it; outside a frame each is counted
abbrev pub on_silence : Device → Receiver → DeviceTaken
on_silence d r =
    when inside_frame d.receiver.place then
    (when d.receiver.gap then counts d r (broken_due d) Broken
    else tells (device_with d r d.turn d.request d.wish d.length d.due) DeviceTold.Nothing Nothing)
    else counts d r d.due Nothing

abbrev pub on_heard : Device → Heard → DeviceTaken
on_heard d Silence = on_silence d (taken d.receiver Silence).receiver
on_heard d (Character c) = on_character d (taken d.receiver (Character c)).receiver (taken d.receiver (Character c)).event
on_heard d (Heard.Damaged c kind) = on_character d (taken d.receiver (Heard.Damaged c kind)).receiver (taken d.receiver (Heard.Damaged c kind)).event

unfoldable pub device_takes : Device → Heard → DeviceTaken
device_takes d heard = when d.deaf then tells d DeviceTold.Nothing Nothing else on_heard d heard

-- the lent frame buffer, as the frame writer leaves it with the error answer
abbrev pub error_frame : Device → Event → List ℕ → List ℕ
error_frame d Nothing frame = frame
error_frame d PassedOver frame = frame
error_frame d Broken frame = frame
error_frame d (Frame w) frame = frame
error_frame d (Damaged w m) frame = when has_error d w m then write_buffer d.preamble (answer_header w.header d.burst) (error_data m) frame 0 else frame

-- ---- the host's answer

-- "The host's answer may turn burst on or off": whether the device bursts from the ACK's first character on
abbrev pub wished : Bool → Wish → Bool
wished burst Same = burst
wished burst On = true
wished burst Off = false

-- "on or off wished in answer to command 0"; item 6: "A wish to turn burst on or off in this answer is refused with 10"
abbrev pub has_no_wish : Header → Bool
has_no_wish h = when h.command =? 0 then true else seeks_tag h

-- "10: burst on without burst content, or on or off wished in answer to command 0"
abbrev pub wish_refused : Device → Wish → Bool
wish_refused d Same = false
wish_refused d On = when has_no_wish d.request then true else (when d.content.given then false else true)
wish_refused d Off = has_no_wish d.request

-- the turn of a request in hand: "an answer at T+1 begins at T+2", a later one in its own tick
abbrev pub answers_at : Device → ℕ → Turn
answers_at d left = when left =? d.profile.sto then AnswerWaits else Begins

-- "9: data outside 2 to 255", of an answer and of burst content. `limit` is the link's data limit; 255 where none is given (document 02, item 12).
abbrev pub count_refused : ℕ → ℕ → Bool
count_refused limit count = count outside fewest_answered to limit

-- "8: no request in hand, or past T+STO; 9; 10"
abbrev pub answered_by : ℕ → Device → Wish → ℕ → Turn → Called Device
answered_by limit d wish count Listens = refused 8
answered_by limit d wish count (Asked left) =
    when count outside fewest_answered to limit then refused 9 else
    when wish_refused d wish then refused 10 else
    accepted (device_with d d.receiver (answers_at d left) d.request wish
    (frame_length d.preamble (answer_header d.request (wished d.burst wish)) count) d.due)
answered_by limit d wish count AnswerWaits = refused 8
answered_by limit d wish count Begins = refused 8
answered_by limit d wish count (Answers n) = refused 8
answered_by limit d wish count Follows = refused 8
answered_by limit d wish count (Bursts n) = refused 8

unfoldable pub answered : ℕ → Device → Wish → ℕ → Called Device
answered limit d wish count = answered_by limit d wish count d.turn

-- the lent frame buffer, as the frame writer leaves it with the answer
abbrev pub answer_frame : Device → Wish → List ℕ → List ℕ → List ℕ
answer_frame d wish bytes frame = write_buffer d.preamble (answer_header d.request (wished d.burst wish)) bytes frame 0

-- ---- burst content: "5 for command 254; 9"

abbrev pub device_with_content : Device → Content → Device
device_with_content d c = record {
  profile = d.profile;
  preamble = d.preamble;
  polling = d.polling;
  unique = d.unique;
  receiver = d.receiver;
  deaf = d.deaf;
  turn = d.turn;
  request = d.request;
  wish = d.wish;
  length = d.length;
  burst = d.burst;
  primary = d.primary;
  due = d.due;
  content = c;
}

unfoldable pub content_given : ℕ → Device → ℕ → ℕ → Called Device
content_given limit d command count =
    when command =? reserved_command then refused 5 else
    when count outside fewest_answered to limit then refused 9 else
    accepted (device_with_content d (record { given = true; command = command; count = count }))

-- ---- send

abbrev pub sends : Device → Bool → Turn → ℕ → Bool → Bool → ℕ → Receiver → Sent → DeviceSent
sends d deaf turn length burst primary due r sent = record {
  device = record {
    profile = d.profile;
    preamble = d.preamble;
    polling = d.polling;
    unique = d.unique;
    receiver = r;
    deaf = deaf;
    turn = turn;
    request = d.request;
    wish = d.wish;
    length = length;
    burst = burst;
    primary = primary;
    due = due;
    content = d.content;
  };
  sent = sent;
}

-- "BACKs use the long address", and "carry the burst flag"; their content is what the host gave last
abbrev pub back_header : Device → Header
back_header d = record { kind = back; long = true; primary = d.primary; burst = true; address = d.unique; command = d.content.command }

-- "The first after burst goes from off to on is for the primary, then they alternate."
abbrev pub first_for : Device → Bool
first_for d = when d.burst then d.primary else true

-- "A bursting device sends a BACK directly behind its own ACK"
abbrev pub behind_ack : Bool → Turn
behind_ack burst = when burst then Follows else Listens

-- one character of an ACK; `burst` is whether the device bursts from the ACK's first character on
abbrev pub answers_from : Device → List ℕ → ℕ → Bool → Bool → DeviceSent
answers_from d frame n burst primary =
    when n + 1 <? d.length then sends d true (Answers (n + 1)) d.length burst primary (due_after d.profile inside) passing (Sent.Character (byte_at frame n))
    else sends d true (behind_ack burst) d.length burst primary (due_after d.profile own_ack) passing (Sent.Character (byte_at frame n))

-- one character of a BACK of this length
abbrev pub bursts_from : Device → List ℕ → ℕ → ℕ → Bool → DeviceSent
bursts_from d frame n length primary =
    when n + 1 <? length then sends d true (Bursts (n + 1)) length d.burst primary (due_after d.profile inside) passing (Sent.Character (byte_at frame n))
    else sends d true Listens length d.burst primary (due_after d.profile own_back) passing (Sent.Character (byte_at frame n))

abbrev pub back_length : Device → ℕ
back_length d = frame_length d.preamble (back_header d) d.content.count

-- "A wish takes effect with its ACK's first character". `frame` is the lent frame buffer, in which a BACK that begins already stands.
abbrev pub sends_by : Device → List ℕ → Turn → DeviceSent
sends_by d frame Listens = sends d false Listens d.length d.burst d.primary d.due d.receiver Silent
sends_by d frame (Asked n) = sends d false (Asked n) d.length d.burst d.primary d.due d.receiver Silent
sends_by d frame AnswerWaits = sends d false AnswerWaits d.length d.burst d.primary d.due d.receiver Silent
sends_by d frame Begins = answers_from d frame 0 (wished d.burst d.wish) (first_for d)
sends_by d frame (Answers n) = answers_from d frame n d.burst d.primary
sends_by d frame Follows = bursts_from d frame 0 (back_length d) (when d.primary then false else true)
sends_by d frame (Bursts n) = bursts_from d frame n d.length d.primary

unfoldable pub device_sends : Device → List ℕ → DeviceSent
device_sends d frame = sends_by d frame d.turn

-- "A BACK's content is fixed at its first character": the lent frame buffer, as the frame writer leaves it where a BACK begins
abbrev pub begun_frame : Device → Turn → List ℕ → List ℕ → List ℕ
begun_frame d Listens content frame = frame
begun_frame d (Asked n) content frame = frame
begun_frame d AnswerWaits content frame = frame
begun_frame d Begins content frame = frame
begun_frame d (Answers n) content frame = frame
begun_frame d Follows content frame = write_buffer d.preamble (back_header d) (take d.content.count content) frame 0
begun_frame d (Bursts n) content frame = frame

-- ---- start: "3; 4, also for unique address 0". A fresh device has burst off and no request in hand.

abbrev pub fresh_device : Profile → ℕ → ℕ → ℕ → Device
fresh_device p preamble polling unique = record {
  profile = p;
  preamble = preamble;
  polling = polling;
  unique = unique;
  receiver = passing;
  deaf = true;
  turn = Listens;
  request = no_header;
  wish = Same;
  length = 0;
  burst = false;
  primary = true;
  due = due_after p anything_else;
  content = record { given = false; command = 0; count = 0 };
}

abbrev pub device_starts : Profile → ℕ → ℕ → ℕ → Called Device
device_starts p preamble polling unique =
    when preamble outside fewest_preambles to most_preambles then refused 3 else
    when largest_address false <? polling then refused 4 else
    when unique outside 1 to largest_address true then refused 4 else
    accepted (fresh_device p preamble polling unique)
