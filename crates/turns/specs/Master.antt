-- To be believed: what the engine must do, or what is claimed of it.
-- Document 01, "Master's turns", with "Timers" and the refusals of master start and master request. In a tick a master takes what was heard, then its host's request, then sends.
use Rattle.std.specs.Prelude.{ℕ, ◌+◌, ◌-◌, ◌*◌, ◌/◌, Bool, true, false, List, length}
use Rattle.base.specs.Choice.{when◌then◌else◌, ◌<?◌, ◌≤?◌, ◌=?◌, ◌outside◌to◌}
use Rattle.base.specs.Refusal.{Called, accepted, refused}
use Rattle.frame.specs.Limits.{fewest_preambles, most_preambles, largest_polling, reserved_command}
use Rattle.frame.specs.Delimiter.{stx, ack, back}
use Rattle.frame.specs.Address.{byte_at, address_above}
use Rattle.frame.specs.Frame.{frame_length}
use Rattle.frame.specs.declared.Header.{Header}
use Rattle.line.specs.Reader.{passing, taken, no_header, inside_frame}
use Rattle.line.specs.declared.Event.{Event}
use Rattle.line.specs.declared.Event.TheVariants.{Nothing, PassedOver, Broken, Frame, Damaged}
use Rattle.line.specs.declared.Heard.{Heard}
use Rattle.line.specs.declared.Heard.TheVariants.{Silence, Character}
use Rattle.line.specs.declared.Profile.{Profile}
use Rattle.line.specs.declared.Receiver.{Receiver}
use Rattle.line.specs.declared.Whole.{Whole}
use Rattle.turns.specs.Party.{is_broadcast, seeks_tag}
use Rattle.turns.specs.declared.Request.{Request}
use Rattle.turns.specs.declared.Sent.{Sent}
use Rattle.turns.specs.declared.Sent.TheVariants.{Silent}
use Rattle.turns.specs.declared.Timer.{Timer}
use Rattle.turns.specs.declared.Stage.{Stage}
use Rattle.turns.specs.declared.Stage.TheVariants.{Free, Waiting, Sending, Awaiting}
use Rattle.turns.specs.declared.Message.{Message}
use Rattle.turns.specs.declared.Noted.{Noted}
use Rattle.turns.specs.declared.Master.{Master}
use Rattle.turns.specs.declared.MasterTold.{MasterTold}
use Rattle.turns.specs.declared.MasterTold.TheVariants.{Answered, GivenUp, BroadcastSent}
pub use Rattle.turns.specs.declared.Ending.{Ending}
use Rattle.turns.specs.declared.MasterTaken.{MasterTaken}
use Rattle.turns.specs.declared.MasterSent.{MasterSent}

-- ---- what a master is made of

-- "RT1 is its own RT1"
abbrev pub own_rt1 : Profile → Bool → ℕ
own_rt1 p primary = when primary then p.rt1p else p.rt1s

-- "the quiet time from the last character: 2×RT1 primary for the primary, RT2 more for the secondary"
abbrev pub quiet_time : Profile → Bool → ℕ
quiet_time p primary = when primary then 2 * p.rt1p else 2 * p.rt1p + p.rt2

-- the same master with other parts
abbrev pub master_with : Master → Receiver → Bool → Noted → Timer → Message → Master
master_with m r burst noted timer message = record {
  primary = m.primary;
  profile = m.profile;
  retries = m.retries;
  receiver = r;
  deaf = m.deaf;
  burst = burst;
  noted = noted;
  timer = timer;
  message = message;
}

abbrev pub message_at : Message → Stage → Message
message_at g stage = record { stage = stage; header = g.header; length = g.length; attempts = g.attempts }

-- ---- timers and windows: each number is in silent line ticks, and 0 is a timer that does not run or a window that is not open

-- a timer n
abbrev pub timer : ℕ → Timer
timer n = record { next = n; window = 0; quiet = 0 }

-- with BURST set: a timer n, and the quiet time
abbrev pub burst_timer : Profile → Bool → ℕ → Timer
burst_timer p primary n = record { next = n; window = 0; quiet = quiet_time p primary }

-- "A timer's end opens a window." "An unused window opens again 2×RT2 ticks after it opened"
abbrev pub opened : Profile → Timer
opened p = record { next = 2 * p.rt2; window = p.hold; quiet = 0 }

-- a silent tick with BURST clear
abbrev pub count_clear : Profile → Timer → Timer
count_clear p t = when t.next =? 1 then opened p else record { next = t.next - 1; window = t.window - 1; quiet = 0 }

-- a silent tick with BURST set, before the quiet time's end: a window that opens does not open again
abbrev pub count_burst : Profile → Timer → Timer
count_burst p t =
    when t.next =? 1 then record { next = 0; window = p.hold; quiet = t.quiet - 1 }
    else record { next = t.next - 1; window = t.window - 1; quiet = t.quiet - 1 }

-- the quiet time's "end clears BURST", and opens a window
abbrev pub timer_counted : Master → Timer
timer_counted m =
    when m.burst then (when m.timer.quiet =? 1 then opened m.profile else count_burst m.profile m.timer)
    else count_clear m.profile m.timer

abbrev pub burst_counted : Master → Bool
burst_counted m = when m.burst then (when m.timer.quiet =? 1 then false else true) else false

-- ---- BURST

-- whether the address is a device's: a long address is, except in the ACK to command 11 by broadcast, where it is the request's
abbrev pub names_device : Header → Bool
names_device h = when seeks_tag h then false else h.long

abbrev pub noted_from : Header → Noted
noted_from h = record { long = h.long; address = h.address }

-- whether the noted address is this long one
abbrev pub is_noted : Noted → Header → Bool
is_noted n h = when n.long then n.address =? h.address else false

-- "A long ACK with the burst flag, or a BACK, sets BURST and notes its address. A long ACK from the noted address without the flag clears it. A short ACK with the flag sets BURST and notes nothing." Item 6, of the ACK to command 11 by broadcast: "with the flag it sets BURST and notes nothing, and it never clears it."
abbrev pub burst_after : Bool → Noted → Header → Bool
burst_after burst noted h =
    when h.kind =? back then true else
    when h.kind =? ack then
    (when h.burst then true else
    when names_device h then (when is_noted noted h then false else burst) else burst)
    else burst

abbrev pub noted_after : Noted → Header → Noted
noted_after noted h =
    when h.kind =? back then noted_from h else
    when h.kind =? ack then (when h.burst then (when names_device h then noted_from h else noted) else noted)
    else noted

-- ---- the timer after what ended

-- what ended on the line, for this master
pub data EndedForMaster : Type 0 where
  -- nothing yet: the master is fresh
  fresh : EndedForMaster
  -- nothing: a frame goes on, one that is heard or its own
  inside : EndedForMaster
  -- "a broken or damaged frame", and "characters passed over"
  broken : EndedForMaster
  any_stx : EndedForMaster
  ack_to_itself : EndedForMaster
  ack_to_other : EndedForMaster
  back_to_itself : EndedForMaster
  back_to_other : EndedForMaster

-- whether a frame's master bit is the master's own
abbrev pub to_itself : Master → Header → Bool
to_itself m h = when m.primary then h.primary else (when h.primary then false else true)

-- a whole frame without damage
abbrev pub ended_by : Master → Header → EndedForMaster
ended_by m h =
    when h.kind =? back then (when to_itself m h then back_to_itself else back_to_other) else
    when h.kind =? ack then (when to_itself m h then ack_to_itself else ack_to_other) else
    any_stx

-- by what ended, and BURST after it: "BURST is brought up to date before the frame's timer is chosen." A BACK has set it, and a fresh master's is clear.
abbrev pub timer_after : Profile → Bool → EndedForMaster → Bool → Timer
-- "BURST clear, and fresh, after a broken or damaged frame, or after any STX: timer RT1."
timer_after p primary fresh burst = timer (own_rt1 p primary)
timer_after p primary broken false = timer (own_rt1 p primary)
timer_after p primary any_stx false = timer (own_rt1 p primary)
-- "ACK to the other master, BURST clear: timer 1."
timer_after p primary ack_to_other false = timer 1
-- "ACK to itself, BURST clear: timer RT2."
timer_after p primary ack_to_itself false = timer p.rt2
-- "BURST set: after a BACK to the other master timer 1."
timer_after p primary back_to_other burst = burst_timer p primary 1
-- "After anything else, a broken frame included, .. the quiet time from the last character"
timer_after p primary back_to_itself burst = burst_timer p primary 0
timer_after p primary ack_to_other true = burst_timer p primary 0
timer_after p primary ack_to_itself true = burst_timer p primary 0
timer_after p primary any_stx true = burst_timer p primary 0
timer_after p primary broken true = burst_timer p primary 0
-- "any character stops it"
timer_after p primary inside burst = timer 0

-- ---- the message's end

abbrev pub ends : Message → MasterTold → Ending
ends g told = record { message = message_at g Free; told = told }

-- "R failed retries after the first attempt end the message as given up, with the attempts, equal to the STX frames sent"
abbrev pub fails : ℕ → Message → Ending
fails retries g = when g.attempts ≤? retries then record { message = message_at g Waiting; told = MasterTold.Nothing } else ends g (GivenUp g.attempts)

-- "the ACK with its master bit, address and command": equal addresses are both long or both short, with the same bits
abbrev pub same_bit : Bool → Bool → Bool
same_bit a b = when a then b else (when b then false else true)

abbrev pub is_answer : Master → Header → Bool
is_answer m h =
    when h.kind =? ack then
    (when to_itself m h then
    (when same_bit m.message.header.long h.long then
    (when m.message.header.address =? h.address then
    m.message.header.command =? h.command else false) else false) else false) else false

-- "a broken one, or RT1 without a character also fails it"
abbrev pub at_break : Master → Ending
at_break m = when is_broadcast m.message.header then ends m.message BroadcastSent else fails m.retries m.message

-- a broadcast has no answer, but for item 6's command 11: "A master takes that ACK as the answer"
abbrev pub answers_message : Master → Header → Bool
answers_message m h = when is_broadcast m.message.header then (when seeks_tag m.message.header then is_answer m h else false) else is_answer m h

-- "Such an ACK ends the message as answered, unless bit 7 of its first data byte is set: then the attempt failed. Another frame .. also fails it." A broadcast is "reported as sent .. at the next frame"; item 6: "Unanswered, or answered with bit 7 set, the message is reported after its one attempt as document 01's broadcast is."
abbrev pub at_frame : Master → Whole → List ℕ → Ending
at_frame m w bytes = when answers_message m w.header then (when byte_at bytes 0 / 128 =? 1 then at_break m else ends m.message (Answered w)) else at_break m

-- only a master that awaits its ACK has an attempt to fail
abbrev pub if_awaiting : Stage → Message → Ending → Ending
if_awaiting Free g e = record { message = g; told = MasterTold.Nothing }
if_awaiting Waiting g e = record { message = g; told = MasterTold.Nothing }
if_awaiting (Sending n) g e = record { message = g; told = MasterTold.Nothing }
if_awaiting (Awaiting n) g e = e

-- ---- take: what was heard

abbrev pub tells : Master → MasterTold → Event → MasterTaken
tells m told event = record { master = m; told = told; event = event }

-- after a frame: BURST, then the timer, and the message
abbrev pub after_frame : Master → Receiver → Whole → List ℕ → MasterTaken
after_frame m r w bytes =
    tells (master_with m r
    (burst_after m.burst m.noted w.header)
    (noted_after m.noted w.header)
    (timer_after m.profile m.primary (ended_by m w.header) (burst_after m.burst m.noted w.header))
    (if_awaiting m.message.stage m.message (at_frame m w bytes)).message)
    (if_awaiting m.message.stage m.message (at_frame m w bytes)).told
    (Frame w)

-- "For turns and BURST a damaged frame is neither STX, ACK nor BACK", "and characters passed over are a broken frame"
abbrev pub after_break : Master → Receiver → Event → MasterTaken
after_break m r event =
    tells (master_with m r m.burst m.noted (timer_after m.profile m.primary broken m.burst)
    (if_awaiting m.message.stage m.message (at_break m)).message)
    (if_awaiting m.message.stage m.message (at_break m)).told
    event

-- a character of a frame that goes on
abbrev pub frame_goes_on : Master → Receiver → MasterTaken
frame_goes_on m r = tells (master_with m r m.burst m.noted (timer_after m.profile m.primary inside m.burst) m.message) MasterTold.Nothing Nothing

-- after a character, by what the reader tells
abbrev pub on_character : Master → Receiver → Event → List ℕ → MasterTaken
on_character m r Nothing bytes = frame_goes_on m r
on_character m r PassedOver bytes = after_break m r PassedOver
on_character m r Broken bytes = after_break m r Broken
on_character m r (Frame w) bytes = after_frame m r w bytes
on_character m r (Damaged w h) bytes = after_break m r (Damaged w h)

-- the ticks left for the ACK
abbrev pub waited : Stage → Stage
waited Free = Free
waited Waiting = Waiting
waited (Sending n) = Sending n
waited (Awaiting n) = Awaiting (n - 1)

-- "RT1 without a character"
abbrev pub rt1_ends : Stage → Bool
rt1_ends Free = false
rt1_ends Waiting = false
rt1_ends (Sending n) = false
rt1_ends (Awaiting n) = n ≤? 1

-- "A master that gives up on RT1's end leaves that window unused", and so does one that reports a broadcast there; the whole window stays unused
abbrev pub unless_ended : Stage → Timer → Timer
unless_ended Free t = record { next = t.next; window = 0; quiet = t.quiet }
unless_ended Waiting t = t
unless_ended (Sending n) t = t
unless_ended (Awaiting n) t = t

-- a silent tick: RT1, the quiet time and the window may end in it
abbrev pub counts : Master → MasterTold → Event → MasterTaken
counts m told event =
    when rt1_ends m.message.stage then
    tells (master_with m m.receiver (burst_counted m) m.noted (unless_ended (at_break m).message.stage (timer_counted m)) (at_break m).message)
    (at_break m).told event
    else
    tells (master_with m m.receiver (burst_counted m) m.noted (timer_counted m) (message_at m.message (waited m.message.stage))) told event

-- "both then count in the timers"
abbrev pub counts_twice : Master → MasterTold → Event → MasterTaken
counts_twice m told event = counts (counts m told event).master (counts m told event).told event

-- the same master with the reader after a silent tick
abbrev pub with_reader : Master → Receiver → Master
with_reader m r = master_with m r m.burst m.noted m.timer m.message

-- a silent tick that is passed over inside a frame counts nothing; the second in a row breaks the frame, and both count in the timer after it; outside a frame each is counted
abbrev pub on_silence : Master → Receiver → MasterTaken
on_silence m r =
    when inside_frame m.receiver.place then
    (when m.receiver.gap then counts_twice (after_break m r Broken).master (after_break m r Broken).told Broken
    else tells (with_reader m r) MasterTold.Nothing Nothing)
    else counts (with_reader m r) MasterTold.Nothing Nothing

abbrev pub on_heard : Master → Heard → List ℕ → MasterTaken
on_heard m Silence bytes = on_silence m (taken m.receiver Silence).receiver
on_heard m (Character c) bytes = on_character m (taken m.receiver (Character c)).receiver (taken m.receiver (Character c)).event bytes
on_heard m (Heard.Damaged c kind) bytes =
    on_character m (taken m.receiver (Heard.Damaged c kind)).receiver (taken m.receiver (Heard.Damaged c kind)).event bytes

-- "A sending party hears nothing", and neither does a fresh one in its first tick. `bytes` is the lent data buffer after this tick.
unfoldable pub master_takes : Master → Heard → List ℕ → MasterTaken
master_takes m heard bytes = when m.deaf then tells m MasterTold.Nothing Nothing else on_heard m heard bytes

-- ---- the host's request

abbrev pub request_header : Master → Request → Header
request_header m q = record { kind = stx; long = q.long; primary = m.primary; burst = false; address = q.address; command = q.command }

abbrev pub has_message : Stage → Bool
has_message Free = false
has_message Waiting = true
has_message (Sending n) = true
has_message (Awaiting n) = true

-- "5: command 254, or a short address with a command but 0"
abbrev pub command_refused : Request → Bool
command_refused q = when q.command =? reserved_command then true else when q.long then false else (when q.command =? 0 then false else true)

-- from the address on, where polling addresses go up to `polling`: "4: polling above" it "or unique above 38 bits; 5; 6: data above 255; 7: a message is in hand". `limit` is the link's data limit; 255 where none is given (document 02, item 12).
unfoldable pub requested_up_to : ℕ → ℕ → Master → Request → ℕ → Called Master
requested_up_to polling limit m q count =
    when address_above polling (request_header m q) then refused 4 else
    when command_refused q then refused 5 else
    when limit <? count then refused 6 else
    when has_message m.message.stage then refused 7 else
    accepted (master_with m m.receiver m.burst m.noted m.timer
    (record { stage = Waiting; header = request_header m q; length = frame_length q.preamble (request_header m q) count; attempts = 0 }))

-- item 2: "HART revisions 3 to 5 know polling addresses 0 to 15, later ones 0 to 63."
abbrev pub polling_up_to : ℕ → ℕ
polling_up_to revision = when revision ≤? 5 then 15 else largest_polling

-- "3: preamble outside 5 to 20"; item 2: "The request refuses a revision outside 3 to 7 with 17, checked after 3; an address too large for the revision is 4."
unfoldable pub requested : ℕ → Master → Request → ℕ → Called Master
requested limit m q count =
    when q.preamble outside fewest_preambles to most_preambles then refused 3 else
    when q.revision outside 3 to 7 then refused 17 else
    requested_up_to (polling_up_to q.revision) limit m q count

-- ---- send

-- what a master sends, and the master after it
abbrev pub sends : Master → Bool → Timer → Message → Receiver → Sent → MasterSent
sends m deaf t g r sent = record {
  master = record {
    primary = m.primary;
    profile = m.profile;
    retries = m.retries;
    receiver = r;
    deaf = deaf;
    burst = m.burst;
    noted = m.noted;
    timer = t;
    message = g;
  };
  sent = sent;
}

-- one character of the STX; after its last one the master waits RT1 for the ACK
abbrev pub attempted : Message → Stage → ℕ → Message
attempted g stage attempts = record { stage = stage; header = g.header; length = g.length; attempts = attempts }

abbrev pub sends_at : Master → List ℕ → ℕ → ℕ → MasterSent
sends_at m frame n attempts =
    when n + 1 <? m.message.length then
    sends m true (timer_after m.profile m.primary inside m.burst) (attempted m.message (Sending (n + 1)) attempts)
    passing (Sent.Character (byte_at frame n))
    else
    sends m true (timer_after m.profile m.primary any_stx m.burst) (attempted m.message (Awaiting (own_rt1 m.profile m.primary)) attempts)
    passing (Sent.Character (byte_at frame n))

-- one more attempt: a message that waits has a retry left, and its attempts are at most R
abbrev pub one_more : ℕ → ℕ → ℕ
one_more retries attempts = when attempts ≤? retries then attempts + 1 else attempts

-- "A waiting message, or a retry that is due, begins there."
abbrev pub sends_by : Master → List ℕ → Stage → MasterSent
sends_by m frame Free = sends m false m.timer m.message m.receiver Silent
sends_by m frame Waiting =
    when 0 <? m.timer.window then sends_at m frame 0 (one_more m.retries m.message.attempts)
    else sends m false m.timer m.message m.receiver Silent
sends_by m frame (Sending n) = sends_at m frame n m.message.attempts
sends_by m frame (Awaiting n) = sends m false m.timer m.message m.receiver Silent

unfoldable pub master_sends : Master → List ℕ → MasterSent
master_sends m frame = sends_by m frame m.message.stage

-- ---- start

-- "2: R outside 3 to 15". A fresh master counts RT1, its BURST is clear, and it has no message.
abbrev pub no_message : Message
no_message = record { stage = Free; header = no_header; length = 0; attempts = 0 }

abbrev pub fresh_master : Profile → Bool → ℕ → Master
fresh_master p primary retries = record {
  primary = primary;
  profile = p;
  retries = retries;
  receiver = passing;
  deaf = true;
  burst = false;
  noted = record { long = false; address = 0 };
  timer = timer_after p primary fresh false;
  message = no_message;
}

abbrev pub master_starts : Profile → Bool → ℕ → Called Master
master_starts p primary retries = when retries outside 3 to 15 then refused 2 else accepted (fresh_master p primary retries)
