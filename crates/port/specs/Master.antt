-- To be believed: what the engine must do, or what is claimed of it.
-- Document 02, item 13: the master of the infrared port. It is document 01's master (crates/turns/specs/Master.antt) except for what stands here: what a frame does, the request's preamble, and the wake-up.
use Rattle.std.specs.Prelude.{ℕ, ◌+◌, ◌-◌, ◌%◌, Bool, true, false, List, Option, Some, None}
use Rattle.base.specs.Choice.{when◌then◌else◌, ◌<?◌, ◌≤?◌, ◌=?◌}
use Rattle.base.specs.Refusal.{Called, accepted, refused}
use Rattle.frame.specs.Delimiter.{ack, back}
use Rattle.line.specs.Profile.{infrared_profile}
use Rattle.line.specs.Reader.{no_damage}
use Rattle.line.specs.declared.Event.{Event}
use Rattle.line.specs.declared.Event.TheVariants.{Nothing, PassedOver, Broken, Frame, Damaged}
use Rattle.line.specs.declared.Heard.{Heard}
use Rattle.line.specs.declared.Receiver.{Receiver}
use Rattle.line.specs.declared.Whole.{Whole}
use Rattle.turns.specs.Master.{tells, after_break, master_with, ended_by, timer_after, if_awaiting, at_frame, master_takes, requested, sends, master_sends, master_starts}
use Rattle.turns.specs.declared.Master.{Master}
use Rattle.turns.specs.declared.MasterTaken.{MasterTaken}
use Rattle.turns.specs.declared.Request.{Request}
use Rattle.turns.specs.declared.Sent.{Sent}
use Rattle.turns.specs.declared.Sent.TheVariants.{Silent}
use Rattle.turns.specs.declared.Stage.{Stage}
use Rattle.turns.specs.declared.Stage.TheVariants.{Free, Waiting, Sending, Awaiting}
use Rattle.port.specs.Numbers.{port_preamble, doze_ticks, wake_up_length}
use Rattle.port.specs.declared.PortMaster.{PortMaster}
use Rattle.port.specs.declared.PortMasterTaken.{PortMasterTaken}
use Rattle.port.specs.declared.PortMasterSent.{PortMasterSent}

-- ---- take: what was heard

-- After a whole frame without damage. "[No] BURST ever set, and a BACK counts as a damaged frame"; else document 01's timer and message.
unfoldable pub after_port_frame : Master → Receiver → Whole → List ℕ → MasterTaken
after_port_frame m r w bytes =
    when w.header.kind =? back then after_break m r (Damaged w no_damage) else
    tells (master_with m r m.burst m.noted
    (timer_after m.profile m.primary (ended_by m w.header) m.burst)
    (if_awaiting m.message.stage m.message (at_frame m w bytes)).message)
    (if_awaiting m.message.stage m.message (at_frame m w bytes)).told
    (Frame w)

-- by what document 01's master m finds in this tick: everything but a frame is as it is there
abbrev pub by_found : Master → List ℕ → MasterTaken → Event → MasterTaken
by_found m bytes t Nothing = t
by_found m bytes t PassedOver = t
by_found m bytes t Broken = t
by_found m bytes t (Frame w) = after_port_frame m t.master.receiver w bytes
by_found m bytes t (Damaged w d) = t

-- an answer's last character: a whole ACK without damage
abbrev pub ends_answer : Event → Bool
ends_answer Nothing = false
ends_answer PassedOver = false
ends_answer Broken = false
ends_answer (Frame w) = w.header.kind =? ack
ends_answer (Damaged w d) = false

-- ticks since an answer's last character, which is taken in the tick after it; they are counted as long as the count matters
abbrev pub since_after : ℕ → Event → ℕ
since_after n e = when ends_answer e then 1 else (when n ≤? doze_ticks then n + 1 else n)

abbrev pub master_took : PortMaster → MasterTaken → PortMasterTaken
master_took x t =
    record { master = record { master = t.master; since = since_after x.since t.event; wake = x.wake }; told = t.told; event = t.event }

unfoldable pub port_master_takes : PortMaster → Heard → List ℕ → PortMasterTaken
port_master_takes x heard bytes = master_took x (by_found x.master bytes (master_takes x.master heard bytes) (master_takes x.master heard bytes).event)

-- ---- the host's request: "another preamble with 3"

unfoldable pub port_requested : ℕ → Master → Request → ℕ → Called Master
port_requested limit m q count = when q.preamble =? port_preamble then requested limit m q count else refused 3

-- ---- send

-- in this tick document 01's master begins an STX
abbrev pub begins : Master → Stage → Bool
begins m Free = false
begins m Waiting = 0 <? m.timer.window
begins m (Sending n) = false
begins m (Awaiting n) = false

-- "A master with no answer's last character in the 20,946 ticks before sends before each STX" its wake-up
abbrev pub wakes_first : PortMaster → Bool
wakes_first x = when begins x.master x.master.message.stage then doze_ticks <? x.since else false

-- "0x00, 0xFF in turn": with n characters still to be sent, this one among them
abbrev pub wake_up_character : ℕ → ℕ
wake_up_character n = when n % 2 =? 0 then 0x00 else 0xFF

-- the same master, which has sent a character and hears nothing in the next tick
abbrev pub deafened : Master → Master
deafened m = (sends m true m.timer m.message m.receiver Silent).master

-- a character of the wake-up; meanwhile the message waits in its open window
abbrev pub sends_wake_up : PortMaster → ℕ → PortMasterSent
sends_wake_up x n =
    record { master = record { master = deafened x.master; since = x.since; wake = Some (n - 1) }; sent = Sent.Character (wake_up_character n) }

-- what document 01's master sends
abbrev pub sends_plain : PortMaster → List ℕ → PortMasterSent
sends_plain x frame = record {
  master = record { master = (master_sends x.master frame).master; since = x.since; wake = None };
  sent = (master_sends x.master frame).sent;
}

-- "the message directly behind"
abbrev pub sends_by : PortMaster → List ℕ → Option ℕ → PortMasterSent
sends_by x frame None = when wakes_first x then sends_wake_up x wake_up_length else sends_plain x frame
sends_by x frame (Some n) = when n =? 0 then sends_plain x frame else sends_wake_up x n

unfoldable pub port_master_sends : PortMaster → List ℕ → PortMasterSent
port_master_sends x frame = sends_by x frame x.wake

-- ---- start: no answer was heard, and no wake-up is being sent

abbrev pub master_started : Called Master → Called PortMaster
master_started (accepted m) = accepted (record { master = m; since = doze_ticks + 1; wake = None })
master_started (refused why) = refused why

abbrev pub port_master_starts : Bool → ℕ → Called PortMaster
port_master_starts primary retries = master_started (master_starts infrared_profile primary retries)
