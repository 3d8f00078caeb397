-- To be believed: what the engine must do, or what is claimed of it.
-- Document 01, "The player": "one line per frame that its sender sent to the end before the stop, alone in each tick". What every party sent in a tick is a list: primary, secondary, then the devices.
use Rattle.std.specs.Prelude.{ℕ, ◌+◌, Bool, true, false, List, [], ◌∷◌, ◌++◌}
use Rattle.base.specs.Choice.{when◌then◌else◌, ◌<?◌, ◌≤?◌}
use Rattle.frame.specs.declared.Header.{Header}
use Rattle.line.specs.Reader.{idle, taken}
use Rattle.line.specs.declared.Event.{Event}
use Rattle.line.specs.declared.Event.TheVariants.{Nothing, PassedOver, Broken, Frame, Damaged}
use Rattle.line.specs.declared.Heard.TheVariants.{Character}
use Rattle.line.specs.declared.Receiver.{Receiver}
use Rattle.line.specs.declared.Taken.{Taken}
use Rattle.turns.specs.Run.{count}
use Rattle.turns.specs.declared.Sent.{Sent}
use Rattle.turns.specs.declared.Sent.TheVariants.{Silent}
use Rattle.player_listing.specs.declared.Monitor.{Monitor}

-- "tick of its last character, party, type, master (0 primary), length in characters"
pub record Line : Type 0 where
  pub tick : ℕ
  pub party : ℕ
  pub header : Header
  pub length : ℕ

abbrev pub line_of : ℕ → ℕ → Header → ℕ → Line
line_of tick party header length = record { tick = tick; party = party; header = header; length = length }

-- ---- one party

-- a monitor listens to one party's characters with a tick reader. This one has heard nothing of a frame.
abbrev pub quiet_monitor : Monitor
quiet_monitor = record { receiver = idle; count = 0; alone = true }

-- a monitor after a tick, and the line of the frame that ended in it
pub record PartyLines : Type 0 where
  pub monitor : Monitor
  pub lines : List Line

-- the frame is not at its end, or there is none
abbrev pub goes_on : Receiver → ℕ → Bool → PartyLines
goes_on r count alone = record { monitor = record { receiver = r; count = count; alone = alone }; lines = [] }

-- a frame that was sent to the end, "alone in each tick" or not
unfoldable pub frame_ends : Line → Bool → PartyLines
frame_ends l alone = record { monitor = quiet_monitor; lines = when alone then l ∷ [] else [] }

-- after a character, by what the reader tells of it
abbrev pub ends_by : ℕ → ℕ → ℕ → Bool → Receiver → Event → PartyLines
ends_by tick party count alone r Nothing = goes_on r count alone
ends_by tick party count alone r PassedOver = goes_on r count alone
ends_by tick party count alone r Broken = goes_on r count alone
ends_by tick party count alone r (Frame w) = frame_ends (line_of tick party w.header count) alone
ends_by tick party count alone r (Damaged w m) = goes_on r count alone

unfoldable pub ends_with : ℕ → ℕ → ℕ → Bool → Taken → PartyLines
ends_with tick party count alone t = ends_by tick party count alone t.receiver t.event

-- one more character. The count stops at 65,535; the longest frame has 284 characters.
abbrev pub one_more : ℕ → ℕ
one_more n = when n <? 65535 then n + 1 else 65535

-- a tick of one party. The characters of a frame are sent in successive ticks, so after a silent tick the monitor starts again.
unfoldable pub listens : ℕ → ℕ → Bool → Monitor → Sent → PartyLines
listens tick party lone e Silent = record { monitor = quiet_monitor; lines = [] }
listens tick party lone e (Sent.Character c) =
    ends_with tick party (one_more e.count) (when e.alone then lone else false) (taken e.receiver (Character c))

-- ---- every party

-- the monitors after a tick, and the lines of the frames that ended in it
pub record TickLines : Type 0 where
  pub monitors : List Monitor
  pub lines : List Line

-- a party, and those after it
abbrev pub besides : PartyLines → TickLines → TickLines
besides h r = record { monitors = h.monitor ∷ r.monitors; lines = h.lines ++ r.lines }

-- the parties from this number on, a monitor for each
unfoldable pub lines_of : ℕ → ℕ → Bool → List Monitor → List Sent → TickLines
lines_of tick party lone [] ss = record { monitors = []; lines = [] }
lines_of tick party lone (e ∷ es) [] = record { monitors = []; lines = [] }
lines_of tick party lone (e ∷ es) (s ∷ ss) = besides (listens tick party lone e s) (lines_of tick (party + 1) lone es ss)

-- how many of them send
unfoldable pub senders : List Sent → ℕ
senders [] = 0
senders (s ∷ ss) = count s + senders ss

-- nobody sends, or one alone
abbrev pub is_lone : List Sent → Bool
is_lone ss = senders ss ≤? 1

-- a tick of all parties
unfoldable pub tick_lines : ℕ → List Monitor → List Sent → TickLines
tick_lines tick es ss = lines_of tick 0 (is_lone ss) es ss

-- the lines of a list of ticks, from this one on
unfoldable pub lines_from : ℕ → List Monitor → List (List Sent) → List Line
lines_from tick es [] = []
lines_from tick es (ss ∷ ticks) = (tick_lines tick es ss).lines ++ lines_from (tick + 1) (tick_lines tick es ss).monitors ticks

-- and the monitors after them
unfoldable pub monitors_from : ℕ → List Monitor → List (List Sent) → List Monitor
monitors_from tick es [] = es
monitors_from tick es (ss ∷ ticks) = monitors_from (tick + 1) (tick_lines tick es ss).monitors ticks
