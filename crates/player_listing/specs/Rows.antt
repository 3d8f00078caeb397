-- Inner contracts: nothing that is to be believed rests on them.
-- Several ticks at once. What the parties sent stands in rows of numbers, a row for each tick and a number for each party.
use Rattle.std.specs.Prelude.{ℕ, ◌-◌, ◌%◌, Bool, List, map, ◌≡◌, length, take}
use Rattle.base.specs.Choice.{when◌then◌else◌, ◌<?◌, ◌=?◌}
use Rattle.base.specs.Lent.{Lent, before, after}
use Rattle.turns.specs.declared.Sent.{Sent}
use Rattle.turns.specs.declared.Sent.TheVariants.{Silent, Character}
use Rattle.player_listing.specs.Lines.{quiet_monitor, is_lone, TickLines, lines_from, monitors_from}
use Rattle.player_listing.specs.Promises.{TickLinesAre}
use Rattle.player_listing.specs.declared.Monitor.{Monitor}
use Rattle.player_listing.specs.declared.Listened.{Listened}

-- what a party sent: below 256 nothing, else the character that the number's lowest eight bits are. It is the character with 256 added, or 0 for none, that a link gives.
abbrev pub sent_for : ℕ → Sent
sent_for n = when n <? 256 then Silent else Character (n % 256)

-- a tick, and ticks one after the other
unfoldable pub row_sent : List ℕ → List Sent
row_sent row = map sent_for row

unfoldable pub rows_sent : List (List ℕ) → List (List Sent)
rows_sent rows = map row_sent rows

abbrev pub lesser : ℕ → ℕ → ℕ
lesser m n = when m <? n then m else n

-- How many of 64 rows are listed, from this tick on: as many as are asked for, of the 4,294,967,295 ticks that a play has at most.
abbrev pub rows_listed : ℕ → ℕ → ℕ
rows_listed tick count = lesser (lesser count 64) (4294967295 - tick)

-- A monitor that has counted no character has heard nothing of a frame, whatever its reader holds.
unfoldable pub heard_so_far : Monitor → Monitor
heard_so_far m = when m.count =? 0 then quiet_monitor else m

unfoldable pub all_heard : List Monitor → List Monitor
all_heard ms = map heard_so_far ms

-- the monitors after some ticks, and the lines of the frames that ended in them
abbrev pub ticks_lines : ℕ → List Monitor → List (List Sent) → TickLines
ticks_lines tick ms ticks = record { monitors = monitors_from tick ms ticks; lines = lines_from tick ms ticks }

abbrev pub rows_lines : ℕ → List Monitor → List (List ℕ) → TickLines
rows_lines tick ms rows = ticks_lines tick ms (rows_sent rows)

-- what is promised of a row's numbers, and of several rows
pub record RowIs (row : List ℕ) (lone : Bool) : Type 0 where
  pub alone : lone ≡ is_lone (row_sent row)
  pub eight : length row ≡ 8

abbrev pub RowsAre : List Monitor → ℕ → ℕ → List (List ℕ) → Lent (List ℕ) → ℕ → Listened → Type 0
RowsAre ms tick count sent out at h =
    TickLinesAre (rows_lines tick (all_heard ms) (take (rows_listed tick count) sent)) (before out) at (all_heard h.monitors) h.at (after out)
