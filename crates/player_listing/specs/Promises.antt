-- Inner contracts: nothing that is to be believed rests on them.
-- What is promised of a tick: the monitors after it, and the text of its lines in the lent output buffer.
use Rattle.std.specs.Prelude.{ℕ, ◌≤◌, List, ◌≡◌}
use Rattle.texts.specs.Put.{PutIs}
use Rattle.turns.specs.Run.{count}
use Rattle.turns.specs.declared.Sent.{Sent}
use Rattle.player_listing.specs.Lines.{PartyLines, TickLines}
use Rattle.player_listing.specs.Text.{lines_text}
use Rattle.player_listing.specs.declared.Monitor.{Monitor}

-- whether a party sends, as a number
pub record SendsIs (s : Sent) (r : ℕ) : Type 0 where
  pub number : r ≡ count s
  pub most : r ≤ 1

-- one party: its monitor, and the place after its line
pub record PartyIs (x : PartyLines) (before : List ℕ) (at : ℕ) (e : Monitor) (r : ℕ) (after : List ℕ) : Type 0 where
  pub monitor_is : e ≡ x.monitor
  pub text : PutIs (lines_text x.lines) before at r after

-- several parties: their monitors, and the place after their lines
pub record TickLinesAre (x : TickLines) (before : List ℕ) (at : ℕ) (es : List Monitor) (r : ℕ) (after : List ℕ) : Type 0 where
  pub monitors_are : es ≡ x.monitors
  pub text : PutIs (lines_text x.lines) before at r after
