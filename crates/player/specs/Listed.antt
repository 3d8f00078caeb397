-- To be believed: what the engine must do, or what is claimed of it.
-- Document 01, "The player": "one line per frame that its sender sent to the end before the stop, alone in each tick", of every party of a run from a start, and of every play.
use Rattle.std.specs.Prelude.{ℕ, ◌+◌, ◌<◌, ◌≡◌, Bool, List, [], length, get_or, replicate}
use Rattle.base.specs.Refusal.{accepted}
use Rattle.frame.specs.Limits.{most_data}
use Rattle.line.specs.Profile.{profile_made}
use Rattle.line.specs.declared.Profile.{Profile}
use Rattle.turns.specs.Link.{Link, Calls, run}
use Rattle.turns.specs.Run.{Starts}
use Rattle.turns.specs.declared.Sent.{Sent}
use Rattle.player_script.specs.Script.{stop_of, calls_from}
use Rattle.player_script.specs.declared.Entry.{Entry}
use Rattle.player_listing.specs.Lines.{quiet_monitor, is_lone, lines_from}
use Rattle.player_listing.specs.FrameLines.{Frames, lines_by, sent_by}
use Rattle.player_listing.specs.Sents.{sent_in}
use Rattle.player.specs.Play.{ready_link}

-- whether at most one party sends in a tick
abbrev pub lone_in : List (List Sent) → ℕ → Bool
lone_in ticks tick = is_lone (get_or ticks tick [])

-- of n parties, one's lines are those of the frames that it sent to the end alone
abbrev pub ListsFrames : ℕ → ℕ → List (List Sent) → Type 0
ListsFrames n party ticks = Frames (lone_in ticks) party 0 (sent_by party ticks) (lines_by party (lines_from 0 (replicate n quiet_monitor) ticks))

abbrev pub RunListed : ℕ → Type 0
RunListed limit =
    (p : Profile) (retries party : ℕ) (l : Link) (calls : List Calls) → profile_made p ≡ accepted p → Starts p retries l → party < 2 + length l.devices
    → ListsFrames (2 + length l.devices) party (sent_in (run limit l calls))

abbrev pub PlayListed : Type 0
PlayListed = (party : ℕ) (es : List Entry) → party < 8 → ListsFrames 8 party (sent_in (run most_data ready_link (calls_from 0 (stop_of es) es)))
