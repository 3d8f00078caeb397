-- Inner contracts: nothing that is to be believed rests on them.
-- Which ticks of a party have a line: those in which it hears what the script changed, finds a frame or a broken one, tells its host something or refuses its call. The text of a line is only printed, and nothing is promised of it.
use Rattle.std.specs.Prelude.{ℕ, Bool, true, false}
use Rattle.base.specs.Choice.{when◌then◌else◌, ◌<?◌}
use Rattle.line.specs.declared.Event.{Event}
use Rattle.line.specs.declared.Event.TheVariants.{Nothing, PassedOver, Broken, Frame, Damaged}
use Rattle.turns.specs.declared.MasterTold.{MasterTold}

-- a character that is passed over has no line
abbrev pub event_shows : Event → Bool
event_shows Nothing = false
event_shows PassedOver = false
event_shows Broken = true
event_shows (Frame w) = true
event_shows (Damaged w m) = true

abbrev pub tells_host : MasterTold → Bool
tells_host MasterTold.Nothing = false
tells_host (MasterTold.Answered w) = true
tells_host (MasterTold.GivenUp n) = true
tells_host MasterTold.BroadcastSent = true

-- a device tells its host only of a frame that it found, so for a device this covers all
abbrev pub has_line : Bool → Event → ℕ → Bool
has_line changed event refused = when changed then true else (when event_shows event then true else 0 <? refused)
