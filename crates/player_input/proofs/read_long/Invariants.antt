use Rattle.player_input.proofs.Rooms.{Reading, places_left}
use Rattle.player_input.proofs.read_long.Given as goal

abbrev pub invariant-loop-last : goal.invariant-loop-last
invariant-loop-last g l = Reading l.room l.marks

abbrev pub decreases-loop-last : goal.decreases-loop-last
decreases-loop-last g l = places_left l.last l.marks
