use Rattle.player_input.proofs.Rooms.{Keeping}
use Rattle.player_input.proofs.keep_end.Given as goal

abbrev pub invariant-loop-i : goal.invariant-loop-i
invariant-loop-i l = Keeping l.fn.room l.room l.i
