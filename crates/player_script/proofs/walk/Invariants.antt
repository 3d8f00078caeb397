use Rattle.std.proofs.Common.{◌-◌, length}
use Rattle.player_script.proofs.Walks.{Passing}
use Rattle.player_script.proofs.walk.Given as goal

abbrev pub invariant-loop-at : goal.invariant-loop-at
invariant-loop-at l = Passing l.form l.piece l.since l.fn.marks l.marks l.last l.at

abbrev pub decreases-loop-at : goal.decreases-loop-at
decreases-loop-at l = length l.piece - l.at
