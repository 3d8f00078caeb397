use Rattle.std.proofs.Common.{◌-◌, length}
use Rattle.player_convert.proofs.Widening.{Widening}
use Rattle.player_convert.proofs.widen.Given as goal

abbrev pub invariant-loop-at : goal.invariant-loop-at
invariant-loop-at l = Widening l.script l.fn.out l.out l.at l.to

abbrev pub decreases-loop-at : goal.decreases-loop-at
decreases-loop-at l = length l.script - l.at
