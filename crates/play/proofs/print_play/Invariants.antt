use Rattle.std.proofs.Common.{◌-◌}
use Rattle.play.proofs.print_play.Given as goal

abbrev pub decreases-loop-p : goal.decreases-loop-p
decreases-loop-p g l = l.told.stop - l.p.tick
