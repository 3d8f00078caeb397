use Rattle.link_rests.proofs.Timers.{Left}
use Rattle.link_rests.proofs.timer_rested.Given as goal

abbrev pub invariant-loop-left : goal.invariant-loop-left
invariant-loop-left l = Left l.p l.fn.start l.ticks l.t l.left

abbrev pub decreases-loop-left : goal.decreases-loop-left
decreases-loop-left l = l.left
