use Rattle.link_rests.proofs.Timers.{left_less, left_none}
use Rattle.link_rests.proofs.timer_rested.Goals as goal

pub loop-left-preserved : goal.loop-left-preserved
loop-left-preserved c = left_less c.args.p c.args.start c.args.ticks c.loop-left.t c.timer_rests.result.0 c.loop-left.left c.timer_rests.result.1 c.loop-left.invariant c.timer_rests.ensures.0 c.timer_rests.ensures.1

pub returns : goal.returns
returns c = left_none c.args.p c.args.start c.args.ticks c.loop-left.t c.loop-left.left c.loop-left.invariant c.loop-left-test.false
