use Rattle.link_list.proofs.Readings.{reading_more, reading_all}
use Rattle.link_list.proofs.devices_read.Goals as goal

pub loop-call-preserved : goal.loop-call-preserved
loop-call-preserved c = reading_more _ _ _ _ _ _ _ c.loop-call.invariant _ _ c.loop-call-test.true c.device_call.ensures c.next_in-at.ensures.0 c.next_in-at.ensures.1

pub returns : goal.returns
returns c = reading_all _ _ _ _ _ _ _ c.loop-call.invariant c.loop-call-test.false
