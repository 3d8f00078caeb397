use Rattle.std.proofs.Common.{rules, arith, refl}
use Rattle.link_start.proofs.Starts.{begun_none, begun_more, begun_refused}
use Rattle.link_start.proofs.devices_start.Goals as goal

pub loop-i-init : goal.loop-i-init
loop-i-init c = begun_none _ _ _ (search rules) refl

pub loop-i-preserved-in-Ok : goal.loop-i-preserved-in-Ok
loop-i-preserved-in-Ok c = begun_more _ _ _ _ _ _ c.loop-i.invariant (omega arith) _ c.in-Ok.ensures

pub loop-i-preserved : goal.loop-i-preserved
loop-i-preserved c = begun_refused _ _ _ _ _ _ c.loop-i.invariant (omega arith) _ _ c.in-Err.ensures c.lowest_with-answer.ensures
