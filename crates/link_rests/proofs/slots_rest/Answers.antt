use Rattle.std.proofs.Common.{rules, arith}
use Rattle.link_rests.proofs.Parts.{asking, asked_stop}
use Rattle.link_rests.proofs.slots_rest.Goals as goal

pub loop-s-init : goal.loop-s-init
loop-s-init c = search (rules, asking)

pub loop-s-preserved : goal.loop-s-preserved
loop-s-preserved c = search (rules, asking)

pub returns : goal.returns
returns c = search (rules, asking)

pub returns-then-not-slot_rests : goal.returns-then-not-slot_rests
returns-then-not-slot_rests c = asked_stop _ _ _ _ c.loop-s.invariant (omega (arith, c.loop-s.invariant.six)) c.slot_rests.ensures c.if-not-slot_rests.true
