use Rattle.std.proofs.Common.{rules}
use Rattle.link_rests.proofs.Parts.{resting}
use Rattle.link_rests.proofs.slots_rested.Goals as goal

pub loop-s-init : goal.loop-s-init
loop-s-init c = search (rules, resting)

pub loop-s-preserved : goal.loop-s-preserved
loop-s-preserved c = search (rules, resting)

pub returns : goal.returns
returns c = search (rules, resting)
