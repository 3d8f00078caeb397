use Rattle.std.proofs.Common.{rules}
use Rattle.link_run.proofs.Steps.{counting}
use Rattle.link_run.proofs.senders_of.Goals as goal

pub loop-code-init : goal.loop-code-init
loop-code-init c = search (rules, counting)

pub loop-code-preserved : goal.loop-code-preserved
loop-code-preserved c = search (rules, counting)

pub returns : goal.returns
returns c = search (rules, counting)
