use Rattle.std.proofs.Common.{rules}
use Rattle.link_run.proofs.Steps.{counting}
use Rattle.link_run.proofs.tick_number.Goals as goal

pub returns : goal.returns
returns c = search (rules, counting)
