use Rattle.std.proofs.Common.{rules}
use Rattle.port_master.proofs.Laws.{wholes}
use Rattle.port_master.proofs.tick.Goals as goal

pub returns : goal.returns
returns c = search (rules, wholes)
