use Rattle.std.proofs.Common.{rules}
use Rattle.port_c.proofs.Ticks.{masters}
use Rattle.port_c.proofs.tick_master.Goals as goal

pub returns : goal.returns
returns c = search (rules, masters)
