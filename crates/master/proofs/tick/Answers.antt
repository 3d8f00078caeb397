use Rattle.std.proofs.Common.{rules}
use Rattle.master.proofs.Ticks.{tick_is}
use Rattle.master.proofs.tick.Goals as goal

pub returns : goal.returns
returns c = search (rules, tick_is)
