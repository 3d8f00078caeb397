use Rattle.std.proofs.Common.{rules}
use Rattle.device_c.proofs.Ticks.{tick_is}
use Rattle.device_c.proofs.tick.Goals as goal

pub returns : goal.returns
returns c = search (rules, tick_is)
