use Rattle.std.proofs.Common.{rules}
use Rattle.device_tick.proofs.Ticks.{ticks}
use Rattle.device_tick.proofs.tick.Goals as goal

pub returns : goal.returns
returns c = search (rules, ticks)
