use Rattle.std.proofs.Common.{rules}
use Rattle.modem_party.proofs.Ticks.{ticks}
use Rattle.modem_party.proofs.master_tick.Goals as goal

pub returns : goal.returns
returns c = search (rules, ticks)
