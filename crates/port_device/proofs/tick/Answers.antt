use Rattle.std.proofs.Common.{rules}
use Rattle.port_device.proofs.Laws.{wholes}
use Rattle.port_device.proofs.tick.Goals as goal

pub returns : goal.returns
returns c = search (rules, wholes)
