use Rattle.std.proofs.Common.{rules}
use Rattle.port_c.proofs.Ticks.{devices}
use Rattle.port_c.proofs.tick_device.Goals as goal

pub returns : goal.returns
returns c = search (rules, devices)
