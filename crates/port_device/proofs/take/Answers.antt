use Rattle.std.proofs.Common.{rules}
use Rattle.port_device.proofs.Laws.{takes}
use Rattle.port_device.proofs.take.Goals as goal

pub returns-then-y : goal.returns-then-y
returns-then-y c = search (rules, takes)

pub returns-in-Awake : goal.returns-in-Awake
returns-in-Awake c = search (rules, takes)

pub returns-in-PassesOver : goal.returns-in-PassesOver
returns-in-PassesOver c = search (rules, takes)

pub returns-in-Dozes : goal.returns-in-Dozes
returns-in-Dozes c = search (rules, takes)
