use Rattle.std.proofs.Common.{rules}
use Rattle.port_device.proofs.Laws.{calls}
use Rattle.port_device.proofs.answer.Goals as goal

pub returns-then-too_late : goal.returns-then-too_late
returns-then-too_late c = search (rules, calls)

pub returns-else-too_late : goal.returns-else-too_late
returns-else-too_late c = search (rules, calls)
