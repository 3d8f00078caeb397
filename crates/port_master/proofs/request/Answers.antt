use Rattle.std.proofs.Common.{rules}
use Rattle.port_master.proofs.Laws.{calls}
use Rattle.port_master.proofs.request.Goals as goal

pub returns-then-q-eq-PREAMBLE : goal.returns-then-q-eq-PREAMBLE
returns-then-q-eq-PREAMBLE c = search (rules, calls)

pub returns-else-q-eq-PREAMBLE : goal.returns-else-q-eq-PREAMBLE
returns-else-q-eq-PREAMBLE c = search (rules, calls)
