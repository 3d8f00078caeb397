use Rattle.std.proofs.Common.{rules}
use Rattle.texts.proofs.Puts.{putting}
use Rattle.texts.proofs.put_byte.Goals as goal

pub returns-then-at-out : goal.returns-then-at-out
returns-then-at-out c = search (rules, putting)

pub returns-else-at-out : goal.returns-else-at-out
returns-else-at-out c = search (rules, putting)
