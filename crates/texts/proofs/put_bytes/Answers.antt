use Rattle.std.proofs.Common.{rules}
use Rattle.texts.proofs.Puts.{putting}
use Rattle.texts.proofs.put_bytes.Goals as goal

pub loop-b-init : goal.loop-b-init
loop-b-init c = search (rules, putting)

pub loop-b-preserved : goal.loop-b-preserved
loop-b-preserved c = search (rules, putting)
