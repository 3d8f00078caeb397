use Rattle.std.proofs.Common.{rules}
use Rattle.texts.proofs.Puts.{spacing}
use Rattle.texts.proofs.put_all_spaced.Goals as goal

pub loop-byte-init : goal.loop-byte-init
loop-byte-init c = search (rules, spacing)

pub loop-byte-preserved : goal.loop-byte-preserved
loop-byte-preserved c = search (rules, spacing)
