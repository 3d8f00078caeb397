use Rattle.std.proofs.Common.{rules}
use Rattle.recording.proofs.Forms.{forms}
use Rattle.recording.proofs.is_bad.Goals as goal

pub loop-t-init : goal.loop-t-init
loop-t-init c = search (rules, forms)

pub loop-t-preserved : goal.loop-t-preserved
loop-t-preserved c = search (rules, forms)
