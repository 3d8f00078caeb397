use Rattle.std.proofs.Common.{rules}
use Rattle.player.proofs.Pieces.{pieces}
use Rattle.player.proofs.play_on.Goals as goal

pub loop-p-init : goal.loop-p-init
loop-p-init c = search (rules, pieces)

pub loop-p-preserved : goal.loop-p-preserved
loop-p-preserved c = search (rules, pieces)
