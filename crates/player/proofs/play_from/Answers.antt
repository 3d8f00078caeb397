use Rattle.std.proofs.Common.{rules}
use Rattle.player.proofs.Going.{goings}
use Rattle.player.proofs.play_from.Goals as goal

pub loop-p-preserved : goal.loop-p-preserved
loop-p-preserved c = search (rules, goings)

pub returns : goal.returns
returns c = search (rules, goings)
