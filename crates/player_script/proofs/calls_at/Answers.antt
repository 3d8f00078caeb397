use Rattle.std.proofs.Common.{rules}
use Rattle.player_script.proofs.Calls.{walks}
use Rattle.player_script.proofs.calls_at.Goals as goal

pub loop-t-init : goal.loop-t-init
loop-t-init c = search (rules, walks)

pub loop-t-preserved : goal.loop-t-preserved
loop-t-preserved c = search (rules, walks)
