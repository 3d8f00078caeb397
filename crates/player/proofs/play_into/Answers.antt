use Rattle.std.proofs.Common.{rules}
use Rattle.player.proofs.Whole.{sizes}
use Rattle.player.proofs.play_into.Goals as goal

pub returns-in-Ok : goal.returns-in-Ok
returns-in-Ok c = search (rules, sizes)

pub returns-in-Err : goal.returns-in-Err
returns-in-Err c = search (rules, sizes)
