use Rattle.std.proofs.Common.{rules}
use Rattle.player_convert.proofs.Converts.{rooms}
use Rattle.player_convert.proofs.into_new.Goals as goal

pub returns-then-out-script : goal.returns-then-out-script
returns-then-out-script c = search (rules, rooms)

pub returns : goal.returns
returns c = search (rules, rooms)
