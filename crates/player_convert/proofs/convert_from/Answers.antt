use Rattle.std.proofs.Common.{rules}
use Rattle.player_convert.proofs.Converts.{converts}
use Rattle.player_convert.proofs.convert_from.Goals as goal

pub returns-then-is_good : goal.returns-then-is_good
returns-then-is_good c = search (rules, converts)

pub returns-else-is_good : goal.returns-else-is_good
returns-else-is_good c = search (rules, converts)
