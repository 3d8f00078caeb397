use Rattle.std.proofs.Common.{rules}
use Rattle.player_convert.proofs.Converts.{converts}
use Rattle.player_convert.proofs.turn_back.Goals as goal

pub returns-then-stop_tick-gt65535 : goal.returns-then-stop_tick-gt65535
returns-then-stop_tick-gt65535 c = search (rules, converts)

pub returns : goal.returns
returns c = search (rules, converts)
