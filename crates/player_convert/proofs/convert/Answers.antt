use Rattle.std.proofs.Common.{rules}
use Rattle.player_convert.specs.Turn.{conversion}
use Rattle.player_convert.proofs.Converts.{converts}
use Rattle.player_convert.proofs.convert.Goals as goal

pub returns-in_err-form : goal.returns-in_err-form
unfolding conversion
returns-in_err-form c = search (rules, converts)

pub returns : goal.returns
unfolding conversion
returns c = search (rules, converts)
