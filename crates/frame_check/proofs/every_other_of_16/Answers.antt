use Rattle.std.proofs.Common.{rules}
use Rattle.frame_check.proofs.Words.{eight_of_16}
use Rattle.frame_check.proofs.every_other_of_16.Goals as goal

pub returns : goal.returns
returns c = search (rules, eight_of_16)
