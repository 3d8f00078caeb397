use Rattle.std.proofs.Common.{rules}
use Rattle.frame_check.proofs.Words.{four_words}
use Rattle.frame_check.proofs.every_other.Goals as goal

pub returns : goal.returns
returns c = search (rules, four_words)
