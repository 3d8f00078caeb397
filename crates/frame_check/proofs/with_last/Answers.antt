use Rattle.std.proofs.Common.{rules}
use Rattle.frame_check.proofs.Words.{last_added}
use Rattle.frame_check.proofs.with_last.Goals as goal

pub returns : goal.returns
returns c = search (rules, last_added)
