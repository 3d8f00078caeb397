use Rattle.std.proofs.Common.{rules}
use Rattle.frame_check.proofs.Words.{worded_none, worded_more}
use Rattle.frame_check.proofs.xor_words.Goals as goal

pub loop-i-init : goal.loop-i-init
loop-i-init c = search (rules, worded_none)

pub loop-i-preserved : goal.loop-i-preserved
loop-i-preserved c = search (rules, worded_more)
