use Rattle.std.proofs.Common.{rules}
use Rattle.frame_check.proofs.Words.{blocks_alone, all_words}
use Rattle.frame_check.proofs.xor_long.Goals as goal

pub returns-else-n-lt8 : goal.returns-else-n-lt8
returns-else-n-lt8 c = search (rules, blocks_alone, all_words)
