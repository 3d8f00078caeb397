use Rattle.std.proofs.Common.{rules}
use Rattle.frame_check.proofs.Words.{one_word}
use Rattle.frame_check.proofs.xor_short.Goals as goal

pub returns-else-bytes-lt8 : goal.returns-else-bytes-lt8
returns-else-bytes-lt8 c = search (rules, one_word)
