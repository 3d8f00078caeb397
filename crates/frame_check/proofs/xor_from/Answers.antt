use Rattle.std.proofs.Common.{rules}
use Rattle.frame_check.proofs.Words.{few_words, with_last}
use Rattle.frame_check.proofs.xor_from.Goals as goal

pub returns-then-bytes-lt64 : goal.returns-then-bytes-lt64
returns-then-bytes-lt64 c = search (rules, few_words, with_last)

pub returns-else-bytes-lt64 : goal.returns-else-bytes-lt64
returns-else-bytes-lt64 c = search (rules, few_words, with_last)
