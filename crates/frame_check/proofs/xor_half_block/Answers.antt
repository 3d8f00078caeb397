use Rattle.std.proofs.Common.{rules}
use Rattle.frame_check.proofs.Words.{no_half, half_more}
use Rattle.frame_check.proofs.xor_half_block.Goals as goal

pub returns-then-n-lt64 : goal.returns-then-n-lt64
returns-then-n-lt64 c = search (rules, no_half, half_more)

pub returns-else-n-lt64 : goal.returns-else-n-lt64
returns-else-n-lt64 c = search (rules, no_half, half_more)
