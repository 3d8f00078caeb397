use Rattle.std.proofs.Common.{rules, arith}
use Rattle.frame_check.proofs.Words.{blocked_none, blocked_more}
use Rattle.frame_check.proofs.xor_blocks.Goals as goal

pub loop-i-init : goal.loop-i-init
loop-i-init c = blocked_none _ _ _ _ c.from-a.ensures (omega (arith, c.from-a.ensures))

pub loop-i-preserved : goal.loop-i-preserved
loop-i-preserved c = search (rules, blocked_more)
