use Rattle.frame_check.proofs.Words.{Blocked}
use Rattle.frame_check.proofs.xor_blocks.Given as goal

abbrev pub invariant-loop-i : goal.invariant-loop-i
invariant-loop-i l = Blocked l.x l.bytes l.n l.a l.b l.i
