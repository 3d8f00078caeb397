use Rattle.frame_write.proofs.Puts.{Copied}
use Rattle.frame_write.proofs.put_data.Given as goal

abbrev pub invariant-loop-i : goal.invariant-loop-i
invariant-loop-i l = Copied l.x l.fn.part l.bytes l.part l.sum l.i
