use Rattle.load_writer.proofs.Puts.{Fronting}
use Rattle.load_writer.proofs.put_front.Given as goal

abbrev pub invariant-loop-i : goal.invariant-loop-i
invariant-loop-i l = Fronting l.fn.out l.x l.n l.out l.i
