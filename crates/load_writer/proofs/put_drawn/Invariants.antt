use Rattle.load_writer.proofs.Puts.{Drawing}
use Rattle.load_writer.proofs.put_drawn.Given as goal

abbrev pub invariant-loop-n : goal.invariant-loop-n
invariant-loop-n l = Drawing l.fn.out l.fn.first l.fn.count l.out l.k l.x l.n l.at

abbrev pub decreases-loop-n : goal.decreases-loop-n
decreases-loop-n l = l.n
