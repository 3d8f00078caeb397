use Rattle.link_length.proofs.Search.{Searching}
use Rattle.link_length.proofs.largest.Given as goal

abbrev pub invariant-loop-n : goal.invariant-loop-n
invariant-loop-n l = Searching l.p l.retries l.wait l.n
