use Rattle.texts.proofs.Puts.{Putting}
use Rattle.texts.proofs.put_bytes.Given as goal

abbrev pub invariant-loop-b : goal.invariant-loop-b
invariant-loop-b l = Putting l.text l.fn.out l.at l.out l.place l.b-index
