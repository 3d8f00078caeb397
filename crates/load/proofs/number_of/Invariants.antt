use Rattle.load.proofs.Numbers.{Reading}
use Rattle.load.proofs.number_of.Given as goal

abbrev pub invariant-loop-c : goal.invariant-loop-c
invariant-loop-c l = Reading l.text l.n l.c-index
