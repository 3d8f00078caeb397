use Rattle.link_rests.proofs.Parts.{Resting}
use Rattle.link_rests.proofs.slots_rested.Given as goal

abbrev pub invariant-loop-s : goal.invariant-loop-s
invariant-loop-s l = Resting l.ticks l.fn.slots l.s-items l.s-index
