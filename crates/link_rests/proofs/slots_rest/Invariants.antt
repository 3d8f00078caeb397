use Rattle.std.proofs.Common.{true}
use Rattle.link_rests.proofs.Parts.{Asked}
use Rattle.link_rests.proofs.slots_rest.Given as goal

abbrev pub invariant-loop-s : goal.invariant-loop-s
invariant-loop-s l = Asked l.s-items true l.s-index
