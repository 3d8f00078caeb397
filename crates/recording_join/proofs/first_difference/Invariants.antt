use Rattle.recording_join.proofs.Loops.{Searching}
use Rattle.recording_join.proofs.first_difference.Given as goal

abbrev pub invariant-loop-t : goal.invariant-loop-t
invariant-loop-t l = Searching l.first l.second l.t-end l.t
