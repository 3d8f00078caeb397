use Rattle.recording_join.proofs.Loops.{Joining}
use Rattle.recording_join.proofs.join_into.Given as goal

abbrev pub invariant-loop-t : goal.invariant-loop-t
invariant-loop-t l = Joining l.first l.second l.fn.out l.t-end l.out l.t
