use Rattle.recording.proofs.Forms.{Looking}
use Rattle.recording.proofs.is_bad.Given as goal

abbrev pub invariant-loop-t : goal.invariant-loop-t
invariant-loop-t l = Looking l.recording l.ticks l.bad l.t
