use Rattle.recording_lines.proofs.Bad.{Looking}
use Rattle.recording_lines.proofs.first_bad.Given as goal

abbrev pub invariant-loop-t : goal.invariant-loop-t
invariant-loop-t l = Looking l.recording l.ticks l.t
