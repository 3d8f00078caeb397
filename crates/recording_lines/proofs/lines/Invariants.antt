use Rattle.recording_lines.proofs.Printing.{Printing}
use Rattle.recording_lines.proofs.lines.Given as goal

abbrev pub invariant-loop-t : goal.invariant-loop-t
invariant-loop-t l = Printing l.fn.p l.piece l.fn.bytes l.fn.out l.t-end l.printed.progress l.bytes l.out l.printed.at l.t
