use Rattle.recording_capture.proofs.Capturing.{Capturing}
use Rattle.recording_capture.proofs.packets.Given as goal

abbrev pub invariant-loop-t : goal.invariant-loop-t
invariant-loop-t l = Capturing l.fn.p l.piece l.fn.bytes l.fn.frame l.fn.out l.t-end l.captured.progress l.bytes l.frame l.out l.captured.at l.t
