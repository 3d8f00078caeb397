use Rattle.line.specs.Reader.{passing}
use Rattle.recording_list.proofs.Skips.{Skipping}
use Rattle.recording_list.proofs.Ticks.silence_from.Given as goal

abbrev pub invariant-loop-t : goal.invariant-loop-t
invariant-loop-t l = Skipping l.self.bytes.now l.from passing l.ticks l.t
