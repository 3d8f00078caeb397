use Rattle.line.specs.Reader.{idle}
use Rattle.recording_list.proofs.Skips.{Skipping}
use Rattle.recording_list.proofs.Ticks.sound_from.Given as goal

abbrev pub invariant-loop-t : goal.invariant-loop-t
invariant-loop-t l = Skipping l.self.bytes.now l.from idle l.ticks l.t
