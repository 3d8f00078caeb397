use Rattle.line.specs.Reader.{blank}
use Rattle.line.specs.declared.Place.TheVariants.{Preamble}
use Rattle.recording_list.proofs.Frames.{Preambling}
use Rattle.recording_list.proofs.Ticks.preamble_from.Given as goal

abbrev pub invariant-loop-t : goal.invariant-loop-t
invariant-loop-t l = Preambling l.self.bytes.now l.from (blank (Preamble 1)) l.t-end l.t l.two
