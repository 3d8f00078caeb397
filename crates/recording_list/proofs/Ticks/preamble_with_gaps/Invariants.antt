use Rattle.std.proofs.Common.{◌-◌}
use Rattle.recording_list.specs.Reading.{in_preamble}
use Rattle.recording_list.proofs.Frames.{Preambling}
use Rattle.recording_list.proofs.Ticks.preamble_with_gaps.Given as goal

abbrev pub invariant-loop-t : goal.invariant-loop-t
invariant-loop-t l = Preambling l.self.bytes.now l.from (in_preamble l.prior) l.ticks l.t l.two

abbrev pub decreases-loop-t : goal.decreases-loop-t
decreases-loop-t l = l.ticks - l.t
