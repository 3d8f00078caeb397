use Rattle.std.proofs.Common.{◌-◌}
use Rattle.recording_list.proofs.Lists.{Going}
use Rattle.recording_list.proofs.Ticks.entries_from.Given as goal

abbrev pub invariant-loop-t : goal.invariant-loop-t
invariant-loop-t l = Going l.self.bytes.now l.from l.prior l.put l.fn.out l.ticks l.out l.t l.n

abbrev pub decreases-loop-t : goal.decreases-loop-t
decreases-loop-t l = l.ticks - l.t
