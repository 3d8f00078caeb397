use Rattle.recording_list.proofs.Sounds.{Running}
use Rattle.recording_list.proofs.Ticks.plain_run.Given as goal

abbrev pub invariant-loop-i : goal.invariant-loop-i
invariant-loop-i l = Running l.self.bytes.now l.t l.need l.prior l.other l.sum l.i
