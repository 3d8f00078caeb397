use Rattle.recording_list.proofs.Walks.{Walking}
use Rattle.recording_list.proofs.Ticks.one_by_one.Given as goal

abbrev pub invariant-loop : goal.invariant-loop
invariant-loop l = Walking l.self.bytes.now l.from l.need l.prior l.hurt l.t l.counter l.sum l.harm
