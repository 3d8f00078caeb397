use Rattle.link_list.specs.Read.{device_call_at}
use Rattle.link_list.proofs.Readings.{Reading}
use Rattle.link_list.proofs.devices_read.Given as goal

abbrev pub invariant-loop-call : goal.invariant-loop-call
invariant-loop-call l = Reading device_call_at l.ticks 6 l.start l.call-items l.at l.call-index
