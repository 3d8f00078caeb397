use Rattle.link_start.proofs.Starts.{Begun}
use Rattle.link_start.proofs.devices_start.Given as goal

abbrev pub invariant-loop-i : goal.invariant-loop-i
invariant-loop-i l = Begun l.profile l.settings l.slots l.answer l.i
