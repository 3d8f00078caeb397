use Rattle.std.proofs.Common.{length}
use Rattle.base.proofs.Stores.{Storing}
use Rattle.device_tick.proofs.put_content.Given as goal

abbrev pub invariant-loop-i : goal.invariant-loop-i
invariant-loop-i l = Storing l.fn.contents l.bytes (length l.bytes) l.contents l.i
