-- The bytes that are stored so far.
use Rattle.readings.proofs.Puts.{Copying}
use Rattle.readings.proofs.copy.Given as goal

abbrev pub invariant-loop-i : goal.invariant-loop-i
invariant-loop-i l = Copying l.initial.to l.bytes l.count l.to l.i
