use Rattle.std.proofs.Common.{arith}
use Rattle.readings.proofs.Searches.{flat_more}
use Rattle.readings.proofs.search.Goals as goal

pub loop-i-preserved : goal.loop-i-preserved
loop-i-preserved c = flat_more c.args.numbers.now c.args.k c.loop-i.i c.loop-i.s c.sought_next-s.result c.row_at.result c.loop-i.invariant (omega arith) c.row_at.ensures c.sought_next-s.ensures
