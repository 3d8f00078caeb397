use Rattle.readings.proofs.Puts.{copying_none, copying_more}
use Rattle.readings.proofs.copy.Goals as goal

pub loop-i-init : goal.loop-i-init
loop-i-init c = copying_none c.args.to.now c.args.bytes.now c.args.count c.requires.0 c.requires.1

pub loop-i-preserved : goal.loop-i-preserved
loop-i-preserved c = copying_more c.args.to.now c.args.bytes.now c.args.count c.loop-i.to c.loop-i.i c.stored_byte.result c.requires.1 c.loop-i.invariant c.loop-i-test.true c.stored_byte.ensures
