use Rattle.std.proofs.Common.{length, slice_index_or}
use mathlib.Core.Path.{refl}
use Rattle.base.proofs.Stores.{storing_more}
use Rattle.device_tick.proofs.put_content.Goals as goal

pub loop-i-preserved : goal.loop-i-preserved
loop-i-preserved c = storing_more c.args.contents.now c.args.bytes.now (length c.args.bytes.now) c.loop-i.contents c.loop-i.i (slice_index_or c.args.bytes.now c.loop-i.i 0) c.loop-i.invariant c.loop-i-test.true refl
