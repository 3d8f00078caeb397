use Rattle.std.proofs.Common.{arith}
use Rattle.player_input.proofs.Rooms.{keep_begun, keep_more}
use Rattle.player_input.proofs.keep_end.Goals as goal

pub loop-i-init : goal.loop-i-init
loop-i-init c = keep_begun c.args.room.now c.requires

pub loop-i-preserved : goal.loop-i-preserved
loop-i-preserved c = keep_more _ _ _ c.loop-i.invariant (omega arith)
