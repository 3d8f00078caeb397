use Rattle.std.proofs.Common.{rules}
use Rattle.recording_join.proofs.Loops.{joinings}
use Rattle.recording_join.proofs.join_into.Goals as goal

pub loop-t-preserved : goal.loop-t-preserved
loop-t-preserved c = search (rules, joinings)
