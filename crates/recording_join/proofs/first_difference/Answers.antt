use Rattle.std.proofs.Common.{rules}
use Rattle.recording_join.proofs.Loops.{searches}
use Rattle.recording_join.proofs.first_difference.Goals as goal

pub loop-t-preserved : goal.loop-t-preserved
loop-t-preserved c = search (rules, searches)
