use Rattle.std.proofs.Common.{rules}
use Rattle.recording_list.proofs.Skips.{silences}
use Rattle.recording_list.proofs.Ticks.silence_from.Goals as goal

pub loop-t-preserved : goal.loop-t-preserved
loop-t-preserved c = search (rules, silences)
