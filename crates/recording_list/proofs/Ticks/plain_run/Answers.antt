use Rattle.std.proofs.Common.{rules}
use Rattle.recording_list.proofs.Sounds.{plains}
use Rattle.recording_list.proofs.Ticks.plain_run.Goals as goal

pub loop-i-init : goal.loop-i-init
loop-i-init c = search (rules, plains)

pub loop-i-preserved : goal.loop-i-preserved
loop-i-preserved c = search (rules, plains)
