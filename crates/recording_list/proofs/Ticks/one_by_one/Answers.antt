use Rattle.std.proofs.Common.{rules}
use Rattle.recording_list.proofs.Walks.{walks}
use Rattle.recording_list.proofs.Ticks.one_by_one.Goals as goal

pub loop-init : goal.loop-init
loop-init c = search (rules, walks)

pub loop-preserved : goal.loop-preserved
loop-preserved c = search (rules, walks)

pub returns : goal.returns
returns c = search (rules, walks)
