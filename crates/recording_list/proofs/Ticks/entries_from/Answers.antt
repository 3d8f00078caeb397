use Rattle.std.proofs.Common.{rules}
use Rattle.recording_list.proofs.Lists.{goings}
use Rattle.recording_list.proofs.Ticks.entries_from.Goals as goal

pub returns-then-ticks-s : goal.returns-then-ticks-s
returns-then-ticks-s c = search (rules, goings)

pub loop-t-preserved : goal.loop-t-preserved
loop-t-preserved c = search (rules, goings)

pub returns : goal.returns
returns c = search (rules, goings)
