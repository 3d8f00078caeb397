use Rattle.std.proofs.Common.{rules}
use Rattle.recording_list.proofs.Lists.{starts}
use Rattle.recording_list.proofs.Ticks.entries.Goals as goal

pub returns-then-self-lt2 : goal.returns-then-self-lt2
returns-then-self-lt2 c = search (rules, starts)

pub returns-then-tick_at-eq0 : goal.returns-then-tick_at-eq0
returns-then-tick_at-eq0 c = search (rules, starts)

pub returns : goal.returns
returns c = search (rules, starts)
