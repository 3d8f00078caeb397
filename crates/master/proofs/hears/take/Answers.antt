use Rattle.std.proofs.Common.{rules}
use Rattle.master.proofs.Takes.{ticks}
use Rattle.master.proofs.hears.take.Goals as goal

pub returns-then-m : goal.returns-then-m
returns-then-m c = search (rules, ticks)

pub returns-then-is_silence : goal.returns-then-is_silence
returns-then-is_silence c = search (rules, ticks)

pub returns-else-is_silence : goal.returns-else-is_silence
returns-else-is_silence c = search (rules, ticks)
