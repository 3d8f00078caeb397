use Rattle.std.proofs.Common.{rules}
use Rattle.device_rules.proofs.Hearing.{hearings}
use Rattle.device_rules.proofs.take.Goals as goal

pub returns-then-d : goal.returns-then-d
returns-then-d c = search (rules, hearings)

pub returns-then-is_silence : goal.returns-then-is_silence
returns-then-is_silence c = search (rules, hearings)

pub returns-else-is_silence : goal.returns-else-is_silence
returns-else-is_silence c = search (rules, hearings)
