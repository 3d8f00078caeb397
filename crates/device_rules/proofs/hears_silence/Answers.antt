use Rattle.std.proofs.Common.{rules}
use Rattle.device_rules.proofs.Parts.{silences}
use Rattle.device_rules.proofs.hears_silence.Goals as goal

pub returns-then-not-is_inside : goal.returns-then-not-is_inside
returns-then-not-is_inside c = search (rules, silences)

pub returns-then-d : goal.returns-then-d
returns-then-d c = search (rules, silences)

pub returns-else-d : goal.returns-else-d
returns-else-d c = search (rules, silences)
