use Rattle.std.proofs.Common.{rules}
use Rattle.master.proofs.Takes.{second_parts}
use Rattle.master.proofs.hears.second_silent.Goals as goal

pub returns : goal.returns
returns c = search (rules, second_parts)
