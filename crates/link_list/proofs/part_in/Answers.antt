use Rattle.std.proofs.Common.{rules}
use Rattle.link_list.proofs.Places.{part_some}
use Rattle.link_list.proofs.part_in.Goals as goal

pub returns-else-ticks-at-lt10 : goal.returns-else-ticks-at-lt10
returns-else-ticks-at-lt10 c = search (rules, part_some)
