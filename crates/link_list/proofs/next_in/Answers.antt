use Rattle.std.proofs.Common.{rules}
use Rattle.link_list.proofs.Places.{next_some}
use Rattle.link_list.proofs.next_in.Goals as goal

pub returns-else-byte_in-eq0 : goal.returns-else-byte_in-eq0
returns-else-byte_in-eq0 c = search (rules, next_some)
