use Rattle.std.proofs.Common.{rules}
use Rattle.recording_list.proofs.Lists.{lists}
use Rattle.recording_list.proofs.list.Goals as goal

pub returns-then-not-has_room : goal.returns-then-not-has_room
returns-then-not-has_room c = search (rules, lists)

pub returns : goal.returns
returns c = search (rules, lists)
