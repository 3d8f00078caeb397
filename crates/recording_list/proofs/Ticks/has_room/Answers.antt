use Rattle.std.proofs.Common.{rules}
use Rattle.recording_list.proofs.Lists.{rooms}
use Rattle.recording_list.proofs.Ticks.has_room.Goals as goal

pub returns-else-self-room : goal.returns-else-self-room
returns-else-self-room c = search (rules, rooms)
