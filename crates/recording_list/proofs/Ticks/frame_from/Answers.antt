use Rattle.std.proofs.Common.{rules}
use Rattle.recording_list.proofs.Frames.{frames}
use Rattle.recording_list.proofs.Ticks.frame_from.Goals as goal

pub returns-else-tick_at : goal.returns-else-tick_at
returns-else-tick_at c = search (rules, frames)
