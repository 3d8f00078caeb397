use Rattle.std.proofs.Common.{rules}
use Rattle.recording_list.proofs.Frames.{others}
use Rattle.recording_list.proofs.Ticks.other_at.Goals as goal

pub returns-else-v-eq32 : goal.returns-else-v-eq32
returns-else-v-eq32 c = search (rules, others)
