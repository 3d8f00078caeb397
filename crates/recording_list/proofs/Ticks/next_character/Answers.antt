use Rattle.std.proofs.Common.{rules}
use Rattle.recording_list.proofs.Walks.{nexts}
use Rattle.recording_list.proofs.Ticks.next_character.Goals as goal

pub returns-then-tick_at-ne0 : goal.returns-then-tick_at-ne0
returns-then-tick_at-ne0 c = search (rules, nexts)

pub returns : goal.returns
returns c = search (rules, nexts)
