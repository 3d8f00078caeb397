use Rattle.std.proofs.Common.{rules}
use Rattle.recording_list.proofs.Frames.{count_stop}
use Rattle.recording_list.proofs.Ticks.count_from.Goals as goal

pub returns-in_err-u : goal.returns-in_err-u
returns-in_err-u c = count_stop _ _ _ _ _ c.next_character.result c.in_err-u.field-0.0 c.from_residual.result c.next_character.ensures c.in_err-u.was (search rules)
