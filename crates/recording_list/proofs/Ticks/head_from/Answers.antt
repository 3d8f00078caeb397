use Rattle.std.proofs.Common.{rules}
use Rattle.recording_list.proofs.Frames.{head_stop}
use Rattle.recording_list.proofs.Ticks.head_from.Goals as goal

pub returns-in_err-run : goal.returns-in_err-run
returns-in_err-run c = head_stop _ _ _ _ _ c.characters.result c.in_err-run.field-0.0 c.from_residual.result c.args.self.now.good c.characters.ensures c.in_err-run.was (search rules)
