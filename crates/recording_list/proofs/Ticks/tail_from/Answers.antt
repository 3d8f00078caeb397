use Rattle.std.proofs.Common.{rules, refl}
use Rattle.recording_list.proofs.Frames.{tail_to, tail_stop}
use Rattle.recording_list.proofs.Ticks.tail_from.Goals as goal

pub returns-in_err-run : goal.returns-in_err-run
returns-in_err-run c = tail_stop _ _ _ _ _ c.characters.result c.in_err-run.field-0.0 c.from_residual.result c.args.self.now.good c.characters.ensures c.in_err-run.was (search rules)

pub returns : goal.returns
returns c = tail_to _ _ _ _ _ c.characters.result c.in_ok-run.run' c.verdict_of.result _ c.args.self.now.good c.characters.ensures c.in_ok-run.was c.verdict_of.ensures refl
