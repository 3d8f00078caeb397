use Rattle.std.proofs.Common.{rules}
use Rattle.link_run.proofs.LateSteps.{step_taken}
use Rattle.link_run.proofs.step_at.Goals as goal

pub returns : goal.returns
returns c = search (rules, step_taken)
