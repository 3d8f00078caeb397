use Rattle.std.proofs.Common.{rules}
use Rattle.link_start.specs.Start.{primary_first}
use Rattle.link_start.proofs.Starts.{refused_both}
use Rattle.link_start.proofs.masters_start.Goals as goal

pub returns-in_err-p : goal.returns-in_err-p
returns-in_err-p c = refused_both primary_first _ _ _ _ _ c.both.ensures c.start-primary.ensures c.start-secondary.ensures _ _ c.in_err-p.was (search rules)
