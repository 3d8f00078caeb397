use Rattle.std.proofs.Common.{rules}
use Rattle.link_start.specs.Start.{limited_starts, the_link}
use Rattle.link_start.proofs.Starts.{refused_both}
use Rattle.link_start.proofs.limited_starts.Goals as goal

pub returns-in_err-link : goal.returns-in_err-link
unfolding limited_starts
returns-in_err-link c = refused_both the_link _ _ _ _ _ c.both.ensures c.limit_taken.ensures c.link_starts.ensures _ _ c.in_err-link.was (search rules)
