use Rattle.std.proofs.Common.{rules}
use Rattle.base.proofs.Choices.{choices}
use Rattle.master.proofs.hears.count.Goals as goal

pub returns : goal.returns
returns c = rw c.with_parts.ensures (search (rules, choices))
