use Rattle.std.proofs.Common.{rules}
use Rattle.link_ticks.proofs.Cases.{code_is}
use Rattle.link_ticks.proofs.code.Goals as goal

pub returns : goal.returns
returns c = search (rules, code_is)
