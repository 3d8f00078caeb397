use Rattle.std.proofs.Common.{rules}
use Rattle.link_length.proofs.Search.{searches}
use Rattle.link_length.proofs.largest.Goals as goal

pub returns-then-plain_wait-wait : goal.returns-then-plain_wait-wait
returns-then-plain_wait-wait c = search (rules, searches)

pub loop-n-preserved : goal.loop-n-preserved
loop-n-preserved c = search (rules, searches)

pub returns : goal.returns
returns c = search (rules, searches)
