use Rattle.std.proofs.Common.{rules}
use Rattle.link_rests.proofs.Parts.{masters_rest_both}
use Rattle.link_rests.proofs.masters_rest.Goals as goal

pub returns : goal.returns
returns c = search (rules, masters_rest_both)
