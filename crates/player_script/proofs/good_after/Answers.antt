use Rattle.std.proofs.Common.{rules, ◌∙◌}
use borrow.Author.Tests.{ne_eqb}
use Rattle.player_script.proofs.Good.{whole, left_over_bad}
use Rattle.player_script.proofs.good_after.Goals as goal

pub returns-then-rest-width-eq0 : goal.returns-then-rest-width-eq0
returns-then-rest-width-eq0 c = search (rules, whole)

pub returns-else-rest-width-eq0 : goal.returns-else-rest-width-eq0
returns-else-rest-width-eq0 c = ne_eqb _ _ c.if-rest-width-eq0.false ∙ left_over_bad _ _ _ c.width.result (search rules) c.if-rest-width-eq0.false
