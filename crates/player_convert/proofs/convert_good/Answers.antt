use Rattle.std.proofs.Common.{rules, arith}
use Rattle.player_convert.proofs.Converts.{into_new_is}
use Rattle.player_convert.proofs.convert_good.Goals as goal

pub returns-in-Old : goal.returns-in-Old
returns-in-Old c = into_new_is c.args.form _ _ _ _ (search rules) (λ i. omega (arith, c.type_inv.script i)) c.into_new.ensures
