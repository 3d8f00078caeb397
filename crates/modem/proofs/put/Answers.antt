use Rattle.std.proofs.Common.{◌∙◌}
use Rattle.modem.proofs.Registers.{puts_is}
use Rattle.modem.proofs.put.Goals as goal

pub returns : goal.returns
returns c = c.unwrap_or.ensures ∙ puts_is c.args.x c.args.n c.args.v c.write.result c.write.ensures
