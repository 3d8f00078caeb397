use Rattle.std.proofs.Common.{◌∙◌}
use Rattle.modem.proofs.Registers.{looks_is}
use Rattle.modem.proofs.look.Goals as goal

pub returns : goal.returns
returns c = c.unwrap_or.ensures ∙ looks_is c.args.x c.args.n c.read.result c.read.ensures
