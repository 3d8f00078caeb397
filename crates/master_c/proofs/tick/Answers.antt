use Rattle.std.proofs.Common.{rules, ◌∙◌}
use Rattle.master_c.proofs.Ticks.{tick_is}
use Rattle.master_c.proofs.tick.Goals as goal

pub returns : goal.returns
returns c = search (rules, tick_is, c.from.ensures ∙ c.sent_number.ensures.0)
