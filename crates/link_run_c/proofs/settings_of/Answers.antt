use Rattle.std.proofs.Common.{rules}
use Rattle.link_run_c.proofs.Made.{made}
use Rattle.link_run_c.proofs.settings_of.Goals as goal

pub loop-i-init : goal.loop-i-init
loop-i-init c = search (rules, made)

pub loop-i-preserved : goal.loop-i-preserved
loop-i-preserved c = search (rules, made)

pub returns : goal.returns
returns c = search (rules, made)
