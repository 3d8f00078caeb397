use Rattle.std.proofs.Common.{rules}
use Rattle.link_start.specs.Start.{fresh_link}
use Rattle.link_start.proofs.Starts.{refused_both}
use Rattle.link_start.proofs.link_starts.Goals as goal

pub returns-in_err-masters : goal.returns-in_err-masters
returns-in_err-masters c = refused_both fresh_link _ _ _ _ _ c.both.ensures c.masters_start-masters.ensures c.devices_start-devices.ensures _ _ c.in_err-masters.was (search rules)
