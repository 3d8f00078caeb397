use Rattle.link_list.proofs.Readings.{tick_is}
use Rattle.link_list.proofs.tick_from.Goals as goal

pub returns : goal.returns
returns c = tick_is _ _ _ _ _ _ _ _ c.master_call.ensures c.next_in-second.ensures.0 c.master_call-2.ensures c.next_in.ensures.0 c.devices_read-next.ensures
