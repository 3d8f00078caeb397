use Rattle.std.proofs.Common.{◌-◌}
use Rattle.link_ticks.proofs.Follows.{Follow, Following, is_here, device_reader, always, master_reader}
use Rattle.link_ticks.proofs.Devices.{at, Ticking}
use Rattle.link_ticks.proofs.Masters.{masters_at, MastersTicking}
use Rattle.link_ticks.proofs.Going.{standing, device_call_at, master_call_at, Going}
use Rattle.link_ticks.proofs.ticks_of.Given as goal

-- the devices, from the last to the first
abbrev pub invariant-loop-n : goal.invariant-loop-n
invariant-loop-n l =
    Ticking l.limit l.line l.put (device_call_at l.t l.calls)
    (at l.initial.ds l.initial.frames l.initial.bytes l.initial.contents l.initial.row l.initial.ds_did l.initial.told l.initial.next)
    (at l.ds l.frames l.bytes l.contents l.row l.ds_did l.told l.next) l.n
    × Following is_here device_reader 6 l.ds_follow l.ds l.reader l.stepped l.n

abbrev pub decreases-loop-n : goal.decreases-loop-n
decreases-loop-n l = l.n

-- the masters
abbrev pub invariant-loop-k : goal.invariant-loop-k
invariant-loop-k l =
    MastersTicking l.limit l.line l.put (master_call_at l.t l.requests)
    (masters_at l.initial.ms l.initial.frames l.initial.bytes l.contents l.initial.row l.initial.ms_did l.initial.told l.initial.next)
    (masters_at l.ms l.frames l.bytes l.contents l.row l.ms_did l.told l.next) l.k
    × Following always master_reader 2 l.ms_follow l.ms l.reader l.stepped l.k

abbrev pub decreases-loop-k : goal.decreases-loop-k
decreases-loop-k l = l.k

-- the ticks
abbrev pub invariant-loop-requests : goal.invariant-loop-requests
invariant-loop-requests l =
    Going l.limit l.put l.most l.requests l.calls
    (standing l.initial.ms l.initial.ds l.initial.line l.initial.frames l.initial.bytes l.initial.contents l.initial.sent l.initial.ms_did l.initial.ds_did l.initial.told)
    (standing l.ms l.ds l.line l.frames l.bytes l.contents l.sent l.ms_did l.ds_did l.told) l.t
    × (Follow is_here device_reader 6 l.ds_follow l.ds l.reader × Follow always master_reader 2 l.ms_follow l.ms l.reader)

abbrev pub decreases-loop-requests : goal.decreases-loop-requests
decreases-loop-requests l = 64 - l.t
