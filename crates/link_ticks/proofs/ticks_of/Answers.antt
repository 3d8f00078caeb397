use mathlib.Core.List.{[]}
use mathlib.Core.Path.{refl, sym, ap, ◌∙◌}
use native.Mathlib.Omega.{arith}
use Prim.Native.Nat.{◌-◌}
use borrow.Author.Rules.{rules}
use Rattle.turns.specs.declared.Device.{Device}
use Rattle.link_ticks.proofs.Follows.{is_here, no_device_in, device_reader, always, master_reader, follow_none, follow_begins, follow_ends, follow_absent, follow_set, follow_unset, follow_has, line_quiet}
use Rattle.link_ticks.proofs.Devices.{device_absent, device_counted, device_heard, device_acted}
use Rattle.link_ticks.proofs.Masters.{master_counted, master_heard, master_acted}
use Rattle.link_ticks.proofs.Going.{fewer, goes_in, going_first, devices_first, masters_first, going_on, going_over, device_call_is, master_call_is}
use Rattle.link_ticks.proofs.ticks_of.Goals as goal

pub loop-requests-init : goal.loop-requests-init
loop-requests-init c = (search (rules, going_first), (follow_none is_here device_reader 6 _ _ (search rules), follow_none always master_reader 2 _ _ (search rules)))

pub loop-n-init : goal.loop-n-init
loop-n-init c = (devices_first _ _ _ _ _ _ _ _ c.loop-requests.invariant.0, follow_begins is_here device_reader 6 _ _ _ _ c.loop-requests.invariant.1.0)

pub offset_bounds-ds-i : goal.offset_bounds-ds-i
offset_bounds-ds-i c = omega (arith, c.loop-n-test.true, c.loop-n.invariant.0.within)

pub bounds-ds-i : goal.bounds-ds-i
bounds-ds-i c = omega (arith, c.loop-n-test.true, c.loop-n.invariant.0.within)

pub offset_bounds-calls-i : goal.offset_bounds-calls-i
offset_bounds-calls-i c = omega (arith, c.loop-n-test.true, c.loop-n.invariant.0.within)

pub bounds-calls-i : goal.bounds-calls-i
bounds-calls-i c = omega (arith, c.loop-n-test.true, c.loop-n.invariant.0.within)

pub bounds-ds_follow-i : goal.bounds-ds_follow-i
bounds-ds_follow-i c = omega (arith, c.loop-n-test.true, c.loop-n.invariant.0.within)

pub offset_bounds-ds-i-in-Counts : goal.offset_bounds-ds-i-in-Counts
offset_bounds-ds-i-in-Counts c = omega (arith, c.loop-n-test.true, c.loop-n.invariant.0.within)

pub bounds-ds-i-in-Counts : goal.bounds-ds-i-in-Counts
bounds-ds-i-in-Counts c = omega (arith, c.loop-n-test.true, c.loop-n.invariant.0.within)

pub bounds-ds_follow-i-in-Counts : goal.bounds-ds_follow-i-in-Counts
bounds-ds_follow-i-in-Counts c = omega (arith, c.loop-n-test.true, c.loop-n.invariant.0.within)

pub loop-n-preserved-in-Counts : goal.loop-n-preserved-in-Counts
loop-n-preserved-in-Counts c = (
  device_counted _ _ _ _ _ _ _ _ c.loop-n.invariant.0 c.loop-n-test.true _ c.in-Some.is _ (device_call_is c.loop-requests.t c.args.calls (c.loop-n.n - 1) _ _ c.device_call-call.ensures c.loop-requests.invariant.0.calls_six (omega (arith, c.loop-n-test.true, c.loop-n.invariant.0.within))) _ _ _ _ _ c.device_way-way.ensures c.in-Counts.is c.counted_device.ensures,
  follow_unset is_here device_reader 6 _ _ _ _ _ c.loop-n.invariant.1 c.loop-n-test.true _,
)

pub offset_bounds-ds-i-in-Hears : goal.offset_bounds-ds-i-in-Hears
offset_bounds-ds-i-in-Hears c = omega (arith, c.loop-n-test.true, c.loop-n.invariant.0.within)

pub bounds-ds-i-in-Hears : goal.bounds-ds-i-in-Hears
bounds-ds-i-in-Hears c = omega (arith, c.loop-n-test.true, c.loop-n.invariant.0.within)

pub overflow_add-i : goal.overflow_add-i
overflow_add-i c = omega (arith, c.loop-n-test.true, c.loop-n.invariant.0.within)

pub offset_bounds-bytes-i : goal.offset_bounds-bytes-i
offset_bounds-bytes-i c = omega (arith, c.loop-n-test.true, c.loop-n.invariant.0.within)

pub bounds-bytes-i : goal.bounds-bytes-i
bounds-bytes-i c = omega (arith, c.loop-n-test.true, c.loop-n.invariant.0.within)

pub bounds-ds_follow-i-in-Hears : goal.bounds-ds_follow-i-in-Hears
bounds-ds_follow-i-in-Hears c = omega (arith, c.loop-n-test.true, c.loop-n.invariant.0.within)

pub loop-n-preserved-in-Hears : goal.loop-n-preserved-in-Hears
loop-n-preserved-in-Hears c = (
  device_heard _ _ _ _ _ _ _ _ c.loop-n.invariant.0 c.loop-n-test.true _ c.in-Some.is _ (device_call_is c.loop-requests.t c.args.calls (c.loop-n.n - 1) _ _ c.device_call-call.ensures c.loop-requests.invariant.0.calls_six (omega (arith, c.loop-n-test.true, c.loop-n.invariant.0.within))) _ _ _ _ _ _ _ c.device_way-way.ensures c.in-Hears.is (λ q. ap device_reader (sym c.in-Some.is) ∙ follow_has is_here device_reader 6 _ _ _ _ _ c.loop-n.invariant.1 c.loop-n-test.true _ _ (ap is_here c.in-Some.is) q) (line_quiet _ _ _ c.line_step-step.ensures) c.keep.ensures c.heard_device.ensures,
  follow_set is_here device_reader 6 _ _ _ _ _ c.loop-n.invariant.1 c.loop-n-test.true _ (ap (λ (d : Device). d.receiver) c.heard_device.ensures),
)

pub offset_bounds-ds-i-in-Acts : goal.offset_bounds-ds-i-in-Acts
offset_bounds-ds-i-in-Acts c = omega (arith, c.loop-n-test.true, c.loop-n.invariant.0.within)

pub bounds-ds-i-in-Acts : goal.bounds-ds-i-in-Acts
bounds-ds-i-in-Acts c = omega (arith, c.loop-n-test.true, c.loop-n.invariant.0.within)

pub offset_bounds-ds_did-i : goal.offset_bounds-ds_did-i
offset_bounds-ds_did-i c = omega (arith, c.loop-n-test.true, c.loop-n.invariant.0.within)

pub bounds-ds_did-i : goal.bounds-ds_did-i
bounds-ds_did-i c = omega (arith, c.loop-n-test.true, c.loop-n.invariant.0.within)

pub overflow_add-i-in-Acts : goal.overflow_add-i-in-Acts
overflow_add-i-in-Acts c = omega (arith, c.loop-n-test.true, c.loop-n.invariant.0.within)

pub offset_bounds-frames-i : goal.offset_bounds-frames-i
offset_bounds-frames-i c = omega (arith, c.loop-n-test.true, c.loop-n.invariant.0.within)

pub bounds-frames-i : goal.bounds-frames-i
bounds-frames-i c = omega (arith, c.loop-n-test.true, c.loop-n.invariant.0.within)

pub overflow_add-i-in-Acts-2 : goal.overflow_add-i-in-Acts-2
overflow_add-i-in-Acts-2 c = omega (arith, c.loop-n-test.true, c.loop-n.invariant.0.within)

pub offset_bounds-bytes-i-in-Acts : goal.offset_bounds-bytes-i-in-Acts
offset_bounds-bytes-i-in-Acts c = omega (arith, c.loop-n-test.true, c.loop-n.invariant.0.within)

pub bounds-bytes-i-in-Acts : goal.bounds-bytes-i-in-Acts
bounds-bytes-i-in-Acts c = omega (arith, c.loop-n-test.true, c.loop-n.invariant.0.within)

pub offset_bounds-contents-i : goal.offset_bounds-contents-i
offset_bounds-contents-i c = omega (arith, c.loop-n-test.true, c.loop-n.invariant.0.within)

pub bounds-contents-i : goal.bounds-contents-i
bounds-contents-i c = omega (arith, c.loop-n-test.true, c.loop-n.invariant.0.within)

pub bounds-ds_follow-i-in-Acts : goal.bounds-ds_follow-i-in-Acts
bounds-ds_follow-i-in-Acts c = omega (arith, c.loop-n-test.true, c.loop-n.invariant.0.within)

pub overflow_add-row : goal.overflow_add-row
overflow_add-row c = omega (arith, c.loop-n-test.true, c.loop-n.invariant.0.within)

pub offset_bounds-row-i : goal.offset_bounds-row-i
offset_bounds-row-i c = omega (arith, c.loop-n-test.true, c.loop-n.invariant.0.within)

pub bounds-row-i : goal.bounds-row-i
bounds-row-i c = omega (arith, c.loop-n-test.true, c.loop-n.invariant.0.within)

pub offset_bounds-ds_did-i-in-Acts : goal.offset_bounds-ds_did-i-in-Acts
offset_bounds-ds_did-i-in-Acts c = omega (arith, c.loop-n-test.true, c.loop-n.invariant.0.within)

pub bounds-ds_did-i-in-Acts : goal.bounds-ds_did-i-in-Acts
bounds-ds_did-i-in-Acts c = omega (arith, c.loop-n-test.true, c.loop-n.invariant.0.within)

pub loop-n-preserved-in-Acts : goal.loop-n-preserved-in-Acts
loop-n-preserved-in-Acts c = (
  device_acted _ _ _ _ _ _ _ _ c.loop-n.invariant.0 c.loop-n-test.true _ c.in-Some.is _ (device_call_is c.loop-requests.t c.args.calls (c.loop-n.n - 1) _ _ c.device_call-call.ensures c.loop-requests.invariant.0.calls_six (omega (arith, c.loop-n-test.true, c.loop-n.invariant.0.within))) _ _ _ _ _ _ _ _ _ c.device_tick-s.ensures c.code.ensures c.device_did.ensures c.device_tells-told.ensures c.join-next.ensures,
  follow_unset is_here device_reader 6 _ _ _ _ _ c.loop-n.invariant.1 c.loop-n-test.true _,
)

pub loop-n-preserved : goal.loop-n-preserved
loop-n-preserved c = (
  device_absent _ _ _ _ _ _ _ _ c.loop-n.invariant.0 c.loop-n-test.true (no_device_in _ c.in_default.not-Some),
  follow_absent is_here device_reader 6 _ _ _ _ _ c.loop-n.invariant.1 c.loop-n-test.true _ (ap is_here (no_device_in _ c.in_default.not-Some)),
)

pub loop-k-init : goal.loop-k-init
loop-k-init c = (masters_first _ _ _ _ _ _ _ _ _ _ _ c.loop-requests.invariant.0 c.loop-n.invariant.0, follow_begins always master_reader 2 _ _ _ _ c.loop-requests.invariant.1.1)

pub offset_bounds-ms-i : goal.offset_bounds-ms-i
offset_bounds-ms-i c = omega (arith, c.loop-k-test.true, c.loop-k.invariant.0.within)

pub bounds-ms-i : goal.bounds-ms-i
bounds-ms-i c = omega (arith, c.loop-k-test.true, c.loop-k.invariant.0.within)

pub offset_bounds-requests-i : goal.offset_bounds-requests-i
offset_bounds-requests-i c = omega (arith, c.loop-k-test.true, c.loop-k.invariant.0.within)

pub bounds-requests-i : goal.bounds-requests-i
bounds-requests-i c = omega (arith, c.loop-k-test.true, c.loop-k.invariant.0.within)

pub bounds-ms_follow-i : goal.bounds-ms_follow-i
bounds-ms_follow-i c = omega (arith, c.loop-k-test.true, c.loop-k.invariant.0.within)

pub offset_bounds-ms-i-in-Counts-way : goal.offset_bounds-ms-i-in-Counts-way
offset_bounds-ms-i-in-Counts-way c = omega (arith, c.loop-k-test.true, c.loop-k.invariant.0.within)

pub bounds-ms-i-in-Counts-way : goal.bounds-ms-i-in-Counts-way
bounds-ms-i-in-Counts-way c = omega (arith, c.loop-k-test.true, c.loop-k.invariant.0.within)

pub offset_bounds-ms-i-in-Counts-way-2 : goal.offset_bounds-ms-i-in-Counts-way-2
offset_bounds-ms-i-in-Counts-way-2 c = omega (arith, c.loop-k-test.true, c.loop-k.invariant.0.within)

pub bounds-ms-i-in-Counts-way-2 : goal.bounds-ms-i-in-Counts-way-2
bounds-ms-i-in-Counts-way-2 c = omega (arith, c.loop-k-test.true, c.loop-k.invariant.0.within)

pub bounds-ms_follow-i-in-Counts-way : goal.bounds-ms_follow-i-in-Counts-way
bounds-ms_follow-i-in-Counts-way c = omega (arith, c.loop-k-test.true, c.loop-k.invariant.0.within)

pub loop-k-preserved-in-Counts-way : goal.loop-k-preserved-in-Counts-way
loop-k-preserved-in-Counts-way c = (
  master_counted _ _ _ _ _ _ _ _ c.loop-k.invariant.0 c.loop-k-test.true _ (master_call_is c.loop-requests.t c.args.requests (c.loop-k.k - 1) _ _ c.master_call-call.ensures c.loop-requests.invariant.0.requests_two (omega (arith, c.loop-k-test.true, c.loop-k.invariant.0.within))) _ _ _ _ _ c.master_way-way.ensures c.in-Counts-way.is c.counted_master.ensures,
  follow_unset always master_reader 2 _ _ _ _ _ c.loop-k.invariant.1 c.loop-k-test.true _,
)

pub offset_bounds-ms-i-in-Hears-way : goal.offset_bounds-ms-i-in-Hears-way
offset_bounds-ms-i-in-Hears-way c = omega (arith, c.loop-k-test.true, c.loop-k.invariant.0.within)

pub bounds-ms-i-in-Hears-way : goal.bounds-ms-i-in-Hears-way
bounds-ms-i-in-Hears-way c = omega (arith, c.loop-k-test.true, c.loop-k.invariant.0.within)

pub offset_bounds-bytes-i-in-Hears-way : goal.offset_bounds-bytes-i-in-Hears-way
offset_bounds-bytes-i-in-Hears-way c = omega (arith, c.loop-k-test.true, c.loop-k.invariant.0.within)

pub bounds-bytes-i-in-Hears-way : goal.bounds-bytes-i-in-Hears-way
bounds-bytes-i-in-Hears-way c = omega (arith, c.loop-k-test.true, c.loop-k.invariant.0.within)

pub offset_bounds-ms-i-in-Hears-way-2 : goal.offset_bounds-ms-i-in-Hears-way-2
offset_bounds-ms-i-in-Hears-way-2 c = omega (arith, c.loop-k-test.true, c.loop-k.invariant.0.within)

pub bounds-ms-i-in-Hears-way-2 : goal.bounds-ms-i-in-Hears-way-2
bounds-ms-i-in-Hears-way-2 c = omega (arith, c.loop-k-test.true, c.loop-k.invariant.0.within)

pub bounds-ms_follow-i-in-Hears-way : goal.bounds-ms_follow-i-in-Hears-way
bounds-ms_follow-i-in-Hears-way c = omega (arith, c.loop-k-test.true, c.loop-k.invariant.0.within)

pub loop-k-preserved-in-Hears-way : goal.loop-k-preserved-in-Hears-way
loop-k-preserved-in-Hears-way c = (
  master_heard _ _ _ _ _ _ _ _ c.loop-k.invariant.0 c.loop-k-test.true _ (master_call_is c.loop-requests.t c.args.requests (c.loop-k.k - 1) _ _ c.master_call-call.ensures c.loop-requests.invariant.0.requests_two (omega (arith, c.loop-k-test.true, c.loop-k.invariant.0.within))) _ _ _ _ _ _ _ c.master_way-way.ensures c.in-Hears-way.is (follow_has always master_reader 2 _ _ _ _ _ c.loop-k.invariant.1 c.loop-k-test.true _ _ refl) (line_quiet _ _ _ c.line_step-step.ensures) c.keep-in-Hears-way.ensures c.heard_master.ensures,
  follow_set always master_reader 2 _ _ _ _ _ c.loop-k.invariant.1 c.loop-k-test.true _ (ap master_reader c.heard_master.ensures),
)

pub offset_bounds-ms-i-in-Acts-way : goal.offset_bounds-ms-i-in-Acts-way
offset_bounds-ms-i-in-Acts-way c = omega (arith, c.loop-k-test.true, c.loop-k.invariant.0.within)

pub bounds-ms-i-in-Acts-way : goal.bounds-ms-i-in-Acts-way
bounds-ms-i-in-Acts-way c = omega (arith, c.loop-k-test.true, c.loop-k.invariant.0.within)

pub offset_bounds-ms_did-i : goal.offset_bounds-ms_did-i
offset_bounds-ms_did-i c = omega (arith, c.loop-k-test.true, c.loop-k.invariant.0.within)

pub bounds-ms_did-i : goal.bounds-ms_did-i
bounds-ms_did-i c = omega (arith, c.loop-k-test.true, c.loop-k.invariant.0.within)

pub offset_bounds-frames-i-in-Acts-way : goal.offset_bounds-frames-i-in-Acts-way
offset_bounds-frames-i-in-Acts-way c = omega (arith, c.loop-k-test.true, c.loop-k.invariant.0.within)

pub bounds-frames-i-in-Acts-way : goal.bounds-frames-i-in-Acts-way
bounds-frames-i-in-Acts-way c = omega (arith, c.loop-k-test.true, c.loop-k.invariant.0.within)

pub offset_bounds-bytes-i-in-Acts-way : goal.offset_bounds-bytes-i-in-Acts-way
offset_bounds-bytes-i-in-Acts-way c = omega (arith, c.loop-k-test.true, c.loop-k.invariant.0.within)

pub bounds-bytes-i-in-Acts-way : goal.bounds-bytes-i-in-Acts-way
bounds-bytes-i-in-Acts-way c = omega (arith, c.loop-k-test.true, c.loop-k.invariant.0.within)

pub offset_bounds-ms-i-in-Acts-way-2 : goal.offset_bounds-ms-i-in-Acts-way-2
offset_bounds-ms-i-in-Acts-way-2 c = omega (arith, c.loop-k-test.true, c.loop-k.invariant.0.within)

pub bounds-ms-i-in-Acts-way-2 : goal.bounds-ms-i-in-Acts-way-2
bounds-ms-i-in-Acts-way-2 c = omega (arith, c.loop-k-test.true, c.loop-k.invariant.0.within)

pub bounds-ms_follow-i-in-Acts-way : goal.bounds-ms_follow-i-in-Acts-way
bounds-ms_follow-i-in-Acts-way c = omega (arith, c.loop-k-test.true, c.loop-k.invariant.0.within)

pub offset_bounds-row-i-in-Acts-way : goal.offset_bounds-row-i-in-Acts-way
offset_bounds-row-i-in-Acts-way c = omega (arith, c.loop-k-test.true, c.loop-k.invariant.0.within)

pub bounds-row-i-in-Acts-way : goal.bounds-row-i-in-Acts-way
bounds-row-i-in-Acts-way c = omega (arith, c.loop-k-test.true, c.loop-k.invariant.0.within)

pub offset_bounds-ms_did-i-in-Acts-way : goal.offset_bounds-ms_did-i-in-Acts-way
offset_bounds-ms_did-i-in-Acts-way c = omega (arith, c.loop-k-test.true, c.loop-k.invariant.0.within)

pub bounds-ms_did-i-in-Acts-way : goal.bounds-ms_did-i-in-Acts-way
bounds-ms_did-i-in-Acts-way c = omega (arith, c.loop-k-test.true, c.loop-k.invariant.0.within)

pub loop-k-preserved : goal.loop-k-preserved
loop-k-preserved c = (
  master_acted _ _ _ _ _ _ _ _ c.loop-k.invariant.0 c.loop-k-test.true _ (master_call_is c.loop-requests.t c.args.requests (c.loop-k.k - 1) _ _ c.master_call-call.ensures c.loop-requests.invariant.0.requests_two (omega (arith, c.loop-k-test.true, c.loop-k.invariant.0.within))) _ _ _ _ _ _ _ _ c.master_tick-s.ensures c.code-in-Acts-way.ensures c.master_did.ensures c.master_tells-told.ensures c.join-next-in-Acts-way.ensures,
  follow_unset always master_reader 2 _ _ _ _ _ c.loop-k.invariant.1 c.loop-k-test.true _,
)

pub bounds-sent-at : goal.bounds-sent-at
bounds-sent-at c = search (rules, goes_in c.args.most c.loop-requests.t c.loop-requests.told _ c.goes_on.ensures c.loop-requests-test.true)

pub overflow_add-t : goal.overflow_add-t
overflow_add-t c = search (rules, goes_in c.args.most c.loop-requests.t c.loop-requests.told _ c.goes_on.ensures c.loop-requests-test.true)

pub loop-requests-smaller : goal.loop-requests-smaller
loop-requests-smaller c = search (rules, fewer 0 [] c.args.most [] [] c.loop-requests.t c.loop-requests.told _ c.goes_on.ensures c.loop-requests-test.true)

pub loop-requests-preserved : goal.loop-requests-preserved
loop-requests-preserved c = (
  going_on _ _ _ _ _ _ _ _ _ _ _ _ _ _ c.loop-requests.invariant.0 c.goes_on.ensures c.loop-requests-test.true refl c.loop-n.invariant.0 c.loop-n-test.false c.loop-k.invariant.0 c.loop-k-test.false,
  (follow_ends is_here device_reader 6 _ _ _ _ _ c.loop-n.invariant.1 c.loop-n-test.false, follow_ends always master_reader 2 _ _ _ _ _ c.loop-k.invariant.1 c.loop-k-test.false),
)

pub returns : goal.returns
returns c = going_over _ _ _ _ _ _ _ _ _ c.loop-requests.invariant.0 c.goes_on.ensures c.loop-requests-test.false
