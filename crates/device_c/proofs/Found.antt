-- What a device tells its host is the frame that its reader found in that tick.
use Prim.Native.Nat.{ℕ}
use mathlib.Core.List.{List}
use mathlib.Core.Path.{◌≡◌, refl, sym, subst}
use Rattle.base.specs.Choice.{◌=?◌}
use Rattle.base.specs.Refusal.{Called, accepted, refused}
use Rattle.frame.specs.Delimiter.{stx}
use Rattle.line.specs.Reader.{taken, inside_frame}
use Rattle.line.specs.declared.Event.{Event}
use Rattle.line.specs.declared.Event.TheVariants.{Nothing, PassedOver, Broken, Frame, Damaged}
use Rattle.line.specs.declared.Heard.{Heard}
use Rattle.line.specs.declared.Heard.TheVariants.{Silence, Character}
use Rattle.line.specs.declared.Whole.{Whole}
use Rattle.turns.specs.Device.{may_answer, has_error, after_frame, after_character, on_heard, device_takes, answered, answer_frame, content_given}
use Rattle.turns.specs.Link.{DeviceCall, no_call, gives_answer, gives_content, DeviceSide, device_data, heard_frame, answer_called, content_called, device_tick}
use Rattle.turns.specs.Party.{is_broadcast}
use Rattle.turns.specs.declared.Change.{Change}
use Rattle.turns.specs.declared.Device.{Device}
use Rattle.turns.specs.declared.DeviceTaken.{DeviceTaken}
use Rattle.turns.specs.declared.DeviceTold.{DeviceTold}
use Rattle.turns.proofs.Bursting.{if_both}
use lib.ListN.{length}
use Rattle.device_c.specs.Tick.{ToldIsFound}

by_frame : (d : Device) (w : Whole) → ToldIsFound (after_frame d w).told (Frame w)
by_frame d w =
    if_both (λ (c : Change). ToldIsFound c.told (Frame w)) (w.header.kind =? stx) _ _
    (if_both (λ (c : Change). ToldIsFound c.told (Frame w)) (w.expansion =? 0) _ _
    (if_both (λ (c : Change). ToldIsFound c.told (Frame w)) (may_answer d w.header) _ _
    refl
    (if_both (λ (c : Change). ToldIsFound c.told (Frame w)) (is_broadcast w.header) _ _ refl tt))
    tt)
    tt

by_event : (d : Device) (event : Event) → ToldIsFound (after_character d event).told event
by_event d Nothing = tt
by_event d PassedOver = tt
by_event d Broken = tt
by_event d (Frame w) = by_frame d w
by_event d (Damaged w m) = if_both (λ (c : Change). ToldIsFound c.told (Damaged w m)) (has_error d w m) _ _ tt tt

on_heard_lem : (d : Device) (heard : Heard) → ToldIsFound (on_heard d heard).told (on_heard d heard).event
on_heard_lem d Silence =
    if_both (λ (t : DeviceTaken). ToldIsFound t.told t.event) (inside_frame d.receiver.place) _ _
    (if_both (λ (t : DeviceTaken). ToldIsFound t.told t.event) d.receiver.gap _ _ tt tt)
    tt
on_heard_lem d (Character c) = by_event d (taken d.receiver (Character c)).event
on_heard_lem d (Heard.Damaged c kind) = by_event d (taken d.receiver (Heard.Damaged c kind)).event

takes_found : (d : Device) (heard : Heard) → ToldIsFound (device_takes d heard).told (device_takes d heard).event
unfolding device_takes
takes_found d heard = if_both (λ (t : DeviceTaken). ToldIsFound t.told t.event) d.deaf _ _ tt (on_heard_lem d heard)

-- a call changes nothing of what is told
answer_tells : (c : Called Device) (before : Device) (written frame bytes contents : List ℕ) (told : DeviceTold) → (answer_called c before written frame bytes contents told).told ≡ told
answer_tells (accepted d) before written frame bytes contents told = refl
answer_tells (refused why) before written frame bytes contents told = refl

content_tells : (c : Called Device) (before : Device) (put frame bytes contents : List ℕ) (told : DeviceTold) → (content_called c before put frame bytes contents told).told ≡ told
content_tells (accepted d) before put frame bytes contents told = refl
content_tells (refused why) before put frame bytes contents told = refl

tick_tells : (limit : ℕ) (x : DeviceSide) (heard : Heard) (call : DeviceCall) → (device_tick limit x heard call).told ≡ (device_takes x.device heard).told
unfolding device_tick
tick_tells limit x heard no_call = refl
tick_tells limit x heard (gives_answer wish put) =
    answer_tells (answered limit (device_takes x.device heard).device wish (length put)) (device_takes x.device heard).device
    (answer_frame (device_takes x.device heard).device wish put (heard_frame x heard)) (heard_frame x heard) (device_data x heard) x.contents (device_takes x.device heard).told
tick_tells limit x heard (gives_content command put) =
    content_tells (content_given limit (device_takes x.device heard).device command (length put)) (device_takes x.device heard).device
    put (heard_frame x heard) (device_data x heard) x.contents (device_takes x.device heard).told

pub told_found : (limit : ℕ) (x : DeviceSide) (heard : Heard) (call : DeviceCall) → ToldIsFound (device_tick limit x heard call).told (device_takes x.device heard).event
told_found limit x heard call = subst (λ (t : DeviceTold). ToldIsFound t (device_takes x.device heard).event) (sym (tick_tells limit x heard call)) (takes_found x.device heard)

answer_data : (c : Called Device) (before : Device) (written frame bytes contents : List ℕ) (told : DeviceTold) → (answer_called c before written frame bytes contents told).side.bytes ≡ bytes
answer_data (accepted d) before written frame bytes contents told = refl
answer_data (refused why) before written frame bytes contents told = refl

content_data : (c : Called Device) (before : Device) (put frame bytes contents : List ℕ) (told : DeviceTold) → (content_called c before put frame bytes contents told).side.bytes ≡ bytes
content_data (accepted d) before put frame bytes contents told = refl
content_data (refused why) before put frame bytes contents told = refl

-- the data buffer behind the tick is as the reader left it
pub data_found : (limit : ℕ) (x : DeviceSide) (heard : Heard) (call : DeviceCall) → (device_tick limit x heard call).side.bytes ≡ device_data x heard
unfolding device_tick
data_found limit x heard no_call = refl
data_found limit x heard (gives_answer wish put) =
    answer_data (answered limit (device_takes x.device heard).device wish (length put)) (device_takes x.device heard).device
    (answer_frame (device_takes x.device heard).device wish put (heard_frame x heard)) (heard_frame x heard) (device_data x heard) x.contents (device_takes x.device heard).told
data_found limit x heard (gives_content command put) =
    content_data (content_given limit (device_takes x.device heard).device command (length put)) (device_takes x.device heard).device
    put (heard_frame x heard) (device_data x heard) x.contents (device_takes x.device heard).told
