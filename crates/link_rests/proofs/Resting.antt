-- A party that rests: what it is behind a silent tick.
use Rattle.std.specs.Prelude.{None}
use Prim.Native.Nat.{ℕ, suc, ◌-◌}
use native.Mathlib.Omega.{arith}
use mathlib.Core.Bool.{Bool, true, false}
use mathlib.Core.Path.{◌≡◌, refl, sym, ap}
use mathlib.Core.List.{[]}
use Rattle.base.specs.Choice.{when◌then◌else◌}
use Rattle.base.proofs.Choices.{true_false}
use Rattle.line.specs.Reader.{idle, inside_frame}
use Rattle.line.specs.declared.Heard.TheVariants.{Silence}
use Rattle.turns.specs.Device.{device_with}
use Rattle.turns.specs.Link.{no_request, no_call, MasterSide, master_tick, DeviceSide, device_tick}
use Rattle.turns.specs.declared.Device.{Device}
use Rattle.turns.specs.declared.Master.{Master}
use Rattle.turns.specs.declared.Turn.TheVariants.{Listens}
use Rattle.device_tick.specs.declared.DeviceCall.{DeviceCall}
use Rattle.link_parties.specs.Ways.{counts_if, is_listening, is_free, device_way, master_way}
use Rattle.link_parties.specs.declared.Way.{Way}
use Rattle.link_parties.specs.declared.Way.TheVariants.{Counts, Hears, Acts}
use Rattle.link_parties.proofs.Ways.{quiet_device, with_device, device_counts_lem, quiet_master, with_master, master_counts_lem}
use Rattle.link_rests.specs.Rests.{only_counts, device_rested, timer_rested, master_rested}

-- what the test tells
pub counts_is : (w : Way) → only_counts w ≡ true → w ≡ Counts
counts_is Counts e = refl
counts_is Hears e = absurd (true_false (sym e))
counts_is Acts e = absurd (true_false (sym e))

-- ---- a device

abbrev pub DeviceRests : Device → Type 0
DeviceRests d = device_way d Silence DeviceCall.Nothing false false d.receiver ≡ Counts

abbrev pub device_side : ℕ → DeviceSide → DeviceSide
device_side n x = with_device x (device_rested n x.device) x.bytes

pub device_tick_lem : (x : DeviceSide) → DeviceRests x.device → device_tick 255 x Silence no_call ≡ quiet_device (device_side 1 x)
device_tick_lem x r = sym (device_counts_lem 255 x Silence DeviceCall.Nothing [] false false x.device.receiver r)

-- it rests on
pub device_rests_on : (n : ℕ) (d : Device) → DeviceRests d → DeviceRests (device_rested n d)
unfolding device_way when◌then◌else◌
device_rests_on n d r = by d.deaf d.burst (when inside_frame d.receiver.place then false else is_listening d.turn) r
  where
    by : (deaf burst t : Bool) → (when deaf then Acts else counts_if (when burst then false else t)) ≡ Counts → (when deaf then Acts else counts_if (when burst then false else true)) ≡ Counts
    by true burst t e = e
    by false true t e = e
    by false false t e = refl

pub device_one_more : (n : ℕ) (d : Device) → device_rested 1 (device_rested n d) ≡ device_rested (suc n) d
device_one_more n d = let k : d.due - n - 1 ≡ d.due - suc n = omega arith in ap (λ (due : ℕ). device_with d idle Listens d.request d.wish d.length due) k

-- ---- the same of a master

abbrev pub MasterRests : Master → Type 0
MasterRests m = master_way m Silence None false false m.receiver ≡ Counts

abbrev pub master_side : ℕ → MasterSide → MasterSide
master_side n x = with_master x (master_rested n x.master) x.bytes

pub master_tick_lem : (x : MasterSide) → MasterRests x.master → master_tick 255 x Silence no_request ≡ quiet_master (master_side 1 x)
unfolding timer_rested
master_tick_lem x r = sym (master_counts_lem 255 x Silence None [] false false x.master.receiver r)

pub master_rests_on : (n : ℕ) (m : Master) → MasterRests m → MasterRests (master_rested n m)
unfolding master_way when◌then◌else◌
master_rests_on n m r = by m.deaf m.burst (inside_frame m.receiver.place) (is_free m.message.stage) r
  where
    by : (deaf burst inside free : Bool) → (when deaf then Acts else counts_if (when burst then false else when inside then false else free)) ≡ Counts
        → (when deaf then Acts else counts_if (when burst then false else free)) ≡ Counts
    by true burst inside free e = e
    by false true inside free e = e
    by false false true true e = refl
    by false false true false e = e
    by false false false free e = e
