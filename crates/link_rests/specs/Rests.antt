-- Inner contracts: nothing that is to be believed rests on them.
-- A link that rests: the line is silent, and every party only counts. Until a host calls, nothing but timers changes, and nobody sends.
use Rattle.std.specs.Prelude.{ℕ, zero, suc, ◌-◌, Bool, true, false, List, [], ◌∷◌, map, get_or, Option, Some, None}
use Rattle.base.specs.Choice.{when◌then◌else◌}
use Rattle.line.specs.Reader.{idle}
use Rattle.line.specs.declared.Heard.TheVariants.{Silence}
use Rattle.line.specs.declared.Profile.{Profile}
use Rattle.turns.specs.Device as D
use Rattle.turns.specs.Master as M
use Rattle.turns.specs.Master.{count_clear}
use Rattle.turns.specs.declared.Device.{Device}
use Rattle.turns.specs.declared.Master.{Master}
use Rattle.turns.specs.declared.Timer.{Timer}
use Rattle.turns.specs.declared.Turn.TheVariants.{Listens}
use Rattle.party.specs.Hears.{is_silence}
use Rattle.device_tick.specs.declared.DeviceCall.{DeviceCall}
use Rattle.link_parties.specs.Stands.{any_master}
use Rattle.link_parties.specs.Ways.{device_way, master_way}
use Rattle.link_parties.specs.declared.Link.{Link}
use Rattle.link_parties.specs.declared.Way.{Way}
use Rattle.link_parties.specs.declared.Way.TheVariants.{Counts, Hears, Acts}

-- ---- who rests

abbrev pub only_counts : Way → Bool
only_counts Counts = true
only_counts Hears = false
only_counts Acts = false

abbrev pub device_rests : Device → Bool
device_rests d = only_counts (device_way d Silence DeviceCall.Nothing false false d.receiver)

abbrev pub master_rests : Master → Bool
master_rests m = only_counts (master_way m Silence None false false m.receiver)

-- in a slot without a device nothing changes
abbrev pub slot_rests : Option Device → Bool
slot_rests None = true
slot_rests (Some d) = device_rests d

unfoldable pub slots_rest : List (Option Device) → Bool
slots_rest [] = true
slots_rest (s ∷ ss) = when slot_rests s then slots_rest ss else false

abbrev pub masters_rest : List Master → Bool
masters_rest ms = when master_rests (get_or ms 0 any_master) then master_rests (get_or ms 1 any_master) else false

abbrev pub link_rests : Link → Bool
link_rests l = when is_silence l.line then (when masters_rest l.masters then slots_rest l.devices else false) else false

-- ---- after so many silent ticks

-- a device's timer runs out
abbrev pub device_rested : ℕ → Device → Device
device_rested n d = D.device_with d idle Listens d.request d.wish d.length (d.due - n)

-- a master's windows open again and again
unfoldable pub timer_rested : ℕ → Profile → Timer → Timer
timer_rested zero p t = t
timer_rested (suc n) p t = count_clear p (timer_rested n p t)

abbrev pub master_rested : ℕ → Master → Master
master_rested n m = M.master_with m idle m.burst m.noted (timer_rested n m.profile m.timer) m.message

abbrev pub slot_rested : ℕ → Option Device → Option Device
slot_rested n None = None
slot_rested n (Some d) = Some (device_rested n d)

abbrev pub masters_rested : ℕ → List Master → List Master
masters_rested n ms = master_rested n (get_or ms 0 any_master) ∷ master_rested n (get_or ms 1 any_master) ∷ []

abbrev pub link_rested : ℕ → Link → Link
link_rested n l = record { masters = masters_rested n l.masters; devices = map (slot_rested n) l.devices; line = Silence }
