-- Theorem: under item 14's premises a run is document 01's run with the same starts. A silent tick meets every reader outside a frame, as in a run of the common start.
use Prim.Native.Nat.{ℕ, zero, suc, ◌-◌, ◌≤◌}
use mathlib.Core.Path.{◌≡◌, refl, sym, ap, subst, ◌∙◌}
use mathlib.Core.Bool.{Bool}
use mathlib.Core.List.{List, [], ◌∷◌}
use Rattle.line.specs.declared.Heard.{Heard}
use Rattle.line.specs.declared.Heard.TheVariants.{Silence}
use Rattle.line.specs.declared.Profile.{Profile}
use Rattle.turns.specs.Master.{master_takes}
use Rattle.turns.specs.Link.{MasterCall, MasterSide, master_data, DeviceSide, Link, LinkStep, Calls, device_tick, link_after}
use Rattle.turns.specs.Run.{All, none, and, MasterStarts, EachTick, tick_and}
use Rattle.runs.specs.Late.{late_master, late_tick, late_run, Started, starts_now, started_before}
use Rattle.runs.specs.SoundPair.{master_takes01}
use Rattle.runs.specs.LateSoundPair.{late_master01, late_tick01, late_run01, LateSoundPair}
use Rattle.turns.specs.declared.Master.{Master}
use Rattle.turns.specs.declared.Device.{Device}
use Rattle.turns.proofs.Windows.{Valid}
use Rattle.turns.proofs.Phases.{Ready, passing_ready}
use Rattle.turns.proofs.Fresh.{valid, master_is, device_is}
use Rattle.runs.proofs.SoundPairs.{Same, AllOutside, master_same, devices_same, same_outside}
use Rattle.runs.proofs.LateTicks.{ReadyAfter, ready_in}
use Rattle.runs.proofs.NoneOn.{started_rests}
use Rattle.runs.proofs.Item14.{late_ticks_of}

-- ---- a tick

master_late : (limit n : ℕ) (x : MasterSide) (heard : Heard) (call : MasterCall) → master_takes x.master heard (master_data x heard) ≡ master_takes01 x.master heard (master_data x heard)
    → late_master limit n x heard call ≡ late_master01 limit n x heard call
master_late limit zero x heard call e = master_same limit x heard call e
master_late limit (suc n) x heard call e = refl

pub tick_late : (limit a b : ℕ) (l : Link) (c : Calls) → Same l → late_tick limit a b l c ≡ late_tick01 limit a b l c
unfolding late_tick late_tick01
tick_late limit a b l c s = λ i. record {
  for_primary = master_late limit a l.primary l.line c.for_primary s.primary i;
  for_secondary = master_late limit b l.secondary l.line c.for_secondary s.secondary i;
  for_devices = devices_same limit l.line l.devices c.for_devices s.devices i;
}

-- ---- a run

runs_late : (limit a b : ℕ) (l : Link) (ticks : List Calls) → AllOutside l.line l.primary l.secondary l.devices → EachTick ReadyAfter (late_run limit a b l ticks)
    → late_run limit a b l ticks ≡ late_run01 limit a b l ticks
unfolding late_run late_run01
runs_late limit a b l [] o rs = refl
runs_late limit a b l (c ∷ cs) o (tick_and r rs) =
    (λ i. late_tick limit a b l c ∷ runs_late limit (a - 1) (b - 1) (link_after (late_tick limit a b l c)) cs r rs i)
    ∙ ap (λ (s : LinkStep). s ∷ late_run01 limit (a - 1) (b - 1) (link_after s) cs) (tick_late limit a b l c (same_outside l o))

-- ---- at the start every reader passes over what it hears, or rests

start_ready : {p : Profile} {primary : Bool} {retries : ℕ} {x : MasterSide} → MasterStarts p primary retries x → Ready x.master.receiver
start_ready {p} {primary} {retries} {x} s = subst Ready (sym (ap (λ (m : Master). m.receiver) (master_is p primary retries x.master s.starts))) passing_ready

started_ready : (limit : ℕ) → 2 ≤ limit → limit ≤ 255 → (p : Profile) → Valid p → (line : Heard) {x : DeviceSide} → Started limit p line x → Ready x.device.receiver
started_ready limit low high p v line {x} (starts_now s) = subst Ready (sym (ap (λ (d : Device). d.receiver) (device_is p s.preamble s.polling s.unique x.device s.starts).is)) passing_ready
started_ready limit low high p v line (started_before {x = y} e s call) =
    subst (λ (h : Heard). Ready (device_tick limit y h call).side.device.receiver) e (started_rests limit low high p v line y call s).good.quiet.ready

all_ready : (limit : ℕ) → 2 ≤ limit → limit ≤ 255 → (p : Profile) → Valid p → (line : Heard) {xs : List DeviceSide} → All (Started limit p line) xs → All (λ (x : DeviceSide). line ≡ Silence → Ready x.device.receiver) xs
all_ready limit low high p v line none = none
all_ready limit low high p v line (and s ss) = and (λ e. started_ready limit low high p v line s) (all_ready limit low high p v line ss)

pub late_sound_pair : (limit : ℕ) → 2 ≤ limit → limit ≤ 255 → LateSoundPair limit
late_sound_pair limit low high p retries a b l ticks k =
    runs_late limit a b l ticks (record { primary = λ e. start_ready k.primary; secondary = λ e. start_ready k.secondary; devices = all_ready limit low high p (valid p k.made) l.line k.devices })
    (ready_in (late_ticks_of limit low high p retries a b l ticks k))
