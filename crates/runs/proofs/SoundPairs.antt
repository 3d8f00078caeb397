-- Theorem: under demand 3's premises a run is document 01's run. A silent tick meets every reader outside a frame, and there both rules say the same.
use Prim.Native.Nat.{ℕ, ◌-◌, ◌≤◌}
use native.Mathlib.Omega.{arith}
use mathlib.Core.Path.{◌≡◌, refl, sym, ap, ◌∙◌}
use mathlib.Core.Bool.{Bool, true, false}
use mathlib.Core.List.{List, [], ◌∷◌}
use Rattle.base.specs.Choice.{when◌then◌else◌}
use Rattle.base.proofs.Choices.{if_is_true, if_is_false}
use Rattle.frame.specs.declared.Header.{Header}
use Rattle.line.specs.Reader.{idle, silent_inside, inside_frame, taken, at_idle}
use Rattle.line.specs.Reader as R
use Rattle.line.specs.Profile.{fsk_profile}
use Rattle.line.specs.declared.Event.TheVariants.{Nothing, Broken}
use Rattle.line.specs.declared.Heard.{Heard}
use Rattle.line.specs.declared.Heard.TheVariants.{Silence, Character, Damaged}
use Rattle.line.specs.declared.Profile.{Profile}
use Rattle.line.specs.declared.Receiver.{Receiver}
use Rattle.line.specs.declared.Taken.{Taken}
use Rattle.turns.specs.Master as M
use Rattle.turns.specs.Master.{after_break, master_takes, master_sends, fresh_master}
use Rattle.turns.specs.Device as D
use Rattle.turns.specs.Device.{error_frame, device_takes, device_sends, fresh_device}
use Rattle.turns.specs.Link.{MasterCall, DeviceCall, no_call, MasterSide, master_data, master_calls, master_tick, DeviceSide, device_data, device_calls, device_tick, device_ticks, Link, LinkStep, Calls, link_tick, link_after, run}
use Rattle.turns.specs.Run.{All, none, and, DeviceStarts, Starts, EachTick, tick_and}
use Rattle.runs.specs.SoundPair.{silence01, master_silence01, device_silence01, master_hears01, master_takes01, master_tick01, device_hears01, device_takes01, device_tick01, device_ticks01, link_tick01, run01, SoundPair}
use Rattle.turns.specs.declared.Master.{Master}
use Rattle.turns.specs.declared.MasterTaken.{MasterTaken}
use Rattle.turns.specs.declared.MasterTold.{MasterTold}
use Rattle.turns.specs.declared.Device.{Device}
use Rattle.turns.specs.declared.DeviceTaken.{DeviceTaken}
use Rattle.turns.specs.declared.DeviceTold.{DeviceTold}
use Rattle.turns.proofs.Phases.{Ready, DeviceQuiet}
use Rattle.turns.proofs.Quiet.{clear, set}
use Rattle.turns.proofs.Fresh.{valid, master_is, device_is}
use Rattle.turns.proofs.Windows.{Valid}
use Rattle.runs.proofs.Fair.{Fair}
use Rattle.runs.proofs.Tags.{fair_run}
use Rattle.runs.proofs.NoTwoSend.{Phase, silent, primary_sends, secondary_sends, ack_sent, back_sent, phase_tick, phase_first}
use Rattle.turns.proofs.Silent.{ready_outside, master_outside, device_outside, counts_reads}

-- ---- a party whose reader is ready where the line is silent takes what document 01's takes

-- where the line is silent the reader stands in no frame
abbrev Outside : Heard → Receiver → Type 0
Outside heard r = heard ≡ Silence → Ready r

module _ (m : Master) (bytes : List ℕ) where
  silent_master : Ready m.receiver → M.on_heard m Silence bytes ≡ master_silence01 m
  unfolding Ready
  silent_master ready =
      master_outside m (ready_outside m.receiver ready)
      ∙ sym (if_is_false (inside_frame m.receiver.place) _ _ (ready_outside m.receiver ready))

  hears_same : (heard : Heard) → Outside heard m.receiver → M.on_heard m heard bytes ≡ master_hears01 m heard bytes
  hears_same Silence o = silent_master (o refl)
  hears_same (Character c) o = refl
  hears_same (Damaged c kind) o = refl

  master_takes_lem : (heard : Heard) → Outside heard m.receiver → master_takes m heard bytes ≡ master_takes01 m heard bytes
  unfolding master_takes master_takes01
  master_takes_lem heard o = ap (λ (t : MasterTaken). when m.deaf then M.tells m MasterTold.Nothing Nothing else t) (hears_same heard o)

module _ (d : Device) where
  silent_device : Ready d.receiver → D.on_heard d Silence ≡ device_silence01 d
  unfolding Ready
  silent_device ready =
      device_outside d (ready_outside d.receiver ready)
      ∙ sym (if_is_false (inside_frame d.receiver.place) _ _ (ready_outside d.receiver ready))

  device_hears_same : (heard : Heard) → Outside heard d.receiver → D.on_heard d heard ≡ device_hears01 d heard
  device_hears_same Silence o = silent_device (o refl)
  device_hears_same (Character c) o = refl
  device_hears_same (Damaged c kind) o = refl

  device_takes_lem : (heard : Heard) → Outside heard d.receiver → device_takes d heard ≡ device_takes01 d heard
  unfolding device_takes device_takes01
  device_takes_lem heard o = ap (λ (t : DeviceTaken). when d.deaf then D.tells d DeviceTold.Nothing Nothing else t) (device_hears_same heard o)

-- ---- ticks

pub master_same : (limit : ℕ) (x : MasterSide) (heard : Heard) (call : MasterCall) → master_takes x.master heard (master_data x heard) ≡ master_takes01 x.master heard (master_data x heard) → master_tick limit x heard call ≡ master_tick01 limit x heard call
unfolding master_tick master_tick01
master_same limit x heard call e = ap (λ (t : MasterTaken). master_calls limit t call x.frame (master_data x heard)) e

device_same : (limit : ℕ) (x : DeviceSide) (heard : Heard) (call : DeviceCall) → device_takes x.device heard ≡ device_takes01 x.device heard → device_tick limit x heard call ≡ device_tick01 limit x heard call
unfolding device_tick device_tick01
device_same limit x heard call e = ap (λ (t : DeviceTaken). device_calls limit t call (error_frame x.device t.event x.frame) (device_data x heard) x.contents) e

-- what every party takes is what document 01's takes
pub record Same (l : Link) : Type 0 where
  pub primary : master_takes l.primary.master l.line (master_data l.primary l.line) ≡ master_takes01 l.primary.master l.line (master_data l.primary l.line)
  pub secondary : master_takes l.secondary.master l.line (master_data l.secondary l.line) ≡ master_takes01 l.secondary.master l.line (master_data l.secondary l.line)
  pub devices : All (λ (x : DeviceSide). device_takes x.device l.line ≡ device_takes01 x.device l.line) l.devices

pub devices_same : (limit : ℕ) (heard : Heard) (xs : List DeviceSide) (calls : List DeviceCall) → All (λ (x : DeviceSide). device_takes x.device heard ≡ device_takes01 x.device heard) xs → device_ticks limit heard xs calls ≡ device_ticks01 limit heard xs calls
unfolding device_ticks device_ticks01
devices_same limit heard [] calls none = refl
devices_same limit heard (x ∷ xs) [] (and e es) = λ i. device_same limit x heard no_call e i ∷ devices_same limit heard xs [] es i
devices_same limit heard (x ∷ xs) (c ∷ cs) (and e es) = λ i. device_same limit x heard c e i ∷ devices_same limit heard xs cs es i

pub same_tick : (limit : ℕ) (l : Link) (c : Calls) → Same l → link_tick limit l c ≡ link_tick01 limit l c
unfolding link_tick link_tick01
same_tick limit l c s = λ i. record {
  for_primary = master_same limit l.primary l.line c.for_primary s.primary i;
  for_secondary = master_same limit l.secondary l.line c.for_secondary s.secondary i;
  for_devices = devices_same limit l.line l.devices c.for_devices s.devices i;
}

-- ---- a run: in the first tick nobody hears, and behind every tick a silent line meets readers that are ready

deaf_master : (m : Master) (heard : Heard) (bytes : List ℕ) → m.deaf ≡ true → master_takes m heard bytes ≡ master_takes01 m heard bytes
unfolding master_takes master_takes01
deaf_master m heard bytes e = if_is_true m.deaf _ _ e ∙ sym (if_is_true m.deaf _ _ e)

deaf_device : (d : Device) (heard : Heard) → d.deaf ≡ true → device_takes d heard ≡ device_takes01 d heard
unfolding device_takes device_takes01
deaf_device d heard e = if_is_true d.deaf _ _ e ∙ sym (if_is_true d.deaf _ _ e)

fresh_devices : (p : Profile) (heard : Heard) (xs : List DeviceSide) → All (DeviceStarts p) xs → All (λ (x : DeviceSide). device_takes x.device heard ≡ device_takes01 x.device heard) xs
fresh_devices p heard [] none = none
fresh_devices p heard (x ∷ xs) (and s ss) =
    let fresh = device_is p s.preamble s.polling s.unique x.device s.starts in
    and (deaf_device x.device heard (ap (λ (d : Device). d.deaf) fresh.is)) (fresh_devices p heard xs ss)

same_first : (p : Profile) (retries : ℕ) (l : Link) → Starts p retries l → Same l
same_first p retries l s = record {
  primary = deaf_master l.primary.master l.line _ (ap (λ (m : Master). m.deaf) (master_is p true retries l.primary.master s.primary.starts));
  secondary = deaf_master l.secondary.master l.line _ (ap (λ (m : Master). m.deaf) (master_is p false retries l.secondary.master s.secondary.starts));
  devices = fresh_devices p l.line l.devices s.devices;
}

-- the same where all readers are ready, or the line is not silent
pub record AllOutside (heard : Heard) (x y : MasterSide) (ds : List DeviceSide) : Type 0 where
  pub primary : Outside heard x.master.receiver
  pub secondary : Outside heard y.master.receiver
  pub devices : All (λ (d : DeviceSide). Outside heard d.device.receiver) ds

outside_devices : (heard : Heard) (ds : List DeviceSide) → All (λ (d : DeviceSide). Outside heard d.device.receiver) ds → All (λ (x : DeviceSide). device_takes x.device heard ≡ device_takes01 x.device heard) ds
outside_devices heard [] none = none
outside_devices heard (x ∷ xs) (and o os) = and (device_takes_lem x.device heard o) (outside_devices heard xs os)

pub same_outside : (l : Link) → AllOutside l.line l.primary l.secondary l.devices → Same l
same_outside l o = record {
  primary = master_takes_lem l.primary.master (master_data l.primary l.line) l.line o.primary;
  secondary = master_takes_lem l.secondary.master (master_data l.secondary l.line) l.line o.secondary;
  devices = outside_devices l.line l.devices o.devices;
}

pub quiet_devices : {heard : Heard} {p : Profile} {g : ℕ} {h : Header} {n : ℕ} {xs : List DeviceSide} → All (DeviceQuiet p g h n) xs → All (λ (x : DeviceSide). Outside heard x.device.receiver) xs
quiet_devices none = none
quiet_devices (and q qs) = and (λ e. q.ready) (quiet_devices qs)

character_silent : {c : ℕ} {heard : Heard} → heard ≡ Character c → heard ≡ Silence → ⊥
character_silent p q = let e = sym p ∙ q in let z : ◌≡◌ {A = ℕ} 0 1 = cc in omega arith

character_outside : {c : ℕ} (heard : Heard) → heard ≡ Character c → (xs : List DeviceSide) → All (λ (x : DeviceSide). Outside heard x.device.receiver) xs
character_outside heard q [] = none
character_outside heard q (x ∷ xs) = and (λ e. absurd (character_silent q e)) (character_outside heard q xs)

pub on_character_lem : {c : ℕ} (l : Link) → l.line ≡ Character c → AllOutside l.line l.primary l.secondary l.devices
on_character_lem l q = record { primary = λ e. absurd (character_silent q e); secondary = λ e. absurd (character_silent q e); devices = character_outside l.line q l.devices }

pub phase_outside : {p : Profile} {e : ℕ} (l : Link) → Phase p e l → AllOutside l.line l.primary l.secondary l.devices
phase_outside l (silent q (clear o)) = record { primary = λ e. o.primary.ready; secondary = λ e. o.secondary.ready; devices = quiet_devices o.devices }
phase_outside l (silent q (set n next o)) = record { primary = λ e. o.primary.ready; secondary = λ e. o.secondary.ready; devices = quiet_devices o.devices }
phase_outside l (primary_sends burst noted next k w message q o) = on_character_lem l q
phase_outside l (secondary_sends burst noted next k w message q o) = on_character_lem l q
phase_outside l (ack_sent burst noted next k w message u on q o) = on_character_lem l q
phase_outside l (back_sent burst noted next k w message u q o) = on_character_lem l q

run_same : (limit : ℕ) (l : Link) (c : Calls) (cs : List Calls) → Same l → run limit (link_after (link_tick limit l c)) cs ≡ run01 limit (link_after (link_tick limit l c)) cs → run limit l (c ∷ cs) ≡ run01 limit l (c ∷ cs)
unfolding run run01
run_same limit l c cs same on =
    (λ i. link_tick limit l c ∷ on i) ∙ ap (λ (s : LinkStep). s ∷ run01 limit (link_after s) cs) (same_tick limit l c same)

runs_same : (limit : ℕ) → 2 ≤ limit → limit ≤ 255 → (p : Profile) → Valid p → (e : ℕ) (l : Link) (ticks : List Calls) → Phase p e l → EachTick Fair (run limit l ticks) → run limit l ticks ≡ run01 limit l ticks
unfolding run run01
runs_same limit low high p v e l [] q b = refl
runs_same limit low high p v e l (c ∷ cs) q (tick_and b bs) =
    run_same limit l c cs (same_outside l (phase_outside l q)) (runs_same limit low high p v (e - 1) (link_after (link_tick limit l c)) cs (phase_tick limit low high p v e l c q b) bs)

pub sound_pair : (limit : ℕ) → 2 ≤ limit → limit ≤ 255 → SoundPair limit
unfolding run run01
sound_pair limit low high p retries l [] k = refl
sound_pair limit low high p retries l (c ∷ cs) k = go (fair_run limit p retries l (c ∷ cs) k)
  where
    go : EachTick Fair (run limit l (c ∷ cs)) → run limit l (c ∷ cs) ≡ run01 limit l (c ∷ cs)
    go (tick_and b bs) =
        let v = valid p k.made in
        let next = phase_first limit low high p v retries l c k.starts in
        run_same limit l c cs (same_first p retries l k.starts) (runs_same limit low high p v p.rt1s (link_after (link_tick limit l c)) cs next bs)

-- ---- in a silent tick the reader of each party is document 01's

abbrev MasterReads : Taken → MasterTaken → Type 0
MasterReads r t = (t.master.receiver ≡ r.receiver) × (t.event ≡ r.event)

pub master_reads_01 : (m : Master) → MasterReads (silence01 m.receiver) (master_silence01 m)
unfolding when◌then◌else◌
master_reads_01 m = go (inside_frame m.receiver.place)
  where
    behind : Master
    behind = M.master_with m idle m.burst m.noted m.timer m.message

    go : (inside : Bool) → MasterReads (when inside then R.tells idle Broken else R.tells idle Nothing) (when inside then M.counts (after_break m idle Broken).master (after_break m idle Broken).told Broken else M.counts behind MasterTold.Nothing Nothing)
    go true = counts_reads (after_break m idle Broken).master (after_break m idle Broken).told Broken
    go false = counts_reads behind MasterTold.Nothing Nothing

abbrev DeviceReads : Taken → DeviceTaken → Type 0
DeviceReads r t = (t.device.receiver ≡ r.receiver) × (t.event ≡ r.event)

pub device_reads_01 : (d : Device) → DeviceReads (silence01 d.receiver) (device_silence01 d)
unfolding when◌then◌else◌
device_reads_01 d = go (inside_frame d.receiver.place)
  where
    go : (inside : Bool) → DeviceReads (when inside then R.tells idle Broken else R.tells idle Nothing) (when inside then D.counts d idle (D.due_after d.profile (D.ended_by Broken)) Broken else D.counts d idle d.due Nothing)
    go true = (refl, refl)
    go false = (refl, refl)

-- ---- the two rules differ where a pair drops a character: behind the first 0xFF document 01's master or device breaks the frame, and this one does not

pub in_preamble : Master
in_preamble = (master_takes (master_takes (master_sends (fresh_master fsk_profile true 3) []).master Silence []).master (Character 0xFF) []).master

pub rules_differ : ((master_takes01 in_preamble Silence []).event ≡ Broken) × ((master_takes in_preamble Silence []).event ≡ Nothing)
unfolding in_preamble master_takes master_takes01 master_sends taken silent_inside at_idle when◌then◌else◌
rules_differ = (refl, refl)

pub device_in_preamble : Device
device_in_preamble = (device_takes (device_takes (device_sends (fresh_device fsk_profile 5 0 2) []).device Silence).device (Character 0xFF)).device

pub device_rules_differ : ((device_takes01 device_in_preamble Silence).event ≡ Broken) × ((device_takes device_in_preamble Silence).event ≡ Nothing)
unfolding device_in_preamble device_takes device_takes01 device_sends taken silent_inside at_idle when◌then◌else◌
device_rules_differ = (refl, refl)
