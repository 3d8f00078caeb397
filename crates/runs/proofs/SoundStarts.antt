-- Theorem: "turns on a sound pair are those of document 01", from the parties' starts alone, each master starting at a tick of its own. In every run a silent tick meets every reader outside a frame, and there both rules say the same. The common start is the case in which both masters start in tick 0.
use Prim.Native.Nat.{ℕ, ◌-◌, ◌≤◌}
use mathlib.Core.Path.{◌≡◌, refl, sym, ap, subst, ◌∙◌}
use mathlib.Core.Bool.{Bool, true, false}
use mathlib.Core.List.{List, [], ◌∷◌}
use Rattle.base.proofs.Choices.{true_false}
use Rattle.line.specs.declared.Heard.{Heard}
use Rattle.line.specs.declared.Heard.TheVariants.{Silence}
use Rattle.line.specs.declared.Place.TheVariants.{Passing}
use Rattle.line.specs.declared.Profile.{Profile}
use Rattle.turns.specs.Link.{MasterSide, DeviceCall, no_call, DeviceSide, DeviceStep, device_tick, device_ticks, sides, carried, Link, LinkStep, Calls, link_after}
use Rattle.turns.specs.Run.{All, none, and, MasterStarts, DeviceStarts}
use Rattle.runs.specs.Late.{late_tick, late_run, Started, starts_now, started_before}
use Rattle.runs.specs.SoundPair.{link_tick01, run01, SoundFromStarts}
use Rattle.runs.specs.LateSoundPair.{late_tick01, late_run01, LateSoundFromStarts}
use Rattle.turns.specs.declared.Master.{Master}
use Rattle.turns.specs.declared.Device.{Device}
use Rattle.turns.proofs.Windows.{Valid}
use Rattle.turns.proofs.Phases.{Ready}
use Rattle.turns.proofs.Fresh.{valid, master_is, device_is}
use Rattle.turns.proofs.Lists.{Quietly}
use Rattle.turns.proofs.Silent.{ready_outside}
use Rattle.turns.proofs.NoGaps.{rests, DeviceState, started_master, started_device}
use Rattle.runs.proofs.SoundTicks.{AllOutside, same_outside}
use Rattle.runs.proofs.LateSound.{tick_late}
use Rattle.runs.proofs.NoneOn.{Rests, started_rests}
use Rattle.runs.proofs.Late.{common_start}
use Rattle.runs.proofs.Outside.{Outside, passing_outside}
use Rattle.runs.proofs.Parties as P
use Rattle.runs.proofs.Parties.{Party, Ticks, no_party, party_and, Each, Quiet, Phase, phase_next, phase_quiet, not_silent, Fresh, phase_first}
use Rattle.runs.proofs.PartyTicks.{master_party, MasterSeen, master_leaves, device_party, device_leaves}

-- ---- a tick

first_of : {Q : Party → Type 0} {v : Party} {vs : List Party} → Each Q (v ∷ vs) → Q v
first_of (P.and q qs) = q

others_of : {Q : Party → Type 0} {v : Party} {vs : List Party} → Each Q (v ∷ vs) → Each Q vs
others_of (P.and q qs) = qs

module _ (limit : ℕ) (low : 2 ≤ limit) (high : limit ≤ 255) (p : Profile) (valid-p : Valid p) where
  -- ---- the parties of a link

  data DeviceParties : List DeviceSide → List Party → Type 0 where
    no_device : DeviceParties [] []
    device_and : (left : List ℕ) {x : DeviceSide} {xs : List DeviceSide} {vs : List Party} → DeviceState limit low high p valid-p.some_sto left x → DeviceParties xs vs → DeviceParties (x ∷ xs) (device_party left x ∷ vs)

  record Seen (a b : ℕ) (l : Link) : Type 0 where
    primary_left : List ℕ
    secondary_left : List ℕ
    others : List Party
    primary : MasterSeen limit high p true a primary_left l.primary
    secondary : MasterSeen limit high p false b secondary_left l.secondary
    devices : DeviceParties l.devices others
    phase : Phase l.line (master_party primary_left l.primary ∷ (master_party secondary_left l.secondary ∷ others))

  -- where the line is silent, every reader is outside a frame
  devices_outside : {heard : Heard} {xs : List DeviceSide} {vs : List Party} → DeviceParties xs vs → (heard ≡ Silence → Each Quiet vs) → All (λ (x : DeviceSide). heard ≡ Silence → Outside x.device.receiver) xs
  devices_outside no_device q = none
  devices_outside (device_and left s ss) q = and (λ e. (first_of (q e)).outside) (devices_outside ss (λ e. others_of (q e)))

  seen_outside : {a b : ℕ} (l : Link) → Seen a b l → AllOutside l.line l.primary l.secondary l.devices
  seen_outside l s =
      let q = phase_quiet s.phase in
      record { primary = λ e. (first_of (q e)).outside; secondary = λ e. (first_of (others_of (q e))).outside; devices = devices_outside s.devices (λ e. others_of (others_of (q e))) }

  -- ---- a tick of them all

  record DevicesNext (heard : Heard) (vs : List Party) (ss : List DeviceStep) : Type 0 where
    others : List Party
    ticks : Ticks heard vs (carried ss) others
    devices : DeviceParties (sides ss) others

  devices_next : (heard : Heard) {xs : List DeviceSide} {vs : List Party} (cs : List DeviceCall) → DeviceParties xs vs → DevicesNext heard vs (device_ticks limit heard xs cs)
  unfolding device_ticks carried sides
  devices_next heard cs no_device = record { others = []; ticks = no_party; devices = no_device }
  devices_next heard [] (device_and left s ss) =
      let k = device_leaves limit low high p valid-p.some_sto heard no_call s in
      let n = devices_next heard [] ss in
      record { others = _; ticks = party_and k.step n.ticks; devices = device_and k.left k.state n.devices }
  devices_next heard (c ∷ cs) (device_and left s ss) =
      let k = device_leaves limit low high p valid-p.some_sto heard c s in
      let n = devices_next heard cs ss in
      record { others = _; ticks = party_and k.step n.ticks; devices = device_and k.left k.state n.devices }

  seen_next : (a b : ℕ) (l : Link) (c : Calls) → Seen a b l → Seen (a - 1) (b - 1) (link_after (late_tick limit a b l c))
  unfolding late_tick
  seen_next a b l c s =
      let x = master_leaves limit high p true a l.line c.for_primary s.primary in
      let y = master_leaves limit high p false b l.line c.for_secondary s.secondary in
      let d = devices_next l.line c.for_devices s.devices in
      record {
        primary_left = x.left;
        secondary_left = y.left;
        others = d.others;
        primary = x.seen;
        secondary = y.seen;
        devices = d.devices;
        phase = phase_next s.phase (party_and x.step (party_and y.step d.ticks));
      }

  runs_late : (a b : ℕ) (l : Link) (ticks : List Calls) → Seen a b l → late_run limit a b l ticks ≡ late_run01 limit a b l ticks
  unfolding late_run late_run01
  runs_late a b l [] s = refl
  runs_late a b l (c ∷ cs) s =
      (λ i. late_tick limit a b l c ∷ runs_late (a - 1) (b - 1) (link_after (late_tick limit a b l c)) cs (seen_next a b l c s) i)
      ∙ ap (λ (z : LinkStep). z ∷ late_run01 limit (a - 1) (b - 1) (link_after z) cs) (tick_late limit a b l c (same_outside l (seen_outside l s)))

  -- ---- the start

  fresh_party : (line : Heard) (v : Party) → v.left ≡ [] → v.deaf ≡ true → v.reader.place ≡ Passing → Fresh line v
  fresh_party line v n d e = record { quiet = record { nothing_left = n; outside = passing_outside v.reader e; deaf_passes = λ z. e }; deaf_then = λ i. d }

  master_fresh : (line : Heard) (primary : Bool) (retries : ℕ) (x : MasterSide) → MasterStarts p primary retries x → Fresh line (master_party [] x)
  master_fresh line primary retries x s =
      let e = master_is p primary retries x.master s.starts in
      fresh_party line (master_party [] x) refl (ap (λ (m : Master). m.deaf) e) (ap (λ (m : Master). m.receiver.place) e)

  master_seen : (n : ℕ) (primary : Bool) (retries : ℕ) (x : MasterSide) → MasterStarts p primary retries x → MasterSeen limit high p primary n [] x
  master_seen n primary retries x s =
      let e = master_is p primary retries x.master s.starts in
      record { state = started_master limit high p primary retries x s; shut = λ z. ap (λ (m : Master). m.timer.window) e; off_deaf = λ z. ap (λ (m : Master). m.deaf) e; off_left = λ z. refl }

  device_fresh : (line : Heard) {x : DeviceSide} → Started limit p line x → DeviceState limit low high p valid-p.some_sto [] x × Fresh line (device_party [] x)
  unfolding Ready
  device_fresh line {x} (starts_now s) =
      let e = (device_is p s.preamble s.polling s.unique x.device s.starts).is in
      (started_device limit low high p valid-p.some_sto x s, fresh_party line (device_party [] x) refl (ap (λ (d : Device). d.deaf) e) (ap (λ (d : Device). d.receiver.place) e))
  device_fresh line (started_before {x = y} e s call) =
      let k : Quietly (Rests p) y (device_tick limit y Silence call) = subst (λ (h : Heard). Quietly (Rests p) y (device_tick limit y h call)) e (started_rests limit low high p valid-p line y call s) in
      let q = k.good.quiet in
      let l = q.listens in (
        DeviceState.listens l.profile_is l.sound (rests l.hand),
        record { quiet = record { nothing_left = refl; outside = ready_outside _ q.ready; deaf_passes = λ z. absurd (true_false (sym z ∙ l.hears)) }; deaf_then = λ i. absurd (not_silent i e) },
      )

  record DevicesFresh (line : Heard) (xs : List DeviceSide) : Type 0 where
    others : List Party
    devices : DeviceParties xs others
    fresh : Each (Fresh line) others

  devices_fresh : (line : Heard) {xs : List DeviceSide} → All (Started limit p line) xs → DevicesFresh line xs
  devices_fresh line none = record { others = []; devices = no_device; fresh = P.none }
  devices_fresh line (and s ss) =
      let k = device_fresh line s in
      let n = devices_fresh line ss in
      record { others = _; devices = device_and [] k.0 n.devices; fresh = P.and k.1 n.fresh }

  seen_first : (retries a b : ℕ) (l : Link) → MasterStarts p true retries l.primary → MasterStarts p false retries l.secondary → All (Started limit p l.line) l.devices → Seen a b l
  seen_first retries a b l x y ds =
      let n = devices_fresh l.line ds in
      record {
        primary_left = [];
        secondary_left = [];
        others = n.others;
        primary = master_seen a true retries l.primary x;
        secondary = master_seen b false retries l.secondary y;
        devices = n.devices;
        phase = phase_first l.line (P.and (master_fresh l.line true retries l.primary x) (P.and (master_fresh l.line false retries l.secondary y) n.fresh));
      }

pub late_sound_from_starts : (limit : ℕ) → 2 ≤ limit → limit ≤ 255 → LateSoundFromStarts limit
late_sound_from_starts limit low high p retries a b l ticks made x y ds = let v = valid p made in runs_late limit low high p v a b l ticks (seen_first limit low high p v retries a b l x y ds)

-- ---- the common start

common_start_01 : (limit : ℕ) (l : Link) (ticks : List Calls) → late_run01 limit 0 0 l ticks ≡ run01 limit l ticks
unfolding run01 late_run01 late_tick01 link_tick01
common_start_01 limit l [] = refl
common_start_01 limit l (c ∷ cs) = ap (λ (ss : List LinkStep). link_tick01 limit l c ∷ ss) (common_start_01 limit (link_after (link_tick01 limit l c)) cs)

pub all_now : {limit : ℕ} {p : Profile} {line : Heard} {xs : List DeviceSide} → All (DeviceStarts p) xs → All (Started limit p line) xs
all_now none = none
all_now (and s ss) = and (starts_now s) (all_now ss)

pub sound_from_starts : (limit : ℕ) → 2 ≤ limit → limit ≤ 255 → SoundFromStarts limit
sound_from_starts limit low high p retries l ticks made x y ds = sym (common_start limit l ticks) ∙ late_sound_from_starts limit low high p retries 0 0 l ticks made x y (all_now ds) ∙ common_start_01 limit l ticks
