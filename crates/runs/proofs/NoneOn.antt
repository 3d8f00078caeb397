-- No master is on: devices that start, or started some ticks before, send nothing and rest, whatever their hosts give. So the first tick of a master behind any number of such ticks is that of the common start.
use Prim.Native.Nat.{ℕ, ◌≤◌}
use native.Mathlib.Omega.{arith}
use mathlib.Core.Path.{◌≡◌, sym, ap, subst, ◌∙◌}
use mathlib.Core.Bool.{true, false}
use mathlib.Core.List.{List}
use Rattle.base.proofs.Choices.{true_false}
use Rattle.line.specs.Reader.{no_header}
use Rattle.line.specs.declared.Heard.{Heard}
use Rattle.line.specs.declared.Heard.TheVariants.{Silence}
use Rattle.line.specs.declared.Profile.{Profile}
use Rattle.turns.specs.Link.{MasterCall, DeviceCall, MasterSide, DeviceSide, DeviceStep, master_tick, device_tick, device_ticks, sides}
use Rattle.turns.specs.Run.{All, none, and, Distinct, MasterStarts}
use Rattle.turns.specs.Ledgers.{blank, blanks}
use Rattle.runs.specs.Late.{Started, starts_now, started_before}
use Rattle.turns.specs.declared.Turn.TheVariants.{Listens}
use Rattle.turns.specs.declared.Device.{Device}
use Rattle.turns.proofs.Turns.{listens_asked}
use Rattle.runs.proofs.Fair.{answering}
use Rattle.turns.proofs.Windows.{Valid}
use Rattle.turns.proofs.Listening.{hand_listens}
use Rattle.turns.proofs.Lists.{Quietly, AllQuiet, all_quiet, all_sides, all_distinct}
use Rattle.turns.proofs.Phases.{Agreed, BurstIs, DeviceQuiet, Ready}
use Rattle.runs.proofs.Beginning.{DeviceDoes, does_rest, does_answer, does_burst, device_does}
use Rattle.turns.proofs.Quiet.{ClearLine, behind_break_clear}
use Rattle.turns.proofs.Fresh.{device_is, fresh_device_lem, fresh_master_lem}
use Rattle.runs.proofs.KeptLink.{DeviceKept, KeptSide, device_kept}
use Rattle.runs.proofs.Tags.{Owes, AllOwe, no_more, owe_and, nothing}
use Rattle.runs.proofs.OutOfStep.{nobody}

-- ---- a device

pub record Rests (p : Profile) (x : DeviceSide) : Type 0 where
  pub quiet : DeviceQuiet p 0 no_header 0 x
  pub off : x.device.burst ≡ false

-- it goes on resting on a silent line
pub rests_on : (limit : ℕ) → 2 ≤ limit → limit ≤ 255 → (p : Profile) → Valid p → (x : DeviceSide) (call : DeviceCall) → Rests p x → Quietly (Rests p) x (device_tick limit x Silence call)
rests_on limit low high p v x call r = go (device_does limit low high p v.some_sto 0 no_header 0 x call r.quiet)
  where
    go : DeviceDoes p 0 no_header 0 x (device_tick limit x Silence call) → Quietly (Rests p) x (device_tick limit x Silence call)
    go (does_rest s) = let q = s.quietly in record { silent = q.silent; same = q.same; same_burst = q.same_burst; same_primary = q.same_primary; good = record { quiet = q.good; off = q.same_burst ∙ r.off } }
    go (does_answer z a) = absurd (omega (arith, z))
    go (does_burst z b) = absurd (omega (arith, z))

-- one that starts, or started before, rests behind its next tick
pub started_rests : (limit : ℕ) → 2 ≤ limit → limit ≤ 255 → (p : Profile) → Valid p → (line : Heard) (x : DeviceSide) (call : DeviceCall) → Started limit p line x → Quietly (Rests p) x (device_tick limit x line call)
started_rests limit low high p v line x call (starts_now s) =
    let q = fresh_device_lem limit low high p v line x call s in
    let off : x.device.burst ≡ false = ap (λ (d : Device). d.burst) (device_is p s.preamble s.polling s.unique x.device s.starts).is in
    let is = q.same_burst ∙ off in
    record {
      silent = q.silent;
      same = q.same;
      same_burst = q.same_burst;
      same_primary = q.same_primary;
      good = record {
        quiet = record { listens = q.good.listens; ready = q.good.ready; in_time = q.good.in_time; asked_own = q.good.asked_own; asked_for = q.good.asked_for; back_due = λ z. absurd (true_false (sym z ∙ is)) };
        off = is;
      };
    }
started_rests limit low high p v line x call (started_before {x = y} e s before) =
    let q : Quietly (Rests p) y (device_tick limit y Silence before) = subst (λ (h : Heard). Quietly (Rests p) y (device_tick limit y h before)) e (started_rests limit low high p v line y before s) in
    subst (λ (h : Heard). Quietly (Rests p) (device_tick limit y Silence before).side (device_tick limit (device_tick limit y Silence before).side h call)) (sym e) (rests_on limit low high p v _ call q.good)

-- ---- all devices

-- each of them rests behind the next tick
abbrev pub NoneOn : ℕ → Profile → Heard → List DeviceSide → Type 0
NoneOn limit p line xs = All (λ (x : DeviceSide). (call : DeviceCall) → Quietly (Rests p) x (device_tick limit x line call)) xs

pub started_none : (limit : ℕ) → 2 ≤ limit → limit ≤ 255 → (p : Profile) → Valid p → (line : Heard) {xs : List DeviceSide} → All (Started limit p line) xs → NoneOn limit p line xs
started_none limit low high p v line none = none
started_none limit low high p v line (and {x = x} s ss) = and (λ call. started_rests limit low high p v line x call s) (started_none limit low high p v line ss)

pub rests_none : (limit : ℕ) → 2 ≤ limit → limit ≤ 255 → (p : Profile) → Valid p → {xs : List DeviceSide} → All (Rests p) xs → NoneOn limit p Silence xs
rests_none limit low high p v none = none
rests_none limit low high p v (and {x = x} r rs) = and (λ call. rests_on limit low high p v x call r) (rests_none limit low high p v rs)

pub none_tick : (limit : ℕ) (p : Profile) (line : Heard) {xs : List DeviceSide} (cs : List DeviceCall) → NoneOn limit p line xs → AllQuiet (Rests p) xs (device_ticks limit line xs cs)
none_tick limit p line cs all = all_quiet limit line cs (λ x c q. q c) all

pub rests_ready : {p : Profile} {heard : Heard} {xs : List DeviceSide} → All (Rests p) xs → All (λ (x : DeviceSide). heard ≡ Silence → Ready x.device.receiver) xs
rests_ready none = none
rests_ready (and r rs) = and (λ e. r.quiet.ready) (rests_ready rs)

rests_agreed : {p : Profile} {xs : List DeviceSide} → All (Rests p) xs → Agreed false nobody true xs
rests_agreed rs = record { each = each rs; one_bursts = λ z. absurd (true_false (sym z)) }
  where
    each : {p : Profile} {xs : List DeviceSide} → All (Rests p) xs → All (BurstIs false nobody true) xs
    each none = none
    each (and r rs) = and (record { burst_set = λ z. absurd (true_false (sym z ∙ r.off)); long_noted = λ z. absurd (true_false (sym z ∙ r.off)); unique_noted = λ z. absurd (true_false (sym z ∙ r.off)); next_is = λ z. absurd (true_false (sym z ∙ r.off)) }) (each rs)

rests_quiet : {p : Profile} {n : ℕ} {xs : List DeviceSide} → All (Rests p) xs → All (DeviceQuiet p 0 no_header n) xs
rests_quiet none = none
rests_quiet (and r rs) =
    let q = r.quiet in
    and (record { listens = q.listens; ready = q.ready; in_time = q.in_time; asked_own = q.asked_own; asked_for = q.asked_for; back_due = λ z. absurd (true_false (sym z ∙ r.off)) }) (rests_quiet rs)

-- both masters behind their first tick
pub first_line : (limit : ℕ) → limit ≤ 255 → (p : Profile) → Valid p → (retries : ℕ) (a b : MasterSide) (heard : Heard) (ca cb : MasterCall) {xs : List DeviceSide} {ss : List DeviceStep} → MasterStarts p true retries a
    → MasterStarts p false retries b → Distinct xs → AllQuiet (Rests p) xs ss
    → ClearLine p p.rt1s (master_tick limit a heard ca).side (master_tick limit b heard cb).side (sides ss)
first_line limit high p v retries a b heard ca cb sa sb d z =
    let fa = fresh_master_lem limit high p true retries a heard ca sa in
    let fb = fresh_master_lem limit high p false retries b heard cb sb in
    behind_break_clear p v p.rt1s nobody true no_header 0 _ _ _ (omega arith) fa.quiet fb.quiet fa.timer_is fb.timer_is
    (record {
      asked = record { by_primary = λ z. absurd (omega arith); by_secondary = λ z. absurd (omega arith); primary_header = λ z. absurd (omega arith); secondary_header = λ z. absurd (omega arith) };
      primary_left = λ z. absurd (omega (arith, fa.gone));
      secondary_left = λ z. absurd (omega (arith, fb.gone));
      primary_next = λ z. absurd (true_false (sym z));
      secondary_next = λ z. absurd (true_false (sym z));
      nobody = λ x y. omega arith;
    })
    (rests_quiet (all_sides z)) (all_distinct z d) (rests_agreed (all_sides z))

-- ---- what is kept of a device that started

pub started_kept : (limit : ℕ) → 2 ≤ limit → (p : Profile) (line : Heard) {xs : List DeviceSide} → All (Started limit p line) xs → All (KeptSide limit) xs
started_kept limit low p line none = none
started_kept limit low p line (and {x = x} s ss) = and (kept s) (started_kept limit low p line ss)
  where
    kept : {x : DeviceSide} → Started limit p line x → DeviceKept limit x.device
    kept {x} (starts_now s) =
        let f = device_is p s.preamble s.polling s.unique x.device s.starts in
        subst (DeviceKept limit) (sym f.is) (record { preamble_high = f.preamble_high; short = omega arith; content_short = omega arith })
    kept (started_before {x = y} e s call) = device_kept limit low y Silence call (kept s)

-- its host was told nothing
pub started_owe : (limit : ℕ) → 2 ≤ limit → limit ≤ 255 → (p : Profile) → Valid p → (line : Heard) {xs : List DeviceSide} → All (Started limit p line) xs → AllOwe (blanks xs) xs
unfolding blanks
started_owe limit low high p v line none = no_more
started_owe limit low high p v line (and {x = x} s ss) = owe_and (owes s) (started_owe limit low high p v line ss)
  where
    idle_owes : {d : Device} → 1 ≤ d.unique → d.turn ≡ Listens → Owes blank d
    idle_owes some turn = nothing some (λ n q. listens_asked n (sym turn ∙ q)) (ap answering turn)

    owes : {x : DeviceSide} → Started limit p line x → Owes blank x.device
    owes {x} (starts_now s) =
        let f = device_is p s.preamble s.polling s.unique x.device s.starts in
        idle_owes (omega (arith, f.unique_low, ap (λ (d : Device). d.unique) f.is)) (ap (λ (d : Device). d.turn) f.is)
    owes (started_before {x = y} e s call) =
        let q : Quietly (Rests p) y (device_tick limit y Silence call) = subst (λ (h : Heard). Quietly (Rests p) y (device_tick limit y h call)) e (started_rests limit low high p v line y call s) in
        let l = q.good.quiet.listens in
        idle_owes l.sound.unique_low (hand_listens _ _ l.hand q.good.quiet.in_time)
