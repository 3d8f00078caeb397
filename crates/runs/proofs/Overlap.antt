-- Both masters send: each tick of that, the tail of the longer frame, and the silent line behind it, which is one that is in step.
use Prim.Native.Nat.{ℕ, suc, ◌≤◌, ◌<◌}
use native.Mathlib.Omega.{arith}
use mathlib.Core.Path.{◌≡◌, sym, ap, ◌∙◌}
use mathlib.Core.Bool.{Bool, true, false}
use mathlib.Core.List.{List}
use mathlib.Core.Logic.{◌⊎◌, inl, inr}
use lib.ListN.{length, get_or}
use Rattle.base.specs.Choice.{when◌then◌else◌}
use Rattle.base.proofs.Choices.{true_false}
use Rattle.frame.specs.declared.Header.{Header}
use Rattle.line.specs.Reader.{idle, passing}
use Rattle.line.specs.declared.Damage.TheVariants.{Framing}
use Rattle.line.specs.declared.Heard.{Heard}
use Rattle.line.specs.declared.Heard.TheVariants.{Silence, Character, Damaged}
use Rattle.line.specs.declared.Profile.{Profile}
use Rattle.line.specs.declared.Whole.{Whole}
use Rattle.turns.specs.Master.{own_rt1, any_stx, timer_after}
use Rattle.turns.specs.Link.{MasterCall, DeviceCall, MasterSide, MasterStep, DeviceSide, DeviceStep, master_tick, device_tick, device_ticks, sides, carried}
use Rattle.turns.specs.Run.{All, none, and, Distinct}
use Rattle.turns.specs.declared.Sent.{Sent}
use Rattle.turns.specs.declared.Sent.TheVariants.{Silent}
use Rattle.turns.specs.declared.Timer.{Timer}
use Rattle.turns.proofs.Masters.{Formed, stands, left, Still}
use Rattle.turns.proofs.DeviceTaking.{passed_over, crossed_passing, crossed_idle}
use Rattle.turns.proofs.Windows.{Valid}
use Rattle.turns.proofs.Listening.{timer_shut, master_finished}
use Rattle.turns.proofs.Lists.{Quietly, all_quiet, all_carried, all_sides, all_distinct, agreed_same}
use Rattle.turns.proofs.Phases.{Agreed, DeviceQuiet}
use Rattle.turns.proofs.Sending.{MasterPlace, inside, finished, MasterSpeaks, speaks_on}
use Rattle.runs.proofs.Stx.{StxEnded, WaitsOn, rt1_of, own_is}
use Rattle.turns.proofs.Quiet.{ClearLine, break_timer, sent_is, behind_break_clear}
use Rattle.runs.proofs.OutOfStep.{nobody, DeviceMisses, BothSpeak}
use Rattle.runs.proofs.Passing.{MasterPasses, passes_on, passes_quiet, DevicePasses, device_noise, passes_misses, device_ready}

-- ---- a master behind its own STX, whatever the line carried

pub record SpokeOut (p : Profile) (primary : Bool) (x : MasterSide) (step : MasterStep) : Type 0 where
  pub silent : step.sent ≡ Silent
  pub passes : MasterPasses p primary nobody step.side
  pub timer_is : step.side.master.timer ≡ break_timer p primary false
  pub left_is : left step.side.master.message.stage ≡ rt1_of p primary
  pub attempts_is : step.side.master.message.attempts ≡ x.master.message.attempts
  pub header_is : step.side.master.message.header ≡ x.master.message.header

some_rt1 : (p : Profile) → Valid p → (primary : Bool) → 1 ≤ rt1_of p primary
unfolding when◌then◌else◌
some_rt1 p v true = omega (arith, v.rt2_short)
some_rt1 p v false = omega (arith, v.rt2_short, v.secondary)

spoke_out : (limit : ℕ) → limit ≤ 255 → (p : Profile) → Valid p → (primary : Bool) (w : List ℕ) (message : Whole) (k : ℕ) (x : MasterSide) (heard : Heard) (call : MasterCall) → x.master.timer ≡ timer_after x.master.profile x.master.primary any_stx x.master.burst
    → Still x.master.message.stage
    → left x.master.message.stage ≡ own_rt1 x.master.profile x.master.primary → MasterSpeaks p primary false nobody k w message x → SpokeOut p primary x (master_tick limit x heard call)
spoke_out limit small p v primary w message k x heard call t still l s =
    let formed : Formed x.master.primary x.frame x.master.message = stands w message s.held s.header_is s.no_expansion (ap (λ (h : Header). h.kind) (sym s.header_is) ∙ s.type_is)
    (ap (λ (h : Header). h.primary) (sym s.header_is) ∙ s.bit_is ∙ sym s.is_it.primary_is) in
    let f = master_finished limit p primary x heard call small s.is_it s.deaf_is still formed (ap (λ (t : Timer). t.window) t ∙ timer_shut x.master.profile x.master.primary any_stx x.master.burst) in
    let is = f.rested.same_left ∙ l ∙ own_is p primary x.master s.is_it.profile_is s.is_it.primary_is in
    record {
      silent = f.silent;
      passes = record { listens = f.listens; receiver_is = f.same_receiver ∙ s.receiver_is; burst_is = f.same_burst ∙ s.burst_is; noted_is = f.same_noted ∙ s.noted_is };
      timer_is = f.same_timer ∙ t ∙ sent_is p primary false x.master s.is_it.profile_is s.is_it.primary_is s.burst_is;
      left_is = is;
      attempts_is = f.rested.same_attempts (omega (arith, is, some_rt1 p v primary));
      header_is = f.rested.same_header (omega (arith, is, some_rt1 p v primary));
    }

-- ---- the tail: x sends on alone, y and the devices pass over what they hear

pub record TailSends (p : Profile) (primary other : Bool) (k : ℕ) (w : List ℕ) (message : Whole) (x y : MasterSide) (xs : List DeviceSide) : Type 0 where
  pub speaks : MasterSpeaks p primary false nobody k w message x
  pub passes : MasterPasses p other nobody y
  pub devices : All (DevicePasses p) xs
  pub distinct : Distinct xs
  pub agreed : Agreed false nobody true xs

pub data TailTick (p : Profile) (primary other : Bool) (k : ℕ) (w : List ℕ) (message : Whole) (x y : MasterSide) (s t : MasterStep) (ss : List DeviceStep) : Type 0 where
  goes_on : suc k < length w → s.sent ≡ Sent.Character (get_or w (suc k) 0) → t.sent ≡ Silent → carried ss ≡ Silence → TailSends p primary other (suc k) w message s.side t.side (sides ss)
      → s.side.master.message.attempts ≡ x.master.message.attempts → WaitsOn y t → TailTick p primary other k w message x y s t ss
  ends : suc k ≡ length w → s.sent ≡ Silent → t.sent ≡ Silent → carried ss ≡ Silence → StxEnded p primary other false nobody true message.header s.side t.side (sides ss)
      → s.side.master.message.attempts ≡ x.master.message.attempts → WaitsOn y t → TailTick p primary other k w message x y s t ss

-- a device with nothing in hand might have been asked by the STX that it did not hear
asked_by_none : {p : Profile} (h : Header) {xs : List DeviceSide} → All (DevicePasses p) xs → All (DeviceQuiet p p.sto h p.rt1p) xs
asked_by_none h none = none
asked_by_none h (and s a) =
    let q = device_ready h s in
    and (record { listens = q.listens; ready = q.ready; in_time = omega (arith, q.in_time); asked_own = q.asked_own; asked_for = q.asked_for; back_due = q.back_due }) (asked_by_none h a)

pub tail_tick : (limit : ℕ) → 2 ≤ limit → (high : limit ≤ 255) → (p : Profile) → Valid p
    → (primary other : Bool) (k : ℕ) (w : List ℕ) (message : Whole) (x y : MasterSide) (xs : List DeviceSide) (cx cy : MasterCall) (cs : List DeviceCall) → TailSends p primary other k w message x y xs
    → TailTick p primary other k w message x y (master_tick limit x (Character (get_or w k 0)) cx) (master_tick limit y (Character (get_or w k 0)) cy) (device_ticks limit (Character (get_or w k 0)) xs cs)
tail_tick limit low high p v primary other k w message x y xs cx cy cs o = go o.speaks.place
  where
    heard : Heard
    heard = Character (get_or w k 0)

    go : MasterPlace k w x → TailTick p primary other k w message x y (master_tick limit x heard cx) (master_tick limit y heard cy) (device_ticks limit heard xs cs)
    go (inside below stage) =
        let s = speaks_on limit high p primary false nobody w message k x heard cx below stage o.speaks in
        let t = passes_on limit high p other nobody y (get_or w k 0) cy o.passes in
        let q = all_quiet limit heard cs (λ z c d. device_noise limit low high p v.some_sto heard z c d.listens (passed_over (get_or w k 0) d.receiver_is)) o.devices in
        goes_on below s.0 t.silent (all_carried q) (record { speaks = s.1; passes = t.passes; devices = all_sides q; distinct = all_distinct q o.distinct; agreed = agreed_same q o.agreed }) s.2 t.waits_on
    go (finished last timer still out) =
        let s = spoke_out limit high p v primary w message k x heard cx timer still out o.speaks in
        let t = passes_on limit high p other nobody y (get_or w k 0) cy o.passes in
        let q = all_quiet limit heard cs (λ z c d. device_noise limit low high p v.some_sto heard z c d.listens (passed_over (get_or w k 0) d.receiver_is)) o.devices in
        ends last s.silent t.silent (all_carried q)
        (record {
          sender = passes_quiet s.passes;
          listener = passes_quiet t.passes;
          sender_timer = s.timer_is;
          listener_timer = t.timer_is;
          sender_left = s.left_is;
          listener_left = t.gone;
          bit_is = o.speaks.bit_is;
          header_is = o.speaks.header_is ∙ sym s.header_is;
          devices = asked_by_none message.header (all_sides q);
          distinct = all_distinct q o.distinct;
          agreed = agreed_same q o.agreed;
          turn_is = λ z. absurd (true_false (sym z));
        })
        s.attempts_is t.waits_on

-- ---- both send

pub data BothTick (p : Profile) (k : ℕ) (w : List ℕ) (message : Whole) (w' : List ℕ) (message' : Whole) (a b : MasterSide) (s t : MasterStep) (ss : List DeviceStep) : Type 0 where
  both_go_on : s.sent ≡ Sent.Character (get_or w (suc k) 0) → t.sent ≡ Sent.Character (get_or w' (suc k) 0) → carried ss ≡ Silence → BothSpeak p (suc k) w message w' message' s.side t.side (sides ss)
      → BothTick p k w message w' message' a b s t ss
  primary_longer : s.sent ≡ Sent.Character (get_or w (suc k) 0) → t.sent ≡ Silent → carried ss ≡ Silence → TailSends p true false (suc k) w message s.side t.side (sides ss) → BothTick p k w message w' message' a b s t ss
  secondary_longer : s.sent ≡ Silent → t.sent ≡ Sent.Character (get_or w' (suc k) 0) → carried ss ≡ Silence → TailSends p false true (suc k) w' message' t.side s.side (sides ss)
      → BothTick p k w message w' message' a b s t ss
  both_end : s.sent ≡ Silent → t.sent ≡ Silent → carried ss ≡ Silence → ClearLine p 0 s.side t.side (sides ss) → BothTick p k w message w' message' a b s t ss

all_misses : {p : Profile} {xs : List DeviceSide} → All (DevicePasses p) xs → All (DeviceMisses p) xs
all_misses none = none
all_misses (and s a) = and (passes_misses s) (all_misses a)

all_ready : {p : Profile} (h : Header) {xs : List DeviceSide} → All (DevicePasses p) xs → All (DeviceQuiet p 0 h p.rt1p) xs
all_ready h none = none
all_ready h (and s a) = and (device_ready h s) (all_ready h a)

pub both_tick : (limit : ℕ) → 2 ≤ limit → (high : limit ≤ 255) → (p : Profile) → Valid p
    → (k : ℕ) (w : List ℕ) (message : Whole) (w' : List ℕ) (message' : Whole) (a b : MasterSide) (xs : List DeviceSide) (ca cb : MasterCall) (cs : List DeviceCall)
    → BothSpeak p k w message w' message' a b xs
    → BothTick p k w message w' message' a b (master_tick limit a (Damaged 0x00 Framing) ca) (master_tick limit b (Damaged 0x00 Framing) cb) (device_ticks limit (Damaged 0x00 Framing) xs cs)
unfolding when◌then◌else◌
both_tick limit low high p v k w message w' message' a b xs ca cb cs o = go o.primary.place o.secondary.place
  where
    heard : Heard
    heard = Damaged 0x00 Framing

    misses : (z : DeviceSide) (c : DeviceCall) → DeviceMisses p z → Quietly (DevicePasses p) z (device_tick limit z heard c)
    misses z c d = by d.misses_by
      where
        by : (z.device.receiver ≡ idle) ⊎ (z.device.receiver ≡ passing) → Quietly (DevicePasses p) z (device_tick limit z heard c)
        by (inl e) = device_noise limit low high p v.some_sto heard z c d.listens (crossed_idle 0x00 Framing e)
        by (inr e) = device_noise limit low high p v.some_sto heard z c d.listens (crossed_passing 0x00 Framing e)

    go : MasterPlace k w a → MasterPlace k w' b → BothTick p k w message w' message' a b (master_tick limit a heard ca) (master_tick limit b heard cb) (device_ticks limit heard xs cs)
    go (inside below stage) (inside below' stage') =
        let s = speaks_on limit high p true false nobody w message k a heard ca below stage o.primary in
        let t = speaks_on limit high p false false nobody w' message' k b heard cb below' stage' o.secondary in
        let q = all_quiet limit heard cs misses o.devices in
        both_go_on s.0 t.0 (all_carried q) (record { primary = s.1; secondary = t.1; devices = all_misses (all_sides q); distinct = all_distinct q o.distinct; agreed = agreed_same q o.agreed })
    go (inside below stage) (finished last timer still out) =
        let s = speaks_on limit high p true false nobody w message k a heard ca below stage o.primary in
        let t = spoke_out limit high p v false w' message' k b heard cb timer still out o.secondary in
        let q = all_quiet limit heard cs misses o.devices in
        primary_longer s.0 t.silent (all_carried q) (record { speaks = s.1; passes = t.passes; devices = all_sides q; distinct = all_distinct q o.distinct; agreed = agreed_same q o.agreed })
    go (finished last timer still out) (inside below stage) =
        let s = spoke_out limit high p v true w message k a heard ca timer still out o.primary in
        let t = speaks_on limit high p false false nobody w' message' k b heard cb below stage o.secondary in
        let q = all_quiet limit heard cs misses o.devices in
        secondary_longer s.silent t.0 (all_carried q) (record { speaks = t.1; passes = s.passes; devices = all_sides q; distinct = all_distinct q o.distinct; agreed = agreed_same q o.agreed })
    go (finished last timer still out) (finished last' timer' still' out') =
        let s = spoke_out limit high p v true w message k a heard ca timer still out o.primary in
        let t = spoke_out limit high p v false w' message' k b heard cb timer' still' out' o.secondary in
        let q = all_quiet limit heard cs misses o.devices in
        both_end s.silent t.silent (all_carried q)
        (behind_break_clear p v 0 nobody true message.header 0 _ _ _ (omega arith) (passes_quiet s.passes) (passes_quiet t.passes) s.timer_is t.timer_is
        (record {
          asked = record { by_primary = λ z. absurd (omega arith); by_secondary = λ z. absurd (omega arith); primary_header = λ z. absurd (omega arith); secondary_header = λ z. absurd (omega arith) };
          primary_left = λ z. s.left_is;
          secondary_left = λ z. t.left_is;
          primary_next = λ z. absurd (true_false (sym z));
          secondary_next = λ z. absurd (true_false (sym z));
          nobody = λ y z. absurd (omega (arith, s.left_is, v.rt2_short));
        })
        (all_ready message.header (all_sides q)) (all_distinct q o.distinct) (agreed_same q o.agreed))
