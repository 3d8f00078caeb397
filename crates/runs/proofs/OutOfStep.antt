-- The silent line whose masters' windows are not in step: a tick of it leaves it so, or one party begins, heard whole by all others, or both masters begin together.
use Prim.Native.Nat.{ℕ, ◌-◌, ◌≤◌}
use native.Mathlib.Omega.{arith}
use mathlib.Core.Path.{◌≡◌, sym, ◌∙◌}
use mathlib.Core.Bool.{true, false}
use mathlib.Core.List.{List}
use mathlib.Core.Logic.{◌⊎◌, inl}
use lib.ListN.{get_or}
use Rattle.frame.specs.declared.Header.{Header}
use Rattle.line.specs.Reader.{idle, passing}
use Rattle.line.specs.declared.Heard.TheVariants.{Silence}
use Rattle.line.specs.declared.Profile.{Profile}
use Rattle.line.specs.declared.Whole.{Whole}
use Rattle.turns.specs.Link.{MasterCall, DeviceCall, MasterSide, MasterStep, DeviceSide, DeviceStep, master_tick, device_ticks, sides, carried}
use Rattle.turns.specs.Run.{All, Distinct, Sole}
use Rattle.turns.specs.declared.Sent.{Sent}
use Rattle.turns.specs.declared.Noted.{Noted}
use Rattle.turns.proofs.Windows.{Valid, Counted}
use Rattle.runs.proofs.Fair.{SoleTag}
use Rattle.turns.proofs.Lists.{AllQuiet, no_more, quiet_and, all_carried, all_sides, all_distinct, agreed_same}
use Rattle.turns.proofs.Phases.{Agreed, MasterQuiet, DeviceListens, DeviceQuiet, ShutFor}
use Rattle.runs.proofs.Beginning.{AllStill, nothing_still, still_and, SilentDevices, all_still, one_answers, one_bursts, silent_devices}
use Rattle.turns.proofs.Sending.{MasterSpeaks}
use Rattle.turns.proofs.Quiet.{Asked, none_due}
use Rattle.runs.proofs.SilentTick.{MasterTick, rests, begins, SilentTick, still_all}
use Rattle.runs.proofs.Silences.{shut_on, shut_for, asked_next, clear_master, clear_silent}

-- whom a master has noted that never heard of burst
abbrev pub nobody : Noted
nobody = record { long = false; address = 0 }

pub record OutOfStep (p : Profile) (a b : MasterSide) (xs : List DeviceSide) : Type 0 where
  pub g : ℕ
  pub h : Header
  pub primary : MasterQuiet p true false nobody a
  pub secondary : MasterQuiet p false false nobody b
  pub primary_shut : ShutFor g a.master.timer
  pub secondary_shut : ShutFor g b.master.timer
  pub devices : All (DeviceQuiet p g h 0) xs
  pub distinct : Distinct xs
  pub agreed : Agreed false nobody true xs
  pub asked : Asked g h a b

-- ---- both masters send

-- a device that has heard nothing of the frames, or passes over them
pub record DeviceMisses (p : Profile) (x : DeviceSide) : Type 0 where
  pub listens : DeviceListens p x
  pub misses_by : (x.device.receiver ≡ idle) ⊎ (x.device.receiver ≡ passing)

-- behind k + 1 characters of both frames
pub record BothSpeak (p : Profile) (k : ℕ) (w : List ℕ) (message : Whole) (w' : List ℕ) (message' : Whole) (a b : MasterSide) (xs : List DeviceSide) : Type 0 where
  pub primary : MasterSpeaks p true false nobody k w message a
  pub secondary : MasterSpeaks p false false nobody k w' message' b
  pub devices : All (DeviceMisses p) xs
  pub distinct : Distinct xs
  pub agreed : Agreed false nobody true xs

pub data OutOfStepTick (p : Profile) (a b : MasterSide) (s t : MasterStep) (ss : List DeviceStep) : Type 0 where
  alone : SilentTick p 0 false nobody true a b s t ss (OutOfStep p s.side t.side (sides ss)) → OutOfStepTick p a b s t ss
  together : (w : List ℕ) (message : Whole) (w' : List ℕ) (message' : Whole) → s.sent ≡ Sent.Character (get_or w 0 0) → t.sent ≡ Sent.Character (get_or w' 0 0) → carried ss ≡ Silence
      → BothSpeak p 0 w message w' message' s.side t.side (sides ss) → OutOfStepTick p a b s t ss

silent_character : {c : ℕ} → Sent.Silent ≡ Sent.Character c → ⊥
silent_character e = let z : ◌≡◌ {A = ℕ} 0 1 = cc in omega arith

-- devices that rest in a silent tick have idle readers
still_misses : {p : Profile} {g : ℕ} {h : Header} {n : ℕ} {xs : List DeviceSide} {ss : List DeviceStep} → AllStill p g h n xs ss → AllQuiet (DeviceMisses p) xs ss
still_misses nothing_still = no_more
still_misses (still_and q a) =
    quiet_and
    (record {
      silent = q.quietly.silent;
      same = q.quietly.same;
      same_burst = q.quietly.same_burst;
      same_primary = q.quietly.same_primary;
      good = record { listens = q.quietly.good.listens; misses_by = inl q.idle_is };
    })
    (still_misses a)

module _ (limit : ℕ) (low : 2 ≤ limit) (high : limit ≤ 255) (p : Profile) (v : Valid p) (a b : MasterSide) (xs : List DeviceSide) (ca cb : MasterCall) (cs : List DeviceCall) where
  pub out_of_step_tick : OutOfStep p a b xs → Sole (sides (device_ticks limit Silence xs cs)) × SoleTag (sides (device_ticks limit Silence xs cs))
      → OutOfStepTick p a b (master_tick limit a Silence ca) (master_tick limit b Silence cb) (device_ticks limit Silence xs cs)
  out_of_step_tick l sole =
      go
      (clear_master limit high p true nobody a ca l.primary)
      (clear_master limit high p false nobody b cb l.secondary)
      (silent_devices limit low high p v.some_sto l.g l.h 0 (λ x e. omega (arith, e)) false nobody true cs l.devices l.distinct l.agreed.each sole.1)
    where
      s : MasterStep
      s = master_tick limit a Silence ca

      t : MasterStep
      t = master_tick limit b Silence cb

      ss : List DeviceStep
      ss = device_ticks limit Silence xs cs

      -- where not both begin
      one : ((i j : ℕ) → s.sent ≡ Sent.Character i → t.sent ≡ Sent.Character j → ⊥) → MasterTick p true false nobody (Counted p a.master.timer) a s → MasterTick p false false nobody (Counted p b.master.timer) b t
          → SilentDevices p l.g l.h 0 xs ss → OutOfStepTick p a b s t ss
      one not ma mb d =
          alone (clear_silent p l.g l.h nobody _ l.distinct l.agreed sole.0 l.asked l.primary_shut l.secondary_shut
          (λ x y i j cx cy wx wy ea eb. not i j ea eb)
          (λ x y na nb ra rb still.
          let all = still_all still in
          let ag = agreed_same all l.agreed in
          record {
            g = l.g - 1;
            h = l.h;
            primary = na;
            secondary = nb;
            primary_shut = shut_for p l.g _ _ x l.primary_shut;
            secondary_shut = shut_for p l.g _ _ y l.secondary_shut;
            devices = none_due ag.each (all_sides all);
            distinct = all_distinct all l.distinct;
            agreed = ag;
            asked = asked_next l.asked ra rb;
          })
          ma mb d)

      go : MasterTick p true false nobody (Counted p a.master.timer) a s → MasterTick p false false nobody (Counted p b.master.timer) b t → SilentDevices p l.g l.h 0 xs ss → OutOfStepTick p a b s t ss
      go (rests ea es qa ra ma) mb d = one (λ i j x y. silent_character (sym es ∙ x)) (rests ea es qa ra ma) mb d
      go (begins x cx wx w message ex sx mx) (rests eb et qb rb mb) d = one (λ i j z y. silent_character (sym et ∙ y)) (begins x cx wx w message ex sx mx) (rests eb et qb rb mb) d
      go (begins x cx wx w message ex sx mx) (begins y cy wy w' message' ey sy my) (all_still d) =
          let q = still_misses d in
          together w message w' message' ex ey (all_carried q) (record { primary = sx; secondary = sy; devices = all_sides q; distinct = all_distinct q l.distinct; agreed = agreed_same q l.agreed })
      go (begins x cx wx w message ex sx mx) (begins y cy wy w' message' ey sy my) (one_answers z o) = absurd (omega (arith, shut_on p l.g a.master.timer x cx l.primary_shut z))
      go (begins x cx wx w message ex sx mx) (begins y cy wy w' message' ey sy my) (one_bursts z o) = absurd (omega (arith, z))
