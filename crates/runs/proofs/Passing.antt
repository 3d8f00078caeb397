-- A party that passes over what it hears: a master that came in while a frame was sent, or whose own frame ended under another's, and a device behind a break.
use Prim.Native.Nat.{ℕ, ◌≤◌}
use native.Mathlib.Omega.{arith}
use mathlib.Core.Path.{◌≡◌, sym, ap, subst, ◌∙◌}
use mathlib.Core.Bool.{Bool, false}
use mathlib.Core.Logic.{inr}
use Rattle.frame.specs.declared.Header.{Header}
use Rattle.line.specs.Reader.{passing}
use Rattle.line.specs.declared.Heard.{Heard}
use Rattle.line.specs.declared.Heard.TheVariants.{Character}
use Rattle.line.specs.declared.Profile.{Profile}
use Rattle.turns.specs.Link.{MasterCall, DeviceCall, MasterSide, MasterStep, DeviceSide, master_tick, master_data, device_tick}
use Rattle.turns.specs.declared.Sent.TheVariants.{Silent}
use Rattle.turns.specs.declared.Noted.{Noted}
use Rattle.turns.specs.declared.Timer.{Timer}
use Rattle.turns.proofs.Turns.{listens_follows}
use Rattle.turns.proofs.Masters.{left}
use Rattle.turns.proofs.Devices.{ticks_in_hand}
use Rattle.turns.proofs.Taking as T
use Rattle.turns.proofs.DeviceTaking as DT
use Rattle.turns.proofs.DeviceTaking.{Noise}
use Rattle.turns.proofs.Listening.{timer_shut, master_does, rests_shut, device_does, rests_from, hand_listens}
use Rattle.turns.proofs.Lists.{Quietly}
use Rattle.turns.proofs.Phases.{MasterListens, MasterQuiet, DeviceListens, DeviceQuiet, Ready, passing_ready}
use Rattle.turns.specs.Master.{broken}
use Rattle.runs.proofs.Stx.{WaitsOn}
use Rattle.turns.proofs.Quiet.{break_timer, broken_is}
use Rattle.runs.proofs.OutOfStep.{DeviceMisses}

-- ---- a master

pub record MasterPasses (p : Profile) (primary : Bool) (noted : Noted) (x : MasterSide) : Type 0 where
  pub listens : MasterListens p primary x
  pub receiver_is : x.master.receiver ≡ passing
  pub burst_is : x.master.burst ≡ false
  pub noted_is : x.master.noted ≡ noted

-- behind one more character
pub record PassesOn (p : Profile) (primary : Bool) (noted : Noted) (x : MasterSide) (step : MasterStep) : Type 0 where
  pub silent : step.sent ≡ Silent
  pub passes : MasterPasses p primary noted step.side
  pub timer_is : step.side.master.timer ≡ break_timer p primary false
  pub gone : left step.side.master.message.stage ≡ 0
  pub waits_on : WaitsOn x step

pub passes_on : (limit : ℕ) → limit ≤ 255 → (p : Profile) (primary : Bool) (noted : Noted) (x : MasterSide) (c : ℕ) (call : MasterCall) → MasterPasses p primary noted x
    → PassesOn p primary noted x (master_tick limit x (Character c) call)
passes_on limit small p primary noted x c call s =
    let l = s.listens in
    let took = T.takes_passed x.frame (master_data x (Character c)) x.master l.hears l.still l.formed c s.receiver_is in
    let rest = rests_shut (ap (λ (t : Timer). t.window) took.timer_is ∙ timer_shut x.master.profile x.master.primary broken x.master.burst) (master_does limit p primary x (Character c) call small l.is_it took.took) in
    record {
      silent = rest.silent;
      passes = record { listens = rest.listens; receiver_is = rest.same_receiver ∙ took.receiver_is; burst_is = rest.same_burst ∙ took.burst_is ∙ s.burst_is; noted_is = rest.same_noted ∙ took.noted_is ∙ s.noted_is };
      timer_is = rest.same_timer ∙ took.timer_is ∙ broken_is p primary false x.master l.is_it.profile_is l.is_it.primary_is s.burst_is;
      gone = rest.rested.same_left ∙ took.gone;
      waits_on = λ z. let q = took.waits_on z in let r = rest.rested.waits_on q.0 in (r.0, r.1 ∙ q.1);
    }

-- where the line is silent then, its reader is ready
pub passes_quiet : {p : Profile} {primary : Bool} {noted : Noted} {x : MasterSide} → MasterPasses p primary noted x → MasterQuiet p primary false noted x
passes_quiet s = record { listens = s.listens; ready = subst Ready (sym s.receiver_is) passing_ready; burst_is = s.burst_is; noted_is = s.noted_is }

-- ---- a device

-- it loses what it hears, and nothing is in hand
pub record DevicePasses (p : Profile) (x : DeviceSide) : Type 0 where
  pub listens : DeviceListens p x
  pub receiver_is : x.device.receiver ≡ passing
  pub nothing : ticks_in_hand x.device.turn ≤ 0
  pub due_is : x.device.due ≡ p.rt1p

pub device_noise : (limit : ℕ) → 2 ≤ limit → limit ≤ 255 → (p : Profile) → 1 ≤ p.sto → (heard : Heard) (x : DeviceSide) (call : DeviceCall) → DeviceListens p x → Noise x.device.receiver heard
    → Quietly (DevicePasses p) x (device_tick limit x heard call)
device_noise limit low high p some heard x call l n =
    let own : 1 ≤ x.device.profile.sto = subst (λ (q : Profile). 1 ≤ q.sto) (sym l.profile_is) some in
    let took = DT.takes_noise x.frame x.contents x.device l.hears l.hand l.sound heard n in
    let goes = device_does limit x heard call low high own took.plain_is took.took in
    let rest = rests_from p x _ _ l.profile_is took.took.same goes (λ a b. a took.listens) (λ f. listens_follows (sym took.listens ∙ f)) in
    record {
      silent = rest.silent;
      same = rest.same;
      same_burst = rest.same_burst ∙ took.took.same_burst;
      same_primary = rest.same_primary ∙ took.took.same_primary;
      good = record {
        listens = rest.listens;
        receiver_is = rest.same_receiver ∙ took.receiver_is;
        nothing = omega (arith, rest.less_in_hand, ap ticks_in_hand took.listens);
        due_is = rest.same_due ∙ took.due_is ∙ ap (λ (q : Profile). q.rt1p) l.profile_is;
      };
    }

pub passes_misses : {p : Profile} {x : DeviceSide} → DevicePasses p x → DeviceMisses p x
passes_misses s = record { listens = s.listens; misses_by = inr s.receiver_is }

-- where the line is silent then, no answer can begin
pub device_ready : {p : Profile} (h : Header) {x : DeviceSide} → DevicePasses p x → DeviceQuiet p 0 h p.rt1p x
device_ready h {x} s =
    let turn = hand_listens x.device x.frame s.listens.hand s.nothing in
    record { listens = s.listens; ready = subst Ready (sym s.receiver_is) passing_ready; in_time = s.nothing; asked_own = λ z. absurd (z turn); asked_for = λ z. absurd (z turn); back_due = λ z. s.due_is }
