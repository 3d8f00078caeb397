-- One master is on, and the other comes in. Until then a master stands in the other's place that hears everything and is asked nothing: it sends nothing, so that the link with it does what the link does.
use Prim.Native.Nat.{ℕ, ◌≤◌}
use native.Mathlib.Omega.{arith}
use mathlib.Core.Path.{◌≡◌, sym, ap, subst, ◌∙◌}
use mathlib.Core.Bool.{Bool, true, false}
use mathlib.Core.List.{List}
use lib.ListN.{get_or}
use Rattle.base.specs.Choice.{when◌then◌else◌}
use Rattle.line.specs.declared.Heard.TheVariants.{Silence, Character}
use Rattle.line.specs.declared.Profile.{Profile}
use Rattle.turns.specs.Link.{MasterCall, no_request, MasterSide, MasterStep, DeviceSide, DeviceStep, Link, LinkStep, Calls, master_tick, device_ticks, link_tick, link_after, sides, carried, joins}
use Rattle.turns.specs.declared.Sent.TheVariants.{Silent}
use Rattle.turns.specs.declared.Noted.{Noted}
use Rattle.turns.specs.declared.Timer.{Timer}
use Rattle.turns.specs.declared.Stage.TheVariants.{Free}
use Rattle.turns.proofs.Masters.{left}
use Rattle.turns.proofs.Windows.{Valid}
use Rattle.turns.proofs.Phases.{Agreed, MasterQuiet}
use Rattle.turns.proofs.Fresh.{FreshTick}
use Rattle.turns.proofs.Quiet.{ClearLine, break_timer}
use Rattle.runs.proofs.Waits.{waiter, other, waiter_step, other_step, not}
use Rattle.runs.proofs.OutOfStep.{nobody, OutOfStep}
use Rattle.runs.proofs.Passing.{MasterPasses, PassesOn, passes_quiet}
use Rattle.runs.proofs.Idle.{free_tick}
use Rattle.runs.proofs.NoBurst.{NoBurstIn, NoBurst, no_burst_silent, no_burst_stx, no_burst_ack, no_burst_tick}

-- ---- one master is on

abbrev pick : {A : Type 0} → Bool → A → A → A
pick true x y = x
pick false x y = y

-- g in the place of the master that is not `bit`
abbrev pub beside : Bool → MasterSide → Link → Link
beside bit g l = record { primary = pick bit l.primary g; secondary = pick bit g l.secondary; devices = l.devices; line = l.line }

abbrev unasked : Bool → Calls → Calls
unasked bit c = record { for_primary = pick bit c.for_primary no_request; for_secondary = pick bit no_request c.for_secondary; for_devices = c.for_devices }

abbrev call_for : Bool → Calls → MasterCall
call_for bit c = pick bit c.for_primary c.for_secondary

-- the master `bit` is on; `listener` has heard what it has heard, and was asked nothing
pub record OneOn (p : Profile) (bit : Bool) (l : Link) : Type 0 where
  pub listener : MasterSide
  pub phase : NoBurst p (beside bit listener l)
  pub free : listener.master.message.stage ≡ Free

beside_tick : (limit : ℕ) (bit : Bool) (l : Link) (c : Calls) (g : MasterSide) (s : LinkStep) → waiter_step bit s ≡ master_tick limit (waiter bit l) l.line (call_for bit c)
    → (other_step bit s).sent ≡ (master_tick limit g l.line no_request).sent
    → s.for_devices ≡ device_ticks limit l.line l.devices c.for_devices → link_after (link_tick limit (beside bit g l) (unasked bit c)) ≡ beside bit (master_tick limit g l.line no_request).side (link_after s)
unfolding link_tick
beside_tick limit true l c g s a b d = λ i. record { primary = (sym a i).side; secondary = (master_tick limit g l.line no_request).side; devices = sides (sym d i); line = joins (sym a i).sent (joins (sym b i) (carried (sym d i))) }
beside_tick limit false l c g s a b d = λ i. record { primary = (master_tick limit g l.line no_request).side; secondary = (sym a i).side; devices = sides (sym d i); line = joins (sym b i) (joins (sym a i).sent (carried (sym d i))) }

-- a tick in which the other master sends nothing, whatever it is then
pub one_on : (limit : ℕ) → 2 ≤ limit → limit ≤ 255 → (p : Profile) → Valid p → (bit : Bool) (l : Link) (c : Calls) (s : LinkStep) → waiter_step bit s ≡ master_tick limit (waiter bit l) l.line (call_for bit c)
    → (other_step bit s).sent ≡ Silent
    → s.for_devices ≡ device_ticks limit l.line l.devices c.for_devices → OneOn p bit l → NoBurstIn s → OneOn p bit (link_after s)
unfolding link_tick
one_on limit low high p v bit l c s a b d h off =
    let f = free_tick limit h.listener l.line h.free in
    record {
      listener = (master_tick limit h.listener l.line no_request).side;
      phase = subst (NoBurst p) (beside_tick limit bit l c h.listener s a (b ∙ sym f.silent) d)
          (no_burst_tick limit low high p v (beside bit h.listener l) (unasked bit c) h.phase
          (subst (λ (ds : List DeviceStep). NoBurstIn (record { for_primary = s.for_primary; for_secondary = s.for_secondary; for_devices = ds })) d off));
      free = f.free;
    }

-- ---- the other master has come in: behind its first tick, or behind a character that it passed over

pub record CameIn (p : Profile) (primary : Bool) (x : MasterSide) : Type 0 where
  pub passes : MasterPasses p primary nobody x
  pub timer_is : x.master.timer ≡ break_timer p primary false

-- its first tick
pub fresh_came : {p : Profile} {primary : Bool} {step : MasterStep} → FreshTick p primary step → CameIn p primary step.side
fresh_came f = record { passes = record { listens = f.quiet.listens; receiver_is = f.passing_is; burst_is = f.quiet.burst_is; noted_is = f.quiet.noted_is }; timer_is = f.timer_is }

pub passed_came : {p : Profile} {primary : Bool} {x : MasterSide} {step : MasterStep} → PassesOn p primary nobody x step → CameIn p primary step.side
passed_came f = record { passes = f.passes; timer_is = f.timer_is }

-- both are on: on a silent line, or while the other passes over what it hears
pub data BothOn (p : Profile) (l : Link) : Type 0 where
  both_quiet : l.line ≡ Silence → OutOfStep p l.primary l.secondary l.devices → BothOn p l
  other_passes : (bit : Bool) (c : ℕ) → l.line ≡ Character c → OneOn p bit l → MasterPasses p (not bit) nobody (other bit l) → BothOn p l

-- a line whose windows are in step, taken as one of which that is not said
pub any_step : {p : Profile} {e : ℕ} {a b : MasterSide} {xs : List DeviceSide} (o : ClearLine p e a b xs) → o.noted ≡ nobody → OutOfStep p a b xs
any_step {p} {e} {a} {b} {xs} o is = record {
  g = o.g;
  h = o.h;
  primary = subst (λ (n : Noted). MasterQuiet p true false n a) is o.primary;
  secondary = subst (λ (n : Noted). MasterQuiet p false false n b) is o.secondary;
  primary_shut = o.primary_shut;
  secondary_shut = o.secondary_shut;
  devices = o.devices;
  distinct = o.distinct;
  agreed = subst (λ (n : Noted). Agreed false n true xs) is o.agreed;
  asked = o.asked;
}

-- the one that came in takes the place of the one that was asked nothing: its window opens RT1 from now, behind the time for an answer
secondary_in : {p : Profile} → Valid p → {a g b : MasterSide} {xs : List DeviceSide} (o : OutOfStep p a g xs) → o.g ≤ p.sto → g.master.message.stage ≡ Free → CameIn p false b → OutOfStep p a b xs
unfolding when◌then◌else◌
secondary_in v o short free x = record {
  g = o.g;
  h = o.h;
  primary = o.primary;
  secondary = passes_quiet x.passes;
  primary_shut = o.primary_shut;
  secondary_shut = record { shut = λ z. ap (λ (t : Timer). t.window) x.timer_is; later = λ z. omega (arith, short, v.sto_short, v.secondary, ap (λ (t : Timer). t.next) x.timer_is) };
  devices = o.devices;
  distinct = o.distinct;
  agreed = o.agreed;
  asked = record {
    by_primary = o.asked.by_primary;
    by_secondary = λ z y. absurd (omega (arith, o.asked.by_secondary z y, ap left free));
    primary_header = o.asked.primary_header;
    secondary_header = λ z y. absurd (omega (arith, o.asked.by_secondary z y, ap left free));
  };
}

primary_in : {p : Profile} → Valid p → {a g b : MasterSide} {xs : List DeviceSide} (o : OutOfStep p g b xs) → o.g ≤ p.sto → g.master.message.stage ≡ Free → CameIn p true a → OutOfStep p a b xs
unfolding when◌then◌else◌
primary_in v o short free x = record {
  g = o.g;
  h = o.h;
  primary = passes_quiet x.passes;
  secondary = o.secondary;
  primary_shut = record { shut = λ z. ap (λ (t : Timer). t.window) x.timer_is; later = λ z. omega (arith, short, v.sto_short, ap (λ (t : Timer). t.next) x.timer_is) };
  secondary_shut = o.secondary_shut;
  devices = o.devices;
  distinct = o.distinct;
  agreed = o.agreed;
  asked = record {
    by_primary = λ z y. absurd (omega (arith, o.asked.by_primary z y, ap left free));
    by_secondary = o.asked.by_secondary;
    primary_header = λ z y. absurd (omega (arith, o.asked.by_primary z y, ap left free));
    secondary_header = o.asked.secondary_header;
  };
}

came_in : (p : Profile) → Valid p → (bit : Bool) (l : Link) (h : OneOn p bit l) {e : ℕ} (o : ClearLine p e (beside bit h.listener l).primary (beside bit h.listener l).secondary l.devices) → o.noted ≡ nobody
    → CameIn p (not bit) (other bit l) → OutOfStep p l.primary l.secondary l.devices
unfolding when◌then◌else◌ any_step
came_in p v true l h o is x = secondary_in v (any_step o is) o.short h.free x
came_in p v false l h o is x = primary_in v (any_step o is) o.short h.free x

pub both_on : (p : Profile) → Valid p → (bit : Bool) (l : Link) → OneOn p bit l → CameIn p (not bit) (other bit l) → BothOn p l
both_on p v bit l h x = go h.phase
  where
    go : NoBurst p (beside bit h.listener l) → BothOn p l
    go (no_burst_stx b next k w message q o) = other_passes bit (get_or w k 0) q h x.passes
    go (no_burst_ack next k w message u q o) = other_passes bit (get_or w k 0) q h x.passes
    go (no_burst_silent e q o is) = both_quiet q (came_in p v bit l h o is x)
