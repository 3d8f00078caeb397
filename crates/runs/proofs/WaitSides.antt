-- The master that waits and the other one, whichever of them is the primary: what a tick leaves of each, what the line carries, and whose BACK is next.
use Prim.Native.Nat.{ℕ, ◌+◌, ◌*◌, ◌≤◌}
use native.Mathlib.Omega.{arith}
use mathlib.Core.Path.{◌≡◌, refl, sym, ap, ◌∙◌}
use mathlib.Core.Bool.{Bool, true, false}
use mathlib.Core.List.{List}
use lib.ListN.{length, get_or}
use Rattle.base.specs.Choice.{when◌then◌else◌}
use Rattle.base.proofs.Choices.{true_false}
use Rattle.frame.specs.declared.Header.{Header}
use Rattle.line.specs.declared.Heard.TheVariants.{Silence, Character}
use Rattle.line.specs.declared.Profile.{Profile}
use Rattle.line.specs.declared.Whole.{Whole}
use Rattle.turns.specs.Master.{burst_after}
use Rattle.turns.specs.Link.{MasterSide, DeviceSide, Link, LinkStep, Calls, link_after, sides, carried}
use Rattle.turns.specs.declared.Sent.{Sent}
use Rattle.turns.specs.declared.Sent.TheVariants.{Silent}
use Rattle.turns.specs.declared.Noted.{Noted}
use Rattle.turns.proofs.DeviceSpeaking.{an_ack}
use Rattle.turns.proofs.Windows.{Valid}
use Rattle.turns.proofs.Quiet.{ClearLine, SetLine}
use Rattle.runs.proofs.Stx.{OneMasterSends, StxEnded, StxTick, WaitsOn, rt1_of, stx_tick}
use Rattle.runs.proofs.SilentTick.{OneDeviceSends}
use Rattle.runs.proofs.AckBack.{noted_of}
use Rattle.turns.proofs.Senders.{carries}
use Rattle.runs.proofs.NoTwoSend.{heard_tick, primary_set, primary_clear, secondary_set, secondary_clear}
use Rattle.runs.proofs.KeptLink.{LinkSettled}
use Rattle.runs.proofs.Rank.{Pending}
use Rattle.runs.proofs.Waits.{waiter, other, waiter_step, other_step, not, is_own}

-- ---- whichever of the two is the primary

pub after_waiter : (bit : Bool) (s : LinkStep) (P : MasterSide → Type 0) → P (waiter_step bit s).side → P (waiter bit (link_after s))
after_waiter true s P q = q
after_waiter false s P q = q

pub after_other : (bit : Bool) (s : LinkStep) (P : MasterSide → Type 0) → P (other_step bit s).side → P (other bit (link_after s))
after_other true s P q = q
after_other false s P q = q

pub before_other : (bit : Bool) (s : LinkStep) (P : MasterSide → Type 0) → P (other bit (link_after s)) → P (other_step bit s).side
before_other true s P q = q
before_other false s P q = q

pub after_both : (bit : Bool) (s : LinkStep) (P : MasterSide → MasterSide → Type 0) → P (waiter_step bit s).side (other_step bit s).side → P (waiter bit (link_after s)) (other bit (link_after s))
after_both true s P q = q
after_both false s P q = q

pub still_pending : (bit : Bool) (l : Link) (s : LinkStep) → Pending (waiter bit l) → WaitsOn (waiter bit l) (waiter_step bit s) → Pending (waiter bit (link_after s))
still_pending bit l s q w =
    let k = w q.stage_is in
    after_waiter bit s Pending (record { stage_is = k.0; attempts_is = k.1 ∙ q.attempts_is })

pub waits_of : (bit : Bool) (l : Link) (s : LinkStep) → WaitsOn l.primary s.for_primary → WaitsOn l.secondary s.for_secondary → WaitsOn (waiter bit l) (waiter_step bit s)
waits_of true l s a b = a
waits_of false l s a b = b

pub silent_of : (bit : Bool) (s : LinkStep) → s.for_primary.sent ≡ Silent → s.for_secondary.sent ≡ Silent → (waiter_step bit s).sent ≡ Silent
silent_of true s a b = a
silent_of false s a b = b

pub other_line : (bit : Bool) (s : LinkStep) (c : ℕ) → (other_step bit s).sent ≡ Sent.Character c → (waiter_step bit s).sent ≡ Silent → carried s.for_devices ≡ Silence → (link_after s).line ≡ Character c
other_line true s c a b d = carries s b a d
other_line false s c a b d = carries s a b d

pub no_line : (bit : Bool) (s : LinkStep) → (other_step bit s).sent ≡ Silent → (waiter_step bit s).sent ≡ Silent → carried s.for_devices ≡ Silence → (link_after s).line ≡ Silence
no_line true s a b d = carries s b a d
no_line false s a b d = carries s a b d

-- whose BACK is next, by the masters' bits
pub own_other : (bit next : Bool) → next ≡ not bit → is_own bit next ≡ false
unfolding when◌then◌else◌
own_other true next e = e
own_other false next e = ap not e

pub own_turned : (bit next : Bool) → is_own bit (not next) ≡ not (is_own bit next)
unfolding when◌then◌else◌
own_turned true next = refl
own_turned false next = refl

-- where BURST is clear behind an ACK, its sender does not burst
pub off_is : {p : Profile} {burst : Bool} {noted : Noted} {next : Bool} {k : ℕ} {w : List ℕ} {message : Whole} {u : ℕ} {a b : MasterSide} {xs : List DeviceSide} (on : Bool)
    → OneDeviceSends p an_ack burst noted next k w message u on a b xs → burst_after burst noted message.header ≡ false → on ≡ false
off_is true o e = absurd (true_false (sym (noted_of refl o.devices o.agreed.each).0 ∙ e))
off_is false o e = refl

-- "plus 4×F + RT1 secondary + 2×RT2 if a device bursts meanwhile"
abbrev pub burst_gain : Profile → ℕ → ℕ
burst_gain p f = 4 * f + p.rt1s + 2 * p.rt2

-- the length of the other master's STX
pub stx_length : (limit retries : ℕ) (p : Profile) (bit : Bool) {burst : Bool} {noted : Noted} {next : Bool} {k : ℕ} {w : List ℕ} {message : Whole} (m : Link) → LinkSettled limit retries m
    → OneMasterSends p (not bit) bit burst noted next k w message (other bit m) (waiter bit m) m.devices → length w ≤ limit + 29
unfolding when◌then◌else◌
stx_length limit retries p true m kept o = omega (arith, o.speaks.held.sized, kept.secondary.kept.short)
stx_length limit retries p false m kept o = omega (arith, o.speaks.held.sized, kept.primary.kept.short)

-- a tick while the other master sends its STX
pub stx_of : (limit : ℕ) → 2 ≤ limit → limit ≤ 255 → (p : Profile) → Valid p → (bit : Bool) (l : Link) (c : Calls) (burst : Bool) (noted : Noted) (next : Bool) (k : ℕ) (w : List ℕ) (message : Whole)
    → OneMasterSends p (not bit) bit burst noted next k w message (other bit l) (waiter bit l) l.devices
    → StxTick p (not bit) bit burst noted next k w message (other bit l) (waiter bit l) (other_step bit (heard_tick limit l (Character (get_or w k 0)) c)) (waiter_step bit (heard_tick limit l (Character (get_or w k 0)) c)) (heard_tick limit l (Character (get_or w k 0)) c).for_devices
unfolding heard_tick when◌then◌else◌
stx_of limit low high p v true l c burst noted next k w message o =
    stx_tick limit low high p v false true burst noted next k w message l.secondary l.primary l.devices c.for_secondary c.for_primary c.for_devices o
stx_of limit low high p v false l c burst noted next k w message o =
    stx_tick limit low high p v true false burst noted next k w message l.primary l.secondary l.devices c.for_primary c.for_secondary c.for_devices o

-- the silent line behind it
pub set_after : (p : Profile) → Valid p → (bit : Bool) (s : LinkStep) {noted : Noted} {next : Bool} {h : Header} → StxEnded p (not bit) bit true noted next h (other_step bit s).side (waiter_step bit s).side (sides s.for_devices)
    → SetLine p p.rt1p next (link_after s).primary (link_after s).secondary (link_after s).devices
unfolding when◌then◌else◌
set_after p v true s x = secondary_set p v 0 x
set_after p v false s x = primary_set p v 0 x

pub clear_after : (p : Profile) → Valid p → (bit : Bool) (s : LinkStep) {noted : Noted} {next : Bool} {h : Header} → StxEnded p (not bit) bit false noted next h (other_step bit s).side (waiter_step bit s).side (sides s.for_devices)
    → ClearLine p 0 (link_after s).primary (link_after s).secondary (link_after s).devices
unfolding when◌then◌else◌
clear_after p v true s x = secondary_clear p v 0 x
clear_after p v false s x = primary_clear p v 0 x

-- RT1 is some ticks, and no more than the secondary's
pub some_rt1 : (p : Profile) → Valid p → (bit : Bool) → (1 ≤ rt1_of p bit) × (rt1_of p bit ≤ p.rt1s)
unfolding when◌then◌else◌
some_rt1 p v true = (omega (arith, v.rt2_short), omega (arith, v.secondary))
some_rt1 p v false = (omega (arith, v.rt2_short, v.secondary), omega arith)

-- the other master still sends
pub sends_on : (bit : Bool) (s : LinkStep) {p : Profile} {burst : Bool} {noted : Noted} {next : Bool} {k : ℕ} {w : List ℕ} {message : Whole} → OneMasterSends p (not bit) bit burst noted next k w message (other_step bit s).side (waiter_step bit s).side (sides s.for_devices)
    → OneMasterSends p (not bit) bit burst noted next k w message (other bit (link_after s)) (waiter bit (link_after s)) (link_after s).devices
unfolding when◌then◌else◌
sends_on true s o = o
sends_on false s o = o
