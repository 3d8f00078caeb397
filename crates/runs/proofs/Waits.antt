-- A master with a message that waits for its first character, and the other one: what each phase says of the two, whichever of them is the primary, and for how many ticks the message can still wait.
use Prim.Native.Nat.{ℕ, suc, ◌+◌, ◌*◌, ◌≤◌, ◌<◌}
use native.Mathlib.Omega.{arith}
use mathlib.Core.Path.{◌≡◌, refl, ap}
use mathlib.Core.Bool.{Bool, true, false}
use mathlib.Core.List.{List}
use lib.ListN.{length, get_or}
use Rattle.base.specs.Choice.{when◌then◌else◌}
use Rattle.frame.specs.declared.Header.{Header}
use Rattle.line.specs.declared.Heard.TheVariants.{Silence, Character}
use Rattle.line.specs.declared.Profile.{Profile}
use Rattle.line.specs.declared.Whole.{Whole}
use Rattle.turns.specs.Master.{burst_after}
use Rattle.turns.specs.Link.{MasterSide, MasterStep, DeviceSide, Link, LinkStep, link_after}
use Rattle.turns.specs.Run.{All, and}
use Rattle.turns.specs.declared.Sent.{Sent}
use Rattle.turns.specs.declared.Sent.TheVariants.{Silent}
use Rattle.turns.specs.declared.Noted.{Noted}
use Rattle.turns.specs.declared.Timer.{Timer}
use Rattle.turns.proofs.Masters.{left}
use Rattle.turns.proofs.DeviceSpeaking.{Frames, an_ack, a_back}
use Rattle.turns.proofs.Windows as W
use Rattle.turns.proofs.Windows.{OneSlot}
use Rattle.turns.proofs.Phases.{OneOf, here, further, MasterQuiet, ClearWindows}
use Rattle.runs.proofs.Beginning.{DeviceSpeaks}
use Rattle.runs.proofs.Begun.{next_after}
use Rattle.turns.proofs.Quiet.{NoSlot, ClearLine, SetLine}
use Rattle.runs.proofs.Stx.{OneMasterSends}
use Rattle.runs.proofs.SilentTick as T
use Rattle.runs.proofs.SilentTick.{FrameIs, is_ack, OneDeviceSends, MasterRests, MasterTries, SilentTick}
use Rattle.runs.proofs.Silences.{swapped}
use Rattle.turns.proofs.Senders.{carries}
use Rattle.runs.proofs.KeptLink.{KeptSide}
use Rattle.runs.proofs.Rank.{Pending, First, ClearRank, SetRank, burst_stx, own_back, pending_left}

-- ---- the master that waits, and the other

abbrev pub waiter : Bool → Link → MasterSide
waiter true l = l.primary
waiter false l = l.secondary

abbrev pub other : Bool → Link → MasterSide
other true l = l.secondary
other false l = l.primary

abbrev pub waiter_step : Bool → LinkStep → MasterStep
waiter_step true s = s.for_primary
waiter_step false s = s.for_secondary

abbrev pub other_step : Bool → LinkStep → MasterStep
other_step true s = s.for_secondary
other_step false s = s.for_primary

-- the other master's bit
abbrev pub not : Bool → Bool
not bit = when bit then false else true

-- a BACK is for the master that waits
abbrev pub is_own : Bool → Bool → Bool
is_own bit next = when bit then next else not next

-- ---- the silent line, said of the two

pub record ClearOf (p : Profile) (e : ℕ) (bit : Bool) (x y : MasterSide) : Type 0 where
  pub noted : Noted
  pub waiter_quiet : MasterQuiet p bit false noted x
  pub other_quiet : MasterQuiet p (not bit) false noted y
  pub windows : ClearWindows p y.master.timer x.master.timer
  pub awaits : 1 ≤ left y.master.message.stage → y.master.timer.next ≡ left y.master.message.stage
  pub most : left y.master.message.stage ≤ p.rt1s
  pub near : left x.master.message.stage ≡ 0 → left y.master.message.stage ≡ 0 → x.master.timer.next ≤ 2 * p.rt2 + e

pub clear_of : (p : Profile) (e : ℕ) (bit : Bool) (l : Link) → ClearLine p e l.primary l.secondary l.devices → ClearOf p e bit (waiter bit l) (other bit l)
unfolding when◌then◌else◌
clear_of p e true l c = record {
  noted = c.noted;
  waiter_quiet = c.primary;
  other_quiet = c.secondary;
  windows = swapped c.windows;
  awaits = c.secondary_awaits;
  most = c.secondary_most;
  near = λ j k. (c.near j k).0;
}
clear_of p e false l c = record {
  noted = c.noted;
  waiter_quiet = c.secondary;
  other_quiet = c.primary;
  windows = c.windows;
  awaits = c.primary_awaits;
  most = c.primary_most;
  near = λ j k. (c.near k j).1;
}

pub record SetOf (p : Profile) (n : ℕ) (next bit : Bool) (x y : MasterSide) : Type 0 where
  pub noted : Noted
  pub waiter_quiet : MasterQuiet p bit true noted x
  pub other_quiet : MasterQuiet p (not bit) true noted y
  pub some : 1 ≤ n
  pub most : n ≤ p.rt1p
  pub waiter_time : n < x.master.timer.quiet
  pub other_time : n < y.master.timer.quiet
  pub waiter_next : x.master.timer.next ≤ 1
  pub other_next : y.master.timer.next ≤ 1
  pub other_window : y.master.timer.window ≤ n
  pub awaits : 1 ≤ left y.master.message.stage → (is_own bit next ≡ false) × NoSlot y.master.timer

slot_next : {p : Profile} {n : ℕ} {t : Timer} → W.Slot p n t → (t.next ≤ 1) × (t.window ≤ n)
slot_next (W.shut e f) = (omega arith, omega arith)
slot_next (W.coming e f h) = (omega arith, omega arith)
slot_next (W.open_slot e f) = (omega arith, f)

slots : {p : Profile} {n : ℕ} {a b : Timer} → OneSlot p n a b → (a.next ≤ 1) × (a.window ≤ n) × (b.next ≤ 1) × (b.window ≤ n)
slots (W.OneSlot.first_shut e f s) = let q = slot_next s in (omega arith, omega arith, q.0, q.1)
slots (W.OneSlot.second_shut e f s) = let q = slot_next s in (q.0, q.1, omega arith, omega arith)

pub set_of : (p : Profile) (n : ℕ) (next bit : Bool) (l : Link) → SetLine p n next l.primary l.secondary l.devices → SetOf p n next bit (waiter bit l) (other bit l)
unfolding when◌then◌else◌
set_of p n next true l c =
    let s = slots c.slot in
    record {
      noted = c.noted;
      waiter_quiet = c.primary;
      other_quiet = c.secondary;
      some = c.some;
      most = c.most;
      waiter_time = c.primary_quiet;
      other_time = c.secondary_quiet;
      waiter_next = s.0;
      other_next = s.2;
      other_window = s.3;
      awaits = c.secondary_awaits;
    }
set_of p n next false l c =
    let s = slots c.slot in
    record {
      noted = c.noted;
      waiter_quiet = c.secondary;
      other_quiet = c.primary;
      some = c.some;
      most = c.most;
      waiter_time = c.secondary_quiet;
      other_time = c.primary_quiet;
      waiter_next = s.2;
      other_next = s.0;
      other_window = s.1;
      awaits = λ z. let w = c.primary_awaits z in (ap not w.0, w.1);
    }

-- ---- what comes of a silent tick, said of the two

pub data SilentView (p : Profile) (n : ℕ) (burst : Bool) (noted : Noted) (next bit : Bool) (l : Link) (s : LinkStep) (L : Type 0) : Type 0 where
  begins : (c : ℕ) → (waiter_step bit s).sent ≡ Sent.Character c → SilentView p n burst noted next bit l s L
  stays : (waiter_step bit s).sent ≡ Silent → (link_after s).line ≡ Silence → L → MasterRests (waiter bit l) (waiter_step bit s) → MasterRests (other bit l) (other_step bit s) → SilentView p n burst noted next bit l s L
  other_begins : (w : List ℕ) (message : Whole) → (waiter_step bit s).sent ≡ Silent → (link_after s).line ≡ Character (get_or w 0 0)
      → OneMasterSends p (not bit) bit burst noted next 0 w message (other bit (link_after s)) (waiter bit (link_after s)) (link_after s).devices
      → MasterRests (waiter bit l) (waiter_step bit s) → MasterTries (other bit l) (other_step bit s) → SilentView p n burst noted next bit l s L
  answer_begins : (w : List ℕ) (message : Whole) (u : ℕ) (on : Bool) → (waiter_step bit s).sent ≡ Silent → (link_after s).line ≡ Character (get_or w 0 0)
      → OneDeviceSends p an_ack burst noted (next_after burst next) 0 w message u on (link_after s).primary (link_after s).secondary (link_after s).devices
      → MasterRests (waiter bit l) (waiter_step bit s) → MasterRests (other bit l) (other_step bit s) → SilentView p n burst noted next bit l s L
  burst_begins : n ≡ 1 → (w : List ℕ) (message : Whole) (u : ℕ) → (waiter_step bit s).sent ≡ Silent → (link_after s).line ≡ Character (get_or w 0 0)
      → OneDeviceSends p a_back burst noted (not next) 0 w message u true (link_after s).primary (link_after s).secondary (link_after s).devices
      → MasterRests (waiter bit l) (waiter_step bit s) → MasterRests (other bit l) (other_step bit s) → SilentView p n burst noted next bit l s L

pub silent_view : (p : Profile) (n : ℕ) (burst : Bool) (noted : Noted) (next bit : Bool) (l : Link) (s : LinkStep) (L : Type 0) → SilentTick p n burst noted next l.primary l.secondary s.for_primary s.for_secondary s.for_devices L → SilentView p n burst noted next bit l s L
unfolding when◌then◌else◌
silent_view p n burst noted next true l s L (T.still_silent a b c k ra rb) = stays a (carries s a b c) k ra rb
silent_view p n burst noted next true l s L (T.primary_begins w message a b c o ra rb) = begins (get_or w 0 0) a
silent_view p n burst noted next true l s L (T.secondary_begins w message a b c o ra rb) = other_begins w message a (carries s a b c) o ra rb
silent_view p n burst noted next true l s L (T.ack_begins w message u on a b c o ra rb) = answer_begins w message u on a (carries s a b c) o ra rb
silent_view p n burst noted next true l s L (T.back_begins z w message u a b c o ra rb) = burst_begins z w message u a (carries s a b c) o ra rb
silent_view p n burst noted next false l s L (T.still_silent a b c k ra rb) = stays b (carries s a b c) k rb ra
silent_view p n burst noted next false l s L (T.primary_begins w message a b c o ra rb) = other_begins w message b (carries s a b c) o rb ra
silent_view p n burst noted next false l s L (T.secondary_begins w message a b c o ra rb) = begins (get_or w 0 0) b
silent_view p n burst noted next false l s L (T.ack_begins w message u on a b c o ra rb) = answer_begins w message u on b (carries s a b c) o rb ra
silent_view p n burst noted next false l s L (T.back_begins z w message u a b c o ra rb) = burst_begins z w message u b (carries s a b c) o rb ra

-- an ACK is not for a master that waits: the other one awaits it
pub answer_for : (bit : Bool) (l : Link) {on burst next : Bool} {h : Header} → FrameIs on burst next h l.primary l.secondary an_ack → Pending (waiter bit l) → (h.primary ≡ not bit) × (1 ≤ left (other bit l).master.message.stage)
unfolding when◌then◌else◌
answer_for bit l {h = h} (is_ack type pa pb) q = go bit h.primary refl q
  where
    go : (b z : Bool) → h.primary ≡ z → Pending (waiter b l) → (h.primary ≡ not b) × (1 ≤ left (other b l).master.message.stage)
    go true true e q = absurd (omega (arith, pa e, pending_left q))
    go true false e q = (e, pb e)
    go false true e q = (e, pa e)
    go false false e q = absurd (omega (arith, pb e, pending_left q))

-- ---- the length of the frame that is sent

pub frame_length : {p : Profile} {f : Frames} {k : ℕ} {w : List ℕ} {message : Whole} {u : ℕ} {on : Bool} {Q : DeviceSide → Type 0} {limit : ℕ} {xs : List DeviceSide} → OneOf (DeviceSpeaks p f k w message u on) Q xs → All (KeptSide limit) xs → length w ≤ limit + 29
frame_length (here s a) (and k ks) = omega (arith, s.held.sized, k.short)
frame_length (further q o) (and k ks) = frame_length o ks

-- ---- three ways to wait

-- it begins within d ticks, whatever the others do
pub data Soon (p : Profile) (bit : Bool) (d : ℕ) (l : Link) : Type 0 where
  first_window : (e : ℕ) → l.line ≡ Silence → ClearLine p e l.primary l.secondary l.devices → Pending (waiter bit l)
      → First (waiter bit l).master.timer (other bit l).master.timer (left (other bit l).master.message.stage) d → Soon p bit d l
  -- an ACK to the other master is sent, behind which BURST is clear
  behind_ack_lem : (burst : Bool) (noted : Noted) (next : Bool) (k : ℕ) (w : List ℕ) (message : Whole) (u : ℕ) → l.line ≡ Character (get_or w k 0)
      → OneDeviceSends p an_ack burst noted next k w message u false l.primary l.secondary l.devices → burst_after burst noted message.header ≡ false → message.header.primary ≡ not bit
      → Pending (waiter bit l) → length w + 2 ≤ d + suc k → Soon p bit d l

-- a device bursts
pub data Burst (p : Profile) (f : ℕ) (bit : Bool) (d : ℕ) (l : Link) : Type 0 where
  on_silence_lem : (n : ℕ) (next : Bool) → l.line ≡ Silence → SetLine p n next l.primary l.secondary l.devices → Pending (waiter bit l)
      → SetRank p f (is_own bit next) n (waiter bit l).master.timer (other bit l).master.timer (left (other bit l).master.message.stage) d → Burst p f bit d l
  -- the other master sends its STX
  on_stx : (noted : Noted) (next : Bool) (k : ℕ) (w : List ℕ) (message : Whole) → l.line ≡ Character (get_or w k 0) → OneMasterSends p (not bit) bit true noted next k w message (other bit l) (waiter bit l) l.devices
      → Pending (waiter bit l) → length w + burst_stx p f ≤ d + suc k → Burst p f bit d l
  -- an ACK to the other master is sent, behind which BURST is set
  on_ack : (burst : Bool) (noted : Noted) (next : Bool) (k : ℕ) (w : List ℕ) (message : Whole) (u : ℕ) (on : Bool) → l.line ≡ Character (get_or w k 0)
      → OneDeviceSends p an_ack burst noted next k w message u on l.primary l.secondary l.devices → burst_after burst noted message.header ≡ true
      → Pending (waiter bit l) → (is_own bit next ≡ true → length w + 2 + f + own_back p f ≤ d + suc k) → length w + 2 + f + 2 ≤ d + suc k → Burst p f bit d l
  -- a BACK is sent, to the other master or to the one that waits
  on_back : (burst : Bool) (noted : Noted) (next : Bool) (k : ℕ) (w : List ℕ) (message : Whole) (u : ℕ) → l.line ≡ Character (get_or w k 0)
      → OneDeviceSends p a_back burst noted next k w message u true l.primary l.secondary l.devices
      → Pending (waiter bit l) → (is_own bit next ≡ false → length w + own_back p f ≤ d + suc k) → length w + 2 ≤ d + suc k → Burst p f bit d l

-- no device bursts
pub data Clear (p : Profile) (f retries : ℕ) (bit : Bool) (d : ℕ) (l : Link) : Type 0 where
  on_silence_lem : (e : ℕ) → l.line ≡ Silence → ClearLine p e l.primary l.secondary l.devices → Pending (waiter bit l)
      → ClearRank p f retries (waiter bit l).master.timer (other bit l).master.timer (left (other bit l).master.message.stage) (other bit l).master.message.attempts d → Clear p f retries bit d l
  -- the other master sends its STX, and has at most n retries left
  on_stx : (noted : Noted) (next : Bool) (k : ℕ) (w : List ℕ) (message : Whole) → l.line ≡ Character (get_or w k 0) → OneMasterSends p (not bit) bit false noted next k w message (other bit l) (waiter bit l) l.devices
      → Pending (waiter bit l) → (n : ℕ) → retries + 1 ≤ (other bit l).master.message.attempts + n → length w + (n * (f + p.rt1s) + p.rt1s + p.sto + f + 2) ≤ d + suc k → Clear p f retries bit d l

-- what comes of a tick: the first character goes out, or the message waits on
pub data Next (bit : Bool) (s : LinkStep) (W : Link → Type 0) : Type 0 where
  began : (c : ℕ) → (waiter_step bit s).sent ≡ Sent.Character c → Next bit s W
  waits : (waiter_step bit s).sent ≡ Silent → W (link_after s) → Next bit s W
