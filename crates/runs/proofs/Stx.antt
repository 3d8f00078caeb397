-- A tick of the whole link while a master sends its STX.
use Prim.Native.Nat.{ℕ, suc, ◌≤◌, ◌<◌}
use native.Mathlib.Omega.{arith}
use mathlib.Core.Path.{◌≡◌, refl, sym, ap, subst, ◌∙◌}
use mathlib.Core.Bool.{Bool, true, false}
use mathlib.Core.List.{List}
use lib.ListN.{length, get_or, take}
use Rattle.base.specs.Choice.{when◌then◌else◌, ◌=?◌}
use Rattle.base.proofs.Choices.{if_is_false}
use Rattle.frame.specs.Delimiter.{stx, ack}
use Rattle.frame.specs.declared.Header.{Header}
use Rattle.line.specs.Reader.{idle}
use Rattle.line.specs.declared.Heard.{Heard}
use Rattle.line.specs.declared.Heard.TheVariants.{Silence, Character}
use Rattle.line.specs.declared.Profile.{Profile}
use Rattle.line.specs.declared.Whole.{Whole}
use Rattle.line.proofs.Leads.{reader_after}
use Rattle.turns.specs.Master.{burst_after, own_rt1}
use Rattle.turns.specs.Device.{due_after}
use Rattle.turns.specs.Link.{MasterCall, DeviceCall, MasterSide, MasterStep, DeviceSide, DeviceStep, master_tick, device_tick, device_ticks, sides, carried}
use Rattle.turns.specs.Run.{All, Distinct}
use Rattle.turns.specs.declared.Sent.{Sent}
use Rattle.turns.specs.declared.Sent.TheVariants.{Silent}
use Rattle.turns.specs.declared.Noted.{Noted}
use Rattle.turns.specs.declared.Stage.TheVariants.{Waiting}
use Rattle.turns.specs.declared.Master.{Master}
use Rattle.turns.proofs.Masters.{left}
use Rattle.turns.proofs.Spoken.{Spoken}
use Rattle.turns.proofs.Devices.{own_kept}
use Rattle.turns.proofs.Windows.{Valid}
use Rattle.turns.proofs.Listening.{master_frame, device_mid, device_frame}
use Rattle.turns.proofs.Lists.{Quietly, all_quiet, all_carried, all_sides, all_distinct, agreed_same}
use Rattle.turns.proofs.Phases.{Agreed, MasterQuiet, DeviceQuiet, Ready, idle_ready}
use Rattle.runs.proofs.Beginning.{DeviceHears}
use Rattle.turns.proofs.Sending.{MasterPlace, inside, finished, MasterSpeaks, MasterHears, speaks_on, speaks_out, hears_on}
use Rattle.turns.proofs.Quiet.{break_timer, sent_is, stx_burst, stx_noted, stx_timer}

module _ (limit : ℕ) (low : 2 ≤ limit) (high : limit ≤ 255) (p : Profile) (some : 1 ≤ p.sto) (w : List ℕ) (message : Whole) (sp : Spoken w message) (k : ℕ) where
  -- a device hears one more character of the frame w
  pub device_hears_on : (u : ℕ) → suc k < length w → (x : DeviceSide) (c : DeviceCall) → DeviceHears p (reader_after idle (take k w)) u x
      → Quietly (DeviceHears p (reader_after idle (take (suc k) w)) u) x (device_tick limit x (Character (get_or w k 0)) c)
  device_hears_on u below x c h =
      let m = device_mid limit low high p some x c h.listens w message k sp below h.receiver_is in
      record {
        silent = m.silent;
        same = m.same;
        same_burst = m.same_burst;
        same_primary = m.same_primary;
        good = record { listens = m.listens; receiver_is = m.receiver_is; another = λ e. h.another (sym m.same.same_unique ∙ e) };
      }

  -- and the last one of an STX
  device_hears_stx : suc k ≡ length w → message.expansion ≡ 0 → message.header.kind ≡ stx → (x : DeviceSide) (c : DeviceCall) → DeviceHears p (reader_after idle (take k w)) 0 x
      → Quietly (DeviceQuiet p p.sto message.header p.rt1p) x (device_tick limit x (Character (get_or w k 0)) c)
  device_hears_stx last ne type x c h =
      let f = device_frame limit low high p some x c h.listens w message k sp last h.receiver_is ne in
      record {
        silent = f.silent;
        same = f.same;
        same_burst = f.same_burst;
        same_primary = f.same_primary;
        good = record {
          listens = f.listens;
          ready = subst Ready (sym f.receiver_is) idle_ready;
          in_time = f.in_time;
          asked_own = λ z. own_kept message.header f.same (f.asked_own z);
          asked_for = f.request_is;
          back_due = λ z. f.due_is ∙ ap (due_after p) (if_is_false (message.header.kind =? ack) _ _ (ap (λ (n : ℕ). n =? ack) type));
        };
      }

-- a master sends, behind k + 1 characters of its STX; y is the other one. With BURST set the next BACK is for the sender.
pub record OneMasterSends (p : Profile) (primary other burst : Bool) (noted : Noted) (next : Bool) (k : ℕ) (w : List ℕ) (message : Whole) (x y : MasterSide) (xs : List DeviceSide) : Type 0 where
  pub speaks : MasterSpeaks p primary burst noted k w message x
  pub hears : MasterHears p other burst noted (reader_after idle (take k w)) y
  pub devices : All (DeviceHears p (reader_after idle (take k w)) 0) xs
  pub distinct : Distinct xs
  pub agreed : Agreed burst noted next xs
  pub turn_is : burst ≡ true → next ≡ primary

-- RT1 of the primary or of the secondary
abbrev pub rt1_of : Profile → Bool → ℕ
rt1_of p primary = when primary then p.rt1p else p.rt1s

pub own_is : (p : Profile) (primary : Bool) (m : Master) → m.profile ≡ p → m.primary ≡ primary → own_rt1 m.profile m.primary ≡ rt1_of p primary
own_is p primary m a b = λ i. when b i then (a i).rt1p else (a i).rt1s

-- both masters behind the STX: the sender awaits its ACK for RT1
pub record StxEnded (p : Profile) (primary other burst : Bool) (noted : Noted) (next : Bool) (h : Header) (x y : MasterSide) (xs : List DeviceSide) : Type 0 where
  pub sender : MasterQuiet p primary burst noted x
  pub listener : MasterQuiet p other burst noted y
  pub sender_timer : x.master.timer ≡ break_timer p primary burst
  pub listener_timer : y.master.timer ≡ break_timer p other burst
  pub sender_left : left x.master.message.stage ≡ rt1_of p primary
  pub listener_left : left y.master.message.stage ≡ 0
  pub bit_is : h.primary ≡ primary
  pub header_is : h ≡ x.master.message.header
  pub devices : All (DeviceQuiet p p.sto h p.rt1p) xs
  pub distinct : Distinct xs
  pub agreed : Agreed burst noted next xs
  pub turn_is : burst ≡ true → next ≡ primary

-- a message that waits goes on waiting
abbrev pub WaitsOn : MasterSide → MasterStep → Type 0
WaitsOn y t = y.master.message.stage ≡ Waiting → (t.side.master.message.stage ≡ Waiting) × (t.side.master.message.attempts ≡ y.master.message.attempts)

pub data StxTick (p : Profile) (primary other burst : Bool) (noted : Noted) (next : Bool) (k : ℕ) (w : List ℕ) (message : Whole) (x y : MasterSide) (s t : MasterStep) (ss : List DeviceStep) : Type 0 where
  goes_on : suc k < length w → s.sent ≡ Sent.Character (get_or w (suc k) 0) → t.sent ≡ Silent → carried ss ≡ Silence → OneMasterSends p primary other burst noted next (suc k) w message s.side t.side (sides ss)
      → s.side.master.message.attempts ≡ x.master.message.attempts → WaitsOn y t → StxTick p primary other burst noted next k w message x y s t ss
  ends : suc k ≡ length w → s.sent ≡ Silent → t.sent ≡ Silent → carried ss ≡ Silence → StxEnded p primary other burst noted next message.header s.side t.side (sides ss)
      → s.side.master.message.attempts ≡ x.master.message.attempts → WaitsOn y t → StxTick p primary other burst noted next k w message x y s t ss

pub stx_tick : (limit : ℕ) (low : 2 ≤ limit) (high : limit ≤ 255) (p : Profile) → Valid p → (primary other burst : Bool) (noted : Noted) (next : Bool) (k : ℕ) (w : List ℕ) (message : Whole) (x y : MasterSide) (xs : List DeviceSide)
    (cx cy : MasterCall) (cs : List DeviceCall) → OneMasterSends p primary other burst noted next k w message x y xs
    → StxTick p primary other burst noted next k w message x y (master_tick limit x (Character (get_or w k 0)) cx) (master_tick limit y (Character (get_or w k 0)) cy) (device_ticks limit (Character (get_or w k 0)) xs cs)
unfolding when◌then◌else◌
stx_tick limit low high p v primary other burst noted next k w message x y xs cx cy cs o = go o.speaks.place
  where
    heard : Heard
    heard = Character (get_or w k 0)

    sp : Spoken w message
    sp = o.speaks.held.speaks

    own : own_rt1 x.master.profile x.master.primary ≡ rt1_of p primary
    own = own_is p primary x.master o.speaks.is_it.profile_is o.speaks.is_it.primary_is

    some : (b : Bool) → 1 ≤ (when b then p.rt1p else p.rt1s)
    some true = omega (arith, v.rt2_short)
    some false = omega (arith, v.rt2_short, v.secondary)

    go : MasterPlace k w x → StxTick p primary other burst noted next k w message x y (master_tick limit x heard cx) (master_tick limit y heard cy) (device_ticks limit heard xs cs)
    go (inside below stage) =
        let s = speaks_on limit high p primary burst noted w message k x heard cx below stage o.speaks in
        let t = hears_on limit high p other burst noted w message k y cy refl sp below o.hears in
        let q = all_quiet limit heard cs (device_hears_on limit low high p v.some_sto w message sp k 0 below) o.devices in
        goes_on below s.0 t.0 (all_carried q)
        (record { speaks = s.1; hears = t.1; devices = all_sides q; distinct = all_distinct q o.distinct; agreed = agreed_same q o.agreed; turn_is = o.turn_is })
        s.2 t.2.waits_on
    go (finished last timer still out) =
        let s = speaks_out limit high p primary burst noted w message k x heard cx timer still out o.speaks in
        let t = master_frame limit high p other y cy o.hears.listens w message k sp last o.hears.receiver_is in
        let q = all_quiet limit heard cs (device_hears_stx limit low high p v.some_sto w message sp k last o.speaks.no_expansion o.speaks.type_is) o.devices in
        let b = stx_burst y.master.burst y.master.noted message.header o.speaks.type_is in
        ends last s.0 t.silent (all_carried q)
        (record {
          sender = s.1;
          listener = record {
            listens = t.listens;
            ready = subst Ready (sym t.receiver_is) idle_ready;
            burst_is = t.burst_is ∙ b ∙ o.hears.burst_is;
            noted_is = t.noted_is ∙ stx_noted y.master.noted message.header o.speaks.type_is ∙ o.hears.noted_is;
          };
          sender_timer = s.2 ∙ sent_is p primary burst x.master o.speaks.is_it.profile_is o.speaks.is_it.primary_is o.speaks.burst_is;
          listener_timer = t.timer_is ∙ stx_timer p other (burst_after y.master.burst y.master.noted message.header) y.master message.header o.hears.listens.is_it.profile_is o.hears.listens.is_it.primary_is o.speaks.type_is
              ∙ ap (break_timer p other) (b ∙ o.hears.burst_is);
          sender_left = s.3 ∙ own;
          listener_left = t.gone;
          bit_is = o.speaks.bit_is;
          header_is = o.speaks.header_is ∙ sym (s.5 (omega (arith, own, some primary)));
          devices = all_sides q;
          distinct = all_distinct q o.distinct;
          agreed = agreed_same q o.agreed;
          turn_is = o.turn_is;
        })
        (s.4 (omega (arith, own, some primary)))
        t.waits_on
