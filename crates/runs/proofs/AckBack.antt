-- A tick of the whole link while a device sends its ACK or BACK.
use Prim.Native.Nat.{ℕ, suc, ◌≤◌, ◌<◌}
use native.Mathlib.Omega.{arith}
use mathlib.Core.Path.{◌≡◌, refl, sym, ap, subst, ◌∙◌}
use mathlib.Core.Bool.{Bool, true, false}
use mathlib.Core.List.{List, [], ◌∷◌}
use mathlib.Core.Logic.{◌⊎◌, inl, inr}
use lib.ListN.{length, get_or, take}
use borrow.Author.Tests.{eq-eqb}
use Rattle.base.specs.Choice.{when◌then◌else◌, ◌=?◌}
use Rattle.base.proofs.Choices.{true_false, if_is_true}
use Rattle.frame.specs.Delimiter.{stx, ack, back}
use Rattle.frame.specs.declared.Header.{Header}
use Rattle.line.specs.Reader.{idle}
use Rattle.line.specs.declared.Heard.{Heard}
use Rattle.line.specs.declared.Heard.TheVariants.{Silence, Character}
use Rattle.line.specs.declared.Profile.{Profile}
use Rattle.line.specs.declared.Receiver.{Receiver}
use Rattle.line.specs.declared.Whole.{Whole}
use Rattle.line.proofs.Leads.{reader_after}
use Rattle.turns.specs.Master.{burst_after, noted_after, ended_by, timer_after, timer}
use Rattle.turns.specs.Device as DV
use Rattle.turns.specs.Device.{due_after}
use Rattle.turns.specs.Link.{MasterCall, DeviceCall, no_call, MasterSide, MasterStep, DeviceSide, DeviceStep, master_tick, device_tick, device_ticks, sides, carried}
use Rattle.turns.specs.Run.{All, none, and, Distinct}
use Rattle.turns.specs.declared.Sent.TheVariants.{Silent}
use Rattle.turns.specs.declared.Noted.{Noted}
use Rattle.turns.specs.declared.Timer.{Timer}
use Rattle.turns.specs.declared.Turn.TheVariants.{Listens, Follows}
use Rattle.turns.specs.declared.Device.{Device}
use Rattle.turns.proofs.Turns.{asked_listens, accepted_listens}
use Rattle.turns.proofs.Spoken.{Spoken}
use Rattle.turns.proofs.Masters.{Holds, left}
use Rattle.turns.proofs.Devices as D
use Rattle.turns.proofs.Devices.{SameDevice, ticks_in_hand}
use Rattle.turns.proofs.DeviceSpeaking as DS
use Rattle.turns.proofs.DeviceSpeaking.{Frames, an_ack, a_back, turn_behind, due_behind, device_speaks}
use Rattle.turns.proofs.Windows.{Valid}
use Rattle.turns.proofs.Listening as L
use Rattle.turns.proofs.Listening.{master_frame, device_frame, device_finished, device_follows, hand_listens}
use Rattle.turns.proofs.Lists.{Quietly, Loudly, AllQuiet, no_more, quiet_and, all_quiet, OneLoud, loud_here, loud_further, one_loud, one_rests, all_carried, all_sides, all_distinct, agreed_same, one_carried, one_sides, one_distinct, one_kept, agreed_kept}
use Rattle.turns.proofs.Phases.{OneOf, here, further, Some, this, later, Bursting, BurstIs, Agreed, MasterQuiet, DeviceQuiet, Ready, idle_ready, passing_ready}
use Rattle.runs.proofs.Beginning.{DevicePlace, inside, finished, DeviceSpeaks, DeviceHears}
use Rattle.turns.proofs.Sending.{MasterHears, hears_on}
use Rattle.turns.proofs.Quiet.{NoSlot, ClearLine, SetLine, NobodyAwaits, itself, slot_timer, ack_clear_timer, ack_set_timer, back_timer, behind_ack_set, behind_ack_clear, behind_back}
use Rattle.runs.proofs.Stx.{device_hears_on, WaitsOn}
use Rattle.runs.proofs.SilentTick.{FrameIs, is_ack, is_back, OneDeviceSends, nothing_read}
use Rattle.line.specs.declared.Event.TheVariants.{Frame}

-- ---- the device that sends

module _ {p : Profile} {f : Frames} {k : ℕ} {w : List ℕ} {message : Whole} {u : ℕ} {on : Bool} {Q : DeviceSide → Type 0} where
  pub place_of : {xs : List DeviceSide} → OneOf (DeviceSpeaks p f k w message u on) Q xs → (suc k < length w) ⊎ (suc k ≡ length w)
  place_of (here s a) = go s.place
    where
      go : {d : Device} → DevicePlace f k w d → (suc k < length w) ⊎ (suc k ≡ length w)
      go (inside below t) = inl below
      go (finished last t due) = inr last
  place_of (further q o) = place_of o

  pub spoken_of : {xs : List DeviceSide} → OneOf (DeviceSpeaks p f k w message u on) Q xs → Spoken w message
  spoken_of (here s a) = s.held.speaks
  spoken_of (further q o) = spoken_of o

  -- what BURST says of the device that sends
  pub noted_of : {burst : Bool} {noted : Noted} {next : Bool} {xs : List DeviceSide} → on ≡ true → OneOf (DeviceSpeaks p f k w message u on) Q xs → All (BurstIs burst noted next) xs → (burst ≡ true) × (noted.long ≡ true) × (noted.address ≡ u)
  noted_of e (here s a) (and b bs) = (b.burst_set (s.burst_is ∙ e), b.long_noted (s.burst_is ∙ e), b.unique_noted (s.burst_is ∙ e) ∙ s.unique_is)
  noted_of e (further q o) (and b bs) = noted_of e o bs

-- what is said of all is said of each
record With (P R : DeviceSide → Type 0) (x : DeviceSide) : Type 0 where
  is : P x
  also : R x

all_with : {P R : DeviceSide → Type 0} {xs : List DeviceSide} → All P xs → All R xs → All (With P R) xs
all_with none none = none
all_with (and a l) (and b bs) = and (record { is = a; also = b }) (all_with l bs)

one_with : {P Q R : DeviceSide → Type 0} {xs : List DeviceSide} → OneOf P Q xs → All R xs → OneOf (With P R) (With Q R) xs
one_with (here s a) (and b bs) = here (record { is = s; also = b }) (all_with a bs)
one_with (further q o) (and b bs) = further (record { is = q; also = b }) (one_with o bs)

due_same : (f : Frames) {d e : Device} → SameDevice d e → due_behind f d ≡ due_behind f e
due_same an_ack s = refl
due_same a_back s = ap (λ (q : Profile). q.rt2) (sym s.same_profile)

-- the ticks to its next BACK
abbrev ticks_behind : Frames → Profile → ℕ
ticks_behind an_ack p = 0
ticks_behind a_back p = p.rt2

ticks_is : (f : Frames) (d : Device) {p : Profile} → d.profile ≡ p → due_behind f d ≡ ticks_behind f p
ticks_is an_ack d e = refl
ticks_is a_back d e = ap (λ (q : Profile). q.rt2) e

module _ (limit : ℕ) (low : 2 ≤ limit) (high : limit ≤ 255) (p : Profile) (some : 1 ≤ p.sto) (f : Frames) (k : ℕ) (w : List ℕ) (message : Whole) (u : ℕ) (on : Bool) (heard : Heard) where
  some_own : {x : DeviceSide} → DeviceSpeaks p f k w message u on x → 1 ≤ x.device.profile.sto
  some_own s = subst (λ (q : Profile). 1 ≤ q.sto) (sym s.profile_is) some

  -- the next character of its frame
  device_goes_on : suc k < length w → (x : DeviceSide) (c : DeviceCall) → DeviceSpeaks p f k w message u on x → Loudly (DeviceSpeaks p f (suc k) w message u on) (get_or w (suc k) 0) x (device_tick limit x heard c)
  device_goes_on below x c s = go s.place
    where
      step : DeviceStep
      step = device_tick limit x heard c

      put : DS.SpeaksAt f x (suc k) w step → Loudly (DeviceSpeaks p f (suc k) w message u on) (get_or w (suc k) 0) x step
      put a = record {
        character = a.character;
        same = a.same;
        good = record {
          profile_is = a.same.same_profile ∙ s.profile_is;
          unique_is = a.same.same_unique ∙ s.unique_is;
          burst_is = a.same_burst ∙ s.burst_is;
          deaf_is = a.deaf_is;
          receiver_is = a.receiver_is;
          held = subst (λ (b : List ℕ). Holds b step.side.device.length w message) (sym a.same_frame) (subst (λ (n : ℕ). Holds x.frame n w message) (sym a.same_length) s.held);
          place = at a.place;
          sound = a.sound;
        };
      }
        where
          at : DS.Place f x.device (suc k) w step.side.device → DevicePlace f (suc k) w step.side.device
          at (DS.goes_on more t) = inside more t
          at (DS.is_out last t due) = finished last (t ∙ ap (turn_behind f) (sym a.same_burst)) (due ∙ due_same f a.same)

      go : DevicePlace f k w x.device → Loudly (DeviceSpeaks p f (suc k) w message u on) (get_or w (suc k) 0) x step
      go (inside more t) = put (device_speaks f x (suc k) w message t s.held below limit heard c high s.deaf_is s.sound)
      go (finished last t due) = absurd (omega arith)

  -- whom its next BACK is for stays
  same_next : suc k < length w → (x : DeviceSide) (c : DeviceCall) → DeviceSpeaks p f k w message u on x → (device_tick limit x heard c).side.device.primary ≡ x.device.primary
  same_next below x c s = go s.place
    where
      go : DevicePlace f k w x.device → (device_tick limit x heard c).side.device.primary ≡ x.device.primary
      go (inside more t) = (device_speaks f x (suc k) w message t s.held below limit heard c high s.deaf_is s.sound).same_primary
      go (finished last t due) = absurd (omega arith)

  -- behind its last one it rests
  device_out : (h : Header) (n : ℕ) → suc k ≡ length w → turn_behind f on ≡ Listens → (on ≡ true → ticks_behind f p ≡ n)
      → (x : DeviceSide) (c : DeviceCall) → DeviceSpeaks p f k w message u on x → Quietly (DeviceQuiet p 0 h n) x (device_tick limit x heard c)
  device_out h n last listens due_is x c s = go s.place
    where
      step : DeviceStep
      step = device_tick limit x heard c

      go : DevicePlace f k w x.device → Quietly (DeviceQuiet p 0 h n) x step
      go (inside more t) = absurd (omega arith)
      go (finished last' t due) =
          let turn : x.device.turn ≡ Listens = t ∙ ap (turn_behind f) s.burst_is ∙ listens in
          let r = device_finished limit p x heard c low high (some_own s) s.profile_is s.deaf_is s.sound turn in
          let still : step.side.device.turn ≡ Listens = hand_listens step.side.device step.side.frame r.listens.hand (omega (arith, r.less_in_hand, ap ticks_in_hand turn)) in
          record {
            silent = r.silent;
            same = r.same;
            same_burst = r.same_burst;
            same_primary = r.same_primary;
            good = record {
              listens = r.listens;
              ready = subst Ready (sym (r.same_receiver ∙ s.receiver_is)) passing_ready;
              in_time = omega (arith, r.less_in_hand, ap ticks_in_hand turn);
              asked_own = λ z. absurd (z still);
              asked_for = λ z. absurd (z still);
              back_due = λ z. r.same_due ∙ due ∙ ticks_is f x.device s.profile_is ∙ due_is (sym s.burst_is ∙ sym r.same_burst ∙ z);
            };
          }

-- ---- the others at the frame's end

-- "after timer 1 behind another's ACK"
due_ack : (p : Profile) (w : Whole) → w.header.kind ≡ ack → due_after p (DV.ended_by (Frame w)) ≡ 1
due_ack p w e = ap (due_after p) (if_is_true (w.header.kind =? ack) _ _ (eq-eqb w.header.kind ack e))

ack_stx : (h : Header) → h.kind ≡ ack → h.kind ≡ stx → ⊥
ack_stx h a e = let z : ack ≡ stx = sym a ∙ e in omega (arith, z)

back_stx : (h : Header) → h.kind ≡ back → h.kind ≡ stx → ⊥
back_stx h a e = let z : back ≡ stx = sym a ∙ e in omega (arith, z)

module _ (limit : ℕ) (low : 2 ≤ limit) (high : limit ≤ 255) (p : Profile) (some : 1 ≤ p.sto) (w : List ℕ) (message : Whole) (sp : Spoken w message) (k : ℕ) (last : suc k ≡ length w) (ne : message.expansion ≡ 0) (no-stx : message.header.kind ≡ stx → ⊥) where
  -- a frame that is no STX leaves nothing in hand
  hears_end : (x : DeviceSide) (c : DeviceCall) {u : ℕ} → DeviceHears p (reader_after idle (take k w)) u x
      → Quietly (DeviceQuiet p 0 message.header (due_after p (DV.ended_by (Frame message)))) x (device_tick limit x (Character (get_or w k 0)) c) × ((device_tick limit x (Character (get_or w k 0)) c).side.device.receiver ≡ idle)
  hears_end x c h = (
    record {
      silent = e.silent;
      same = e.same;
      same_burst = e.same_burst;
      same_primary = e.same_primary;
      good = record {
        listens = e.listens;
        ready = subst Ready (sym e.receiver_is) idle_ready;
        in_time = omega (arith, ap ticks_in_hand (go e.listens.hand));
        asked_own = λ z. absurd (z (go e.listens.hand));
        asked_for = λ z. absurd (z (go e.listens.hand));
        back_due = λ z. e.due_is;
      };
    },
    e.receiver_is,
  )
    where
      step : DeviceStep
      step = device_tick limit x (Character (get_or w k 0)) c

      e : L.DeviceFrame limit low high p some x c h.listens message step
      e = device_frame limit low high p some x c h.listens w message k sp last h.receiver_is ne

      go : D.Hand step.side.device step.side.frame → step.side.device.turn ≡ Listens
      go (D.nothing_in_hand q) = q
      go (D.is_asked n q z o) = absurd (no-stx (e.only_stx (λ a. asked_listens n (sym q ∙ a))))
      go (D.is_accepted q z) = absurd (no-stx (e.only_stx (λ a. accepted_listens (sym q ∙ a))))

      off : (b : Bool) → (message.header.kind =? stx) ≡ b → (message.header.kind =? stx) ≡ false
      off true q = absurd (no-stx (borrow.Author.Tests.eqb-true message.header.kind stx q))
      off false q = q

  -- behind an ACK a BACK of another device is due in the next tick
  hears_ack : message.header.kind ≡ ack → (u : ℕ) (x : DeviceSide) (c : DeviceCall) → DeviceHears p (reader_after idle (take k w)) u x → Quietly (DeviceQuiet p 0 message.header 1) x (device_tick limit x (Character (get_or w k 0)) c)
  hears_ack a u x c h =
      let q = hears_end x c h in
      subst (λ (n : ℕ). Quietly (DeviceQuiet p 0 message.header n) x (device_tick limit x (Character (get_or w k 0)) c)) (due_ack p message a) q.0

  -- no other device bursts behind a BACK
  hears_back : (u : ℕ) (noted : Noted) (next : Bool) → noted.address ≡ u → (x : DeviceSide) (c : DeviceCall) → With (DeviceHears p (reader_after idle (take k w)) u) (BurstIs true noted next) x
      → Quietly (DeviceQuiet p 0 message.header p.rt2) x (device_tick limit x (Character (get_or w k 0)) c)
  hears_back u noted next e x c h =
      let q = hears_end x c h.is in
      record {
        silent = q.0.silent;
        same = q.0.same;
        same_burst = q.0.same_burst;
        same_primary = q.0.same_primary;
        good = record {
          listens = q.0.good.listens;
          ready = q.0.good.ready;
          in_time = q.0.good.in_time;
          asked_own = q.0.good.asked_own;
          asked_for = q.0.good.asked_for;
          back_due = λ z. absurd (h.is.another (sym (h.also.unique_noted (sym q.0.same_burst ∙ z)) ∙ e));
        };
      }

  -- they hear the BACK that begins directly behind the ACK
  hears_next : (u : ℕ) (x : DeviceSide) (c : DeviceCall) → DeviceHears p (reader_after idle (take k w)) u x → Quietly (DeviceHears p idle u) x (device_tick limit x (Character (get_or w k 0)) c)
  hears_next u x c h =
      let q = hears_end x c h in
      record {
        silent = q.0.silent;
        same = q.0.same;
        same_burst = q.0.same_burst;
        same_primary = q.0.same_primary;
        good = record { listens = q.0.good.listens; receiver_is = q.1; another = λ e. h.another (sym q.0.same.same_unique ∙ e) };
      }

  -- a master
  pub record MasterEnd (primary burst : Bool) (noted : Noted) (x : MasterSide) (step : MasterStep) : Type 0 where
    pub silent : step.sent ≡ Silent
    pub quiet : MasterQuiet p primary (burst_after burst noted message.header) (noted_after noted message.header) step.side
    pub receiver_is : step.side.master.receiver ≡ idle
    pub timer_is : step.side.master.timer ≡ timer_after x.master.profile x.master.primary (ended_by x.master message.header) (burst_after burst noted message.header)
    pub gone : left step.side.master.message.stage ≡ 0
    pub waits_on : WaitsOn x step

  master_end : (primary burst : Bool) (noted : Noted) (x : MasterSide) (c : MasterCall) → MasterHears p primary burst noted (reader_after idle (take k w)) x → MasterEnd primary burst noted x (master_tick limit x (Character (get_or w k 0)) c)
  master_end primary burst noted x c h =
      let t = master_frame limit high p primary x c h.listens w message k sp last h.receiver_is in
      record {
        silent = t.silent;
        quiet = record {
          listens = t.listens;
          ready = subst Ready (sym t.receiver_is) idle_ready;
          burst_is = t.burst_is ∙ (λ i. burst_after (h.burst_is i) (h.noted_is i) message.header);
          noted_is = t.noted_is ∙ (λ i. noted_after (h.noted_is i) message.header);
        };
        receiver_is = t.receiver_is;
        timer_is = t.timer_is ∙ (λ i. timer_after x.master.profile x.master.primary (ended_by x.master message.header) (burst_after (h.burst_is i) (h.noted_is i) message.header));
        gone = t.gone;
        waits_on = t.waits_on;
      }

-- ---- a BACK directly behind an ACK

-- every bursting device's next BACK is for the other master than before
data AllTurned : List DeviceSide → List DeviceStep → Type 0 where
  none_turned : AllTurned [] []
  turned_and : {x : DeviceSide} {s : DeviceStep} {xs : List DeviceSide} {ss : List DeviceStep} → SameDevice x.device s.side.device → s.side.device.burst ≡ x.device.burst
      → (x.device.burst ≡ true → s.side.device.primary ≡ (when x.device.primary then false else true)) → AllTurned xs ss → AllTurned (x ∷ xs) (s ∷ ss)

-- those that do not burst have none
quiet_turned : {R : DeviceSide → Type 0} {xs : List DeviceSide} {ss : List DeviceStep} → AllQuiet R xs ss → All (λ (x : DeviceSide). x.device.burst ≡ true → ⊥) xs → AllTurned xs ss
quiet_turned no_more none = none_turned
quiet_turned (quiet_and q a) (and f fs) = turned_and q.same q.same_burst (λ z. absurd (f z)) (quiet_turned a fs)

each_turned : {burst : Bool} {noted : Noted} {next : Bool} {xs : List DeviceSide} {ss : List DeviceStep} → AllTurned xs ss → All (BurstIs burst noted next) xs → All (BurstIs burst noted (when next then false else true)) (sides ss)
unfolding sides
each_turned none_turned none = none
each_turned (turned_and same e n qs) (and b bs) =
    and
    (record {
      burst_set = λ z. b.burst_set (sym e ∙ z);
      long_noted = λ z. b.long_noted (sym e ∙ z);
      unique_noted = λ z. b.unique_noted (sym e ∙ z) ∙ sym same.same_unique;
      next_is = λ z. n (sym e ∙ z) ∙ ap (λ (k : Bool). when k then false else true) (b.next_is (sym e ∙ z));
    })
    (each_turned qs bs)

some_turned : {xs : List DeviceSide} {ss : List DeviceStep} → AllTurned xs ss → Some Bursting xs → Some Bursting (sides ss)
unfolding sides
some_turned (turned_and same e n qs) (this b) = this (e ∙ b)
some_turned (turned_and same e n qs) (later b) = later (some_turned qs b)
some_turned none_turned x4 = elim x4 [ ]

agreed_turned : {burst : Bool} {noted : Noted} {next : Bool} {xs : List DeviceSide} {ss : List DeviceStep} → AllTurned xs ss → Agreed burst noted next xs → Agreed burst noted (when next then false else true) (sides ss)
agreed_turned a g = record { each = each_turned a g.each; one_bursts = λ z. some_turned a (g.one_bursts z) }

record BackFollows (p : Profile) (u : ℕ) (next : Bool) (xs : List DeviceSide) (ss : List DeviceStep) : Type 0 where
  w : List ℕ
  message : Whole
  one : OneLoud (DeviceSpeaks p a_back 0 w message u true) (DeviceHears p idle u) (get_or w 0 0) xs ss
  type_is : message.header.kind ≡ back
  long_is : message.header.long ≡ true
  address_is : message.header.address ≡ u
  for_is : message.header.primary ≡ next
  no_expansion : message.expansion ≡ 0
  turned : AllTurned xs ss

module _ (limit : ℕ) (low : 2 ≤ limit) (high : limit ≤ 255) (p : Profile) (some : 1 ≤ p.sto) (heard : Heard) (k : ℕ) (w : List ℕ) (message : Whole) (last : suc k ≡ length w) (u : ℕ) (next : Bool) where
  follows_here : (x : DeviceSide) (c : DeviceCall) {xs : List DeviceSide} {ss : List DeviceStep} → DeviceSpeaks p an_ack k w message u true x → x.device.primary ≡ next → AllQuiet (DeviceHears p idle u) xs ss
      → All (λ (x : DeviceSide). x.device.burst ≡ true → ⊥) xs → BackFollows p u next (x ∷ xs) (device_tick limit x heard c ∷ ss)
  unfolding when◌then◌else◌
  follows_here x c {xs} {ss} s for a off = go s.place
    where
      go : DevicePlace an_ack k w x.device → BackFollows p u next (x ∷ xs) (device_tick limit x heard c ∷ ss)
      go (inside more t) = absurd (omega arith)
      go (finished last' t due) =
          let turn : x.device.turn ≡ Follows = t ∙ ap (turn_behind an_ack) s.burst_is in
          let n = device_follows limit x heard c low high (subst (λ (q : Profile). 1 ≤ q.sto) (sym s.profile_is) some) s.deaf_is s.sound turn s.burst_is in
          record {
            w = n.begun.w;
            message = n.begun.message;
            one = loud_here (record {
              character = n.begun.character;
              same = n.begun.same;
              good = record {
                profile_is = n.begun.same.same_profile ∙ s.profile_is;
                unique_is = n.begun.same.same_unique ∙ s.unique_is;
                burst_is = n.begun.burst_is ∙ s.burst_is;
                deaf_is = n.begun.deaf_is;
                receiver_is = n.begun.receiver_is;
                held = n.begun.held;
                place = inside (omega (arith, n.begun.held.speaks.long)) n.begun.turn_is;
                sound = n.begun.sound;
              };
            }) a;
            type_is = ap (λ (h : Header). h.kind) n.header_is;
            long_is = ap (λ (h : Header). h.long) n.header_is;
            address_is = ap (λ (h : Header). h.address) n.header_is ∙ s.unique_is;
            for_is = ap (λ (h : Header). h.primary) n.header_is ∙ for;
            no_expansion = n.begun.no_expansion;
            turned = turned_and n.begun.same n.begun.burst_is (λ z. n.primary_is) (quiet_turned a off);
          }

  further_on : {x : DeviceSide} {s : DeviceStep} {xs : List DeviceSide} {ss : List DeviceStep} → Quietly (DeviceHears p idle u) x s → (x.device.burst ≡ true → ⊥) → BackFollows p u next xs ss → BackFollows p u next (x ∷ xs) (s ∷ ss)
  further_on q off r = record {
    w = r.w;
    message = r.message;
    one = loud_further q r.one;
    type_is = r.type_is;
    long_is = r.long_is;
    address_is = r.address_is;
    for_is = r.for_is;
    no_expansion = r.no_expansion;
    turned = turned_and q.same q.same_burst (λ z. absurd (off z)) r.turned;
  }

  all_off : {Q : DeviceSide → Type 0} {xs : List DeviceSide} → ((x : DeviceSide) → Q x → x.device.burst ≡ true → ⊥) → All Q xs → All (λ (x : DeviceSide). x.device.burst ≡ true → ⊥) xs
  all_off f none = none
  all_off f (and {x = x} q qs) = and (f x q) (all_off f qs)

  back_follows : {R Q : DeviceSide → Type 0} {xs : List DeviceSide} (calls : List DeviceCall) → ((x : DeviceSide) (c : DeviceCall) → Q x → Quietly (DeviceHears p idle u) x (device_tick limit x heard c)) → ((x : DeviceSide) → Q x → x.device.burst ≡ true → ⊥)
      → ((x : DeviceSide) → R x → DeviceSpeaks p an_ack k w message u true x × (x.device.primary ≡ next)) → OneOf R Q xs → BackFollows p u next xs (device_ticks limit heard xs calls)
  unfolding device_ticks
  back_follows [] g off s (here {x = x} r qs) = follows_here x no_call (s x r).0 (s x r).1 (all_quiet limit heard [] g qs) (all_off off qs)
  back_follows (c ∷ cs) g off s (here {x = x} r qs) = follows_here x c (s x r).0 (s x r).1 (all_quiet limit heard cs g qs) (all_off off qs)
  back_follows [] g off s (further {x = x} q o) = further_on (g x no_call q) (off x q) (back_follows [] g off s o)
  back_follows (c ∷ cs) g off s (further {x = x} q o) = further_on (g x c q) (off x q) (back_follows cs g off s o)

-- ---- the tick

ack_timer : (p : Profile) (primary burst : Bool) (x : MasterSide) (h : Header) → x.master.profile ≡ p → x.master.primary ≡ primary → h.kind ≡ ack
    → timer_after x.master.profile x.master.primary (ended_by x.master h) burst ≡ (when burst then slot_timer p primary 0 else (when itself primary h then timer p.rt2 else timer 1))
unfolding when◌then◌else◌
ack_timer p primary true x h a b e = ack_set_timer p primary x.master h a b e
ack_timer p primary false x h a b e = ack_clear_timer p primary x.master h a b e

back_sets : (burst : Bool) (noted : Noted) (h : Header) → h.kind ≡ back → burst_after burst noted h ≡ true
back_sets burst noted h e = if_is_true (h.kind =? back) _ _ (eq-eqb h.kind back e)

-- a BACK of the noted device notes nobody else
back_notes : (noted : Noted) (h : Header) (u : ℕ) → h.kind ≡ back → h.long ≡ true → h.address ≡ u → noted.long ≡ true → noted.address ≡ u → noted_after noted h ≡ noted
back_notes noted h u e l a nl na =
    if_is_true (h.kind =? back) _ _ (eq-eqb h.kind back e) ∙ (λ i. record { long = (l ∙ sym nl) i; address = (a ∙ sym na) i })

-- the silent line behind an ACK: with BURST clear the master that it is not for comes first; with BURST set a BACK is due in the next tick
pub data AckEnded (p : Profile) (e : ℕ) (burst next : Bool) (h : Header) (a b : MasterSide) (xs : List DeviceSide) : Type 0 where
  ended_clear : burst ≡ false → NobodyAwaits a b → ClearLine p e a b xs → a.master.timer ≡ (when itself true h then timer p.rt2 else timer 1) → b.master.timer ≡ (when itself false h then timer p.rt2 else timer 1) → AckEnded p e burst next h a b xs
  ended_set : burst ≡ true → NobodyAwaits a b → SetLine p 1 next a b xs → NoSlot a.master.timer → NoSlot b.master.timer → AckEnded p e burst next h a b xs

pub data AckTick (p : Profile) (e : ℕ) (burst : Bool) (noted : Noted) (next : Bool) (k : ℕ) (w : List ℕ) (message : Whole) (u : ℕ) (on : Bool) (a b : MasterSide) (s t : MasterStep) (ss : List DeviceStep) : Type 0 where
  ack_goes_on : suc k < length w → s.sent ≡ Silent → t.sent ≡ Silent → carried ss ≡ Character (get_or w (suc k) 0)
      → OneDeviceSends p an_ack burst noted next (suc k) w message u on s.side t.side (sides ss) → WaitsOn a s → WaitsOn b t → AckTick p e burst noted next k w message u on a b s t ss
  ack_ends : suc k ≡ length w → on ≡ false → s.sent ≡ Silent → t.sent ≡ Silent → carried ss ≡ Silence
      → AckEnded p e (burst_after burst noted message.header) next message.header s.side t.side (sides ss) → WaitsOn a s → WaitsOn b t → AckTick p e burst noted next k w message u on a b s t ss
  back_follows_it : suc k ≡ length w → on ≡ true → (who : Noted) (w' : List ℕ) (message' : Whole) → s.sent ≡ Silent → t.sent ≡ Silent → carried ss ≡ Character (get_or w' 0 0)
      → OneDeviceSends p a_back true who (when next then false else true) 0 w' message' u true s.side t.side (sides ss) → WaitsOn a s → WaitsOn b t → AckTick p e burst noted next k w message u on a b s t ss

pub data BackTick (p : Profile) (burst : Bool) (noted : Noted) (next : Bool) (k : ℕ) (w : List ℕ) (message : Whole) (u : ℕ) (a b : MasterSide) (s t : MasterStep) (ss : List DeviceStep) : Type 0 where
  back_goes_on : suc k < length w → s.sent ≡ Silent → t.sent ≡ Silent → carried ss ≡ Character (get_or w (suc k) 0)
      → OneDeviceSends p a_back burst noted next (suc k) w message u true s.side t.side (sides ss) → WaitsOn a s → WaitsOn b t → BackTick p burst noted next k w message u a b s t ss
  back_ends : suc k ≡ length w → s.sent ≡ Silent → t.sent ≡ Silent → carried ss ≡ Silence → SetLine p p.rt2 next s.side t.side (sides ss)
      → s.side.master.timer ≡ (when itself true message.header then slot_timer p true 0 else slot_timer p true 1) → t.side.master.timer ≡ (when itself false message.header then slot_timer p false 0 else slot_timer p false 1)
      → NobodyAwaits s.side t.side → WaitsOn a s → WaitsOn b t → BackTick p burst noted next k w message u a b s t ss

-- who sends what stays while the frame goes on
frame_same : {f : Frames} {on burst next : Bool} {h : Header} {a b c d : MasterSide} → left c.master.message.stage ≡ left a.master.message.stage → left d.master.message.stage ≡ left b.master.message.stage → FrameIs on burst next h a b f → FrameIs on burst next h c d f
frame_same x y (is_ack type pa pb) = is_ack type (λ z. omega (arith, x, pa z)) (λ z. omega (arith, y, pb z))
frame_same x y (is_back type o q r) = is_back type o q r

module _ (limit : ℕ) (low : 2 ≤ limit) (high : limit ≤ 255) (p : Profile) (v : Valid p) (burst : Bool) (noted : Noted) (next : Bool) (k : ℕ) (w : List ℕ) (message : Whole) (u : ℕ) (a b : MasterSide) (xs : List DeviceSide) (ca cb : MasterCall) (cs : List DeviceCall) where
  abbrev heard : Heard
  heard = Character (get_or w k 0)

  record GoesOn (f : Frames) (on : Bool) : Type 0 where
    primary_silent : (master_tick limit a heard ca).sent ≡ Silent
    secondary_silent : (master_tick limit b heard cb).sent ≡ Silent
    carries : carried (device_ticks limit heard xs cs) ≡ Character (get_or w (suc k) 0)
    sends : OneDeviceSends p f burst noted next (suc k) w message u on (master_tick limit a heard ca).side (master_tick limit b heard cb).side (sides (device_ticks limit heard xs cs))
    primary_waits : WaitsOn a (master_tick limit a heard ca)
    secondary_waits : WaitsOn b (master_tick limit b heard cb)

  on_goes : (f : Frames) (on : Bool) → suc k < length w → OneDeviceSends p f burst noted next k w message u on a b xs → GoesOn f on
  on_goes f on below o =
      let sp = spoken_of o.devices in
      let ha = hears_on limit high p true burst noted w message k a ca refl sp below o.primary in
      let hb = hears_on limit high p false burst noted w message k b cb refl sp below o.secondary in
      let speaks = device_goes_on limit low high p v.some_sto f k w message u on heard below in
      let stays = same_next limit low high p v.some_sto f k w message u on heard below in
      let hears = device_hears_on limit low high p v.some_sto w message sp k u below in
      let one = one_loud limit heard (get_or w (suc k) 0) cs speaks hears o.devices in
      let kept = one_kept limit heard cs (λ x c s. ((speaks x c s).same, (speaks x c s).good.burst_is ∙ sym s.burst_is, stays x c s)) hears o.devices in
      record {
        primary_silent = ha.0;
        secondary_silent = hb.0;
        carries = one_carried one;
        sends = record {
          primary = ha.1;
          secondary = hb.1;
          devices = one_sides one;
          distinct = one_distinct one o.distinct;
          agreed = agreed_kept kept o.agreed;
          frame_is = frame_same ha.2.same_left hb.2.same_left o.frame_is;
          no_expansion = o.no_expansion;
        };
        primary_waits = ha.2.waits_on;
        secondary_waits = hb.2.waits_on;
      }

  abbrev AckTicks : ℕ → Bool → Type 0
  AckTicks e on = AckTick p e burst noted next k w message u on a b (master_tick limit a heard ca) (master_tick limit b heard cb) (device_ticks limit heard xs cs)

  ack_off : (e : ℕ) → suc k ≡ length w → message.header.kind ≡ ack → OneDeviceSends p an_ack burst noted next k w message u false a b xs → AckTicks e false
  unfolding when◌then◌else◌
  ack_off e last type o =
      let sp = spoken_of o.devices in
      let h = message.header in
      let ea = master_end limit low high p v.some_sto w message sp k last o.no_expansion (ack_stx h type) true burst noted a ca o.primary in
      let eb = master_end limit low high p v.some_sto w message sp k last o.no_expansion (ack_stx h type) false burst noted b cb o.secondary in
      let q = one_rests limit heard cs (device_out limit low high p v.some_sto an_ack k w message u false heard h 1 last refl (λ z. absurd (true_false (sym z))))
      (hears_ack limit low high p v.some_sto w message sp k last o.no_expansion (ack_stx h type) type u) o.devices in
      let gone : NobodyAwaits (master_tick limit a heard ca).side (master_tick limit b heard cb).side = record { primary_gone = ea.gone; secondary_gone = eb.gone } in
      ack_ends last refl ea.silent eb.silent (all_carried q)
      (by (burst_after burst noted h) ea.quiet eb.quiet
      (ea.timer_is ∙ ack_timer p true (burst_after burst noted h) a h o.primary.listens.is_it.profile_is o.primary.listens.is_it.primary_is type)
      (eb.timer_is ∙ ack_timer p false (burst_after burst noted h) b h o.secondary.listens.is_it.profile_is o.secondary.listens.is_it.primary_is type)
      gone (all_sides q) (all_distinct q o.distinct) (agreed_same q o.agreed))
      ea.waits_on eb.waits_on
    where
      h : Header
      h = message.header

      x : MasterSide
      x = (master_tick limit a heard ca).side

      y : MasterSide
      y = (master_tick limit b heard cb).side

      who : Noted
      who = noted_after noted message.header

      no_slot : {t : Timer} (primary : Bool) → t ≡ slot_timer p primary 0 → NoSlot t
      no_slot primary e = record { no_next = ap (λ (t : Timer). t.next) e; no_window = ap (λ (t : Timer). t.window) e }

      by : (c : Bool) → MasterQuiet p true c who x → MasterQuiet p false c who y → x.master.timer ≡ (when c then slot_timer p true 0 else (when itself true h then timer p.rt2 else timer 1))
          → y.master.timer ≡ (when c then slot_timer p false 0 else (when itself false h then timer p.rt2 else timer 1)) → NobodyAwaits x y → {zs : List DeviceSide} → All (DeviceQuiet p 0 h 1) zs → Distinct zs → Agreed c who next zs → AckEnded p e c next h x y zs
      by true qa qb ta tb n qs d g = ended_set refl n (behind_ack_set p v who next h x y _ qa qb ta tb n qs d g) (no_slot true ta) (no_slot false tb)
      by false qa qb ta tb n qs d g = ended_clear refl n (behind_ack_clear p v e who next h h x y _ qa qb ta tb n qs d g) ta tb

  ack_on : (e : ℕ) → suc k ≡ length w → message.header.kind ≡ ack → OneDeviceSends p an_ack burst noted next k w message u true a b xs → AckTicks e true
  unfolding when◌then◌else◌
  ack_on e last type o =
      let sp = spoken_of o.devices in
      let h = message.header in
      let noted-u = noted_of refl o.devices o.agreed.each in
      let ea = master_end limit low high p v.some_sto w message sp k last o.no_expansion (ack_stx h type) true burst noted a ca o.primary in
      let eb = master_end limit low high p v.some_sto w message sp k last o.no_expansion (ack_stx h type) false burst noted b cb o.secondary in
      let r = back_follows limit low high p v.some_sto heard k w message last u next cs
      (λ x c q. hears_next limit low high p v.some_sto w message sp k last o.no_expansion (ack_stx h type) u x c q.is)
      (λ x q z. q.is.another (sym (q.also.unique_noted z) ∙ noted-u.2))
      (λ x q. (q.is, q.also.next_is q.is.burst_is))
      (one_with o.devices o.agreed.each) in
      let who = noted_after noted h in
      let now : burst_after burst noted h ≡ true = noted-u.0 in
      back_follows_it last refl who r.w r.message ea.silent eb.silent (one_carried r.one)
      (record {
        primary = record { listens = ea.quiet.listens; receiver_is = ea.receiver_is ∙ nothing_read r.w; burst_is = ea.quiet.burst_is ∙ now; noted_is = ea.quiet.noted_is };
        secondary = record { listens = eb.quiet.listens; receiver_is = eb.receiver_is ∙ nothing_read r.w; burst_is = eb.quiet.burst_is ∙ now; noted_is = eb.quiet.noted_is };
        devices = subst (λ (z : Receiver). OneOf (DeviceSpeaks p a_back 0 r.w r.message u true) (DeviceHears p z u) (sides (device_ticks limit heard xs cs))) (nothing_read r.w) (one_sides r.one);
        distinct = one_distinct r.one o.distinct;
        agreed = subst (λ (c : Bool). Agreed c (noted_after who r.message.header) (when next then false else true) (sides (device_ticks limit heard xs cs))) (now ∙ sym (back_sets true who r.message.header r.type_is))
            (subst (λ (n : Noted). Agreed (burst_after burst noted h) n (when next then false else true) (sides (device_ticks limit heard xs cs))) (sym (back_notes who r.message.header u r.type_is r.long_is r.address_is noted-u.1 noted-u.2))
            (agreed_turned r.turned o.agreed));
        frame_is = is_back r.type_is refl refl (r.for_is ∙ twice next);
        no_expansion = r.no_expansion;
      })
      ea.waits_on eb.waits_on
    where
      twice : (z : Bool) → z ≡ (when (when z then false else true) then false else true)
      twice true = refl
      twice false = refl

  pub ack_tick : (e : ℕ) (on : Bool) → OneDeviceSends p an_ack burst noted next k w message u on a b xs
      → AckTick p e burst noted next k w message u on a b (master_tick limit a (Character (get_or w k 0)) ca) (master_tick limit b (Character (get_or w k 0)) cb) (device_ticks limit (Character (get_or w k 0)) xs cs)
  ack_tick e on o = go (place_of o.devices)
    where
      ended : (z : Bool) → suc k ≡ length w → FrameIs z burst next message.header a b an_ack → OneDeviceSends p an_ack burst noted next k w message u z a b xs → AckTicks e z
      ended false last (is_ack type pa pb) o = ack_off e last type o
      ended true last (is_ack type pa pb) o = ack_on e last type o

      go : (suc k < length w) ⊎ (suc k ≡ length w) → AckTicks e on
      go (inl below) = let g = on_goes an_ack on below o in ack_goes_on below g.primary_silent g.secondary_silent g.carries g.sends g.primary_waits g.secondary_waits
      go (inr last) = ended on last o.frame_is o

  abbrev BackTicks : Type 0
  BackTicks = BackTick p burst noted next k w message u a b (master_tick limit a heard ca) (master_tick limit b heard cb) (device_ticks limit heard xs cs)

  back_out : suc k ≡ length w → message.header.kind ≡ back → message.header.primary ≡ (when next then false else true) → OneDeviceSends p a_back burst noted next k w message u true a b xs → BackTicks
  back_out last type for o =
      let sp = spoken_of o.devices in
      let h = message.header in
      let set = back_sets burst noted h type in
      let ag = subst (λ (c : Bool). Agreed c (noted_after noted h) next xs) set o.agreed in
      let noted-u = noted_of refl o.devices ag.each in
      let ea = master_end limit low high p v.some_sto w message sp k last o.no_expansion (back_stx h type) true burst noted a ca o.primary in
      let eb = master_end limit low high p v.some_sto w message sp k last o.no_expansion (back_stx h type) false burst noted b cb o.secondary in
      let q = one_rests limit heard cs (λ x c s. device_out limit low high p v.some_sto a_back k w message u true heard h p.rt2 last refl (λ z. refl) x c s.is)
      (hears_back limit low high p v.some_sto w message sp k last o.no_expansion (back_stx h type) u (noted_after noted h) next noted-u.2) (one_with o.devices ag.each) in
      let ta = ea.timer_is ∙ ap (λ (c : Bool). timer_after a.master.profile a.master.primary (ended_by a.master h) c) set ∙ back_timer p true a.master h o.primary.listens.is_it.profile_is o.primary.listens.is_it.primary_is type in
      let tb = eb.timer_is ∙ ap (λ (c : Bool). timer_after b.master.profile b.master.primary (ended_by b.master h) c) set ∙ back_timer p false b.master h o.secondary.listens.is_it.profile_is o.secondary.listens.is_it.primary_is type in
      back_ends last ea.silent eb.silent (all_carried q)
      (behind_back p v (noted_after noted h) next h h _ _ _ for
      (subst (λ (c : Bool). MasterQuiet p true c (noted_after noted h) (master_tick limit a heard ca).side) set ea.quiet)
      (subst (λ (c : Bool). MasterQuiet p false c (noted_after noted h) (master_tick limit b heard cb).side) set eb.quiet)
      ta tb (record { primary_gone = ea.gone; secondary_gone = eb.gone })
      (all_sides q) (all_distinct q o.distinct) (agreed_same q ag))
      ta tb (record { primary_gone = ea.gone; secondary_gone = eb.gone }) ea.waits_on eb.waits_on

  pub back_tick : OneDeviceSends p a_back burst noted next k w message u true a b xs
      → BackTick p burst noted next k w message u a b (master_tick limit a (Character (get_or w k 0)) ca) (master_tick limit b (Character (get_or w k 0)) cb) (device_ticks limit (Character (get_or w k 0)) xs cs)
  back_tick o = go (place_of o.devices) o.frame_is
    where
      go : (suc k < length w) ⊎ (suc k ≡ length w) → FrameIs true burst next message.header a b a_back → BackTicks
      go (inl below) f = let g = on_goes a_back true below o in back_goes_on below g.primary_silent g.secondary_silent g.carries g.sends g.primary_waits g.secondary_waits
      go (inr last) (is_back type z set for) = back_out last type for o
