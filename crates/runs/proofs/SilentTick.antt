-- A tick of the whole link while nobody sends: the line stays silent, or one party begins. Two never begin together.
use Prim.Native.Nat.{ℕ, ◌+◌, ◌-◌, ◌≤◌, ◌<◌}
use native.Mathlib.Omega.{arith}
use mathlib.Core.Path.{◌≡◌, refl, sym, ap, subst, ◌∙◌}
use mathlib.Core.Bool.{Bool, true, false}
use mathlib.Core.List.{List}
use mathlib.Core.Logic.{◌⊎◌, inl, inr}
use lib.ListN.{get_or, take}
use borrow.Author.Tests.{eqb-true}
use Rattle.base.specs.Choice.{when◌then◌else◌}
use Rattle.base.proofs.Choices.{true_false, if_is_true}
use Rattle.frame.specs.Delimiter.{ack, back}
use Rattle.frame.specs.declared.Header.{Header}
use Rattle.line.specs.Reader.{idle}
use Rattle.line.specs.declared.Heard.TheVariants.{Silence, Character}
use Rattle.line.specs.declared.Profile.{Profile}
use Rattle.line.specs.declared.Whole.{Whole}
use Rattle.line.proofs.Leads.{reader_after}
use Rattle.turns.specs.Party.{seeks_tag}
use Rattle.turns.specs.Master.{burst_after, noted_after, timer_counted, burst_counted, master_takes, names_device}
use Rattle.turns.specs.Device.{is_own, may_answer}
use Rattle.turns.specs.Link.{MasterCall, MasterSide, MasterStep, DeviceSide, DeviceStep, master_tick, master_data, sides, carried}
use Rattle.turns.specs.Run.{Distinct, Sole}
use Rattle.turns.specs.declared.Sent.{Sent}
use Rattle.turns.specs.declared.Sent.TheVariants.{Silent}
use Rattle.turns.specs.declared.Noted.{Noted}
use Rattle.turns.specs.declared.Timer.{Timer}
use Rattle.turns.specs.declared.Stage.TheVariants.{Free, Waiting}
use Rattle.turns.specs.declared.Master.{Master}
use Rattle.turns.specs.declared.Device.{Device}
use Rattle.turns.proofs.Masters.{left}
use Rattle.turns.proofs.DeviceSpeaking.{Frames, an_ack, a_back}
use Rattle.turns.proofs.Listening as L
use Rattle.turns.proofs.Listening.{master_silence}
use Rattle.turns.proofs.Lists.{Quietly, AllQuiet, no_more, quiet_and, OneLoud, all_carried, all_sides, all_distinct, agreed_same, one_carried, one_sides, one_distinct}
use Rattle.turns.proofs.Phases.{OneOf, Some, this, later, Bursting, Agreed, MasterQuiet, DeviceQuiet, Ready, idle_ready}
use Rattle.runs.proofs.Beginning.{DeviceSpeaks, DeviceHears, StillQuiet, BeginsAck, BeginsBack, AllStill, nothing_still, still_and, OneBegins, SilentDevices, all_still, one_answers, one_bursts}
use Rattle.runs.proofs.Begun.{picked, before, one_from, next_after, ack_agreed, back_agreed}
use Rattle.turns.proofs.Sending.{MasterSpeaks, MasterHears}
use Rattle.turns.proofs.Sending as S
use Rattle.turns.proofs.Quiet.{Asked}
use Rattle.runs.proofs.Stx.{OneMasterSends, WaitsOn}

-- what a device sends: an ACK, which the master with its bit awaits, or a BACK, for the master that the next one is not for. `burst` is the masters' BURST, `on` the sender's burst.
pub data FrameIs (on burst next : Bool) (h : Header) (a b : MasterSide) : Frames → Type 0 where
  is_ack : h.kind ≡ ack → (h.primary ≡ true → 1 ≤ left a.master.message.stage) → (h.primary ≡ false → 1 ≤ left b.master.message.stage) → FrameIs on burst next h a b an_ack
  is_back : h.kind ≡ back → on ≡ true → burst ≡ true → h.primary ≡ (when next then false else true) → FrameIs on burst next h a b a_back

-- a device sends, behind k + 1 characters of its frame w; `burst` and `noted` are the masters' before it
pub record OneDeviceSends (p : Profile) (f : Frames) (burst : Bool) (noted : Noted) (next : Bool) (k : ℕ) (w : List ℕ) (message : Whole) (u : ℕ) (on : Bool) (a b : MasterSide) (xs : List DeviceSide) : Type 0 where
  pub primary : MasterHears p true burst noted (reader_after idle (take k w)) a
  pub secondary : MasterHears p false burst noted (reader_after idle (take k w)) b
  pub devices : OneOf (DeviceSpeaks p f k w message u on) (DeviceHears p (reader_after idle (take k w)) u) xs
  pub distinct : Distinct xs
  pub agreed : Agreed (burst_after burst noted message.header) (noted_after noted message.header) next xs
  pub frame_is : FrameIs on burst next message.header a b f
  pub no_expansion : message.expansion ≡ 0

-- a master that rests in a silent tick: one tick less is left for its ACK, and a message that waits finds no open window
pub record MasterRests (x : MasterSide) (s : MasterStep) : Type 0 where
  pub one_less : left s.side.master.message.stage ≡ left x.master.message.stage - 1
  pub same_attempts : 1 ≤ left s.side.master.message.stage → s.side.master.message.attempts ≡ x.master.message.attempts
  pub same_header : 1 ≤ left s.side.master.message.stage → s.side.master.message.header ≡ x.master.message.header
  pub waits_on : WaitsOn x s
  pub counts_on : x.master.message.stage ≡ Waiting → s.side.master.timer ≡ timer_counted x.master
  pub shut : s.side.master.message.stage ≡ Waiting → s.side.master.timer.window ≡ 0
  pub next_is : s.side.master.timer.next ≡ (timer_counted x.master).next
  pub window_is : s.side.master.timer.window ≤ (timer_counted x.master).window
  -- where RT1 ends and it rests, it uses no window
  pub over_shut : 1 ≤ left x.master.message.stage → left s.side.master.message.stage ≡ 0 → s.side.master.timer.window ≡ 0

-- a master that begins its STX: where its ACK did not come, it is a retry
pub record MasterTries (x : MasterSide) (s : MasterStep) : Type 0 where
  pub some : 1 ≤ s.side.master.message.attempts
  pub again : 1 ≤ left x.master.message.stage → (s.side.master.message.attempts ≡ x.master.message.attempts + 1) × (x.master.message.attempts ≤ x.master.retries)
  pub in_window : 0 < (timer_counted x.master).window

-- what comes of a silent tick; L is the silent line behind it
pub data SilentTick (p : Profile) (n : ℕ) (burst : Bool) (noted : Noted) (next : Bool) (a b : MasterSide) (s t : MasterStep) (ss : List DeviceStep) (L : Type 0) : Type 0 where
  still_silent : s.sent ≡ Silent → t.sent ≡ Silent → carried ss ≡ Silence → L → MasterRests a s → MasterRests b t → SilentTick p n burst noted next a b s t ss L
  primary_begins : (w : List ℕ) (message : Whole) → s.sent ≡ Sent.Character (get_or w 0 0) → t.sent ≡ Silent → carried ss ≡ Silence
      → OneMasterSends p true false burst noted next 0 w message s.side t.side (sides ss) → MasterTries a s → MasterRests b t → SilentTick p n burst noted next a b s t ss L
  secondary_begins : (w : List ℕ) (message : Whole) → s.sent ≡ Silent → t.sent ≡ Sent.Character (get_or w 0 0) → carried ss ≡ Silence
      → OneMasterSends p false true burst noted next 0 w message t.side s.side (sides ss) → MasterRests a s → MasterTries b t → SilentTick p n burst noted next a b s t ss L
  ack_begins : (w : List ℕ) (message : Whole) (u : ℕ) (on : Bool) → s.sent ≡ Silent → t.sent ≡ Silent → carried ss ≡ Character (get_or w 0 0)
      → OneDeviceSends p an_ack burst noted (next_after burst next) 0 w message u on s.side t.side (sides ss) → MasterRests a s → MasterRests b t → SilentTick p n burst noted next a b s t ss L
  back_begins : n ≡ 1 → (w : List ℕ) (message : Whole) (u : ℕ) → s.sent ≡ Silent → t.sent ≡ Silent → carried ss ≡ Character (get_or w 0 0)
      → OneDeviceSends p a_back burst noted (when next then false else true) 0 w message u true s.side t.side (sides ss) → MasterRests a s → MasterRests b t → SilentTick p n burst noted next a b s t ss L

-- before its first character nothing of a frame was heard
pub nothing_read : (w : List ℕ) → idle ≡ reader_after idle (take 0 w)
unfolding reader_after
nothing_read w = refl

-- ---- a master

-- C is what its timer satisfies behind the silent tick
pub data MasterTick (p : Profile) (primary burst : Bool) (noted : Noted) (C : Timer → Type 0) (x : MasterSide) (step : MasterStep) : Type 0 where
  rests : C step.side.master.timer → step.sent ≡ Silent → MasterQuiet p primary burst noted step.side → step.side.master.receiver ≡ idle → MasterRests x step → MasterTick p primary burst noted C x step
  begins : (t : Timer) → C t → 0 < t.window → (w : List ℕ) (message : Whole) → step.sent ≡ Sent.Character (get_or w 0 0) → MasterSpeaks p primary burst noted 0 w message step.side
      → MasterTries x step → MasterTick p primary burst noted C x step

pub master_tick_lem : (limit : ℕ) → limit ≤ 255 → (p : Profile) (primary burst : Bool) (noted : Noted) (C : Timer → Type 0) (x : MasterSide) (call : MasterCall) → MasterQuiet p primary burst noted x → burst_counted x.master ≡ burst
    → ((t : Timer) → t.next ≡ (timer_counted x.master).next → t.quiet ≡ (timer_counted x.master).quiet → t.window ≤ (timer_counted x.master).window → C t)
    → MasterTick p primary burst noted C x (master_tick limit x Silence call)
master_tick_lem limit small p primary burst noted C x call q bc f = go m.1
  where
    t : Master
    t = (master_takes x.master Silence (master_data x Silence)).master

    step : MasterStep
    step = master_tick limit x Silence call

    m : L.SilentIs limit small p primary x call q.listens t × L.Does p primary t step
    m = master_silence limit small p primary x call q.listens q.ready

    c : C t.timer
    c = f t.timer m.0.next_is m.0.quiet_is m.0.window_is

    again : (r : L.Starts p primary t step) → 1 ≤ left x.master.message.stage → (t.message.stage ≡ Waiting) ⊎ (t.message.stage ≡ Free)
        → (step.side.master.message.attempts ≡ x.master.message.attempts + 1) × (x.master.message.attempts ≤ x.master.retries)
    again r z (inl e) = (r.counts.again e (omega (arith, m.0.same_attempts, m.0.same_retries, m.0.retried z e)) ∙ ap (λ (k : ℕ). k + 1) m.0.same_attempts, m.0.retried z e)
    again r z (inr e) = absurd (omega (arith, r.in_window, m.0.free_shut z e))

    over : (r : L.Rests p primary t step) → (t.message.stage ≡ Waiting) ⊎ (t.message.stage ≡ Free) → 1 ≤ left x.master.message.stage → t.timer.window ≡ 0
    over r (inl e) z = r.shut (r.rested.waits_on e).0
    over r (inr e) z = m.0.free_shut z e

    go : L.Does p primary t step → MasterTick p primary burst noted C x step
    go (L.does_rest r) =
        rests (subst C (sym r.same_timer) c) r.silent
        (record {
          listens = r.listens;
          ready = subst Ready (sym (r.same_receiver ∙ m.0.receiver_is)) idle_ready;
          burst_is = r.same_burst ∙ m.0.burst_is ∙ bc;
          noted_is = r.same_noted ∙ m.0.noted_is ∙ q.noted_is;
        })
        (r.same_receiver ∙ m.0.receiver_is)
        (record {
          one_less = r.rested.same_left ∙ m.0.one_less;
          same_attempts = λ z. r.rested.same_attempts z ∙ m.0.same_attempts;
          same_header = λ z. r.rested.same_header z ∙ m.0.same_header;
          waits_on = λ z. let k = r.rested.waits_on (m.0.waits_on z).0 in (k.0, k.1 ∙ m.0.same_attempts);
          counts_on = λ z. r.same_timer ∙ (m.0.waits_on z).1;
          shut = λ z. ap (λ (u : Timer). u.window) r.same_timer ∙ r.shut z;
          next_is = ap (λ (u : Timer). u.next) r.same_timer ∙ m.0.next_is;
          window_is = omega (arith, ap (λ (u : Timer). u.window) r.same_timer, m.0.window_is);
          over_shut = λ z y. ap (λ (u : Timer). u.window) r.same_timer ∙ over r (m.0.over z (sym r.rested.same_left ∙ y)) z;
        })
    go (L.does_start s) =
        begins t.timer c s.in_window s.w s.message s.character
        (record {
          is_it = s.is_it;
          deaf_is = s.deaf_is;
          receiver_is = s.receiver_is;
          burst_is = s.same_burst ∙ m.0.burst_is ∙ bc;
          noted_is = s.same_noted ∙ m.0.noted_is ∙ q.noted_is;
          held = s.held;
          header_is = s.header_is;
          no_expansion = s.no_expansion;
          type_is = s.type_is;
          bit_is = s.bit_is;
          place = S.inside (omega (arith, s.held.speaks.long)) s.stage_is;
        })
        (record { some = s.counts.some; again = λ z. again s z s.counts.from; in_window = omega (arith, s.in_window, m.0.window_is) })

-- one that rests hears what begins
rest_hears : {p : Profile} {primary burst : Bool} {noted : Noted} {x : MasterSide} (w : List ℕ) → MasterQuiet p primary burst noted x → x.master.receiver ≡ idle → MasterHears p primary burst noted (reader_after idle (take 0 w)) x
rest_hears w q r = record { listens = q.listens; receiver_is = r ∙ nothing_read w; burst_is = q.burst_is; noted_is = q.noted_is }

-- ---- the devices

module _ {p : Profile} {g : ℕ} {h : Header} {n : ℕ} where
  pub still_all : {xs : List DeviceSide} {ss : List DeviceStep} → AllStill p g h n xs ss → AllQuiet (DeviceQuiet p (g - 1) h (n - 1)) xs ss
  still_all nothing_still = no_more
  still_all (still_and q a) = quiet_and q.quietly (still_all a)

  -- the devices hear a master that begins
  still_hears : {xs : List DeviceSide} {ss : List DeviceStep} (w : List ℕ) → AllStill p g h n xs ss → AllQuiet (DeviceHears p (reader_after idle (take 0 w)) 0) xs ss
  still_hears w nothing_still = no_more
  still_hears w (still_and {s = s} q a) =
      quiet_and
      (record {
        silent = q.quietly.silent;
        same = q.quietly.same;
        same_burst = q.quietly.same_burst;
        same_primary = q.quietly.same_primary;
        good = record { listens = q.quietly.good.listens; receiver_is = q.idle_is ∙ nothing_read w; another = λ e. omega (arith, e, q.quietly.good.listens.sound.unique_low) };
      })
      (still_hears w a)

  -- and a device that does
  others_hear : (w : List ℕ) (u : ℕ) (z : DeviceSide) (t : DeviceStep) → StillQuiet p g h n z t → (z.device.unique ≡ u → ⊥) → Quietly (DeviceHears p (reader_after idle (take 0 w)) u) z t
  others_hear w u z t q apart = record {
    silent = q.quietly.silent;
    same = q.quietly.same;
    same_burst = q.quietly.same_burst;
    same_primary = q.quietly.same_primary;
    good = record { listens = q.quietly.good.listens; receiver_is = q.idle_is ∙ nothing_read w; another = λ e. apart (sym q.quietly.same.same_unique ∙ e) };
  }

own_long : (d : Device) (h : Header) → may_answer d h ≡ true → names_device h ≡ true → h.address ≡ d.unique
unfolding when◌then◌else◌
own_long d h = go (seeks_tag h)
  where
    go : (t : Bool) → (when t then true else is_own d h) ≡ true → (when t then false else h.long) ≡ true → h.address ≡ d.unique
    go true o l = absurd (true_false (sym l))
    go false o l = sym (eqb-true d.unique h.address (sym (if_is_true h.long _ _ l) ∙ o))

-- ---- all of them

module _ (p : Profile) (g : ℕ) (h : Header) (n : ℕ) (burst : Bool) (noted : Noted) (next : Bool) (A B : Timer → Type 0) (L : Type 0) {a b : MasterSide} {s t : MasterStep} {xs : List DeviceSide} {ss : List DeviceStep} (distinct : Distinct xs) (agreed : Agreed burst noted next xs) (sole : Sole (sides ss)) where
  answer_begins : s.sent ≡ Silent → t.sent ≡ Silent → ((w : List ℕ) → MasterHears p true burst noted (reader_after idle (take 0 w)) s.side) → ((w : List ℕ) → MasterHears p false burst noted (reader_after idle (take 0 w)) t.side)
      → 1 ≤ g → Asked g h a b → MasterRests a s → MasterRests b t → OneBegins p g h n (BeginsAck p h) xs ss → SilentTick p n burst noted next a b s t ss L
  answer_begins ea eb ha hb some asked ra rb o =
      let k = (picked o).it in
      let one : OneLoud (DeviceSpeaks p an_ack 0 k.w k.message (picked o).x.device.unique k.burst) (DeviceHears p (reader_after idle (take 0 k.w)) (picked o).x.device.unique) (get_or k.w 0 0) xs ss =
      one_from o (record { character = k.character; same = k.same; good = k.speaks }) (others_hear k.w (picked o).x.device.unique) distinct in
      let bit : k.message.header.primary ≡ h.primary = ap (λ (z : Header). z.primary) k.header_is ∙ ap (λ (z : Header). z.primary) k.request_is in
      ack_begins k.w k.message (picked o).x.device.unique k.burst ea eb (one_carried one)
      (record {
        primary = ha k.w;
        secondary = hb k.w;
        devices = one_sides one;
        distinct = one_distinct one distinct;
        agreed = subst (λ (z : Header). Agreed (burst_after burst noted z) (noted_after noted z) (next_after burst next) (sides ss)) (sym k.header_is)
            (ack_agreed o distinct sole agreed k.request k.burst k.speaks.burst_is k.same.same_unique k.primary_is (own_long (picked o).x.device k.request k.own) k.short_same);
        frame_is = is_ack (ap (λ (z : Header). z.kind) k.header_is)
            (λ z. omega (arith, ra.one_less, asked.by_primary some (sym bit ∙ z)))
            (λ z. omega (arith, rb.one_less, asked.by_secondary some (sym bit ∙ z)));
        no_expansion = k.no_expansion;
      })
      ra rb

  burst_begins : s.sent ≡ Silent → t.sent ≡ Silent → ((w : List ℕ) → MasterHears p true burst noted (reader_after idle (take 0 w)) s.side) → ((w : List ℕ) → MasterHears p false burst noted (reader_after idle (take 0 w)) t.side)
      → n ≡ 1 → MasterRests a s → MasterRests b t → OneBegins p g h n (BeginsBack p) xs ss → SilentTick p n burst noted next a b s t ss L
  unfolding when◌then◌else◌
  burst_begins ea eb ha hb due ra rb o =
      let k = (picked o).it in
      let one : OneLoud (DeviceSpeaks p a_back 0 k.w k.message (picked o).x.device.unique true) (DeviceHears p (reader_after idle (take 0 k.w)) (picked o).x.device.unique) (get_or k.w 0 0) xs ss =
      one_from o (record { character = k.character; same = k.same; good = k.speaks }) (others_hear k.w (picked o).x.device.unique) distinct in
      let it = before o agreed.each in
      let was : (picked o).x.device.primary ≡ next = it.next_is k.bursts in
      back_begins due k.w k.message (picked o).x.device.unique ea eb (one_carried one)
      (record {
        primary = ha k.w;
        secondary = hb k.w;
        devices = one_sides one;
        distinct = one_distinct one distinct;
        agreed = back_agreed o distinct sole agreed k.message.header (when next then false else true) k.type_is k.long_is (k.address_is ∙ sym k.same.same_unique) k.speaks.burst_is (k.primary_is ∙ ap (λ (z : Bool). when z then false else true) was);
        frame_is = is_back k.type_is refl (it.burst_set k.bursts) (k.for_is ∙ was ∙ twice next);
        no_expansion = k.no_expansion;
      })
      ra rb
    where
      twice : (z : Bool) → z ≡ (when (when z then false else true) then false else true)
      twice true = refl
      twice false = refl

  -- not two windows are open; and none while a device begins; with BURST set the next BACK is for the master that begins
  pub silent_tick : Asked g h a b → ((x y : Timer) (i j : ℕ) → A x → B y → 0 < x.window → 0 < y.window → s.sent ≡ Sent.Character i → t.sent ≡ Sent.Character j → ⊥) → ((1 ≤ g) ⊎ (n ≡ 1) → (x : Timer) → A x → x.window ≡ 0) → ((1 ≤ g) ⊎ (n ≡ 1) → (y : Timer) → B y → y.window ≡ 0)
      → ((x : Timer) → A x → 0 < x.window → burst ≡ true → next ≡ true) → ((y : Timer) → B y → 0 < y.window → burst ≡ true → next ≡ false)
      → (A s.side.master.timer → B t.side.master.timer → MasterQuiet p true burst noted s.side → MasterQuiet p false burst noted t.side → (n ≡ 1 → burst ≡ true → ⊥) → MasterRests a s → MasterRests b t → AllStill p g h n xs ss → L)
      → MasterTick p true burst noted A a s → MasterTick p false burst noted B b t → SilentDevices p g h n xs ss → SilentTick p n burst noted next a b s t ss L
  silent_tick asked two na nb ta tb stay (rests ca ea qa ra ma) (rests cb eb qb rb mb) (all_still d) =
      still_silent ea eb (all_carried (still_all d)) (stay ca cb qa qb (λ e on. not_one e d (agreed.one_bursts on)) ma mb d) ma mb
    where
      not_one : n ≡ 1 → {ys : List DeviceSide} {ts : List DeviceStep} → AllStill p g h n ys ts → Some Bursting ys → ⊥
      not_one e (still_and q d) (this k) = q.not_due k e
      not_one e (still_and q d) (later m) = not_one e d m
      not_one e nothing_still x10 = elim x10 [ ]
  silent_tick asked two na nb ta tb stay (rests ca ea qa ra ma) (rests cb eb qb rb mb) (one_answers z o) = answer_begins ea eb (λ w. rest_hears w qa ra) (λ w. rest_hears w qb rb) z asked ma mb o
  silent_tick asked two na nb ta tb stay (rests ca ea qa ra ma) (rests cb eb qb rb mb) (one_bursts z o) = burst_begins ea eb (λ w. rest_hears w qa ra) (λ w. rest_hears w qb rb) z ma mb o
  silent_tick asked two na nb ta tb stay (begins x ca wa w message ea sa ma) (rests cb eb qb rb mb) (all_still d) =
      let q = still_hears w d in
      primary_begins w message ea eb (all_carried q) (record { speaks = sa; hears = rest_hears w qb rb; devices = all_sides q; distinct = all_distinct q distinct; agreed = agreed_same q agreed; turn_is = ta x ca wa }) ma mb
  silent_tick asked two na nb ta tb stay (rests ca ea qa ra ma) (begins y cb wb w message eb sb mb) (all_still d) =
      let q = still_hears w d in
      secondary_begins w message ea eb (all_carried q) (record { speaks = sb; hears = rest_hears w qa ra; devices = all_sides q; distinct = all_distinct q distinct; agreed = agreed_same q agreed; turn_is = tb y cb wb }) ma mb
  silent_tick asked two na nb ta tb stay (begins x ca wa w message ea sa ma) (begins y cb wb w' message' eb sb mb) d = absurd (two x y _ _ ca cb wa wb ea eb)
  silent_tick asked two na nb ta tb stay (begins x ca wa w message ea sa ma) (rests cb eb qb rb mb) (one_answers z o) = absurd (omega (arith, na (inl z) x ca))
  silent_tick asked two na nb ta tb stay (begins x ca wa w message ea sa ma) (rests cb eb qb rb mb) (one_bursts z o) = absurd (omega (arith, na (inr z) x ca))
  silent_tick asked two na nb ta tb stay (rests ca ea qa ra ma) (begins y cb wb w message eb sb mb) (one_answers z o) = absurd (omega (arith, nb (inl z) y cb))
  silent_tick asked two na nb ta tb stay (rests ca ea qa ra ma) (begins y cb wb w message eb sb mb) (one_bursts z o) = absurd (omega (arith, nb (inr z) y cb))
