-- A whole tick of a listening party, for every call: inside another's frame, at its end, and on the silent line.
use Prim.Native.Nat.{ℕ, suc, ◌-◌, ◌≤◌, ◌<◌}
use native.Mathlib.Omega.{arith}
use mathlib.Core.Path.{◌≡◌, refl, sym, ap, subst, ◌∙◌}
use mathlib.Core.Bool.{Bool, true, false}
use mathlib.Core.List.{List}
use mathlib.Core.Logic.{◌⊎◌}
use lib.ListN.{length, get_or, take}
use Rattle.base.specs.Refusal.{Called, accepted, refused}
use Rattle.base.specs.Choice.{when◌then◌else◌}
use Rattle.base.proofs.Stores.{length_stored}
use Rattle.frame.specs.Delimiter.{stx}
use Rattle.frame.specs.Frame.{frame_bytes}
use Rattle.frame.specs.declared.Header.{Header}
use Rattle.line.specs.Reader.{idle, passing, taken}
use Rattle.line.specs.declared.Event.{Event}
use Rattle.line.specs.declared.Event.TheVariants.{Nothing, Frame}
use Rattle.line.specs.declared.Heard.{Heard}
use Rattle.line.specs.declared.Heard.TheVariants.{Silence, Character}
use Rattle.line.specs.declared.Profile.{Profile}
use Rattle.line.specs.declared.Receiver.{Receiver}
use Rattle.line.specs.declared.Whole.{Whole}
use Rattle.line.proofs.Leads.{reader_after}
use Rattle.turns.specs.Master.{burst_after, noted_after, EndedForMaster, fresh, inside, broken, any_stx, ack_to_itself, ack_to_other, back_to_itself, back_to_other, ended_by, timer_after, timer, timer_counted, burst_counted, master_takes, requested, request_header, names_device}
use Rattle.turns.specs.Device as DV
use Rattle.turns.specs.Device.{may_answer, due_after, error_frame, device_takes, answer_header, first_for}
use Rattle.turns.specs.Link.{MasterCall, no_request, requests, DeviceCall, MasterSide, MasterStep, master_called, master_tick, master_data, DeviceSide, DeviceStep, device_calls, device_tick, device_data, heard_frame}
use Rattle.turns.specs.declared.Sent.{Sent}
use Rattle.turns.specs.declared.Sent.TheVariants.{Silent}
use Rattle.turns.specs.declared.Stage.TheVariants.{Free, Waiting, Sending}
use Rattle.turns.specs.declared.Turn.TheVariants.{Listens, Asked, Answers, Follows, Bursts}
use Rattle.turns.specs.declared.Timer.{Timer}
use Rattle.turns.specs.declared.Message.{Message}
use Rattle.turns.specs.declared.Master.{Master}
use Rattle.turns.specs.declared.MasterTaken.{MasterTaken}
use Rattle.turns.specs.declared.Device.{Device}
use Rattle.turns.specs.declared.DeviceTaken.{DeviceTaken}
use Rattle.turns.specs.declared.DeviceTold.{DeviceTold}
use Rattle.turns.proofs.Turns.{listens_follows, asked_follows}
use Rattle.turns.proofs.Spoken.{Spoken}
use Rattle.turns.proofs.Masters as M
use Rattle.turns.proofs.Masters.{Holds, Formed, left, Still, master_goes}
use Rattle.turns.proofs.Taking as T
use Rattle.turns.proofs.Devices as D
use Rattle.turns.proofs.Devices.{Sound, Hand, SameDevice, ticks_in_hand, device_goes}
use Rattle.turns.proofs.DeviceTaking as DT
use Rattle.turns.proofs.Phases.{Ready, MasterIs, MasterListens, DeviceListens}

-- ---- masters

-- a request leaves the frame buffer as long as it was
pub frame_room : (limit : ℕ) (x : MasterSide) (heard : Heard) (call : MasterCall) → length (master_tick limit x heard call).side.frame ≡ length x.frame
unfolding master_tick
frame_room limit x heard no_request = refl
frame_room limit x heard (requests q put) = go (requested limit t.master q (length put))
  where
    t : MasterTaken
    t = master_takes x.master heard (master_data x heard)

    go : (c : Called Master) → length (master_called c t.master (frame_bytes q.preamble (request_header t.master q) put) x.frame (master_data x heard) t.told).side.frame ≡ length x.frame
    go (accepted m) = length_stored x.frame 0 (frame_bytes q.preamble (request_header t.master q) put)
    go (refused why) = refl

-- a master that rests behind what it heard
pub record Rests (p : Profile) (primary : Bool) (t : Master) (step : MasterStep) : Type 0 where
  pub listens : MasterListens p primary step.side
  pub silent : step.sent ≡ Silent
  pub same_receiver : step.side.master.receiver ≡ t.receiver
  pub same_burst : step.side.master.burst ≡ t.burst
  pub same_noted : step.side.master.noted ≡ t.noted
  pub same_timer : step.side.master.timer ≡ t.timer
  pub rested : M.Rested t step.side.master.message
  pub shut : step.side.master.message.stage ≡ Waiting → t.timer.window ≡ 0

-- a master that begins its STX behind what it heard
pub record Starts (p : Profile) (primary : Bool) (t : Master) (step : MasterStep) : Type 0 where
  pub w : List ℕ
  pub message : Whole
  pub is_it : MasterIs p primary step.side
  pub held : Holds step.side.frame step.side.master.message.length w message
  pub deaf_is : step.side.master.deaf ≡ true
  pub receiver_is : step.side.master.receiver ≡ passing
  pub stage_is : step.side.master.message.stage ≡ Sending 1
  pub character : step.sent ≡ Sent.Character (get_or w 0 0)
  pub header_is : message.header ≡ step.side.master.message.header
  pub no_expansion : message.expansion ≡ 0
  pub type_is : message.header.kind ≡ stx
  pub bit_is : message.header.primary ≡ primary
  pub same_burst : step.side.master.burst ≡ t.burst
  pub same_noted : step.side.master.noted ≡ t.noted
  pub in_window : 0 < t.timer.window
  pub counts : M.Counts t step.side.master.message

pub data Does (p : Profile) (primary : Bool) (t : Master) (step : MasterStep) : Type 0 where
  does_rest : Rests p primary t step → Does p primary t step
  does_start : Starts p primary t step → Does p primary t step

-- every tick of a master that is not sending, from what it is behind what it heard
pub master_does : (limit : ℕ) (p : Profile) (primary : Bool) (x : MasterSide) (heard : Heard) (call : MasterCall) → limit ≤ 255 → MasterIs p primary x
    → T.Took x.frame x.master (master_takes x.master heard (master_data x heard)).master
    → Does p primary (master_takes x.master heard (master_data x heard)).master (master_tick limit x heard call)
unfolding master_tick
master_does limit p primary x heard call small is took = go (master_goes limit t call x.frame (master_data x heard) small is.room took.still took.formed)
  where
    t : MasterTaken
    t = master_takes x.master heard (master_data x heard)

    step : MasterStep
    step = master_tick limit x heard call

    room : 284 ≤ length step.side.frame
    room = omega (arith, is.room, frame_room limit x heard call)

    go : M.Goes t.master step → Does p primary t.master step
    go (M.rests g e s v f z y) =
        does_rest (record {
          listens = record {
            is_it = record {
              profile_is = ap (λ (m : Master). m.profile) e ∙ took.same_profile ∙ is.profile_is;
              primary_is = ap (λ (m : Master). m.primary) e ∙ took.same_primary ∙ is.primary_is;
              room = room;
            };
            hears = ap (λ (m : Master). m.deaf) e;
            still = subst (λ (m : Master). Still m.message.stage) (sym e) v;
            formed = subst (λ (m : Master). Formed m.primary step.side.frame m.message) (sym e) f;
          };
          silent = s;
          same_receiver = ap (λ (m : Master). m.receiver) e;
          same_burst = ap (λ (m : Master). m.burst) e;
          same_noted = ap (λ (m : Master). m.noted) e;
          same_timer = ap (λ (m : Master). m.timer) e;
          rested = subst (λ (m : Master). M.Rested t.master m.message) (sym e) y;
          shut = λ q. z (ap (λ (m : Master). m.message.stage) (sym e) ∙ q);
        })
    go (M.begins g w message e s c h a y k u z n) =
        does_start (record {
          w = w;
          message = message;
          is_it = record {
            profile_is = ap (λ (m : Master). m.profile) e ∙ took.same_profile ∙ is.profile_is;
            primary_is = ap (λ (m : Master). m.primary) e ∙ took.same_primary ∙ is.primary_is;
            room = room;
          };
          held = subst (λ (m : Master). Holds step.side.frame m.message.length w message) (sym e) h;
          deaf_is = ap (λ (m : Master). m.deaf) e;
          receiver_is = ap (λ (m : Master). m.receiver) e;
          stage_is = ap (λ (m : Master). m.message.stage) e ∙ s;
          character = c;
          header_is = a ∙ ap (λ (m : Master). m.message.header) (sym e);
          no_expansion = y;
          type_is = ap (λ (h : Header). h.kind) a ∙ k;
          bit_is = ap (λ (h : Header). h.primary) a ∙ u ∙ took.same_primary ∙ is.primary_is;
          same_burst = ap (λ (m : Master). m.burst) e;
          same_noted = ap (λ (m : Master). m.noted) e;
          in_window = z;
          counts = subst (λ (m : Master). M.Counts t.master m.message) (sym e) n;
        })

-- a timer that has just been set has no open window
-- where something ends no window is open
pub timer_shut : (p : Profile) (primary : Bool) (e : EndedForMaster) (burst : Bool) → (timer_after p primary e burst).window ≡ 0
timer_shut p primary fresh burst = refl
timer_shut p primary inside burst = refl
timer_shut p primary broken true = refl
timer_shut p primary broken false = refl
timer_shut p primary any_stx true = refl
timer_shut p primary any_stx false = refl
timer_shut p primary ack_to_itself true = refl
timer_shut p primary ack_to_itself false = refl
timer_shut p primary ack_to_other true = refl
timer_shut p primary ack_to_other false = refl
timer_shut p primary back_to_itself burst = refl
timer_shut p primary back_to_other burst = refl

-- the message is as it was before what was heard
rested_as : {m t : Master} {g : Message} → t.message ≡ m.message → M.Rested t g → M.Rested m g
rested_as e r = record {
  same_left = r.same_left ∙ ap (λ (g : Message). left g.stage) e;
  same_attempts = λ z. r.same_attempts z ∙ ap (λ (g : Message). g.attempts) e;
  same_header = λ z. r.same_header z ∙ ap (λ (g : Message). g.header) e;
  waits_on = λ z. let q = r.waits_on (ap (λ (g : Message). g.stage) e ∙ z) in (q.0, q.1 ∙ ap (λ (g : Message). g.attempts) e);
}

-- with no open window it rests
pub rests_shut : {p : Profile} {primary : Bool} {t : Master} {step : MasterStep} → t.timer.window ≡ 0 → Does p primary t step → Rests p primary t step
rests_shut e (does_rest r) = r
rests_shut e (does_start s) = absurd (omega (arith, e, s.in_window))

module _ (limit : ℕ) (small : limit ≤ 255) (p : Profile) (primary : Bool) (x : MasterSide) (call : MasterCall) (l : MasterListens p primary x) where
  -- inside a frame
  pub record HeardMid (r : Receiver) (step : MasterStep) : Type 0 where
    pub listens : MasterListens p primary step.side
    pub silent : step.sent ≡ Silent
    pub receiver_is : step.side.master.receiver ≡ r
    pub same_burst : step.side.master.burst ≡ x.master.burst
    pub same_noted : step.side.master.noted ≡ x.master.noted
    pub rested : M.Rested x.master step.side.master.message

  pub master_mid : (w : List ℕ) (message : Whole) (k : ℕ) → Spoken w message → suc k < length w → x.master.receiver ≡ reader_after idle (take k w)
      → HeardMid (reader_after idle (take (suc k) w)) (master_tick limit x (Character (get_or w k 0)) call)
  master_mid w message k s below r =
      let e = subst (λ (z : Receiver). taken z (Character (get_or w k 0)) ≡ Rattle.line.specs.Reader.tells (reader_after idle (take (suc k) w)) Nothing) (sym r) (s.mid k below) in
      let took = T.takes_mid x.frame (master_data x (Character (get_or w k 0))) x.master l.hears l.still l.formed (get_or w k 0) (reader_after idle (take (suc k) w)) e in
      let rest = rests_shut (ap (λ (t : Timer). t.window) took.timer_is) (master_does limit p primary x (Character (get_or w k 0)) call small l.is_it took.took) in
      record {
        listens = rest.listens;
        silent = rest.silent;
        receiver_is = rest.same_receiver ∙ took.receiver_is;
        same_burst = rest.same_burst ∙ took.burst_is;
        same_noted = rest.same_noted ∙ took.noted_is;
        rested = rested_as took.same_message rest.rested;
      }

  -- at a frame's end
  pub record HeardFrame (message : Whole) (step : MasterStep) : Type 0 where
    pub listens : MasterListens p primary step.side
    pub silent : step.sent ≡ Silent
    pub receiver_is : step.side.master.receiver ≡ idle
    pub burst_is : step.side.master.burst ≡ burst_after x.master.burst x.master.noted message.header
    pub noted_is : step.side.master.noted ≡ noted_after x.master.noted message.header
    pub timer_is : step.side.master.timer ≡ timer_after x.master.profile x.master.primary (ended_by x.master message.header) (burst_after x.master.burst x.master.noted message.header)
    pub gone : left step.side.master.message.stage ≡ 0
    pub waits_on : x.master.message.stage ≡ Waiting → (step.side.master.message.stage ≡ Waiting) × (step.side.master.message.attempts ≡ x.master.message.attempts)

  pub master_frame : (w : List ℕ) (message : Whole) (k : ℕ) → Spoken w message → suc k ≡ length w → x.master.receiver ≡ reader_after idle (take k w)
      → HeardFrame message (master_tick limit x (Character (get_or w k 0)) call)
  master_frame w message k s last r =
      let e = subst (λ (z : Receiver). taken z (Character (get_or w k 0)) ≡ Rattle.line.specs.Reader.tells idle (Frame message)) (sym r) (s.end k last) in
      let took = T.takes_frame x.frame (master_data x (Character (get_or w k 0))) x.master l.hears l.still l.formed (get_or w k 0) message e in
      let shut = ap (λ (t : Timer). t.window) took.timer_is ∙ timer_shut x.master.profile x.master.primary (ended_by x.master message.header) (burst_after x.master.burst x.master.noted message.header) in
      let rest = rests_shut shut (master_does limit p primary x (Character (get_or w k 0)) call small l.is_it took.took) in
      record {
        listens = rest.listens;
        silent = rest.silent;
        receiver_is = rest.same_receiver ∙ took.receiver_is;
        burst_is = rest.same_burst ∙ took.burst_is;
        noted_is = rest.same_noted ∙ took.noted_is;
        timer_is = rest.same_timer ∙ took.timer_is;
        gone = rest.rested.same_left ∙ took.gone;
        waits_on = λ z. let q = took.waits_on z in let r = rest.rested.waits_on q.0 in (r.0, r.1 ∙ q.1);
      }

  -- on the silent line
  pub record SilentIs (t : Master) : Type 0 where
    pub receiver_is : t.receiver ≡ idle
    pub burst_is : t.burst ≡ burst_counted x.master
    pub noted_is : t.noted ≡ x.master.noted
    pub next_is : t.timer.next ≡ (timer_counted x.master).next
    pub quiet_is : t.timer.quiet ≡ (timer_counted x.master).quiet
    pub window_is : t.timer.window ≤ (timer_counted x.master).window
    pub one_less : left t.message.stage ≡ left x.master.message.stage - 1
    pub same_attempts : t.message.attempts ≡ x.master.message.attempts
    pub same_header : t.message.header ≡ x.master.message.header
    pub same_retries : t.retries ≡ x.master.retries
    pub retried : 1 ≤ left x.master.message.stage → t.message.stage ≡ Waiting → x.master.message.attempts ≤ x.master.retries
    pub free_shut : 1 ≤ left x.master.message.stage → t.message.stage ≡ Free → t.timer.window ≡ 0
    pub over : 1 ≤ left x.master.message.stage → left t.message.stage ≡ 0 → (t.message.stage ≡ Waiting) ⊎ (t.message.stage ≡ Free)
    pub waits_on : x.master.message.stage ≡ Waiting → (t.message.stage ≡ Waiting) × (t.timer ≡ timer_counted x.master)

  pub master_silence : Ready x.master.receiver
      → SilentIs (master_takes x.master Silence (master_data x Silence)).master × Does p primary (master_takes x.master Silence (master_data x Silence)).master (master_tick limit x Silence call)
  unfolding Ready
  master_silence ready =
      let took = T.takes_silence x.frame (master_data x Silence) x.master l.hears l.still l.formed ready in (
        record {
          receiver_is = took.receiver_is;
          burst_is = took.burst_is;
          noted_is = took.noted_is;
          next_is = took.next_is;
          quiet_is = took.quiet_is;
          window_is = took.window_is;
          one_less = took.one_less;
          same_attempts = took.same_attempts;
          same_header = took.same_header;
          same_retries = took.took.same_retries;
          retried = took.retried;
          free_shut = took.free_shut;
          over = took.over;
          waits_on = took.waits_on;
        },
        master_does limit p primary x Silence call small l.is_it took.took,
      )

-- a master behind its own STX: it hears nothing in this tick, and rests
pub record Finished (p : Profile) (primary : Bool) (x : MasterSide) (step : MasterStep) : Type 0 where
  pub listens : MasterListens p primary step.side
  pub silent : step.sent ≡ Silent
  pub same_receiver : step.side.master.receiver ≡ x.master.receiver
  pub same_burst : step.side.master.burst ≡ x.master.burst
  pub same_noted : step.side.master.noted ≡ x.master.noted
  pub same_timer : step.side.master.timer ≡ x.master.timer
  pub rested : M.Rested x.master step.side.master.message

pub master_finished : (limit : ℕ) (p : Profile) (primary : Bool) (x : MasterSide) (heard : Heard) (call : MasterCall) → limit ≤ 255 → MasterIs p primary x → x.master.deaf ≡ true
    → Still x.master.message.stage → Formed x.master.primary x.frame x.master.message → x.master.timer.window ≡ 0 → Finished p primary x (master_tick limit x heard call)
master_finished limit p primary x heard call small is deaf still formed shut =
    let e : (master_takes x.master heard (master_data x heard)).master ≡ x.master = ap (λ (t : MasterTaken). t.master) (T.takes_nothing x.master heard (master_data x heard) deaf) in
    let took : T.Took x.frame x.master (master_takes x.master heard (master_data x heard)).master =
    subst (T.Took x.frame x.master) (sym e) (record { same_primary = refl; same_profile = refl; same_retries = refl; still = still; formed = formed }) in
    let rest = rests_shut (ap (λ (m : Master). m.timer.window) e ∙ shut) (master_does limit p primary x heard call small is took) in
    record {
      listens = rest.listens;
      silent = rest.silent;
      same_receiver = rest.same_receiver ∙ ap (λ (m : Master). m.receiver) e;
      same_burst = rest.same_burst ∙ ap (λ (m : Master). m.burst) e;
      same_noted = rest.same_noted ∙ ap (λ (m : Master). m.noted) e;
      same_timer = rest.same_timer ∙ ap (λ (m : Master). m.timer) e;
      rested = rested_as (ap (λ (m : Master). m.message) e) rest.rested;
    }

-- ---- devices

-- without a damaged frame the frame buffer stays behind what was heard
pub plain : (d : Device) (frame : List ℕ) (e : Event) → (e ≡ Nothing) → error_frame d e frame ≡ frame
plain d frame e q = ap (λ (z : Event). error_frame d z frame) q

pub plain_frame : (d : Device) (frame : List ℕ) (e : Event) (w : Whole) → (e ≡ Frame w) → error_frame d e frame ≡ frame
plain_frame d frame e w q = ap (λ (z : Event). error_frame d z frame) q

-- every tick of a device, from what it is behind what it heard
pub device_does : (limit : ℕ) (x : DeviceSide) (heard : Heard) (call : DeviceCall) → 2 ≤ limit → limit ≤ 255 → 1 ≤ x.device.profile.sto
    → heard_frame x heard ≡ x.frame → DT.Took x.frame x.contents x.device (device_takes x.device heard)
    → D.Goes (device_takes x.device heard).device (device_tick limit x heard call)
unfolding device_tick
device_does limit x heard call low high some same took =
    subst (λ (f : List ℕ). D.Goes (device_takes x.device heard).device (device_calls limit (device_takes x.device heard) call f (device_data x heard) x.contents)) (sym same)
    (device_goes limit low high (device_takes x.device heard) x.frame (device_data x heard) x.contents (subst (λ (p : Profile). 1 ≤ p.sto) (sym took.same.same_profile) some) took.sound took.turned call)

-- the addresses stay
pub record SameAddress (x y : DeviceSide) : Type 0 where
  pub same_polling : y.device.polling ≡ x.device.polling
  pub same_unique : y.device.unique ≡ x.device.unique

pub joined : {c d e : Device} → SameDevice c d → SameDevice d e → SameDevice c e
joined a b = record {
  same_profile = b.same_profile ∙ a.same_profile;
  same_preamble = b.same_preamble ∙ a.same_preamble;
  same_polling = b.same_polling ∙ a.same_polling;
  same_unique = b.same_unique ∙ a.same_unique;
}

-- with nothing in hand it listens
pub hand_listens : (d : Device) (frame : List ℕ) → Hand d frame → ticks_in_hand d.turn ≤ 0 → d.turn ≡ Listens
hand_listens d frame (D.nothing_in_hand q) z = q
hand_listens d frame (D.is_asked n q some o) z = absurd (omega (arith, ap ticks_in_hand q))
hand_listens d frame (D.is_accepted q p) z = absurd (omega (arith, ap ticks_in_hand q))

-- a device that rests in a tick
pub record DeviceRests (p : Profile) (x : DeviceSide) (t : Device) (step : DeviceStep) : Type 0 where
  pub listens : DeviceListens p step.side
  pub silent : step.sent ≡ Silent
  pub same : SameDevice x.device step.side.device
  pub same_receiver : step.side.device.receiver ≡ t.receiver
  pub same_burst : step.side.device.burst ≡ t.burst
  pub same_primary : step.side.device.primary ≡ t.primary
  pub same_due : step.side.device.due ≡ t.due
  pub same_request : step.side.device.request ≡ t.request
  pub less_in_hand : ticks_in_hand step.side.device.turn ≤ ticks_in_hand t.turn

-- it rests, if it is not about to send
pub rests_from : (p : Profile) (x : DeviceSide) (t : Device) (step : DeviceStep) → x.device.profile ≡ p → SameDevice x.device t → D.Goes t step
    → ((t.turn ≡ Listens → ⊥) → (t.turn ≡ Asked t.profile.sto → ⊥) → ⊥) → (t.turn ≡ Follows → ⊥) → DeviceRests p x t step
rests_from p x t step q same (D.rests sd sil deaf rec bur pri due req less hand sound nb) no_answer no_back = record {
  listens = record { profile_is = sd.same_profile ∙ same.same_profile ∙ q; hears = deaf; hand = hand; sound = sound };
  silent = sil;
  same = joined same sd;
  same_receiver = rec;
  same_burst = bur;
  same_primary = pri;
  same_due = due;
  same_request = req;
  less_in_hand = less;
}
rests_from p x t step q same (D.answers burst primary b hd req own short nl nf nb) no_answer no_back = absurd (no_answer nl nf)
rests_from p x t step q same (D.bursts b command f hd pr) no_answer no_back = absurd (no_back f)

-- a device behind its own frame: it hears nothing in this tick
deaf_does : (limit : ℕ) (x : DeviceSide) (heard : Heard) (call : DeviceCall) → 2 ≤ limit → limit ≤ 255 → 1 ≤ x.device.profile.sto → x.device.deaf ≡ true → Sound x.device x.frame x.contents
    → D.Turned x.device x.frame → D.Goes x.device (device_tick limit x heard call)
deaf_does limit x heard call low high some deaf sound turned =
    let e : device_takes x.device heard ≡ Rattle.turns.specs.Device.tells x.device DeviceTold.Nothing Nothing = DT.takes_nothing x.device heard deaf in
    let took : DT.Took x.frame x.contents x.device (device_takes x.device heard) =
    subst (DT.Took x.frame x.contents x.device) (sym e)
    (record { same = record { same_profile = refl; same_preamble = refl; same_polling = refl; same_unique = refl }; same_burst = refl; same_primary = refl; sound = sound; turned = turned }) in
    subst (λ (d : Device). D.Goes d (device_tick limit x heard call)) (ap (λ (t : DeviceTaken). t.device) e)
    (device_does limit x heard call low high some (plain x.device x.frame _ (ap (λ (t : DeviceTaken). t.event) e)) took)

pub device_finished : (limit : ℕ) (p : Profile) (x : DeviceSide) (heard : Heard) (call : DeviceCall) → 2 ≤ limit → limit ≤ 255 → 1 ≤ x.device.profile.sto → x.device.profile ≡ p → x.device.deaf ≡ true
    → Sound x.device x.frame x.contents → x.device.turn ≡ Listens → DeviceRests p x x.device (device_tick limit x heard call)
device_finished limit p x heard call low high some q deaf sound turn =
    rests_from p x x.device _ q (record { same_profile = refl; same_preamble = refl; same_polling = refl; same_unique = refl })
    (deaf_does limit x heard call low high some deaf sound (D.in_hand (D.nothing_in_hand turn))) (λ a b. a turn) (λ f. listens_follows (sym turn ∙ f))

-- a bursting device behind its own ACK: its BACK begins
pub record FollowsOn (x : DeviceSide) (step : DeviceStep) : Type 0 where
  pub begun : D.Begun x.device step Bursts x.device.burst
  pub command : ℕ
  pub header_is : begun.message.header ≡ D.back_for x.device command
  pub primary_is : step.side.device.primary ≡ (when x.device.primary then false else true)

pub device_follows : (limit : ℕ) (x : DeviceSide) (heard : Heard) (call : DeviceCall) → 2 ≤ limit → limit ≤ 255 → 1 ≤ x.device.profile.sto → x.device.deaf ≡ true
    → Sound x.device x.frame x.contents → x.device.turn ≡ Follows → x.device.burst ≡ true → FollowsOn x (device_tick limit x heard call)
device_follows limit x heard call low high some deaf sound turn on = go (deaf_does limit x heard call low high some deaf sound (D.follows_now turn on))
  where
    go : D.Goes x.device (device_tick limit x heard call) → FollowsOn x (device_tick limit x heard call)
    go (D.rests sd sil deaf' rec bur pri due req less hand sound' nb) = absurd (nb turn)
    go (D.answers burst primary b hd req own short nl nf nb) = absurd (nb turn)
    go (D.bursts b command f hd pr) = record { begun = b; command = command; header_is = hd; primary_is = pr }

module _ (limit : ℕ) (low : 2 ≤ limit) (high : limit ≤ 255) (p : Profile) (some : 1 ≤ p.sto) (x : DeviceSide) (call : DeviceCall) (l : DeviceListens p x) where
  some_own : 1 ≤ x.device.profile.sto
  some_own = subst (λ (q : Profile). 1 ≤ q.sto) (sym l.profile_is) some

  -- inside a frame
  pub record DeviceMid (r : Receiver) (step : DeviceStep) : Type 0 where
    pub listens : DeviceListens p step.side
    pub silent : step.sent ≡ Silent
    pub same : SameDevice x.device step.side.device
    pub receiver_is : step.side.device.receiver ≡ r
    pub same_burst : step.side.device.burst ≡ x.device.burst
    pub same_primary : step.side.device.primary ≡ x.device.primary

  pub device_mid : (w : List ℕ) (message : Whole) (k : ℕ) → Spoken w message → suc k < length w → x.device.receiver ≡ reader_after idle (take k w)
      → DeviceMid (reader_after idle (take (suc k) w)) (device_tick limit x (Character (get_or w k 0)) call)
  device_mid w message k s below r =
      let e = subst (λ (z : Receiver). taken z (Character (get_or w k 0)) ≡ Rattle.line.specs.Reader.tells (reader_after idle (take (suc k) w)) Nothing) (sym r) (s.mid k below) in
      let took = DT.takes_mid x.frame x.contents x.device l.hears l.hand l.sound (get_or w k 0) (reader_after idle (take (suc k) w)) e in
      let goes = device_does limit x (Character (get_or w k 0)) call low high some_own (plain x.device x.frame _ took.event_is) took.took in
      let rest = rests_from p x _ _ l.profile_is took.took.same goes (λ a b. a took.listens) (λ f. listens_follows (sym took.listens ∙ f)) in
      record {
        listens = rest.listens;
        silent = rest.silent;
        same = rest.same;
        receiver_is = rest.same_receiver ∙ took.receiver_is;
        same_burst = rest.same_burst ∙ took.took.same_burst;
        same_primary = rest.same_primary ∙ took.took.same_primary;
      }

  -- at a frame's end
  pub record DeviceFrame (message : Whole) (step : DeviceStep) : Type 0 where
    pub listens : DeviceListens p step.side
    pub silent : step.sent ≡ Silent
    pub same : SameDevice x.device step.side.device
    pub receiver_is : step.side.device.receiver ≡ idle
    pub same_burst : step.side.device.burst ≡ x.device.burst
    pub same_primary : step.side.device.primary ≡ x.device.primary
    pub due_is : step.side.device.due ≡ due_after p (DV.ended_by (Frame message))
    pub in_time : ticks_in_hand step.side.device.turn ≤ p.sto
    pub asked_own : (step.side.device.turn ≡ Listens → ⊥) → may_answer x.device message.header ≡ true
    pub only_stx : (step.side.device.turn ≡ Listens → ⊥) → message.header.kind ≡ stx
    pub request_is : (step.side.device.turn ≡ Listens → ⊥) → step.side.device.request ≡ message.header

  pub device_frame : (w : List ℕ) (message : Whole) (k : ℕ) → Spoken w message → suc k ≡ length w → x.device.receiver ≡ reader_after idle (take k w) → message.expansion ≡ 0
      → DeviceFrame message (device_tick limit x (Character (get_or w k 0)) call)
  device_frame w message k s last r no_expansion = by_turn took.turn_is
    where
      heard : Heard
      heard = Character (get_or w k 0)

      e : taken x.device.receiver heard ≡ Rattle.line.specs.Reader.tells idle (Frame message)
      e = subst (λ (z : Receiver). taken z heard ≡ Rattle.line.specs.Reader.tells idle (Frame message)) (sym r) (s.end k last)

      took : DT.TookFrame x.frame x.contents x.device (device_takes x.device heard) message
      took = DT.takes_frame x.frame x.contents x.device l.hears l.hand l.sound (get_or w k 0) message e no_expansion some_own

      t : Device
      t = (device_takes x.device heard).device

      step : DeviceStep
      step = device_tick limit x heard call

      goes : D.Goes t step
      goes = device_does limit x heard call low high some_own (plain_frame x.device x.frame _ message took.event_is) took.took

      due_same : due_after x.device.profile (DV.ended_by (Frame message)) ≡ due_after p (DV.ended_by (Frame message))
      due_same = ap (λ (q : Profile). due_after q (DV.ended_by (Frame message))) l.profile_is

      by_turn : DT.FrameTurn x.device (device_takes x.device heard) message → DeviceFrame message step
      by_turn (DT.asked_by type own turn req due) =
          let rest = rests_from p x t step l.profile_is took.took.same goes (λ a b. b (turn ∙ ap (λ (q : Profile). Asked q.sto) (sym took.took.same.same_profile))) (λ f. asked_follows _ (sym turn ∙ f)) in
          record {
            listens = rest.listens;
            silent = rest.silent;
            same = rest.same;
            receiver_is = rest.same_receiver ∙ took.receiver_is;
            same_burst = rest.same_burst ∙ took.took.same_burst;
            same_primary = rest.same_primary ∙ took.took.same_primary;
            due_is = rest.same_due ∙ due ∙ due_same;
            in_time = omega (arith, rest.less_in_hand, ap ticks_in_hand turn, ap (λ (q : Profile). q.sto) l.profile_is);
            asked_own = λ z. own;
            only_stx = λ z. type;
            request_is = λ z. rest.same_request ∙ req;
          }
      by_turn (DT.listens_on_lem turn due) =
          let rest = rests_from p x t step l.profile_is took.took.same goes (λ a b. a turn) (λ f. listens_follows (sym turn ∙ f)) in
          let still : step.side.device.turn ≡ Listens = hand_listens step.side.device step.side.frame rest.listens.hand (omega (arith, rest.less_in_hand, ap ticks_in_hand turn)) in
          record {
            listens = rest.listens;
            silent = rest.silent;
            same = rest.same;
            receiver_is = rest.same_receiver ∙ took.receiver_is;
            same_burst = rest.same_burst ∙ took.took.same_burst;
            same_primary = rest.same_primary ∙ took.took.same_primary;
            due_is = rest.same_due ∙ due ∙ due_same;
            in_time = omega (arith, rest.less_in_hand, ap ticks_in_hand turn);
            asked_own = λ z. absurd (z still);
            only_stx = λ z. absurd (z still);
            request_is = λ z. absurd (z still);
          }

  -- on the silent line
  pub data DeviceSilent (step : DeviceStep) : Type 0 where
    stays_quiet : DeviceListens p step.side → step.sent ≡ Silent → SameDevice x.device step.side.device → step.side.device.receiver ≡ idle → step.side.device.burst ≡ x.device.burst
        → step.side.device.due ≡ x.device.due - 1 → (x.device.burst ≡ true → x.device.due ≡ 1 → ⊥) → ticks_in_hand step.side.device.turn ≤ ticks_in_hand x.device.turn - 1
        → ((step.side.device.turn ≡ Listens → ⊥) → x.device.turn ≡ Listens → ⊥) → step.side.device.primary ≡ x.device.primary → step.side.device.request ≡ x.device.request → DeviceSilent step
    begins_answer : (t : Device) (burst : Bool) (b : D.Begun t step Answers burst) → SameDevice x.device t → t.burst ≡ x.device.burst → b.message.header ≡ answer_header x.device.request burst
        → may_answer x.device x.device.request ≡ true → (names_device x.device.request ≡ false → burst ≡ x.device.burst) → (x.device.turn ≡ Listens → ⊥) → step.side.device.request ≡ x.device.request → step.side.device.primary ≡ first_for x.device → DeviceSilent step
    begins_back : (t : Device) (b : D.Begun t step Bursts t.burst) (command : ℕ) → SameDevice x.device t → t.burst ≡ x.device.burst → t.primary ≡ x.device.primary
        → x.device.burst ≡ true → x.device.due ≡ 1 → b.message.header ≡ D.back_for t command → step.side.device.primary ≡ (when x.device.primary then false else true) → DeviceSilent step

  pub device_silence : Ready x.device.receiver → DeviceSilent (device_tick limit x Silence call)
  unfolding Ready
  device_silence ready = by_turn took.turn_is goes
    where
      took : DT.TookSilence x.frame x.contents x.device (device_takes x.device Silence)
      took = DT.takes_silence x.frame x.contents x.device l.hears l.hand l.sound ready

      t : Device
      t = (device_takes x.device Silence).device

      step : DeviceStep
      step = device_tick limit x Silence call

      goes : D.Goes t step
      goes = device_does limit x Silence call low high some_own (plain x.device x.frame _ took.event_is) took.took

      same : SameDevice x.device t
      same = took.took.same

      by_turn : DT.SilentTurn x.device (device_takes x.device Silence) → D.Goes t step → DeviceSilent step
      by_turn (DT.back_is_due on one f) (D.rests sd sil deaf rec bur pri due req less hand sound nb) = absurd (nb f)
      by_turn (DT.back_is_due on one f) (D.answers burst primary b hd req own short nl nf nb) = absurd (nb f)
      by_turn (DT.back_is_due on one f) (D.bursts b command g hd pr) = begins_back t b command same took.took.same_burst took.took.same_primary on one hd (pr ∙ ap (λ (b : Bool). when b then false else true) took.took.same_primary)
      by_turn (DT.counts_on nd due req nf less ll) (D.rests sd sil deaf rec bur pri due' req' less' hand sound nb) =
          stays_quiet
          (record { profile_is = sd.same_profile ∙ same.same_profile ∙ l.profile_is; hears = deaf; hand = hand; sound = sound })
          sil
          (joined same sd)
          (rec ∙ took.receiver_is)
          (bur ∙ took.took.same_burst)
          (due' ∙ due)
          nd
          (omega arith)
          (λ z q. z (hand_listens step.side.device step.side.frame hand (omega (arith, ap ticks_in_hand (ll q)))))
          (pri ∙ took.took.same_primary)
          (req' ∙ req)
      by_turn (DT.counts_on nd due req nf less ll) (D.answers burst primary b hd req' own short nl nq nb) =
          begins_answer t burst b same took.took.same_burst
          (hd ∙ ap (λ (h : Header). answer_header h burst) req)
          (D.own_same same req own)
          (λ q. short (ap names_device req ∙ q) ∙ took.took.same_burst)
          (λ q. nl (ll q))
          (req' ∙ req)
          (primary ∙ (λ i. first_for (D.turn_of t (took.took.same_burst i) (took.took.same_primary i))))
      by_turn (DT.counts_on nd due req nf less ll) (D.bursts b command g hd pr) = absurd (nf g)
