-- Theorem: "Senders still leave no gap". What a master or a device sends from its start on, whatever it hears and its host calls, is silence and whole frames.
use Prim.Native.Nat.{ℕ, suc, ◌-◌, ◌≤◌, ◌<◌}
use native.Mathlib.Omega.{arith}
use mathlib.Core.Path.{◌≡◌, refl, sym, ap, subst, ◌∙◌}
use mathlib.Core.Bool.{Bool, true, false}
use mathlib.Core.List.{List, [], ◌∷◌}
use lib.ListN.{length, get_or, drop, drop_of_length-le}
use lib.Seq.{drop-cons}
use borrow.Author.Tests.{leb-false}
use Rattle.base.specs.Choice.{when◌then◌else◌, ◌≤?◌, ◌=?◌}
use Rattle.base.proofs.Choices.{true_false, if_is_true, if_is_false, went_then, went_else}
use Rattle.frame.specs.Delimiter.{stx, ack}
use Rattle.frame.specs.Frame.{frame_bytes}
use Rattle.frame.specs.Write.{write_buffer}
use Rattle.frame.specs.declared.Header.{Header}
use Rattle.frame.proofs.Taken.{Fits}
use Rattle.line.specs.Reader.{inside_frame, taken}
use Rattle.line.specs.declared.Event.{Event}
use Rattle.line.specs.declared.Event.TheVariants.{Nothing, PassedOver, Broken, Frame, Damaged}
use Rattle.line.specs.declared.FrameDamage.{FrameDamage}
use Rattle.line.specs.declared.Heard.{Heard}
use Rattle.line.specs.declared.Heard.TheVariants.{Silence, Character}
use Rattle.line.specs.declared.Place.{Place}
use Rattle.line.specs.declared.Profile.{Profile}
use Rattle.line.specs.declared.Receiver.{Receiver}
use Rattle.line.specs.declared.Whole.{Whole}
use Rattle.line.proofs.Hearing.{whole_message}
use Rattle.turns.specs.Master as M
use Rattle.turns.specs.Party.{is_broadcast, seeks_tag}
use Rattle.turns.specs.Master.{Ending, answers_message, message_at, fails, ends, at_break, at_frame, if_awaiting, rt1_ends, waited, after_break, master_takes}
use Rattle.turns.specs.Device as D
use Rattle.turns.specs.Device.{is_own, may_answer, has_error, error_data, answer_header, back_due, broken_due, error_frame, device_takes}
use Rattle.turns.specs.Link.{MasterCall, DeviceCall, MasterSide, MasterStep, DeviceSide, DeviceStep, master_tick, master_data, device_tick, device_data, heard_frame}
use Rattle.turns.specs.Run.{MasterStarts, DeviceStarts}
use Rattle.turns.specs.Bursts.{DeviceInput}
use Rattle.turns.specs.Gaps.{MasterInput, master_sents, device_sents, IsFrame, NoGap, no_tick, silent_tick, begins_frame, goes_on, MasterLeavesNoGap, DeviceLeavesNoGap}
use Rattle.turns.specs.declared.Sent.{Sent}
use Rattle.turns.specs.declared.Sent.TheVariants.{Silent}
use Rattle.turns.specs.declared.Stage.{Stage}
use Rattle.turns.specs.declared.Stage.TheVariants.{Free, Waiting, Sending, Awaiting}
use Rattle.turns.specs.declared.Turn.{Turn}
use Rattle.turns.specs.declared.Turn.TheVariants.{Listens, Asked, AnswerWaits, Follows}
use Rattle.turns.specs.declared.Wish.{Wish}
use Rattle.turns.specs.declared.Wish.TheVariants.{Same}
use Rattle.turns.specs.declared.Noted.{Noted}
use Rattle.turns.specs.declared.Message.{Message}
use Rattle.turns.specs.declared.Master.{Master}
use Rattle.turns.specs.declared.MasterTold.{MasterTold}
use Rattle.turns.specs.declared.MasterTaken.{MasterTaken}
use Rattle.turns.specs.declared.Device.{Device}
use Rattle.turns.specs.declared.DeviceTold.{DeviceTold}
use Rattle.turns.specs.declared.DeviceTaken.{DeviceTaken}
use Rattle.turns.proofs.Bursting.{if_both}
use Rattle.turns.proofs.Masters.{Formed, no_message, stands, Still, is_free, is_waiting, is_awaiting, Holds, if_cases, holds_written}
use Rattle.turns.proofs.Writing.{length_written}
use Rattle.turns.proofs.Listening.{Does, does_rest, does_start, master_does}
use Rattle.turns.proofs.Phases.{MasterIs}
use Rattle.turns.proofs.Sending.{MasterSpeaks, MasterPlace, inside, finished, speaks_on}
use Rattle.turns.proofs.Devices.{Sound, Prepared, Hand, nothing_in_hand, is_asked, is_accepted, Turned, in_hand, begins_now, follows_now, Begun, Goes, device_enough, own_address, ack_typed, device_goes}
use Rattle.turns.proofs.DeviceSpeaking as S
use Rattle.turns.proofs.DeviceSpeaking.{Frames, an_ack, a_back, sending, turn_behind, device_speaks}
use Rattle.turns.proofs.Fresh.{valid, master_is, device_is}
use Rattle.turns.specs.declared.Change.{Change}

-- a tick, where `left` is left of the frame that is being sent, and State says what holds of a party
pub data Steps {X : Type 0} (State : List ℕ → X → Type 0) : List ℕ → Sent → X → Type 0 where
  is_silent : {y : X} → State [] y → Steps State [] Silent y
  is_first : {c : ℕ} {left : List ℕ} {y : X} → IsFrame (c ∷ left) → State left y → Steps State [] (Sent.Character c) y
  is_next : {c : ℕ} {left : List ℕ} {y : X} → State left y → Steps State (c ∷ left) (Sent.Character c) y

-- the first character of a frame, and those behind it
first_step : {X : Type 0} {State : List ℕ → X → Type 0} (w : List ℕ) {sent : Sent} {y : X} → IsFrame w → 0 < length w → sent ≡ Sent.Character (get_or w 0 0) → State (drop 1 w) y → Steps State [] sent y
first_step {X} {State} w {sent} {y} f some e s =
    subst (λ (z : Sent). Steps State [] z y) (sym e) (is_first (subst IsFrame (drop-cons w 0 0 some) f) s)

next_step : {X : Type 0} {State : List ℕ → X → Type 0} (w : List ℕ) (k : ℕ) {sent : Sent} {y : X} → k < length w → sent ≡ Sent.Character (get_or w k 0) → State (drop (suc k) w) y → Steps State (drop k w) sent y
next_step {X} {State} w k {sent} {y} below e s =
    subst (λ (l : List ℕ). Steps State l sent y) (sym (drop-cons w k 0 below)) (subst (λ (z : Sent). Steps State (get_or w k 0 ∷ drop (suc k) w) z y) (sym e) (is_next s))

-- and what follows
and_on : {X : Type 0} {State : List ℕ → X → Type 0} {left : List ℕ} {sent : Sent} {y : X} {ss : List Sent} → ((l : List ℕ) → State l y → NoGap l ss) → Steps State left sent y → NoGap left (sent ∷ ss)
and_on f (is_silent s) = silent_tick (f _ s)
and_on f (is_first w s) = begins_frame w (f _ s)
and_on f (is_next s) = goes_on (f _ s)

-- ---- a master that is not sending stays so, whatever it hears

module _ (primary : Bool) (frame : List ℕ) where
  record Stays (g : Message) : Type 0 where
    still : Still g.stage
    formed : Formed primary frame g

  restaged : (g : Message) (s : Stage) → Still s → (g.stage ≡ Free → s ≡ Free) → Formed primary frame g → Stays (message_at g s)
  restaged g s v f (no_message e) = record { still = v; formed = no_message (f e) }
  restaged g s v f (stands w x h a b c u) = record { still = v; formed = stands w x h a b c u }

  over : (g : Message) (told : MasterTold) → Stays (ends g told).message
  over g told = record { still = is_free; formed = no_message refl }

  awaiting_free : (n : ℕ) → Awaiting n ≡ Free → ⊥
  awaiting_free n e = let z : ◌≡◌ {A = ℕ} 0 1 = cc in omega arith

  module _ (m : Master) (n : ℕ) (e : m.message.stage ≡ Awaiting n) (s : Stays m.message) where
    failed : Stays (fails m.retries m.message).message
    failed =
        if_both (λ (z : Ending). Stays z.message) (m.message.attempts ≤? m.retries) _ _
        (restaged m.message Waiting is_waiting (λ f. absurd (awaiting_free n (sym e ∙ f))) s.formed) (over m.message (MasterTold.GivenUp m.message.attempts))

    broken : Stays (at_break m).message
    broken = if_both (λ (z : Ending). Stays z.message) (is_broadcast m.message.header) _ _ (over m.message MasterTold.BroadcastSent) failed

    framed : (w : Whole) (bytes : List ℕ) → Stays (at_frame m w bytes).message
    framed w bytes =
        if_both (λ (z : Ending). Stays z.message) (answers_message m w.header) _ _ (if_both (λ (z : Ending). Stays z.message) _ _ _ broken (over m.message (MasterTold.Answered w))) broken

  if_awaiting_lem : (g : Message) (z : Ending) (s : Stage) → g.stage ≡ s → Stays g → ((n : ℕ) → s ≡ Awaiting n → Stays z.message) → Stays (if_awaiting s g z).message
  if_awaiting_lem g z Free e s f = s
  if_awaiting_lem g z Waiting e s f = s
  if_awaiting_lem g z (Sending n) e s f = s
  if_awaiting_lem g z (Awaiting n) e s f = f n refl

  -- the parts that what is heard does not change, and the message
  record Kept (m t : Master) : Type 0 where
    same_primary : t.primary ≡ m.primary
    same_profile : t.profile ≡ m.profile
    same_retries : t.retries ≡ m.retries
    stays : Stays t.message

  both : {a b c : Master} → Kept a b → Kept b c → Kept a c
  both p q = record { same_primary = q.same_primary ∙ p.same_primary; same_profile = q.same_profile ∙ p.same_profile; same_retries = q.same_retries ∙ p.same_retries; stays = q.stays }

  after_break_lem : (m : Master) (r : Receiver) (event : Event) → Stays m.message → Kept m (after_break m r event).master
  after_break_lem m r event s = record { same_primary = refl; same_profile = refl; same_retries = refl; stays = if_awaiting_lem m.message (at_break m) m.message.stage refl s (λ n e. broken m n e s) }

  ending : (s : Stage) → rt1_ends s ≡ true → (n : ℕ) × (s ≡ Awaiting n)
  ending Free e = absurd (true_false (sym e))
  ending Waiting e = absurd (true_false (sym e))
  ending (Sending n) e = absurd (true_false (sym e))
  ending (Awaiting n) e = (n, refl)

  waits_still : {s : Stage} → Still s → Still (waited s)
  waits_still is_free = is_free
  waits_still is_waiting = is_waiting
  waits_still (is_awaiting n) = is_awaiting (n - 1)

  counted : (m : Master) (told : MasterTold) (event : Event) → Stays m.message → Kept m (M.counts m told event).master
  counted m told event s =
      if_cases (λ (t : MasterTaken). Kept m t.master) (rt1_ends m.message.stage) _ _
      (λ e. let a = ending m.message.stage e in record { same_primary = refl; same_profile = refl; same_retries = refl; stays = broken m a.0 a.1 s })
      (λ e. record { same_primary = refl; same_profile = refl; same_retries = refl; stays = restaged m.message (waited m.message.stage) (waits_still s.still) (λ f. ap waited f) s.formed })

  silent : (m : Master) (r : Receiver) → Stays m.message → Kept m (M.on_silence m r).master
  silent m r s =
      let P : MasterTaken → Type 0 = λ t. Kept m t.master in
      let same : Kept m (M.with_reader m r) = record { same_primary = refl; same_profile = refl; same_retries = refl; stays = s } in
      let a = after_break_lem m r Broken s in
      let b = counted (after_break m r Broken).master (after_break m r Broken).told Broken a.stays in
      if_both P (inside_frame m.receiver.place) _ _ (if_both P m.receiver.gap _ _ (both a (both b (counted _ _ Broken b.stays))) same) (both same (counted _ MasterTold.Nothing Nothing s))

  character : (m : Master) (r : Receiver) (event : Event) (bytes : List ℕ) → Stays m.message → Kept m (M.on_character m r event bytes).master
  character m r Nothing bytes s = record { same_primary = refl; same_profile = refl; same_retries = refl; stays = s }
  character m r PassedOver bytes s = after_break_lem m r PassedOver s
  character m r Broken bytes s = after_break_lem m r Broken s
  character m r (Frame w) bytes s = record { same_primary = refl; same_profile = refl; same_retries = refl; stays = if_awaiting_lem m.message (at_frame m w bytes) m.message.stage refl s (λ n e. framed m n e s w bytes) }
  character m r (Damaged w h) bytes s = after_break_lem m r (Damaged w h) s

  takes_any : (m : Master) (heard : Heard) (bytes : List ℕ) → Stays m.message → Kept m (master_takes m heard bytes).master
  unfolding master_takes
  takes_any m heard bytes s = if_both (λ (t : MasterTaken). Kept m t.master) m.deaf _ _ (record { same_primary = refl; same_profile = refl; same_retries = refl; stays = s }) (hears heard)
    where
      hears : (h : Heard) → Kept m (M.on_heard m h bytes).master
      hears Silence = silent m (taken m.receiver Silence).receiver s
      hears (Character c) = character m _ (taken m.receiver (Character c)).event bytes s
      hears (Heard.Damaged c kind) = character m _ (taken m.receiver (Heard.Damaged c kind)).event bytes s

-- ---- a master's ticks

module _ (limit : ℕ) (small : limit ≤ 255) (p : Profile) (primary : Bool) where
  pub data MasterState : List ℕ → MasterSide → Type 0 where
    listens : {x : MasterSide} → MasterIs p primary x → Still x.master.message.stage → Formed x.master.primary x.frame x.master.message → MasterState [] x
    speaks : (burst : Bool) (noted : Noted) (k : ℕ) (w : List ℕ) (message : Whole) {x : MasterSide} → suc k < length w → x.master.message.stage ≡ Sending (suc k) → MasterSpeaks p primary burst noted k w message x → MasterState (drop (suc k) w) x

  -- behind a character: it is the last, or not
  behind_character : (burst : Bool) (noted : Noted) (k : ℕ) (w : List ℕ) (message : Whole) (x : MasterSide) → MasterSpeaks p primary burst noted k w message x → MasterState (drop (suc k) w) x
  behind_character burst noted k w message x s = go s.place
    where
      go : MasterPlace k w x → MasterState (drop (suc k) w) x
      go (inside below stage) = speaks burst noted k w message below stage s
      go (finished e t still l) =
          subst (λ (z : List ℕ). MasterState z x) (sym (drop_of_length-le w {i = suc k} (omega arith)))
          (listens s.is_it still (stands w message s.held s.header_is s.no_expansion (ap (λ (h : Header). h.kind) (sym s.header_is) ∙ s.type_is) (ap (λ (h : Header). h.primary) (sym s.header_is) ∙ s.bit_is ∙ sym s.is_it.primary_is)))

  -- a tick of a master that is not sending, whatever it hears
  pub listening_does : (x : MasterSide) → MasterIs p primary x → Still x.master.message.stage → Formed x.master.primary x.frame x.master.message → (heard : Heard) (call : MasterCall)
      → Does p primary (master_takes x.master heard (master_data x heard)).master (master_tick limit x heard call)
  listening_does x is still formed heard call =
      let same = takes_any x.master.primary x.frame x.master heard (master_data x heard) (record { still = still; formed = formed }) in
      master_does limit p primary x heard call small is
      (record {
        same_primary = same.same_primary;
        same_profile = same.same_profile;
        same_retries = same.same_retries;
        still = same.stays.still;
        formed = subst (λ (b : Bool). Formed b x.frame (master_takes x.master heard (master_data x heard)).master.message) (sym same.same_primary) same.stays.formed;
      })

  pub master_steps : {left : List ℕ} {x : MasterSide} → MasterState left x → (heard : Heard) (call : MasterCall) → Steps MasterState left (master_tick limit x heard call).sent (master_tick limit x heard call).side
  master_steps {left} {x} (listens is still formed) heard call = go (listening_does x is still formed heard call)
    where
      t : Master
      t = (master_takes x.master heard (master_data x heard)).master

      step : MasterStep
      step = master_tick limit x heard call

      go : Does p primary t step → Steps MasterState [] step.sent step.side
      go (does_rest r) = subst (λ (z : Sent). Steps MasterState [] z step.side) (sym r.silent) (is_silent (listens r.listens.is_it r.listens.still r.listens.formed))
      go (does_start s) =
          let long = s.held.speaks.long in
          first_step s.w s.held.speaks.is_frame (omega (arith, long)) s.character
          (speaks step.side.master.burst step.side.master.noted 0 s.w s.message (omega (arith, long)) s.stage_is
          (record {
            is_it = s.is_it;
            deaf_is = s.deaf_is;
            receiver_is = s.receiver_is;
            burst_is = refl;
            noted_is = refl;
            held = s.held;
            header_is = s.header_is;
            no_expansion = s.no_expansion;
            type_is = s.type_is;
            bit_is = s.bit_is;
            place = inside (omega (arith, long)) s.stage_is;
          }))
  master_steps {left} {x} (speaks burst noted k w message below stage s) heard call =
      let a = speaks_on limit small p primary burst noted w message k x heard call below stage s in
      next_step w (suc k) below a.0 (behind_character burst noted (suc k) w message (master_tick limit x heard call).side a.1)

  master_run : {left : List ℕ} {x : MasterSide} → MasterState left x → (inputs : List MasterInput) → NoGap left (master_sents limit x inputs)
  unfolding master_sents
  master_run s [] = no_tick
  master_run {left} {x} s (i ∷ is) = and_on (λ l t. master_run {left = l} {x = (master_tick limit x i.heard i.call).side} t is) (master_steps s i.heard i.call)

-- a master that started
pub started_master : (limit : ℕ) (small : limit ≤ 255) (p : Profile) (primary : Bool) (retries : ℕ) (x : MasterSide) → MasterStarts p primary retries x → MasterState limit small p primary [] x
started_master limit small p primary retries x s =
    let e = master_is p primary retries x.master s.starts in
    listens (record { profile_is = ap (λ (m : Master). m.profile) e; primary_is = ap (λ (m : Master). m.primary) e; room = s.room })
    (subst (λ (m : Master). Still m.message.stage) (sym e) is_free) (no_message (ap (λ (m : Master). m.message.stage) e))

pub master_leaves_no_gap : (limit : ℕ) → limit ≤ 255 → MasterLeavesNoGap limit
master_leaves_no_gap limit small p primary retries x inputs made s = master_run limit small p primary (started_master limit small p primary retries x s) inputs

-- ---- a device that is not sending stays so, or begins, whatever it hears

-- between ticks
pub data Ready (d : Device) (frame : List ℕ) : Type 0 where
  rests : Hand d frame → Ready d frame
  follows : d.turn ≡ Follows → d.burst ≡ true → d.deaf ≡ true → Ready d frame

record Took (frame contents : List ℕ) (d : Device) (t : DeviceTaken) : Type 0 where
  same_profile : t.device.profile ≡ d.profile
  sound : Sound t.device (error_frame d t.event frame) contents
  turned : Turned t.device (error_frame d t.event frame)

module _ (frame contents : List ℕ) (d : Device) (sound : Sound d frame contents) (some_sto : 1 ≤ d.profile.sto) where
  kept_sound : (after : List ℕ) (r : Receiver) (turn : Turn) (request : Header) (wish : Wish) (n due : ℕ) → length after ≡ length frame → Sound (D.device_with d r turn request wish n due) after contents
  kept_sound after r turn request wish n due e = record {
    preamble_low = sound.preamble_low;
    preamble_high = sound.preamble_high;
    polling_high = sound.polling_high;
    unique_low = sound.unique_low;
    unique_high = sound.unique_high;
    frame_room = omega (arith, e, sound.frame_room);
    contents_room = sound.contents_room;
    content_low = sound.content_low;
    content_high = sound.content_high;
    bursts_given = sound.bursts_given;
  }

  -- a device that listens behind what it heard
  listening : (r : Receiver) (due : ℕ) (told : DeviceTold) (event : Event) → error_frame d event frame ≡ frame → Took frame contents d (D.tells (D.device_with d r Listens d.request Same d.length due) told event)
  listening r due told event e = record {
    same_profile = refl;
    sound = kept_sound (error_frame d event frame) r Listens d.request Same d.length due (ap length e);
    turned = in_hand (nothing_in_hand refl);
  }

  -- ---- a silent tick

  module _ (hand : Hand d frame) where
    still_prepared : (r : Receiver) (turn : Turn) (due : ℕ) → Prepared d frame → Prepared (D.device_with d r turn d.request d.wish d.length due) frame
    still_prepared r turn due p = record { w = p.w; message = p.message; held = p.held; header_is = p.header_is; no_expansion = p.no_expansion; own = p.own; short_same = p.short_same; on_given = p.on_given }

    still_turned : (r : Receiver) (due : ℕ) → Hand d frame → Turned (D.device_with d r d.turn d.request d.wish d.length due) frame
    still_turned r due (nothing_in_hand q) = in_hand (nothing_in_hand q)
    still_turned r due (is_asked n q some o) = in_hand (is_asked n q some o)
    still_turned r due (is_accepted q p) = in_hand (is_accepted q (still_prepared r d.turn due p))

    waited_turned : (r : Receiver) (due : ℕ) → Hand d frame → Turned (D.device_with d r (D.waited d.turn) d.request d.wish d.length due) frame
    waited_turned r due (nothing_in_hand q) = in_hand (nothing_in_hand (ap D.waited q))
    waited_turned r due (is_asked n q some o) = left (n ≤? 1) refl
      where
        left : (b : Bool) → (n ≤? 1) ≡ b → Turned (D.device_with d r (D.waited d.turn) d.request d.wish d.length due) frame
        left true e = in_hand (nothing_in_hand (ap D.waited q ∙ if_is_true (n ≤? 1) _ _ e))
        left false e = in_hand (is_asked (n - 1) (ap D.waited q ∙ if_is_false (n ≤? 1) _ _ e) (omega (arith, leb-false n 1 e)) o)
    waited_turned r due (is_accepted q p) = begins_now (ap D.waited q) (still_prepared r (D.waited d.turn) due p)

    burst_due : (due : ℕ) → back_due d due ≡ true → d.burst ≡ true
    burst_due due e = (went_then d.burst _ false true e (λ z. true_false (sym z))).0

    counted_took : (r : Receiver) (due : ℕ) (event : Event) → error_frame d event frame ≡ frame → Took frame contents d (D.counts d r due event)
    counted_took r due event e =
        if_cases (λ (turn : Turn). Took frame contents d (D.tells (D.device_with d r turn d.request d.wish d.length (due - 1)) DeviceTold.Nothing event)) (back_due d due) _ _
        (λ b. record { same_profile = refl; sound = kept_sound (error_frame d event frame) r Follows d.request d.wish d.length (due - 1) (ap length e); turned = follows_now refl (burst_due due b) })
        (λ b. record {
          same_profile = refl;
          sound = kept_sound (error_frame d event frame) r (D.waited d.turn) d.request d.wish d.length (due - 1) (ap length e);
          turned = subst (Turned (D.device_with d r (D.waited d.turn) d.request d.wish d.length (due - 1))) (sym e) (waited_turned r (due - 1) hand);
        })

    silent_took : (r : Receiver) → Took frame contents d (D.on_silence d r)
    silent_took r =
        if_both (Took frame contents d) (inside_frame d.receiver.place) _ _
        (if_both (Took frame contents d) d.receiver.gap _ _ (counted_took r (broken_due d) Broken refl)
        (record { same_profile = refl; sound = kept_sound frame r d.turn d.request d.wish d.length d.due refl; turned = still_turned r d.due hand }))
        (counted_took r d.due Nothing refl)

  -- ---- a character

  own_took : (r : Receiver) (w : Whole) → Took frame contents d (D.changed d r (Frame w) (D.after_frame d w))
  own_took r w =
      let P : Change → Type 0 = λ c. Took frame contents d (D.changed d r (Frame w) c) in
      if_both P (w.header.kind =? stx) _ _
      (if_both P (w.expansion =? 0) _ _
      (if_cases P (may_answer d w.header) _ _
      (λ o. record {
        same_profile = refl;
        sound = kept_sound frame r (Asked d.profile.sto) w.header Same d.length _ refl;
        turned = in_hand (is_asked d.profile.sto refl some_sto o);
      })
      (λ o. if_both P (is_broadcast w.header) _ _ (listening r _ _ (Frame w) refl) (listening r _ _ (Frame w) refl)))
      (listening r _ _ (Frame w) refl))
      (listening r _ _ (Frame w) refl)

  -- an error answer is a frame, and it is prepared
  error_own : (w : Whole) (m : FrameDamage) → has_error d w m ≡ true → may_answer d w.header ≡ true
  error_own w m e =
      let no : false ≡ true → ⊥ = λ z. true_false (sym z) in
      let a = went_then (w.header.kind =? stx) _ false true e no in
      let b = went_then (w.expansion =? 0) _ false true a.1 no in
      if_both (λ (o : Bool). o ≡ true) (seeks_tag w.header) _ _ refl (went_else m.address false (is_own d w.header) true b.1 no).1

  error_took : (r : Receiver) (w : Whole) (m : FrameDamage) → Took frame contents d (D.changed d r (Damaged w m) (D.after_damage d w m))
  error_took r w m = go (has_error d w m) refl
    where
      h : Header
      h = answer_header w.header d.burst

      put : List ℕ
      put = write_buffer d.preamble h (error_data m) frame 0

      go : (b : Bool) → has_error d w m ≡ b → Took frame contents d (D.changed d r (Damaged w m) (D.after_damage d w m))
      go true e =
          let own = error_own w m e in
          let fits : Fits d.preamble h 2 = record {
            preamble_low = sound.preamble_low;
            preamble_high = sound.preamble_high;
            address_high = own_address d frame contents w.header sound own;
            count_high = omega arith;
            enough = device_enough ack 2 (omega arith);
            typed = ack_typed;
          } in
          let there : error_frame d (Damaged w m) frame ≡ put = if_is_true (has_error d w m) _ _ e in
          subst (λ (c : Change). Took frame contents d (D.changed d r (Damaged w m) c)) (sym (if_is_true (has_error d w m) _ _ e))
          (record {
            same_profile = refl;
            sound = kept_sound (error_frame d (Damaged w m) frame) r AnswerWaits w.header Same _ d.profile.rt1p (ap length there ∙ length_written d.preamble h (error_data m) frame);
            turned = subst (Turned (D.device_with d r AnswerWaits w.header Same _ d.profile.rt1p)) (sym there)
                (in_hand (is_accepted refl (record {
                  w = frame_bytes d.preamble h (error_data m);
                  message = whole_message h (error_data m);
                  held = holds_written d.preamble h (error_data m) frame fits sound.frame_room;
                  header_is = refl;
                  no_expansion = refl;
                  own = own;
                  short_same = λ z. refl;
                  on_given = sound.bursts_given;
                })));
          })
      go false e =
          subst (λ (c : Change). Took frame contents d (D.changed d r (Damaged w m) c)) (sym (if_is_false (has_error d w m) _ _ e))
          (listening r d.profile.rt1p _ (Damaged w m) (if_is_false (has_error d w m) _ _ e))

  character_took : (r : Receiver) (event : Event) → Took frame contents d (D.on_character d r event)
  character_took r Nothing = listening r 0 _ Nothing refl
  character_took r PassedOver = listening r d.profile.rt1p _ PassedOver refl
  character_took r Broken = listening r d.profile.rt1p _ Broken refl
  character_took r (Frame w) = own_took r w
  character_took r (Damaged w m) = error_took r w m

  device_takes_any : (heard : Heard) → Ready d frame → Took frame contents d (device_takes d heard)
  unfolding device_takes
  device_takes_any heard ready = if_cases (Took frame contents d) d.deaf _ _ (λ e. record { same_profile = refl; sound = sound; turned = deaf ready }) (λ e. hears heard (hand e ready))
    where
      deaf : Ready d frame → Turned d frame
      deaf (rests h) = in_hand h
      deaf (follows q on z) = follows_now q on

      hand : d.deaf ≡ false → Ready d frame → Hand d frame
      hand e (rests h) = h
      hand e (follows q on z) = absurd (true_false (sym z ∙ e))

      hears : (h : Heard) → Hand d frame → Took frame contents d (D.on_heard d h)
      hears Silence k = silent_took k (taken d.receiver Silence).receiver
      hears (Character c) k = character_took _ (taken d.receiver (Character c)).event
      hears (Heard.Damaged c kind) k = character_took _ (taken d.receiver (Heard.Damaged c kind)).event

-- ---- a device's ticks

module _ (limit : ℕ) (low : 2 ≤ limit) (high : limit ≤ 255) (p : Profile) (some_sto : 1 ≤ p.sto) where
  pub data DeviceState : List ℕ → DeviceSide → Type 0 where
    listens : {x : DeviceSide} → x.device.profile ≡ p → Sound x.device x.frame x.contents → Ready x.device x.frame → DeviceState [] x
    speaks : (f : Frames) (k : ℕ) (w : List ℕ) (message : Whole) {x : DeviceSide} → x.device.profile ≡ p → Sound x.device x.frame x.contents → k < length w → x.device.turn ≡ sending f k → x.device.deaf ≡ true
        → Holds x.frame x.device.length w message → DeviceState (drop k w) x

  -- behind the last character: "A bursting device sends a BACK directly behind its own ACK"
  ready_behind : (f : Frames) (d : Device) (frame : List ℕ) (burst : Bool) → d.turn ≡ turn_behind f burst → d.burst ≡ burst → d.deaf ≡ true → Ready d frame
  unfolding when◌then◌else◌
  ready_behind an_ack d frame true q b e = follows q b e
  ready_behind an_ack d frame false q b e = rests (nothing_in_hand q)
  ready_behind a_back d frame burst q b e = rests (nothing_in_hand q)

  begun_step : (f : Frames) (d : Device) (step : DeviceStep) (burst : Bool) → d.profile ≡ p → Begun d step (sending f) burst → Steps DeviceState [] step.sent step.side
  begun_step f d step burst is b =
      let long = b.held.speaks.long in
      first_step b.w b.held.speaks.is_frame (omega (arith, long)) b.character
      (speaks f 1 b.w b.message (b.same.same_profile ∙ is) b.sound (omega (arith, long)) b.turn_is b.deaf_is b.held)

  pub device_steps : {left : List ℕ} {x : DeviceSide} → DeviceState left x → (heard : Heard) (call : DeviceCall) → Steps DeviceState left (device_tick limit x heard call).sent (device_tick limit x heard call).side
  unfolding device_tick
  device_steps {left} {x} (listens is sound ready) heard call = go (device_goes limit low high t (heard_frame x heard) (device_data x heard) x.contents (subst (λ (q : Profile). 1 ≤ q.sto) (sym now) some_sto) took.sound took.turned call)
    where
      t : DeviceTaken
      t = device_takes x.device heard

      took : Took x.frame x.contents x.device t
      took = device_takes_any x.frame x.contents x.device sound (subst (λ (q : Profile). 1 ≤ q.sto) (sym is) some_sto) heard ready

      now : t.device.profile ≡ p
      now = took.same_profile ∙ is

      step : DeviceStep
      step = device_tick limit x heard call

      go : Goes t.device step → Steps DeviceState [] step.sent step.side
      go (Goes.rests same s deaf r b pr due req less hand so not) = subst (λ (z : Sent). Steps DeviceState [] z step.side) (sym s) (is_silent (listens (same.same_profile ∙ now) so (rests hand)))
      go (Goes.answers burst pr b h r o sh n a f) = begun_step an_ack t.device step burst now b
      go (Goes.bursts b command q h pr) = begun_step a_back t.device step t.device.burst now b
  device_steps {left} {x} (speaks f k w message is sound below turn deaf held) heard call =
      let s = device_speaks f x k w message turn held below limit heard call high deaf sound in
      next_step w k below s.character (go s s.place)
    where
      step : DeviceStep
      step = device_tick limit x heard call

      go : S.SpeaksAt f x k w step → S.Place f x.device k w step.side.device → DeviceState (drop (suc k) w) step.side
      go s (S.Place.goes_on more turn_is) =
          speaks f (suc k) w message (s.same.same_profile ∙ is) s.sound more turn_is s.deaf_is
          (subst (λ (n : ℕ). Holds step.side.frame n w message) (sym s.same_length) (subst (λ (l : List ℕ). Holds l x.device.length w message) (sym s.same_frame) held))
      go s (S.Place.is_out last turn_is due_is) =
          subst (λ (z : List ℕ). DeviceState z step.side) (sym (drop_of_length-le w {i = suc k} (omega arith)))
          (listens (s.same.same_profile ∙ is) s.sound (ready_behind f step.side.device step.side.frame x.device.burst turn_is s.same_burst s.deaf_is))

  device_run : {left : List ℕ} {x : DeviceSide} → DeviceState left x → (inputs : List DeviceInput) → NoGap left (device_sents limit x inputs)
  unfolding device_sents
  device_run s [] = no_tick
  device_run {left} {x} s (i ∷ is) = and_on (λ l t. device_run {left = l} {x = (device_tick limit x i.heard i.call).side} t is) (device_steps s i.heard i.call)

fresh_sound : (p : Profile) (x : DeviceSide) → DeviceStarts p x → Sound x.device x.frame x.contents
unfolding when◌then◌else◌
fresh_sound p x s =
    let n = device_is p s.preamble s.polling s.unique x.device s.starts in
    subst (λ (d : Device). Sound d x.frame x.contents) (sym n.is)
    (record {
      preamble_low = n.preamble_low;
      preamble_high = n.preamble_high;
      polling_high = n.polling_high;
      unique_low = n.unique_low;
      unique_high = omega (arith, n.unique_high);
      frame_room = s.room;
      contents_room = s.content_room;
      content_low = λ z. absurd (true_false (sym z));
      content_high = omega arith;
      bursts_given = λ z. absurd (true_false (sym z));
    })

-- a device that started
pub started_device : (limit : ℕ) (low : 2 ≤ limit) (high : limit ≤ 255) (p : Profile) (some_sto : 1 ≤ p.sto) (x : DeviceSide) → DeviceStarts p x → DeviceState limit low high p some_sto [] x
started_device limit low high p some_sto x s =
    let n = device_is p s.preamble s.polling s.unique x.device s.starts in
    listens (ap (λ (d : Device). d.profile) n.is) (fresh_sound p x s) (rests (nothing_in_hand (ap (λ (d : Device). d.turn) n.is)))

pub device_leaves_no_gap : (limit : ℕ) → 2 ≤ limit → limit ≤ 255 → DeviceLeavesNoGap limit
device_leaves_no_gap limit low high p x inputs made s =
    let some_sto = (valid p made).some_sto in
    device_run limit low high p some_sto (started_device limit low high p some_sto x s) inputs
