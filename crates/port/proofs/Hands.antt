-- Theorem: a device that is not awake has no request in hand and is not deaf (specs/Listening). A request is in hand for at most 87 quiet ticks, and a device dozes after 20,946.
use Prim.Native.Nat.{ℕ, ◌+◌, ◌-◌, ◌≤◌}
use native.Mathlib.Omega.{arith}
use mathlib.Core.Path.{◌≡◌, refl, sym, ap, subst, ◌∙◌}
use mathlib.Core.Bool.{Bool, true, false}
use mathlib.Core.List.{List, [], ◌∷◌}
use lib.ListN.{length}
use borrow.Author.Tests.{lt-ltb, lt-leb, leb-false}
use Rattle.base.specs.Choice.{when◌then◌else◌, ◌<?◌, ◌≤?◌, ◌=?◌, ◌outside◌to◌}
use Rattle.base.specs.Refusal.{Called, accepted, refused}
use Rattle.base.proofs.Choices.{if_is_true, if_is_false}
use Rattle.frame.specs.Delimiter.{stx}
use Rattle.line.specs.Gaps.{IsCharacter, is_sound, is_with_damage}
use Rattle.line.specs.Reader.{inside_frame, taken, idle}
use Rattle.line.specs.declared.Event.{Event}
use Rattle.line.specs.declared.Event.TheVariants.{Nothing, PassedOver, Broken, Frame, Damaged}
use Rattle.line.specs.declared.FrameDamage.{FrameDamage}
use Rattle.line.specs.declared.Heard.{Heard}
use Rattle.line.specs.declared.Heard.TheVariants.{Silence, Character}
use Rattle.line.specs.declared.Profile.{Profile}
use Rattle.line.specs.declared.Receiver.{Receiver}
use Rattle.line.specs.declared.Whole.{Whole}
use Rattle.line.proofs.Gaps.{silent_ticks}
use Rattle.turns.specs.Device.{device_takes, answered, answered_by, answers_at, wish_refused, wished, device_sends, answer_frame, waited, may_answer, has_error}
use Rattle.turns.specs.Device as D
use Rattle.turns.specs.Party.{is_broadcast}
use Rattle.turns.specs.declared.Change.{Change}
use Rattle.turns.specs.declared.Device.{Device}
use Rattle.turns.specs.declared.DeviceSent.{DeviceSent}
use Rattle.turns.specs.declared.DeviceTaken.{DeviceTaken}
use Rattle.turns.specs.declared.Turn.{Turn}
use Rattle.turns.specs.declared.Turn.TheVariants.{Listens, Asked, AnswerWaits, Begins, Answers, Follows, Bursts}
use Rattle.turns.specs.declared.Wish.{Wish}
use Rattle.turns.proofs.Bursting.{if_both}
use Rattle.turns.proofs.Masters.{if_cases}
use Rattle.turns.proofs.Silent.{ready_outside, device_outside}
use Rattle.port.specs.Numbers.{doze_ticks}
use Rattle.port.specs.Device.{is_undamaged, wakes, quiet_after, listens_on, unless_quiet, is_idle, hears_wake_up, reads, hears_by, awake, too_late, port_device_takes, port_answered, port_device_sends, port_device_starts}
use Rattle.port.specs.Device as P
use Rattle.port.specs.Ticks.{PortCall, no_call, gives_answer, PortDeviceSide, DeviceInput, with_device, heard_frame, device_data, device_called, port_device_tick, port_device_run}
use Rattle.port.specs.Listening as L
use Rattle.port.specs.Listening.{manner, reading, HasNothing, NothingInHand, NothingWhileResting}
use Rattle.port.specs.Waking.{after_ticks}
use Rattle.port.specs.declared.Ear.{Ear}
use Rattle.port.specs.declared.Ear.TheVariants.{Awake, PassesOver, Dozes}
use Rattle.port.specs.declared.PortDevice.{PortDevice}
use Rattle.port.specs.declared.PortDeviceTaken.{PortDeviceTaken}
use Rattle.port.proofs.Listening.{deaf_same, started, started_fresh}
use Rattle.port.proofs.NoBurst.{Plain, port_takes_plain, answered_plain, wished_off, tick_plain, started_plain}

-- ---- what a device has in hand, between two ticks

pub data Hand (y : PortDevice) : Type 0 where
  rests : y.device.deaf ≡ false → y.device.turn ≡ Listens → Hand y
  -- it is fresh, or has sent its ACK
  spoke : y.ear ≡ Awake → y.device.deaf ≡ true → y.device.turn ≡ Listens → Hand y
  asked : (n : ℕ) → y.ear ≡ Awake → y.device.deaf ≡ false → y.device.turn ≡ Asked n → inside_frame y.device.receiver.place ≡ false → y.quiet + n ≤ 87 → Hand y
  waits : y.ear ≡ Awake → y.device.deaf ≡ false → y.device.turn ≡ AnswerWaits → inside_frame y.device.receiver.place ≡ false → y.quiet ≤ 87 → Hand y
  answers : (n : ℕ) → y.ear ≡ Awake → y.device.deaf ≡ true → y.device.turn ≡ Answers n → Hand y

-- after what was heard, or the host's answer
data InHand (y : PortDevice) : Type 0 where
  still : Hand y → InHand y
  begins : y.ear ≡ Awake → y.device.turn ≡ Begins → InHand y

-- ---- a silent tick

quiet_more : (n : ℕ) → n ≤ 87 → quiet_after n Silence ≡ n + 1
quiet_more n h = if_is_true (n <? doze_ticks) _ _ (lt-ltb n doze_ticks (omega arith))

stays_awake : (n : ℕ) → n ≤ 87 → unless_quiet (quiet_after n Silence) Awake ≡ Awake
stays_awake n h = if_is_false (doze_ticks ≤? quiet_after n Silence) _ _ (lt-leb doze_ticks (quiet_after n Silence) (omega (arith, quiet_more n h)))

no_zero : (d : Device) → hears_wake_up d Silence ≡ false
no_zero d = if_both (λ (t : Bool). t ≡ false) (is_idle d.receiver.place) _ _ refl refl

counts_turn : (d : Device) → Plain d → (r : Receiver) (due : ℕ) (e : Event) → (D.counts d r due e).device.turn ≡ waited d.turn
counts_turn d p r due e = if_is_false (D.back_due d due) _ _ (if_is_false d.burst _ _ p.off)

-- one that listens goes on listening
record ListensOn (t : DeviceTaken) : Type 0 where
  turn : t.device.turn ≡ Listens
  hears : t.device.deaf ≡ false

silent_listens : (d : Device) → Plain d → d.turn ≡ Listens → d.deaf ≡ false → ListensOn (device_takes d Silence)
unfolding device_takes
silent_listens d p e h =
    if_both ListensOn d.deaf _ _ (record { turn = e; hears = h })
    (if_both ListensOn (inside_frame d.receiver.place) _ _ (if_both ListensOn d.receiver.gap _ _ (record { turn = counts_turn d p r (D.broken_due d) Broken ∙ ap waited e; hears = h }) (record { turn = e; hears = h }))
    (record { turn = counts_turn d p r d.due Nothing ∙ ap waited e; hears = h }))
  where
    r : Receiver
    r = (taken d.receiver Silence).receiver

-- outside a frame the request's ticks are counted
module _ (d : Device) (p : Plain d) (h : d.deaf ≡ false) (o : inside_frame d.receiver.place ≡ false) where
  silent_is : device_takes d Silence ≡ D.counts d idle d.due Nothing
  unfolding device_takes
  silent_is = if_is_false d.deaf _ _ h ∙ device_outside d o

  silent_turn : (device_takes d Silence).device.turn ≡ waited d.turn
  silent_turn = ap (λ (t : DeviceTaken). t.device.turn) silent_is ∙ counts_turn d p idle d.due Nothing

  silent_deaf : (device_takes d Silence).device.deaf ≡ false
  silent_deaf = ap (λ (t : DeviceTaken). t.device.deaf) silent_is ∙ h

  silent_outside : inside_frame (device_takes d Silence).device.receiver.place ≡ false
  silent_outside = ap (λ (t : DeviceTaken). inside_frame t.device.receiver.place) silent_is

-- an awake device in a silent tick
silent_awake : (y : PortDevice) → awake y Silence ≡ listens_on y Silence Awake (reads (device_takes y.device Silence))
silent_awake y = if_is_false (hears_wake_up y.device Silence) _ _ (no_zero y.device)

module _ (y : PortDevice) (p : Plain y.device) (h : y.device.deaf ≡ false) where
  silent_asked : (n : ℕ) → y.device.turn ≡ Asked n → inside_frame y.device.receiver.place ≡ false → y.quiet + n ≤ 87 → InHand (awake y Silence).device
  silent_asked n e o low =
      subst (λ (t : PortDeviceTaken). InHand t.device) (sym (silent_awake y))
      (by (n ≤? 1) refl)
    where
      turn : (device_takes y.device Silence).device.turn ≡ (when n ≤? 1 then Listens else Asked (n - 1))
      turn = silent_turn y.device p h o ∙ ap waited e

      by : (t : Bool) → (n ≤? 1) ≡ t → InHand (listens_on y Silence Awake (reads (device_takes y.device Silence))).device
      by true q = still (rests (silent_deaf y.device p h o) (turn ∙ if_is_true (n ≤? 1) _ _ q))
      by false q =
          let low-n = leb-false n 1 q in
          still (asked (n - 1) (stays_awake y.quiet (omega arith)) (silent_deaf y.device p h o) (turn ∙ if_is_false (n ≤? 1) _ _ q) (silent_outside y.device p h o)
          (omega (arith, quiet_more y.quiet (omega arith))))

  silent_waits : y.device.turn ≡ AnswerWaits → inside_frame y.device.receiver.place ≡ false → y.quiet ≤ 87 → InHand (awake y Silence).device
  silent_waits e o low = subst (λ (t : PortDeviceTaken). InHand t.device) (sym (silent_awake y)) (begins (stays_awake y.quiet low) (silent_turn y.device p h o ∙ ap waited e))

  silent_rests : y.device.turn ≡ Listens → InHand (awake y Silence).device
  silent_rests e = let s = silent_listens y.device p e h in subst (λ (t : PortDeviceTaken). InHand t.device) (sym (silent_awake y)) (still (rests s.hears s.turn))

-- ---- a character

-- what a character makes of the turn
data Turned (k : Change) : Type 0 where
  listens : k.turn ≡ Listens → Turned k
  is_asked : k.turn ≡ Asked 87 → Turned k
  is_answered : k.turn ≡ AnswerWaits → Turned k

frame_turned : (d : Device) → Plain d → (w : Whole) → Turned (D.after_frame d w)
frame_turned d p w =
    if_both Turned (w.header.kind =? stx) _ _
    (if_both Turned (w.expansion =? 0) _ _
    (if_both Turned (may_answer d w.header) _ _ (is_asked (ap (λ (q : Profile). Asked q.sto) p.profile_is)) (if_both Turned (is_broadcast w.header) _ _ (listens refl) (listens refl)))
    (listens refl)) (listens refl)

damage_turned : (d : Device) (w : Whole) (m : FrameDamage) → Turned (D.after_damage d w m)
damage_turned d w m = if_both Turned (has_error d w m) _ _ (is_answered refl) (listens refl)

no_quiet : (n : ℕ) (c : Heard) → IsCharacter c → (quiet_after n c ≡ 0) × (unless_quiet (quiet_after n c) Awake ≡ Awake)
unfolding when◌then◌else◌
no_quiet n (Character c) i = (refl, refl)
no_quiet n (Heard.Damaged c kind) i = (refl, refl)
no_quiet n Silence i = elim i [ ]

module _ (y : PortDevice) (p : Plain y.device) (h : y.device.deaf ≡ false) (c : Heard) (i : IsCharacter c) where
  changed_hand : (r : Receiver) (e : Event) (k : Change) → inside_frame r.place ≡ false → Turned k → InHand (listens_on y c Awake (reads (D.changed y.device r e k))).device
  changed_hand r e k o (listens t) = still (rests h t)
  changed_hand r e k o (is_asked t) = let q = no_quiet y.quiet c i in still (asked 87 q.1 h t o (omega (arith, q.0)))
  changed_hand r e k o (is_answered t) = let q = no_quiet y.quiet c i in still (waits q.1 h t o (omega (arith, q.0)))

  -- what an awake device has in hand after a character
  character_hand : (r : Receiver) (e : Event) → ((e ≡ Nothing → ⊥) → inside_frame r.place ≡ false) → InHand (listens_on y c Awake (reads (D.on_character y.device r e))).device
  character_hand r Nothing o = still (rests h refl)
  character_hand r PassedOver o = still (rests h refl)
  character_hand r Broken o = still (rests h refl)
  character_hand r (Frame w) o = changed_hand r (Frame w) (D.after_frame y.device w) (o (λ e. let z : ◌≡◌ {A = ℕ} 0 1 = cc in omega arith)) (frame_turned y.device p w)
  character_hand r (Damaged w m) o = changed_hand r (Damaged w m) (D.after_damage y.device w m) (o (λ e. let z : ◌≡◌ {A = ℕ} 0 1 = cc in omega arith)) (damage_turned y.device w m)

heard_is : (d : Device) → d.deaf ≡ false → (c : Heard) → IsCharacter c → device_takes d c ≡ D.on_character d (taken d.receiver c).receiver (taken d.receiver c).event
unfolding device_takes
heard_is d h (Character c) i = if_is_false d.deaf _ _ h
heard_is d h (Heard.Damaged c kind) i = if_is_false d.deaf _ _ h
heard_is d h Silence i = elim i [ ]

character_awake : (y : PortDevice) → Plain y.device → y.device.deaf ≡ false → (c : Heard) → IsCharacter c → InHand (awake y c).device
character_awake y p h c i =
    if_both (λ (t : PortDeviceTaken). InHand t.device) (hears_wake_up y.device c) _ _ (still (rests h refl))
    (subst (λ (t : DeviceTaken). InHand (listens_on y c Awake (reads t)).device) (sym (heard_is y.device h c i))
    (character_hand y p h c i (taken y.device.receiver c).receiver (taken y.device.receiver c).event (λ f. ready_outside _ ((silent_ticks y.device.receiver c i).outside f))))

-- ---- take

-- an awake device that has something in hand, or nothing
data Waits (y : PortDevice) : Type 0 where
  has_none : y.device.turn ≡ Listens → Waits y
  has_request : (n : ℕ) → y.device.turn ≡ Asked n → inside_frame y.device.receiver.place ≡ false → y.quiet + n ≤ 87 → Waits y
  has_answer : y.device.turn ≡ AnswerWaits → inside_frame y.device.receiver.place ≡ false → y.quiet ≤ 87 → Waits y

awake_hand : (y : PortDevice) → Plain y.device → y.device.deaf ≡ false → Waits y → (heard : Heard) → InHand (awake y heard).device
awake_hand y p h (has_none e) Silence = silent_rests y p h e
awake_hand y p h (has_request n e o low) Silence = silent_asked y p h n e o low
awake_hand y p h (has_answer e o low) Silence = silent_waits y p h e o low
awake_hand y p h w (Character c) = character_awake y p h (Character c) is_sound
awake_hand y p h w (Heard.Damaged c kind) = character_awake y p h (Heard.Damaged c kind) is_with_damage

rest_hand : (y : PortDevice) → Plain y.device → y.device.deaf ≡ false → y.device.turn ≡ Listens → (heard : Heard) (ear : Ear) → InHand (hears_by y heard ear).device
rest_hand y p h e heard Awake = awake_hand y p h (has_none e) heard
rest_hand y p h e heard (PassesOver before) =
    if_both (λ (t : PortDeviceTaken). InHand t.device) (is_undamaged 0xFF heard) _ _
    (if_both (λ (t : PortDeviceTaken). InHand t.device) before _ _ (still (rests h e)) (still (rests h e))) (still (rests h e))
rest_hand y p h e heard (Dozes a b) = if_both (λ (t : PortDeviceTaken). InHand t.device) (wakes a b heard) _ _ (still (rests h e)) (still (rests h e))

take_hand : (y : PortDevice) (heard : Heard) → Plain y.device → Hand y → InHand (port_device_takes y heard).device
unfolding port_device_takes
take_hand y heard p (rests h e) = subst (λ (t : PortDeviceTaken). InHand t.device) (sym (if_is_false y.device.deaf _ _ h)) (rest_hand y p h e heard y.ear)
take_hand y heard p (asked n a h e o low) =
    subst (λ (t : PortDeviceTaken). InHand t.device) (sym (if_is_false y.device.deaf _ _ h ∙ ap (hears_by y heard) a)) (awake_hand y p h (has_request n e o low) heard)
take_hand y heard p (waits a h e o low) =
    subst (λ (t : PortDeviceTaken). InHand t.device) (sym (if_is_false y.device.deaf _ _ h ∙ ap (hears_by y heard) a)) (awake_hand y p h (has_answer e o low) heard)
take_hand y heard p (spoke a h e) = subst InHand (sym (deaf_same y heard h)) (still (spoke a h e))
take_hand y heard p (answers n a h e) = subst InHand (sym (deaf_same y heard h)) (still (answers n a h e))

-- ---- the host's answer

listens_asked : (n : ℕ) → Listens ≡ Asked n → ⊥
listens_asked n e = let z : ◌≡◌ {A = ℕ} 0 1 = cc in omega arith

waits_asked : (n : ℕ) → AnswerWaits ≡ Asked n → ⊥
waits_asked n e = let z : ◌≡◌ {A = ℕ} 0 1 = cc in omega arith

answers_asked : (m n : ℕ) → Answers m ≡ Asked n → ⊥
answers_asked m n e = let z : ◌≡◌ {A = ℕ} 0 1 = cc in omega arith

begins_asked : (n : ℕ) → Begins ≡ Asked n → ⊥
begins_asked n e = let z : ◌≡◌ {A = ℕ} 0 1 = cc in omega arith

-- an answer that is taken is one to a request in hand
record Taken (d e : Device) : Type 0 where
  n : ℕ
  turn : d.turn ≡ Asked n
  next : e.turn ≡ answers_at d n
  same_deaf : e.deaf ≡ d.deaf
  same_reader : e.receiver ≡ d.receiver

module _ (limit : ℕ) (d : Device) (wish : Wish) (count : ℕ) (e : Device) where
  got : Called Device → Device
  got (accepted x) = x
  got (refused why) = e

  taken_by : (turn : Turn) → d.turn ≡ turn → answered_by limit d wish count turn ≡ accepted e → Taken d e
  unfolding got
  taken_by Listens t q = absurd (let z : ◌≡◌ {A = ℕ} 0 1 = cc in omega arith)
  taken_by (Asked n) t y =
      if_cases (λ (c : Called Device). c ≡ accepted e → Taken d e) (count outside 2 to limit) _ _ (λ z q. absurd (let z : ◌≡◌ {A = ℕ} 0 1 = cc in omega arith))
      (λ z. if_cases (λ (c : Called Device). c ≡ accepted e → Taken d e) (wish_refused d wish) _ _ (λ w q. absurd (let z : ◌≡◌ {A = ℕ} 0 1 = cc in omega arith))
      (λ w q. subst (Taken d) (ap got q) (record { n = n; turn = t; next = refl; same_deaf = refl; same_reader = refl }))) y
  taken_by AnswerWaits t q = absurd (let z : ◌≡◌ {A = ℕ} 0 1 = cc in omega arith)
  taken_by Begins t q = absurd (let z : ◌≡◌ {A = ℕ} 0 1 = cc in omega arith)
  taken_by (Answers n) t q = absurd (let z : ◌≡◌ {A = ℕ} 0 1 = cc in omega arith)
  taken_by Follows t q = absurd (let z : ◌≡◌ {A = ℕ} 0 1 = cc in omega arith)
  taken_by (Bursts n) t q = absurd (let z : ◌≡◌ {A = ℕ} 0 1 = cc in omega arith)

  answer_taken : port_answered limit d wish count ≡ accepted e → Taken d e
  unfolding port_answered answered
  answer_taken = if_cases (λ (c : Called Device). c ≡ accepted e → Taken d e) (too_late d) _ _ (λ z q. absurd (let z : ◌≡◌ {A = ℕ} 0 1 = cc in omega arith)) (λ z q. taken_by d.turn refl q)

answer_hand : (y : PortDevice) (e : Device) → InHand y → Taken y.device e → InHand (with_device y e)
answer_hand y e (still (rests h l)) t = absurd (listens_asked t.n (sym l ∙ t.turn))
answer_hand y e (still (spoke a h l)) t = absurd (listens_asked t.n (sym l ∙ t.turn))
answer_hand y e (still (waits a h w o low)) t = absurd (waits_asked t.n (sym w ∙ t.turn))
answer_hand y e (still (answers n a h w)) t = absurd (answers_asked n t.n (sym w ∙ t.turn))
answer_hand y e (begins a b) t = absurd (begins_asked t.n (sym b ∙ t.turn))
answer_hand y e (still (asked n a h w o low)) t =
    if_both (λ (z : Turn). e.turn ≡ z → InHand (with_device y e)) (t.n =? y.device.profile.sto) _ _
    (λ z. still (waits a (t.same_deaf ∙ h) z (ap (λ (r : Receiver). inside_frame r.place) t.same_reader ∙ o) (omega arith))) (λ z. begins a z) t.next

-- ---- send

sends_hand : (y : PortDevice) (frame : List ℕ) → Plain y.device → InHand y → Hand (port_device_sends y frame).device
unfolding port_device_sends device_sends
sends_hand y frame p g = by g
  where
    made : DeviceSent → PortDevice
    made s = record { device = s.device; ear = y.ear; quiet = P.quiet_sending y.quiet s.sent }

    speaks : (n : ℕ) (b primary : Bool) → b ≡ false → y.ear ≡ Awake → Hand (made (D.answers_from y.device frame n b primary))
    speaks n b primary off a =
        if_both (λ (s : DeviceSent). Hand (made s)) (n + 1 <? y.device.length) _ _ (answers (n + 1) a refl refl) (spoke a refl (if_is_false b _ _ off))

    by : InHand y → Hand (made (D.sends_by y.device frame y.device.turn))
    by (still (rests h e)) = subst (λ (t : Turn). Hand (made (D.sends_by y.device frame t))) (sym e) (rests refl refl)
    by (still (spoke a h e)) = subst (λ (t : Turn). Hand (made (D.sends_by y.device frame t))) (sym e) (rests refl refl)
    by (still (asked n a h e o low)) = subst (λ (t : Turn). Hand (made (D.sends_by y.device frame t))) (sym e) (asked n a refl refl o low)
    by (still (waits a h e o low)) = subst (λ (t : Turn). Hand (made (D.sends_by y.device frame t))) (sym e) (waits a refl refl o low)
    by (still (answers n a h e)) = subst (λ (t : Turn). Hand (made (D.sends_by y.device frame t))) (sym e) (speaks n y.device.burst y.device.primary p.off a)
    by (begins a e) =
        subst (λ (t : Turn). Hand (made (D.sends_by y.device frame t))) (sym e)
        (speaks 0 (wished y.device.burst y.device.wish) (D.first_for y.device) (wished_off y.device.burst y.device.wish p.off p.not_on) a)

-- ---- a tick, and a list of them

tick_hand : (limit : ℕ) (x : PortDeviceSide) (heard : Heard) (call : PortCall) → Plain x.device.device → Hand x.device → Hand (port_device_tick limit x heard call).side.device
unfolding port_device_tick
tick_hand limit x heard no_call p g = sends_hand _ (heard_frame x heard) (port_takes_plain x.device heard p) (take_hand x.device heard p g)
tick_hand limit x heard (gives_answer wish put) p g = go (port_answered limit t.device.device wish (length put)) refl
  where
    t : PortDeviceTaken
    t = port_device_takes x.device heard

    q : Plain t.device.device
    q = port_takes_plain x.device heard p

    k : InHand t.device
    k = take_hand x.device heard p g

    go : (c : Called Device) → port_answered limit t.device.device wish (length put) ≡ c
        → Hand (device_called heard t c (answer_frame t.device.device wish put (heard_frame x heard)) (heard_frame x heard) (device_data x heard)).side.device
    go (accepted d) e = sends_hand (with_device t.device d) _ (answered_plain limit t.device.device (length put) q wish d e) (answer_hand t.device d k (answer_taken limit t.device.device wish (length put) d e))
    go (refused why) e = sends_hand t.device (heard_frame x heard) q k

-- a device that is not awake
nothing_in : (x : PortDeviceSide) → Hand x.device → (manner x.device.ear ≡ reading → ⊥) → HasNothing x
nothing_in x (rests h e) f = record { hears = h; no_request = e }
nothing_in x (spoke a h e) f = absurd (f (ap manner a))
nothing_in x (asked n a h e o low) f = absurd (f (ap manner a))
nothing_in x (waits a h e o low) f = absurd (f (ap manner a))
nothing_in x (answers n a h e) f = absurd (f (ap manner a))

in_hand : (limit : ℕ) (x : PortDeviceSide) (inputs : List DeviceInput) → Plain x.device.device → Hand x.device → NothingInHand (port_device_run limit x inputs)
unfolding port_device_run
in_hand limit x [] p g = L.NothingInHand.no_tick
in_hand limit x (i ∷ is) p g =
    let k = tick_hand limit x i.heard i.call p g in
    L.NothingInHand.tick_and (λ f. nothing_in _ k f) (in_hand limit (port_device_tick limit x i.heard i.call).side is (tick_plain limit x i.heard i.call p) k)

fresh_hand : (preamble polling unique : ℕ) (y : PortDevice) → port_device_starts preamble polling unique ≡ accepted y → Hand y
fresh_hand preamble polling unique y e = let s = started preamble polling unique y e in let f = started_fresh preamble polling unique y e in spoke s.0 f.0 f.1

pub nothing_while_resting : NothingWhileResting
nothing_while_resting limit preamble polling unique x inputs e = in_hand limit x inputs (started_plain preamble polling unique x.device e) (fresh_hand preamble polling unique x.device e)

-- after any ticks since its start
after_hand : (limit : ℕ) (x : PortDeviceSide) (inputs : List DeviceInput) → Plain x.device.device → Hand x.device → Hand (after_ticks limit x inputs).device
unfolding after_ticks
after_hand limit x [] p g = g
after_hand limit x (i ∷ is) p g = after_hand limit (port_device_tick limit x i.heard i.call).side is (tick_plain limit x i.heard i.call p) (tick_hand limit x i.heard i.call p g)

pub nothing_after : (limit preamble polling unique : ℕ) (x : PortDeviceSide) (inputs : List DeviceInput) → port_device_starts preamble polling unique ≡ accepted x.device
    → (manner (after_ticks limit x inputs).device.ear ≡ reading → ⊥) → HasNothing (after_ticks limit x inputs)
nothing_after limit preamble polling unique x inputs e f =
    nothing_in (after_ticks limit x inputs) (after_hand limit x inputs (started_plain preamble polling unique x.device e) (fresh_hand preamble polling unique x.device e)) f
