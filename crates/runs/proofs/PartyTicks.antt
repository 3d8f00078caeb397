-- The tick of a master and of a device as that of a party: after a character nobody begins a frame, but a device whose BACK follows its own ACK.
use Prim.Native.Nat.{ℕ, zero, suc, ◌+◌, ◌-◌, ◌≤◌, ◌<◌}
use native.Mathlib.Omega.{arith}
use mathlib.Core.Path.{◌≡◌, refl, sym, ap, subst, ◌∙◌}
use mathlib.Core.Bool.{Bool, true, false}
use mathlib.Core.List.{List, []}
use lib.ListN.{length, drop}
use lib.Seq.{drop-cons}
use borrow.Author.Tests.{eq-eqb}
use Rattle.base.specs.Refusal.{Called}
use Rattle.base.specs.Choice.{when◌then◌else◌, ◌<?◌, ◌=?◌, ◌outside◌to◌}
use Rattle.base.proofs.Choices.{true_false, if_is_true, if_is_false}
use Rattle.frame.specs.Delimiter.{stx}
use Rattle.line.specs.Gaps.{IsCharacter, is_sound, is_with_damage}
use Rattle.line.specs.Reader.{passing, inside_frame, taken, tells}
use Rattle.line.specs.declared.Event.{Event}
use Rattle.line.specs.declared.Event.TheVariants.{Nothing, PassedOver, Broken, Frame}
use Rattle.line.specs.declared.Heard.{Heard}
use Rattle.line.specs.declared.Heard.TheVariants.{Silence, Character, Damaged}
use Rattle.line.specs.declared.Profile.{Profile}
use Rattle.line.specs.declared.Receiver.{Receiver}
use Rattle.turns.specs.Party.{is_broadcast}
use Rattle.turns.specs.Master as M
use Rattle.turns.specs.Master.{broken, ended_by, burst_after, master_takes}
use Rattle.turns.specs.Device as D
use Rattle.turns.specs.Device.{may_answer, has_error, wish_refused, answers_at, answered_by, answered, answer_frame, content_given, back_length, device_with_content, sends_by, device_sends, begun_frame, device_takes}
use Rattle.turns.specs.Link.{MasterCall, MasterSide, MasterStep, master_tick, master_data, DeviceCall, no_call, gives_answer, gives_content, DeviceSide, DeviceStep, device_sent, answer_called, content_called, device_calls, device_tick}
use Rattle.turns.specs.Run.{count}
use Rattle.turns.specs.declared.CallResult.{CallResult}
use Rattle.turns.specs.declared.Change.{Change}
use Rattle.turns.specs.declared.Content.{Content}
use Rattle.turns.specs.declared.Sent.{Sent}
use Rattle.turns.specs.declared.Sent.TheVariants.{Silent}
use Rattle.turns.specs.declared.Turn.{Turn}
use Rattle.turns.specs.declared.Turn.TheVariants.{Listens, Asked, AnswerWaits, Begins, Answers, Follows, Bursts}
use Rattle.turns.specs.declared.Wish.{Wish}
use Rattle.turns.specs.declared.Master.{Master}
use Rattle.turns.specs.declared.MasterTaken.{MasterTaken}
use Rattle.turns.specs.declared.Device.{Device}
use Rattle.turns.specs.declared.DeviceTaken.{DeviceTaken}
use Rattle.turns.specs.declared.DeviceTold.{DeviceTold}
use Rattle.turns.specs.declared.DeviceSent.{DeviceSent}
use Rattle.turns.proofs.Bursting.{if_both}
use Rattle.turns.proofs.Masters.{if_cases}
use Rattle.turns.proofs.Listening.{timer_shut, rests_shut}
use Rattle.turns.proofs.NoGaps.{Steps, is_silent, is_first, is_next, MasterState, DeviceState, listening_does, master_steps, device_steps}
use Rattle.runs.specs.Late.{late_master}
use Rattle.runs.proofs.Readers.{Reads, spoke, listened, tick_reads}
use Rattle.runs.proofs.Parties.{Party, reader_next, Spoke, Listened, Step, is_off, rests, begins, goes_on}

silent_character : {sent : Sent} (c : ℕ) → sent ≡ Silent → sent ≡ Sent.Character c → ⊥
silent_character c p q = let e : ◌≡◌ {A = ℕ} 0 1 = ap count (sym p ∙ q) in omega (arith, e)

-- ---- what a tick leaves, from what is left of the frame, the reader after the tick, and that no frame begins after a character

module _ {X : Type 0} (State : List ℕ → X → Type 0) (deaf follows : X → Bool) (reader : X → Receiver) where
  abbrev party : List ℕ → X → Party
  party left x = record { left = left; deaf = deaf x; follows = follows x; reader = reader x }

  record Leaves (heard : Heard) (v : Party) (sent : Sent) (y : X) : Type 0 where
    left : List ℕ
    state : State left y
    step : Step heard v sent (party left y)

  leaves : (heard : Heard) {left : List ℕ} (x : X) {sent : Sent} {y : X} → Steps State left sent y → (sent ≡ Silent → Listened (reader_next (party left x) heard) (party [] y)) → ((c : ℕ) → sent ≡ Sent.Character c → (l : List ℕ) → Spoke (party l y))
      → (left ≡ [] → (c : ℕ) → sent ≡ Sent.Character c → IsCharacter heard → follows x ≡ true) → Leaves heard (party left x) sent y
  leaves heard x (is_silent s) quiet sends first = record { left = []; state = s; step = rests refl refl (quiet refl) }
  leaves heard x (is_first {c = c} {left = left} w s) quiet sends first = record { left = left; state = s; step = begins refl (first refl c refl) w (sends c refl left) }
  leaves heard x (is_next {c = c} {left = left} s) quiet sends first = record { left = left; state = s; step = goes_on refl (sends c refl left) }

-- ---- a master

abbrev pub master_party : List ℕ → MasterSide → Party
master_party left x = record { left = left; deaf = x.master.deaf; follows = false; reader = x.master.receiver }

-- after a character no window is open
character_shut : (m : Master) (r : Receiver) (event : Event) (bytes : List ℕ) → (M.on_character m r event bytes).master.timer.window ≡ 0
character_shut m r Nothing bytes = refl
character_shut m r PassedOver bytes = timer_shut m.profile m.primary broken m.burst
character_shut m r Broken bytes = timer_shut m.profile m.primary broken m.burst
character_shut m r (Frame w) bytes = timer_shut m.profile m.primary (ended_by m w.header) (burst_after m.burst m.noted w.header)
character_shut m r (Event.Damaged w h) bytes = timer_shut m.profile m.primary broken m.burst

heard_shut : (m : Master) {heard : Heard} (bytes : List ℕ) → (m.deaf ≡ true → m.timer.window ≡ 0) → IsCharacter heard → (master_takes m heard bytes).master.timer.window ≡ 0
unfolding master_takes
heard_shut m bytes shut (is_sound {c}) = if_cases (λ (t : MasterTaken). t.master.timer.window ≡ 0) m.deaf _ _ shut (λ d. character_shut m _ (taken m.receiver (Character c)).event bytes)
heard_shut m bytes shut (is_with_damage {c} {kind}) = if_cases (λ (t : MasterTaken). t.master.timer.window ≡ 0) m.deaf _ _ shut (λ d. character_shut m _ (taken m.receiver (Damaged c kind)).event bytes)

master_listened : {step : MasterStep} {r : Receiver} → Reads step r → step.sent ≡ Silent → Listened r (master_party [] step.side)
master_listened (spoke c e d q w) z = absurd (silent_character c z e)
master_listened (listened e d q) z = record { hears = d; follows_not = refl; reader_is = q }

master_spoke : {step : MasterStep} {r : Receiver} → Reads step r → (c : ℕ) → step.sent ≡ Sent.Character c → (left : List ℕ) → Spoke (master_party left step.side)
master_spoke (spoke c e d q w) a z left = record { deaf_is = d; reader_is = q }
master_spoke (listened e d q) a z left = absurd (silent_character a e z)

master_shut : {step : MasterStep} {r : Receiver} → Reads step r → step.side.master.deaf ≡ true → step.side.master.timer.window ≡ 0
master_shut (spoke c e d q w) z = w
master_shut (listened e d q) z = absurd (true_false (sym z ∙ d))

module _ (limit : ℕ) (small : limit ≤ 255) (p : Profile) (primary : Bool) where
  -- a master that starts in n ticks
  pub record MasterSeen (n : ℕ) (left : List ℕ) (x : MasterSide) : Type 0 where
    pub state : MasterState limit small p primary left x
    pub shut : x.master.deaf ≡ true → x.master.timer.window ≡ 0
    pub off_deaf : 1 ≤ n → x.master.deaf ≡ true
    pub off_left : 1 ≤ n → left ≡ []

  some_left : (k : ℕ) (w : List ℕ) → k < length w → drop k w ≡ [] → ⊥
  some_left k w below e = omega (arith, ap length (sym (drop-cons w k 0 below) ∙ e))

  -- with nothing left, it begins no frame after a character
  master_waits : {left : List ℕ} {x : MasterSide} {heard : Heard} (call : MasterCall) → MasterState limit small p primary left x → (x.master.deaf ≡ true → x.master.timer.window ≡ 0) → left ≡ [] → IsCharacter heard
      → (master_tick limit x heard call).sent ≡ Silent
  master_waits {x = x} {heard} call (MasterState.listens is still formed) shut e i =
      (rests_shut (heard_shut x.master (master_data x heard) shut i) (listening_does limit small p primary x is still formed heard call)).silent
  master_waits call (MasterState.speaks burst noted k w message below stage s) shut e i = absurd (some_left (suc k) w below e)

  pub record MasterLeaves (n : ℕ) (heard : Heard) (v : Party) (sent : Sent) (y : MasterSide) : Type 0 where
    pub left : List ℕ
    pub seen : MasterSeen n left y
    pub step : Step heard v sent (master_party left y)

  pub master_leaves : (n : ℕ) {left : List ℕ} {x : MasterSide} (heard : Heard) (call : MasterCall) → MasterSeen n left x
      → MasterLeaves (n - 1) heard (master_party left x) (late_master limit n x heard call).sent (late_master limit n x heard call).side
  master_leaves zero {left} {x} heard call s =
      let reads = tick_reads limit small x heard call in
      let k = leaves (MasterState limit small p primary) (λ (y : MasterSide). y.master.deaf) (λ (y : MasterSide). false) (λ (y : MasterSide). y.master.receiver) heard x
      (master_steps limit small p primary s.state heard call) (master_listened reads) (master_spoke reads)
      (λ e c z i. absurd (silent_character c (master_waits call s.state s.shut e i) z)) in
      record {
        left = k.left;
        seen = record { state = k.state; shut = master_shut reads; off_deaf = λ z. absurd (omega arith); off_left = λ z. absurd (omega arith) };
        step = k.step;
      }
  master_leaves (suc n) {left} {x} heard call s = record {
    left = left;
    seen = record { state = s.state; shut = s.shut; off_deaf = λ z. s.off_deaf (omega arith); off_left = λ z. s.off_left (omega arith) };
    step = is_off (s.off_left (omega arith)) (s.off_deaf (omega arith)) refl;
  }

-- ---- a device

abbrev pub device_party : List ℕ → DeviceSide → Party
device_party left x = record { left = left; deaf = x.device.deaf; follows = x.device.deaf; reader = x.device.receiver }

-- its own reader, whatever it hears and is called
data DeviceReads (r : Receiver) (step : DeviceStep) : Type 0 where
  device_spoke : (c : ℕ) → step.sent ≡ Sent.Character c → step.side.device.deaf ≡ true → step.side.device.receiver ≡ passing → DeviceReads r step
  device_listened : step.sent ≡ Silent → step.side.device.deaf ≡ false → step.side.device.receiver ≡ r → DeviceReads r step

module _ (d : Device) (frame bytes contents : List ℕ) (told : DeviceTold) (result : CallResult) where
  abbrev step_of : List ℕ → DeviceSent → DeviceStep
  step_of f s = record { side = record { device = s.device; frame = f; bytes = bytes; contents = contents }; sent = s.sent; told = told; result = result }

  sends_by_lem : (turn : Turn) → DeviceReads d.receiver (step_of (begun_frame d turn contents frame) (sends_by d (begun_frame d turn contents frame) turn))
  sends_by_lem Listens = device_listened refl refl refl
  sends_by_lem (Asked n) = device_listened refl refl refl
  sends_by_lem AnswerWaits = device_listened refl refl refl
  sends_by_lem Begins = if_both (λ (s : DeviceSent). DeviceReads d.receiver (step_of frame s)) (0 + 1 <? d.length) _ _ (device_spoke _ refl refl refl) (device_spoke _ refl refl refl)
  sends_by_lem (Answers n) = if_both (λ (s : DeviceSent). DeviceReads d.receiver (step_of frame s)) (n + 1 <? d.length) _ _ (device_spoke _ refl refl refl) (device_spoke _ refl refl refl)
  sends_by_lem Follows = if_both (λ (s : DeviceSent). DeviceReads d.receiver (step_of (begun_frame d Follows contents frame) s)) (0 + 1 <? back_length d) _ _ (device_spoke _ refl refl refl) (device_spoke _ refl refl refl)
  sends_by_lem (Bursts n) = if_both (λ (s : DeviceSent). DeviceReads d.receiver (step_of frame s)) (n + 1 <? d.length) _ _ (device_spoke _ refl refl refl) (device_spoke _ refl refl refl)

  sent_reads : DeviceReads d.receiver (device_sent d frame bytes contents told result)
  unfolding device_sends
  sent_reads = sends_by_lem d.turn

-- after a character: the request may be answered from the next tick on
data Waits (sto : ℕ) : Turn → Type 0 where
  listens_then : Waits sto Listens
  asked_then : Waits sto (Asked sto)
  answer_waits : Waits sto AnswerWaits

sent_silent : (d : Device) (frame bytes contents : List ℕ) (told : DeviceTold) (result : CallResult) {sto : ℕ} → Waits sto d.turn → (device_sent d frame bytes contents told result).sent ≡ Silent
unfolding device_sends
sent_silent d frame bytes contents told result w = by w
  where
    by : {sto : ℕ} {turn : Turn} → Waits sto turn → (sends_by d (begun_frame d turn contents frame) turn).sent ≡ Silent
    by listens_then = refl
    by asked_then = refl
    by answer_waits = refl

-- ---- the host's call: what holds of the device, and of the device with an answer or with content, holds of the tick

module _ (limit : ℕ) (t : DeviceTaken) (frame bytes contents : List ℕ) (P : DeviceStep → Type 0)
    (plain : (result : CallResult) → P (device_sent t.device frame bytes contents t.told result))
    (answering : (n : ℕ) (wish : Wish) (length : ℕ) (written : List ℕ) → t.device.turn ≡ Asked n
    → P (device_sent (D.device_with t.device t.device.receiver (answers_at t.device n) t.device.request wish length t.device.due) written bytes contents t.told CallResult.Taken))
    (content : (c : Content) (put : List ℕ) → P (device_sent (device_with_content t.device c) frame bytes put t.told CallResult.Taken)) where
  by_answer : (wish : Wish) (put : List ℕ) (turn : Turn) → t.device.turn ≡ turn → P (answer_called (answered_by limit t.device wish (length put) turn) t.device (answer_frame t.device wish put frame) frame bytes contents t.told)
  by_answer wish put Listens e = plain _
  by_answer wish put (Asked n) e =
      let Q : Called Device → Type 0 = λ c. P (answer_called c t.device (answer_frame t.device wish put frame) frame bytes contents t.told) in
      if_both Q (length put outside 2 to limit) _ _ (plain _) (if_both Q (wish_refused t.device wish) _ _ (plain _) (answering n wish _ _ e))
  by_answer wish put AnswerWaits e = plain _
  by_answer wish put Begins e = plain _
  by_answer wish put (Answers n) e = plain _
  by_answer wish put Follows e = plain _
  by_answer wish put (Bursts n) e = plain _

  by_call : (call : DeviceCall) → P (device_calls limit t call frame bytes contents)
  unfolding answered content_given
  by_call no_call = plain _
  by_call (gives_answer wish put) = by_answer wish put t.device.turn refl
  by_call (gives_content command put) =
      let Q : Called Device → Type 0 = λ c. P (content_called c t.device put frame bytes contents t.told) in
      if_both Q (command =? 254) _ _ (plain _) (if_both Q (length put outside 2 to limit) _ _ (plain _) (content _ _))

-- ---- the tick

-- what the device's reader makes of what it hears next
takes_reader : (d : Device) (heard : Heard) → (device_takes d heard).device.receiver ≡ (when d.deaf then tells d.receiver Nothing else taken d.receiver heard).receiver
unfolding device_takes when◌then◌else◌
takes_reader d heard = go d.deaf
  where
    on : (h : Heard) → (D.on_heard d h).device.receiver ≡ (taken d.receiver h).receiver
    on Silence = if_both (λ (t : DeviceTaken). t.device.receiver ≡ (taken d.receiver Silence).receiver) (inside_frame d.receiver.place) _ _
        (if_both (λ (t : DeviceTaken). t.device.receiver ≡ (taken d.receiver Silence).receiver) d.receiver.gap _ _ refl refl) refl
    on (Character c) = refl
    on (Damaged c kind) = refl

    go : (b : Bool) → (when b then D.tells d DeviceTold.Nothing Nothing else D.on_heard d heard).device.receiver ≡ (when b then tells d.receiver Nothing else taken d.receiver heard).receiver
    go true = refl
    go false = on heard

device_reads : (limit : ℕ) (x : DeviceSide) (heard : Heard) (call : DeviceCall) → DeviceReads (reader_next (device_party [] x) heard) (device_tick limit x heard call)
unfolding device_tick
device_reads limit x heard call =
    subst (λ (r : Receiver). DeviceReads r (device_tick limit x heard call)) (takes_reader x.device heard)
    (by_call limit (device_takes x.device heard) _ _ _ (DeviceReads (device_takes x.device heard).device.receiver) (λ result. sent_reads _ _ _ _ _ result)
    (λ n wish length written e. sent_reads _ _ _ _ _ _) (λ c put. sent_reads _ _ _ _ _ _) call)

character_waits : (d : Device) (event : Event) → Waits d.profile.sto (D.after_character d event).turn
character_waits d Nothing = listens_then
character_waits d PassedOver = listens_then
character_waits d Broken = listens_then
character_waits d (Frame w) =
    let P : Change → Type 0 = λ c. Waits d.profile.sto c.turn in
    if_both P (w.header.kind =? stx) _ _
    (if_both P (w.expansion =? 0) _ _ (if_both P (may_answer d w.header) _ _ asked_then (if_both P (is_broadcast w.header) _ _ listens_then listens_then)) listens_then)
    listens_then
character_waits d (Event.Damaged w m) = if_both (λ (c : Change). Waits d.profile.sto c.turn) (has_error d w m) _ _ answer_waits listens_then

asked_same : {sto n : ℕ} {turn : Turn} → Waits sto turn → turn ≡ Asked n → n ≡ sto
asked_same listens_then e = absurd (let z : ◌≡◌ {A = ℕ} 0 1 = cc in omega arith)
asked_same asked_then e = cc
asked_same answer_waits e = absurd (let z : ◌≡◌ {A = ℕ} 0 1 = cc in omega arith)

taken_waits : (limit : ℕ) (t : DeviceTaken) (frame bytes contents : List ℕ) (call : DeviceCall) → Waits t.device.profile.sto t.device.turn → (device_calls limit t call frame bytes contents).sent ≡ Silent
taken_waits limit t frame bytes contents call w =
    by_call limit t frame bytes contents (λ (s : DeviceStep). s.sent ≡ Silent) (λ result. sent_silent t.device frame bytes contents t.told result w)
    (λ n wish length written e.
    sent_silent _ written bytes contents t.told CallResult.Taken (subst (Waits t.device.profile.sto) (sym (if_is_true (n =? t.device.profile.sto) AnswerWaits Begins (eq-eqb n t.device.profile.sto (asked_same w e)))) answer_waits))
    (λ c put. sent_silent (device_with_content t.device c) frame bytes put t.told CallResult.Taken w) call

-- after a character it begins no frame, unless it hears nothing
device_waits : (limit : ℕ) (x : DeviceSide) {heard : Heard} (call : DeviceCall) → x.device.deaf ≡ false → IsCharacter heard → (device_tick limit x heard call).sent ≡ Silent
unfolding device_tick device_takes
device_waits limit x call hears (is_sound {c}) =
    taken_waits limit (device_takes x.device (Character c)) _ _ _ call
    (subst (λ (t : DeviceTaken). Waits t.device.profile.sto t.device.turn) (sym (if_is_false x.device.deaf _ _ hears)) (character_waits x.device (taken x.device.receiver (Character c)).event))
device_waits limit x call hears (is_with_damage {c} {kind}) =
    taken_waits limit (device_takes x.device (Damaged c kind)) _ _ _ call
    (subst (λ (t : DeviceTaken). Waits t.device.profile.sto t.device.turn) (sym (if_is_false x.device.deaf _ _ hears)) (character_waits x.device (taken x.device.receiver (Damaged c kind)).event))

device_listens : {step : DeviceStep} {r : Receiver} → DeviceReads r step → step.sent ≡ Silent → Listened r (device_party [] step.side)
device_listens (device_spoke c e d q) z = absurd (silent_character c z e)
device_listens (device_listened e d q) z = record { hears = d; follows_not = d; reader_is = q }

device_speaks : {step : DeviceStep} {r : Receiver} → DeviceReads r step → (c : ℕ) → step.sent ≡ Sent.Character c → (left : List ℕ) → Spoke (device_party left step.side)
device_speaks (device_spoke c e d q) a z left = record { deaf_is = d; reader_is = q }
device_speaks (device_listened e d q) a z left = absurd (silent_character a e z)

module _ (limit : ℕ) (low : 2 ≤ limit) (high : limit ≤ 255) (p : Profile) (some_sto : 1 ≤ p.sto) where
  pub record DeviceLeaves (heard : Heard) (v : Party) (sent : Sent) (y : DeviceSide) : Type 0 where
    pub left : List ℕ
    pub state : DeviceState limit low high p some_sto left y
    pub step : Step heard v sent (device_party left y)

  pub device_leaves : {left : List ℕ} {x : DeviceSide} (heard : Heard) (call : DeviceCall) → DeviceState limit low high p some_sto left x
      → DeviceLeaves heard (device_party left x) (device_tick limit x heard call).sent (device_tick limit x heard call).side
  device_leaves {left} {x} heard call s =
      let reads = device_reads limit x heard call in
      let k = leaves (DeviceState limit low high p some_sto) (λ (y : DeviceSide). y.device.deaf) (λ (y : DeviceSide). y.device.deaf) (λ (y : DeviceSide). y.device.receiver) heard x
      (device_steps limit low high p some_sto s heard call) (device_listens reads) (device_speaks reads) (λ e c z i. deaf_then c z i x.device.deaf refl) in
      record { left = k.left; state = k.state; step = k.step }
    where
      deaf_then : (c : ℕ) → (device_tick limit x heard call).sent ≡ Sent.Character c → IsCharacter heard → (b : Bool) → x.device.deaf ≡ b → x.device.deaf ≡ true
      deaf_then c z i true e = e
      deaf_then c z i false e = absurd (silent_character c (device_waits limit x call e i) z)
