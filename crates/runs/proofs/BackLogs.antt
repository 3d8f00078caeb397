-- A device's content log: what it holds is the content that the host gave last, in every tick; and where a BACK begins, its frame carries that.
use Prim.Native.Nat.{ℕ, ◌+◌, ◌-◌, ◌≤◌}
use native.Mathlib.Omega.{arith}
use mathlib.Core.Path.{◌≡◌, refl, sym, ap, subst, ◌∙◌}
use mathlib.Core.Bool.{Bool, true}
use mathlib.Core.List.{List}
use lib.ListN.{length, take}
use Rattle.base.specs.Refusal.{Called}
use Rattle.base.specs.Choice.{◌<?◌, ◌≤?◌, ◌=?◌, ◌outside◌to◌}
use Rattle.base.specs.Store.{stored}
use Rattle.base.proofs.Stores.{stored_front, length_stored}
use Rattle.frame.specs.Delimiter.{stx, back}
use Rattle.frame.specs.Frame.{frame_length}
use Rattle.frame.specs.Write.{write_buffer}
use Rattle.frame.specs.declared.Header.{Header}
use Rattle.line.specs.Reader.{taken, inside_frame}
use Rattle.line.specs.declared.Event.{Event}
use Rattle.line.specs.declared.Event.TheVariants.{Nothing, PassedOver, Broken, Frame, Damaged}
use Rattle.line.specs.declared.Heard.{Heard}
use Rattle.line.specs.declared.Heard.TheVariants.{Silence, Character}
use Rattle.line.specs.declared.Receiver.{Receiver}
use Rattle.turns.specs.Party.{is_broadcast}
use Rattle.turns.specs.Device.{has_error, back_due, broken_due, waited, on_silence, on_character, on_heard, device_takes, wish_refused, wished, answered_by, answered, answer_frame, device_with_content, content_given, back_length, behind_ack, sends_by, device_sends, begun_frame, may_answer, counts}
use Rattle.turns.specs.Link.{DeviceCall, no_call, gives_answer, gives_content, DeviceSide, DeviceStep, device_sent, answer_called, content_called, device_tick, heard_frame, device_data}
use Rattle.runs.specs.Backs.{LastGiven, content, ContentLog, given_by, sent_by, content_log_after}
use Rattle.turns.specs.declared.CallResult.{CallResult}
use Rattle.turns.specs.declared.Sent.{Sent}
use Rattle.turns.specs.declared.Sent.TheVariants.{Silent}
use Rattle.turns.specs.declared.Turn.{Turn}
use Rattle.turns.specs.declared.Turn.TheVariants.{Listens, Asked, AnswerWaits, Begins, Answers, Follows, Bursts}
use Rattle.turns.specs.declared.Content.{Content}
use Rattle.turns.specs.declared.Device.{Device}
use Rattle.turns.specs.declared.DeviceTaken.{DeviceTaken}
use Rattle.turns.specs.declared.DeviceTold.{DeviceTold}
use Rattle.turns.specs.declared.DeviceSent.{DeviceSent}
use Rattle.turns.specs.declared.Wish.{Wish}
use Rattle.turns.proofs.Devices as D
use Rattle.turns.proofs.Devices.{ContentView, content_view}
use Rattle.turns.proofs.Bursting.{if_both, takes_kept}
use Rattle.turns.specs.declared.Change.{Change}

-- ---- the content that it holds

Held : LastGiven → Content → List ℕ → Type 0
Held g c contents = (255 ≤ length contents) × (c.given ≡ true → g ≡ content c.command (take c.count contents))

pub record Known (g : ContentLog) (x : DeviceSide) : Type 0 where
  pub room : 255 ≤ length x.contents
  pub known : x.device.content.given ≡ true → g.last ≡ content x.device.content.command (take x.device.content.count x.contents)

takes_content : (d : Device) (heard : Heard) → (device_takes d heard).device.content ≡ d.content
takes_content = takes_kept (λ (d : Device). d.content) (λ d r turn request wish length due. refl)

-- sending leaves it
sent_content : (d : Device) (frame : List ℕ) (turn : Turn) → (sends_by d frame turn).device.content ≡ d.content
sent_content d frame Listens = refl
sent_content d frame (Asked n) = refl
sent_content d frame AnswerWaits = refl
sent_content d frame Begins = if_both (λ (s : DeviceSent). s.device.content ≡ d.content) (0 + 1 <? d.length) _ _ refl refl
sent_content d frame (Answers n) = if_both (λ (s : DeviceSent). s.device.content ≡ d.content) (n + 1 <? d.length) _ _ refl refl
sent_content d frame Follows = if_both (λ (s : DeviceSent). s.device.content ≡ d.content) (0 + 1 <? back_length d) _ _ refl refl
sent_content d frame (Bursts n) = if_both (λ (s : DeviceSent). s.device.content ≡ d.content) (n + 1 <? d.length) _ _ refl refl

pub last_is : (t : Sent) (g : LastGiven) (row : List LastGiven) → (sent_by t g row).last ≡ g
last_is Silent g row = refl
last_is (Sent.Character c) g row = refl

-- a tick, by the device that sends and what its host has given last
HeldBy : LastGiven → DeviceStep → Type 0
HeldBy g s = Held g s.side.device.content s.side.contents

sent_held : (g : LastGiven) (d : Device) (frame bytes contents : List ℕ) (told : DeviceTold) (result : CallResult) → Held g d.content contents → HeldBy g (device_sent d frame bytes contents told result)
unfolding HeldBy Held device_sends
sent_held g d frame bytes contents told result h = subst (λ (c : Content). Held g c contents) (sym (sent_content d (begun_frame d d.turn contents frame) d.turn)) h

module _ (limit : ℕ) (high : limit ≤ 255) (g : LastGiven) (d : Device) (frame bytes contents : List ℕ) (told : DeviceTold) (h : Held g d.content contents) where
  answer_held : (wish : Wish) (put : List ℕ) (turn : Turn)
      → HeldBy (given_by (gives_answer wish put) (answer_called (answered_by limit d wish (length put) turn) d (answer_frame d wish put frame) frame bytes contents told).result g) (answer_called (answered_by limit d wish (length put) turn) d (answer_frame d wish put frame) frame bytes contents told)
  answer_held wish put Listens = sent_held g d frame bytes contents told _ h
  answer_held wish put (Asked n) =
      if_both (λ (c : Called Device). HeldBy g (answer_called c d (answer_frame d wish put frame) frame bytes contents told)) (length put outside 2 to limit) _ _ (sent_held g d frame bytes contents told _ h)
      (if_both (λ (c : Called Device). HeldBy g (answer_called c d (answer_frame d wish put frame) frame bytes contents told)) (wish_refused d wish) _ _ (sent_held g d frame bytes contents told _ h)
      (sent_held g _ (answer_frame d wish put frame) bytes contents told CallResult.Taken h))
  answer_held wish put AnswerWaits = sent_held g d frame bytes contents told _ h
  answer_held wish put Begins = sent_held g d frame bytes contents told _ h
  answer_held wish put (Answers n) = sent_held g d frame bytes contents told _ h
  answer_held wish put Follows = sent_held g d frame bytes contents told _ h
  answer_held wish put (Bursts n) = sent_held g d frame bytes contents told _ h

  content_held : (command : ℕ) (put : List ℕ)
      → HeldBy (given_by (gives_content command put) (content_called (content_given limit d command (length put)) d put frame bytes contents told).result g) (content_called (content_given limit d command (length put)) d put frame bytes contents told)
  unfolding Held HeldBy
  content_held command put = go (content_view limit d command (length put))
    where
      by : Called Device → Type 0
      by c = HeldBy (given_by (gives_content command put) (content_called c d put frame bytes contents told).result g) (content_called c d put frame bytes contents told)

      new : length put ≤ limit → Held (content command put) (record { given = true; command = command; count = length put }) (stored contents 0 put)
      new most = (
        omega (arith, h.0, length_stored contents 0 put),
        λ z. ap (content command) (sym (stored_front (length put) contents (stored contents 0 put) put refl refl (omega (arith, h.0)))),
      )

      go : ContentView limit d command (length put) → by (content_given limit d command (length put))
      go (D.ContentView.is_refused why q) = subst by (sym q) (sent_held g d frame bytes contents told (CallResult.Refused why) h)
      go (D.ContentView.is_taken least most q) =
          subst by (sym q) (sent_held (content command put) (device_with_content d (record { given = true; command = command; count = length put })) frame bytes (stored contents 0 put) told CallResult.Taken (new most))

-- whatever is heard and called
pub known_tick : (limit : ℕ) → limit ≤ 255 → (g : ContentLog) (x : DeviceSide) (heard : Heard) (call : DeviceCall) → Known g x → Known (content_log_after call (device_tick limit x heard call) g) (device_tick limit x heard call).side
unfolding device_tick answered HeldBy Held
known_tick limit high g x heard call k =
    let s = device_tick limit x heard call in
    let r : HeldBy (given_by call s.result g.last) s = go call in
    record { room = r.0; known = λ z. last_is s.sent (given_by call s.result g.last) g.sent_with ∙ r.1 z }
  where
    d : Device
    d = (device_takes x.device heard).device

    h : Held g.last (device_takes x.device heard).device.content x.contents
    h = subst (λ (c : Content). Held g.last c x.contents) (sym (takes_content x.device heard)) (k.room, k.known)

    go : (call : DeviceCall) → HeldBy (given_by call (device_tick limit x heard call).result g.last) (device_tick limit x heard call)
    go no_call = sent_held g.last (device_takes x.device heard).device (heard_frame x heard) (device_data x heard) x.contents (device_takes x.device heard).told CallResult.Nothing h
    go (gives_answer wish put) = answer_held limit high g.last (device_takes x.device heard).device (heard_frame x heard) (device_data x heard) x.contents (device_takes x.device heard).told h wish put (device_takes x.device heard).device.turn
    go (gives_content command put) = content_held limit high g.last (device_takes x.device heard).device (heard_frame x heard) (device_data x heard) x.contents (device_takes x.device heard).told h command put

-- ---- where a BACK begins

abbrev pub NotBursts : Turn → Type 0
NotBursts t = (n : ℕ) → t ≡ Bursts n → ⊥

pub listens_not : NotBursts Listens
listens_not n e = let z : ◌≡◌ {A = ℕ} 0 1 = cc in omega arith

pub asked_not : (k : ℕ) → NotBursts (Asked k)
asked_not k n e = let z : ◌≡◌ {A = ℕ} 0 1 = cc in omega arith

pub accepted_not : NotBursts AnswerWaits
accepted_not n e = let z : ◌≡◌ {A = ℕ} 0 1 = cc in omega arith

begins_not : NotBursts Begins
begins_not n e = let z : ◌≡◌ {A = ℕ} 0 1 = cc in omega arith

answers_not : (k : ℕ) → NotBursts (Answers k)
answers_not k n e = let z : ◌≡◌ {A = ℕ} 0 1 = cc in omega arith

pub follows_not : NotBursts Follows
follows_not n e = let z : ◌≡◌ {A = ℕ} 0 1 = cc in omega arith

waited_not : (t : Turn) → NotBursts t → NotBursts (waited t)
waited_not Listens f = listens_not
waited_not (Asked n) f = if_both NotBursts (n ≤? 1) Listens (Asked (n - 1)) listens_not (asked_not (n - 1))
waited_not AnswerWaits f = begins_not
waited_not Begins f = begins_not
waited_not (Answers n) f = answers_not n
waited_not Follows f = follows_not
waited_not (Bursts n) f = f

module _ (d : Device) (f : NotBursts d.turn) where
  P : DeviceTaken → Type 0
  P t = NotBursts t.device.turn

  counts_not : (r : Receiver) (due : ℕ) (e : Event) → P (counts d r due e)
  unfolding P
  counts_not r due e = if_both NotBursts (back_due d due) _ _ follows_not (waited_not d.turn f)

  silence_not : (r : Receiver) → P (on_silence d r)
  unfolding P
  silence_not r = if_both P (inside_frame d.receiver.place) _ _ (if_both P d.receiver.gap _ _ (counts_not r (broken_due d) Broken) f) (counts_not r d.due Nothing)

  character_not : (r : Receiver) (e : Event) → P (on_character d r e)
  unfolding P
  character_not r Nothing = listens_not
  character_not r PassedOver = listens_not
  character_not r Broken = listens_not
  character_not r (Frame w) =
      let Q : Change → Type 0 = λ c. NotBursts c.turn in
      if_both Q (w.header.kind =? stx) _ _
      (if_both Q (w.expansion =? 0) _ _ (if_both Q (may_answer d w.header) _ _ (asked_not d.profile.sto) (if_both Q (is_broadcast w.header) _ _ listens_not listens_not)) listens_not) listens_not
  character_not r (Damaged w m) = if_both (λ (c : Change). NotBursts c.turn) (has_error d w m) _ _ accepted_not listens_not

  heard_not : (heard : Heard) → P (on_heard d heard)
  heard_not Silence = silence_not (taken d.receiver Silence).receiver
  heard_not (Character c) = character_not _ (taken d.receiver (Character c)).event
  heard_not (Heard.Damaged c kind) = character_not _ (taken d.receiver (Heard.Damaged c kind)).event

  takes_not : (heard : Heard) → NotBursts (device_takes d heard).device.turn
  unfolding device_takes P
  takes_not heard = if_both P d.deaf _ _ f (heard_not heard)

-- the header of a device's BACK
abbrev pub back_of : DeviceSide → Bool → ℕ → Header
back_of x primary command = record { kind = back; long = true; primary = primary; burst = true; address = x.device.unique; command = command }

-- the frame that it begins, with what it holds
pub record BeginsBack (s : DeviceStep) : Type 0 where
  pub before : List ℕ
  pub primary : Bool
  pub c : ℕ
  pub sent_is : s.sent ≡ Sent.Character c
  pub frame_is : s.side.frame ≡ write_buffer s.side.device.preamble (back_of s.side primary s.side.device.content.command) (take s.side.device.content.count s.side.contents) before 0
  pub length_is : s.side.device.length ≡ frame_length s.side.device.preamble (back_of s.side primary s.side.device.content.command) s.side.device.content.count

-- one character of a BACK is out
Begun : DeviceStep → Type 0
Begun s = s.side.device.turn ≡ Bursts 1 → BeginsBack s

module _ (d : Device) (f : NotBursts d.turn) (frame bytes contents : List ℕ) (told : DeviceTold) (result : CallResult) where
  step : List ℕ → DeviceSent → DeviceStep
  step b s = record { side = record { device = s.device; frame = b; bytes = bytes; contents = contents }; sent = s.sent; told = told; result = result }

  other : (b : List ℕ) (s : DeviceSent) → NotBursts s.device.turn → Begun (step b s)
  unfolding step Begun
  other b s q e = absurd (q 1 e)

  behind_not : (burst : Bool) → NotBursts (behind_ack burst)
  behind_not burst = if_both NotBursts burst Follows Listens follows_not listens_not

  by_turn : (turn : Turn) → d.turn ≡ turn → Begun (step (begun_frame d turn contents frame) (sends_by d (begun_frame d turn contents frame) turn))
  unfolding step Begun
  by_turn Listens e = other frame _ listens_not
  by_turn (Asked n) e = other frame _ (asked_not n)
  by_turn AnswerWaits e = other frame _ accepted_not
  by_turn Begins e = if_both (λ (s : DeviceSent). Begun (step frame s)) (0 + 1 <? d.length) _ _ (other frame _ (answers_not 1)) (other frame _ (behind_not (wished d.burst d.wish)))
  by_turn (Answers n) e = if_both (λ (s : DeviceSent). Begun (step frame s)) (n + 1 <? d.length) _ _ (other frame _ (answers_not (n + 1))) (other frame _ (behind_not d.burst))
  by_turn Follows e =
      if_both (λ (s : DeviceSent). Begun (step (begun_frame d Follows contents frame) s)) (0 + 1 <? back_length d) _ _
      (λ z. record { before = frame; primary = d.primary; c = _; sent_is = refl; frame_is = refl; length_is = refl }) (λ z. absurd (listens_not 1 z))
  by_turn (Bursts n) e = absurd (f n e)

  sent_begins : Begun (device_sent d frame bytes contents told result)
  unfolding device_sends step Begun
  sent_begins = by_turn d.turn refl

module _ (limit : ℕ) (d : Device) (f : NotBursts d.turn) (frame bytes contents : List ℕ) (told : DeviceTold) where
  answer_begins : (wish : Wish) (put : List ℕ) (turn : Turn) → d.turn ≡ turn → Begun (answer_called (answered_by limit d wish (length put) turn) d (answer_frame d wish put frame) frame bytes contents told)
  answer_begins wish put Listens e = sent_begins d f frame bytes contents told _
  answer_begins wish put (Asked n) e =
      if_both (λ (c : Called Device). Begun (answer_called c d (answer_frame d wish put frame) frame bytes contents told)) (length put outside 2 to limit) _ _ (sent_begins d f frame bytes contents told _)
      (if_both (λ (c : Called Device). Begun (answer_called c d (answer_frame d wish put frame) frame bytes contents told)) (wish_refused d wish) _ _ (sent_begins d f frame bytes contents told _)
      (sent_begins _ (if_both NotBursts (n =? d.profile.sto) AnswerWaits Begins accepted_not begins_not) (answer_frame d wish put frame) bytes contents told CallResult.Taken))
  answer_begins wish put AnswerWaits e = sent_begins d f frame bytes contents told _
  answer_begins wish put Begins e = sent_begins d f frame bytes contents told _
  answer_begins wish put (Answers n) e = sent_begins d f frame bytes contents told _
  answer_begins wish put Follows e = sent_begins d f frame bytes contents told _
  answer_begins wish put (Bursts n) e = absurd (f n e)

  content_begins : (command : ℕ) (put : List ℕ) → Begun (content_called (content_given limit d command (length put)) d put frame bytes contents told)
  content_begins command put = go (content_view limit d command (length put))
    where
      by : Called Device → Type 0
      by c = Begun (content_called c d put frame bytes contents told)

      go : ContentView limit d command (length put) → by (content_given limit d command (length put))
      go (D.ContentView.is_refused why q) = subst by (sym q) (sent_begins d f frame bytes contents told (CallResult.Refused why))
      go (D.ContentView.is_taken least most q) = subst by (sym q) (sent_begins (device_with_content d (record { given = true; command = command; count = length put })) f frame bytes (stored contents 0 put) told CallResult.Taken)

pub begins_back : (limit : ℕ) (x : DeviceSide) (heard : Heard) (call : DeviceCall) → NotBursts x.device.turn → (device_tick limit x heard call).side.device.turn ≡ Bursts 1 → BeginsBack (device_tick limit x heard call)
unfolding device_tick answered Begun
begins_back limit x heard call f e = go call e
  where
    g : NotBursts (device_takes x.device heard).device.turn
    g = takes_not x.device f heard

    go : (call : DeviceCall) → Begun (device_tick limit x heard call)
    go no_call = sent_begins (device_takes x.device heard).device g (heard_frame x heard) (device_data x heard) x.contents (device_takes x.device heard).told CallResult.Nothing
    go (gives_answer wish put) = answer_begins limit (device_takes x.device heard).device g (heard_frame x heard) (device_data x heard) x.contents (device_takes x.device heard).told wish put (device_takes x.device heard).device.turn refl
    go (gives_content command put) = content_begins limit (device_takes x.device heard).device g (heard_frame x heard) (device_data x heard) x.contents (device_takes x.device heard).told command put
