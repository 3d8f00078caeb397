-- A device's ledger and what it has in hand: a request in hand is the one that was told last, and an ACK that is prepared or being sent carries what the host gave as the answer to it.
use Prim.Native.Nat.{ℕ, ◌+◌, ◌-◌, ◌≤◌}
use native.Mathlib.Omega.{arith}
use mathlib.Core.Path.{◌≡◌, refl, sym, ap, subst, ◌∙◌}
use mathlib.Core.Bool.{Bool, true, false}
use mathlib.Core.List.{List}
use lib.ListN.{length}
use Rattle.base.specs.Refusal.{Called, accepted, refused}
use Rattle.base.specs.Choice.{when◌then◌else◌, ◌<?◌, ◌≤?◌, ◌=?◌}
use Rattle.base.specs.Store.{stored}
use Rattle.base.proofs.Choices.{true_false, if_is_false}
use Rattle.frame.specs.Delimiter.{stx, ack}
use Rattle.frame.specs.Frame.{frame_length}
use Rattle.frame.specs.Write.{write_buffer}
use Rattle.frame.specs.declared.Header.{Header}
use Rattle.frame.proofs.Taken.{Fits}
use Rattle.line.specs.Reader.{taken, inside_frame}
use Rattle.line.specs.declared.Event.{Event}
use Rattle.line.specs.declared.Event.TheVariants.{Nothing, PassedOver, Broken, Frame, Damaged}
use Rattle.line.specs.declared.FrameDamage.{FrameDamage}
use Rattle.line.specs.declared.Heard.{Heard}
use Rattle.line.specs.declared.Heard.TheVariants.{Silence, Character}
use Rattle.line.specs.declared.Receiver.{Receiver}
use Rattle.line.specs.declared.Whole.{Whole}
use Rattle.turns.specs.Party.{is_broadcast}
use Rattle.turns.specs.Device.{device_with, back_due, broken_due, waited, answer_header, wished, answers_at, on_silence, on_character, on_heard, device_takes, answered_by, answered, answer_frame, device_with_content, content_given, back_length, behind_ack, sends_by, device_sends, begun_frame, error_frame, may_answer, changed}
use Rattle.turns.specs.Link.{DeviceCall, no_call, gives_answer, gives_content, DeviceSide, DeviceStep, device_data, heard_frame, device_sent, answer_called, content_called, device_calls, device_tick}
use Rattle.runs.specs.Credit.{Ledger, told, given, told_by, called_by, ledger_after, answered_with}
use Rattle.turns.specs.declared.CallResult.{CallResult}
use Rattle.turns.specs.declared.Turn.{Turn}
use Rattle.turns.specs.declared.Turn.TheVariants.{Listens, Asked, AnswerWaits, Begins, Answers, Follows, Bursts}
use Rattle.turns.specs.declared.Wish.{Wish}
use Rattle.turns.specs.declared.Device.{Device}
use Rattle.turns.specs.declared.DeviceTaken.{DeviceTaken}
use Rattle.turns.specs.declared.DeviceTold.{DeviceTold}
use Rattle.turns.specs.declared.DeviceSent.{DeviceSent}
use Rattle.turns.proofs.Turns.{listens_asked, follows_asked, bursts_asked, accepted_asked, begins_asked, answers_asked}
use Rattle.runs.proofs.Fair.{answering}
use Rattle.turns.proofs.Devices as D
use Rattle.turns.proofs.Devices.{Sound, AnswerView, answer_view, ContentView, content_view, own_address, device_enough, ack_typed}
use Rattle.turns.proofs.DeviceTaking.{takes_nothing}
use Rattle.turns.proofs.Bursting.{if_both}
use Rattle.turns.specs.declared.Change.{Change}

-- the frame buffer holds the ACK with these data, to the request in hand
pub record Gives (g : Ledger) (d : Device) (frame : List ℕ) : Type 0 where
  pub put : List ℕ
  pub flag : Bool
  pub before : List ℕ
  pub owed : g ≡ given d.request put
  pub frame_is : frame ≡ write_buffer d.preamble (answer_header d.request flag) put before 0
  pub room : 284 ≤ length before
  pub fits : Fits d.preamble (answer_header d.request flag) (length put)
  pub length_is : d.length ≡ frame_length d.preamble (answer_header d.request flag) (length put)

pub record DeviceOwes (g : Ledger) (d : Device) (frame : List ℕ) : Type 0 where
  pub asked : (n : ℕ) → d.turn ≡ Asked n → g ≡ told d.request
  pub gives : answering d.turn ≡ true → Gives g d frame

-- with nothing in hand nothing is owed
pub none_owed : {g : Ledger} {d : Device} {frame : List ℕ} → ((n : ℕ) → d.turn ≡ Asked n → ⊥) → answering d.turn ≡ false → DeviceOwes g d frame
none_owed f e = record { asked = λ n q. absurd (f n q); gives = λ z. absurd (true_false (sym z ∙ e)) }

-- the same request and the same frame
module _ {g : Ledger} {d : Device} {frame : List ℕ} where
  pub same_gives : {e : Device} → e.request ≡ d.request → e.preamble ≡ d.preamble → e.length ≡ d.length → Gives g d frame → Gives g e frame
  same_gives {e} r p l k = record {
    put = k.put;
    flag = k.flag;
    before = k.before;
    owed = k.owed ∙ ap (λ (h : Header). given h k.put) (sym r);
    frame_is = k.frame_is ∙ (λ i. write_buffer (sym p i) (answer_header (sym r i) k.flag) k.put k.before 0);
    room = k.room;
    fits = subst (λ (h : Header). Fits e.preamble (answer_header h k.flag) (length k.put)) (sym r) (subst (λ (n : ℕ). Fits n (answer_header d.request k.flag) (length k.put)) (sym p) k.fits);
    length_is = l ∙ k.length_is ∙ (λ i. frame_length (sym p i) (answer_header (sym r i) k.flag) (length k.put));
  }

-- ---- what was heard

-- behind a character what was in hand before does not matter. An undamaged frame: the request that is told is the one in hand
frame_owes : (g : Ledger) (d : Device) (frame : List ℕ) (r : Receiver) (w : Whole) → DeviceOwes (told_by (on_character d r (Frame w)).told g) (on_character d r (Frame w)).device frame
frame_owes g d frame r w =
    let P : Change → Type 0 = λ c. DeviceOwes (told_by c.told g) (changed d r (Frame w) c).device frame in
    if_both P (w.header.kind =? stx) _ _
    (if_both P (w.expansion =? 0) _ _
    (if_both P (may_answer d w.header) _ _ (record { asked = λ n q. refl; gives = λ z. absurd (true_false (sym z)) })
    (if_both P (is_broadcast w.header) _ _ (none_owed (λ n q. listens_asked n q) refl) (none_owed (λ n q. listens_asked n q) refl)))
    (none_owed (λ n q. listens_asked n q) refl))
    (none_owed (λ n q. listens_asked n q) refl)

character_owes : (g : Ledger) (d : Device) (frame : List ℕ) (r : Receiver) (e : Event) → ((w : Whole) (m : FrameDamage) → e ≡ Damaged w m → ⊥) → DeviceOwes (told_by (on_character d r e).told g) (on_character d r e).device frame
character_owes g d frame r Nothing f = none_owed (λ n q. listens_asked n q) refl
character_owes g d frame r PassedOver f = none_owed (λ n q. listens_asked n q) refl
character_owes g d frame r Broken f = none_owed (λ n q. listens_asked n q) refl
character_owes g d frame r (Frame w) f = frame_owes g d frame r w
character_owes g d frame r (Damaged w m) f = absurd (f w m refl)

module _ (g : Ledger) (d : Device) (frame : List ℕ) (o : DeviceOwes g d frame) where
  -- a silent tick: the turn is counted
  counted : (turn : Turn) → d.turn ≡ turn → (r : Receiver) (due : ℕ) → DeviceOwes g (device_with d r (waited turn) d.request d.wish d.length due) frame
  unfolding when◌then◌else◌
  counted Listens e r due = none_owed (λ n q. listens_asked n q) refl
  counted (Asked k) e r due = go (k ≤? 1)
    where
      go : (t : Bool) → DeviceOwes g (device_with d r (when t then Listens else Asked (k - 1)) d.request d.wish d.length due) frame
      go true = none_owed (λ n q. listens_asked n q) refl
      go false = record { asked = λ n q. o.asked k e; gives = λ z. absurd (true_false (sym z)) }
  counted AnswerWaits e r due = record { asked = λ n q. absurd (begins_asked n q); gives = λ z. same_gives refl refl refl (o.gives (ap answering e)) }
  counted Begins e r due = record { asked = λ n q. absurd (begins_asked n q); gives = λ z. same_gives refl refl refl (o.gives (ap answering e)) }
  counted (Answers k) e r due = record { asked = λ n q. absurd (answers_asked k n q); gives = λ z. same_gives refl refl refl (o.gives (ap answering e)) }
  counted Follows e r due = none_owed (λ n q. follows_asked n q) refl
  counted (Bursts k) e r due = none_owed (λ n q. bursts_asked k n q) refl

  counts_owes : (r : Receiver) (due : ℕ) (event : Event) → DeviceOwes (told_by (Rattle.turns.specs.Device.counts d r due event).told g) (Rattle.turns.specs.Device.counts d r due event).device frame
  counts_owes r due event =
      if_both (λ (turn : Turn). DeviceOwes g (device_with d r turn d.request d.wish d.length (due - 1)) frame) (back_due d due) _ _ (none_owed (λ n q. follows_asked n q) refl) (counted d.turn refl r (due - 1))

  silence_owes : (r : Receiver) → DeviceOwes (told_by (on_silence d r).told g) (on_silence d r).device frame
  silence_owes r =
      let P : DeviceTaken → Type 0 = λ t. DeviceOwes (told_by t.told g) t.device frame in
      if_both P (inside_frame d.receiver.place) _ _
      (if_both P d.receiver.gap _ _ (counts_owes r (broken_due d) Broken) (record { asked = λ n q. o.asked n q; gives = λ z. same_gives refl refl refl (o.gives z) }))
      (counts_owes r d.due Nothing)

  heard_owes : (heard : Heard) → ((w : Whole) (m : FrameDamage) → (taken d.receiver heard).event ≡ Damaged w m → ⊥) → DeviceOwes (told_by (on_heard d heard).told g) (on_heard d heard).device frame
  heard_owes Silence f = silence_owes (taken d.receiver Silence).receiver
  heard_owes (Character c) f = character_owes g d frame _ (taken d.receiver (Character c)).event f
  heard_owes (Heard.Damaged c kind) f = character_owes g d frame _ (taken d.receiver (Heard.Damaged c kind)).event f

  pub takes_owes : (heard : Heard) → (d.deaf ≡ false → (w : Whole) (m : FrameDamage) → (taken d.receiver heard).event ≡ Damaged w m → ⊥) → DeviceOwes (told_by (device_takes d heard).told g) (device_takes d heard).device frame
  unfolding device_takes when◌then◌else◌
  takes_owes heard f = go d.deaf refl
    where
      by : Bool → DeviceTaken
      by b = when b then Rattle.turns.specs.Device.tells d DeviceTold.Nothing Nothing else on_heard d heard

      go : (b : Bool) → d.deaf ≡ b → DeviceOwes (told_by (by b).told g) (by b).device frame
      go true q = o
      go false q = heard_owes heard (f q)

-- whatever the ledger said before
pub hears_owes : (g : Ledger) (d : Device) (frame : List ℕ) (c : ℕ) → d.deaf ≡ false → ((w : Whole) (m : FrameDamage) → (taken d.receiver (Character c)).event ≡ Damaged w m → ⊥)
    → DeviceOwes (told_by (device_takes d (Character c)).told g) (device_takes d (Character c)).device frame
unfolding device_takes
hears_owes g d frame c hears f =
    subst (λ (t : DeviceTaken). DeviceOwes (told_by t.told g) t.device frame) (sym (if_is_false d.deaf _ _ hears)) (character_owes g d frame _ (taken d.receiver (Character c)).event f)

-- ---- sending

module _ (g : Ledger) (d : Device) (frame bytes contents : List ℕ) (o : DeviceOwes g d frame) where
  after_ack : (burst : Bool) → ((n : ℕ) → behind_ack burst ≡ Asked n → ⊥) × (answering (behind_ack burst) ≡ false)
  unfolding when◌then◌else◌
  after_ack true = (λ n q. follows_asked n q, refl)
  after_ack false = (λ n q. listens_asked n q, refl)

  by_turn : (turn : Turn) → d.turn ≡ turn → DeviceOwes g (sends_by d (begun_frame d turn contents frame) turn).device (begun_frame d turn contents frame)
  by_turn Listens e = none_owed (λ n q. listens_asked n q) refl
  by_turn (Asked k) e = record { asked = λ n q. o.asked k e; gives = λ z. absurd (true_false (sym z)) }
  by_turn AnswerWaits e = record { asked = λ n q. absurd (accepted_asked n q); gives = λ z. same_gives refl refl refl (o.gives (ap answering e)) }
  by_turn Begins e =
      if_both (λ (s : DeviceSent). DeviceOwes g s.device frame) (0 + 1 <? d.length) _ _
      (record { asked = λ n q. absurd (answers_asked 1 n q); gives = λ z. same_gives refl refl refl (o.gives (ap answering e)) })
      (none_owed (after_ack (wished d.burst d.wish)).0 (after_ack (wished d.burst d.wish)).1)
  by_turn (Answers k) e =
      if_both (λ (s : DeviceSent). DeviceOwes g s.device frame) (k + 1 <? d.length) _ _
      (record { asked = λ n q. absurd (answers_asked (k + 1) n q); gives = λ z. same_gives refl refl refl (o.gives (ap answering e)) })
      (none_owed (after_ack d.burst).0 (after_ack d.burst).1)
  by_turn Follows e =
      if_both (λ (s : DeviceSent). DeviceOwes g s.device (begun_frame d Follows contents frame)) (0 + 1 <? back_length d) _ _ (none_owed (λ n q. bursts_asked 1 n q) refl) (none_owed (λ n q. listens_asked n q) refl)
  by_turn (Bursts k) e = if_both (λ (s : DeviceSent). DeviceOwes g s.device frame) (k + 1 <? d.length) _ _ (none_owed (λ n q. bursts_asked (k + 1) n q) refl) (none_owed (λ n q. listens_asked n q) refl)

  sent_owes : (t : DeviceTold) (result : CallResult) → DeviceOwes g (device_sent d frame bytes contents t result).side.device (device_sent d frame bytes contents t result).side.frame
  unfolding device_sends
  sent_owes t result = by_turn d.turn refl

-- ---- the host's call

-- what the answer to a request in hand needs
pub record Answerable (d : Device) (frame contents : List ℕ) : Type 0 where
  pub sound : Sound d frame contents
  pub own : may_answer d d.request ≡ true

module _ (limit : ℕ) (high : limit ≤ 255) (g : Ledger) (d : Device) (frame bytes contents : List ℕ) (t : DeviceTold) (o : DeviceOwes g d frame) (able : (n : ℕ) → d.turn ≡ Asked n → Answerable d frame contents) where
  owes : DeviceCall → DeviceStep → Type 0
  owes call s = DeviceOwes (called_by call s.result g) s.side.device s.side.frame

  answer_owes : (wish : Wish) (put : List ℕ) (turn : Turn) → d.turn ≡ turn → owes (gives_answer wish put) (answer_called (answered_by limit d wish (length put) turn) d (answer_frame d wish put frame) frame bytes contents t)
  unfolding owes when◌then◌else◌
  answer_owes wish put Listens e = sent_owes g d frame bytes contents o t (CallResult.Refused 8)
  answer_owes wish put (Asked n) e = go (answer_view limit d wish (length put) n)
    where
      by : Called Device → Type 0
      by c = DeviceOwes (called_by (gives_answer wish put) (answer_called c d (answer_frame d wish put frame) frame bytes contents t).result g) (answer_called c d (answer_frame d wish put frame) frame bytes contents t).side.device (answer_called c d (answer_frame d wish put frame) frame bytes contents t).side.frame

      flag : Bool
      flag = wished d.burst wish

      ready : (turn : Turn) → ((k : ℕ) → turn ≡ Asked k → ⊥) → 2 ≤ length put → length put ≤ limit
          → DeviceOwes (answered_with put g) (device_with d d.receiver turn d.request wish (frame_length d.preamble (answer_header d.request (wished d.burst wish)) (length put)) d.due) (answer_frame d wish put frame)
      ready turn f least most =
          let a = able n e in
          record {
            asked = λ k q. absurd (f k q);
            gives = λ z. record {
              put = put;
              flag = wished d.burst wish;
              before = frame;
              owed = ap (answered_with put) (o.asked n e);
              frame_is = refl;
              room = a.sound.frame_room;
              fits = record {
                preamble_low = a.sound.preamble_low;
                preamble_high = a.sound.preamble_high;
                address_high = own_address d frame contents d.request a.sound a.own;
                count_high = omega arith;
                enough = device_enough ack (length put) least;
                typed = ack_typed;
              };
              length_is = refl;
            };
          }

      not_asked : (b : Bool) (k : ℕ) → (when b then AnswerWaits else Begins) ≡ Asked k → ⊥
      not_asked true k q = accepted_asked k q
      not_asked false k q = begins_asked k q

      go : AnswerView limit d wish (length put) n → by (answered_by limit d wish (length put) (Asked n))
      go (D.AnswerView.is_refused why q) = subst by (sym q) (sent_owes g d frame bytes contents o t (CallResult.Refused why))
      go (D.AnswerView.is_taken least most f q) =
          subst by (sym q) (sent_owes (answered_with put g) _ (answer_frame d wish put frame) bytes contents (ready (answers_at d n) (not_asked (n =? d.profile.sto)) least most) t CallResult.Taken)
  answer_owes wish put AnswerWaits e = sent_owes g d frame bytes contents o t (CallResult.Refused 8)
  answer_owes wish put Begins e = sent_owes g d frame bytes contents o t (CallResult.Refused 8)
  answer_owes wish put (Answers n) e = sent_owes g d frame bytes contents o t (CallResult.Refused 8)
  answer_owes wish put Follows e = sent_owes g d frame bytes contents o t (CallResult.Refused 8)
  answer_owes wish put (Bursts n) e = sent_owes g d frame bytes contents o t (CallResult.Refused 8)

  content_owes : (command : ℕ) (put : List ℕ) → owes (gives_content command put) (content_called (content_given limit d command (length put)) d put frame bytes contents t)
  unfolding owes
  content_owes command put = go (content_view limit d command (length put))
    where
      by : Called Device → Type 0
      by c = DeviceOwes g (content_called c d put frame bytes contents t).side.device (content_called c d put frame bytes contents t).side.frame

      go : ContentView limit d command (length put) → by (content_given limit d command (length put))
      go (D.ContentView.is_refused why q) = subst by (sym q) (sent_owes g d frame bytes contents o t (CallResult.Refused why))
      go (D.ContentView.is_taken least most q) =
          subst by (sym q) (sent_owes g (device_with_content d (record { given = true; command = command; count = length put })) frame bytes (stored contents 0 put) (record { asked = o.asked; gives = λ z. same_gives refl refl refl (o.gives z) }) t CallResult.Taken)

-- ---- the tick

-- from what it is behind what it heard
pub device_owes : (limit : ℕ) → limit ≤ 255 → (g : Ledger) (x : DeviceSide) (heard : Heard) (call : DeviceCall) → heard_frame x heard ≡ x.frame
    → ((n : ℕ) → (device_takes x.device heard).device.turn ≡ Asked n → Answerable (device_takes x.device heard).device x.frame x.contents)
    → DeviceOwes (told_by (device_takes x.device heard).told g) (device_takes x.device heard).device x.frame
    → DeviceOwes (ledger_after call (device_tick limit x heard call) g) (device_tick limit x heard call).side.device (device_tick limit x heard call).side.frame
unfolding owes answered device_tick
device_owes limit high g x heard call plain able heard-now = subst (by call) (sym plain) (go call)
  where
    t : DeviceTaken
    t = device_takes x.device heard

    step : DeviceCall → List ℕ → DeviceStep
    step c frame = device_calls limit (device_takes x.device heard) c frame (device_data x heard) x.contents

    by : DeviceCall → List ℕ → Type 0
    by c frame = DeviceOwes (ledger_after c (step c frame) g) (step c frame).side.device (step c frame).side.frame

    -- the call does not change what was told
    answer_told : (c : Called Device) (put : List ℕ) → (answer_called c t.device put x.frame (device_data x heard) x.contents t.told).told ≡ t.told
    answer_told (accepted d) put = refl
    answer_told (refused why) put = refl

    content_told : (c : Called Device) (put : List ℕ) → (content_called c t.device put x.frame (device_data x heard) x.contents t.told).told ≡ t.told
    content_told (accepted d) put = refl
    content_told (refused why) put = refl

    told_same : (c : DeviceCall) → (step c x.frame).told ≡ t.told
    told_same no_call = refl
    told_same (gives_answer wish put) = answer_told (answered_by limit t.device wish (length put) t.device.turn) (answer_frame t.device wish put x.frame)
    told_same (gives_content command put) = content_told (content_given limit t.device command (length put)) put

    called : (c : DeviceCall) → DeviceOwes (called_by c (step c x.frame).result (told_by t.told g)) (step c x.frame).side.device (step c x.frame).side.frame
    called no_call = sent_owes (told_by t.told g) t.device x.frame (device_data x heard) x.contents heard-now t.told CallResult.Nothing
    called (gives_answer wish put) = answer_owes limit high (told_by t.told g) t.device x.frame (device_data x heard) x.contents t.told heard-now able wish put t.device.turn refl
    called (gives_content command put) = content_owes limit high (told_by t.told g) t.device x.frame (device_data x heard) x.contents t.told heard-now able command put

    go : (c : DeviceCall) → by c x.frame
    go c = subst (λ (z : DeviceTold). DeviceOwes (called_by c (step c x.frame).result (told_by z g)) (step c x.frame).side.device (step c x.frame).side.frame) (sym (told_same c)) (called c)

-- a device that hears nothing and has no request in hand: its ledger stays, whatever its host gives
pub ledger_same : (limit : ℕ) (g : Ledger) (x : DeviceSide) (heard : Heard) (call : DeviceCall) → x.device.deaf ≡ true → ((n : ℕ) → x.device.turn ≡ Asked n → ⊥) → ledger_after call (device_tick limit x heard call) g ≡ g
unfolding device_tick answered
ledger_same limit g x heard call deaf free =
    subst (λ (t : DeviceTaken). ledger_after call (device_calls limit t call (error_frame x.device t.event x.frame) (device_data x heard) x.contents) g ≡ g) (sym (takes_nothing x.device heard deaf)) (by call)
  where
    d : Device
    d = x.device

    step : DeviceCall → DeviceStep
    step c = device_calls limit (Rattle.turns.specs.Device.tells x.device DeviceTold.Nothing Nothing) c x.frame (device_data x heard) x.contents

    refuses : (wish : Wish) (put : List ℕ) (turn : Turn) → ((n : ℕ) → turn ≡ Asked n → ⊥) → answered_by limit x.device wish (length put) turn ≡ refused 8
    refuses wish put Listens f = refl
    refuses wish put (Asked n) f = absurd (f n refl)
    refuses wish put AnswerWaits f = refl
    refuses wish put Begins f = refl
    refuses wish put (Answers n) f = refl
    refuses wish put Follows f = refl
    refuses wish put (Bursts n) f = refl

    content_told : (c : Called Device) (put : List ℕ) → told_by (content_called c x.device put x.frame (device_data x heard) x.contents DeviceTold.Nothing).told g ≡ g
    content_told (accepted e) put = refl
    content_told (refused why) put = refl

    by : (c : DeviceCall) → ledger_after c (step c) g ≡ g
    by no_call = refl
    by (gives_answer wish put) =
        ap (λ (c : Called Device). ledger_after (gives_answer wish put) (answer_called c x.device (answer_frame x.device wish put x.frame) x.frame (device_data x heard) x.contents DeviceTold.Nothing) g) (refuses wish put x.device.turn free)
    by (gives_content command put) = content_told (content_given limit x.device command (length put)) put
