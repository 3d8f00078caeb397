-- Theorems on what document 02, item 6, says of a device, whatever it hears and its host calls: every device's host is told a command 11 by broadcast, and its answer is taken up to tick T+STO; the ACK then goes out with the request's address bytes and the device's burst flag; and in the answer to a command 11 to its own address a wish is taken.
use Prim.Native.Nat.{ℕ, zero, suc, ◌+◌, ◌-◌, ◌≤◌, ◌<◌}
use native.Mathlib.Omega.{arith}
use native.Mathlib.Numerals.{add-one}
use mathlib.Core.Path.{◌≡◌, refl, sym, ap, subst, ◌∙◌}
use mathlib.Core.Bool.{Bool, true, false}
use mathlib.Core.List.{List, [], ◌∷◌}
use lib.ListN.{length, get_or, drop, drop_of_length-le, replicate}
use lib.Seq.{drop-cons}
use borrow.Author.Tests.{ltb-true, ltb-false, leb-true, leb-false, ne_eqb, eq-eqb, eqb-true}
use Rattle.base.specs.Refusal.{Called, accepted, refused}
use Rattle.base.specs.Choice.{when◌then◌else◌, ◌<?◌, ◌≤?◌, ◌=?◌}
use Rattle.base.specs.Store.{stored}
use Rattle.base.proofs.Choices.{true_false, if_is_true, if_is_false}
use Rattle.frame.specs.Address.{byte_at, largest_address}
use Rattle.frame.specs.Delimiter.{stx, ack}
use Rattle.frame.specs.Frame.{frame_bytes, frame_length}
use Rattle.frame.specs.declared.Header.{Header}
use Rattle.frame.proofs.Taken.{Fits}
use Rattle.line.specs.Gaps.{IsCharacter, is_sound, is_with_damage}
use Rattle.line.specs.Profile.{profile_made}
use Rattle.line.specs.Reader.{idle, no_header, inside_frame, taken}
use Rattle.line.specs.declared.Event.{Event}
use Rattle.line.specs.declared.Event.TheVariants.{Nothing, PassedOver, Broken, Frame, Damaged}
use Rattle.line.specs.declared.Heard.{Heard}
use Rattle.line.specs.declared.Heard.TheVariants.{Silence, Character}
use Rattle.line.specs.declared.Profile.{Profile}
use Rattle.line.specs.declared.Receiver.{Receiver}
use Rattle.line.specs.declared.Whole.{Whole}
use Rattle.line.proofs.Gaps.{silent_ticks}
use Rattle.line.proofs.Hearing.{whole_message}
use Rattle.turns.specs.Party.{is_broadcast}
use Rattle.turns.specs.Device.{device_with, may_answer, has_no_wish, has_error, answer_header, wished, wish_refused, answers_at, answered_by, answered, answer_frame, device_with_content, content_given, error_frame, due_after, ended_by, after_frame, changed, on_character, on_silence, on_heard, device_takes, waited, back_due, broken_due, counts, behind_ack, back_length, answers_from, sends_by, device_sends, begun_frame}
use Rattle.turns.specs.Device as D
use Rattle.turns.specs.Link.{DeviceCall, no_call, gives_answer, gives_content, DeviceSide, DeviceStep, device_sent, answer_called, content_called, device_tick, device_data, heard_frame}
use Rattle.turns.specs.Ledgers.{Ledger, blank, told, given, told_by, called_by, ledger_after}
use Rattle.turns.specs.Run.{DeviceStarts}
use Rattle.turns.specs.Bursts.{DeviceInput}
use Rattle.turns.specs.Gaps.{device_sents}
use Rattle.turns.specs.Tags.{command11, HearsWhole, TagTold, device_after, nothing_tick, answer_in, TagTime, StartsWith, all_sent, no_tick, next_sent, GoesOut, device_ledger, TagAnswered, OwnWish}
use Rattle.turns.specs.declared.CallResult.{CallResult}
use Rattle.turns.specs.declared.Sent.{Sent}
use Rattle.turns.specs.declared.Sent.TheVariants.{Silent}
use Rattle.turns.specs.declared.Wish.{Wish}
use Rattle.turns.specs.declared.Wish.TheVariants.{Same, On, Off}
use Rattle.turns.specs.declared.Turn.{Turn}
use Rattle.turns.specs.declared.Turn.TheVariants.{Listens, Asked, AnswerWaits, Begins, Answers, Follows, Bursts}
use Rattle.turns.specs.declared.Content.{Content}
use Rattle.turns.specs.declared.Change.{Change}
use Rattle.turns.specs.declared.Device.{Device}
use Rattle.turns.specs.declared.DeviceTold.{DeviceTold}
use Rattle.turns.specs.declared.DeviceTaken.{DeviceTaken}
use Rattle.turns.specs.declared.DeviceSent.{DeviceSent}
use Rattle.turns.proofs.Bursting.{if_both, takes_kept}
use Rattle.turns.proofs.Masters.{Holds, holds_written, if_cases}
use Rattle.turns.proofs.Writing.{length_written}
use Rattle.turns.proofs.Turns.{listens_asked, follows_asked, bursts_asked, accepted_asked, begins_asked, answers_asked, asked_same}
use Rattle.turns.proofs.Silent.{ready_outside, device_outside, device_passed, device_second}
use Rattle.turns.proofs.Counts.{count_taken}
use Rattle.turns.proofs.Devices as C
use Rattle.turns.proofs.Devices.{AnswerView, answer_view, ContentView, content_view, device_enough, ack_typed}
use Rattle.turns.proofs.DeviceTaking.{takes_nothing}
use Rattle.turns.proofs.Fresh.{valid, device_is}
use Rattle.turns.proofs.TagSentences.{tag_told, tag_ack, tag_no_wish, own_wishes}

-- ---- reports are told apart

request_nothing : {w : Whole} → DeviceTold.Request w ≡ DeviceTold.Nothing → ⊥
request_nothing e = let z : ◌≡◌ {A = ℕ} 0 1 = cc in omega arith

frame_nothing : {w : Whole} → Frame w ≡ Nothing → ⊥
frame_nothing e = let z : ◌≡◌ {A = ℕ} 0 1 = cc in omega arith

refused_taken : {why : ℕ} → CallResult.Refused why ≡ CallResult.Taken → ⊥
refused_taken e = let z : ◌≡◌ {A = ℕ} 0 1 = cc in omega arith

-- ---- a device's tick, by its host's call

-- an answer that is taken, to a request that is in hand for n more ticks
record Taking (limit : ℕ) (d : Device) (wish : Wish) (put : List ℕ) (n : ℕ) : Type 0 where
  in_hand : d.turn ≡ Asked n
  low : 2 ≤ length put
  high : length put ≤ limit
  wish_taken : wish_refused d wish ≡ false

abbrev answering : Device → ℕ → Wish → ℕ → Device
answering d n wish count = device_with d d.receiver (answers_at d n) d.request wish (frame_length d.preamble (answer_header d.request (wished d.burst wish)) count) d.due

module _ (limit : ℕ) (x : DeviceSide) (heard : Heard) where
  abbrev t : DeviceTaken
  t = device_takes x.device heard

  abbrev answer_step : Wish → List ℕ → ℕ → DeviceStep
  answer_step wish put n = device_sent (answering t.device n wish (length put)) (answer_frame t.device wish put (heard_frame x heard)) (device_data x heard) x.contents t.told CallResult.Taken

  answer_cases : (wish : Wish) (put : List ℕ) (P : DeviceStep → Type 0)
      → ((why : ℕ) → P (device_sent t.device (heard_frame x heard) (device_data x heard) x.contents t.told (CallResult.Refused why)))
      → ((n : ℕ) → Taking limit t.device wish put n → P (answer_step wish put n)) → P (device_tick limit x heard (gives_answer wish put))
  unfolding device_tick answered
  answer_cases wish put P refuses takes = go t.device.turn refl
    where
      by : Called Device → Type 0
      by c = P (answer_called c t.device (answer_frame t.device wish put (heard_frame x heard)) (heard_frame x heard) (device_data x heard) x.contents t.told)

      view : (n : ℕ) → t.device.turn ≡ Asked n → AnswerView limit t.device wish (length put) n → by (answered_by limit t.device wish (length put) (Asked n))
      view n e (C.AnswerView.is_refused why q) = subst by (sym q) (refuses why)
      view n e (C.AnswerView.is_taken low high free q) = subst by (sym q) (takes n (record { in_hand = e; low = low; high = high; wish_taken = free }))

      go : (turn : Turn) → t.device.turn ≡ turn → by (answered_by limit t.device wish (length put) turn)
      go Listens e = refuses 8
      go (Asked n) e = view n e (answer_view limit t.device wish (length put) n)
      go AnswerWaits e = refuses 8
      go Begins e = refuses 8
      go (Answers n) e = refuses 8
      go Follows e = refuses 8
      go (Bursts n) e = refuses 8

  -- an answer is taken, or the call changes at most the content and leaves the ledger
  tick_cases : (P : DeviceCall → DeviceStep → Type 0)
      → ((call : DeviceCall) (c : Content) (contents : List ℕ) (result : CallResult) → ((g : Ledger) → called_by call result g ≡ g)
      → P call (device_sent (device_with_content t.device c) (heard_frame x heard) (device_data x heard) contents t.told result))
      → ((wish : Wish) (put : List ℕ) (n : ℕ) → Taking limit t.device wish put n → P (gives_answer wish put) (answer_step wish put n)) → (call : DeviceCall) → P call (device_tick limit x heard call)
  unfolding device_tick
  tick_cases P same takes no_call = same no_call t.device.content x.contents CallResult.Nothing (λ g. refl)
  tick_cases P same takes (gives_answer wish put) =
      answer_cases wish put (P (gives_answer wish put)) (λ why. same (gives_answer wish put) t.device.content x.contents (CallResult.Refused why) (λ g. refl)) (takes wish put)
  tick_cases P same takes (gives_content command put) = view (content_view limit t.device command (length put))
    where
      by : Called Device → Type 0
      by c = P (gives_content command put) (content_called c t.device put (heard_frame x heard) (device_data x heard) x.contents t.told)

      view : ContentView limit t.device command (length put) → by (content_given limit t.device command (length put))
      view (C.ContentView.is_refused why q) = subst by (sym q) (same (gives_content command put) t.device.content x.contents (CallResult.Refused why) (λ g. refl))
      view (C.ContentView.is_taken low high q) =
          subst by (sym q) (same (gives_content command put) (record { given = true; command = command; count = length put }) (stored x.contents 0 put) CallResult.Taken (λ g. refl))

  -- one that can be taken is
  taking_is : (wish : Wish) (put : List ℕ) (n : ℕ) → Taking limit t.device wish put n → device_tick limit x heard (gives_answer wish put) ≡ answer_step wish put n
  unfolding device_tick answered
  taking_is wish put n k =
      ap (λ (c : Called Device). answer_called c t.device (answer_frame t.device wish put (heard_frame x heard)) (heard_frame x heard) (device_data x heard) x.contents t.told)
      (ap (answered_by limit t.device wish (length put)) k.in_hand ∙ if_is_false _ _ _ (count_taken limit (length put) k.low k.high) ∙ if_is_false (wish_refused t.device wish) _ _ k.wish_taken)

  -- what is told is what was heard
  tells_told : (call : DeviceCall) → (device_tick limit x heard call).told ≡ t.told
  tells_told = tick_cases (λ (c : DeviceCall) (s : DeviceStep). s.told ≡ t.told) (λ c content contents result leaves. refl) (λ wish put n k. refl)

  record Took (wish : Wish) (put : List ℕ) : Type 0 where
    n : ℕ
    taking : Taking limit t.device wish put n

  was_taken : (wish : Wish) (put : List ℕ) → (device_tick limit x heard (gives_answer wish put)).result ≡ CallResult.Taken → Took wish put
  was_taken wish put = answer_cases wish put (λ (s : DeviceStep). s.result ≡ CallResult.Taken → Took wish put) (λ why e. absurd (refused_taken e)) (λ n k e. record { n = n; taking = k })

-- ---- what no tick changes: the profile, the addresses and the preamble, and the room of the frame buffer

record Fixed : Type 0 where
  profile : Profile
  preamble : ℕ
  unique : ℕ

abbrev fixed : Device → Fixed
fixed d = record { profile = d.profile; preamble = d.preamble; unique = d.unique }

takes_fixed : (d : Device) (heard : Heard) → fixed (device_takes d heard).device ≡ fixed d
takes_fixed = takes_kept fixed (λ d r turn request wish length due. refl)

sends_fixed : (d : Device) (frame : List ℕ) (turn : Turn) → fixed (sends_by d frame turn).device ≡ fixed d
sends_fixed d frame Listens = refl
sends_fixed d frame (Asked n) = refl
sends_fixed d frame AnswerWaits = refl
sends_fixed d frame Begins = if_both (λ (s : DeviceSent). fixed s.device ≡ fixed d) (0 + 1 <? d.length) _ _ refl refl
sends_fixed d frame (Answers n) = if_both (λ (s : DeviceSent). fixed s.device ≡ fixed d) (n + 1 <? d.length) _ _ refl refl
sends_fixed d frame Follows = if_both (λ (s : DeviceSent). fixed s.device ≡ fixed d) (0 + 1 <? back_length d) _ _ refl refl
sends_fixed d frame (Bursts n) = if_both (λ (s : DeviceSent). fixed s.device ≡ fixed d) (n + 1 <? d.length) _ _ refl refl

error_room : (d : Device) (event : Event) (frame : List ℕ) → length (error_frame d event frame) ≡ length frame
error_room d Nothing frame = refl
error_room d PassedOver frame = refl
error_room d Broken frame = refl
error_room d (Frame w) frame = refl
error_room d (Damaged w m) frame = if_both (λ (l : List ℕ). length l ≡ length frame) (has_error d w m) _ _ (length_written _ _ _ frame) refl

begun_room : (d : Device) (turn : Turn) (contents frame : List ℕ) → length (begun_frame d turn contents frame) ≡ length frame
begun_room d Listens contents frame = refl
begun_room d (Asked n) contents frame = refl
begun_room d AnswerWaits contents frame = refl
begun_room d Begins contents frame = refl
begun_room d (Answers n) contents frame = refl
begun_room d Follows contents frame = length_written _ _ _ frame
begun_room d (Bursts n) contents frame = refl

record Alike (x y : DeviceSide) : Type 0 where
  same_fixed : fixed y.device ≡ fixed x.device
  same_room : length y.frame ≡ length x.frame

sent_same : (x : DeviceSide) (d : Device) (frame bytes contents : List ℕ) → fixed d ≡ fixed x.device → length frame ≡ length x.frame
    → Alike x (device_sent d frame bytes contents DeviceTold.Nothing CallResult.Nothing).side
unfolding device_sends
sent_same x d frame bytes contents f r =
    record { same_fixed = sends_fixed d (begun_frame d d.turn contents frame) d.turn ∙ f; same_room = begun_room d d.turn contents frame ∙ r }

tick_same : (limit : ℕ) (x : DeviceSide) (heard : Heard) (call : DeviceCall) → Alike x (device_tick limit x heard call).side
tick_same limit x heard call =
    let room = error_room x.device (device_takes x.device heard).event x.frame in
    tick_cases limit x heard (λ (c : DeviceCall) (s : DeviceStep). Alike x s.side)
    (λ c content contents result leaves. sent_same x _ _ _ contents (takes_fixed x.device heard) room)
    (λ wish put n k. sent_same x _ _ _ x.contents (takes_fixed x.device heard) (length_written _ _ put _ ∙ room))
    call

-- ---- a request in hand is the one that the host was told last

-- between ticks
record Held (g : Ledger) (d : Device) (n : ℕ) : Type 0 where
  told_last : g ≡ told d.request
  hears : d.deaf ≡ false
  outside : inside_frame d.receiver.place ≡ false
  in_time : n ≤ d.profile.sto

-- after what was heard: it was told in an earlier tick, or in this one
record Now (g : Ledger) (t : DeviceTaken) (n : ℕ) : Type 0 where
  told_last : g ≡ told t.device.request
  outside : inside_frame t.device.receiver.place ≡ false
  in_time : n ≤ t.device.profile.sto
  earlier : t.told ≡ DeviceTold.Nothing → n < t.device.profile.sto
  first : (w : Whole) → t.told ≡ DeviceTold.Request w → (n ≡ t.device.profile.sto) × (t.device.due ≡ t.device.profile.rt1p)

waited_asked : (turn : Turn) (n : ℕ) → waited turn ≡ Asked n → turn ≡ Asked (suc n)
waited_asked Listens n e = absurd (listens_asked n e)
waited_asked (Asked k) n e =
    if_cases (λ (u : Turn). u ≡ Asked n → Asked k ≡ Asked (suc n)) (k ≤? 1) _ _ (λ s z. absurd (listens_asked n z)) (λ s z. ap Asked (omega (arith, asked_same z, leb-false k 1 s))) e
waited_asked AnswerWaits n e = absurd (begins_asked n e)
waited_asked Begins n e = absurd (begins_asked n e)
waited_asked (Answers k) n e = absurd (answers_asked k n e)
waited_asked Follows n e = absurd (follows_asked n e)
waited_asked (Bursts k) n e = absurd (bursts_asked k n e)

counted_asked : (d : Device) (r : Receiver) (due : ℕ) (event : Event) (n : ℕ) → (counts d r due event).device.turn ≡ Asked n → d.turn ≡ Asked (suc n)
counted_asked d r due event n q = if_both (λ (u : Turn). u ≡ Asked n → d.turn ≡ Asked (suc n)) (back_due d due) _ _ (λ z. absurd (follows_asked n z)) (λ z. waited_asked d.turn n z) q

-- a reader that tells a whole frame is outside one
framed : (r : Receiver) (last : Heard) → IsCharacter last → (w : Whole) → (taken r last).event ≡ Frame w → inside_frame (taken r last).receiver.place ≡ false
framed r last c w e = ready_outside (taken r last).receiver ((silent_ticks r last c).outside (λ z. frame_nothing (sym e ∙ z)))

stx_due : (p : Profile) (w : Whole) → w.header.kind ≡ stx → due_after p (ended_by (Frame w)) ≡ p.rt1p
stx_due p w e = ap (due_after p) (if_is_false (w.header.kind =? ack) _ _ (ap (λ (n : ℕ). n =? ack) e))

module _ (g : Ledger) (d : Device) (held : (n : ℕ) → d.turn ≡ Asked n → Held g d n) where
  abbrev After : DeviceTaken → Type 0
  After t = (n : ℕ) → t.device.turn ≡ Asked n → Now (told_by t.told g) t n

  on_event : (r : Receiver) (event : Event) → ((w : Whole) → event ≡ Frame w → inside_frame r.place ≡ false) → After (on_character d r event)
  on_event r Nothing out = λ n q. absurd (listens_asked n q)
  on_event r PassedOver out = λ n q. absurd (listens_asked n q)
  on_event r Broken out = λ n q. absurd (listens_asked n q)
  on_event r (Frame w) out =
      let Q : Change → Type 0 = λ c. After (changed d r (Frame w) c) in
      if_cases Q (w.header.kind =? stx) _ _
      (λ e. if_both Q (w.expansion =? 0) _ _
      (if_both Q (may_answer d w.header) _ _
      (λ n q. record {
        told_last = refl;
        outside = out w refl;
        in_time = omega (arith, asked_same q);
        earlier = λ z. absurd (request_nothing z);
        first = λ v z. (sym (asked_same q), stx_due d.profile w (eqb-true w.header.kind stx e));
      })
      (if_both Q (is_broadcast w.header) _ _ (λ n q. absurd (listens_asked n q)) (λ n q. absurd (listens_asked n q))))
      (λ n q. absurd (listens_asked n q)))
      (λ e n q. absurd (listens_asked n q))
  on_event r (Damaged w m) out =
      if_both (λ (c : Change). After (changed d r (Damaged w m) c)) (has_error d w m) _ _ (λ n q. absurd (accepted_asked n q)) (λ n q. absurd (listens_asked n q))

  on_silence_lem : After (on_silence d (taken d.receiver Silence).receiver)
  on_silence_lem = go (inside_frame d.receiver.place) refl d.receiver.gap refl
    where
      go : (inside : Bool) → inside_frame d.receiver.place ≡ inside → (gap : Bool) → d.receiver.gap ≡ gap → After (on_silence d (taken d.receiver Silence).receiver)
      go false o gap z =
          subst After (sym (device_outside d o))
          (λ n q. let h = held (suc n) (counted_asked d idle d.due Nothing n q) in
          record {
            told_last = h.told_last;
            outside = refl;
            in_time = omega (arith, h.in_time);
            earlier = λ e. omega (arith, h.in_time);
            first = λ w e. absurd (request_nothing (sym e));
          })
      go true i true z = subst After (sym (device_second d i z)) (λ n q. absurd (true_false (sym i ∙ (held (suc n) (counted_asked d idle (broken_due d) Broken n q)).outside)))
      go true i false z = subst After (sym (device_passed d i z)) (λ n q. absurd (true_false (sym i ∙ (held n q).outside)))

  takes_now : (heard : Heard) → After (device_takes d heard)
  unfolding device_takes
  takes_now heard = if_cases After d.deaf _ _ (λ deaf n q. absurd (true_false (sym deaf ∙ (held n q).hears))) (λ hears. on heard)
    where
      on : (h : Heard) → After (on_heard d h)
      on Silence = on_silence_lem
      on (Character c) = on_event _ _ (framed d.receiver (Character c) is_sound)
      on (Heard.Damaged c kind) = on_event _ _ (framed d.receiver (Heard.Damaged c kind) is_with_damage)

behind_asked : (burst : Bool) (n : ℕ) → behind_ack burst ≡ Asked n → ⊥
behind_asked burst n = if_both (λ (u : Turn). u ≡ Asked n → ⊥) burst _ _ (follows_asked n) (listens_asked n)

sends_asked : (d : Device) (frame : List ℕ) (turn : Turn) (n : ℕ) → (sends_by d frame turn).device.turn ≡ Asked n → turn ≡ Asked n
sends_asked d frame Listens n q = absurd (listens_asked n q)
sends_asked d frame (Asked k) n q = q
sends_asked d frame AnswerWaits n q = absurd (accepted_asked n q)
sends_asked d frame Begins n q = absurd (if_both (λ (s : DeviceSent). s.device.turn ≡ Asked n → ⊥) (0 + 1 <? d.length) _ _ (answers_asked 1 n) (behind_asked (wished d.burst d.wish) n) q)
sends_asked d frame (Answers k) n q = absurd (if_both (λ (s : DeviceSent). s.device.turn ≡ Asked n → ⊥) (k + 1 <? d.length) _ _ (answers_asked (k + 1) n) (behind_asked d.burst n) q)
sends_asked d frame Follows n q = absurd (if_both (λ (s : DeviceSent). s.device.turn ≡ Asked n → ⊥) (0 + 1 <? back_length d) _ _ (bursts_asked 1 n) (listens_asked n) q)
sends_asked d frame (Bursts k) n q = absurd (if_both (λ (s : DeviceSent). s.device.turn ≡ Asked n → ⊥) (k + 1 <? d.length) _ _ (bursts_asked (k + 1) n) (listens_asked n) q)

sent_held : (g : Ledger) (d : Device) (frame contents : List ℕ)
    → ((n : ℕ) → d.turn ≡ Asked n → (g ≡ told d.request) × (inside_frame d.receiver.place ≡ false) × (n ≤ d.profile.sto))
    → (n : ℕ) → (device_sends d (begun_frame d d.turn contents frame)).device.turn ≡ Asked n → Held g (device_sends d (begun_frame d d.turn contents frame)).device n
unfolding device_sends
sent_held g d frame contents f n q =
    let a = sends_asked d (begun_frame d d.turn contents frame) d.turn n q in
    let h = f n a in
    subst (λ (u : Turn). Held g (sends_by d (begun_frame d d.turn contents frame) u).device n) (sym a) (record { told_last = h.0; hears = refl; outside = h.1; in_time = h.2 })

not_asked : (d : Device) (n k : ℕ) → answers_at d n ≡ Asked k → ⊥
not_asked d n k = if_both (λ (u : Turn). u ≡ Asked k → ⊥) (n =? d.profile.sto) _ _ (accepted_asked k) (begins_asked k)

-- in any tick of a device that started
record Reached (start : DeviceSide) (g : Ledger) (x : DeviceSide) : Type 0 where
  same : Alike start x
  held : (n : ℕ) → x.device.turn ≡ Asked n → Held g x.device n

tick_reached : (limit : ℕ) (start : DeviceSide) (g : Ledger) (x : DeviceSide) (heard : Heard) (call : DeviceCall) → Reached start g x
    → Reached start (ledger_after call (device_tick limit x heard call) g) (device_tick limit x heard call).side
tick_reached limit start g x heard call r =
    let s = tick_same limit x heard call in
    record {
      same = record { same_fixed = s.same_fixed ∙ r.same.same_fixed; same_room = s.same_room ∙ r.same.same_room };
      held = tick_cases limit x heard (λ (c : DeviceCall) (step : DeviceStep). (n : ℕ) → step.side.device.turn ≡ Asked n → Held (ledger_after c step g) step.side.device n)
          (λ c content contents result leaves.
          sent_held _ _ _ contents (λ n q. let h = now n q in (leaves (told_by t.told g) ∙ h.told_last, h.outside, h.in_time)))
          (λ wish put n k. sent_held _ _ _ x.contents (λ m q. absurd (not_asked t.device n m q)))
          call;
    }
  where
    t : DeviceTaken
    t = device_takes x.device heard

    now : (n : ℕ) → t.device.turn ≡ Asked n → Now (told_by t.told g) t n
    now = takes_now g x.device r.held heard

reaches : (limit : ℕ) (start : DeviceSide) (g : Ledger) (x : DeviceSide) (inputs : List DeviceInput) → Reached start g x → Reached start (device_ledger limit g x inputs) (device_after limit x inputs)
unfolding device_ledger device_after
reaches limit start g x [] r = r
reaches limit start g x (i ∷ is) r =
    reaches limit start (ledger_after i.call (device_tick limit x i.heard i.call) g) (device_tick limit x i.heard i.call).side is (tick_reached limit start g x i.heard i.call r)

-- ---- an ACK goes out, character by character

-- the next is character k of w, which stands in the frame buffer
record Speaks (x : DeviceSide) (k : ℕ) (w : List ℕ) : Type 0 where
  turn_is : x.device.turn ≡ Answers k
  deaf_is : x.device.deaf ≡ true
  sized : length w ≡ x.device.length
  stands : (i : ℕ) → i < length w → byte_at x.frame i ≡ get_or w i 0

record SendsOn (w : List ℕ) (k : ℕ) (step : DeviceStep) : Type 0 where
  character : step.sent ≡ Sent.Character (get_or w k 0)
  goes_on : suc k < length w → Speaks step.side (suc k) w

-- an answer at T+1 begins in the next tick, if it is silent
record WaitsFor (x : DeviceSide) (w : List ℕ) : Type 0 where
  turn_is : x.device.turn ≡ AnswerWaits
  hears : x.device.deaf ≡ false
  outside : inside_frame x.device.receiver.place ≡ false
  not_due : 2 ≤ x.device.due
  sized : length w ≡ x.device.length
  stands : (i : ℕ) → i < length w → byte_at x.frame i ≡ get_or w i 0

record Waited (w : List ℕ) (step : DeviceStep) : Type 0 where
  silent : step.sent ≡ Silent
  waits : WaitsFor step.side w

module _ (w : List ℕ) (d : Device) (frame bytes contents : List ℕ) (told-now : DeviceTold) (result : CallResult) (sized : length w ≡ d.length) (stands : (i : ℕ) → i < length w → byte_at frame i ≡ get_or w i 0) where
  abbrev sending : DeviceSent → DeviceStep
  sending s = record { side = record { device = s.device; frame = frame; bytes = bytes; contents = contents }; sent = s.sent; told = told-now; result = result }

  answers_on : (k : ℕ) (burst primary : Bool) → k < length w → SendsOn w k (sending (answers_from d frame k burst primary))
  answers_on k burst primary below =
      if_cases (λ (s : DeviceSent). SendsOn w k (sending s)) (k + 1 <? d.length) _ _
      (λ more. record { character = ap Sent.Character (stands k below); goes_on = λ z. record { turn_is = ap Answers (add-one k); deaf_is = refl; sized = sized; stands = stands } })
      (λ last. record { character = ap Sent.Character (stands k below); goes_on = λ z. absurd (omega (arith, sized, ltb-false (k + 1) d.length last)) })

  abbrev sent_by : Turn → DeviceStep
  sent_by turn = record {
    side = record { device = (sends_by d (begun_frame d turn contents frame) turn).device; frame = begun_frame d turn contents frame; bytes = bytes; contents = contents };
    sent = (sends_by d (begun_frame d turn contents frame) turn).sent;
    told = told-now;
    result = result;
  }

  begins_on : d.turn ≡ Begins → 0 < length w → SendsOn w 0 (device_sent d frame bytes contents told-now result)
  unfolding device_sends
  begins_on q some = subst (λ (u : Turn). SendsOn w 0 (sent_by u)) (sym q) (answers_on 0 _ _ some)

  next_on : (k : ℕ) → d.turn ≡ Answers k → k < length w → SendsOn w k (device_sent d frame bytes contents told-now result)
  unfolding device_sends
  next_on k q below = subst (λ (u : Turn). SendsOn w k (sent_by u)) (sym q) (answers_on k _ _ below)

  -- an answer at T+1 waits one silent tick
  waits_on : d.turn ≡ AnswerWaits → inside_frame d.receiver.place ≡ false → 2 ≤ d.due → Waited w (device_sent d frame bytes contents told-now result)
  unfolding device_sends
  waits_on q out later =
      subst (λ (u : Turn). Waited w (sent_by u)) (sym q)
      (record { silent = refl; waits = record { turn_is = refl; hears = refl; outside = out; not_due = later; sized = sized; stands = stands } })

speaks_tick : (limit : ℕ) (x : DeviceSide) (k : ℕ) (w : List ℕ) (heard : Heard) (call : DeviceCall) → Speaks x k w → k < length w → SendsOn w k (device_tick limit x heard call)
speaks_tick limit x k w heard call s below =
    tick_cases limit x heard (λ (c : DeviceCall) (step : DeviceStep). SendsOn w k step)
    (λ c content contents result leaves.
    subst (λ (t : DeviceTaken). SendsOn w k (device_sent (device_with_content t.device content) (error_frame x.device t.event x.frame) (device_data x heard) contents t.told result)) (sym nothing)
    (next_on w (device_with_content x.device content) x.frame (device_data x heard) contents DeviceTold.Nothing result s.sized s.stands k s.turn_is below))
    (λ wish put n taking. absurd (answers_asked k n (sym s.turn_is ∙ ap (λ (t : DeviceTaken). t.device.turn) (sym nothing) ∙ taking.in_hand)))
    call
  where
    nothing : device_takes x.device heard ≡ D.tells x.device DeviceTold.Nothing Nothing
    nothing = takes_nothing x.device heard s.deaf_is

-- the character that goes out, and those after it
front : (w : List ℕ) (k : ℕ) (sent : Sent) (ss : List Sent) → k < length w → sent ≡ Sent.Character (get_or w k 0) → StartsWith (drop (suc k) w) ss → StartsWith (drop k w) (sent ∷ ss)
front w k sent ss below e s =
    subst (λ (l : List ℕ). StartsWith l (sent ∷ ss)) (sym (drop-cons w k 0 below)) (subst (λ (z : Sent). StartsWith (get_or w k 0 ∷ drop (suc k) w) (z ∷ ss)) (sym e) (next_sent s))

if_more : (w : List ℕ) (k : ℕ) (ss : List Sent) → (k < length w → StartsWith (drop k w) ss) → StartsWith (drop k w) ss
if_more w k ss on = go (k <? length w) refl
  where
    go : (more : Bool) → (k <? length w) ≡ more → StartsWith (drop k w) ss
    go true e = on (ltb-true k (length w) e)
    go false e = subst (λ (l : List ℕ). StartsWith l ss) (sym (drop_of_length-le w {i = k} (ltb-false k (length w) e))) all_sent

sends_all : (limit : ℕ) (w : List ℕ) (after : List DeviceInput) (k : ℕ) (step : DeviceStep) → SendsOn w k step → k < length w → StartsWith (drop k w) (step.sent ∷ device_sents limit step.side after)
unfolding device_sents
sends_all limit w [] k step s below = front w k step.sent _ below s.character no_tick
sends_all limit w (i ∷ is) k step s below =
    front w k step.sent _ below s.character
    (if_more w (suc k) _
    (λ more. sends_all limit w is (suc k) (device_tick limit step.side i.heard i.call) (speaks_tick limit step.side (suc k) w i.heard i.call (s.goes_on more) more) more))

silence_is : (d : Device) → d.deaf ≡ false → inside_frame d.receiver.place ≡ false → device_takes d Silence ≡ counts d idle d.due Nothing
unfolding device_takes
silence_is d hears o = if_is_false d.deaf _ _ hears ∙ device_outside d o

none_due : (d : Device) → 2 ≤ d.due → back_due d d.due ≡ false
none_due d later = if_both (λ (b : Bool). b ≡ false) d.burst _ _ (ne_eqb d.due 1 (λ e. omega (arith, e))) refl

waits_tick : (limit : ℕ) (x : DeviceSide) (w : List ℕ) (call : DeviceCall) → WaitsFor x w → 0 < length w → SendsOn w 0 (device_tick limit x Silence call)
waits_tick limit x w call s some =
    tick_cases limit x Silence (λ (c : DeviceCall) (step : DeviceStep). SendsOn w 0 step)
    (λ c content contents result leaves.
    subst (λ (t : DeviceTaken). SendsOn w 0 (device_sent (device_with_content t.device content) (error_frame x.device t.event x.frame) (device_data x Silence) contents t.told result)) (sym now)
    (begins_on w (device_with_content (counts x.device idle x.device.due Nothing).device content) x.frame (device_data x Silence) contents DeviceTold.Nothing result s.sized s.stands begins some))
    (λ wish put n taking. absurd (begins_asked n (sym begins ∙ ap (λ (t : DeviceTaken). t.device.turn) (sym now) ∙ taking.in_hand)))
    call
  where
    now : device_takes x.device Silence ≡ counts x.device idle x.device.due Nothing
    now = silence_is x.device s.hears s.outside

    begins : (counts x.device idle x.device.due Nothing).device.turn ≡ Begins
    begins = if_is_false (back_due x.device x.device.due) _ _ (none_due x.device s.not_due) ∙ ap waited s.turn_is

-- ---- the ACK of an answer that is taken

record Out (limit : ℕ) (w : List ℕ) (after : List DeviceInput) (step : DeviceStep) : Type 0 where
  at_once : step.told ≡ DeviceTold.Nothing → StartsWith w (step.sent ∷ device_sents limit step.side after)
  in_next : (v : Whole) → step.told ≡ DeviceTold.Request v → Waited w step

module _ (limit : ℕ) (x : DeviceSide) (heard : Heard) (wish : Wish) (put : List ℕ) (after : List DeviceInput) (n : ℕ) where
  abbrev d : Device
  d = (device_takes x.device heard).device

  abbrev h : Header
  h = answer_header d.request (wished d.burst wish)

  abbrev w : List ℕ
  w = frame_bytes d.preamble h put

  ack_out : (g : Ledger) → Taking limit d wish put n → Now g (device_takes x.device heard) n → 2 ≤ d.profile.rt1p → Fits d.preamble h (length put) → 284 ≤ length (heard_frame x heard)
      → GoesOut limit x (record { heard = heard; call = gives_answer wish put }) w after
  unfolding device_sents
  ack_out g taking now some fits room =
      let o = subst (Out limit w after) (sym (taking_is limit x heard wish put n taking)) out in
      record {
        at_once = o.at_once;
        waits = λ v e. (o.in_next v e).silent;
        begins = λ v call e. sends_all limit w after 0 _ (waits_tick limit _ w call (o.in_next v e).waits long) long;
      }
    where
      frame : List ℕ
      frame = answer_frame d wish put (heard_frame x heard)

      there : Holds (answer_frame d wish put (heard_frame x heard)) (frame_length d.preamble h (length put)) w (whole_message h put)
      there = holds_written d.preamble h put (heard_frame x heard) fits room

      long : 0 < length w
      long = omega (arith, there.speaks.long)

      -- in the tick of the answer
      now_sent : n < d.profile.sto → SendsOn w 0 (answer_step limit x heard wish put n)
      now_sent early =
          begins_on w (answering d n wish (length put)) frame (device_data x heard) x.contents (device_takes x.device heard).told CallResult.Taken there.sized there.same
          (if_is_false (n =? d.profile.sto) AnswerWaits Begins (ne_eqb n d.profile.sto (λ e. omega (arith, e)))) long

      -- or in the next
      then_sent : (n ≡ d.profile.sto) × (d.due ≡ d.profile.rt1p) → Waited w (answer_step limit x heard wish put n)
      then_sent e =
          waits_on w (answering d n wish (length put)) frame (device_data x heard) x.contents (device_takes x.device heard).told CallResult.Taken there.sized there.same
          (if_is_true (n =? d.profile.sto) AnswerWaits Begins (eq-eqb n d.profile.sto e.0)) now.outside (omega (arith, some, e.1))

      out : Out limit w after (answer_step limit x heard wish put n)
      out = record { at_once = λ e. sends_all limit w after 0 _ (now_sent (now.earlier e)) long; in_next = λ v e. then_sent (now.first v e) }

-- ---- from the start

-- in a tick after any others the request that was told last is the one in hand
record Asks (x : DeviceSide) (heard : Heard) (preamble unique : ℕ) (p : Profile) (g : Ledger) : Type 0 where
  in_hand : (n : ℕ) → (device_takes x.device heard).device.turn ≡ Asked n → Now (told_by (device_takes x.device heard).told g) (device_takes x.device heard) n
  fixed_is : fixed (device_takes x.device heard).device ≡ record { profile = p; preamble = preamble; unique = unique }
  preamble_low : 5 ≤ preamble
  preamble_high : preamble ≤ 20
  unique_low : 1 ≤ unique
  unique_high : unique ≤ largest_address true
  room : 284 ≤ length (heard_frame x heard)

asks : (limit : ℕ) (p : Profile) (start : DeviceSide) (s : DeviceStarts p start) (before : List DeviceInput) (heard : Heard)
    → Asks (device_after limit start before) heard s.preamble s.unique p (device_ledger limit blank start before)
asks limit p start s before heard =
    let f = device_is p s.preamble s.polling s.unique start.device s.starts in
    let x = device_after limit start before in
    let r : Reached start (device_ledger limit blank start before) x =
    reaches limit start blank start before
    (record {
      same = record { same_fixed = refl; same_room = refl };
      held = λ n q. absurd (listens_asked n (sym (ap (λ (z : Device). z.turn) f.is) ∙ q));
    }) in
    record {
      in_hand = takes_now (device_ledger limit blank start before) x.device r.held heard;
      fixed_is = takes_fixed x.device heard ∙ r.same.same_fixed ∙ ap fixed f.is;
      preamble_low = f.preamble_low;
      preamble_high = f.preamble_high;
      unique_low = f.unique_low;
      unique_high = f.unique_high;
      room = omega (arith, error_room x.device (device_takes x.device heard).event x.frame, r.same.same_room, s.room);
    }

abbrev request_of : Ledger → Header
request_of blank = no_header
request_of (told h) = h
request_of (given h put) = h

-- the ACK to a command 11 to this unique address, broadcast or own
module _ (limit : ℕ) (small : limit ≤ 255) (x : DeviceSide) (heard : Heard) (preamble unique : ℕ) (p : Profile) (g : Ledger) (a : Asks x heard preamble unique p g) (made : profile_made p ≡ accepted p)
    (primary flag : Bool) (address : ℕ) (known : address ≤ largest_address true) (last : told_by (device_takes x.device heard).told g ≡ told (command11 stx primary flag address)) where
  request_is : (n : ℕ) → (device_takes x.device heard).device.turn ≡ Asked n → (device_takes x.device heard).device.request ≡ command11 stx primary flag address
  request_is n q = ap request_of (sym (a.in_hand n q).told_last ∙ last)

  eleven_out : (wish : Wish) (put : List ℕ) (after : List DeviceInput) (n : ℕ) → Taking limit (device_takes x.device heard).device wish put n
      → GoesOut limit x (record { heard = heard; call = gives_answer wish put }) (frame_bytes preamble (command11 ack primary (wished x.device.burst wish) address) put) after
  eleven_out wish put after n taking =
      subst (λ (l : List ℕ). GoesOut limit x (record { heard = heard; call = gives_answer wish put }) l after) bytes
      (ack_out limit x heard wish put after n (told_by (device_takes x.device heard).told g) taking (a.in_hand n taking.in_hand) some fits a.room)
    where
      e : Device
      e = (device_takes x.device heard).device

      request : e.request ≡ command11 stx primary flag address
      request = request_is n taking.in_hand

      preamble_is : e.preamble ≡ preamble
      preamble_is = ap (λ (f : Fixed). f.preamble) a.fixed_is

      some : 2 ≤ e.profile.rt1p
      some = let v = valid p made in omega (arith, ap (λ (f : Fixed). f.profile.rt1p) a.fixed_is, v.some_hold, v.hold_short, v.rt2_short)

      header_is : answer_header e.request (wished e.burst wish) ≡ command11 ack primary (wished x.device.burst wish) address
      header_is = (λ i. answer_header (request i) (wished (takes_kept (λ (d : Device). d.burst) (λ d r turn request wish length due. refl) x.device heard i) wish)) ∙ tag_ack primary flag (wished x.device.burst wish) address

      bytes : frame_bytes e.preamble (answer_header e.request (wished e.burst wish)) put ≡ frame_bytes preamble (command11 ack primary (wished x.device.burst wish) address) put
      bytes = λ i. frame_bytes (preamble_is i) (header_is i) put

      fits : Fits e.preamble (answer_header e.request (wished e.burst wish)) (length put)
      fits = record {
        preamble_low = omega (arith, preamble_is, a.preamble_low);
        preamble_high = omega (arith, preamble_is, a.preamble_high);
        address_high = subst (λ (r : Header). r.address ≤ largest_address r.long) (sym request) known;
        count_high = omega (arith, taking.high);
        enough = device_enough ack (length put) taking.low;
        typed = ack_typed;
      }

-- a wish in the answer to a command 11 by broadcast is refused: burst stays
tag_same : (d : Device) (wish : Wish) → has_no_wish d.request ≡ true → wish_refused d wish ≡ false → wish ≡ Same
tag_same d Same none f = refl
tag_same d On none f = absurd (true_false (sym (if_is_true (has_no_wish d.request) true _ none) ∙ f))
tag_same d Off none f = absurd (true_false (sym none ∙ f))

pub tag_answered : (limit : ℕ) → limit ≤ 255 → TagAnswered limit
tag_answered limit small p start s before after heard wish put primary flag made last taken-now =
    let x = device_after limit start before in
    let a = asks limit p start s before heard in
    let k = was_taken limit x heard wish put taken-now in
    let told_is : told_by (device_takes x.device heard).told (device_ledger limit blank start before) ≡ told (command11 stx primary flag 0) =
    ap (λ (z : DeviceTold). told_by z (device_ledger limit blank start before)) (sym (tells_told limit x heard (gives_answer wish put))) ∙ last.is_last in
    let request = request_is limit small x heard s.preamble s.unique p (device_ledger limit blank start before) a made primary flag 0 (omega arith) told_is k.n k.taking.in_hand in
    let same : wish ≡ Same = tag_same (device_takes x.device heard).device wish (ap has_no_wish request ∙ tag_no_wish stx primary flag) k.taking.wish_taken in
    subst (λ (b : Bool). GoesOut limit x (record { heard = heard; call = gives_answer wish put }) (frame_bytes s.preamble (command11 ack primary b 0) put) after) (ap (wished x.device.burst) same)
    (eleven_out limit small x heard s.preamble s.unique p (device_ledger limit blank start before) a made primary flag 0 (omega arith) told_is wish put after k.n k.taking)

own_wish_free : (d : Device) (wish : Wish) → has_no_wish d.request ≡ false → (wish ≡ On → d.content.given ≡ true) → wish_refused d wish ≡ false
own_wish_free d Same none content = refl
own_wish_free d On none content = if_is_false (has_no_wish d.request) _ _ none ∙ if_is_true d.content.given _ _ (content refl)
own_wish_free d Off none content = none

pub own_wish : (limit : ℕ) → limit ≤ 255 → OwnWish limit
own_wish limit small p start s before after heard wish put primary flag made last content taken-same =
    let x = device_after limit start before in
    let t = device_takes x.device heard in
    let a = asks limit p start s before heard in
    let k = was_taken limit x heard Same put taken-same in
    let told_is : told_by t.told (device_ledger limit blank start before) ≡ told (command11 stx primary flag s.unique) =
    ap (λ (z : DeviceTold). told_by z (device_ledger limit blank start before)) (sym (tells_told limit x heard (gives_answer wish put))) ∙ last.is_last in
    let request = request_is limit small x heard s.preamble s.unique p (device_ledger limit blank start before) a made primary flag s.unique a.unique_high told_is k.n k.taking.in_hand in
    let content_is : t.device.content ≡ x.device.content = takes_kept (λ (d : Device). d.content) (λ d r turn request wish length due. refl) x.device heard in
    let free = own_wish_free t.device wish (ap has_no_wish request ∙ own_wishes stx primary flag s.unique a.unique_low) (λ e. ap (λ (c : Content). c.given) content_is ∙ content e) in
    let taking : Taking limit t.device wish put k.n = record { in_hand = k.taking.in_hand; low = k.taking.low; high = k.taking.high; wish_taken = free } in
    record {
      is_taken = ap (λ (step : DeviceStep). step.result) (taking_is limit x heard wish put k.n taking);
      goes_out = eleven_out limit small x heard s.preamble s.unique p (device_ledger limit blank start before) a made primary flag s.unique a.unique_high told_is wish put after k.n taking;
    }

-- ---- every device's host is told a command 11 by broadcast

module _ (x : DeviceSide) (last : Heard) (v : Whole) (primary flag : Bool) (whole : HearsWhole x last v) (is : v.header ≡ command11 stx primary flag 0) where
  heard_is : device_takes x.device last ≡ changed x.device (taken x.device.receiver last).receiver (Frame v) (record { turn = Asked x.device.profile.sto; request = v.header; length = x.device.length; told = DeviceTold.Request v })
  unfolding device_takes
  heard_is = if_is_false x.device.deaf _ _ whole.hears ∙ by last whole.character whole.whole
    where
      frame_is : after_frame x.device v ≡ record { turn = Asked x.device.profile.sto; request = v.header; length = x.device.length; told = DeviceTold.Request v }
      frame_is = tag_told x.device v primary flag is whole.plain

      by : (h : Heard) → IsCharacter h → (taken x.device.receiver h).event ≡ Frame v
          → on_heard x.device h ≡ changed x.device (taken x.device.receiver h).receiver (Frame v) (record { turn = Asked x.device.profile.sto; request = v.header; length = x.device.length; told = DeviceTold.Request v })
      by (Character c) is_sound e = ap (on_character x.device _) e ∙ ap (changed x.device _ (Frame v)) frame_is
      by (Heard.Damaged c kind) is_with_damage e = ap (on_character x.device _) e ∙ ap (changed x.device _ (Frame v)) frame_is
      by Silence x3 e = elim x3 [ ]

pub tag_is_told : (limit : ℕ) → TagTold limit
tag_is_told limit x last v primary flag call whole is = tells_told limit x last call ∙ ap (λ (t : DeviceTaken). t.told) (heard_is x last v primary flag whole is)

-- ---- and may answer it up to tick T+STO

-- a request is in hand for m more ticks, and no BACK is due before them; or none is
data Left (m : ℕ) (d : Device) : Type 0 where
  in_hand : 1 ≤ m → d.turn ≡ Asked m → inside_frame d.receiver.place ≡ false → m < d.due → Left m d
  none_left : m ≡ 0 → ((n : ℕ) → d.turn ≡ Asked n → ⊥) → Left m d

record LeftAfter (m : ℕ) (x : DeviceSide) : Type 0 where
  left : Left m x.device
  hears : 1 ≤ m → x.device.deaf ≡ false

silence_asked : (d : Device) (n : ℕ) → (device_takes d Silence).device.turn ≡ Asked n → (k : ℕ) × (d.turn ≡ Asked k)
unfolding device_takes
silence_asked d n =
    let P : DeviceTaken → Type 0 = λ t. t.device.turn ≡ Asked n → (k : ℕ) × (d.turn ≡ Asked k) in
    if_both P d.deaf _ _ (λ q. (n, q))
    (if_both P (inside_frame d.receiver.place) _ _ (if_both P d.receiver.gap _ _ (λ q. (suc n, counted_asked d (taken d.receiver Silence).receiver (broken_due d) Broken n q)) (λ q. (n, q))) (λ q. (suc n, counted_asked d (taken d.receiver Silence).receiver d.due Nothing n q)))

-- a silent tick is one less
silence_left : (m : ℕ) (x : DeviceSide) → LeftAfter m x → Left (m - 1) (device_takes x.device Silence).device
silence_left m x l = go l.left
  where
    d : Device
    d = x.device

    go : Left m x.device → Left (m - 1) (device_takes x.device Silence).device
    go (none_left z none) = none_left (omega (arith, z)) (λ n q. let k = silence_asked x.device n q in none k.0 k.1)
    go (in_hand some q out due) =
        subst (λ (t : DeviceTaken). Left (m - 1) t.device) (sym (silence_is x.device (l.hears some) out)) (by (m ≤? 1) refl)
      where
        turn_is : (counts x.device idle x.device.due Nothing).device.turn ≡ (when m ≤? 1 then Listens else Asked (m - 1))
        turn_is = if_is_false (back_due x.device x.device.due) _ _ (none_due x.device (omega arith)) ∙ ap waited q

        by : (few : Bool) → (m ≤? 1) ≡ few → Left (m - 1) (counts x.device idle x.device.due Nothing).device
        by true e = none_left (omega (arith, leb-true m 1 e)) (λ n z. listens_asked n (sym (turn_is ∙ if_is_true (m ≤? 1) _ _ e) ∙ z))
        by false e = in_hand (omega (arith, leb-false m 1 e)) (turn_is ∙ if_is_false (m ≤? 1) _ _ e) refl (omega (arith, leb-false m 1 e))

-- and a tick without a call leaves it
left_after : (limit m : ℕ) (x : DeviceSide) (heard : Heard) → Left m (device_takes x.device heard).device → LeftAfter m (device_tick limit x heard no_call).side
unfolding device_tick device_sends
left_after limit m x heard l = go l
  where
    e : Device
    e = (device_takes x.device heard).device

    frame : List ℕ
    frame = begun_frame e e.turn x.contents (heard_frame x heard)

    go : Left m e → LeftAfter m (device_tick limit x heard no_call).side
    go (none_left z none) = record { left = none_left z (λ n q. none n (sends_asked e frame e.turn n q)); hears = λ some. absurd (omega (arith, z)) }
    go (in_hand some q out due) =
        record {
          left = subst (λ (u : Turn). Left m (sends_by e frame u).device) (sym q) (in_hand some refl out due);
          hears = λ z. ap (λ (u : Turn). (sends_by e frame u).device.deaf) q;
        }

runs_left : (limit m n : ℕ) (x : DeviceSide) → LeftAfter m x → LeftAfter (m - n) (device_after limit x (replicate n nothing_tick))
unfolding device_after
runs_left limit m zero x l = subst (λ (k : ℕ). LeftAfter k x) (omega arith) l
runs_left limit m (suc n) x l =
    subst (λ (k : ℕ). LeftAfter k (device_after limit (device_tick limit x Silence no_call).side (replicate n nothing_tick))) (omega arith)
    (runs_left limit (m - 1) n _ (left_after limit (m - 1) x Silence (silence_left m x l)))

none_asked : (limit : ℕ) (d : Device) (wish : Wish) (count : ℕ) (turn : Turn) → ((n : ℕ) → turn ≡ Asked n → ⊥) → answered_by limit d wish count turn ≡ refused 8
none_asked limit d wish count Listens none = refl
none_asked limit d wish count (Asked n) none = absurd (none n refl)
none_asked limit d wish count AnswerWaits none = refl
none_asked limit d wish count Begins none = refl
none_asked limit d wish count (Answers n) none = refl
none_asked limit d wish count Follows none = refl
none_asked limit d wish count (Bursts n) none = refl

-- the answer is taken while some are left
left_answers : (limit m : ℕ) (x : DeviceSide) (heard : Heard) (put : List ℕ) → 2 ≤ length put → length put ≤ limit → Left m (device_takes x.device heard).device
    → (1 ≤ m → (device_tick limit x heard (gives_answer Same put)).result ≡ CallResult.Taken) × (m ≡ 0 → (device_tick limit x heard (gives_answer Same put)).result ≡ CallResult.Refused 8)
unfolding device_tick answered
left_answers limit m x heard put low high (in_hand some q out due) =
    (λ z. ap (λ (s : DeviceStep). s.result) (taking_is limit x heard Same put m (record { in_hand = q; low = low; high = high; wish_taken = refl })), λ z. absurd (omega (arith, z)))
left_answers limit m x heard put low high (none_left z none) = (
  λ some. absurd (omega (arith, z)),
  λ e. ap (λ (c : Called Device). (answer_called c (device_takes x.device heard).device (answer_frame (device_takes x.device heard).device Same put (heard_frame x heard)) (heard_frame x heard) (device_data x heard) x.contents (device_takes x.device heard).told).result)
      (none_asked limit (device_takes x.device heard).device Same (length put) (device_takes x.device heard).device.turn none),
)

pub tag_time : (limit : ℕ) → TagTime limit
unfolding answer_in
tag_time limit x last v primary flag put n made whole is low high = go n
  where
    sto : ℕ
    sto = x.device.profile.sto

    first : Left sto (device_takes x.device last).device
    first =
        let some = valid x.device.profile made in
        subst (λ (t : DeviceTaken). Left sto t.device) (sym (heard_is x last v primary flag whole is))
        (in_hand some.some_sto refl (framed x.device.receiver last whole.character v whole.whole)
        (omega (arith, some.sto_short, stx_due x.device.profile v (ap (λ (h : Header). h.kind) is))))

    go : (n : ℕ) → (suc n ≤ sto → answer_in limit x last put n ≡ CallResult.Taken) × (sto ≤ n → answer_in limit x last put n ≡ CallResult.Refused 8)
    go zero = let a = left_answers limit sto x last put low high first in (λ e. a.0 (omega arith), λ e. a.1 (omega arith))
    go (suc k) =
        let y : DeviceSide = device_after limit (device_tick limit x last no_call).side (replicate k nothing_tick) in
        let l = silence_left (sto - k) y (runs_left limit sto k _ (left_after limit sto x last first)) in
        let a = left_answers limit (sto - k - 1) y Silence put low high l in
        (λ e. a.0 (omega arith), λ e. a.1 (omega arith))
