-- The field `burst` is what document 01's sentence says, for every device, whatever it hears and its host gives.
use Prim.Native.Nat.{ℕ, ◌+◌, ◌-◌, ◌≤◌}
use native.Mathlib.Omega.{arith}
use mathlib.Core.Path.{◌≡◌, refl, sym, ap, subst, ◌∙◌}
use mathlib.Core.Bool.{Bool, true, false}
use mathlib.Core.List.{List, [], ◌∷◌}
use mathlib.Core.Logic.{◌⊎◌, inl, inr}
use lib.ListN.{length}
use borrow.Author.Tests.{leb-false, eqb-true}
use Rattle.base.specs.Refusal.{Called}
use Rattle.base.specs.Choice.{when◌then◌else◌, ◌<?◌, ◌≤?◌, ◌=?◌}
use Rattle.base.specs.Store.{stored}
use Rattle.frame.specs.Delimiter.{stx, ack}
use Rattle.line.specs.Reader.{taken, inside_frame}
use Rattle.line.specs.declared.Event.{Event}
use Rattle.line.specs.declared.Event.TheVariants.{Nothing, PassedOver, Broken, Frame, Damaged}
use Rattle.line.specs.declared.Heard.{Heard}
use Rattle.line.specs.declared.Heard.TheVariants.{Silence, Character}
use Rattle.line.specs.declared.Profile.{Profile}
use Rattle.line.specs.declared.Receiver.{Receiver}
use Rattle.turns.specs.Party.{is_broadcast}
use Rattle.turns.specs.Device.{device_with, has_error, waited, broken_due, wished, behind_ack, back_length, counts, on_silence, on_character, on_heard, device_takes, answered_by, answered, answer_frame, device_with_content, content_given, sends_by, device_sends, begun_frame, may_answer, changed, due_after, ended_by}
use Rattle.turns.specs.Link.{DeviceCall, no_call, gives_answer, gives_content, DeviceSide, DeviceStep, device_sent, answer_called, content_called, device_calls, device_tick, device_data, heard_frame}
use Rattle.turns.specs.Bursts.{Wished, no_wish, wishes, BurstLog, dropped_by, wished_by, effective, sent_with, log_after, DeviceInput, Agrees, no_tick, tick_and, BurstsAsSaid}
use Rattle.turns.specs.declared.CallResult.{CallResult}
use Rattle.turns.specs.declared.Turn.{Turn}
use Rattle.turns.specs.declared.Turn.TheVariants.{Listens, Asked, AnswerWaits, Begins, Answers, Follows, Bursts}
use Rattle.turns.specs.declared.Wish.{Wish}
use Rattle.turns.specs.declared.Wish.TheVariants.{Same}
use Rattle.turns.specs.declared.Device.{Device}
use Rattle.turns.specs.declared.DeviceTaken.{DeviceTaken}
use Rattle.turns.specs.declared.DeviceTold.{DeviceTold}
use Rattle.turns.specs.declared.DeviceSent.{DeviceSent}
use Rattle.turns.proofs.Windows.{Valid}
use Rattle.turns.proofs.Fresh.{valid, device_is}
use Rattle.turns.proofs.Devices as D
use Rattle.turns.proofs.Devices.{AnswerView, answer_view, ContentView, content_view}
use Rattle.turns.proofs.Bursting.{if_both}
use Rattle.turns.specs.declared.Change.{Change}
use Rattle.base.proofs.Choices.{if_is_false}
use Rattle.turns.proofs.Masters.{if_cases}
use Rattle.line.specs.declared.Whole.{Whole}

-- ---- what a turn says of the wish that is pending

-- an answer waits for its first character; one of the host's has its wish, an error answer none
data Waits (pending : Wished) (wish : Wish) : Type 0 where
  by_host : pending ≡ wishes wish → Waits pending wish
  by_itself : pending ≡ no_wish → wish ≡ Same → Waits pending wish

Turned : Profile → Wished → Wish → ℕ → Turn → Type 0
Turned p pending wish due Listens = pending ≡ no_wish
Turned p pending wish due (Asked n) = (pending ≡ no_wish) × (n ≤ p.sto) × (n ≡ p.sto → due ≡ p.rt1p)
Turned p pending wish due AnswerWaits = Waits pending wish × (due ≡ p.rt1p)
Turned p pending wish due Begins = Waits pending wish
Turned p pending wish due (Answers n) = pending ≡ no_wish
Turned p pending wish due Follows = pending ≡ no_wish
Turned p pending wish due (Bursts n) = pending ≡ no_wish

-- between ticks no turn is Begins
Rests : Turn → Type 0
Rests t = t ≡ Begins → ⊥

record Logged (p : Profile) (on : Bool) (pending : Wished) (d : Device) : Type 0 where
  profile_is : d.profile ≡ p
  on_is : d.burst ≡ on
  turned : Turned p pending d.wish d.due d.turn

-- ---- what was heard

module _ (p : Profile) (v : Valid p) (on : Bool) (pending : Wished) (d : Device) (l : Logged p on pending d) (r : Rests d.turn) where
  -- a silent tick
  waited_turned : (turn : Turn) → d.turn ≡ turn → (due : ℕ) → Turned p pending d.wish d.due turn → Turned p pending d.wish due (waited turn)
  unfolding Turned when◌then◌else◌
  waited_turned Listens e due t = t
  waited_turned (Asked n) e due t = go (n ≤? 1) refl
    where
      go : (b : Bool) → (n ≤? 1) ≡ b → Turned p pending d.wish due (when b then Listens else Asked (n - 1))
      go true q = t.0
      go false q = (t.0, omega (arith, t.1), λ z. absurd (omega (arith, t.1, leb-false n 1 q)))
  waited_turned AnswerWaits e due t = t.0
  waited_turned Begins e due t = t
  waited_turned (Answers n) e due t = t
  waited_turned Follows e due t = t
  waited_turned (Bursts n) e due t = t

  -- the timer of a BACK does not end where an answer waits
  due_free : (turn : Turn) → d.turn ≡ turn → Turned p pending d.wish d.due turn → (due : ℕ) → (due ≡ d.due) ⊎ (p.rt1p ≤ due + 1) → due ≡ 1 → pending ≡ no_wish
  unfolding Turned Rests
  due_free Listens e t due f one = t
  due_free (Asked n) e t due f one = t.0
  due_free AnswerWaits e t due (inl f) one = absurd (omega (arith, f, t.1, v.rt2_short, v.hold_short))
  due_free AnswerWaits e t due (inr f) one = absurd (omega (arith, f, v.rt2_short, v.hold_short, v.some_hold))
  due_free Begins e t due f one = absurd (r e)
  due_free (Answers n) e t due f one = t
  due_free Follows e t due f one = t
  due_free (Bursts n) e t due f one = t

  counts_logged : (x : Receiver) (due : ℕ) (event : Event) → (due ≡ d.due) ⊎ (p.rt1p ≤ due + 1) → Logged p on pending (counts d x due event).device
  unfolding when◌then◌else◌ Turned
  counts_logged x due event f = go d.burst refl (due =? 1) refl
    where
      by : Bool → Bool → Device
      by b e = device_with d x (when (when b then e else false) then Follows else waited d.turn) d.request d.wish d.length (due - 1)

      go : (b : Bool) → d.burst ≡ b → (e : Bool) → (due =? 1) ≡ e → Logged p on pending (by b e)
      go true q true z = record { profile_is = l.profile_is; on_is = l.on_is; turned = due_free d.turn refl l.turned due f (eqb-true due 1 z) }
      go true q false z = record { profile_is = l.profile_is; on_is = l.on_is; turned = waited_turned d.turn refl (due - 1) l.turned }
      go false q e z = record { profile_is = l.profile_is; on_is = l.on_is; turned = waited_turned d.turn refl (due - 1) l.turned }

  rt1p_is : d.profile.rt1p ≡ p.rt1p
  rt1p_is = ap (λ (q : Profile). q.rt1p) l.profile_is

  silence_logged : (x : Receiver) → Logged p on pending (on_silence d x).device
  silence_logged x =
      let P : DeviceTaken → Type 0 = λ t. Logged p on pending t.device in
      if_both P (inside_frame d.receiver.place) _ _
      (if_both P d.receiver.gap _ _ (counts_logged x (broken_due d) Broken (inr (omega (arith, rt1p_is)))) (record { profile_is = l.profile_is; on_is = l.on_is; turned = l.turned }))
      (counts_logged x d.due Nothing (inl refl))

  -- a character
  listens : (x : Receiver) (due n : ℕ) → Logged p on no_wish (device_with d x Listens d.request Same n due)
  unfolding Turned
  listens x due n = record { profile_is = l.profile_is; on_is = l.on_is; turned = refl }

  stx_due : (w : Whole) → (w.header.kind =? stx) ≡ true → due_after d.profile (ended_by (Frame w)) ≡ p.rt1p
  stx_due w q = ap (due_after d.profile) (if_is_false (w.header.kind =? ack) _ _ (ap (λ (n : ℕ). n =? ack) (eqb-true w.header.kind stx q))) ∙ rt1p_is

  character_logged : (x : Receiver) (e : Event) → Logged p on no_wish (on_character d x e).device
  unfolding Turned
  character_logged x Nothing = listens x 0 d.length
  character_logged x PassedOver = listens x d.profile.rt1p d.length
  character_logged x Broken = listens x d.profile.rt1p d.length
  character_logged x (Frame w) =
      let P : Change → Type 0 = λ c. Logged p on no_wish (changed d x (Frame w) c).device in
      if_cases P (w.header.kind =? stx) _ _
      (λ q. if_both P (w.expansion =? 0) _ _
      (if_both P (may_answer d w.header) _ _
      (record { profile_is = l.profile_is; on_is = l.on_is; turned = (refl, omega (arith, ap (λ (q : Profile). q.sto) l.profile_is), λ z. stx_due w q) })
      (if_both P (is_broadcast w.header) _ _ (listens x _ d.length) (listens x _ d.length)))
      (listens x _ d.length))
      (λ q. listens x _ d.length)
  character_logged x (Damaged w m) =
      if_both (λ (c : Change). Logged p on no_wish (changed d x (Damaged w m) c).device) (has_error d w m) _ _ (record { profile_is = l.profile_is; on_is = l.on_is; turned = (by_itself refl refl, rt1p_is) }) (listens x d.profile.rt1p d.length)

  heard_logged : (heard : Heard) → Logged p on (dropped_by heard pending) (on_heard d heard).device
  heard_logged Silence = silence_logged (taken d.receiver Silence).receiver
  heard_logged (Character c) = character_logged _ (taken d.receiver (Character c)).event
  heard_logged (Heard.Damaged c kind) = character_logged _ (taken d.receiver (Heard.Damaged c kind)).event

  takes_logged : (heard : Heard) → Logged p on (when d.deaf then pending else dropped_by heard pending) (device_takes d heard).device
  unfolding device_takes when◌then◌else◌
  takes_logged heard = go d.deaf
    where
      go : (b : Bool) → Logged p on (when b then pending else dropped_by heard pending) (when b then Rattle.turns.specs.Device.tells d DeviceTold.Nothing Nothing else on_heard d heard).device
      go true = l
      go false = heard_logged heard

-- ---- sending

record Settled (p : Profile) (g : BurstLog) (d : Device) : Type 0 where
  logged : Logged p g.on g.pending d
  rests : Rests d.turn

listens_begins : Listens ≡ Begins → ⊥
listens_begins e = let z : ◌≡◌ {A = ℕ} 0 1 = cc in omega arith

follows_begins : Follows ≡ Begins → ⊥
follows_begins e = let z : ◌≡◌ {A = ℕ} 0 1 = cc in omega arith

asked_begins : (n : ℕ) → Asked n ≡ Begins → ⊥
asked_begins n e = let z : ◌≡◌ {A = ℕ} 0 1 = cc in omega arith

accepted_begins : AnswerWaits ≡ Begins → ⊥
accepted_begins e = let z : ◌≡◌ {A = ℕ} 0 1 = cc in omega arith

answers_begins : (n : ℕ) → Answers n ≡ Begins → ⊥
answers_begins n e = let z : ◌≡◌ {A = ℕ} 0 1 = cc in omega arith

bursts_begins : (n : ℕ) → Bursts n ≡ Begins → ⊥
bursts_begins n e = let z : ◌≡◌ {A = ℕ} 0 1 = cc in omega arith

module _ (p : Profile) (on : Bool) (pending : Wished) (d : Device) (l : Logged p on pending d) where
  -- burst as it is from the ACK's first character on
  effect : Waits pending d.wish → ((effective on pending).on ≡ wished d.burst d.wish) × ((effective on pending).pending ≡ no_wish)
  effect (by_host e) = (ap (λ (w : Wished). (effective on w).on) e ∙ ap (λ (b : Bool). wished b d.wish) (sym l.on_is), ap (λ (w : Wished). (effective on w).pending) e)
  effect (by_itself e s) = (ap (λ (w : Wished). (effective on w).on) e ∙ sym l.on_is ∙ ap (wished d.burst) (sym s), ap (λ (w : Wished). (effective on w).pending) e)

  quiet : pending ≡ no_wish → ((effective on pending).on ≡ on) × ((effective on pending).pending ≡ no_wish)
  quiet e = (ap (λ (w : Wished). (effective on w).on) e, ap (λ (w : Wished). (effective on w).pending) e)

  behind_ack_lem : (b : Bool) → (behind_ack b ≡ Begins → ⊥) × (Turned p no_wish d.wish 0 (behind_ack b))
  unfolding when◌then◌else◌ Turned
  behind_ack_lem true = (follows_begins, refl)
  behind_ack_lem false = (listens_begins, refl)

  by_turn : (frame : List ℕ) (turn : Turn) → d.turn ≡ turn → Turned p pending d.wish d.due turn → Settled p (sent_with (sends_by d frame turn).sent on pending) (sends_by d frame turn).device
  unfolding Turned Rests
  by_turn frame Listens e t = record { logged = record { profile_is = l.profile_is; on_is = l.on_is; turned = t }; rests = listens_begins }
  by_turn frame (Asked n) e t = record { logged = record { profile_is = l.profile_is; on_is = l.on_is; turned = t }; rests = asked_begins n }
  by_turn frame AnswerWaits e t = record { logged = record { profile_is = l.profile_is; on_is = l.on_is; turned = t }; rests = accepted_begins }
  by_turn frame Begins e t =
      let f = effect t in
      if_both (λ (s : DeviceSent). Settled p (sent_with s.sent on pending) s.device) (0 + 1 <? d.length) _ _
      (record { logged = record { profile_is = l.profile_is; on_is = sym f.0; turned = f.1 }; rests = answers_begins 1 })
      (record {
        logged = record { profile_is = l.profile_is; on_is = sym f.0; turned = subst (λ (w : Wished). Turned p w d.wish 0 (behind_ack (wished d.burst d.wish))) (sym f.1) (behind_ack_lem (wished d.burst d.wish)).1 };
        rests = (behind_ack_lem (wished d.burst d.wish)).0;
      })
  by_turn frame (Answers n) e t =
      let f = quiet t in
      if_both (λ (s : DeviceSent). Settled p (sent_with s.sent on pending) s.device) (n + 1 <? d.length) _ _
      (record { logged = record { profile_is = l.profile_is; on_is = l.on_is ∙ sym f.0; turned = f.1 }; rests = answers_begins (n + 1) })
      (record {
        logged = record { profile_is = l.profile_is; on_is = l.on_is ∙ sym f.0; turned = subst (λ (w : Wished). Turned p w d.wish 0 (behind_ack d.burst)) (sym f.1) (behind_ack_lem d.burst).1 };
        rests = (behind_ack_lem d.burst).0;
      })
  by_turn frame Follows e t =
      let f = quiet t in
      if_both (λ (s : DeviceSent). Settled p (sent_with s.sent on pending) s.device) (0 + 1 <? back_length d) _ _
      (record { logged = record { profile_is = l.profile_is; on_is = l.on_is ∙ sym f.0; turned = f.1 }; rests = bursts_begins 1 })
      (record { logged = record { profile_is = l.profile_is; on_is = l.on_is ∙ sym f.0; turned = f.1 }; rests = listens_begins })
  by_turn frame (Bursts n) e t =
      let f = quiet t in
      if_both (λ (s : DeviceSent). Settled p (sent_with s.sent on pending) s.device) (n + 1 <? d.length) _ _
      (record { logged = record { profile_is = l.profile_is; on_is = l.on_is ∙ sym f.0; turned = f.1 }; rests = bursts_begins (n + 1) })
      (record { logged = record { profile_is = l.profile_is; on_is = l.on_is ∙ sym f.0; turned = f.1 }; rests = listens_begins })

  sent_logged : (frame bytes contents : List ℕ) (told : DeviceTold) (result : CallResult) → Settled p (sent_with (device_sent d frame bytes contents told result).sent on pending) (device_sent d frame bytes contents told result).side.device
  unfolding device_sends
  sent_logged frame bytes contents told result = by_turn (begun_frame d d.turn contents frame) d.turn refl l.turned

-- ---- the host's call

module _ (limit : ℕ) (p : Profile) (on : Bool) (pending : Wished) (d : Device) (l : Logged p on pending d) (frame bytes contents : List ℕ) (told : DeviceTold) where
  Calls : DeviceCall → DeviceStep → Type 0
  Calls c s = Settled p (sent_with s.sent on (wished_by c s.result pending)) s.side.device

  answer_logged : (wish : Wish) (put : List ℕ) (turn : Turn) → d.turn ≡ turn → Calls (gives_answer wish put) (answer_called (answered_by limit d wish (length put) turn) d (answer_frame d wish put frame) frame bytes contents told)
  unfolding Calls Turned when◌then◌else◌
  answer_logged wish put Listens e = sent_logged p on pending d l frame bytes contents told (CallResult.Refused 8)
  answer_logged wish put (Asked n) e = go (answer_view limit d wish (length put) n)
    where
      by : Called Device → Type 0
      by c = Settled p (sent_with (answer_called c d (answer_frame d wish put frame) frame bytes contents told).sent on (wished_by (gives_answer wish put) (answer_called c d (answer_frame d wish put frame) frame bytes contents told).result pending)) (answer_called c d (answer_frame d wish put frame) frame bytes contents told).side.device

      was : Turned p pending d.wish d.due (Asked n)
      was = subst (Turned p pending d.wish d.due) e l.turned

      next : (b : Bool) → (n =? d.profile.sto) ≡ b → Turned p (wishes wish) wish d.due (when b then AnswerWaits else Begins)
      next true q = (by_host refl, was.2 (eqb-true n d.profile.sto q ∙ ap (λ (z : Profile). z.sto) l.profile_is))
      next false q = by_host refl

      go : AnswerView limit d wish (length put) n → by (answered_by limit d wish (length put) (Asked n))
      go (D.AnswerView.is_refused why q) = subst by (sym q) (sent_logged p on pending d l frame bytes contents told (CallResult.Refused why))
      go (D.AnswerView.is_taken least most f q) =
          subst by (sym q) (sent_logged p on (wishes wish) _ (record { profile_is = l.profile_is; on_is = l.on_is; turned = next (n =? d.profile.sto) refl }) (answer_frame d wish put frame) bytes contents told CallResult.Taken)
  answer_logged wish put AnswerWaits e = sent_logged p on pending d l frame bytes contents told (CallResult.Refused 8)
  answer_logged wish put Begins e = sent_logged p on pending d l frame bytes contents told (CallResult.Refused 8)
  answer_logged wish put (Answers n) e = sent_logged p on pending d l frame bytes contents told (CallResult.Refused 8)
  answer_logged wish put Follows e = sent_logged p on pending d l frame bytes contents told (CallResult.Refused 8)
  answer_logged wish put (Bursts n) e = sent_logged p on pending d l frame bytes contents told (CallResult.Refused 8)

  content_logged : (command : ℕ) (put : List ℕ) → Calls (gives_content command put) (content_called (content_given limit d command (length put)) d put frame bytes contents told)
  unfolding Calls
  content_logged command put = go (content_view limit d command (length put))
    where
      by : Called Device → Type 0
      by c = Settled p (sent_with (content_called c d put frame bytes contents told).sent on pending) (content_called c d put frame bytes contents told).side.device

      go : ContentView limit d command (length put) → by (content_given limit d command (length put))
      go (D.ContentView.is_refused why q) = subst by (sym q) (sent_logged p on pending d l frame bytes contents told (CallResult.Refused why))
      go (D.ContentView.is_taken least most q) =
          subst by (sym q) (sent_logged p on pending (device_with_content d (record { given = true; command = command; count = length put })) (record { profile_is = l.profile_is; on_is = l.on_is; turned = l.turned }) frame bytes (stored contents 0 put) told CallResult.Taken)

-- ---- the tick, and every list of them

tick_logged : (limit : ℕ) (p : Profile) → Valid p → (g : BurstLog) (x : DeviceSide) (heard : Heard) (call : DeviceCall) → Settled p g x.device
    → Settled p (log_after x heard call (device_tick limit x heard call) g) (device_tick limit x heard call).side.device
unfolding device_tick answered Calls
tick_logged limit p v g x heard call s = by call
  where
    w : Wished
    w = when x.device.deaf then g.pending else dropped_by heard g.pending

    t : DeviceTaken
    t = device_takes x.device heard

    l : Logged p g.on w t.device
    l = takes_logged p v g.on g.pending x.device s.logged s.rests heard

    by : (c : DeviceCall) → Settled p (sent_with (device_calls limit t c (heard_frame x heard) (device_data x heard) x.contents).sent g.on (wished_by c (device_calls limit t c (heard_frame x heard) (device_data x heard) x.contents).result w)) (device_calls limit t c (heard_frame x heard) (device_data x heard) x.contents).side.device
    by no_call = sent_logged p g.on w t.device l (heard_frame x heard) (device_data x heard) x.contents t.told CallResult.Nothing
    by (gives_answer wish put) = answer_logged limit p g.on w t.device l (heard_frame x heard) (device_data x heard) x.contents t.told wish put t.device.turn refl
    by (gives_content command put) = content_logged limit p g.on w t.device l (heard_frame x heard) (device_data x heard) x.contents t.told command put

agrees : (limit : ℕ) (p : Profile) → Valid p → (g : BurstLog) (x : DeviceSide) (inputs : List DeviceInput) → Settled p g x.device → Agrees limit g x inputs
agrees limit p v g x [] s = no_tick
agrees limit p v g x (i ∷ is) s =
    let t = tick_logged limit p v g x i.heard i.call s in
    tick_and t.logged.on_is (agrees limit p v (log_after x i.heard i.call (device_tick limit x i.heard i.call) g) (device_tick limit x i.heard i.call).side is t)

pub bursts_as_said : (limit : ℕ) → BurstsAsSaid limit
unfolding Turned Rests
bursts_as_said limit p x inputs made s =
    let e = (device_is p s.preamble s.polling s.unique x.device s.starts).is in
    agrees limit p (valid p made) _ x inputs
    (subst (Settled p (record { on = false; pending = no_wish })) (sym e) (record { logged = record { profile_is = refl; on_is = refl; turned = refl }; rests = listens_begins }))
