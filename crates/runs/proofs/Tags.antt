-- "at most one host's answer to each command 11 is taken": so at most one device's ACK to it is on its way in each tick (`fair_run`). It is shown of each device by itself, whatever it hears and its host calls: a request in hand is the one that its ledger holds as told last, and an ACK to command 11 was given there.
use Prim.Native.Nat.{ℕ, ◌+◌, ◌-◌, ◌≤◌}
use native.Mathlib.Omega.{arith}
use mathlib.Core.Path.{◌≡◌, refl, sym, ap, subst, ◌∙◌}
use mathlib.Core.Bool.{Bool, true, false}
use mathlib.Core.List.{List, [], ◌∷◌}
use lib.ListN.{length}
use Rattle.base.specs.Refusal.{Called, accepted, refused}
use Rattle.base.specs.Choice.{when◌then◌else◌, ◌<?◌, ◌≤?◌, ◌=?◌}
use Rattle.base.proofs.Choices.{true_false}
use Rattle.frame.specs.Delimiter.{stx}
use Rattle.line.specs.Reader.{taken, inside_frame}
use Rattle.line.specs.declared.Event.{Event}
use Rattle.line.specs.declared.Event.TheVariants.{Nothing, PassedOver, Broken, Frame, Damaged}
use Rattle.line.specs.declared.Heard.{Heard}
use Rattle.line.specs.declared.Heard.TheVariants.{Silence, Character}
use Rattle.line.specs.declared.Receiver.{Receiver}
use Rattle.turns.specs.Party.{is_broadcast, seeks_tag}
use Rattle.turns.specs.Device.{device_with, is_own, may_answer, has_error, back_due, waited, wished, answers_at, counts, on_silence, on_character, on_heard, device_takes, answered_by, answered, answer_frame, content_given, device_with_content, behind_ack, back_length, sends_by, device_sends, begun_frame, changed, broken_due}
use Rattle.turns.specs.Link.{DeviceCall, no_call, gives_answer, gives_content, DeviceSide, DeviceStep, Link, LinkStep, Calls, device_sent, answer_called, content_called, device_calls, device_tick, device_ticks, heard_frame, device_data, sides, link_tick, link_after, run}
use Rattle.turns.specs.Run.{All, none, and, EachTick, DeviceStarts, OneBursts}
use Rattle.turns.specs.Run as R
use Rattle.runs.specs.Credit.{Ledger, blank, told, told_by, answered_with, called_by, ledger_after, ledgers_after}
use Rattle.turns.specs.Ledgers.{found, finders, OneFinds, blanks}
use Rattle.turns.specs.Demand3.{Premises}
use Rattle.line.specs.declared.Profile.{Profile}
use Rattle.turns.proofs.Fresh.{device_is}
use Rattle.turns.proofs.TagSentences.{started_unique, tag_broadcast, broadcast_not_own}
use Rattle.turns.specs.Ledgers as G
use Rattle.turns.specs.declared.CallResult.{CallResult}
use Rattle.turns.specs.declared.Turn.{Turn}
use Rattle.turns.specs.declared.Turn.TheVariants.{Listens, Asked, AnswerWaits, Begins, Answers, Follows, Bursts}
use Rattle.turns.specs.declared.Wish.{Wish}
use Rattle.turns.specs.declared.Device.{Device}
use Rattle.turns.specs.declared.DeviceTaken.{DeviceTaken}
use Rattle.turns.specs.declared.DeviceTold.{DeviceTold}
use Rattle.turns.specs.declared.DeviceSent.{DeviceSent}
use Rattle.turns.proofs.Turns.{listens_asked, follows_asked, bursts_asked, accepted_asked, begins_asked, answers_asked}
use Rattle.runs.proofs.Fair.{answering, AnswersTag, SoleTag, no_tag, tag_and, Fair}
use Rattle.turns.proofs.Masters.{if_cases}
use Rattle.turns.proofs.Bursting.{if_both}
use Rattle.turns.proofs.Devices as D
use Rattle.turns.proofs.Devices.{ContentView, content_view, AnswerView, answer_view}
use Rattle.turns.specs.declared.Change.{Change}

-- what a device has in hand, by its ledger
pub record Owes (g : Ledger) (d : Device) : Type 0 where
  pub asked : (n : ℕ) → d.turn ≡ Asked n → g ≡ told d.request
  pub gives : answering d.turn ≡ true → seeks_tag d.request ≡ true → found g ≡ true
  pub some : 1 ≤ d.unique

pub nothing : {g : Ledger} {d : Device} → 1 ≤ d.unique → ((n : ℕ) → d.turn ≡ Asked n → ⊥) → answering d.turn ≡ false → Owes g d
nothing s f e = record { asked = λ n q. absurd (f n q); gives = λ z. absurd (true_false (sym z ∙ e)); some = s }

-- ---- what was heard

-- an error answer is never to a broadcast
own_of : (a b c o : Bool) → (when a then (when b then (when c then false else o) else false) else false) ≡ true → o ≡ true
unfolding when◌then◌else◌
own_of true true true o e = absurd (true_false (sym e))
own_of true true false o e = e
own_of true false c o e = absurd (true_false (sym e))
own_of false b c o e = absurd (true_false (sym e))

module _ (g : Ledger) (d : Device) (some : 1 ≤ d.unique) (r : Receiver) where
  By : DeviceTaken → Type 0
  By t = Owes (told_by t.told g) t.device

  on_character_lem : (e : Event) → By (on_character d r e)
  unfolding By
  on_character_lem Nothing = nothing some (λ n q. listens_asked n q) refl
  on_character_lem PassedOver = nothing some (λ n q. listens_asked n q) refl
  on_character_lem Broken = nothing some (λ n q. listens_asked n q) refl
  on_character_lem (Frame w) =
      let Q : Change → Type 0 = λ c. By (changed d r (Frame w) c) in
      if_both Q (w.header.kind =? stx) _ _
      (if_both Q (w.expansion =? 0) _ _
      (if_both Q (may_answer d w.header) _ _ (record { asked = λ n q. refl; gives = λ z. absurd (true_false (sym z)); some = some })
      (if_both Q (is_broadcast w.header) _ _ (nothing some (λ n q. listens_asked n q) refl) (nothing some (λ n q. listens_asked n q) refl)))
      (nothing some (λ n q. listens_asked n q) refl))
      (nothing some (λ n q. listens_asked n q) refl)
  on_character_lem (Damaged w m) =
      if_cases (λ (c : Change). By (changed d r (Damaged w m) c)) (has_error d w m) _ _
      (λ e. record { asked = λ n q. absurd (accepted_asked n q); gives = λ z t. absurd (true_false (sym (own_of _ _ _ (is_own d w.header) e) ∙ broadcast_not_own d some w.header (tag_broadcast w.header t))); some = some })
      (λ e. nothing some (λ n q. listens_asked n q) refl)

module _ (g : Ledger) (d : Device) (o : Owes g d) where
  counted : (turn : Turn) → d.turn ≡ turn → (r : Receiver) (due : ℕ) → Owes g (device_with d r (waited turn) d.request d.wish d.length due)
  unfolding when◌then◌else◌
  counted Listens e r due = nothing o.some (λ n q. listens_asked n q) refl
  counted (Asked k) e r due = go (k ≤? 1)
    where
      go : (t : Bool) → Owes g (device_with d r (when t then Listens else Asked (k - 1)) d.request d.wish d.length due)
      go true = nothing o.some (λ n q. listens_asked n q) refl
      go false = record { asked = λ n q. o.asked k e; gives = λ z. absurd (true_false (sym z)); some = o.some }
  counted AnswerWaits e r due = record { asked = λ n q. absurd (begins_asked n q); gives = λ z. o.gives (ap answering e); some = o.some }
  counted Begins e r due = record { asked = λ n q. absurd (begins_asked n q); gives = λ z. o.gives (ap answering e); some = o.some }
  counted (Answers k) e r due = record { asked = λ n q. absurd (answers_asked k n q); gives = λ z. o.gives (ap answering e); some = o.some }
  counted Follows e r due = nothing o.some (λ n q. follows_asked n q) refl
  counted (Bursts k) e r due = nothing o.some (λ n q. bursts_asked k n q) refl

  counts_on : (r : Receiver) (due : ℕ) (event : Event) → Owes (told_by (counts d r due event).told g) (counts d r due event).device
  counts_on r due event = if_both (λ (turn : Turn). Owes g (device_with d r turn d.request d.wish d.length (due - 1))) (back_due d due) _ _ (nothing o.some (λ n q. follows_asked n q) refl) (counted d.turn refl r (due - 1))

  on_silence_lem : (r : Receiver) → Owes (told_by (on_silence d r).told g) (on_silence d r).device
  on_silence_lem r =
      let P : DeviceTaken → Type 0 = λ t. Owes (told_by t.told g) t.device in
      if_both P (inside_frame d.receiver.place) _ _
      (if_both P d.receiver.gap _ _ (counts_on r (broken_due d) Broken) (record { asked = o.asked; gives = o.gives; some = o.some }))
      (counts_on r d.due Nothing)

  on_heard_lem : (heard : Heard) → Owes (told_by (on_heard d heard).told g) (on_heard d heard).device
  unfolding By
  on_heard_lem Silence = on_silence_lem (taken d.receiver Silence).receiver
  on_heard_lem (Character c) = on_character_lem g d o.some _ (taken d.receiver (Character c)).event
  on_heard_lem (Heard.Damaged c kind) = on_character_lem g d o.some _ (taken d.receiver (Heard.Damaged c kind)).event

  takes : (heard : Heard) → Owes (told_by (device_takes d heard).told g) (device_takes d heard).device
  unfolding device_takes
  takes heard = if_both (λ (t : DeviceTaken). Owes (told_by t.told g) t.device) d.deaf _ _ o (on_heard_lem heard)

-- ---- sending

module _ (g : Ledger) (d : Device) (o : Owes g d) (frame bytes contents : List ℕ) where
  after_ack : (burst : Bool) → ((n : ℕ) → behind_ack burst ≡ Asked n → ⊥) × (answering (behind_ack burst) ≡ false)
  unfolding when◌then◌else◌
  after_ack true = (λ n q. follows_asked n q, refl)
  after_ack false = (λ n q. listens_asked n q, refl)

  by_turn : (turn : Turn) → d.turn ≡ turn → (b : List ℕ) → Owes g (sends_by d b turn).device
  by_turn Listens e b = nothing o.some (λ n q. listens_asked n q) refl
  by_turn (Asked k) e b = record { asked = λ n q. o.asked k e; gives = λ z. absurd (true_false (sym z)); some = o.some }
  by_turn AnswerWaits e b = record { asked = λ n q. absurd (accepted_asked n q); gives = λ z. o.gives (ap answering e); some = o.some }
  by_turn Begins e b =
      if_both (λ (s : DeviceSent). Owes g s.device) (0 + 1 <? d.length) _ _
      (record { asked = λ n q. absurd (answers_asked 1 n q); gives = λ z. o.gives (ap answering e); some = o.some })
      (nothing o.some (after_ack (wished d.burst d.wish)).0 (after_ack (wished d.burst d.wish)).1)
  by_turn (Answers k) e b =
      if_both (λ (s : DeviceSent). Owes g s.device) (k + 1 <? d.length) _ _
      (record { asked = λ n q. absurd (answers_asked (k + 1) n q); gives = λ z. o.gives (ap answering e); some = o.some })
      (nothing o.some (after_ack d.burst).0 (after_ack d.burst).1)
  by_turn Follows e b = if_both (λ (s : DeviceSent). Owes g s.device) (0 + 1 <? back_length d) _ _ (nothing o.some (λ n q. bursts_asked 1 n q) refl) (nothing o.some (λ n q. listens_asked n q) refl)
  by_turn (Bursts k) e b = if_both (λ (s : DeviceSent). Owes g s.device) (k + 1 <? d.length) _ _ (nothing o.some (λ n q. bursts_asked (k + 1) n q) refl) (nothing o.some (λ n q. listens_asked n q) refl)

  sent : (t : DeviceTold) (result : CallResult) → Owes g (device_sent d frame bytes contents t result).side.device
  unfolding device_sends
  sent t result = by_turn d.turn refl (begun_frame d d.turn contents frame)

-- ---- the host's call

module _ (limit : ℕ) (g : Ledger) (d : Device) (o : Owes g d) (frame bytes contents : List ℕ) (t : DeviceTold) where
  answer_owes : (wish : Wish) (put : List ℕ) (turn : Turn) → d.turn ≡ turn
      → let s = answer_called (answered_by limit d wish (length put) turn) d (answer_frame d wish put frame) frame bytes contents t in Owes (called_by (gives_answer wish put) s.result g) s.side.device
  unfolding when◌then◌else◌
  answer_owes wish put Listens e = sent g d o frame bytes contents t (CallResult.Refused 8)
  answer_owes wish put (Asked n) e = go (answer_view limit d wish (length put) n)
    where
      by : Called Device → Type 0
      by c = Owes (called_by (gives_answer wish put) (answer_called c d (answer_frame d wish put frame) frame bytes contents t).result g) (answer_called c d (answer_frame d wish put frame) frame bytes contents t).side.device

      not_asked : (b : Bool) (k : ℕ) → (when b then AnswerWaits else Begins) ≡ Asked k → ⊥
      not_asked true k q = accepted_asked k q
      not_asked false k q = begins_asked k q

      ready : (turn : Turn) (size : ℕ) → ((k : ℕ) → turn ≡ Asked k → ⊥) → Owes (answered_with put g) (device_with d d.receiver turn d.request wish size d.due)
      ready turn size f = record { asked = λ k q. absurd (f k q); gives = λ z tag. ap (λ (x : Ledger). found (answered_with put x)) (o.asked n e) ∙ tag; some = o.some }

      go : AnswerView limit d wish (length put) n → by (answered_by limit d wish (length put) (Asked n))
      go (D.AnswerView.is_refused why q) = subst by (sym q) (sent g d o frame bytes contents t (CallResult.Refused why))
      go (D.AnswerView.is_taken least most f q) = subst by (sym q) (sent (answered_with put g) _ (ready (answers_at d n) _ (not_asked (n =? d.profile.sto))) _ bytes contents t CallResult.Taken)
  answer_owes wish put AnswerWaits e = sent g d o frame bytes contents t (CallResult.Refused 8)
  answer_owes wish put Begins e = sent g d o frame bytes contents t (CallResult.Refused 8)
  answer_owes wish put (Answers n) e = sent g d o frame bytes contents t (CallResult.Refused 8)
  answer_owes wish put Follows e = sent g d o frame bytes contents t (CallResult.Refused 8)
  answer_owes wish put (Bursts n) e = sent g d o frame bytes contents t (CallResult.Refused 8)

  content_owes : (command : ℕ) (put : List ℕ) → let s = content_called (content_given limit d command (length put)) d put frame bytes contents t in Owes g s.side.device
  content_owes command put = go (content_view limit d command (length put))
    where
      by : Called Device → Type 0
      by c = Owes g (content_called c d put frame bytes contents t).side.device

      go : ContentView limit d command (length put) → by (content_given limit d command (length put))
      go (D.ContentView.is_refused why q) = subst by (sym q) (sent g d o frame bytes contents t (CallResult.Refused why))
      go (D.ContentView.is_taken least most q) =
          subst by (sym q) (sent g (device_with_content d (record { given = true; command = command; count = length put })) (record { asked = o.asked; gives = o.gives; some = o.some }) frame bytes (Rattle.base.specs.Store.stored contents 0 put) t CallResult.Taken)

-- ---- the tick

pub device_owes : (limit : ℕ) (g : Ledger) (x : DeviceSide) (heard : Heard) (call : DeviceCall) → Owes g x.device → Owes (ledger_after call (device_tick limit x heard call) g) (device_tick limit x heard call).side.device
unfolding answered device_tick
device_owes limit g x heard call o = go call
  where
    t : DeviceTaken
    t = device_takes x.device heard

    now : Owes (told_by (device_takes x.device heard).told g) (device_takes x.device heard).device
    now = takes g x.device o heard

    step : DeviceCall → DeviceStep
    step c = device_calls limit (device_takes x.device heard) c (heard_frame x heard) (device_data x heard) x.contents

    answer_told : (c : Called Device) (put : List ℕ) → (answer_called c t.device put (heard_frame x heard) (device_data x heard) x.contents t.told).told ≡ t.told
    answer_told (accepted d) put = refl
    answer_told (refused why) put = refl

    content_told : (c : Called Device) (put : List ℕ) → (content_called c t.device put (heard_frame x heard) (device_data x heard) x.contents t.told).told ≡ t.told
    content_told (accepted d) put = refl
    content_told (refused why) put = refl

    go : (c : DeviceCall) → Owes (ledger_after c (step c) g) (step c).side.device
    go no_call = sent _ _ now (heard_frame x heard) (device_data x heard) x.contents t.told CallResult.Nothing
    go (gives_answer wish put) =
        subst (λ (z : DeviceTold). Owes (called_by (gives_answer wish put) (step (gives_answer wish put)).result (told_by z g)) (step (gives_answer wish put)).side.device)
        (sym (answer_told (answered_by limit t.device wish (length put) t.device.turn) (answer_frame t.device wish put (heard_frame x heard))))
        (answer_owes limit _ _ now (heard_frame x heard) (device_data x heard) x.contents t.told wish put t.device.turn refl)
    go (gives_content command put) =
        subst (λ (z : DeviceTold). Owes (told_by z g) (step (gives_content command put)).side.device)
        (sym (content_told (content_given limit t.device command (length put)) put))
        (content_owes limit _ _ now (heard_frame x heard) (device_data x heard) x.contents t.told command put)

-- ---- all devices, and a run

pub data AllOwe : List Ledger → List DeviceSide → Type 0 where
  no_more : AllOwe [] []
  owe_and : {g : Ledger} {x : DeviceSide} {gs : List Ledger} {xs : List DeviceSide} → Owes g x.device → AllOwe gs xs → AllOwe (g ∷ gs) (x ∷ xs)

pub all_tick : (limit : ℕ) (heard : Heard) {gs : List Ledger} {xs : List DeviceSide} (cs : List DeviceCall) → AllOwe gs xs → AllOwe (ledgers_after cs (device_ticks limit heard xs cs) gs) (sides (device_ticks limit heard xs cs))
unfolding ledgers_after device_ticks sides
all_tick limit heard cs no_more = no_more
all_tick limit heard [] (owe_and {x = x} o os) = owe_and (device_owes limit _ x heard no_call o) (all_tick limit heard [] os)
all_tick limit heard (c ∷ cs) (owe_and {x = x} o os) = owe_and (device_owes limit _ x heard c o) (all_tick limit heard cs os)

-- one that answers is a finder
none_else : {gs : List Ledger} {xs : List DeviceSide} → AllOwe gs xs → finders gs ≤ 0 → {Q : Type 0} → All (λ (y : DeviceSide). Q → AnswersTag y → ⊥) xs
unfolding finders when◌then◌else◌
none_else no_more z = none
none_else (owe_and {g} {x} {gs} {xs} o os) z {Q} = go (found g) refl (λ k. none_else os k) z
  where
    go : (b : Bool) → found g ≡ b → (finders gs ≤ 0 → All (λ (y : DeviceSide). Q → AnswersTag y → ⊥) xs) → (when b then 1 else 0) + finders gs ≤ 0 → All (λ (y : DeviceSide). Q → AnswersTag y → ⊥) (x ∷ xs)
    go true e rest q = absurd (omega arith)
    go false e rest q = and (λ u a. true_false (sym (o.gives a.on_its_way a.to_tag) ∙ e)) (rest (omega arith))

pub sole : {gs : List Ledger} {xs : List DeviceSide} → AllOwe gs xs → finders gs ≤ 1 → SoleTag xs
unfolding finders when◌then◌else◌
sole no_more z = no_tag
sole (owe_and {g} {x} {gs} {xs} o os) z = go (found g) refl (λ k. sole os k) z
  where
    not_it : (ys : List DeviceSide) → (AnswersTag x → ⊥) → All (λ (y : DeviceSide). AnswersTag x → AnswersTag y → ⊥) ys
    not_it [] f = none
    not_it (y ∷ ys) f = and (λ a b. f a) (not_it ys f)

    go : (b : Bool) → found g ≡ b → (finders gs ≤ 1 → SoleTag xs) → (when b then 1 else 0) + finders gs ≤ 1 → SoleTag (x ∷ xs)
    go true e rest q = tag_and (none_else os (omega arith)) (rest (omega arith))
    go false e rest q = tag_and (not_it xs (λ a. true_false (sym (o.gives a.on_its_way a.to_tag) ∙ e))) (rest (omega arith))

pub one_tag : (limit : ℕ) (gs : List Ledger) (l : Link) (ticks : List Calls) → AllOwe gs l.devices → OneFinds gs ticks (run limit l ticks) → EachTick (λ (s : LinkStep). SoleTag (sides s.for_devices)) (run limit l ticks)
unfolding run link_tick
one_tag limit gs l [] o G.no_tick = R.no_tick
one_tag limit gs l (c ∷ cs) o (G.tick_and q qs) =
    let next = all_tick limit l.line c.for_devices o in
    R.tick_and (sole next q) (one_tag limit (ledgers_after c.for_devices (device_ticks limit l.line l.devices c.for_devices) gs) (link_after (link_tick limit l c)) cs next qs)

-- ---- from the start

pub fresh_owes : {p : Profile} {x : DeviceSide} → DeviceStarts p x → Owes blank x.device
fresh_owes {p} {x} s =
    let turn = ap (λ (z : Device). z.turn) (device_is p s.preamble s.polling s.unique x.device s.starts).is in
    nothing {d = x.device} (started_unique p s.preamble s.polling s.unique x.device s.starts) (λ n q. listens_asked n (sym turn ∙ q)) (ap answering turn)

pub fresh_owe : {p : Profile} {xs : List DeviceSide} → All (DeviceStarts p) xs → AllOwe (blanks xs) xs
unfolding blanks
fresh_owe none = no_more
fresh_owe (and s ss) = owe_and (fresh_owes s) (fresh_owe ss)

both : {ss : List LinkStep} → EachTick OneBursts ss → EachTick (λ (s : LinkStep). SoleTag (sides s.for_devices)) ss → EachTick Fair ss
both R.no_tick R.no_tick = R.no_tick
both (R.tick_and a q) (R.tick_and b r) = R.tick_and (a, b) (both q r)

pub fair_run : (limit : ℕ) (p : Profile) (retries : ℕ) (l : Link) (ticks : List Calls) → Premises limit p retries l ticks → EachTick Fair (run limit l ticks)
fair_run limit p retries l ticks k = both k.one_bursts (one_tag limit (blanks l.devices) l ticks (fresh_owe k.starts.devices) k.one_finds)

-- ---- a device behind any ticks, whatever it heard and its host called

pub data Reached (limit : ℕ) (p : Profile) : DeviceSide → Type 0 where
  started : {x : DeviceSide} → DeviceStarts p x → Reached limit p x
  ticked : {x : DeviceSide} (heard : Heard) (call : DeviceCall) → Reached limit p x → Reached limit p (device_tick limit x heard call).side

record Kept (x : DeviceSide) : Type 0 where
  g : Ledger
  owes : Owes g x.device

reached_owes : {limit : ℕ} {p : Profile} {x : DeviceSide} → Reached limit p x → Kept x
reached_owes (started s) = record { g = blank; owes = fresh_owes s }
reached_owes {limit} (ticked {x} heard call r) = let k = reached_owes r in record { g = _; owes = device_owes limit k.g x heard call k.owes }

-- what TagSentences says of broadcasts holds of it
pub reached_unique : {limit : ℕ} {p : Profile} {x : DeviceSide} → Reached limit p x → 1 ≤ x.device.unique
reached_unique r = (reached_owes r).owes.some
