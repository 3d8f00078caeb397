-- Theorems on document 02, item 1, for a master and a device: one silent tick inside a frame "is now passed over", and behind the second in a row, which breaks the frame, "both then count in the timers".
use Prim.Native.Nat.{ℕ, zero, suc, ◌+◌, ◌-◌, ◌≤◌}
use native.Mathlib.Omega.{arith}
use mathlib.Core.Path.{◌≡◌, refl, sym, ap, subst, ◌∙◌}
use mathlib.Core.Bool.{true, false}
use mathlib.Core.List.{List, [], ◌∷◌}
use mathlib.Core.Logic.{◌⊎◌, inl, inr}
use lib.ListN.{length}
use borrow.Author.Tests.{lt-ltb}
use Rattle.base.specs.Refusal.{Called, accepted, refused}
use Rattle.base.specs.Choice.{when◌then◌else◌, ◌<?◌, ◌=?◌, ◌outside◌to◌}
use Rattle.base.specs.Store.{stored}
use Rattle.base.proofs.Choices.{true_false, if_is_true, if_is_false}
use Rattle.frame.specs.Address.{byte_at, address_above}
use Rattle.frame.specs.Frame.{frame_bytes}
use Rattle.line.specs.Reader.{character, idle, gapped, taken, taken_data, inside_frame}
use Rattle.line.specs.declared.Event.{Event}
use Rattle.line.specs.declared.Event.TheVariants.{Nothing, Broken}
use Rattle.line.specs.declared.Heard.{Heard}
use Rattle.line.specs.declared.Heard.TheVariants.{Silence, Character}
use Rattle.line.specs.declared.Profile.{Profile}
use Rattle.line.specs.declared.Receiver.{Receiver}
use Rattle.line.specs.Gaps.{IsCharacter, is_sound, is_with_damage}
use Rattle.line.proofs.Gaps.{Within, goes_within}
use Rattle.line.proofs.Ticks.{Inside}
use Rattle.turns.specs.Master as M
use Rattle.turns.specs.Party.{is_broadcast}
use Rattle.turns.specs.Master.{requested, requested_up_to, polling_up_to, request_header, has_message, command_refused, master_takes, sends_by, master_sends}
use Rattle.turns.specs.Device as D
use Rattle.turns.specs.Device.{error_frame, back_due, back_length, begun_frame, device_with_content, content_given, answered, answered_by, answer_frame, device_takes, device_sends}
use Rattle.turns.specs.Link.{MasterCall, no_request, requests, DeviceCall, no_call, gives_answer, gives_content, MasterSide, MasterStep, DeviceSide, DeviceStep, master_sent, master_called, master_calls, master_tick, master_data, device_sent, answer_called, content_called, device_calls, device_tick, device_data, heard_frame}
use Rattle.turns.specs.Gaps.{InsideFrame, master_sents, device_sents, master_results, master_silence, device_silence, BeginsAfter, begins, waits, TakenWithin, now, later, ToSend, message_waits, retry_left, behind_break, cut_off, ToBegin, in_hand, request_taken, MasterBeginsBehindBreak, MasterCountsBoth, DeviceCountsBoth, MasterGapPassed, DeviceGapPassed}
use Rattle.turns.specs.declared.CallResult.{CallResult}
use Rattle.turns.specs.declared.Request.{Request}
use Rattle.turns.specs.declared.Sent.{Sent}
use Rattle.turns.specs.declared.Sent.TheVariants.{Silent}
use Rattle.turns.specs.declared.Stage.{Stage}
use Rattle.turns.specs.declared.Stage.TheVariants.{Free, Waiting, Sending, Awaiting}
use Rattle.turns.specs.declared.Turn.{Turn}
use Rattle.turns.specs.declared.Turn.TheVariants.{Listens, Follows}
use Rattle.turns.specs.declared.Timer.{Timer}
use Rattle.turns.specs.declared.Message.{Message}
use Rattle.turns.specs.declared.Wish.{Wish}
use Rattle.turns.specs.declared.Content.{Content}
use Rattle.turns.specs.declared.Master.{Master}
use Rattle.turns.specs.declared.MasterTold.{MasterTold}
use Rattle.turns.specs.declared.MasterTaken.{MasterTaken}
use Rattle.turns.specs.declared.MasterSent.{MasterSent}
use Rattle.turns.specs.declared.Device.{Device}
use Rattle.turns.specs.declared.DeviceTold.{DeviceTold}
use Rattle.turns.specs.declared.DeviceTaken.{DeviceTaken}
use Rattle.turns.specs.declared.DeviceSent.{DeviceSent}
use Rattle.turns.proofs.Bursting.{if_both}
use Rattle.turns.proofs.Masters.{Still, is_free, is_waiting, is_awaiting, if_cases, resting, with_message}
use Rattle.turns.proofs.Breaks.{master_gapped, master_as_if, device_gapped, device_as_if, master_still, device_still, FreeOrWaiting, Left, clear, set, shut, Counted, counted, one_less, opens, RestsFor, Broke, both_count_at_rest, DueIn, counts_due, both_count_due, to_still, it_waits}
use Rattle.turns.proofs.Devices.{ContentView, is_refused, is_taken, content_view}
use Rattle.turns.proofs.Fresh.{valid}
use Rattle.turns.proofs.Windows.{Valid}
use Rattle.turns.proofs.Silent.{master_outside, device_outside}

-- ---- a tick of a master, by what its host's request comes to: it is not taken, or the new message waits

request_by : (limit : ℕ) (m : Master) (q : Request) (count : ℕ) (P : Called Master → Type 0) → ((why : ℕ) → P (refused why)) → ((g : Message) → g.stage ≡ Waiting → has_message m.message.stage ≡ false → P (accepted (with_message m g))) → P (requested limit m q count)
unfolding requested requested_up_to
request_by limit m q count P r a =
    if_both P (q.preamble outside 5 to 20) _ _ (r _)
    (if_both P (q.revision outside 3 to 7) _ _ (r _)
    (if_both P (address_above (polling_up_to q.revision) (request_header m q)) _ _ (r _)
    (if_both P (command_refused q) _ _ (r _)
    (if_both P (limit <? count) _ _ (r _)
    (if_cases P (has_message m.message.stage) _ _ (λ z. r _) (λ z. a _ refl z))))))

nothing_taken : CallResult.Nothing ≡ CallResult.Taken → ⊥
nothing_taken e = let z : ◌≡◌ {A = ℕ} 0 1 = cc in omega arith

refused_taken : (why : ℕ) → CallResult.Refused why ≡ CallResult.Taken → ⊥
refused_taken why e = let z : ◌≡◌ {A = ℕ} 0 1 = cc in omega arith

abbrev took : MasterSide → Heard → Master
took x heard = (master_takes x.master heard (master_data x heard)).master

tick_by : (limit : ℕ) (x : MasterSide) (heard : Heard) (call : MasterCall) (P : MasterStep → Type 0)
    → ((result : CallResult) → (result ≡ CallResult.Taken → ⊥) → (bytes : List ℕ) (told : MasterTold) → P (master_sent (master_sends (took x heard) x.frame) x.frame bytes told result))
    → ((g : Message) → g.stage ≡ Waiting → has_message (took x heard).message.stage ≡ false → (frame bytes : List ℕ) (told : MasterTold) → P (master_sent (master_sends (with_message (took x heard) g) frame) frame bytes told CallResult.Taken))
    → P (master_tick limit x heard call)
unfolding master_tick
tick_by limit x heard no_request P a b = a CallResult.Nothing nothing_taken _ _
tick_by limit x heard (requests q put) P a b =
    let u : MasterTaken = master_takes x.master heard (master_data x heard) in
    request_by limit u.master q (length put) (λ c. P (master_called c u.master (frame_bytes q.preamble (request_header u.master q) put) x.frame (master_data x heard) u.told))
    (λ why. a (CallResult.Refused why) (refused_taken why) _ _) (λ g e f. b g e f _ _ _)

-- it sends nothing: it is not sending, and no window is open
abbrev nothing_sent : Master → MasterSent
nothing_sent m = M.sends m false m.timer m.message m.receiver Silent

sends_nothing : (m : Master) (frame : List ℕ) → Still m.message.stage → m.timer.window ≡ 0 → master_sends m frame ≡ nothing_sent m
unfolding master_sends
sends_nothing m frame v w = by m.message.stage v
  where
    by : (s : Stage) → Still s → sends_by m frame s ≡ nothing_sent m
    by Free is_free = refl
    by Waiting is_waiting = if_is_false (0 <? m.timer.window) _ _ (ap (λ (n : ℕ). 0 <? n) w)
    by (Awaiting n) (is_awaiting k) = refl
    by (Sending _) x'' = elim x'' [ ]

-- a tick in which it sends nothing, after what it took
record Rests (t : Master) (s : MasterStep) : Type 0 where
  message : Message
  is_silent : s.sent ≡ Silent
  after_is : s.side.master ≡ resting t message
  same_or_new : (message ≡ t.message) ⊎ (message.stage ≡ Waiting)
  taken_waits : s.result ≡ CallResult.Taken → message.stage ≡ Waiting

rests : (limit : ℕ) (x : MasterSide) (heard : Heard) (call : MasterCall) (t : Master) → took x heard ≡ t → Still t.message.stage → t.timer.window ≡ 0 → Rests t (master_tick limit x heard call)
rests limit x heard call t e v w = subst (λ (z : Master). Rests z (master_tick limit x heard call)) e (go (subst (λ (z : Master). Still z.message.stage) (sym e) v) (ap (λ (z : Master). z.timer.window) e ∙ w))
  where
    u : Master
    u = took x heard

    go : Still u.message.stage → u.timer.window ≡ 0 → Rests u (master_tick limit x heard call)
    go v w =
        tick_by limit x heard call (Rests u)
        (λ result n bytes told.
        let z = sends_nothing u x.frame v w in
        record { message = u.message; is_silent = ap (λ (s : MasterSent). s.sent) z; after_is = ap (λ (s : MasterSent). s.master) z; same_or_new = inl refl; taken_waits = λ q. absurd (n q) })
        (λ g e f frame bytes told.
        let z = sends_nothing (with_message u g) frame (subst Still (sym e) is_waiting) w in
        record { message = g; is_silent = ap (λ (s : MasterSent). s.sent) z; after_is = ap (λ (s : MasterSent). s.master) z; same_or_new = inr e; taken_waits = λ q. e })

still_on : {t : Master} {s : MasterStep} (r : Rests t s) → Still t.message.stage → Still r.message.stage
still_on {t} {s} r v = go r.same_or_new
  where
    go : (r.message ≡ t.message) ⊎ (r.message.stage ≡ Waiting) → Still r.message.stage
    go (inl e) = subst (λ (g : Message). Still g.stage) (sym e) v
    go (inr e) = subst Still (sym e) is_waiting

none_still : {z : Stage} → FreeOrWaiting z → Still z
none_still (inl e) = subst Still (sym e) is_free
none_still (inr e) = subst Still (sym e) is_waiting

none_awaited_on : {t : Master} {s : MasterStep} (r : Rests t s) → FreeOrWaiting t.message.stage → FreeOrWaiting r.message.stage
none_awaited_on {t} {s} r v = go r.same_or_new
  where
    go : (r.message ≡ t.message) ⊎ (r.message.stage ≡ Waiting) → FreeOrWaiting r.message.stage
    go (inl e) = subst (λ (g : Message). FreeOrWaiting g.stage) (sym e) v
    go (inr e) = inr e

-- ---- what it has to send n ticks on: by now, or by a request that is taken meanwhile

abbrev Coming : ℕ → Master → List CallResult → Type 0
Coming n m results = ToSend m ⊎ TakenWithin n results

same_to : {m n : Master} → n.message ≡ m.message → n.retries ≡ m.retries → ToSend m → ToSend n
same_to g r (message_waits e) = message_waits (ap (λ (x : Message). x.stage) g ∙ e)
same_to g r (retry_left n e b t) =
    retry_left n (ap (λ (x : Message). x.stage) g ∙ e) (ap (λ (x : Message). is_broadcast x.header) g ∙ b) (omega (arith, ap (λ (x : Message). x.attempts) g, r, t))

coming_same : {n : ℕ} {m t : Master} {rs : List CallResult} → t.message ≡ m.message → t.retries ≡ m.retries → Coming n m rs → Coming n t rs
coming_same g r (inl d) = inl (same_to g r d)
coming_same g r (inr w) = inr w

-- a tick further
coming_on : {n : ℕ} {t : Master} {s : MasterStep} {rs : List CallResult} (r : Rests t s) (result : CallResult) → s.result ≡ result → Coming (suc n) t (result ∷ rs) → Coming n (resting t r.message) rs
coming_on {n} {t} {s} {rs} r result e c = by result e c
  where
    on : (r.message ≡ t.message) ⊎ (r.message.stage ≡ Waiting) → ToSend t → ToSend (resting t r.message)
    on (inl q) d = same_to q refl d
    on (inr q) d = message_waits q

    by : (z : CallResult) → s.result ≡ z → Coming (suc n) t (z ∷ rs) → Coming n (resting t r.message) rs
    by z q (inl d) = inl (on r.same_or_new d)
    by z q (inr now) = inl (message_waits (r.taken_waits q))
    by z q (inr (later w)) = inr w

coming_after : {n : ℕ} {t : Master} {s : MasterStep} {rs : List CallResult} (r : Rests t s) → Coming n (resting t r.message) rs → Coming n s.side.master rs
coming_after {n} {rs = rs} r c = subst (λ (z : Master). Coming n z rs) (sym r.after_is) c

-- in the last of these ticks
taken_last : {n : ℕ} {r : CallResult} {rs : List CallResult} → n ≡ 0 → TakenWithin n (r ∷ rs) → r ≡ CallResult.Taken
taken_last e now = refl
taken_last e (later w) = absurd (omega arith)

-- ---- behind the break

-- a silent tick
counted_tick : (m : Master) (bytes : List ℕ) → m.deaf ≡ false → m.receiver ≡ idle → FreeOrWaiting m.message.stage → Counted m (master_takes m Silence bytes).master
unfolding master_takes
counted_tick m bytes hears e v =
    let n : Master = M.master_with m idle m.burst m.noted m.timer m.message in
    let takes : master_takes m Silence bytes ≡ M.counts n MasterTold.Nothing Nothing =
    if_is_false m.deaf _ _ hears ∙ master_outside m (ap (λ (r : Receiver). inside_frame r.place) e) in
    let c = counted n MasterTold.Nothing Nothing v in
    subst (λ (t : MasterTaken). Counted m t.master) (sym takes)
    (record { timer_is = c.timer_is; burst_is = c.burst_is; same_stage = c.same_stage; same_profile = c.same_profile; same_receiver = c.same_receiver ∙ sym e; same_deaf = c.same_deaf })

same_left : {k : ℕ} {m n : Master} → n.burst ≡ m.burst → n.timer ≡ m.timer → Left k m → Left k n
same_left b t (clear off n w) = clear (b ∙ off) (ap (λ (x : Timer). x.next) t ∙ n) (ap (λ (x : Timer). x.window) t ∙ w)
same_left b t (set on q n w) = set (b ∙ on) (ap (λ (x : Timer). x.quiet) t ∙ q) (ap (λ (x : Timer). x.next) t ∙ n) (ap (λ (x : Timer). x.window) t ∙ w)

-- the first character goes out
is_character : (m : Master) (frame : List ℕ) → m.message.stage ≡ Waiting → 1 ≤ m.timer.window → (master_sends m frame).sent ≡ Sent.Character (byte_at frame 0)
unfolding master_sends
is_character m frame e w =
    let at = ap (sends_by m frame) e ∙ if_is_true (0 <? m.timer.window) _ _ (lt-ltb 0 m.timer.window (omega arith)) in
    ap (λ (s : MasterSent). s.sent) at ∙ if_both (λ (s : MasterSent). s.sent ≡ Sent.Character (byte_at frame 0)) (0 + 1 <? m.message.length) _ _ refl refl

first_of : (c : ℕ) {s : Sent} {ss : List Sent} → s ≡ Sent.Character c → BeginsAfter 0 (s ∷ ss)
first_of c {s} {ss} e = subst (λ (z : Sent). BeginsAfter 0 (z ∷ ss)) (sym e) begins

one_silent : {n : ℕ} {s : Sent} {ss : List Sent} → s ≡ Silent → BeginsAfter n ss → BeginsAfter (suc n) (s ∷ ss)
one_silent {n} {s} {ss} e b = subst (λ (z : Sent). BeginsAfter (suc n) (z ∷ ss)) (sym e) (waits b)

speaks : (limit : ℕ) (x : MasterSide) (heard : Heard) (call : MasterCall) (ss : List Sent) → 1 ≤ (took x heard).timer.window → ((took x heard).message.stage ≡ Waiting) ⊎ ((master_tick limit x heard call).result ≡ CallResult.Taken)
    → BeginsAfter 0 ((master_tick limit x heard call).sent ∷ ss)
speaks limit x heard call ss w =
    tick_by limit x heard call (λ (s : MasterStep). ((took x heard).message.stage ≡ Waiting) ⊎ (s.result ≡ CallResult.Taken) → BeginsAfter 0 (s.sent ∷ ss))
    (λ result n bytes told. not_taken result n)
    (λ g e f frame bytes told z. first_of (byte_at frame 0) (is_character (with_message (took x heard) g) frame e w))
  where
    not_taken : (result : CallResult) → (result ≡ CallResult.Taken → ⊥) → ((took x heard).message.stage ≡ Waiting) ⊎ (result ≡ CallResult.Taken) → BeginsAfter 0 ((master_sends (took x heard) x.frame).sent ∷ ss)
    not_taken result n (inl e) = first_of (byte_at x.frame 0) (is_character (took x heard) x.frame e w)
    not_taken result n (inr e) = absurd (n e)

-- to the window
runs : (limit k : ℕ) (x : MasterSide) (calls : List MasterCall) → suc k ≤ length calls → RestsFor (suc k) x.master → Coming k x.master (master_results limit x (master_silence calls)) → BeginsAfter k (master_sents limit x (master_silence calls))
unfolding master_sents master_results master_silence
runs limit k x [] few w d = absurd (omega arith)
runs limit zero x (c ∷ cs) few w d = speaks limit x Silence c _ (omega (arith, opens is w.left, w.some_hold)) (by d)
  where
    is : Counted x.master (took x Silence)
    is = counted_tick x.master (master_data x Silence) w.hears w.idle_is w.awaits_none

    by : {rs : List CallResult} → Coming 0 x.master ((master_tick limit x Silence c).result ∷ rs) → ((took x Silence).message.stage ≡ Waiting) ⊎ ((master_tick limit x Silence c).result ≡ CallResult.Taken)
    by (inl z) = inl (is.same_stage ∙ it_waits w.awaits_none z)
    by (inr z) = inr (taken_last refl z)
runs limit (suc k) x (c ∷ cs) few w d =
    let left : Left (suc k) t = one_less k is w.left in
    let none : FreeOrWaiting t.message.stage = subst FreeOrWaiting (sym is.same_stage) w.awaits_none in
    let s = rests limit x Silence c t refl (none_still none) (shut left) in
    one_silent s.is_silent
    (runs limit k _ cs (omega arith) (subst (RestsFor (suc k)) (sym s.after_is)
    (record { hears = refl; idle_is = is.same_receiver ∙ w.idle_is; awaits_none = none_awaited_on s none; some_hold = subst (λ (p : Profile). 1 ≤ p.hold) (sym is.same_profile) w.some_hold; left = same_left refl refl left }))
    (coming_after s (coming_on s _ refl (counted_on d))))
  where
    t : Master
    t = took x Silence

    is : Counted x.master t
    is = counted_tick x.master (master_data x Silence) w.hears w.idle_is w.awaits_none

    counted_on : {rs : List CallResult} → Coming (suc k) x.master rs → Coming (suc k) t rs
    counted_on (inl z) = inl (message_waits (is.same_stage ∙ it_waits w.awaits_none z))
    counted_on (inr z) = inr z

-- ---- the whole of it

-- a character inside a frame stops the timer
abbrev stopped : Master → Heard → Master
stopped m last = M.master_with m (taken m.receiver last).receiver m.burst m.noted (M.timer 0) m.message

stops : (m : Master) (last : Heard) (bytes : List ℕ) → m.deaf ≡ false → IsCharacter last → (taken m.receiver last).event ≡ Nothing → master_takes m last bytes ≡ M.tells (stopped m last) MasterTold.Nothing Nothing
unfolding master_takes
stops m (Character z) bytes hears is_sound inside = if_is_false m.deaf _ _ hears ∙ ap (λ (e : Event). M.on_character m (taken m.receiver (Character z)).receiver e bytes) inside
stops m (Heard.Damaged z kind) bytes hears is_with_damage inside = if_is_false m.deaf _ _ hears ∙ ap (λ (e : Event). M.on_character m (taken m.receiver (Heard.Damaged z kind)).receiver e bytes) inside
stops m Silence bytes hears x3 inside = elim x3 [ ]

-- one that sends nothing then is not sending
silent_still : (m : Master) (frame : List ℕ) → (master_sends m frame).sent ≡ Silent → Still m.message.stage
unfolding master_sends
silent_still m frame z = by m.message.stage z
  where
    spoke : {c : ℕ} {t : Sent} → t ≡ Sent.Character c → t ≡ Silent → ⊥
    spoke e q = let z : ◌≡◌ {A = ℕ} 0 1 = cc in omega arith

    by : (s : Stage) → (sends_by m frame s).sent ≡ Silent → Still s
    by Free q = is_free
    by Waiting q = is_waiting
    by (Sending n) q = absurd (spoke (if_both (λ (t : MasterSent). t.sent ≡ Sent.Character (byte_at frame n)) (n + 1 <? m.message.length) _ _ refl refl) q)
    by (Awaiting n) q = is_awaiting n

free_still : (s : Stage) → has_message s ≡ false → Still s
free_still Free e = is_free
free_still Waiting e = absurd (true_false e)
free_still (Sending n) e = absurd (true_false e)
free_still (Awaiting n) e = absurd (true_false e)

module _ (limit : ℕ) (x : MasterSide) (last : Heard) (call : MasterCall) (cut : InsideFrame last x.master.deaf x.master.receiver) where
  takes_last : took x last ≡ stopped x.master last
  takes_last = ap (λ (u : MasterTaken). u.master) (stops x.master last (master_data x last) cut.hears cut.character cut.inside)

  last_still : (master_tick limit x last call).sent ≡ Silent → Still x.master.message.stage
  last_still z =
      subst (λ (m : Master). Still m.message.stage) takes_last
      (tick_by limit x last call (λ (s : MasterStep). s.sent ≡ Silent → Still (took x last).message.stage)
      (λ result n bytes told q. silent_still _ _ q) (λ g e f frame bytes told q. free_still _ f) z)

  rests_last : Still x.master.message.stage → Rests (stopped x.master last) (master_tick limit x last call)
  rests_last v = rests limit x last call (stopped x.master last) takes_last v refl

at_least_three : (m : Master) → Valid m.profile → 3 ≤ behind_break m
at_least_three m v =
    if_both (λ (n : ℕ). 3 ≤ n) m.burst _ _
    (if_both (λ (n : ℕ). 3 ≤ n) m.primary _ _ (omega (arith, v.some_hold, v.hold_short, v.rt2_short)) (omega (arith, v.some_hold, v.hold_short, v.rt2_short)))
    (if_both (λ (n : ℕ). 3 ≤ n) m.primary _ _ (omega (arith, v.some_hold, v.hold_short, v.rt2_short)) (omega (arith, v.some_hold, v.hold_short, v.rt2_short, v.secondary)))

from_three : (n : ℕ) → 3 ≤ n → (k : ℕ) × (n ≡ suc (suc (suc k)))
from_three n h = (n - 3, omega arith)

pub master_begins_behind_break : (limit : ℕ) → MasterBeginsBehindBreak limit
unfolding master_sents master_results master_silence
master_begins_behind_break limit x last call calls made cut due long =
    let v : Valid x.master.profile = valid x.master.profile made in
    let n = from_three (behind_break x.master) (at_least_three x.master v) in
    subst (λ (z : ℕ). BeginsAfter z (master_sents limit x (cut_off last call calls))) (sym n.1) (go n.0 n.1 calls (omega (arith, n.1, long)) (subst (λ (z : ℕ). Coming z m (master_results limit x (cut_off last call calls))) n.1 (coming due)))
  where
    m : Master
    m = x.master

    r : Receiver
    r = (taken m.receiver last).receiver

    within : Within r
    within = goes_within m.receiver cut.character cut.inside

    coming : ToBegin limit x last call calls → Coming (behind_break m) m (master_results limit x (cut_off last call calls))
    coming (in_hand d) = inl d
    coming (request_taken z q) = inr q

    still_of : ToBegin limit x last call calls → Still m.message.stage
    still_of (in_hand d) = to_still d
    still_of (request_taken z q) = last_still limit x last call cut z

    -- behind the last character
    t : Master
    t = stopped m last

    a : Rests t (master_tick limit x last call)
    a = rests_last limit x last call cut (still_of due)

    y : MasterSide
    y = (master_tick limit x last call).side

    go : (k : ℕ) → behind_break m ≡ suc (suc (suc k)) → (cs : List MasterCall) → suc (suc (suc k)) ≤ length cs → Coming (suc (suc (suc k))) m (master_results limit x (cut_off last call cs))
        → BeginsAfter (suc (suc (suc k))) (master_sents limit x (cut_off last call cs))
    go k e [] few d = absurd (omega arith)
    go k e (c ∷ []) few d = absurd (omega arith)
    go k e (c ∷ f ∷ fs) few d = one_silent a.is_silent (one_silent b.is_silent (one_silent s.is_silent (runs limit k _ fs (omega arith) waits_on (coming_after s (coming_on s _ refl (broken_on second))))))
      where
        -- behind the tick that is passed over
        u : Master
        u = M.master_with (resting t a.message) (gapped r) m.burst m.noted (M.timer 0) a.message

        still : took y Silence ≡ u
        still = ap (λ (z : Master). (master_takes z Silence (master_data y Silence)).master) a.after_is ∙ ap (λ (z : MasterTaken). z.master) (master_still (resting t a.message) (master_data y Silence) refl within.inside within.no_gap)

        b : Rests u (master_tick limit y Silence c)
        b = rests limit y Silence c u still (still_on a (still_of due)) refl

        w : MasterSide
        w = (master_tick limit y Silence c).side

        second : Coming (suc k) (resting u b.message) (master_results limit w (master_silence (f ∷ fs)))
        second = coming_on b _ refl (coming_same refl refl (coming_on a _ refl (coming_same refl refl d)))

        -- behind the second
        z : Master
        z = took w Silence

        after : Broke (suc k) (resting u b.message) z
        after = subst (λ (n : Master). Broke (suc k) (resting u b.message) (master_takes n Silence (master_data w Silence)).master) (sym b.after_is)
            (both_count_at_rest k (resting u b.message) (master_data w Silence) refl within.inside refl (still_on b (still_on a (still_of due))) (valid m.profile made).some_hold e)

        broken_on : {n : ℕ} {rs : List CallResult} → Coming n (resting u b.message) rs → Coming n z rs
        broken_on (inl q) = inl (after.to_send q)
        broken_on (inr q) = inr q

        s : Rests z (master_tick limit w Silence f)
        s = rests limit w Silence f z refl (none_still after.waits.awaits_none) (shut after.waits.left)

        waits_on : RestsFor (suc k) (master_tick limit w Silence f).side.master
        waits_on = subst (RestsFor (suc k)) (sym s.after_is)
            (record { hears = refl; idle_is = after.waits.idle_is; awaits_none = none_awaited_on s after.waits.awaits_none; some_hold = after.waits.some_hold; left = same_left refl refl after.waits.left })

-- a message in hand, or its retry
pub master_counts_both : (limit : ℕ) → MasterCountsBoth limit
master_counts_both limit x last call calls made cut due long = master_begins_behind_break limit x last call calls made cut (in_hand due) long

-- ---- the silent tick that is passed over, of a master

-- behind a character inside a frame, of a master that is not sending
record ListensIn (r : Receiver) (m : Master) : Type 0 where
  hears : m.deaf ≡ false
  receiver_is : m.receiver ≡ r
  still : Still m.message.stage
  window : m.timer.window ≡ 0

behind_character : (limit : ℕ) (x : MasterSide) (last : Heard) (call : MasterCall) → InsideFrame last x.master.deaf x.master.receiver → (master_tick limit x last call).sent ≡ Silent
    → ListensIn (taken x.master.receiver last).receiver (master_tick limit x last call).side.master
behind_character limit x last call cut z =
    let v = last_still limit x last call cut z in
    let s = rests_last limit x last call cut v in
    subst (ListensIn (taken x.master.receiver last).receiver) (sym s.after_is) (record { hears = refl; receiver_is = refl; still = still_on s v; window = refl })

data_as_if : (r : Receiver) (heard : Heard) (b : List ℕ) → taken_data (gapped r) heard b ≡ taken_data r heard b
unfolding taken_data
data_as_if r Silence b = refl
data_as_if r (Character c) b = refl
data_as_if r (Heard.Damaged c kind) b = refl

module _ (limit : ℕ) (y : MasterSide) (within : Within y.master.receiver) (l : ListensIn y.master.receiver y.master) where
  gap_side : MasterSide
  gap_side = record { master = master_gapped y.master; frame = y.frame; bytes = y.bytes }

  gap_step : MasterStep
  gap_step = record { side = gap_side; sent = Silent; told = MasterTold.Nothing; result = CallResult.Nothing }

  gap_is : master_tick limit y Silence no_request ≡ gap_step
  unfolding master_tick gap_side gap_step taken_data
  gap_is =
      let m = y.master in
      let bytes : master_data y Silence ≡ y.bytes = if_is_false m.deaf _ _ l.hears in
      ap (λ (u : MasterTaken). master_calls limit u no_request y.frame (master_data y Silence)) (master_still m (master_data y Silence) l.hears within.inside within.no_gap)
      ∙ ap (λ (s : MasterSent). master_sent s y.frame (master_data y Silence) MasterTold.Nothing CallResult.Nothing) (sends_nothing (master_gapped m) y.frame l.still l.window)
      ∙ (λ i. record {
        side = record { master = (M.sends (master_gapped m) (sym l.hears i) m.timer m.message (gapped m.receiver) Silent).master; frame = y.frame; bytes = bytes i };
        sent = Silent;
        told = MasterTold.Nothing;
        result = CallResult.Nothing;
      })

  as_if_no_gap : (next : Heard) (call : MasterCall) → IsCharacter next → master_tick limit gap_side next call ≡ master_tick limit y next call
  unfolding master_tick gap_side
  as_if_no_gap next call n =
      let same : master_data gap_side next ≡ master_data y next = ap (λ (b : List ℕ). when y.master.deaf then y.bytes else b) (data_as_if y.master.receiver next y.bytes) in
      (λ i. master_calls limit (master_takes (master_gapped y.master) next (same i)) call y.frame (same i))
      ∙ ap (λ (u : MasterTaken). master_calls limit u call y.frame (master_data y next)) (master_as_if y.master next (master_data y next) l.hears n)

pub master_gap_passed : (limit : ℕ) → MasterGapPassed limit
unfolding gap_side gap_step
master_gap_passed limit x last next call after cut silent n =
    let y : MasterSide = (master_tick limit x last call).side in
    let l = behind_character limit x last call cut silent in
    let within : Within y.master.receiver = subst Within (sym l.receiver_is) (goes_within x.master.receiver cut.character cut.inside) in
    let here : ListensIn y.master.receiver y.master = record { hears = l.hears; receiver_is = refl; still = l.still; window = l.window } in
    let e = gap_is limit y within here in
    record {
      sends_nothing = ap (λ (s : MasterStep). s.sent) e;
      tells_nothing = ap (λ (s : MasterStep). s.told) e;
      as_if_not = ap (λ (s : MasterStep). master_tick limit s.side next after) e ∙ as_if_no_gap limit y within here next after n;
    }

-- ---- a bursting device, in silence

-- the host's call: no request is in hand, so only the content can have changed
called : (limit : ℕ) (t : DeviceTaken) (call : DeviceCall) (frame bytes contents : List ℕ) (P : DeviceStep → Type 0) → (t.device.turn ≡ Listens) ⊎ (t.device.turn ≡ Follows)
    → ((c : Content) (contents : List ℕ) (result : CallResult) → P (device_sent (device_with_content t.device c) frame bytes contents t.told result)) → P (device_calls limit t call frame bytes contents)
unfolding answered
called limit t no_call frame bytes contents P turn p = p t.device.content contents CallResult.Nothing
called limit t (gives_answer wish put) frame bytes contents P turn p = subst (λ (c : Called Device). P (answer_called c t.device (answer_frame t.device wish put frame) frame bytes contents t.told)) (sym (no_request_in turn)) (p t.device.content contents (CallResult.Refused 8))
  where
    no_request_in : (t.device.turn ≡ Listens) ⊎ (t.device.turn ≡ Follows) → answered_by limit t.device wish (length put) t.device.turn ≡ refused 8
    no_request_in (inl e) = ap (answered_by limit t.device wish (length put)) e
    no_request_in (inr e) = ap (answered_by limit t.device wish (length put)) e
called limit t (gives_content command put) frame bytes contents P turn p = go (content_view limit t.device command (length put))
  where
    Q : Called Device → Type 0
    Q c = P (content_called c t.device put frame bytes contents t.told)

    go : ContentView limit t.device command (length put) → Q (content_given limit t.device command (length put))
    go (is_refused why e) = subst Q (sym e) (p t.device.content contents (CallResult.Refused why))
    go (is_taken least most e) = subst Q (sym e) (p (record { given = true; command = command; count = length put }) (stored contents 0 put) CallResult.Taken)

-- nothing is sent
record Rested (t : Device) (s : DeviceStep) : Type 0 where
  is_silent : s.sent ≡ Silent
  hears : s.side.device.deaf ≡ false
  same_receiver : s.side.device.receiver ≡ t.receiver
  same_turn : s.side.device.turn ≡ Listens
  same_burst : s.side.device.burst ≡ t.burst
  same_due : s.side.device.due ≡ t.due
  same_profile : s.side.device.profile ≡ t.profile

sent_in : (d : Device) (frame bytes contents : List ℕ) (told : DeviceTold) (result : CallResult) (turn : Turn) → d.turn ≡ turn → device_sent d frame bytes contents told result ≡ record {
  side = record { device = (D.sends_by d (begun_frame d turn contents frame) turn).device; frame = begun_frame d turn contents frame; bytes = bytes; contents = contents };
  sent = (D.sends_by d (begun_frame d turn contents frame) turn).sent;
  told = told;
  result = result;
}
unfolding device_sends
sent_in d frame bytes contents told result turn e = λ i. record {
  side = record { device = (D.sends_by d (begun_frame d (e i) contents frame) (e i)).device; frame = begun_frame d (e i) contents frame; bytes = bytes; contents = contents };
  sent = (D.sends_by d (begun_frame d (e i) contents frame) (e i)).sent;
  told = told;
  result = result;
}

rested : (limit : ℕ) (x : DeviceSide) (heard : Heard) (call : DeviceCall) → (device_takes x.device heard).device.turn ≡ Listens → Rested (device_takes x.device heard).device (device_tick limit x heard call)
unfolding device_tick
rested limit x heard call e =
    let t : DeviceTaken = device_takes x.device heard in
    called limit t call (heard_frame x heard) (device_data x heard) x.contents (Rested t.device) (inl e)
    (λ c contents result. subst (Rested t.device) (sym (sent_in (device_with_content t.device c) (heard_frame x heard) (device_data x heard) contents t.told result Listens e))
    (record { is_silent = refl; hears = refl; same_receiver = refl; same_turn = refl; same_burst = refl; same_due = refl; same_profile = refl }))

-- a BACK begins
back_begins : (limit : ℕ) (x : DeviceSide) (call : DeviceCall) (ss : List Sent) → (device_takes x.device Silence).device.turn ≡ Follows → BeginsAfter 0 ((device_tick limit x Silence call).sent ∷ ss)
unfolding device_tick
back_begins limit x call ss e =
    let t : DeviceTaken = device_takes x.device Silence in
    called limit t call (heard_frame x Silence) (device_data x Silence) x.contents (λ s. BeginsAfter 0 (s.sent ∷ ss)) (inr e)
    (λ c contents result. subst (λ (s : DeviceStep). BeginsAfter 0 (s.sent ∷ ss)) (sym (sent_in (device_with_content t.device c) (heard_frame x Silence) (device_data x Silence) contents t.told result Follows e))
    (if_both (λ (s : DeviceSent). BeginsAfter 0 (s.sent ∷ ss)) (0 + 1 <? back_length (device_with_content t.device c)) _ _ begins begins))

-- and at it
due_now : (d : Device) (event : Event) → d.burst ≡ true → d.due ≡ 1 → (D.counts d idle d.due event).device.turn ≡ Follows
due_now d event burst e = if_is_true (back_due d d.due) _ _ (if_is_true d.burst _ _ burst ∙ ap (λ (n : ℕ). n =? 1) e)

silent_takes : (d : Device) → d.deaf ≡ false → d.receiver ≡ idle → device_takes d Silence ≡ D.counts d idle d.due Nothing
unfolding device_takes
silent_takes d hears e = if_is_false d.deaf _ _ hears ∙ device_outside d (ap (λ (r : Receiver). inside_frame r.place) e)

behind_rest : {k : ℕ} {t : Device} {s : DeviceStep} → Rested t s → DueIn k t → DueIn k s.side.device
behind_rest r d = record { hears = r.hears; idle_is = r.same_receiver ∙ d.idle_is; turn_is = r.same_turn; bursts = r.same_burst ∙ d.bursts; due_is = r.same_due ∙ d.due_is }

-- to the BACK
runs_back : (limit k : ℕ) (x : DeviceSide) (calls : List DeviceCall) → suc k ≤ length calls → DueIn (suc k) x.device → BeginsAfter k (device_sents limit x (device_silence calls))
unfolding device_sents device_silence
runs_back limit k x [] few w = absurd (omega arith)
runs_back limit zero x (c ∷ cs) few w = back_begins limit x c _ (ap (λ (t : DeviceTaken). t.device.turn) (silent_takes x.device w.hears w.idle_is) ∙ due_now x.device Nothing w.bursts w.due_is)
runs_back limit (suc k) x (c ∷ cs) few w =
    let now : DueIn (suc k) (device_takes x.device Silence).device =
    subst (λ (t : DeviceTaken). DueIn (suc k) t.device) (sym (silent_takes x.device w.hears w.idle_is)) (counts_due k x.device.due x.device Nothing w.hears w.turn_is w.bursts w.due_is) in
    let r = rested limit x Silence c now.turn_is in
    one_silent r.is_silent (runs_back limit k _ cs (omega arith) (behind_rest r now))

-- a character inside a frame: no BACK is due
drops : (d : Device) (last : Heard) → d.deaf ≡ false → IsCharacter last → (taken d.receiver last).event ≡ Nothing → device_takes d last ≡ D.tells (D.device_with d (taken d.receiver last).receiver Listens d.request Wish.Same d.length 0) DeviceTold.Nothing Nothing
unfolding device_takes
drops d (Character z) hears is_sound inside = if_is_false d.deaf _ _ hears ∙ ap (D.on_character d (taken d.receiver (Character z)).receiver) inside
drops d (Heard.Damaged z kind) hears is_with_damage inside = if_is_false d.deaf _ _ hears ∙ ap (D.on_character d (taken d.receiver (Heard.Damaged z kind)).receiver) inside
drops d Silence hears x3 inside = elim x3 [ ]

pub device_counts_both : (limit : ℕ) → DeviceCountsBoth limit
unfolding device_sents device_silence
device_counts_both limit x last call calls made cut on long =
    let v : Valid x.device.profile = valid x.device.profile made in
    let n = from_three x.device.profile.rt1p (omega (arith, v.some_hold, v.hold_short, v.rt2_short)) in
    subst (λ (z : ℕ). BeginsAfter z (device_sents limit x (record { heard = last; call = call } ∷ device_silence calls))) (sym n.1) (go n.0 n.1 calls (omega (arith, n.1, long)))
  where
    d : Device
    d = x.device

    r : Receiver
    r = (taken d.receiver last).receiver

    within : Within r
    within = goes_within d.receiver cut.character cut.inside

    y : DeviceSide
    y = (device_tick limit x last call).side

    -- behind the last character
    a : Rested (D.device_with d r Listens d.request Wish.Same d.length 0) (device_tick limit x last call)
    a = subst (λ (t : DeviceTaken). Rested t.device (device_tick limit x last call)) (drops d last cut.hears cut.character cut.inside) (rested limit x last call (ap (λ (t : DeviceTaken). t.device.turn) (drops d last cut.hears cut.character cut.inside)))

    inside : Inside y.device.receiver.place
    inside = subst (λ (z : Receiver). Inside z.place) (sym a.same_receiver) within.inside

    go : (k : ℕ) → d.profile.rt1p ≡ suc (suc (suc k)) → (cs : List DeviceCall) → suc (suc (suc k)) ≤ length cs → BeginsAfter (suc (suc (suc k))) (device_sents limit x (record { heard = last; call = call } ∷ device_silence cs))
    go k e [] few = absurd (omega arith)
    go k e (c ∷ []) few = absurd (omega arith)
    go k e (c ∷ f ∷ fs) few = one_silent a.is_silent (one_silent b.is_silent (one_silent s.is_silent (runs_back limit k _ fs (omega arith) (behind_rest s after))))
      where
        -- behind the tick that is passed over
        still : device_takes y.device Silence ≡ D.tells (D.device_with y.device (gapped y.device.receiver) y.device.turn y.device.request y.device.wish y.device.length y.device.due) DeviceTold.Nothing Nothing
        still = device_still y.device a.hears inside (ap (λ (z : Receiver). z.gap) a.same_receiver ∙ within.no_gap)

        b : Rested (D.device_with y.device (gapped y.device.receiver) y.device.turn y.device.request y.device.wish y.device.length y.device.due) (device_tick limit y Silence c)
        b = subst (λ (t : DeviceTaken). Rested t.device (device_tick limit y Silence c)) still (rested limit y Silence c (ap (λ (t : DeviceTaken). t.device.turn) still ∙ a.same_turn))

        w : DeviceSide
        w = (device_tick limit y Silence c).side

        profile_is : w.device.profile.rt1p ≡ suc (suc (suc k))
        profile_is = ap (λ (p : Profile). p.rt1p) (b.same_profile ∙ a.same_profile) ∙ e

        -- behind the second
        after : DueIn (suc k) (device_takes w.device Silence).device
        after =
            both_count_due k w.device b.hears (subst (λ (z : Receiver). Inside z.place) (sym b.same_receiver) inside) (ap (λ (z : Receiver). z.gap) b.same_receiver) b.same_turn (b.same_burst ∙ a.same_burst ∙ on) profile_is

        s : Rested (device_takes w.device Silence).device (device_tick limit w Silence f)
        s = rested limit w Silence f after.turn_is

-- ---- the silent tick that is passed over, of a device

error_as_if : (d : Device) (event : Event) (frame : List ℕ) → error_frame (device_gapped d) event frame ≡ error_frame d event frame
error_as_if d Nothing frame = refl
error_as_if d Event.PassedOver frame = refl
error_as_if d Broken frame = refl
error_as_if d (Event.Frame w) frame = refl
error_as_if d (Event.Damaged w m) frame = refl

module _ (limit : ℕ) (y : DeviceSide) (within : Within y.device.receiver) (hears : y.device.deaf ≡ false) (listens : y.device.turn ≡ Listens) where
  gap_device : DeviceSide
  gap_device = record { device = device_gapped y.device; frame = y.frame; bytes = y.bytes; contents = y.contents }

  gap_device_step : DeviceStep
  gap_device_step = record { side = gap_device; sent = Silent; told = DeviceTold.Nothing; result = CallResult.Nothing }

  device_gap_is : device_tick limit y Silence no_call ≡ gap_device_step
  unfolding device_tick gap_device gap_device_step taken_data
  device_gap_is =
      let d = y.device in
      let bytes : device_data y Silence ≡ y.bytes = if_is_false d.deaf _ _ hears in
      ap (λ (t : DeviceTaken). device_calls limit t no_call (error_frame d t.event y.frame) (device_data y Silence) y.contents) (device_still d hears within.inside within.no_gap)
      ∙ sent_in (device_gapped d) y.frame (device_data y Silence) y.contents DeviceTold.Nothing CallResult.Nothing Listens listens
      ∙ (λ i. record {
        side = record { device = (D.sends (device_gapped d) (sym hears i) (sym listens i) d.length d.burst d.primary d.due (gapped d.receiver) Silent).device; frame = y.frame; bytes = bytes i; contents = y.contents };
        sent = Silent;
        told = DeviceTold.Nothing;
        result = CallResult.Nothing;
      })

  device_as_if_no_gap : (next : Heard) (call : DeviceCall) → IsCharacter next → device_tick limit gap_device next call ≡ device_tick limit y next call
  unfolding device_tick gap_device
  device_as_if_no_gap next call n =
      let d = y.device in
      let same : device_data gap_device next ≡ device_data y next = ap (λ (b : List ℕ). when d.deaf then y.bytes else b) (data_as_if d.receiver next y.bytes) in
      let takes = device_as_if d next hears n in
      (λ i. device_calls limit (takes i) call (error_frame (device_gapped d) (takes i).event y.frame) (same i) y.contents)
      ∙ ap (λ (f : List ℕ). device_calls limit (device_takes d next) call f (device_data y next) y.contents) (error_as_if d (device_takes d next).event y.frame)

pub device_gap_passed : (limit : ℕ) → DeviceGapPassed limit
unfolding gap_device gap_device_step
device_gap_passed limit x last next call after cut n =
    let y : DeviceSide = (device_tick limit x last call).side in
    let a = rested limit x last call (ap (λ (t : DeviceTaken). t.device.turn) (drops x.device last cut.hears cut.character cut.inside)) in
    let r = a.same_receiver ∙ ap (λ (t : DeviceTaken). t.device.receiver) (drops x.device last cut.hears cut.character cut.inside) in
    let within : Within y.device.receiver = subst Within (sym r) (goes_within x.device.receiver cut.character cut.inside) in
    let e = device_gap_is limit y within a.hears a.same_turn in
    record {
      sends_nothing = ap (λ (s : DeviceStep). s.sent) e;
      tells_nothing = ap (λ (s : DeviceStep). s.told) e;
      as_if_not = ap (λ (s : DeviceStep). device_tick limit s.side next after) e ∙ device_as_if_no_gap limit y within a.hears a.same_turn next after n;
    }
