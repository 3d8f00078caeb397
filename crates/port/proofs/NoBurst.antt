-- Theorems: BURST is never set and burst is never on (specs/NoBurst).
use Prim.Native.Nat.{ℕ, ◌+◌, ◌≤◌}
use native.Mathlib.Omega.{arith}
use mathlib.Core.Path.{◌≡◌, refl, sym, ap, subst, ◌∙◌}
use mathlib.Core.Bool.{Bool, true, false}
use mathlib.Core.List.{List, [], ◌∷◌}
use lib.ListN.{length}
use borrow.Author.Tests.{eq-eqb}
use Rattle.base.specs.Choice.{when◌then◌else◌, ◌<?◌, ◌=?◌, ◌outside◌to◌}
use Rattle.base.specs.Refusal.{Called, accepted, refused}
use Rattle.base.proofs.Choices.{true_false, if_is_true, if_is_false}
use Rattle.frame.specs.Delimiter.{back}
use Rattle.frame.specs.Frame.{frame_bytes, frame_length}
use Rattle.line.specs.Profile.{infrared_profile}
use Rattle.line.specs.Reader.{no_damage, inside_frame}
use Rattle.line.specs.declared.Event.{Event}
use Rattle.line.specs.declared.Event.TheVariants.{Nothing, PassedOver, Broken, Frame}
use Rattle.line.specs.declared.FrameDamage.{FrameDamage}
use Rattle.line.specs.declared.Heard.{Heard}
use Rattle.line.specs.declared.Heard.TheVariants.{Silence, Character}
use Rattle.line.specs.declared.Whole.{Whole}
use Rattle.turns.specs.Link.{MasterCall, no_request, requests}
use Rattle.turns.specs.Master.{master_takes, request_header}
use Rattle.turns.specs.Device.{device_with, device_takes, on_heard, answered, answered_by, answers_at, answer_header, wish_refused, wished, has_no_wish, device_sends, answer_frame}
use Rattle.turns.specs.Device as D
use Rattle.turns.specs.declared.CallResult.{CallResult}
use Rattle.turns.specs.declared.Content.{Content}
use Rattle.turns.specs.declared.Device.{Device}
use Rattle.turns.specs.declared.DeviceTaken.{DeviceTaken}
use Rattle.turns.specs.declared.DeviceSent.{DeviceSent}
use Rattle.turns.specs.declared.Master.{Master}
use Rattle.turns.specs.declared.MasterTaken.{MasterTaken}
use Rattle.turns.specs.declared.Turn.{Turn}
use Rattle.turns.specs.declared.Turn.TheVariants.{Listens, Asked, AnswerWaits, Begins, Answers, Follows, Bursts}
use Rattle.turns.specs.declared.Wish.{Wish}
use Rattle.turns.specs.declared.Wish.TheVariants.{Same, On, Off}
use Rattle.turns.proofs.Bursting.{if_both, takes_kept}
use Rattle.turns.proofs.Masters.{if_cases}
use Rattle.port.specs.Numbers.{port_preamble}
use Rattle.port.specs.Master.{after_port_frame, by_found, port_master_takes, port_requested}
use Rattle.port.specs.Device.{hears_by, hears_wake_up, is_undamaged, wakes, passed_over, counted_as, too_late, port_device_takes, port_answered, port_device_sends, port_device_starts, device_started}
use Rattle.port.specs.Ticks.{PortMasterSide, MasterInput, master_data, master_called, port_master_tick, port_master_run, PortCall, no_call, gives_answer, PortDeviceSide, DeviceInput, heard_frame, device_data, device_called, device_calls, port_device_tick}
use Rattle.port.specs.NoBurst as Said
use Rattle.port.specs.NoBurst.{NoBack, NeverSet, RefusedOn, by_8, by_9, by_10, NeverOn, BurstNeverSet, BurstNeverOn}
use Rattle.port.specs.declared.Ear.{Ear}
use Rattle.port.specs.declared.Ear.TheVariants.{Awake, PassesOver, Dozes}
use Rattle.port.specs.declared.PortMaster.{PortMaster}
use Rattle.port.specs.declared.PortMasterTaken.{PortMasterTaken}
use Rattle.port.specs.declared.PortDevice.{PortDevice}
use Rattle.port.specs.declared.PortDeviceTaken.{PortDeviceTaken}
use Rattle.port.proofs.Taking.{took}
use Rattle.port.proofs.Starts as S
use Rattle.port.proofs.Starts.{Phase, listens, speaks, fresh_phase, tick_phase}

-- ---- the master

phase_clear : (x : PortMaster) → Phase x → x.master.burst ≡ false
phase_clear x (listens c off v e) = c.no_burst
phase_clear x (speaks n c off d s) = c.no_burst
phase_clear x (S.wakes n c l d s w) = c.no_burst

-- a frame that is found is the one that was told
same_frame : (v w : Whole) → Frame v ≡ Frame w → v ≡ w
same_frame v w e = cc

frame_or : (v : Whole) (d : FrameDamage) → (t : Bool) → (v.header.kind =? back) ≡ t → NoBack (when t then Event.Damaged v d else Frame v)
unfolding when◌then◌else◌
frame_or v d true e w q f = let z : ◌≡◌ {A = ℕ} 0 1 = cc in omega arith
frame_or v d false e w q f = true_false (sym (eq-eqb v.header.kind back (ap (λ (u : Whole). u.header.kind) (same_frame v w q) ∙ f)) ∙ e)

no_back_found : (m : Master) (bytes : List ℕ) (t : MasterTaken) (e : Event) → t.event ≡ e → NoBack (by_found m bytes t e).event
unfolding after_port_frame
no_back_found m bytes t Nothing q = λ w i f. let z : ◌≡◌ {A = ℕ} 0 1 = cc in omega arith
no_back_found m bytes t PassedOver q = λ w i f. let z : ◌≡◌ {A = ℕ} 0 1 = cc in omega arith
no_back_found m bytes t Broken q = λ w i f. let z : ◌≡◌ {A = ℕ} 0 1 = cc in omega arith
no_back_found m bytes t (Event.Damaged v d) q = λ w i f. let z : ◌≡◌ {A = ℕ} 0 1 = cc in omega arith
no_back_found m bytes t (Frame v) q =
    if_cases (λ (u : MasterTaken). NoBack u.event) (v.header.kind =? back) _ _ (λ z w i f. let k : ◌≡◌ {A = ℕ} 0 1 = cc in omega arith)
    (λ z w i f. true_false (sym (eq-eqb v.header.kind back (ap (λ (u : Whole). u.header.kind) (same_frame v w i) ∙ f)) ∙ z))

-- what was found stands in the step
found_is : (limit : ℕ) (x : PortMasterSide) (heard : Heard) (call : MasterCall) → (port_master_tick limit x heard call).event ≡ (took x.master.master heard (master_data x heard)).event
unfolding port_master_tick port_master_takes
found_is limit x heard no_request = refl
found_is limit x heard (requests q put) = go (port_requested limit t.master.master q (length put))
  where
    t : PortMasterTaken
    t = port_master_takes x.master heard (master_data x heard)

    go : (c : Called Master) → (master_called heard t c (frame_bytes q.preamble (request_header t.master.master q) put) x.frame (master_data x heard)).event ≡ t.event
    go (accepted m) = refl
    go (refused why) = refl

never_set : (limit : ℕ) → limit ≤ 255 → (x : PortMasterSide) (inputs : List MasterInput) → Phase x.master → NeverSet (port_master_run limit x inputs)
unfolding port_master_run
never_set limit small x [] p = Said.NeverSet.no_tick
never_set limit small x (i ∷ is) p =
    let q = tick_phase limit small x i.heard i.call p in
    let t = master_takes x.master.master i.heard (master_data x i.heard) in
    Said.NeverSet.clear_and (phase_clear _ q) (subst NoBack (sym (found_is limit x i.heard i.call)) (no_back_found x.master.master (master_data x i.heard) t t.event refl))
    (never_set limit small (port_master_tick limit x i.heard i.call).side is q)

pub burst_never_set : BurstNeverSet
burst_never_set limit primary retries x inputs small e = never_set limit small x inputs (fresh_phase primary retries x.master e)

-- ---- a device

pub record Plain (d : Device) : Type 0 where
  pub off : d.burst ≡ false
  pub no_content : d.content.given ≡ false
  pub not_on : d.wish ≡ On → ⊥
  pub profile_is : d.profile ≡ infrared_profile

same_on : Same ≡ On → ⊥
same_on e = let z : ◌≡◌ {A = ℕ} 0 1 = cc in omega arith

off_on : Off ≡ On → ⊥
off_on e = let z : ◌≡◌ {A = ℕ} 0 1 = cc in omega arith

NotOn : DeviceTaken → Type 0
NotOn t = t.device.wish ≡ On → ⊥

takes_wish : (d : Device) (heard : Heard) → (d.wish ≡ On → ⊥) → NotOn (device_takes d heard)
unfolding device_takes NotOn
takes_wish d heard f = if_both NotOn d.deaf _ _ f (on heard)
  where
    on : (h : Heard) → NotOn (on_heard d h)
    on Silence = if_both NotOn (inside_frame d.receiver.place) _ _ (if_both NotOn d.receiver.gap _ _ f f) f
    on (Character c) = same_on
    on (Heard.Damaged c kind) = same_on

-- what is heard leaves it
takes_plain : (d : Device) (heard : Heard) → Plain d → Plain (device_takes d heard).device
unfolding NotOn
takes_plain d heard p = record {
  off = takes_kept (λ (d : Device). d.burst) (λ d r turn request wish length due. refl) d heard ∙ p.off;
  no_content = ap (λ (c : Content). c.given) (takes_kept (λ (d : Device). d.content) (λ d r turn request wish length due. refl) d heard) ∙ p.no_content;
  not_on = takes_wish d heard p.not_on;
  profile_is = takes_kept (λ (d : Device). d.profile) (λ d r turn request wish length due. refl) d heard ∙ p.profile_is;
}

hears_plain : (y : PortDevice) (heard : Heard) (ear : Ear) → Plain y.device → Plain (hears_by y heard ear).device.device
hears_plain y heard Awake p =
    if_cases (λ (t : PortDeviceTaken). Plain t.device.device) (hears_wake_up y.device heard) _ _ (λ z. record { off = p.off; no_content = p.no_content; profile_is = p.profile_is; not_on = same_on }) (λ z. takes_plain y.device heard p)
hears_plain y heard (PassesOver before) p =
    if_cases (λ (t : PortDeviceTaken). Plain t.device.device) (is_undamaged 0xFF heard) _ _
    (λ z. if_cases (λ (t : PortDeviceTaken). Plain t.device.device) before _ _ (λ w. record { off = p.off; no_content = p.no_content; profile_is = p.profile_is; not_on = p.not_on }) (λ w. p)) (λ z. p)
hears_plain y heard (Dozes a b) p = if_cases (λ (t : PortDeviceTaken). Plain t.device.device) (wakes a b heard) _ _ (λ z. p) (λ z. p)

pub port_takes_plain : (y : PortDevice) (heard : Heard) → Plain y.device → Plain (port_device_takes y heard).device.device
unfolding port_device_takes
port_takes_plain y heard p = if_cases (λ (t : PortDeviceTaken). Plain t.device.device) y.device.deaf _ _ (λ z. p) (λ z. hears_plain y heard y.ear p)

-- ---- the host's answer

-- "burst on without burst content"
on_refused : (d : Device) → d.content.given ≡ false → wish_refused d On ≡ true
on_refused d e = if_cases (λ (t : Bool). t ≡ true) (has_no_wish d.request) _ _ (λ z. refl) (λ z. if_is_false d.content.given _ _ e)

module _ (limit : ℕ) (d : Device) (count : ℕ) (p : Plain d) where
  accepted_is : (wish : Wish) (turn : Turn) (e : Device) → answered_by limit d wish count turn ≡ accepted e → Plain e
  accepted_is wish Listens e q = absurd (let z : ◌≡◌ {A = ℕ} 0 1 = cc in omega arith)
  accepted_is wish (Asked n) e y =
      if_cases (λ (c : Called Device). c ≡ accepted e → Plain e) (count outside 2 to limit) _ _ (λ z q. absurd (let z : ◌≡◌ {A = ℕ} 0 1 = cc in omega arith))
      (λ z. if_cases (λ (c : Called Device). c ≡ accepted e → Plain e) (wish_refused d wish) _ _ (λ w q. absurd (let z : ◌≡◌ {A = ℕ} 0 1 = cc in omega arith))
      (λ w q. subst Plain (ap got q) (record { off = p.off; no_content = p.no_content; profile_is = p.profile_is; not_on = λ y. true_false (sym (ap (wish_refused d) y ∙ on_refused d p.no_content) ∙ w) }))) y
    where
      got : Called Device → Device
      got (accepted x) = x
      got (refused why) = e
  accepted_is wish AnswerWaits e q = absurd (let z : ◌≡◌ {A = ℕ} 0 1 = cc in omega arith)
  accepted_is wish Begins e q = absurd (let z : ◌≡◌ {A = ℕ} 0 1 = cc in omega arith)
  accepted_is wish (Answers n) e q = absurd (let z : ◌≡◌ {A = ℕ} 0 1 = cc in omega arith)
  accepted_is wish Follows e q = absurd (let z : ◌≡◌ {A = ℕ} 0 1 = cc in omega arith)
  accepted_is wish (Bursts n) e q = absurd (let z : ◌≡◌ {A = ℕ} 0 1 = cc in omega arith)

  pub answered_plain : (wish : Wish) (e : Device) → port_answered limit d wish count ≡ accepted e → Plain e
  unfolding port_answered answered
  answered_plain wish e = if_cases (λ (c : Called Device). c ≡ accepted e → Plain e) (too_late d) _ _ (λ z q. absurd (let z : ◌≡◌ {A = ℕ} 0 1 = cc in omega arith)) (λ z q. accepted_is wish d.turn e q)

-- ---- send

pub wished_off : (burst : Bool) (wish : Wish) → burst ≡ false → (wish ≡ On → ⊥) → wished burst wish ≡ false
wished_off burst Same e f = e
wished_off burst On e f = absurd (f refl)
wished_off burst Off e f = refl

sends_plain : (d : Device) (frame : List ℕ) → Plain d → Plain (device_sends d frame).device
unfolding device_sends
sends_plain d frame p = go d.turn
  where
    P : DeviceSent → Type 0
    P s = Plain s.device

    go : (t : Turn) → Plain (D.sends_by d frame t).device
    go Listens = record { off = p.off; no_content = p.no_content; profile_is = p.profile_is; not_on = p.not_on }
    go (Asked n) = record { off = p.off; no_content = p.no_content; profile_is = p.profile_is; not_on = p.not_on }
    go AnswerWaits = record { off = p.off; no_content = p.no_content; profile_is = p.profile_is; not_on = p.not_on }
    go Begins =
        if_cases P (0 + 1 <? d.length) _ _ (λ z. record { off = wished_off d.burst d.wish p.off p.not_on; no_content = p.no_content; profile_is = p.profile_is; not_on = p.not_on })
        (λ z. record { off = wished_off d.burst d.wish p.off p.not_on; no_content = p.no_content; profile_is = p.profile_is; not_on = p.not_on })
    go (Answers n) = if_cases P (n + 1 <? d.length) _ _ (λ z. record { off = p.off; no_content = p.no_content; profile_is = p.profile_is; not_on = p.not_on }) (λ z. record { off = p.off; no_content = p.no_content; profile_is = p.profile_is; not_on = p.not_on })
    go Follows = if_cases P _ _ _ (λ z. record { off = p.off; no_content = p.no_content; profile_is = p.profile_is; not_on = p.not_on }) (λ z. record { off = p.off; no_content = p.no_content; profile_is = p.profile_is; not_on = p.not_on })
    go (Bursts n) = if_cases P _ _ _ (λ z. record { off = p.off; no_content = p.no_content; profile_is = p.profile_is; not_on = p.not_on }) (λ z. record { off = p.off; no_content = p.no_content; profile_is = p.profile_is; not_on = p.not_on })

-- ---- a tick, and a list of them

pub tick_plain : (limit : ℕ) (x : PortDeviceSide) (heard : Heard) (call : PortCall) → Plain x.device.device → Plain (port_device_tick limit x heard call).side.device.device
unfolding port_device_tick port_device_sends
tick_plain limit x heard no_call p = sends_plain _ (heard_frame x heard) (port_takes_plain x.device heard p)
tick_plain limit x heard (gives_answer wish put) p = go (port_answered limit t.device.device wish (length put)) refl
  where
    t : PortDeviceTaken
    t = port_device_takes x.device heard

    q : Plain t.device.device
    q = port_takes_plain x.device heard p

    go : (c : Called Device) → port_answered limit t.device.device wish (length put) ≡ c → Plain (device_called heard t c (answer_frame t.device.device wish put (heard_frame x heard)) (heard_frame x heard) (device_data x heard)).side.device.device
    go (accepted d) e = sends_plain d _ (answered_plain limit t.device.device (length put) q wish d e)
    go (refused why) e = sends_plain t.device.device (heard_frame x heard) q

-- ---- burst on is refused

result_by : Called Device → CallResult
result_by (accepted d) = CallResult.Taken
result_by (refused why) = CallResult.Refused why

result_is : (limit : ℕ) (heard : Heard) (t : PortDeviceTaken) (wish : Wish) (put frame bytes : List ℕ) → (device_calls limit heard t (gives_answer wish put) frame bytes).result ≡ result_by (port_answered limit t.device.device wish (length put))
unfolding result_by
result_is limit heard t wish put frame bytes = go (port_answered limit t.device.device wish (length put))
  where
    go : (c : Called Device) → (device_called heard t c (answer_frame t.device.device wish put frame) frame bytes).result ≡ result_by c
    go (accepted d) = refl
    go (refused why) = refl

module _ (limit : ℕ) (d : Device) (count : ℕ) (p : Plain d) where
  by_turn : (turn : Turn) → RefusedOn (result_by (answered_by limit d Same count turn)) (result_by (answered_by limit d On count turn))
  unfolding result_by when◌then◌else◌
  by_turn Listens = by_8
  by_turn (Asked n) = within (count outside 2 to limit)
    where
      on : result_by (when wish_refused d On then refused 10 else accepted (device_with d d.receiver (answers_at d n) d.request On (frame_length d.preamble (answer_header d.request true) count) d.due)) ≡ CallResult.Refused 10
      on = ap result_by (if_is_true (wish_refused d On) _ _ (on_refused d p.no_content))

      within : (t : Bool) → RefusedOn
          (result_by (when t then refused 9 else accepted (device_with d d.receiver (answers_at d n) d.request Same (frame_length d.preamble (answer_header d.request d.burst) count) d.due)))
          (result_by (when t then refused 9 else (when wish_refused d On then refused 10 else accepted (device_with d d.receiver (answers_at d n) d.request On (frame_length d.preamble (answer_header d.request true) count) d.due))))
      within true = by_9
      within false = subst (RefusedOn CallResult.Taken) (sym on) by_10
  by_turn AnswerWaits = by_8
  by_turn Begins = by_8
  by_turn (Answers n) = by_8
  by_turn Follows = by_8
  by_turn (Bursts n) = by_8

  refused_on : RefusedOn (result_by (port_answered limit d Same count)) (result_by (port_answered limit d On count))
  unfolding result_by port_answered answered when◌then◌else◌
  refused_on = late (too_late d)
    where
      late : (t : Bool) → RefusedOn (result_by (when t then refused 8 else answered_by limit d Same count d.turn)) (result_by (when t then refused 8 else answered_by limit d On count d.turn))
      late true = by_8
      late false = by_turn d.turn

on_refused_in : (limit : ℕ) (x : PortDeviceSide) (heard : Heard) (put : List ℕ) → Plain x.device.device → RefusedOn (port_device_tick limit x heard (gives_answer Same put)).result (port_device_tick limit x heard (gives_answer On put)).result
unfolding port_device_tick
on_refused_in limit x heard put p =
    let t = port_device_takes x.device heard in
    subst (λ (r : CallResult). RefusedOn r (device_calls limit heard t (gives_answer On put) (heard_frame x heard) (device_data x heard)).result) (sym (result_is limit heard t Same put (heard_frame x heard) (device_data x heard)))
    (subst (RefusedOn (result_by (port_answered limit t.device.device Same (length put)))) (sym (result_is limit heard t On put (heard_frame x heard) (device_data x heard)))
    (refused_on limit t.device.device (length put) (port_takes_plain x.device heard p)))

-- ---- no BACK is told as a frame

counted_no_back : (e : Event) → NoBack (counted_as e)
counted_no_back Nothing = λ w q f. let z : ◌≡◌ {A = ℕ} 0 1 = cc in omega arith
counted_no_back PassedOver = λ w q f. let z : ◌≡◌ {A = ℕ} 0 1 = cc in omega arith
counted_no_back Broken = λ w q f. let z : ◌≡◌ {A = ℕ} 0 1 = cc in omega arith
counted_no_back (Frame v) = frame_or v no_damage (v.header.kind =? back) refl
counted_no_back (Event.Damaged v d) = λ w q f. let z : ◌≡◌ {A = ℕ} 0 1 = cc in omega arith

passed_no_back : (heard : Heard) → NoBack (passed_over heard)
passed_no_back Silence w q f = let z : ◌≡◌ {A = ℕ} 0 1 = cc in omega arith
passed_no_back (Character c) w q f = let z : ◌≡◌ {A = ℕ} 0 1 = cc in omega arith
passed_no_back (Heard.Damaged c kind) w q f = let z : ◌≡◌ {A = ℕ} 0 1 = cc in omega arith

nothing_no_back : NoBack Nothing
nothing_no_back w q f = let z : ◌≡◌ {A = ℕ} 0 1 = cc in omega arith

takes_no_back : (y : PortDevice) (heard : Heard) → NoBack (port_device_takes y heard).event
unfolding port_device_takes
takes_no_back y heard = if_both P y.device.deaf _ _ nothing_no_back (by y.ear)
  where
    P : PortDeviceTaken → Type 0
    P t = NoBack t.event

    by : (ear : Ear) → P (hears_by y heard ear)
    by Awake = if_both P (hears_wake_up y.device heard) _ _ (passed_no_back heard) (counted_no_back (device_takes y.device heard).event)
    by (PassesOver before) = if_both P (is_undamaged 0xFF heard) _ _ (if_both P before _ _ nothing_no_back (passed_no_back heard)) (passed_no_back heard)
    by (Dozes a b) = if_both P (wakes a b heard) _ _ nothing_no_back nothing_no_back

event_is : (limit : ℕ) (x : PortDeviceSide) (heard : Heard) (call : PortCall) → (port_device_tick limit x heard call).event ≡ (port_device_takes x.device heard).event
unfolding port_device_tick
event_is limit x heard no_call = refl
event_is limit x heard (gives_answer wish put) = go (port_answered limit t.device.device wish (length put))
  where
    t : PortDeviceTaken
    t = port_device_takes x.device heard

    go : (c : Called Device) → (device_called heard t c (answer_frame t.device.device wish put (heard_frame x heard)) (heard_frame x heard) (device_data x heard)).event ≡ t.event
    go (accepted d) = refl
    go (refused why) = refl

never_on : (limit : ℕ) (x : PortDeviceSide) (inputs : List DeviceInput) → Plain x.device.device → NeverOn limit x inputs
never_on limit x [] p = Said.NeverOn.no_tick
never_on limit x (i ∷ is) p =
    let q = tick_plain limit x i.heard i.call p in
    Said.NeverOn.off_and q.off (subst NoBack (sym (event_is limit x i.heard i.call)) (takes_no_back x.device i.heard)) (λ put. on_refused_in limit x i.heard put p) (never_on limit (port_device_tick limit x i.heard i.call).side is q)

-- "burst starts off", without burst content
pub started_plain : (preamble polling unique : ℕ) (y : PortDevice) → port_device_starts preamble polling unique ≡ accepted y → Plain y.device
started_plain preamble polling unique y =
    if_cases (λ (c : Called PortDevice). c ≡ accepted y → Plain y.device) (preamble =? port_preamble) _ _
    (λ a. if_cases P _ _ _ none (λ b. if_cases P _ _ _ none (λ c. if_cases P _ _ _ none (λ d e. subst (λ (z : PortDevice). Plain z.device) (ap got e) (record { off = refl; no_content = refl; not_on = same_on; profile_is = refl })))))
    (λ a e. absurd (let z : ◌≡◌ {A = ℕ} 0 1 = cc in omega arith))
  where
    P : Called Device → Type 0
    P c = device_started c ≡ accepted y → Plain y.device

    got : Called PortDevice → PortDevice
    got (accepted z) = z
    got (refused why) = y

    none : {t : Bool} {n : ℕ} → t ≡ true → P (refused n)
    none a e = absurd (let z : ◌≡◌ {A = ℕ} 0 1 = cc in omega arith)

pub burst_never_on : BurstNeverOn
burst_never_on limit preamble polling unique x inputs e = never_on limit x inputs (started_plain preamble polling unique x.device e)
