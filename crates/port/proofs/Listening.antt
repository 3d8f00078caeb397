-- Theorems: a device dozes, wakes and goes on reading exactly where what it heard and sent says so, and so is awake in the 20,945 ticks after a character (specs/Listening, specs/Waking).
use Prim.Native.Nat.{ℕ, ◌+◌, ◌≤◌, ◌<◌}
use native.Mathlib.Omega.{arith}
use mathlib.Core.Path.{◌≡◌, refl, sym, ap, subst, ◌∙◌}
use mathlib.Core.Bool.{Bool, true, false}
use mathlib.Core.List.{List, [], ◌∷◌}
use lib.ListN.{length}
use borrow.Author.Tests.{eqb-true, ltb-true, ltb-false, le-leb, lt-leb}
use Rattle.base.specs.Choice.{when◌then◌else◌, ◌<?◌, ◌≤?◌, ◌=?◌}
use Rattle.base.specs.Refusal.{Called, accepted, refused}
use Rattle.base.proofs.Choices.{true_false, if_is_true, if_is_false}
use Rattle.line.specs.Gaps.{IsCharacter}
use Rattle.line.specs.declared.Heard.{Heard}
use Rattle.line.specs.declared.Heard.TheVariants.{Silence, Character}
use Rattle.line.specs.declared.Place.{Place}
use Rattle.line.specs.declared.Place.TheVariants.{Passing, Idle, Preamble, First, Address, Expansion, Command, Count, Data, Check}
use Rattle.turns.specs.Device.{answer_frame, device_starts}
use Rattle.turns.specs.declared.Device.{Device}
use Rattle.turns.specs.declared.Sent.{Sent}
use Rattle.turns.specs.declared.Sent.TheVariants.{Silent}
use Rattle.turns.specs.declared.Turn.TheVariants.{Listens}
use Rattle.turns.proofs.Bursting.{if_both}
use Rattle.turns.proofs.Masters.{if_cases}
use Rattle.port.specs.Numbers.{doze_ticks, port_preamble}
use Rattle.port.specs.Device.{is_undamaged, wakes, quiet_after, unless_quiet, quiet_sending, hears_by, is_idle, hears_wake_up, port_device_takes, port_answered, port_device_sends, port_device_starts, device_started}
use Rattle.port.specs.Ticks.{PortCall, no_call, gives_answer, PortDeviceSide, PortDeviceStep, DeviceInput, heard_frame, device_data, device_called, port_device_tick}
use Rattle.port.specs.Listening as L
use Rattle.port.specs.Listening.{Manner, reading, passing_over, dozing, manner, quiet_heard, quiet_sent, last_wake, last_two_ones, manner_after, past_after, ListensAsSaid, Listening, HearsZero, ZeroBetweenFrames}
use Rattle.port.specs.Waking.{StaysAwake, after_ticks}
use Rattle.port.specs.declared.Ear.{Ear}
use Rattle.port.specs.declared.Ear.TheVariants.{Awake, PassesOver, Dozes}
use Rattle.port.specs.declared.PortDevice.{PortDevice}
use Rattle.port.specs.declared.PortDeviceTaken.{PortDeviceTaken}

-- ---- the quiet ticks and their count

record Counted (q n : ℕ) : Type 0 where
  below : q < doze_ticks → n ≡ q
  above : doze_ticks ≤ q → doze_ticks ≤ n

none_quiet : Counted 0 0
none_quiet = record { below = λ h. refl; above = λ h. omega arith }

heard_counted : (heard : Heard) (q n : ℕ) → Counted q n → Counted (quiet_heard heard q) (quiet_after n heard)
heard_counted Silence q n c =
    if_cases (Counted (q + 1)) (n <? doze_ticks) _ _ (λ z. less (ltb-true n doze_ticks z)) (λ z. more (ltb-false n doze_ticks z))
  where
    less : n < doze_ticks → Counted (q + 1) (n + 1)
    less h = by (q <? doze_ticks) refl
      where
        by : (t : Bool) → (q <? doze_ticks) ≡ t → Counted (q + 1) (n + 1)
        by true e = let z = c.below (ltb-true q doze_ticks e) in record { below = λ k. omega arith; above = λ k. omega arith }
        by false e = let z = c.above (ltb-false q doze_ticks e) in absurd (omega arith)

    more : doze_ticks ≤ n → Counted (q + 1) n
    more h = record { below = λ k. let z = c.below (omega arith) in absurd (omega arith); above = λ k. h }
heard_counted (Character c) q n k = none_quiet
heard_counted (Heard.Damaged c kind) q n k = none_quiet

same_test : (q n : ℕ) → Counted q n → (doze_ticks ≤? n) ≡ (doze_ticks ≤? q)
same_test q n c = by (q <? doze_ticks) refl
  where
    by : (t : Bool) → (q <? doze_ticks) ≡ t → (doze_ticks ≤? n) ≡ (doze_ticks ≤? q)
    by true e = let h = ltb-true q doze_ticks e in lt-leb doze_ticks n (omega (arith, c.below h)) ∙ sym (lt-leb doze_ticks q h)
    by false e = let h = ltb-false q doze_ticks e in le-leb doze_ticks n (c.above h) ∙ sym (le-leb doze_ticks q h)

sent_counted : (sent : Sent) (q n : ℕ) → Counted q n → Counted (quiet_sent sent q) (quiet_sending n sent)
sent_counted Silent q n c = c
sent_counted (Sent.Character c) q n k = none_quiet

-- ---- the ear and the last ticks

-- what was heard in the tick before, and whether it was 0xFF
first_of : List Heard → Heard
first_of [] = Silence
first_of (h ∷ past) = h

second_of : List Heard → Heard
second_of [] = Silence
second_of (h ∷ past) = first_of past

was_ones : List Heard → Bool
was_ones [] = false
was_ones (h ∷ past) = is_undamaged 0xFF h

data EarIs (past : List Heard) : Ear → Type 0 where
  is_awake : EarIs past Awake
  is_passing : (before : Bool) → before ≡ was_ones past → EarIs past (PassesOver before)
  is_dozing : (a b : Heard) → a ≡ second_of past → b ≡ first_of past → EarIs past (Dozes a b)

wake_is : (past : List Heard) (h : Heard) → last_wake past h ≡ wakes (second_of past) (first_of past) h
unfolding first_of second_of
wake_is [] h = refl
wake_is (b ∷ []) h = refl
wake_is (b ∷ (a ∷ past)) h = refl

ones_are : (past : List Heard) (h : Heard) → last_two_ones past h ≡ (when was_ones past then is_undamaged 0xFF h else false)
unfolding was_ones when◌then◌else◌
ones_are [] h = refl
ones_are (b ∷ past) h = refl

-- a device that does not doze, in this tick
module _ (m : Manner) (past : List Heard) (heard : Heard) (woken : past_after m dozing past heard ≡ []) where
  Listened : Ear → Manner → Type 0
  Listened e n = (manner e ≡ n) × EarIs (past_after m (manner e) past heard) e

  dozes_off : Listened (Dozes Silence Silence) dozing
  unfolding Listened first_of second_of
  dozes_off = (refl, subst (λ (l : List Heard). EarIs l (Dozes Silence Silence)) (sym woken) (is_dozing Silence Silence refl refl))

  unless_quiet_lem : (q n : ℕ) → Counted q n → (ear : Ear) (x : Manner) → Listened ear x → Listened (unless_quiet n ear) (when doze_ticks ≤? q then dozing else x)
  unfolding when◌then◌else◌
  unless_quiet_lem q n c ear x l = subst (λ (t : Bool). Listened (unless_quiet n ear) (when t then dozing else x)) (same_test q n c) (by (doze_ticks ≤? n))
    where
      by : (t : Bool) → Listened (when t then Dozes Silence Silence else ear) (when t then dozing else x)
      by true = dozes_off
      by false = l

-- one that hears, by its ear
record Heeds (q : ℕ) (past : List Heard) (y : PortDevice) (heard : Heard) (t : PortDeviceTaken) : Type 0 where
  manner_is : manner t.device.ear ≡ manner_after (manner y.ear) y.device past heard (quiet_heard heard q)
  ear_is : EarIs (past_after (manner y.ear) (manner t.device.ear) past heard) t.device.ear
  quiet_is : Counted (quiet_heard heard q) t.device.quiet

module _ (q : ℕ) (past : List Heard) (y : PortDevice) (heard : Heard) (c : Counted q y.quiet) where
  counted : Counted (quiet_heard heard q) (quiet_after y.quiet heard)
  counted = heard_counted heard q y.quiet c

  made : (ear : Ear) → y.ear ≡ ear → (t : PortDeviceTaken) → t.device.quiet ≡ quiet_after y.quiet heard → manner t.device.ear ≡ manner_after (manner ear) y.device past heard (quiet_heard heard q)
      → EarIs (past_after (manner ear) (manner t.device.ear) past heard) t.device.ear → Heeds q past y heard t
  made ear e t k l r = record {
    manner_is = l ∙ ap (λ (z : Ear). manner_after (manner z) y.device past heard (quiet_heard heard q)) (sym e);
    ear_is = subst (λ (z : Ear). EarIs (past_after (manner z) (manner t.device.ear) past heard) t.device.ear) (sym e) r;
    quiet_is = subst (Counted (quiet_heard heard q)) (sym k) counted;
  }

  -- unless it dozes off, with this ear
  unless : (m : Manner) (woken : past_after m dozing past heard ≡ []) (ear : Ear) (x : Manner) → manner ear ≡ x → EarIs (past_after m (manner ear) past heard) ear
      → (manner (unless_quiet (quiet_after y.quiet heard) ear) ≡ (when doze_ticks ≤? quiet_heard heard q then dozing else x))
      × EarIs (past_after m (manner (unless_quiet (quiet_after y.quiet heard) ear)) past heard) (unless_quiet (quiet_after y.quiet heard) ear)
  unfolding Listened
  unless m woken ear x e r = unless_quiet_lem m past heard woken (quiet_heard heard q) (quiet_after y.quiet heard) counted ear x (e, r)

  awake_heeds : y.ear ≡ Awake → Heeds q past y heard (hears_by y heard Awake)
  unfolding was_ones
  awake_heeds e =
      if_cases (Heeds q past y heard) (hears_wake_up y.device heard) _ _
      (λ z. let l = unless reading refl (PassesOver false) next (sym (if_is_true (hears_wake_up y.device heard) _ _ z)) (is_passing false refl) in made Awake e _ refl l.0 l.1)
      (λ z. let l = unless reading refl Awake next (sym (if_is_false (hears_wake_up y.device heard) _ _ z)) is_awake in made Awake e _ refl l.0 l.1)
    where
      next : Manner
      next = when hears_wake_up y.device heard then passing_over else reading

  passing_heeds : (before : Bool) → y.ear ≡ PassesOver before → before ≡ was_ones past → Heeds q past y heard (hears_by y heard (PassesOver before))
  unfolding was_ones
  passing_heeds before e b =
      if_cases (Heeds q past y heard) (is_undamaged 0xFF heard) _ _
      (λ z. if_cases (Heeds q past y heard) before _ _
      (λ w. let l = unless passing_over refl Awake next (sym (if_is_true (last_two_ones past heard) _ _ (ones_are past heard ∙ if_is_true (was_ones past) _ _ (sym b ∙ w) ∙ z))) is_awake in made (PassesOver before) e _ refl l.0 l.1)
      (λ w. let l = unless passing_over refl (PassesOver true) next (sym (if_is_false (last_two_ones past heard) _ _ (ones_are past heard ∙ if_is_false (was_ones past) _ _ (sym b ∙ w)))) (is_passing true (sym z)) in made (PassesOver before) e _ refl l.0 l.1))
      (λ z. let l = unless passing_over refl (PassesOver false) next (sym (if_is_false (last_two_ones past heard) _ _ (ones_are past heard ∙ if_both (λ (t : Bool). t ≡ false) (was_ones past) _ _ z refl))) (is_passing false (sym z)) in
      made (PassesOver before) e _ refl l.0 l.1)
    where
      next : Manner
      next = when last_two_ones past heard then reading else passing_over

  dozing_heeds : (a b : Heard) → y.ear ≡ Dozes a b → a ≡ second_of past → b ≡ first_of past → Heeds q past y heard (hears_by y heard (Dozes a b))
  unfolding was_ones first_of second_of
  dozing_heeds a b e first second =
      if_cases (Heeds q past y heard) (wakes a b heard) _ _
      (λ z. made (Dozes a b) e _ refl (sym (if_is_true (last_wake past heard) _ _ (same ∙ z))) (is_passing false refl))
      (λ z. made (Dozes a b) e _ refl (sym (if_is_false (last_wake past heard) _ _ (same ∙ z))) (is_dozing b heard second refl))
    where
      same : last_wake past heard ≡ wakes a b heard
      same = wake_is past heard ∙ (λ i. wakes (sym first i) (sym second i) heard)

  heeds : y.device.deaf ≡ false → EarIs past y.ear → Heeds q past y heard (port_device_takes y heard)
  unfolding port_device_takes
  heeds h i = subst (Heeds q past y heard) (sym (if_is_false y.device.deaf _ _ h)) (by y.ear refl i)
    where
      by : (ear : Ear) → y.ear ≡ ear → EarIs past ear → Heeds q past y heard (hears_by y heard ear)
      by Awake e is_awake = awake_heeds e
      by (PassesOver before) e (is_passing k b) = passing_heeds before e b
      by (Dozes a b) e (is_dozing k l first second) = dozing_heeds a b e first second

-- ---- the tick after it

record Ticked (t : PortDeviceTaken) (s : PortDeviceStep) : Type 0 where
  ear_is : s.side.device.ear ≡ t.device.ear
  quiet_is : s.side.device.quiet ≡ quiet_sending t.device.quiet s.sent

ticked : (limit : ℕ) (x : PortDeviceSide) (heard : Heard) (call : PortCall) → Ticked (port_device_takes x.device heard) (port_device_tick limit x heard call)
unfolding port_device_tick port_device_sends
ticked limit x heard no_call = record { ear_is = refl; quiet_is = refl }
ticked limit x heard (gives_answer wish put) = go (port_answered limit t.device.device wish (length put))
  where
    t : PortDeviceTaken
    t = port_device_takes x.device heard

    go : (c : Called Device) → Ticked t (device_called heard t c (answer_frame t.device.device wish put (heard_frame x heard)) (heard_frame x heard) (device_data x heard))
    go (accepted d) = record { ear_is = refl; quiet_is = refl }
    go (refused why) = record { ear_is = refl; quiet_is = refl }

pub deaf_same : (y : PortDevice) (heard : Heard) → y.device.deaf ≡ true → (port_device_takes y heard).device ≡ y
unfolding port_device_takes
deaf_same y heard e = ap (λ (t : PortDeviceTaken). t.device) (if_is_true y.device.deaf _ _ e)

-- one tick: how the device listens after it, and the count
module _ (limit q : ℕ) (past : List Heard) (x : PortDeviceSide) (i : DeviceInput) (c : Counted q x.device.quiet) (r : EarIs past x.device.ear) where
  abbrev step : PortDeviceStep
  step = port_device_tick limit x i.heard i.call

  k : Ticked (port_device_takes x.device i.heard) step
  k = ticked limit x i.heard i.call

  -- deaf
  module _ (e : x.device.device.deaf ≡ true) where
    deaf_manner : step.side.device.ear ≡ x.device.ear
    deaf_manner = k.ear_is ∙ ap (λ (y : PortDevice). y.ear) (deaf_same x.device i.heard e)

    deaf_ear : EarIs past step.side.device.ear
    deaf_ear = subst (EarIs past) (sym deaf_manner) r

    deaf_counted : Counted (quiet_sent step.sent q) step.side.device.quiet
    deaf_counted =
        subst (Counted (quiet_sent step.sent q)) (sym (k.quiet_is ∙ ap (λ (y : PortDevice). quiet_sending y.quiet step.sent) (deaf_same x.device i.heard e))) (sent_counted step.sent q x.device.quiet c)

  -- it hears
  module _ (e : x.device.device.deaf ≡ false) where
    h : Heeds q past x.device i.heard (port_device_takes x.device i.heard)
    h = heeds q past x.device i.heard c e r

    heard_manner : manner step.side.device.ear ≡ manner_after (manner x.device.ear) x.device.device past i.heard (quiet_heard i.heard q)
    heard_manner = ap manner k.ear_is ∙ h.manner_is

    heard_ear : EarIs (past_after (manner x.device.ear) (manner step.side.device.ear) past i.heard) step.side.device.ear
    heard_ear = subst (λ (z : Ear). EarIs (past_after (manner x.device.ear) (manner z) past i.heard) z) (sym k.ear_is) h.ear_is

    heard_quiet : Counted (quiet_sent step.sent (quiet_heard i.heard q)) step.side.device.quiet
    heard_quiet = subst (Counted (quiet_sent step.sent (quiet_heard i.heard q))) (sym k.quiet_is) (sent_counted step.sent (quiet_heard i.heard q) _ h.quiet_is)

-- one tick, with what is said of the rest of the list
as_said : (limit q : ℕ) (past : List Heard) (x : PortDeviceSide) (inputs : List DeviceInput) → Counted q x.device.quiet → EarIs past x.device.ear → ListensAsSaid limit q past x inputs
as_said limit q past x [] c r = L.ListensAsSaid.no_tick
as_said limit q past x (i ∷ is) c r =
    by x.device.device.deaf refl (λ e. as_said limit (quiet_sent (port_device_tick limit x i.heard i.call).sent q) past (port_device_tick limit x i.heard i.call).side is (deaf_counted limit q past x i c r e) (deaf_ear limit q past x i c r e)) (λ e. as_said limit _ _ _ is (heard_quiet limit q past x i c r e) (heard_ear limit q past x i c r e))
  where
    s : PortDeviceStep
    s = port_device_tick limit x i.heard i.call

    by : (t : Bool) → x.device.device.deaf ≡ t → (x.device.device.deaf ≡ true → ListensAsSaid limit (quiet_sent s.sent q) past s.side is)
        → (x.device.device.deaf ≡ false → ListensAsSaid limit (quiet_sent s.sent (quiet_heard i.heard q)) (past_after (manner x.device.ear) (manner s.side.device.ear) past i.heard) s.side is)
        → ListensAsSaid limit q past x (i ∷ is)
    by true e a b = L.deaf_and e (ap manner (deaf_manner limit q past x i c r e)) (a e)
    by false e a b = L.hears_and e (heard_manner limit q past x i c r e) (b e)

-- "A device starts awake"
pub started : (preamble polling unique : ℕ) (y : PortDevice) → port_device_starts preamble polling unique ≡ accepted y → (y.ear ≡ Awake) × (y.quiet ≡ 0)
started preamble polling unique y =
    if_cases (λ (c : Called PortDevice). c ≡ accepted y → (y.ear ≡ Awake) × (y.quiet ≡ 0)) (preamble =? port_preamble) _ _ (λ q e. by (device_starts _ preamble polling unique) e) (λ q e. absurd (not_accepted e))
  where
    not_accepted : {n : ℕ} → refused n ≡ accepted y → ⊥
    not_accepted e = let z : ◌≡◌ {A = ℕ} 0 1 = cc in omega arith

    got : Called PortDevice → PortDevice
    got (accepted z) = z
    got (refused why) = y

    by : (c : Called Device) → device_started c ≡ accepted y → (y.ear ≡ Awake) × (y.quiet ≡ 0)
    by (accepted d) e = (sym (ap (λ (c : Called PortDevice). (got c).ear) e), sym (ap (λ (c : Called PortDevice). (got c).quiet) e))
    by (refused why) e = absurd (not_accepted e)

-- and has nothing in hand
pub started_fresh : (preamble polling unique : ℕ) (y : PortDevice) → port_device_starts preamble polling unique ≡ accepted y → (y.device.deaf ≡ true) × (y.device.turn ≡ Listens)
started_fresh preamble polling unique y =
    if_cases (λ (c : Called PortDevice). c ≡ accepted y → (y.device.deaf ≡ true) × (y.device.turn ≡ Listens)) (preamble =? port_preamble) _ _
    (λ a. if_cases P _ _ _ none (λ b. if_cases P _ _ _ none (λ c. if_cases P _ _ _ none (λ d e. (sym (ap (λ (c : Called PortDevice). (got c).device.deaf) e), sym (ap (λ (c : Called PortDevice). (got c).device.turn) e))))))
    (λ a e. absurd (let z : ◌≡◌ {A = ℕ} 0 1 = cc in omega arith))
  where
    P : Called Device → Type 0
    P c = device_started c ≡ accepted y → (y.device.deaf ≡ true) × (y.device.turn ≡ Listens)

    got : Called PortDevice → PortDevice
    got (accepted z) = z
    got (refused why) = y

    none : {t : Bool} {n : ℕ} → t ≡ true → P (refused n)
    none a e = absurd (let z : ◌≡◌ {A = ℕ} 0 1 = cc in omega arith)

pub listens_as_said : Listening
listens_as_said limit preamble polling unique x inputs e =
    let s = started preamble polling unique x.device e in
    (ap manner s.0, as_said limit 0 [] x inputs (subst (Counted 0) (sym s.1) none_quiet) (subst (EarIs []) (sym s.0) is_awake))

-- ---- awake after a character

reading_dozing : reading ≡ dozing → ⊥
reading_dozing e = let z : ◌≡◌ {A = ℕ} 0 1 = cc in omega arith

passing_dozing : passing_over ≡ dozing → ⊥
passing_dozing e = let z : ◌≡◌ {A = ℕ} 0 1 = cc in omega arith

-- a device that does not doze does not so before 20,946 quiet ticks
not_yet : (m : Manner) (d : Device) (past : List Heard) (h : Heard) (q : ℕ) → (m ≡ dozing → ⊥) → q < doze_ticks → manner_after m d past h q ≡ dozing → ⊥
not_yet reading d past h q f low =
    if_cases (λ (m : Manner). m ≡ dozing → ⊥) (doze_ticks ≤? q) _ _ (λ z. absurd (true_false (sym z ∙ lt-leb doze_ticks q low))) (λ z. if_both (λ (m : Manner). m ≡ dozing → ⊥) (hears_wake_up d h) _ _ passing_dozing reading_dozing)
not_yet passing_over d past h q f low =
    if_cases (λ (m : Manner). m ≡ dozing → ⊥) (doze_ticks ≤? q) _ _ (λ z. absurd (true_false (sym z ∙ lt-leb doze_ticks q low))) (λ z. if_both (λ (m : Manner). m ≡ dozing → ⊥) (last_two_ones past h) _ _ reading_dozing passing_dozing)
not_yet dozing d past h q f low = absurd (f refl)

-- a tick is at most one quiet tick more
heard_most : (heard : Heard) (q : ℕ) → quiet_heard heard q ≤ q + 1
heard_most Silence q = omega arith
heard_most (Character c) q = omega arith
heard_most (Heard.Damaged c kind) q = omega arith

sent_most : (sent : Sent) (q : ℕ) → quiet_sent sent q ≤ q
sent_most Silent q = omega arith
sent_most (Sent.Character c) q = omega arith

stays_by : (limit q : ℕ) (past : List Heard) (x : PortDeviceSide) (inputs : List DeviceInput) → Counted q x.device.quiet → EarIs past x.device.ear → (manner x.device.ear ≡ dozing → ⊥) → length inputs + q < doze_ticks
    → manner (after_ticks limit x inputs).device.ear ≡ dozing → ⊥
unfolding after_ticks
stays_by limit q past x [] c r d short = d
stays_by limit q past x (i ∷ is) c r d short =
    by x.device.device.deaf refl (λ e n low. stays_by limit (quiet_sent (port_device_tick limit x i.heard i.call).sent q) past (port_device_tick limit x i.heard i.call).side is (deaf_counted limit q past x i c r e) (deaf_ear limit q past x i c r e) n low)
    (λ e n low. stays_by limit _ _ _ is (heard_quiet limit q past x i c r e) (heard_ear limit q past x i c r e) n low)
  where
    s : PortDeviceStep
    s = port_device_tick limit x i.heard i.call

    Stays : ℕ → Type 0
    Stays n = (manner s.side.device.ear ≡ dozing → ⊥) → length is + quiet_sent s.sent n < doze_ticks → manner (after_ticks limit s.side is).device.ear ≡ dozing → ⊥

    by : (t : Bool) → x.device.device.deaf ≡ t → (x.device.device.deaf ≡ true → Stays q) → (x.device.device.deaf ≡ false → Stays (quiet_heard i.heard q))
        → manner (after_ticks limit s.side is).device.ear ≡ dozing → ⊥
    by true e a b = let sent = sent_most s.sent q in a e (λ z. d (ap manner (sym (deaf_manner limit q past x i c r e)) ∙ z)) (omega arith)
    by false e a b =
        let most = heard_most i.heard q in
        let sent = sent_most s.sent (quiet_heard i.heard q) in
        b e (λ z. not_yet (manner x.device.ear) x.device.device past i.heard (quiet_heard i.heard q) d (omega arith) (sym (heard_manner limit q past x i c r e) ∙ z)) (omega arith)

-- some last ticks that an ear stands for
some_past : (ear : Ear) → (past : List Heard) × EarIs past ear
unfolding was_ones first_of second_of
some_past Awake = ([], is_awake)
some_past (PassesOver true) = (Character 0xFF ∷ [], is_passing true refl)
some_past (PassesOver false) = ([], is_passing false refl)
some_past (Dozes a b) = (b ∷ (a ∷ []), is_dozing a b refl refl)

-- a character leaves no quiet tick, and neither does what is sent in its tick
no_quiet : (heard : Heard) → IsCharacter heard → (sent : Sent) (q : ℕ) → quiet_sent sent (quiet_heard heard q) ≡ 0
no_quiet (Character c) i Silent q = refl
no_quiet (Character c) i (Sent.Character e) q = refl
no_quiet (Heard.Damaged c kind) i Silent q = refl
no_quiet (Heard.Damaged c kind) i (Sent.Character e) q = refl
no_quiet Silence i sent q = elim i [ ]

pub stays_awake : StaysAwake
stays_awake limit x i inputs hears c d short =
    let p = some_past x.device.ear in
    let same : Counted x.device.quiet x.device.quiet = record { below = λ h. refl; above = λ h. h } in
    let s = port_device_tick limit x i.heard i.call in
    stays_by limit 0 _ s.side inputs
    (subst (λ (n : ℕ). Counted n s.side.device.quiet) (no_quiet i.heard c s.sent x.device.quiet) (heard_quiet limit x.device.quiet p.0 x i same p.1 hears))
    (heard_ear limit x.device.quiet p.0 x i same p.1 hears) d (omega arith)

-- ---- 0x00 between frames

idle_is : (p : Place) → is_idle p ≡ true → p ≡ Idle
idle_is Passing e = absurd (true_false (sym e))
idle_is Idle e = refl
idle_is (Preamble n) e = absurd (true_false (sym e))
idle_is First e = absurd (true_false (sym e))
idle_is (Address n) e = absurd (true_false (sym e))
idle_is (Expansion n) e = absurd (true_false (sym e))
idle_is Command e = absurd (true_false (sym e))
idle_is Count e = absurd (true_false (sym e))
idle_is (Data n) e = absurd (true_false (sym e))
idle_is Check e = absurd (true_false (sym e))

zero_is : (heard : Heard) → is_undamaged 0x00 heard ≡ true → heard ≡ Character 0x00
zero_is Silence e = absurd (true_false (sym e))
zero_is (Character c) e = ap Character (eqb-true c 0x00 e)
zero_is (Heard.Damaged c kind) e = absurd (true_false (sym e))

pub zero_between_frames : ZeroBetweenFrames
zero_between_frames d heard = (only, also)
  where
    only : hears_wake_up d heard ≡ true → HearsZero d heard
    only = if_cases (λ (t : Bool). t ≡ true → HearsZero d heard) (is_idle d.receiver.place) _ _ (λ z e. record { between_frames = idle_is d.receiver.place z; is_zero = zero_is heard e }) (λ z e. absurd (true_false (sym e)))

    also : HearsZero d heard → hears_wake_up d heard ≡ true
    also h = if_is_true (is_idle d.receiver.place) _ _ (ap is_idle h.between_frames) ∙ ap (is_undamaged 0x00) h.is_zero
