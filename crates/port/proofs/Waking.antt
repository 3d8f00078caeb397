-- Theorem: a wake-up is heard (specs/Waking). Two pairs 0x00, 0xFF lead a device from every ear to one that passes over with 0xFF directly before, and each further pair keeps it there.
use Prim.Native.Nat.{ℕ, zero, suc, ◌*◌, ◌%◌}
use native.Mathlib.Omega.{arith}
use mathlib.Core.Path.{◌≡◌, refl, sym, ap, subst, ◌∙◌}
use mathlib.Core.Bool.{Bool, true, false}
use mathlib.Core.List.{List, [], ◌∷◌, ◌++◌}
use lib.ListN.{length}
use borrow.Author.Tests.{eq-eqb, ne_eqb}
use Rattle.base.specs.Choice.{when◌then◌else◌, ◌=?◌}
use Rattle.base.specs.Refusal.{Called, refused}
use Rattle.base.proofs.Choices.{if_is_true, if_is_false}
use Rattle.line.specs.declared.Heard.{Heard}
use Rattle.line.specs.declared.Heard.TheVariants.{Character}
use Rattle.line.specs.declared.Place.TheVariants.{Idle}
use Rattle.turns.specs.Device.{answered, answered_by, device_sends, answer_frame}
use Rattle.turns.specs.Device as D
use Rattle.turns.specs.declared.Device.{Device}
use Rattle.turns.specs.declared.DeviceTold.{DeviceTold}
use Rattle.turns.specs.declared.DeviceSent.{DeviceSent}
use Rattle.turns.specs.declared.Sent.TheVariants.{Silent}
use Rattle.turns.specs.declared.Turn.TheVariants.{Listens}
use Rattle.turns.specs.declared.Wish.{Wish}
use Rattle.turns.proofs.Masters.{if_cases}
use Rattle.port.specs.Master.{wake_up_character}
use Rattle.port.specs.Device.{wakes, too_late, port_answered, port_device_takes, port_device_sends, hears_by, hears_wake_up, is_idle}
use Rattle.port.specs.Ticks.{PortCall, no_call, gives_answer, PortDeviceSide, PortDeviceStep, DeviceInput, heard_frame, device_data, device_called, device_calls, port_device_tick, port_device_run}
use Rattle.port.specs.Sending.{wake_up_bytes}
use Rattle.port.specs.Listening.{manner, reading, HasNothing}
use Rattle.port.specs.Waking.{Carries, no_more, and, while_resting, after_ticks, Quietly, no_tick, quiet_and, ReadsPreamble, WakeUpHeard}
use Rattle.port.specs.Waking as Said
use Rattle.port.specs.declared.Ear.{Ear}
use Rattle.port.specs.declared.Ear.TheVariants.{Awake, PassesOver, Dozes}
use Rattle.port.specs.declared.PortDevice.{PortDevice}
use Rattle.port.specs.declared.PortDeviceTaken.{PortDeviceTaken}
use Rattle.port.proofs.Hands.{nothing_after}

-- ---- a tick of a device that listens behind what it heard: its host's call is refused, and nothing is sent

pub record Listened (t : PortDeviceTaken) (s : PortDeviceStep) : Type 0 where
  pub silent : s.sent ≡ Silent
  pub told_is : s.told ≡ t.told
  pub ear_is : s.side.device.ear ≡ t.device.ear
  pub quiet_is : s.side.device.quiet ≡ t.device.quiet
  pub hears : s.side.device.device.deaf ≡ false
  pub listens : s.side.device.device.turn ≡ Listens
  pub reader_is : s.side.device.device.receiver ≡ t.device.device.receiver
  pub unique_is : s.side.device.device.unique ≡ t.device.device.unique
  pub polling_is : s.side.device.device.polling ≡ t.device.device.polling

sends_listening : (d : Device) (frame : List ℕ) → d.turn ≡ Listens → device_sends d frame ≡ D.sends_by d frame Listens
unfolding device_sends
sends_listening d frame e = ap (D.sends_by d frame) e

no_answer : (limit : ℕ) (d : Device) (wish : Wish) (count : ℕ) → d.turn ≡ Listens → port_answered limit d wish count ≡ refused 8
unfolding port_answered answered
no_answer limit d wish count e = if_cases (λ (c : Called Device). c ≡ refused 8) (too_late d) _ _ (λ q. refl) (λ q. ap (answered_by limit d wish count) e)

pub listened : (limit : ℕ) (heard : Heard) (t : PortDeviceTaken) (call : PortCall) (frame bytes : List ℕ) → t.device.device.turn ≡ Listens → Listened t (device_calls limit heard t call frame bytes)
unfolding port_device_sends
listened limit heard t no_call frame bytes e =
    let s = sends_listening t.device.device frame e in
    record {
      silent = ap (λ (s : DeviceSent). s.sent) s;
      told_is = refl;
      ear_is = refl;
      quiet_is = ap (λ (s : DeviceSent). Rattle.port.specs.Device.quiet_sending t.device.quiet s.sent) s;
      hears = ap (λ (s : DeviceSent). s.device.deaf) s;
      listens = ap (λ (s : DeviceSent). s.device.turn) s;
      reader_is = ap (λ (s : DeviceSent). s.device.receiver) s;
      unique_is = ap (λ (s : DeviceSent). s.device.unique) s;
      polling_is = ap (λ (s : DeviceSent). s.device.polling) s;
    }
listened limit heard t (gives_answer wish put) frame bytes e =
    subst (λ (c : Called Device). Listened t (device_called heard t c (answer_frame t.device.device wish put frame) frame bytes)) (sym (no_answer limit t.device.device wish (length put) e))
    (let s = sends_listening t.device.device frame e in
    record {
      silent = ap (λ (s : DeviceSent). s.sent) s;
      told_is = refl;
      ear_is = refl;
      quiet_is = ap (λ (s : DeviceSent). Rattle.port.specs.Device.quiet_sending t.device.quiet s.sent) s;
      hears = ap (λ (s : DeviceSent). s.device.deaf) s;
      listens = ap (λ (s : DeviceSent). s.device.turn) s;
      reader_is = ap (λ (s : DeviceSent). s.device.receiver) s;
      unique_is = ap (λ (s : DeviceSent). s.device.unique) s;
      polling_is = ap (λ (s : DeviceSent). s.device.polling) s;
    })

-- ---- a character, by the ear

-- a device that does not read
pub record With (ear : Ear) (x : PortDeviceSide) : Type 0 where
  pub ear_is : x.device.ear ≡ ear
  pub hears : x.device.device.deaf ≡ false
  pub listens : x.device.device.turn ≡ Listens

module _ (limit : ℕ) (x : PortDeviceSide) (c : ℕ) (call : PortCall) where
  abbrev step : PortDeviceStep
  step = port_device_tick limit x (Character c) call

  -- a tick with this outcome
  record Led (ear : Ear) : Type 0 where
    silent : step.sent ≡ Silent
    told : step.told ≡ DeviceTold.Nothing
    with : With ear step.side

  led : (t : PortDeviceTaken) → port_device_takes x.device (Character c) ≡ t → t.device.device.turn ≡ Listens → t.told ≡ DeviceTold.Nothing → Led t.device.ear
  unfolding port_device_tick
  led t e listens told =
      let l = subst (λ (u : PortDeviceTaken). Listened t (device_calls limit (Character c) u call (heard_frame x (Character c)) (device_data x (Character c)))) (sym e) (listened limit (Character c) t call _ _ listens) in
      record { silent = l.silent; told = l.told_is ∙ told; with = record { ear_is = l.ear_is; hears = l.hears; listens = l.listens } }

-- a device that hears, by its ear
pub takes_by : (y : PortDevice) (heard : Heard) (ear : Ear) → y.device.deaf ≡ false → y.ear ≡ ear → port_device_takes y heard ≡ hears_by y heard ear
unfolding port_device_takes
takes_by y heard ear hears e = if_is_false y.device.deaf _ _ hears ∙ ap (hears_by y heard) e

module _ (limit : ℕ) (x : PortDeviceSide) (call : PortCall) where
  -- one that passes over
  passes_zero : (before : Bool) → With (PassesOver before) x → Led limit x 0x00 call (PassesOver false)
  unfolding when◌then◌else◌
  passes_zero before w = led limit x 0x00 call _ (takes_by x.device (Character 0x00) (PassesOver before) w.hears w.ear_is) w.listens refl

  passes_ones : With (PassesOver false) x → Led limit x 0xFF call (PassesOver true)
  unfolding when◌then◌else◌
  passes_ones w = led limit x 0xFF call _ (takes_by x.device (Character 0xFF) (PassesOver false) w.hears w.ear_is) w.listens refl

  -- one that dozes wakes, or has heard one more
  data Dozing (c : ℕ) (b : Heard) : Type 0 where
    wakes_up : Led limit x c call (PassesOver false) → Dozing c b
    dozes_on : Led limit x c call (Dozes b (Character c)) → Dozing c b

  doze : (a b : Heard) (c : ℕ) → With (Dozes a b) x → Dozing c b
  unfolding when◌then◌else◌
  doze a b c w = go (wakes a b (Character c)) refl
    where
      go : (t : Bool) → wakes a b (Character c) ≡ t → Dozing c b
      go true e = wakes_up (led limit x c call _ (takes_by x.device (Character c) (Dozes a b) w.hears w.ear_is ∙ if_is_true (wakes a b (Character c)) _ _ e) w.listens refl)
      go false e = dozes_on (led limit x c call _ (takes_by x.device (Character c) (Dozes a b) w.hears w.ear_is ∙ if_is_false (wakes a b (Character c)) _ _ e) w.listens refl)

  -- the third wake-up byte wakes it
  third_wakes : With (Dozes (Character 0x00) (Character 0xFF)) x → Led limit x 0x00 call (PassesOver false)
  unfolding when◌then◌else◌
  third_wakes w = led limit x 0x00 call _ (takes_by x.device (Character 0x00) (Dozes (Character 0x00) (Character 0xFF)) w.hears w.ear_is) w.listens refl

  -- one that is awake between frames
  awake_zero : x.device.ear ≡ Awake → x.device.device.deaf ≡ false → x.device.device.receiver.place ≡ Idle → Led limit x 0x00 call (PassesOver false)
  unfolding when◌then◌else◌
  awake_zero e hears idle =
      led limit x 0x00 call _ (takes_by x.device (Character 0x00) Awake hears e ∙ if_is_true (hears_wake_up x.device.device (Character 0x00)) _ _ (if_is_true (is_idle x.device.device.receiver.place) _ _ (ap is_idle idle))) refl refl

  -- the second 0xFF in a row
  second_reads : With (PassesOver true) x → ((port_device_tick limit x (Character 0xFF) call).sent ≡ Silent) × ((port_device_tick limit x (Character 0xFF) call).told ≡ DeviceTold.Nothing) × ReadsPreamble (port_device_tick limit x (Character 0xFF) call).side
  unfolding when◌then◌else◌ port_device_tick
  second_reads w =
      let t = hears_by x.device (Character 0xFF) (PassesOver true) in
      let l = subst (λ (u : PortDeviceTaken). Listened t (device_calls limit (Character 0xFF) u call (heard_frame x (Character 0xFF)) (device_data x (Character 0xFF)))) (sym (takes_by x.device (Character 0xFF) (PassesOver true) w.hears w.ear_is)) (listened limit (Character 0xFF) t call _ _ w.listens) in
      (l.silent, l.told_is, record { is_awake = l.ear_is; hears = l.hears; listens = l.listens; reader = l.reader_is })

-- ---- a list of ticks

-- from x these ticks lead to what P says, and nothing is sent or told meanwhile
pub record Leads (limit : ℕ) (x : PortDeviceSide) (is : List DeviceInput) (P : PortDeviceSide → Type 0) : Type 0 where
  pub quietly : Quietly (port_device_run limit x is)
  pub behind : P (after_ticks limit x is)

pub leads_one : (limit : ℕ) (x : PortDeviceSide) (i : DeviceInput) (is : List DeviceInput) (P : PortDeviceSide → Type 0) → (port_device_tick limit x i.heard i.call).sent ≡ Silent → (port_device_tick limit x i.heard i.call).told ≡ DeviceTold.Nothing
    → Leads limit (port_device_tick limit x i.heard i.call).side is P → Leads limit x (i ∷ is) P
unfolding port_device_run after_ticks
leads_one limit x i is P a b l = record { quietly = quiet_and a b l.quietly; behind = l.behind }

-- the wake-up's last character, and the first of the preamble
last_two : (limit : ℕ) (x : PortDeviceSide) (is : List DeviceInput) → With (PassesOver true) x → Carries is (0xFF ∷ []) → Leads limit x is ReadsPreamble
unfolding port_device_run after_ticks
last_two limit x all w (and {call = call} no_more) = let s = second_reads limit x call w in record { quietly = quiet_and s.0 s.1 no_tick; behind = s.2 }

-- pairs 0x00, 0xFF
unfoldable pairs : ℕ → List ℕ
pairs zero = []
pairs (suc k) = 0x00 ∷ 0xFF ∷ pairs k

pair_leads : (limit : ℕ) (x : PortDeviceSide) (cs : List ℕ) (is : List DeviceInput) → With (PassesOver true) x → Carries is (0x00 ∷ 0xFF ∷ cs)
    → ((y : PortDeviceSide) (js : List DeviceInput) → With (PassesOver true) y → Carries js cs → Leads limit y js ReadsPreamble) → Leads limit x is ReadsPreamble
pair_leads limit x cs all w (and {call = a} (and {call = b} {is = is} c)) rest =
    let u = passes_zero limit x a true w in
    let v = passes_ones limit (port_device_tick limit x (Character 0x00) a).side b u.with in
    leads_one limit x _ _ ReadsPreamble u.silent u.told (leads_one limit _ _ _ ReadsPreamble v.silent v.told (rest _ is v.with c))

pairs_lead : (k : ℕ) (limit : ℕ) (x : PortDeviceSide) (is : List DeviceInput) → With (PassesOver true) x → Carries is (pairs k ++ (0xFF ∷ [])) → Leads limit x is ReadsPreamble
unfolding pairs
pairs_lead zero limit x is w c = last_two limit x is w c
pairs_lead (suc k) limit x is w c = pair_leads limit x (pairs k ++ (0xFF ∷ [])) is w c (λ y js v d. pairs_lead k limit y js v d)

-- a device that hears, however it listens
data Hears (x : PortDeviceSide) : Type 0 where
  while_dozing : (a b : Heard) → x.device.ear ≡ Dozes a b → x.device.device.deaf ≡ false → x.device.device.turn ≡ Listens → Hears x
  while_passing : (before : Bool) → x.device.ear ≡ PassesOver before → x.device.device.deaf ≡ false → x.device.device.turn ≡ Listens → Hears x
  between_frames : x.device.ear ≡ Awake → x.device.device.deaf ≡ false → x.device.device.receiver.place ≡ Idle → Hears x

-- behind the first 0x00 a device passes over, or dozes with that 0x00 heard
data Heeds (x : PortDeviceSide) : Type 0 where
  passing : With (PassesOver false) x → Heeds x
  dozing : (b : Heard) → With (Dozes b (Character 0x00)) x → Heeds x

first_zero : (limit : ℕ) (x : PortDeviceSide) (call : PortCall) → Hears x
    → ((port_device_tick limit x (Character 0x00) call).sent ≡ Silent) × ((port_device_tick limit x (Character 0x00) call).told ≡ DeviceTold.Nothing) × Heeds (port_device_tick limit x (Character 0x00) call).side
first_zero limit x call (while_dozing a b e hears listens) = go (doze limit x call a b 0x00 (record { ear_is = e; hears = hears; listens = listens }))
  where
    go : Dozing limit x call 0x00 b
        → ((port_device_tick limit x (Character 0x00) call).sent ≡ Silent) × ((port_device_tick limit x (Character 0x00) call).told ≡ DeviceTold.Nothing) × Heeds (port_device_tick limit x (Character 0x00) call).side
    go (wakes_up l) = (l.silent, l.told, passing l.with)
    go (dozes_on l) = (l.silent, l.told, dozing b l.with)
first_zero limit x call (while_passing before e hears listens) = let l = passes_zero limit x call before (record { ear_is = e; hears = hears; listens = listens }) in (l.silent, l.told, passing l.with)
first_zero limit x call (between_frames e hears idle) = let l = awake_zero limit x call e hears idle in (l.silent, l.told, passing l.with)

-- three characters more, and it passes over with 0xFF directly before
three_more : (limit : ℕ) (x : PortDeviceSide) (k : ℕ) (is : List DeviceInput) → Heeds x → Carries is (0xFF ∷ 0x00 ∷ 0xFF ∷ (pairs k ++ (0xFF ∷ []))) → Leads limit x is ReadsPreamble
three_more limit x k all (passing w) (and {call = a} (and {call = b} (and {call = d} {is = is} c))) =
    let u = passes_ones limit x a w in
    let v = passes_zero limit _ b true u.with in
    let z = passes_ones limit _ d v.with in
    leads_one limit x _ _ ReadsPreamble u.silent u.told
    (leads_one limit _ _ _ ReadsPreamble v.silent v.told (leads_one limit _ _ _ ReadsPreamble z.silent z.told (pairs_lead k limit _ is z.with c)))
three_more limit x k all (dozing b' w) (and {call = a} (and {call = b} (and {call = d} {is = is} c))) = go (doze limit x a b' (Character 0x00) 0xFF w)
  where
    y : PortDeviceSide
    y = (port_device_tick limit x (Character 0xFF) a).side

    on : Led limit y 0x00 b (PassesOver false) → Leads limit y (record { heard = Character 0x00; call = b } ∷ record { heard = Character 0xFF; call = d } ∷ is) ReadsPreamble
    on v =
        let z = passes_ones limit _ d v.with in
        leads_one limit y _ _ ReadsPreamble v.silent v.told (leads_one limit _ _ _ ReadsPreamble z.silent z.told (pairs_lead k limit _ is z.with c))

    go : Dozing limit x a 0xFF (Character 0x00) → Leads limit x (record { heard = Character 0xFF; call = a } ∷ record { heard = Character 0x00; call = b } ∷ record { heard = Character 0xFF; call = d } ∷ is) ReadsPreamble
    go (wakes_up l) = leads_one limit x _ _ ReadsPreamble l.silent l.told (on (passes_zero limit y b false l.with))
    go (dozes_on l) = leads_one limit x _ _ ReadsPreamble l.silent l.told (on (third_wakes limit y b l.with))

-- the wake-up is 179 pairs
even : (k : ℕ) → wake_up_character (suc (suc (2 * k))) ≡ 0x00
even k = if_is_true (suc (suc (2 * k)) % 2 =? 0) _ _ (eq-eqb (suc (suc (2 * k)) % 2) 0 (omega arith))

odd : (k : ℕ) → wake_up_character (suc (2 * k)) ≡ 0xFF
odd k = if_is_false (suc (2 * k) % 2 =? 0) _ _ (ne_eqb (suc (2 * k) % 2) 0 (λ e. omega arith))

twice : (k : ℕ) → 2 * suc k ≡ suc (suc (2 * k))
twice k = omega arith

two_more : (k : ℕ) → wake_up_bytes (suc (suc (2 * k))) ≡ 0x00 ∷ 0xFF ∷ wake_up_bytes (2 * k)
unfolding wake_up_bytes
two_more k = ap (λ (c : ℕ). c ∷ wake_up_character (suc (2 * k)) ∷ wake_up_bytes (2 * k)) (even k) ∙ ap (λ (c : ℕ). 0x00 ∷ c ∷ wake_up_bytes (2 * k)) (odd k)

wake_up_pairs : (k : ℕ) → wake_up_bytes (2 * k) ≡ pairs k
unfolding pairs wake_up_bytes
wake_up_pairs zero = refl
wake_up_pairs (suc k) = ap wake_up_bytes (twice k) ∙ two_more k ∙ ap (λ (l : List ℕ). 0x00 ∷ 0xFF ∷ l) (wake_up_pairs k)

all_lead : (k limit : ℕ) (x : PortDeviceSide) (is : List DeviceInput) → Hears x → Carries is (0x00 ∷ 0xFF ∷ 0x00 ∷ 0xFF ∷ (pairs k ++ (0xFF ∷ []))) → Leads limit x is ReadsPreamble
all_lead k limit x all h (and {call = a} {is = is} c) =
    let u = first_zero limit x a h in
    leads_one limit x _ is ReadsPreamble u.0 u.1 (three_more limit _ k is u.2 c)

pairs_lead_all : (k limit : ℕ) (x : PortDeviceSide) (is : List DeviceInput) → Hears x → Carries is (pairs (suc (suc k)) ++ (0xFF ∷ [])) → Leads limit x is ReadsPreamble
unfolding pairs
pairs_lead_all k limit x is h c = all_lead k limit x is h c

-- one that is not awake has nothing in hand
hears_so : (x : PortDeviceSide) → ((manner x.device.ear ≡ reading → ⊥) → HasNothing x) → Said.Hears x → Hears x
hears_so x f (while_resting g) = by x.device.ear refl
  where
    by : (ear : Ear) → x.device.ear ≡ ear → Hears x
    by Awake e = absurd (g (ap manner e))
    by (PassesOver before) e = while_passing before e (f g).hears (f g).no_request
    by (Dozes a b) e = while_dozing a b e (f g).hears (f g).no_request
hears_so x f (Said.Hears.between_frames e h o) = between_frames e h o

pub wake_up_heard : WakeUpHeard
wake_up_heard limit preamble polling unique x before inputs e h c =
    let l = pairs_lead_all 177 limit (after_ticks limit x before) inputs (hears_so _ (nothing_after limit preamble polling unique x before e) h) (subst (λ (l : List ℕ). Carries inputs (l ++ (0xFF ∷ []))) (wake_up_pairs 179) c) in
    (l.quietly, l.behind)
