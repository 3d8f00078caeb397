-- Theorem: an STX behind a wake-up is told to the host (specs/Waking).
use Prim.Native.Nat.{ℕ}
use native.Mathlib.Omega.{arith}
use mathlib.Core.Path.{◌≡◌, refl, sym, ap, subst, ◌∙◌}
use mathlib.Core.Bool.{true, false}
use mathlib.Core.List.{List, ◌∷◌, ◌++◌}
use lib.ListN.{length}
use borrow.Author.Tests.{eq-eqb}
use Rattle.base.specs.Choice.{when◌then◌else◌, ◌=?◌}
use Rattle.base.specs.Refusal.{Called, accepted, refused}
use Rattle.base.proofs.Choices.{true_false, if_is_true, if_is_false}
use Rattle.base.specs.Store.{stored}
use Rattle.turns.specs.Party.{seeks_tag}
use Rattle.frame.specs.Delimiter.{stx}
use Rattle.frame.specs.Check.{exclusive_or}
use Rattle.frame.specs.Frame.{protected_bytes, preamble_bytes}
use Rattle.frame.specs.declared.Header.{Header}
use Rattle.line.specs.Gaps.{is_sound}
use Rattle.line.specs.Reader.{idle, blank, tells, taken, taken_data, inside_frame, at_idle, at_preamble}
use Rattle.line.specs.declared.Event.{Event}
use Rattle.line.specs.declared.Event.TheVariants.{Nothing, Frame}
use Rattle.line.specs.declared.Heard.{Heard}
use Rattle.line.specs.declared.Heard.TheVariants.{Character}
use Rattle.line.specs.declared.Place.{Place}
use Rattle.line.specs.declared.Place.TheVariants.{Passing, Idle, Preamble, First, Address, Expansion, Command, Count, Data, Check}
use Rattle.line.specs.declared.Receiver.{Receiver}
use Rattle.line.specs.declared.Taken.{Taken}
use Rattle.line.specs.declared.Whole.{Whole}
use Rattle.line.proofs.Gaps.{goes_within}
use Rattle.line.proofs.Hearing.{whole_message, before_check, frame_leads, frame_told}
use Rattle.line.proofs.Leads as R
use Rattle.turns.specs.Device.{may_answer, device_takes, on_character, after_frame, answer_frame}
use Rattle.turns.specs.declared.Change.{Change}
use Rattle.turns.specs.declared.Device.{Device}
use Rattle.turns.specs.declared.DeviceTaken.{DeviceTaken}
use Rattle.turns.specs.declared.DeviceTold.{DeviceTold}
use Rattle.turns.specs.declared.DeviceTold.TheVariants.{Request}
use Rattle.turns.specs.declared.Sent.TheVariants.{Silent}
use Rattle.turns.specs.declared.Turn.TheVariants.{Listens}
use Rattle.port.specs.Device.{reads, listens_on, hears_wake_up, is_idle, port_device_takes, port_answered}
use Rattle.port.specs.Ticks.{PortCall, no_call, gives_answer, PortDeviceSide, DeviceInput, heard_frame, device_data, device_called, device_calls, port_device_tick, port_device_run}
use Rattle.port.specs.Waking.{Carries, no_more, and, after_ticks, no_tick, CanBeHeard, StxTold}
use Rattle.port.specs.declared.Ear.TheVariants.{Awake}
use Rattle.port.specs.declared.PortDeviceTaken.{PortDeviceTaken}
use Rattle.port.proofs.Waking.{Listened, listened, takes_by, Leads, leads_one}

-- ---- the reader behind two 0xFF

two_less : (b cs : List ℕ) (s : Receiver) (d : List ℕ) → R.Leads idle b (0xFF ∷ 0xFF ∷ cs) s d → R.Leads (blank (Preamble 2)) b cs s d
unfolding taken taken_data at_idle at_preamble when◌then◌else◌
two_less b cs s d (R.hears p q (R.hears r t l)) = go (ap (λ (k : Taken). k.receiver) p) q r t l
  where
    go : {s1 s2 : Receiver} {d1 d2 : List ℕ} → blank (Preamble 1) ≡ s1 → b ≡ d1 → taken s1 (Character 0xFF) ≡ tells s2 Nothing → taken_data s1 (Character 0xFF) d1 ≡ d2 → R.Leads s2 d2 cs s d → R.Leads (blank (Preamble 2)) b cs s d
    go {s1} {s2} {d1} {d2} p q r t l =
        subst (λ (k : Receiver). R.Leads k b cs s d) (sym (ap (λ (k : Receiver). (taken k (Character 0xFF)).receiver) p ∙ ap (λ (k : Taken). k.receiver) r))
        (subst (λ (k : List ℕ). R.Leads s2 k cs s d) (sym (q ∙ ap (λ (k : Receiver). taken_data k (Character 0xFF) d1) p ∙ t)) l)

stx_leads : (h : Header) (put b : List ℕ) → CanBeHeard h put → R.Leads (blank (Preamble 2)) b (preamble_bytes 4 ++ protected_bytes h put) (before_check h put) (stored b 0 put)
unfolding preamble_bytes
stx_leads h put b ok = two_less b _ _ _ (frame_leads 6 h put b (omega arith) (record { typed = ok.typed; address_high = ok.address_high; count_high = ok.count_high; enough = ok.enough }))

inside_not_idle : (p : Place) → inside_frame p ≡ true → is_idle p ≡ false
inside_not_idle Passing e = refl
inside_not_idle Idle e = absurd (true_false (sym e))
inside_not_idle (Preamble n) e = refl
inside_not_idle First e = refl
inside_not_idle (Address n) e = refl
inside_not_idle (Expansion n) e = refl
inside_not_idle Command e = refl
inside_not_idle Count e = refl
inside_not_idle (Data n) e = refl
inside_not_idle Check e = refl

-- ---- a device that reads

record Reading (r : Receiver) (u p : ℕ) (x : PortDeviceSide) : Type 0 where
  is_awake : x.device.ear ≡ Awake
  hears : x.device.device.deaf ≡ false
  listens : x.device.device.turn ≡ Listens
  reader : x.device.device.receiver ≡ r
  inside : inside_frame r.place ≡ true
  unique : x.device.device.unique ≡ u
  polling : x.device.device.polling ≡ p

-- what it takes, by what its reader tells
reading_takes : (r : Receiver) (u p c : ℕ) (x : PortDeviceSide) (s : Receiver) (e : Event) → Reading r u p x → taken r (Character c) ≡ tells s e
    → port_device_takes x.device (Character c) ≡ listens_on x.device (Character c) Awake (reads (on_character x.device.device s e))
unfolding device_takes
reading_takes r u p c x s e w t =
    takes_by x.device (Character c) Awake w.hears w.is_awake
    ∙ if_is_false (hears_wake_up x.device.device (Character c)) _ _
    (if_is_false (is_idle x.device.device.receiver.place) _ _ (inside_not_idle x.device.device.receiver.place (ap (λ (k : Receiver). inside_frame k.place) w.reader ∙ w.inside)))
    ∙ ap (λ (k : DeviceTaken). listens_on x.device (Character c) Awake (reads k))
    (if_is_false x.device.device.deaf _ _ w.hears ∙ ap (λ (k : Taken). on_character x.device.device k.receiver k.event) (ap (λ (k : Receiver). taken k (Character c)) w.reader ∙ t))

-- a character of the frame that goes on
reads_one : (limit : ℕ) (r s : Receiver) (u p c : ℕ) (x : PortDeviceSide) (call : PortCall) → Reading r u p x → taken r (Character c) ≡ tells s Nothing
    → ((port_device_tick limit x (Character c) call).sent ≡ Silent) × ((port_device_tick limit x (Character c) call).told ≡ DeviceTold.Nothing) × Reading s u p (port_device_tick limit x (Character c) call).side
unfolding port_device_tick when◌then◌else◌
reads_one limit r s u p c x call w t =
    let k = listens_on x.device (Character c) Awake (reads (on_character x.device.device s Nothing)) in
    let l = subst (λ (z : PortDeviceTaken). Listened k (device_calls limit (Character c) z call (heard_frame x (Character c)) (device_data x (Character c)))) (sym (reading_takes r u p c x s Nothing w t)) (listened limit (Character c) k call _ _ refl) in
    let within = goes_within r {h = Character c} is_sound (ap (λ (z : Taken). z.event) t) in (
      l.silent,
      l.told_is,
      record {
        is_awake = l.ear_is;
        hears = l.hears;
        listens = l.listens;
        reader = l.reader_is;
        inside = ap (λ (z : Taken). inside_frame z.receiver.place) (sym t) ∙ within.inside;
        unique = l.unique_is ∙ w.unique;
        polling = l.polling_is ∙ w.polling;
      },
    )

reads_all : (limit : ℕ) (r s : Receiver) (b d cs : List ℕ) (u p : ℕ) (x : PortDeviceSide) (is : List DeviceInput) → Reading r u p x → R.Leads r b cs s d → Carries is cs → Leads limit x is (Reading s u p)
unfolding port_device_run after_ticks
reads_all limit r s b d cs u p x is w R.stays no_more = record { quietly = no_tick; behind = w }
reads_all limit r s b d cs u p x is w (R.hears t q l) (and {call = a} {is = js} c) =
    let z = reads_one limit r _ u p _ x a w t in
    leads_one limit x _ js (Reading s u p) z.0 z.1 (reads_all limit _ s _ d _ u p _ js z.2 l c)

-- ---- its last character

told_is : (limit : ℕ) (heard : Heard) (t : PortDeviceTaken) (call : PortCall) (frame bytes : List ℕ) → (device_calls limit heard t call frame bytes).told ≡ t.told
told_is limit heard t no_call frame bytes = refl
told_is limit heard t (gives_answer wish put) frame bytes = go (port_answered limit t.device.device wish (length put))
  where
    go : (c : Called Device) → (device_called heard t c (answer_frame t.device.device wish put frame) frame bytes).told ≡ t.told
    go (accepted d) = refl
    go (refused why) = refl

-- whose request it is depends on the addresses
same_answer : (d e : Device) (h : Header) → d.unique ≡ e.unique → d.polling ≡ e.polling → may_answer d h ≡ may_answer e h
same_answer d e h u p = λ i. (when seeks_tag h then true else (when h.long then u i =? h.address else (when p i =? h.address then h.command =? 0 else false)))

told_request : (d : Device) (w : Whole) → w.header.kind ≡ stx → w.expansion ≡ 0 → may_answer d w.header ≡ true → (after_frame d w).told ≡ Request w
told_request d w f x m =
    ap (λ (c : Change). c.told)
    (if_is_true (w.header.kind =? stx) _ _ (eq-eqb w.header.kind stx f) ∙ if_is_true (w.expansion =? 0) _ _ (eq-eqb w.expansion 0 x) ∙ if_is_true (may_answer d w.header) _ _ m)

pub stx_told : StxTold
unfolding port_device_tick
stx_told limit x h put front call ready ok f m c =
    let u = x.device.device.unique in
    let p = x.device.device.polling in
    let start : Reading (blank (Preamble 2)) u p x = record { is_awake = ready.is_awake; hears = ready.hears; listens = ready.listens; reader = ready.reader; inside = refl; unique = refl; polling = refl } in
    let l = reads_all limit _ _ x.bytes _ _ u p x front start (stx_leads h put x.bytes ok) c in
    let y = after_ticks limit x front in
    let w : Whole = whole_message h put in
    let t = reading_takes (before_check h put) u p (exclusive_or (protected_bytes h put)) y idle (Frame w) l.behind (frame_told h put) in (
      l.quietly,
      told_is limit _ (port_device_takes y.device (Character (exclusive_or (protected_bytes h put)))) call _ _
          ∙ ap (λ (k : PortDeviceTaken). k.told) t
          ∙ told_request y.device.device w f refl (same_answer y.device.device x.device.device h l.behind.unique l.behind.polling ∙ m),
    )
