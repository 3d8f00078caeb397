-- Laws of a device of the port, for the proofs of its functions.
use Rattle.std.specs.Prelude.{Result, Ok, Err, Option, Some, None}
use Prim.Native.Nat.{ℕ}
use mathlib.Core.Bool.{Bool, true, false}
use mathlib.Core.List.{List}
use mathlib.Core.Path.{◌≡◌, refl, sym, ap, ◌∙◌}
use lib.ListN.{length}
use Rattle.base.specs.Choice.{when◌then◌else◌}
use Rattle.base.specs.Refusal.{number, Called, accepted, refused, called_as}
use Rattle.base.specs.declared.Refusal.{Refusal}
use Rattle.base.proofs.Choices.{if_is_true, if_is_false, if_true, if_false}
use Rattle.line.specs.declared.Event.{Event}
use Rattle.line.specs.declared.Heard.{Heard}
use Rattle.turns.specs.Device.{device_takes, error_frame, answered, answer_frame}
use Rattle.turns.specs.Link as L
use Rattle.turns.specs.declared.CallResult.{CallResult}
use Rattle.turns.specs.declared.Device.{Device}
use Rattle.turns.specs.declared.DeviceTold.{DeviceTold}
use Rattle.turns.specs.declared.Wish.{Wish}
use Rattle.device_rules.specs.Hearing.{lent}
use Rattle.device.specs.Calls.{buffer_behind}
use Rattle.device.specs.Promises.{AnswerIs}
use Rattle.port.specs.Device.{hears_wake_up, passes_on, dozes_on, hears_by, port_device_takes, too_late, port_answered, port_device_sends}
use Rattle.port.specs.Ticks.{reads_by, reads_tick, with_device, device_sent, device_called, device_calls, port_device_tick}
use Rattle.port.specs.declared.Ear.{Ear}
use Rattle.port.specs.declared.Ear.TheVariants.{Awake, PassesOver, Dozes}
use Rattle.port.specs.declared.PortDevice.{PortDevice}
use Rattle.port.specs.declared.PortDeviceSent.{PortDeviceSent}
use Rattle.port.specs.declared.PortDeviceTaken.{PortDeviceTaken}
use Rattle.port_device.specs.Calls.{PortAnswerIs}
use Rattle.port_device.specs.Ticks.{call_of, PortDeviceTickIs}
use Rattle.port_device.specs.Parts.{AwakeIs, PortTakeIs, uncalled, took, PortCalledIs}
use Rattle.port_device.specs.declared.PortCallTaken.{PortCallTaken}

-- ---- take

-- a choice, and the choice of the other test
flip : (t : Bool) (a b : List ℕ) → (when t then a else b) ≡ (when (when t then false else true) then b else a)
unfolding when◌then◌else◌
flip true a b = refl
flip false a b = refl

module _ (y : PortDevice) (heard : Heard) (bytes frame : List ℕ) (x : PortDeviceTaken) where
  pub take_deaf : y.device.deaf ≡ true → x ≡ record { device = y; told = DeviceTold.Nothing; event = Event.Nothing } → PortTakeIs y heard bytes frame x bytes frame
  unfolding port_device_takes
  take_deaf d p =
      let e : reads_tick y heard ≡ false = if_is_true y.device.deaf _ _ d in
      record { takes = if_true y.device.deaf x _ _ d p; data_is = if_false (reads_tick y heard) bytes _ _ e refl; frame_is = if_false (reads_tick y heard) frame _ _ e refl }

  module _ (d : y.device.deaf ≡ false) where
    by_ear : (ear : Ear) → y.ear ≡ ear → x ≡ hears_by y heard ear → x ≡ port_device_takes y heard
    unfolding port_device_takes
    by_ear ear e p = if_false y.device.deaf x _ _ d (p ∙ ap (hears_by y heard) (sym e))

    reads_by_lem : (ear : Ear) → y.ear ≡ ear → reads_tick y heard ≡ reads_by y.device heard ear
    reads_by_lem ear e = if_is_false y.device.deaf _ _ d ∙ ap (reads_by y.device heard) e

    pub take_awake : (bytes_after frame_after : List ℕ) → y.ear ≡ Awake → AwakeIs y heard bytes frame x bytes_after frame_after → PortTakeIs y heard bytes frame x bytes_after frame_after
    take_awake bytes_after frame_after e p = record {
      takes = by_ear Awake e p.takes;
      data_is = p.data_is ∙ same bytes (L.device_data (lent y.device bytes) heard) _ (if_is_false y.device.deaf _ _ d);
      frame_is = p.frame_is ∙ same frame (error_frame y.device (device_takes y.device heard).event frame) _ refl;
    }
      where
        same : (a b c : List ℕ) → b ≡ c → (when hears_wake_up y.device heard then a else b) ≡ (when reads_tick y heard then c else a)
        same a b c f = ap (λ (l : List ℕ). when hears_wake_up y.device heard then a else l) f ∙ flip (hears_wake_up y.device heard) a c ∙ ap (λ (t : Bool). when t then c else a) (sym (reads_by_lem Awake e))

    pub take_passes : (before : Bool) → y.ear ≡ PassesOver before → x ≡ passes_on y heard before → PortTakeIs y heard bytes frame x bytes frame
    take_passes before e p =
        let f = reads_by_lem (PassesOver before) e in
        record { takes = by_ear (PassesOver before) e p; data_is = if_false (reads_tick y heard) bytes _ _ f refl; frame_is = if_false (reads_tick y heard) frame _ _ f refl }

    pub take_dozes : (a b : Heard) → y.ear ≡ Dozes a b → x ≡ dozes_on y heard a b → PortTakeIs y heard bytes frame x bytes frame
    take_dozes a b e p =
        let f = reads_by_lem (Dozes a b) e in
        record { takes = by_ear (Dozes a b) e p; data_is = if_false (reads_tick y heard) bytes _ _ f refl; frame_is = if_false (reads_tick y heard) frame _ _ f refl }

pub ruleset takes = (refl, take_deaf, take_awake, take_passes, take_dozes)

-- ---- the host's answer

module _ (limit : ℕ) (d : Device) (wish : Wish) (bytes frame : List ℕ) (late : Bool) (is : late ≡ too_late d) where
  pub answer_late : late ≡ true → PortAnswerIs limit d wish bytes frame (Err Refusal.NoRequest) frame
  unfolding port_answered
  answer_late s =
      let c : port_answered limit d wish (length bytes) ≡ refused 8 = if_is_true (too_late d) _ _ (sym is ∙ s) in
      record { called = sym c; frame_is = ap (λ (k : Called Device). buffer_behind k (answer_frame d wish bytes frame) frame) (sym c) }

  pub answer_plain : (r : Result Device Refusal) (after : List ℕ) → late ≡ false → AnswerIs limit d wish bytes frame r after → PortAnswerIs limit d wish bytes frame r after
  unfolding port_answered
  answer_plain r after s p =
      let c : port_answered limit d wish (length bytes) ≡ answered limit d wish (length bytes) = if_is_false (too_late d) _ _ (sym is ∙ s) in
      record { called = p.called ∙ sym c; frame_is = p.frame_is ∙ ap (λ (k : Called Device). buffer_behind k (answer_frame d wish bytes frame) frame) (sym c) }

module _ (limit : ℕ) (y : PortDevice) (wish : Wish) (put frame after : List ℕ) (r : Result Device Refusal) (is : PortAnswerIs limit y.device wish put frame r after) where
  written : List ℕ
  written = answer_frame y.device wish put frame

  pub call_accepted : (e : Device) (z : PortDevice) → r ≡ Ok e → z ≡ with_device y e → PortCalledIs limit y (Some wish) put frame (record { device = z; result = CallResult.Taken }) after
  unfolding written
  call_accepted e z k same =
      let called : port_answered limit y.device wish (length put) ≡ accepted e = sym is.called ∙ ap called_as k in
      let buffer : written ≡ after = sym (is.frame_is ∙ ap (λ (c : Called Device). buffer_behind c written frame) called) in
      record {
        goes = λ heard told event bytes.
            ap (λ (c : Called Device). device_called heard (took y told event) c written frame bytes) called
            ∙ (λ i. device_sent heard (took y told event) (port_device_sends (sym same i) (buffer i)) (buffer i) bytes CallResult.Taken);
      }

  pub call_refused : (why : Refusal) (n : ℕ) → r ≡ Err why → n ≡ number why
      → PortCalledIs limit y (Some wish) put frame (record { device = y; result = CallResult.Refused n }) after
  unfolding written
  call_refused why n k same =
      let called : port_answered limit y.device wish (length put) ≡ refused (number why) = sym is.called ∙ ap called_as k in
      let buffer : frame ≡ after = sym (is.frame_is ∙ ap (λ (c : Called Device). buffer_behind c written frame) called) in
      record {
        goes = λ heard told event bytes.
            ap (λ (c : Called Device). device_called heard (took y told event) c written frame bytes) called
            ∙ ap (λ (f : List ℕ). device_sent heard (took y told event) (port_device_sends y f) f bytes (CallResult.Refused (number why))) buffer
            ∙ ap (λ (m : ℕ). device_sent heard (took y told event) (port_device_sends y after) after bytes (CallResult.Refused m)) (sym same);
      }

pub call_none : (limit : ℕ) (y : PortDevice) (call : Option Wish) (put frame : List ℕ) (r : PortCallTaken) → call ≡ None → r ≡ uncalled y → PortCalledIs limit y call put frame r frame
call_none limit y call put frame r e p = record {
  goes = λ heard told event bytes.
      ap (λ (c : Option Wish). device_calls limit heard (took y told event) (call_of c put) frame bytes) e
      ∙ ap (λ (k : PortCallTaken). device_sent heard (took y told event) (port_device_sends k.device frame) frame bytes k.result) (sym p);
}

pub call_some : (limit : ℕ) (y : PortDevice) (call : Option Wish) (wish : Wish) (put frame after : List ℕ) (r : PortCallTaken) → call ≡ Some wish → PortCalledIs limit y (Some wish) put frame r after → PortCalledIs limit y call put frame r after
call_some limit y call wish put frame after r e p = record {
  goes = λ heard told event bytes. ap (λ (c : Option Wish). device_calls limit heard (took y told event) (call_of c put) frame bytes) e ∙ p.goes heard told event bytes;
}

pub ruleset calls = (refl, answer_late, answer_plain, call_accepted, call_refused, call_none, call_some)

-- ---- the whole tick

pub tick_is : (limit : ℕ) (y : PortDevice) (heard : Heard) (call : Option Wish) (put frame bytes frame-heard frame_after bytes_after : List ℕ) (t : PortDeviceTaken) (c : PortCallTaken) (s : PortDeviceSent)
    → PortTakeIs y heard bytes frame t bytes_after frame-heard → PortCalledIs limit t.device call put frame-heard c frame_after → s ≡ port_device_sends c.device frame_after
    → PortDeviceTickIs limit y heard call put frame bytes (record { device = s.device; sent = s.sent; told = t.told; event = t.event; result = c.result }) frame_after bytes_after
unfolding port_device_tick
tick_is limit y heard call put frame bytes frame-heard frame_after bytes_after t c s p q e =
    ap (λ (k : PortDeviceSent). device_sent heard t k frame_after bytes_after c.result) e
    ∙ sym (q.goes heard t.told t.event bytes_after)
    ∙ (λ i. device_calls limit heard (p.takes i) (call_of call put) (p.frame_is i) (p.data_is i))

pub ruleset wholes = (refl, tick_is)
