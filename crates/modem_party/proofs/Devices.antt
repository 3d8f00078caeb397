-- A device behind a chip: it is deaf in the tick behind its own sending, and deaf it does what it does in silence.
use Prim.Native.Nat.{ℕ, ◌+◌}
use mathlib.Core.Bool.{Bool, true, false}
use mathlib.Core.List.{List}
use mathlib.Core.Path.{◌≡◌, refl, sym, ap, ap₂, ◌∙◌}
use lib.ListN.{length}
use Rattle.base.specs.Refusal.{Called, accepted, refused}
use Rattle.base.specs.Choice.{when◌then◌else◌, ◌<?◌}
use Rattle.base.proofs.Choices.{if_is_true}
use Rattle.line.specs.Reader.{taken_data}
use Rattle.line.specs.declared.Event.{Event}
use Rattle.line.specs.declared.Heard.{Heard}
use Rattle.line.specs.declared.Heard.TheVariants.{Silence}
use Rattle.turns.specs.Device.{tells, on_heard, device_takes, error_frame, answered, answer_frame, content_given, wished, first_for, answers_from, bursts_from, back_length, sends_by, device_sends}
use Rattle.turns.specs.Link.{DeviceSide, DeviceStep, DeviceCall, no_call, gives_answer, gives_content, device_data, answer_called, content_called, device_calls, heard_frame, device_tick}
use Rattle.turns.specs.declared.Turn.{Turn}
use Rattle.turns.specs.declared.Turn.TheVariants.{Listens, Asked, AnswerWaits, Begins, Answers, Follows, Bursts}
use Rattle.turns.specs.declared.Device.{Device}
use Rattle.turns.specs.declared.DeviceTaken.{DeviceTaken}
use Rattle.turns.specs.declared.DeviceSent.{DeviceSent}
use Rattle.turns.specs.declared.DeviceTold.{DeviceTold}
use Rattle.modem_party.specs.Behind.{HearsNot}
use Rattle.modem_party.specs.Ticks.{device_done, device_step, device_deaf, DeviceSame}
use Rattle.modem_party.proofs.Deaf.{DeafIf, either, not_silent}
use Rattle.modem_party.proofs.Same.{behind_chip_same}

-- ---- deaf, it takes nothing

module _ (x : DeviceSide) (d : x.device.deaf ≡ true) where
  data_deaf : (h : Heard) → device_data x h ≡ x.bytes
  data_deaf h = if_is_true x.device.deaf x.bytes (taken_data x.device.receiver h x.bytes) d

  takes_deaf : (h : Heard) → device_takes x.device h ≡ tells x.device DeviceTold.Nothing Event.Nothing
  unfolding device_takes
  takes_deaf h = if_is_true x.device.deaf _ (on_heard x.device h) d

  ticks_deaf : (limit : ℕ) (h : Heard) (c : DeviceCall) → device_tick limit x h c ≡ device_calls limit (tells x.device DeviceTold.Nothing Event.Nothing) c x.frame x.bytes x.contents
  unfolding device_tick
  ticks_deaf limit h c =
      ap₂ (λ (t : DeviceTaken) (b : List ℕ). device_calls limit t c (error_frame x.device t.event x.frame) b x.contents) (takes_deaf h) (data_deaf h)

  ignores : (limit : ℕ) (h : Heard) (c : DeviceCall) → device_tick limit x h c ≡ device_tick limit x Silence c
  ignores limit h c = ticks_deaf limit h c ∙ sym (ticks_deaf limit Silence c)

-- ---- if it sent, it is deaf

abbrev DeafSent : DeviceSent → Type 0
DeafSent = DeafIf (λ (u : DeviceSent). u.sent) (λ (u : DeviceSent). u.device.deaf)

abbrev DeafStep : DeviceStep → Type 0
DeafStep = DeafIf (λ (u : DeviceStep). u.sent) (λ (u : DeviceStep). u.side.device.deaf)

one_of : (b : Bool) (u v : DeviceSent) → DeafSent u → DeafSent v → DeafSent (when b then u else v)
one_of = either (λ (u : DeviceSent). u.sent) (λ (u : DeviceSent). u.device.deaf)

answers_deaf : (d : Device) (frame : List ℕ) (n : ℕ) (burst primary : Bool) → DeafSent (answers_from d frame n burst primary)
answers_deaf d frame n burst primary = one_of (n + 1 <? d.length) _ _ (λ c e. refl) (λ c e. refl)

bursts_deaf : (d : Device) (frame : List ℕ) (n length : ℕ) (primary : Bool) → DeafSent (bursts_from d frame n length primary)
bursts_deaf d frame n length primary = one_of (n + 1 <? length) _ _ (λ c e. refl) (λ c e. refl)

by_deaf : (d : Device) (frame : List ℕ) (t : Turn) → DeafSent (sends_by d frame t)
by_deaf d frame Listens = λ c e. not_silent c e
by_deaf d frame (Asked n) = λ c e. not_silent c e
by_deaf d frame AnswerWaits = λ c e. not_silent c e
by_deaf d frame Begins = answers_deaf d frame 0 (wished d.burst d.wish) (first_for d)
by_deaf d frame (Answers n) = answers_deaf d frame n d.burst d.primary
by_deaf d frame Follows = bursts_deaf d frame 0 (back_length d) (when d.primary then false else true)
by_deaf d frame (Bursts n) = bursts_deaf d frame n d.length d.primary

sends_deaf : (d : Device) (frame : List ℕ) → DeafSent (device_sends d frame)
unfolding device_sends
sends_deaf d frame = by_deaf d frame d.turn

answer_deaf : (r : Called Device) (d : Device) (written frame bytes contents : List ℕ) (told : DeviceTold) → DeafStep (answer_called r d written frame bytes contents told)
answer_deaf (accepted n) d written frame bytes contents told c e = sends_deaf _ _ c e
answer_deaf (refused why) d written frame bytes contents told c e = sends_deaf _ _ c e

content_deaf : (r : Called Device) (d : Device) (put frame bytes contents : List ℕ) (told : DeviceTold) → DeafStep (content_called r d put frame bytes contents told)
content_deaf (accepted n) d put frame bytes contents told c e = sends_deaf _ _ c e
content_deaf (refused why) d put frame bytes contents told c e = sends_deaf _ _ c e

calls_deaf : (limit : ℕ) (t : DeviceTaken) (k : DeviceCall) (frame bytes contents : List ℕ) → DeafStep (device_calls limit t k frame bytes contents)
calls_deaf limit t no_call frame bytes contents c e = sends_deaf _ _ c e
calls_deaf limit t (gives_answer wish put) frame bytes contents c e =
    answer_deaf (answered limit t.device wish (length put)) t.device (answer_frame t.device wish put frame) frame bytes contents t.told c e
calls_deaf limit t (gives_content command put) frame bytes contents c e =
    content_deaf (content_given limit t.device command (length put)) t.device put frame bytes contents t.told c e

ticked_deaf : (limit : ℕ) (x : DeviceSide) (h : Heard) (k : DeviceCall) → DeafStep (device_tick limit x h k)
unfolding device_tick
ticked_deaf limit x h k = calls_deaf limit (device_takes x.device h) k (heard_frame x h) (device_data x h) x.contents

-- ---- behind a chip

pub device_hears_not : (limit : ℕ) → HearsNot (device_step limit) device_deaf
device_hears_not limit = record {
  ignores = λ s h c d. ap device_done (ignores s d limit h c);
  sends_deaf = λ s h c k e. ticked_deaf limit s h c k e;
}

pub device_same : (limit : ℕ) → DeviceSame limit
device_same limit = behind_chip_same (device_step limit) device_deaf (device_hears_not limit)
