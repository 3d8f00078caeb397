-- Of "A device bursts from the first character of an ACK whose answer turned burst on until the first character of one whose answer turned it off": the field `burst` changes only in a tick in which the device sends the first character of the frame in its buffer, in any state, whatever is heard and called. That this frame is an ACK with the wished flag is said, for the states of a run, in Devices.antt (`Goes`, `answers`).
use Prim.Native.Nat.{ℕ, ◌+◌}
use mathlib.Core.Path.{◌≡◌, refl}
use mathlib.Core.Bool.{Bool, true, false}
use mathlib.Core.List.{List}
use lib.ListN.{length}
use Rattle.base.specs.Refusal.{Called}
use Rattle.base.specs.Choice.{when◌then◌else◌, ◌<?◌}
use Rattle.base.specs.Store.{stored}
use Rattle.frame.specs.Address.{byte_at}
use Rattle.frame.specs.declared.Header.{Header}
use Rattle.line.specs.Reader.{inside_frame}
use Rattle.line.specs.declared.Event.TheVariants.{Damaged}
use Rattle.line.specs.declared.Heard.{Heard}
use Rattle.line.specs.declared.Heard.TheVariants.{Silence, Character}
use Rattle.line.specs.declared.Receiver.{Receiver}
use Rattle.turns.specs.Device.{device_with, on_heard, device_takes, wish_refused, answered_by, answered, answer_frame, content_given, back_length, sends_by, device_sends, begun_frame, count_refused}
use Rattle.turns.specs.Link.{DeviceCall, no_call, gives_answer, gives_content, DeviceSide, DeviceStep, device_sent, answer_called, content_called, device_tick}
use Rattle.turns.specs.declared.CallResult.{CallResult}
use Rattle.turns.specs.declared.Sent.{Sent}
use Rattle.turns.specs.declared.Turn.{Turn}
use Rattle.turns.specs.declared.Turn.TheVariants.{Listens, Asked, AnswerWaits, Begins, Answers, Follows, Bursts}
use Rattle.turns.specs.declared.Device.{Device}
use Rattle.turns.specs.declared.DeviceTaken.{DeviceTaken}
use Rattle.turns.specs.declared.DeviceTold.{DeviceTold}
use Rattle.turns.specs.declared.DeviceSent.{DeviceSent}
use Rattle.turns.specs.declared.Wish.{Wish}

-- ---- what was heard leaves it

pub if_both : {A : Type 0} (P : A → Type 0) (t : Bool) (a b : A) → P a → P b → P (when t then a else b)
unfolding when◌then◌else◌
if_both P true a b p q = p
if_both P false a b p q = q

-- and every field that `device_with` leaves
pub takes_kept : {A : Type 0} (field : Device → A) → ((d : Device) (r : Receiver) (turn : Turn) (request : Header) (wish : Wish) (length due : ℕ) → field (device_with d r turn request wish length due) ≡ field d)
    → (d : Device) (heard : Heard) → field (device_takes d heard).device ≡ field d
unfolding device_takes
takes_kept field same d heard = if_both P d.deaf _ _ refl (on heard)
  where
    P : DeviceTaken → Type 0
    P t = field t.device ≡ field d

    on : (h : Heard) → P (on_heard d h)
    on Silence = if_both P (inside_frame d.receiver.place) _ _ (if_both P d.receiver.gap _ _ (same d _ _ _ _ _ _) (same d _ _ _ _ _ _)) (same d _ _ _ _ _ _)
    on (Character c) = same d _ _ _ _ _ _
    on (Heard.Damaged c kind) = same d _ _ _ _ _ _

takes_burst : (d : Device) (heard : Heard) → (device_takes d heard).device.burst ≡ d.burst
takes_burst = takes_kept (λ (d : Device). d.burst) (λ d r turn request wish length due. refl)

-- ---- sending changes it with the first character of an ACK

pub data BurstTick (v : Bool) (step : DeviceStep) : Type 0 where
  -- it is as it was
  same : step.side.device.burst ≡ v → BurstTick v step
  -- the first character of the frame in its buffer goes out
  first_character : step.sent ≡ Sent.Character (byte_at step.side.frame 0) → BurstTick v step

module _ (v : Bool) (d : Device) (was : d.burst ≡ v) (frame bytes contents : List ℕ) (told : DeviceTold) (result : CallResult) where
  step : List ℕ → DeviceSent → DeviceStep
  step f s = record { side = record { device = s.device; frame = f; bytes = bytes; contents = contents }; sent = s.sent; told = told; result = result }

  by_turn : (turn : Turn) → BurstTick v (step (begun_frame d turn contents frame) (sends_by d (begun_frame d turn contents frame) turn))
  unfolding step
  by_turn Listens = same was
  by_turn (Asked n) = same was
  by_turn AnswerWaits = same was
  by_turn Begins = if_both (λ (s : DeviceSent). BurstTick v (step frame s)) (0 + 1 <? d.length) _ _ (first_character refl) (first_character refl)
  by_turn (Answers n) = if_both (λ (s : DeviceSent). BurstTick v (step frame s)) (n + 1 <? d.length) _ _ (same was) (same was)
  by_turn Follows = if_both (λ (s : DeviceSent). BurstTick v (step (begun_frame d Follows contents frame) s)) (0 + 1 <? back_length d) _ _ (same was) (same was)
  by_turn (Bursts n) = if_both (λ (s : DeviceSent). BurstTick v (step frame s)) (n + 1 <? d.length) _ _ (same was) (same was)

  sent_burst : BurstTick v (device_sent d frame bytes contents told result)
  unfolding device_sends step
  sent_burst = by_turn d.turn

-- ---- the host's call leaves it

module _ (limit : ℕ) (v : Bool) (d : Device) (was : d.burst ≡ v) (frame bytes contents : List ℕ) (told : DeviceTold) where
  answer_burst : (wish : Wish) (put : List ℕ) (turn : Turn) → BurstTick v (answer_called (answered_by limit d wish (length put) turn) d (answer_frame d wish put frame) frame bytes contents told)
  answer_burst wish put Listens = sent_burst v d was frame bytes contents told _
  answer_burst wish put (Asked n) =
      if_both (λ (c : Called Device). BurstTick v (answer_called c d (answer_frame d wish put frame) frame bytes contents told)) (count_refused limit (length put)) _ _ (sent_burst v d was frame bytes contents told _)
      (if_both (λ (c : Called Device). BurstTick v (answer_called c d (answer_frame d wish put frame) frame bytes contents told)) (wish_refused d wish) _ _ (sent_burst v d was frame bytes contents told _)
      (sent_burst v _ was (answer_frame d wish put frame) bytes contents told CallResult.Taken))
  answer_burst wish put AnswerWaits = sent_burst v d was frame bytes contents told _
  answer_burst wish put Begins = sent_burst v d was frame bytes contents told _
  answer_burst wish put (Answers n) = sent_burst v d was frame bytes contents told _
  answer_burst wish put Follows = sent_burst v d was frame bytes contents told _
  answer_burst wish put (Bursts n) = sent_burst v d was frame bytes contents told _

  content_burst : (command : ℕ) (put : List ℕ) → BurstTick v (content_called (content_given limit d command (length put)) d put frame bytes contents told)
  unfolding content_given
  content_burst command put =
      if_both (λ (c : Called Device). BurstTick v (content_called c d put frame bytes contents told)) _ _ _ (sent_burst v d was frame bytes contents told _)
      (if_both (λ (c : Called Device). BurstTick v (content_called c d put frame bytes contents told)) (count_refused limit (length put)) _ _ (sent_burst v d was frame bytes contents told _)
      (sent_burst v _ was frame bytes (stored contents 0 put) told CallResult.Taken))

-- ---- the tick

pub burst_tick : (limit : ℕ) (x : DeviceSide) (heard : Heard) (call : DeviceCall) → BurstTick x.device.burst (device_tick limit x heard call)
unfolding device_tick answered
burst_tick limit x heard no_call = sent_burst x.device.burst _ (takes_burst x.device heard) _ _ _ _ CallResult.Nothing
burst_tick limit x heard (gives_answer wish put) = answer_burst limit x.device.burst (device_takes x.device heard).device (takes_burst x.device heard) _ _ _ _ wish put (device_takes x.device heard).device.turn
burst_tick limit x heard (gives_content command put) = content_burst limit x.device.burst (device_takes x.device heard).device (takes_burst x.device heard) _ _ _ _ command put
