-- A run in which no host but that of the first device wishes burst on: no other device ever bursts, so at most one does.
use Prim.Native.Nat.{ℕ, ◌+◌}
use mathlib.Core.Path.{◌≡◌, refl, sym, ap, subst, ◌∙◌}
use mathlib.Core.Bool.{Bool, true, false}
use mathlib.Core.List.{List, [], ◌∷◌}
use lib.ListN.{length}
use Rattle.base.specs.Refusal.{Called}
use Rattle.base.specs.Choice.{◌<?◌, ◌=?◌, ◌outside◌to◌}
use Rattle.base.specs.Store.{stored}
use Rattle.base.proofs.Choices.{true_false}
use Rattle.frame.specs.Limits.{fewest_answered, reserved_command}
use Rattle.line.specs.Reader.{inside_frame}
use Rattle.line.specs.declared.Heard.{Heard}
use Rattle.line.specs.declared.Heard.TheVariants.{Silence, Character, Damaged}
use Rattle.line.specs.declared.Receiver.{Receiver}
use Rattle.turns.specs.Device.{on_silence, on_heard, device_takes, wished, wish_refused, answered_by, answered, answer_frame, content_given, back_length, sends_by, device_sends, begun_frame}
use Rattle.turns.specs.Link.{DeviceCall, no_call, gives_answer, gives_content, DeviceSide, DeviceStep, Link, Calls, device_sent, answer_called, content_called, heard_frame, device_data, device_tick, device_ticks, sides, link_tick, link_after, run}
use Rattle.turns.specs.Run.{All, Sole, EachTick, no_tick, tick_and, OneBursts}
use Rattle.turns.specs.Run as R
use Rattle.turns.specs.declared.CallResult.{CallResult}
use Rattle.turns.specs.declared.Turn.{Turn}
use Rattle.turns.specs.declared.Turn.TheVariants.{Listens, Asked, AnswerWaits, Begins, Answers, Follows, Bursts}
use Rattle.turns.specs.declared.Device.{Device}
use Rattle.turns.specs.declared.DeviceTaken.{DeviceTaken}
use Rattle.turns.specs.declared.DeviceTold.{DeviceTold}
use Rattle.turns.specs.declared.DeviceSent.{DeviceSent}
use Rattle.turns.specs.declared.Wish.{Wish}
use Rattle.turns.specs.declared.Wish.TheVariants.{Same, Off}
use Rattle.turns.proofs.Bursting.{if_both}

-- a wish that does not turn burst on
pub data NotOn : Wish → Type 0 where
  same : NotOn Same
  off : NotOn Off

pub data NotOnCall : DeviceCall → Type 0 where
  no_one : NotOnCall no_call
  replies : {w : Wish} {put : List ℕ} → NotOn w → NotOnCall (gives_answer w put)
  given : {command : ℕ} {put : List ℕ} → NotOnCall (gives_content command put)

-- burst is off, and no answer in hand turns it on
pub record StaysOff (d : Device) : Type 0 where
  pub off : d.burst ≡ false
  pub not_on : NotOn d.wish

-- ---- what was heard

silence_stays : (d : Device) (r : Receiver) → StaysOff d → StaysOff (on_silence d r).device
silence_stays d r c =
    let P : DeviceTaken → Type 0 = λ t. StaysOff t.device in
    if_both P (inside_frame d.receiver.place) _ _
    (if_both P d.receiver.gap _ _ (record { off = c.off; not_on = c.not_on }) (record { off = c.off; not_on = c.not_on }))
    (record { off = c.off; not_on = c.not_on })

heard_stays : (d : Device) (heard : Heard) → StaysOff d → StaysOff (on_heard d heard).device
heard_stays d Silence c = silence_stays d _ c
heard_stays d (Character b) c = record { off = c.off; not_on = same }
heard_stays d (Damaged b kind) c = record { off = c.off; not_on = same }

takes_stays : (d : Device) (heard : Heard) → StaysOff d → StaysOff (device_takes d heard).device
unfolding device_takes
takes_stays d heard c = if_both (λ (t : DeviceTaken). StaysOff t.device) d.deaf _ _ c (heard_stays d heard c)

-- ---- sending

wished_off : (b : Bool) (w : Wish) → b ≡ false → NotOn w → wished b w ≡ false
wished_off b Same h same = h
wished_off b Off h off = refl
wished_off b Rattle.turns.specs.declared.Wish.TheVariants.On h x'' = elim x'' [ ]

module _ (d : Device) (c : StaysOff d) (frame : List ℕ) where
  abbrev SentStaysOff : DeviceSent → Type 0
  SentStaysOff s = StaysOff s.device

  sends_stays : (turn : Turn) → StaysOff (sends_by d frame turn).device
  sends_stays Listens = record { off = c.off; not_on = c.not_on }
  sends_stays (Asked n) = record { off = c.off; not_on = c.not_on }
  sends_stays AnswerWaits = record { off = c.off; not_on = c.not_on }
  sends_stays Begins = if_both SentStaysOff (0 + 1 <? d.length) _ _ (record { off = wished_off d.burst d.wish c.off c.not_on; not_on = c.not_on }) (record { off = wished_off d.burst d.wish c.off c.not_on; not_on = c.not_on })
  sends_stays (Answers n) = if_both SentStaysOff (n + 1 <? d.length) _ _ (record { off = c.off; not_on = c.not_on }) (record { off = c.off; not_on = c.not_on })
  sends_stays Follows = if_both SentStaysOff (0 + 1 <? back_length d) _ _ (record { off = c.off; not_on = c.not_on }) (record { off = c.off; not_on = c.not_on })
  sends_stays (Bursts n) = if_both SentStaysOff (n + 1 <? d.length) _ _ (record { off = c.off; not_on = c.not_on }) (record { off = c.off; not_on = c.not_on })

sent_stays : (d : Device) → StaysOff d → (frame bytes contents : List ℕ) (told : DeviceTold) (result : CallResult) → StaysOff (device_sent d frame bytes contents told result).side.device
unfolding device_sends
sent_stays d c frame bytes contents told result = sends_stays d c (begun_frame d d.turn contents frame) d.turn

-- ---- the host's call

module _ (limit : ℕ) (d : Device) (c : StaysOff d) (frame bytes contents : List ℕ) (told : DeviceTold) where
  abbrev StepStaysOff : DeviceStep → Type 0
  StepStaysOff s = StaysOff s.side.device

  answer_stays : (wish : Wish) (put : List ℕ) (turn : Turn) → NotOn wish → StepStaysOff (answer_called (answered_by limit d wish (length put) turn) d (answer_frame d wish put frame) frame bytes contents told)
  answer_stays wish put Listens w = sent_stays d c frame bytes contents told CallResult.Taken
  answer_stays wish put (Asked n) w =
      if_both (λ (a : Called Device). StepStaysOff (answer_called a d (answer_frame d wish put frame) frame bytes contents told)) (length put outside fewest_answered to limit) _ _ (sent_stays d c frame bytes contents told CallResult.Taken)
      (if_both (λ (a : Called Device). StepStaysOff (answer_called a d (answer_frame d wish put frame) frame bytes contents told)) (wish_refused d wish) _ _ (sent_stays d c frame bytes contents told CallResult.Taken)
      (sent_stays _ (record { off = c.off; not_on = w }) (answer_frame d wish put frame) bytes contents told CallResult.Taken))
  answer_stays wish put AnswerWaits w = sent_stays d c frame bytes contents told CallResult.Taken
  answer_stays wish put Begins w = sent_stays d c frame bytes contents told CallResult.Taken
  answer_stays wish put (Answers n) w = sent_stays d c frame bytes contents told CallResult.Taken
  answer_stays wish put Follows w = sent_stays d c frame bytes contents told CallResult.Taken
  answer_stays wish put (Bursts n) w = sent_stays d c frame bytes contents told CallResult.Taken

  content_stays : (command : ℕ) (put : List ℕ) → StepStaysOff (content_called (content_given limit d command (length put)) d put frame bytes contents told)
  unfolding content_given
  content_stays command put =
      if_both (λ (a : Called Device). StepStaysOff (content_called a d put frame bytes contents told)) (command =? reserved_command) _ _ (sent_stays d c frame bytes contents told CallResult.Taken)
      (if_both (λ (a : Called Device). StepStaysOff (content_called a d put frame bytes contents told)) (length put outside fewest_answered to limit) _ _ (sent_stays d c frame bytes contents told CallResult.Taken)
      (sent_stays _ (record { off = c.off; not_on = c.not_on }) frame bytes (stored contents 0 put) told CallResult.Taken))

-- ---- a tick

abbrev pub SideStaysOff : DeviceSide → Type 0
SideStaysOff x = StaysOff x.device

tick_stays : (limit : ℕ) (x : DeviceSide) (heard : Heard) (call : DeviceCall) → NotOnCall call → SideStaysOff x → SideStaysOff (device_tick limit x heard call).side
unfolding device_tick answered
tick_stays limit x heard no_call no_one c = sent_stays _ (takes_stays x.device heard c) (heard_frame x heard) (device_data x heard) x.contents (device_takes x.device heard).told CallResult.Nothing
tick_stays limit x heard (gives_answer w put) (replies m) c =
    answer_stays limit (device_takes x.device heard).device (takes_stays x.device heard c) (heard_frame x heard) (device_data x heard) x.contents (device_takes x.device heard).told w put (device_takes x.device heard).device.turn m
tick_stays limit x heard (gives_content command put) given c =
    content_stays limit (device_takes x.device heard).device (takes_stays x.device heard c) (heard_frame x heard) (device_data x heard) x.contents (device_takes x.device heard).told command put

-- ---- the other devices of a link, and a run

pub data NotOnCalls : List DeviceCall → Type 0 where
  none : NotOnCalls []
  and : {c : DeviceCall} {cs : List DeviceCall} → NotOnCall c → NotOnCalls cs → NotOnCalls (c ∷ cs)

ticks_stays : (limit : ℕ) (heard : Heard) (xs : List DeviceSide) (cs : List DeviceCall) → NotOnCalls cs → All SideStaysOff xs → All SideStaysOff (sides (device_ticks limit heard xs cs))
unfolding device_ticks sides
ticks_stays limit heard [] cs m all = R.none
ticks_stays limit heard (x ∷ xs) [] m (R.and p ps) = R.and (tick_stays limit x heard no_call no_one p) (ticks_stays limit heard xs [] none ps)
ticks_stays limit heard (x ∷ xs) (c ∷ cs) (and m ms) (R.and p ps) = R.and (tick_stays limit x heard c m p) (ticks_stays limit heard xs cs ms ps)

not_both : (b : Bool) (y : DeviceSide) → SideStaysOff y → b ≡ true → y.device.burst ≡ true → ⊥
not_both b y c h e = true_false (sym e ∙ c.off)

no_other : (x : DeviceSide) (xs : List DeviceSide) → All SideStaysOff xs → All (λ (y : DeviceSide). x.device.burst ≡ true → y.device.burst ≡ true → ⊥) xs
no_other x [] all = R.none
no_other x (y ∷ ys) (R.and p ps) = R.and (not_both x.device.burst y p) (no_other x ys ps)

stays_sole : (xs : List DeviceSide) → All SideStaysOff xs → Sole xs
stays_sole [] all = R.no_one
stays_sole (x ∷ xs) (R.and p ps) = R.sole_and (no_other x xs ps) (stays_sole xs ps)

-- the calls of a tick, to all devices but the first
pub data OneWishes : List Calls → Type 0 where
  none : OneWishes []
  and : {c : Calls} {cs : List Calls} (first : DeviceCall) (others : List DeviceCall) → c.for_devices ≡ first ∷ others → NotOnCalls others → OneWishes cs → OneWishes (c ∷ cs)

split : (limit : ℕ) (heard : Heard) (x : DeviceSide) (xs : List DeviceSide) (ds : List DeviceCall) (first : DeviceCall) (others : List DeviceCall) → ds ≡ first ∷ others
    → sides (device_ticks limit heard (x ∷ xs) ds) ≡ (device_tick limit x heard first).side ∷ sides (device_ticks limit heard xs others)
unfolding device_ticks sides
split limit heard x xs ds first others e = ap (λ (c : List DeviceCall). sides (device_ticks limit heard (x ∷ xs) c)) e

pub one_wishes : (limit : ℕ) (l : Link) (x : DeviceSide) (xs : List DeviceSide) (cs : List Calls) → l.devices ≡ x ∷ xs → All SideStaysOff xs → OneWishes cs → EachTick OneBursts (run limit l cs)
unfolding run link_tick
one_wishes limit l x xs [] e all w = no_tick
one_wishes limit l x xs (c ∷ cs) e all (and first others f m w) =
    tick_and (subst Sole (sym now) (R.sole_and (no_other (device_tick limit x l.line first).side _ after) (stays_sole _ after)))
    (one_wishes limit (link_after (link_tick limit l c)) (device_tick limit x l.line first).side _ cs now after w)
  where
    after : All SideStaysOff (sides (device_ticks limit l.line xs others))
    after = ticks_stays limit l.line xs others m all

    now : sides (device_ticks limit l.line l.devices c.for_devices) ≡ (device_tick limit x l.line first).side ∷ sides (device_ticks limit l.line xs others)
    now = ap (λ (ys : List DeviceSide). sides (device_ticks limit l.line ys c.for_devices)) e ∙ split limit l.line x xs c.for_devices first others f
