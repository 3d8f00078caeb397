-- What every tick of the link keeps, whatever is heard and called: no device's frame and no burst content is longer than the longest one. And so for all parties of a link.
use Prim.Native.Nat.{ℕ, ◌+◌, ◌≤◌}
use native.Mathlib.Omega.{arith}
use mathlib.Core.Path.{◌≡◌, refl, sym, subst}
use mathlib.Core.Bool.{Bool}
use mathlib.Core.List.{List, [], ◌∷◌}
use lib.ListN.{length}
use Rattle.base.specs.Refusal.{Called}
use Rattle.base.specs.Choice.{when◌then◌else◌, ◌<?◌, ◌=?◌}
use Rattle.base.specs.Store.{stored}
use Rattle.base.proofs.Choices.{true_false}
use Rattle.frame.specs.Delimiter.{stx}
use Rattle.line.specs.Reader.{taken, inside_frame}
use Rattle.line.specs.declared.Event.{Event}
use Rattle.line.specs.declared.Event.TheVariants.{Nothing, PassedOver, Broken, Frame, Damaged}
use Rattle.line.specs.declared.Heard.{Heard}
use Rattle.line.specs.declared.Heard.TheVariants.{Silence, Character}
use Rattle.line.specs.declared.Profile.{Profile}
use Rattle.line.specs.declared.Receiver.{Receiver}
use Rattle.turns.specs.Party.{is_broadcast}
use Rattle.turns.specs.Device.{has_error, answer_header, wished, back_header, back_length, on_silence, on_character, on_heard, device_takes, answered_by, answered, answer_frame, content_given, sends_by, device_sends, begun_frame, may_answer, changed}
use Rattle.turns.specs.Link.{DeviceCall, no_call, gives_answer, gives_content, MasterSide, DeviceSide, device_data, heard_frame, device_sent, answer_called, content_called, device_tick, device_ticks, Link, Calls, sides, link_tick, link_after}
use Rattle.turns.specs.Run.{All, none, and, MasterStarts, DeviceStarts, Starts}
use Rattle.turns.specs.declared.CallResult.{CallResult}
use Rattle.turns.specs.declared.Turn.{Turn}
use Rattle.turns.specs.declared.Turn.TheVariants.{Listens, Asked, AnswerWaits, Begins, Answers, Follows, Bursts}
use Rattle.turns.specs.declared.Wish.{Wish}
use Rattle.turns.specs.declared.Device.{Device}
use Rattle.turns.specs.declared.DeviceTaken.{DeviceTaken}
use Rattle.turns.specs.declared.DeviceTold.{DeviceTold}
use Rattle.turns.specs.declared.DeviceSent.{DeviceSent}
use Rattle.turns.proofs.Devices.{AnswerView, ContentView, answer_view, content_view}
use Rattle.turns.proofs.Devices as D
use Rattle.turns.proofs.Bursting.{if_both}
use Rattle.turns.proofs.Fresh.{master_is, device_is}
use Rattle.runs.proofs.Kept.{MasterKept, MasterSettled, master_kept, frame_short}
use Rattle.turns.specs.declared.Change.{Change}

-- ---- devices

pub record DeviceKept (limit : ℕ) (d : Device) : Type 0 where
  pub preamble_high : d.preamble ≤ 20
  pub short : d.length ≤ limit + 29
  pub content_short : d.content.count ≤ limit

module _ (limit : ℕ) (low : 2 ≤ limit) (d : Device) (k : DeviceKept limit d) where
  if_kept : (t : Bool) (a b : DeviceTaken) → DeviceKept limit a.device → DeviceKept limit b.device → DeviceKept limit (when t then a else b).device
  if_kept t a b p q = if_both (λ (x : DeviceTaken). DeviceKept limit x.device) t a b p q

  -- the frame and the content stay
  same : {e : Device} → e.preamble ≡ d.preamble → e.length ≡ d.length → e.content.count ≡ d.content.count → DeviceKept limit e
  same p l c = record { preamble_high = omega (arith, p, k.preamble_high); short = omega (arith, l, k.short); content_short = omega (arith, c, k.content_short) }

  silence : (r : Receiver) → DeviceKept limit (on_silence d r).device
  silence r = if_kept (inside_frame d.receiver.place) _ _ (if_kept d.receiver.gap _ _ (same refl refl refl) (same refl refl refl)) (same refl refl refl)

  character : (r : Receiver) (e : Event) → DeviceKept limit (on_character d r e).device
  character r Nothing = same refl refl refl
  character r PassedOver = same refl refl refl
  character r Broken = same refl refl refl
  character r (Frame w) =
      let P : Change → Type 0 = λ c. DeviceKept limit (changed d r (Frame w) c).device in
      if_both P (w.header.kind =? stx) _ _
      (if_both P (w.expansion =? 0) _ _ (if_both P (may_answer d w.header) _ _ (same refl refl refl) (if_both P (is_broadcast w.header) _ _ (same refl refl refl) (same refl refl refl))) (same refl refl refl))
      (same refl refl refl)
  character r (Damaged w m) =
      if_both (λ (c : Change). DeviceKept limit (changed d r (Damaged w m) c).device) (has_error d w m) _ _
      (record { preamble_high = k.preamble_high; short = frame_short limit d.preamble (answer_header w.header d.burst) 2 k.preamble_high low; content_short = k.content_short })
      (same refl refl refl)

  heard_kept : (heard : Heard) → DeviceKept limit (on_heard d heard).device
  heard_kept Silence = silence (taken d.receiver Silence).receiver
  heard_kept (Character c) = character _ (taken d.receiver (Character c)).event
  heard_kept (Heard.Damaged c kind) = character _ (taken d.receiver (Heard.Damaged c kind)).event

  takes_kept : (heard : Heard) → DeviceKept limit (device_takes d heard).device
  unfolding device_takes
  takes_kept heard = if_kept d.deaf _ _ (same refl refl refl) (heard_kept heard)

  by_turn : (frame : List ℕ) (turn : Turn) → DeviceKept limit (sends_by d frame turn).device
  by_turn frame Listens = same refl refl refl
  by_turn frame (Asked n) = same refl refl refl
  by_turn frame AnswerWaits = same refl refl refl
  by_turn frame Begins = if_both (λ (s : DeviceSent). DeviceKept limit s.device) (0 + 1 <? d.length) _ _ (same refl refl refl) (same refl refl refl)
  by_turn frame (Answers n) = if_both (λ (s : DeviceSent). DeviceKept limit s.device) (n + 1 <? d.length) _ _ (same refl refl refl) (same refl refl refl)
  by_turn frame Follows =
      let short = frame_short limit d.preamble (back_header d) d.content.count k.preamble_high k.content_short in
      if_both (λ (s : DeviceSent). DeviceKept limit s.device) (0 + 1 <? back_length d) _ _
      (record { preamble_high = k.preamble_high; short = short; content_short = k.content_short })
      (record { preamble_high = k.preamble_high; short = short; content_short = k.content_short })
  by_turn frame (Bursts n) = if_both (λ (s : DeviceSent). DeviceKept limit s.device) (n + 1 <? d.length) _ _ (same refl refl refl) (same refl refl refl)

  sent_kept : (frame bytes contents : List ℕ) (told : DeviceTold) (result : CallResult) → DeviceKept limit (device_sent d frame bytes contents told result).side.device
  unfolding device_sends
  sent_kept frame bytes contents told result = by_turn (begun_frame d d.turn contents frame) d.turn

module _ (limit : ℕ) (low : 2 ≤ limit) (d : Device) (k : DeviceKept limit d) (frame bytes contents : List ℕ) (told : DeviceTold) where
  answer_kept : (wish : Wish) (put : List ℕ) (turn : Turn) → DeviceKept limit (answer_called (answered_by limit d wish (length put) turn) d (answer_frame d wish put frame) frame bytes contents told).side.device
  answer_kept wish put Listens = sent_kept limit low d k frame bytes contents told (CallResult.Refused 8)
  answer_kept wish put (Asked n) = go (answer_view limit d wish (length put) n)
    where
      by : Called Device → Type 0
      by c = DeviceKept limit (answer_called c d (answer_frame d wish put frame) frame bytes contents told).side.device

      go : AnswerView limit d wish (length put) n → by (answered_by limit d wish (length put) (Asked n))
      go (D.AnswerView.is_refused why e) = subst by (sym e) (sent_kept limit low d k frame bytes contents told (CallResult.Refused why))
      go (D.AnswerView.is_taken least most f e) =
          subst by (sym e)
          (sent_kept limit low _
          (record { preamble_high = k.preamble_high; short = frame_short limit d.preamble (answer_header d.request (wished d.burst wish)) (length put) k.preamble_high most; content_short = k.content_short })
          (answer_frame d wish put frame) bytes contents told CallResult.Taken)
  answer_kept wish put AnswerWaits = sent_kept limit low d k frame bytes contents told (CallResult.Refused 8)
  answer_kept wish put Begins = sent_kept limit low d k frame bytes contents told (CallResult.Refused 8)
  answer_kept wish put (Answers n) = sent_kept limit low d k frame bytes contents told (CallResult.Refused 8)
  answer_kept wish put Follows = sent_kept limit low d k frame bytes contents told (CallResult.Refused 8)
  answer_kept wish put (Bursts n) = sent_kept limit low d k frame bytes contents told (CallResult.Refused 8)

  content_kept : (command : ℕ) (put : List ℕ) → DeviceKept limit (content_called (content_given limit d command (length put)) d put frame bytes contents told).side.device
  content_kept command put = go (content_view limit d command (length put))
    where
      by : Called Device → Type 0
      by c = DeviceKept limit (content_called c d put frame bytes contents told).side.device

      go : ContentView limit d command (length put) → by (content_given limit d command (length put))
      go (D.ContentView.is_refused why e) = subst by (sym e) (sent_kept limit low d k frame bytes contents told (CallResult.Refused why))
      go (D.ContentView.is_taken least most e) =
          subst by (sym e) (sent_kept limit low _ (record { preamble_high = k.preamble_high; short = k.short; content_short = most }) frame bytes (stored contents 0 put) told CallResult.Taken)

pub device_kept : (limit : ℕ) → 2 ≤ limit → (x : DeviceSide) (heard : Heard) (call : DeviceCall) → DeviceKept limit x.device → DeviceKept limit (device_tick limit x heard call).side.device
unfolding device_tick answered
device_kept limit low x heard no_call k = sent_kept limit low _ (takes_kept limit low x.device k heard) (heard_frame x heard) (device_data x heard) x.contents (device_takes x.device heard).told CallResult.Nothing
device_kept limit low x heard (gives_answer wish put) k = answer_kept limit low _ (takes_kept limit low x.device k heard) (heard_frame x heard) (device_data x heard) x.contents (device_takes x.device heard).told wish put (device_takes x.device heard).device.turn
device_kept limit low x heard (gives_content command put) k = content_kept limit low _ (takes_kept limit low x.device k heard) (heard_frame x heard) (device_data x heard) x.contents (device_takes x.device heard).told command put

-- ---- the link

abbrev pub KeptSide : ℕ → DeviceSide → Type 0
KeptSide limit x = DeviceKept limit x.device

pub record LinkKept (limit retries : ℕ) (l : Link) : Type 0 where
  pub primary : MasterKept (limit + 29) retries l.primary.master
  pub secondary : MasterKept (limit + 29) retries l.secondary.master
  pub devices : All (KeptSide limit) l.devices

-- behind a tick
pub record LinkSettled (limit retries : ℕ) (l : Link) : Type 0 where
  pub primary : MasterSettled (limit + 29) retries l.primary.master
  pub secondary : MasterSettled (limit + 29) retries l.secondary.master
  pub devices : All (KeptSide limit) l.devices

pub settled_kept : {limit retries : ℕ} {l : Link} → LinkSettled limit retries l → LinkKept limit retries l
settled_kept s = record { primary = s.primary.kept; secondary = s.secondary.kept; devices = s.devices }

devices_kept : (limit : ℕ) → 2 ≤ limit → (heard : Heard) (xs : List DeviceSide) (calls : List DeviceCall) → All (KeptSide limit) xs → All (KeptSide limit) (sides (device_ticks limit heard xs calls))
unfolding device_ticks sides
devices_kept limit low heard [] calls none = none
devices_kept limit low heard (x ∷ xs) [] (and k ks) = and (device_kept limit low x heard no_call k) (devices_kept limit low heard xs [] ks)
devices_kept limit low heard (x ∷ xs) (c ∷ cs) (and k ks) = and (device_kept limit low x heard c k) (devices_kept limit low heard xs cs ks)

pub link_kept : (limit retries : ℕ) → 2 ≤ limit → limit ≤ 255 → (l : Link) (c : Calls) → LinkKept limit retries l → LinkSettled limit retries (link_after (link_tick limit l c))
unfolding link_tick
link_kept limit retries low high l c k = record {
  primary = master_kept limit retries high l.primary l.line c.for_primary k.primary;
  secondary = master_kept limit retries high l.secondary l.line c.for_secondary k.secondary;
  devices = devices_kept limit low l.line l.devices c.for_devices k.devices;
}

-- and at the start
pub fresh_kept : (limit : ℕ) {p : Profile} {primary : Bool} {retries : ℕ} {x : MasterSide} → MasterStarts p primary retries x → MasterKept (limit + 29) retries x.master
fresh_kept limit {p} {primary} {retries} {x} s =
    subst (MasterKept (limit + 29) retries) (sym (master_is p primary retries x.master s.starts))
    (record { retries_is = refl; short = omega arith; counted = λ z. absurd (true_false (sym z)) })

fresh_devices : (limit : ℕ) {p : Profile} {xs : List DeviceSide} → All (DeviceStarts p) xs → All (KeptSide limit) xs
fresh_devices limit none = none
fresh_devices limit {p} (and {x = x} s a) =
    let f = device_is p s.preamble s.polling s.unique x.device s.starts in
    and (subst (DeviceKept limit) (sym f.is) (record { preamble_high = f.preamble_high; short = omega arith; content_short = omega arith })) (fresh_devices limit a)

pub starts_kept : (limit : ℕ) {p : Profile} {retries : ℕ} {l : Link} → Starts p retries l → LinkKept limit retries l
starts_kept limit s = record { primary = fresh_kept limit s.primary; secondary = fresh_kept limit s.secondary; devices = fresh_devices limit s.devices }
