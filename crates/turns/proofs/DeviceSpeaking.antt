-- A device in the middle of its ACK or BACK: it sends the next character, whatever its host gives.
use Prim.Native.Nat.{ℕ, suc, ◌+◌, ◌≤◌, ◌<◌}
use native.Mathlib.Omega.{arith}
use native.Mathlib.Numerals.{add-one}
use mathlib.Core.Path.{◌≡◌, refl, sym, ap, subst, ◌∙◌}
use mathlib.Core.Bool.{Bool, true, false}
use mathlib.Core.List.{List}
use lib.ListN.{length, get_or}
use borrow.Author.Tests.{ltb-true, ltb-false}
use Rattle.base.specs.Refusal.{Called, refused}
use Rattle.base.specs.Choice.{◌<?◌}
use Rattle.base.specs.Store.{stored}
use Rattle.base.proofs.Choices.{if_is_true, if_is_false}
use Rattle.frame.specs.Address.{byte_at}
use Rattle.line.specs.Reader.{passing}
use Rattle.line.specs.declared.Event.TheVariants.{Nothing}
use Rattle.line.specs.declared.Heard.{Heard}
use Rattle.line.specs.declared.Whole.{Whole}
use Rattle.turns.specs.Device.{behind_ack, sends, sends_by, device_sends, begun_frame, error_frame, answered, answered_by, answer_frame, device_with_content, content_given}
use Rattle.turns.specs.Link.{DeviceCall, no_call, gives_answer, gives_content, DeviceSide, DeviceStep, device_sent, answer_called, content_called, device_calls, device_tick, device_data}
use Rattle.turns.specs.declared.CallResult.{CallResult}
use Rattle.turns.specs.declared.Sent.TheVariants.{Character}
use Rattle.turns.specs.declared.Turn.{Turn}
use Rattle.turns.specs.declared.Turn.TheVariants.{Listens, Answers, Bursts}
use Rattle.turns.specs.declared.Content.{Content}
use Rattle.turns.specs.declared.Device.{Device}
use Rattle.turns.specs.declared.DeviceTold.{DeviceTold}
use Rattle.turns.specs.declared.DeviceTaken.{DeviceTaken}
use Rattle.turns.specs.declared.DeviceSent.{DeviceSent}
use Rattle.turns.proofs.Masters.{Holds}
use Rattle.turns.proofs.Devices.{Sound, SameDevice, ContentView, is_refused, is_taken, content_view, content_sound}
use Rattle.turns.proofs.DeviceTaking.{takes_nothing}

-- which frame it is sending
pub data Frames : Type 0 where
  an_ack a_back : Frames

abbrev pub sending : Frames → ℕ → Turn
sending an_ack n = Answers n
sending a_back n = Bursts n

-- its turn behind the last character: "A bursting device sends a BACK directly behind its own ACK"
abbrev pub turn_behind : Frames → Bool → Turn
turn_behind an_ack burst = behind_ack burst
turn_behind a_back burst = Listens

-- its next BACK: "after RT2 behind its BACK"
abbrev pub due_behind : Frames → Device → ℕ
due_behind an_ack d = 0
due_behind a_back d = d.profile.rt2

pub data Place (f : Frames) (d : Device) (n : ℕ) (w : List ℕ) (e : Device) : Type 0 where
  goes_on : suc n < length w → e.turn ≡ sending f (suc n) → Place f d n w e
  is_out : suc n ≡ length w → e.turn ≡ turn_behind f d.burst → e.due ≡ due_behind f d → Place f d n w e

pub record SpeaksAt (f : Frames) (x : DeviceSide) (n : ℕ) (w : List ℕ) (step : DeviceStep) : Type 0 where
  pub place : Place f x.device n w step.side.device
  pub character : step.sent ≡ Character (get_or w n 0)
  pub same_frame : step.side.frame ≡ x.frame
  pub same_length : step.side.device.length ≡ x.device.length
  pub same : SameDevice x.device step.side.device
  pub same_burst : step.side.device.burst ≡ x.device.burst
  pub same_primary : step.side.device.primary ≡ x.device.primary
  pub same_request : step.side.device.request ≡ x.device.request
  pub deaf_is : step.side.device.deaf ≡ true
  pub receiver_is : step.side.device.receiver ≡ passing
  pub sound : Sound step.side.device step.side.frame step.side.contents

module _ (f : Frames) (x : DeviceSide) (n : ℕ) (w : List ℕ) (message : Whole) (turn_is : x.device.turn ≡ sending f n) (held : Holds x.frame x.device.length w message) (below : n < length w) where
  -- behind the host's call: only the content can have changed
  module _ (c : Content) (bytes contents : List ℕ) (told : DeviceTold) (result : CallResult) (s : Sound (device_with_content x.device c) x.frame contents) where
    e : Device
    e = device_with_content x.device c

    by : Turn → DeviceStep
    by turn = record {
      side = record { device = (sends_by e (begun_frame e turn contents x.frame) turn).device; frame = begun_frame e turn contents x.frame; bytes = bytes; contents = contents };
      sent = (sends_by e (begun_frame e turn contents x.frame) turn).sent;
      told = told;
      result = result;
    }

    step_is : device_sent (device_with_content x.device c) x.frame bytes contents told result ≡ by (sending f n)
    unfolding e by device_sends
    step_is = ap by turn_is

    put : DeviceSent → DeviceStep
    put y = record { side = record { device = y.device; frame = x.frame; bytes = bytes; contents = contents }; sent = y.sent; told = told; result = result }

    out : (turn : Turn) (due : ℕ) → Place f x.device n w (sends (device_with_content x.device c) true turn x.device.length x.device.burst x.device.primary due passing (Character (byte_at x.frame n))).device
        → SpeaksAt f x n w (put (sends (device_with_content x.device c) true turn x.device.length x.device.burst x.device.primary due passing (Character (byte_at x.frame n))))
    unfolding put
    out turn due p = record {
      place = p;
      character = ap Character (held.same n below);
      same_frame = refl;
      same_length = refl;
      same = record { same_profile = refl; same_preamble = refl; same_polling = refl; same_unique = refl };
      same_burst = refl;
      same_primary = refl;
      same_request = refl;
      deaf_is = refl;
      receiver_is = refl;
      sound = record {
        preamble_low = s.preamble_low;
        preamble_high = s.preamble_high;
        polling_high = s.polling_high;
        unique_low = s.unique_low;
        unique_high = s.unique_high;
        frame_room = s.frame_room;
        contents_room = s.contents_room;
        content_low = s.content_low;
        content_high = s.content_high;
        bursts_given = s.bursts_given;
      };
    }

    sends_on : SpeaksAt f x n w (device_sent (device_with_content x.device c) x.frame bytes contents told result)
    unfolding e by put
    sends_on = subst (SpeaksAt f x n w) (sym step_is) (go f refl (n + 1 <? x.device.length) refl)
      where
        more : n + 1 < x.device.length → suc n < length w
        more a = omega (arith, held.sized)

        last : x.device.length ≤ n + 1 → suc n ≡ length w
        last a = omega (arith, held.sized)

        go : (g : Frames) → f ≡ g → (t : Bool) → (n + 1 <? x.device.length) ≡ t → SpeaksAt f x n w (by (sending f n))
        go an_ack p true q =
            subst (λ (k : Frames). SpeaksAt f x n w (by (sending k n))) (sym p)
            (subst (λ (y : DeviceSent). SpeaksAt f x n w (put y)) (sym (if_is_true (n + 1 <? x.device.length) _ _ q))
            (out (Answers (n + 1)) 0 (goes_on (more (ltb-true (n + 1) x.device.length q)) (ap Answers (add-one n) ∙ ap (λ (k : Frames). sending k (suc n)) (sym p)))))
        go an_ack p false q =
            subst (λ (k : Frames). SpeaksAt f x n w (by (sending k n))) (sym p)
            (subst (λ (y : DeviceSent). SpeaksAt f x n w (put y)) (sym (if_is_false (n + 1 <? x.device.length) _ _ q))
            (out (behind_ack x.device.burst) 0 (is_out (last (ltb-false (n + 1) x.device.length q)) (ap (λ (k : Frames). turn_behind k x.device.burst) (sym p)) (ap (λ (k : Frames). due_behind k x.device) (sym p)))))
        go a_back p true q =
            subst (λ (k : Frames). SpeaksAt f x n w (by (sending k n))) (sym p)
            (subst (λ (y : DeviceSent). SpeaksAt f x n w (put y)) (sym (if_is_true (n + 1 <? x.device.length) _ _ q))
            (out (Bursts (n + 1)) 0 (goes_on (more (ltb-true (n + 1) x.device.length q)) (ap Bursts (add-one n) ∙ ap (λ (k : Frames). sending k (suc n)) (sym p)))))
        go a_back p false q =
            subst (λ (k : Frames). SpeaksAt f x n w (by (sending k n))) (sym p)
            (subst (λ (y : DeviceSent). SpeaksAt f x n w (put y)) (sym (if_is_false (n + 1 <? x.device.length) _ _ q))
            (out Listens x.device.profile.rt2 (is_out (last (ltb-false (n + 1) x.device.length q)) (ap (λ (k : Frames). turn_behind k x.device.burst) (sym p)) (ap (λ (k : Frames). due_behind k x.device) (sym p)))))

  pub device_speaks : (limit : ℕ) (heard : Heard) (call : DeviceCall) → limit ≤ 255 → x.device.deaf ≡ true → Sound x.device x.frame x.contents → SpeaksAt f x n w (device_tick limit x heard call)
  unfolding device_tick answered
  device_speaks limit heard call small deaf s =
      subst (λ (t : DeviceTaken). SpeaksAt f x n w (device_calls limit t call (error_frame x.device t.event x.frame) (device_data x heard) x.contents)) (sym (takes_nothing x.device heard deaf)) (by_call call)
    where
      d : Device
      d = x.device

      t : DeviceTaken
      t = Rattle.turns.specs.Device.tells d DeviceTold.Nothing Nothing

      same_content : (a : CallResult) → SpeaksAt f x n w (device_sent d x.frame (device_data x heard) x.contents DeviceTold.Nothing a)
      same_content a = sends_on d.content (device_data x heard) x.contents DeviceTold.Nothing a s

      no_answer : (g : Frames) → d.turn ≡ sending g n → (wish : _) (count : ℕ) → answered_by limit d wish count d.turn ≡ refused 8
      no_answer an_ack q wish count = ap (answered_by limit d wish count) q
      no_answer a_back q wish count = ap (answered_by limit d wish count) q

      by_content : (command : ℕ) (put : List ℕ) → ContentView limit d command (length put) → SpeaksAt f x n w (content_called (content_given limit d command (length put)) d put x.frame (device_data x heard) x.contents DeviceTold.Nothing)
      by_content command put (is_refused why p) =
          subst (λ (c : Called Device). SpeaksAt f x n w (content_called c d put x.frame (device_data x heard) x.contents DeviceTold.Nothing)) (sym p) (same_content (CallResult.Refused why))
      by_content command put (is_taken least most p) =
          subst (λ (c : Called Device). SpeaksAt f x n w (content_called c d put x.frame (device_data x heard) x.contents DeviceTold.Nothing)) (sym p)
          (sends_on (record { given = true; command = command; count = length put }) (device_data x heard) (stored x.contents 0 put) DeviceTold.Nothing CallResult.Taken (content_sound d command x.frame x.contents put least (omega arith) s))

      by_call : (call : DeviceCall) → SpeaksAt f x n w (device_calls limit t call x.frame (device_data x heard) x.contents)
      by_call no_call = same_content CallResult.Nothing
      by_call (gives_answer wish put) =
          subst (λ (c : Called Device). SpeaksAt f x n w (answer_called c d (answer_frame d wish put x.frame) x.frame (device_data x heard) x.contents DeviceTold.Nothing)) (sym (no_answer f turn_is wish (length put))) (same_content (CallResult.Refused 8))
      by_call (gives_content command put) = by_content command put (content_view limit d command (length put))
