-- What a device does in a tick once it has taken what was heard: the host's answer or burst content, and the character that it sends or not.
use Prim.Native.Nat.{ℕ, ◌+◌, ◌-◌, ◌^◌, ◌≤◌, ◌<◌}
use native.Mathlib.Omega.{arith}
use mathlib.Core.Path.{◌≡◌, refl, sym, ap, subst, ◌∙◌}
use mathlib.Core.Bool.{Bool, true, false}
use mathlib.Core.List.{List}
use lib.ListN.{length, get_or, take}
use lib.Seq.{length-take-le}
use borrow.Author.Tests.{ltb-false, le-ltb, eq-eqb, eqb-true}
use Rattle.base.specs.Refusal.{Called, accepted, refused}
use Rattle.base.specs.Choice.{when◌then◌else◌, ◌<?◌, ◌=?◌}
use Rattle.base.specs.Store.{stored}
use Rattle.base.proofs.Choices.{true_false, went_then, if_is_true, if_is_false}
use Rattle.base.proofs.Stores.{length_stored}
use Rattle.frame.specs.Delimiter.{ack, back, is_type}
use Rattle.frame.specs.Address.{byte_at, largest_address}
use Rattle.frame.specs.Frame.{too_few, frame_bytes, frame_length}
use Rattle.frame.specs.Write.{write_buffer}
use Rattle.frame.specs.declared.Header.{Header}
use Rattle.frame.proofs.Taken.{Fits}
use Rattle.line.specs.Reader.{passing}
use Rattle.line.specs.declared.Whole.{Whole}
use Rattle.line.proofs.Hearing.{whole_message}
use Rattle.turns.specs.Party.{seeks_tag}
use Rattle.turns.specs.Master.{names_device}
use Rattle.turns.specs.Device.{device_with, is_own, may_answer, has_no_wish, answer_header, wished, wish_refused, answers_at, answered_by, answered, answer_frame, device_with_content, content_given, back_header, back_length, first_for, answers_from, bursts_from, sends, sends_by, device_sends, begun_frame, count_refused}
use Rattle.turns.specs.Link.{DeviceCall, no_call, gives_answer, gives_content, DeviceStep, device_sent, answer_called, content_called, device_calls}
use Rattle.turns.specs.declared.CallResult.{CallResult}
use Rattle.turns.specs.declared.Sent.TheVariants.{Silent, Character}
use Rattle.turns.specs.declared.Wish.{Wish}
use Rattle.turns.specs.declared.Wish.TheVariants.{Same, On, Off}
use Rattle.turns.specs.declared.Turn.{Turn}
use Rattle.turns.specs.declared.Turn.TheVariants.{Listens, Asked, AnswerWaits, Begins, Answers, Follows, Bursts}
use Rattle.turns.specs.declared.Content.{Content}
use Rattle.turns.specs.declared.Device.{Device}
use Rattle.turns.specs.declared.DeviceTold.{DeviceTold}
use Rattle.turns.specs.declared.DeviceTaken.{DeviceTaken}
use Rattle.turns.specs.declared.DeviceSent.{DeviceSent}
use Rattle.turns.proofs.Counts.{count_low, count_high}
use Rattle.turns.proofs.TagSentences.{tag_zero}
use Rattle.turns.proofs.Turns.{listens_follows, listens_begins, listens_asked, asked_follows, asked_begins, accepted_follows, accepted_begins, begins_follows, asked_same}
use Rattle.turns.proofs.Writing.{length_written}
use Rattle.turns.proofs.Masters.{Holds, holds_written, if_cases}

-- ---- item 1, "Senders still leave no gap": behind a character that is not the frame's last the next goes out in the next tick

pub ack_goes_on : (d : Device) (frame : List ℕ) (n : ℕ) (burst primary : Bool) → (n + 1 <? d.length) ≡ true → (device_sends (answers_from d frame n burst primary).device frame).sent ≡ Character (byte_at frame (n + 1))
unfolding device_sends
ack_goes_on d frame n burst primary e =
    ap (λ (s : DeviceSent). (sends_by s.device frame s.device.turn).sent) (if_is_true (n + 1 <? d.length) _ _ e)
    ∙ if_cases (λ (s : DeviceSent). s.sent ≡ Character (byte_at frame (n + 1))) (n + 1 + 1 <? d.length) _ _ (λ z. refl) (λ z. refl)

pub back_goes_on : (d : Device) (frame : List ℕ) (n length : ℕ) (primary : Bool) → (n + 1 <? length) ≡ true → (device_sends (bursts_from d frame n length primary).device frame).sent ≡ Character (byte_at frame (n + 1))
unfolding device_sends
back_goes_on d frame n length primary e =
    ap (λ (s : DeviceSent). (sends_by s.device frame s.device.turn).sent) (if_is_true (n + 1 <? length) _ _ e)
    ∙ if_cases (λ (s : DeviceSent). s.sent ≡ Character (byte_at frame (n + 1))) (n + 1 + 1 <? length) _ _ (λ z. refl) (λ z. refl)

-- ---- what holds of a device at any time

pub record Sound (d : Device) (frame contents : List ℕ) : Type 0 where
  pub preamble_low : 5 ≤ d.preamble
  pub preamble_high : d.preamble ≤ 20
  pub polling_high : d.polling ≤ 63
  pub unique_low : 1 ≤ d.unique
  pub unique_high : d.unique < 2 ^ 38
  pub frame_room : 284 ≤ length frame
  pub contents_room : 255 ≤ length contents
  pub content_low : d.content.given ≡ true → 2 ≤ d.content.count
  pub content_high : d.content.count ≤ 255
  -- a bursting device has content
  pub bursts_given : d.burst ≡ true → d.content.given ≡ true

-- ticks for which a request, or an answer to it, is in hand
abbrev pub ticks_in_hand : Turn → ℕ
ticks_in_hand Listens = 0
ticks_in_hand (Asked n) = n
ticks_in_hand AnswerWaits = 1
ticks_in_hand Begins = 0
ticks_in_hand (Answers n) = 0
ticks_in_hand Follows = 0
ticks_in_hand (Bursts n) = 0

-- an ACK to the request in hand stands in the frame buffer. A wish is given only in answer to a long request.
pub record Prepared (d : Device) (frame : List ℕ) : Type 0 where
  pub w : List ℕ
  pub message : Whole
  pub held : Holds frame d.length w message
  pub header_is : message.header ≡ answer_header d.request (wished d.burst d.wish)
  pub no_expansion : message.expansion ≡ 0
  pub own : may_answer d d.request ≡ true
  pub short_same : names_device d.request ≡ false → wished d.burst d.wish ≡ d.burst
  pub on_given : wished d.burst d.wish ≡ true → d.content.given ≡ true

-- what a turn in which the device does not send needs
pub data Hand (d : Device) (frame : List ℕ) : Type 0 where
  nothing_in_hand : d.turn ≡ Listens → Hand d frame
  is_asked : (n : ℕ) → d.turn ≡ Asked n → 1 ≤ n → may_answer d d.request ≡ true → Hand d frame
  is_accepted : d.turn ≡ AnswerWaits → Prepared d frame → Hand d frame

-- ---- what comes of a tick behind what was heard

pub record SameDevice (d e : Device) : Type 0 where
  pub same_profile : e.profile ≡ d.profile
  pub same_preamble : e.preamble ≡ d.preamble
  pub same_polling : e.polling ≡ d.polling
  pub same_unique : e.unique ≡ d.unique

-- the frame that it begins, and the device behind its first character
pub record Begun (d : Device) (step : DeviceStep) (turn : ℕ → Turn) (burst : Bool) : Type 0 where
  pub w : List ℕ
  pub message : Whole
  pub held : Holds step.side.frame step.side.device.length w message
  pub character : step.sent ≡ Character (get_or w 0 0)
  pub turn_is : step.side.device.turn ≡ turn 1
  pub deaf_is : step.side.device.deaf ≡ true
  pub receiver_is : step.side.device.receiver ≡ passing
  pub burst_is : step.side.device.burst ≡ burst
  pub no_expansion : message.expansion ≡ 0
  pub same : SameDevice d step.side.device
  pub sound : Sound step.side.device step.side.frame step.side.contents

-- a BACK with this command
abbrev pub back_for : Device → ℕ → Header
back_for d command = record { kind = back; long = true; primary = d.primary; burst = true; address = d.unique; command = command }

pub data Goes (d : Device) (step : DeviceStep) : Type 0 where
  rests : SameDevice d step.side.device → step.sent ≡ Silent → step.side.device.deaf ≡ false → step.side.device.receiver ≡ d.receiver
      → step.side.device.burst ≡ d.burst → step.side.device.primary ≡ d.primary → step.side.device.due ≡ d.due → step.side.device.request ≡ d.request
      → ticks_in_hand step.side.device.turn ≤ ticks_in_hand d.turn → Hand step.side.device step.side.frame → Sound step.side.device step.side.frame step.side.contents → (d.turn ≡ Follows → ⊥) → Goes d step
  -- it begins its ACK: from a request that was in hand, with burst as the host wishes
  answers : (burst : Bool) → step.side.device.primary ≡ first_for d → (b : Begun d step Answers burst) → b.message.header ≡ answer_header d.request burst → step.side.device.request ≡ d.request → may_answer d d.request ≡ true
      → (names_device d.request ≡ false → burst ≡ d.burst) → (d.turn ≡ Listens → ⊥) → (d.turn ≡ Asked d.profile.sto → ⊥) → (d.turn ≡ Follows → ⊥) → Goes d step
  -- it begins its BACK
  bursts : (b : Begun d step Bursts d.burst) (command : ℕ) → d.turn ≡ Follows → b.message.header ≡ back_for d command
      → step.side.device.primary ≡ (when d.primary then false else true) → Goes d step

-- ---- the host's call

-- the device behind the host's call: what a call cannot change
pub record AfterCall (d e : Device) : Type 0 where
  pub same : SameDevice d e
  pub same_receiver : e.receiver ≡ d.receiver
  pub same_burst : e.burst ≡ d.burst
  pub same_primary : e.primary ≡ d.primary
  pub same_due : e.due ≡ d.due
  pub same_request : e.request ≡ d.request
  pub less_in_hand : ticks_in_hand e.turn ≤ ticks_in_hand d.turn
  pub follows_same : e.turn ≡ Follows → d.turn ≡ Follows
  pub follows_kept : d.turn ≡ Follows → e.turn ≡ Follows
  pub listens_same : d.turn ≡ Listens → e.turn ≡ Listens
  -- an answer in the tick that told the request does not begin in it
  pub first_waits : d.turn ≡ Asked d.profile.sto → e.turn ≡ Begins → ⊥

unchanged : (d : Device) → AfterCall d d
unchanged d = record {
  same = record { same_profile = refl; same_preamble = refl; same_polling = refl; same_unique = refl };
  same_receiver = refl;
  same_burst = refl;
  same_primary = refl;
  same_due = refl;
  same_request = refl;
  less_in_hand = omega arith;
  follows_same = λ e. e;
  follows_kept = λ e. e;
  listens_same = λ e. e;
  first_waits = λ a b. asked_begins d.profile.sto (sym a ∙ b);
}

-- what the device needs for the turn that it is in, behind what was heard
pub data Turned (d : Device) (frame : List ℕ) : Type 0 where
  in_hand : Hand d frame → Turned d frame
  begins_now : d.turn ≡ Begins → Prepared d frame → Turned d frame
  follows_now : d.turn ≡ Follows → d.burst ≡ true → Turned d frame

-- ---- sending

-- an ACK or BACK of at least 2 data bytes can be written
pub device_enough : (frame count : ℕ) → 2 ≤ count → too_few frame count ≡ false
unfolding when◌then◌else◌
device_enough frame count h = go (frame =? ack) (frame =? back)
  where
    few : (count <? 2) ≡ false
    few = le-ltb count 2 h

    go : (s t : Bool) → (when (when s then true else t) then count <? 2 else false) ≡ false
    go true t = few
    go false true = few
    go false false = refl

back_fits : (d : Device) (frame contents : List ℕ) → Sound d frame contents → d.content.given ≡ true → Fits d.preamble (back_header d) (length (take d.content.count contents))
unfolding when◌then◌else◌
back_fits d frame contents s given =
    let long : length (take d.content.count contents) ≡ d.content.count = length-take-le d.content.count contents (omega (arith, s.content_high, s.contents_room)) in
    record {
      preamble_low = s.preamble_low;
      preamble_high = s.preamble_high;
      address_high = omega (arith, s.unique_high);
      count_high = omega (arith, long, s.content_high);
      enough = device_enough back (length (take d.content.count contents)) (omega (arith, long, s.content_low given));
      typed = refl;
    }

-- the same device with another burst, and the next BACK for another master
abbrev pub turn_of : Device → Bool → Bool → Device
turn_of e burst primary = record {
  profile = e.profile;
  preamble = e.preamble;
  polling = e.polling;
  unique = e.unique;
  receiver = e.receiver;
  deaf = e.deaf;
  turn = e.turn;
  request = e.request;
  wish = e.wish;
  length = e.length;
  burst = burst;
  primary = primary;
  due = e.due;
  content = e.content;
}

-- whose request it is depends on the addresses alone
pub own_kept : {d e : Device} (h : Header) → SameDevice d e → may_answer d h ≡ true → may_answer e h ≡ true
own_kept h sd o = (λ i. when seeks_tag h then true else when h.long then sd.same_unique i =? h.address else (when sd.same_polling i =? h.address then h.command =? 0 else false)) ∙ o

-- and so of the request in hand
pub own_same : {d e : Device} → SameDevice d e → e.request ≡ d.request → may_answer e e.request ≡ true → may_answer d d.request ≡ true
own_same {d} {e} same r o =
    (λ i. when seeks_tag (sym r i) then true else when (sym r i).long then sym same.same_unique i =? (sym r i).address else (when sym same.same_polling i =? (sym r i).address then (sym r i).command =? 0 else false)) ∙ o

module _ (d e : Device) (frame bytes contents : List ℕ) (told : DeviceTold) (result : CallResult) (after : AfterCall d e) (s : Sound e frame contents) where
  abbrev Step : DeviceStep
  Step = device_sent e frame bytes contents told result

  -- the step, for a device in this turn
  by : Turn → DeviceStep
  by turn = record {
    side = record { device = (sends_by e (begun_frame e turn contents frame) turn).device; frame = begun_frame e turn contents frame; bytes = bytes; contents = contents };
    sent = (sends_by e (begun_frame e turn contents frame) turn).sent;
    told = told;
    result = result;
  }

  step_is : Step ≡ by e.turn
  unfolding by device_sends
  step_is = refl

  -- nothing is sent: the turn is kept
  still_device : Turn → Device
  still_device turn = (sends e false turn e.length e.burst e.primary e.due e.receiver Silent).device

  still_sound : (turn : Turn) → Sound (still_device turn) frame contents
  unfolding still_device
  still_sound turn = record {
    preamble_low = s.preamble_low;
    preamble_high = s.preamble_high;
    polling_high = s.polling_high;
    unique_low = s.unique_low;
    unique_high = s.unique_high;
    frame_room = s.frame_room;
    contents_room = s.contents_room;
    content_low = s.content_low;
    content_high = s.content_high;
    bursts_given = s.bursts_given;
  }

  same_still : (turn : Turn) → SameDevice d (still_device turn)
  unfolding still_device
  same_still turn = record { same_profile = after.same.same_profile; same_preamble = after.same.same_preamble; same_polling = after.same.same_polling; same_unique = after.same.same_unique }

  hand_goes : Hand e frame → Goes d Step
  unfolding still_device by
  hand_goes (nothing_in_hand q) =
      subst (Goes d) (sym (step_is ∙ ap by q))
      (rests (same_still Listens) refl refl after.same_receiver after.same_burst after.same_primary after.same_due after.same_request (omega arith) (nothing_in_hand refl) (still_sound Listens) (λ z. listens_follows (sym q ∙ after.follows_kept z)))
  hand_goes (is_asked n q some own) =
      let less : n ≤ ticks_in_hand d.turn = omega (arith, after.less_in_hand, ap ticks_in_hand q) in
      subst (Goes d) (sym (step_is ∙ ap by q))
      (rests (same_still (Asked n)) refl refl after.same_receiver after.same_burst after.same_primary after.same_due after.same_request less (is_asked n refl some own) (still_sound (Asked n)) (λ z. asked_follows n (sym q ∙ after.follows_kept z)))
  hand_goes (is_accepted q p) =
      let less : 1 ≤ ticks_in_hand d.turn = omega (arith, after.less_in_hand, ap ticks_in_hand q) in
      subst (Goes d) (sym (step_is ∙ ap by q))
      (rests (same_still AnswerWaits) refl refl after.same_receiver after.same_burst after.same_primary after.same_due after.same_request less
      (is_accepted refl (record { w = p.w; message = p.message; held = p.held; header_is = p.header_is; no_expansion = p.no_expansion; own = p.own; short_same = p.short_same; on_given = p.on_given }))
      (still_sound AnswerWaits) (λ z. accepted_follows (sym q ∙ after.follows_kept z)))

  -- an answer begins
  begins_goes : e.turn ≡ Begins → Prepared e frame → Goes d Step
  unfolding by
  begins_goes q p = subst (Goes d) (sym (step_is ∙ ap by q)) (go (0 + 1 <? e.length) refl)
    where
      burst : Bool
      burst = wished e.burst e.wish

      long : 0 + 1 < e.length
      long = omega (arith, p.held.sized, p.held.speaks.long)

      same_own : may_answer e e.request ≡ true → may_answer d d.request ≡ true
      same_own o = own_same after.same after.same_request o

      go : (t : Bool) → (0 + 1 <? e.length) ≡ t → Goes d (by Begins)
      go true r =
          let first : answers_from e frame 0 burst (first_for e) ≡ sends e true (Answers 1) e.length burst (first_for e) 0 passing (Character (byte_at frame 0)) = if_is_true (0 + 1 <? e.length) _ _ r in
          let there : by Begins ≡ record { side = record { device = (sends e true (Answers 1) e.length burst (first_for e) 0 passing Silent).device; frame = frame; bytes = bytes; contents = contents }; sent = Character (byte_at frame 0); told = told; result = result } =
          ap (λ (x : DeviceSent). record { side = record { device = x.device; frame = frame; bytes = bytes; contents = contents }; sent = x.sent; told = told; result = result }) first in
          subst (Goes d) (sym there)
          (answers burst (λ i. first_for (turn_of e (after.same_burst i) (after.same_primary i)))
          (record {
            w = p.w;
            message = p.message;
            held = p.held;
            character = ap Character (p.held.same 0 (omega (arith, p.held.speaks.long)));
            turn_is = refl;
            deaf_is = refl;
            receiver_is = refl;
            burst_is = refl;
            no_expansion = p.no_expansion;
            same = record { same_profile = after.same.same_profile; same_preamble = after.same.same_preamble; same_polling = after.same.same_polling; same_unique = after.same.same_unique };
            sound = record {
              preamble_low = s.preamble_low;
              preamble_high = s.preamble_high;
              polling_high = s.polling_high;
              unique_low = s.unique_low;
              unique_high = s.unique_high;
              frame_room = s.frame_room;
              contents_room = s.contents_room;
              content_low = s.content_low;
              content_high = s.content_high;
              bursts_given = p.on_given;
            };
          })
          (p.header_is ∙ ap (λ (h : Header). answer_header h burst) after.same_request)
          after.same_request
          (same_own p.own)
          (λ l. p.short_same (ap names_device after.same_request ∙ l) ∙ after.same_burst)
          (λ z. listens_begins (sym (after.listens_same z) ∙ q))
          (λ z. after.first_waits z q)
          (λ z. begins_follows (sym q ∙ after.follows_kept z)))
      go false r = absurd (omega (arith, ltb-false (0 + 1) e.length r))

  -- a BACK begins, with the content that the host gave last
  follows_goes : e.turn ≡ Follows → e.burst ≡ true → Goes d Step
  unfolding by
  follows_goes q on = subst (Goes d) (sym (step_is ∙ ap by q)) (go (0 + 1 <? back_length e) refl)
    where
      given : e.content.given ≡ true
      given = s.bursts_given on

      bytes_back : List ℕ
      bytes_back = take e.content.count contents

      count_is : length bytes_back ≡ e.content.count
      count_is = length-take-le e.content.count contents (omega (arith, s.content_high, s.contents_room))

      put : List ℕ
      put = write_buffer e.preamble (back_header e) bytes_back frame 0

      w : List ℕ
      w = frame_bytes e.preamble (back_header e) bytes_back

      there : Holds put (frame_length e.preamble (back_header e) (length bytes_back)) w (whole_message (back_header e) bytes_back)
      there = holds_written e.preamble (back_header e) bytes_back frame (back_fits e frame contents s given) s.frame_room

      held : Holds put (back_length e) w (whole_message (back_header e) bytes_back)
      held = record { speaks = there.speaks; sized = there.sized ∙ ap (frame_length e.preamble (back_header e)) count_is; same = there.same }

      long : 0 + 1 < back_length e
      long = omega (arith, held.sized, held.speaks.long)

      next_for : Bool
      next_for = when e.primary then false else true

      go : (t : Bool) → (0 + 1 <? back_length e) ≡ t → Goes d (by Follows)
      go true r =
          let first : bursts_from e put 0 (back_length e) next_for ≡ sends e true (Bursts 1) (back_length e) e.burst next_for 0 passing (Character (byte_at put 0)) = if_is_true (0 + 1 <? back_length e) _ _ r in
          let become : by Follows ≡ record { side = record { device = (sends e true (Bursts 1) (back_length e) e.burst next_for 0 passing Silent).device; frame = put; bytes = bytes; contents = contents }; sent = Character (byte_at put 0); told = told; result = result } =
          ap (λ (x : DeviceSent). record { side = record { device = x.device; frame = put; bytes = bytes; contents = contents }; sent = x.sent; told = told; result = result }) first in
          subst (Goes d) (sym become)
          (bursts
          (record {
            w = w;
            message = whole_message (back_header e) bytes_back;
            held = held;
            character = ap Character (held.same 0 (omega (arith, held.speaks.long)));
            turn_is = refl;
            deaf_is = refl;
            receiver_is = refl;
            burst_is = after.same_burst;
            no_expansion = refl;
            same = record { same_profile = after.same.same_profile; same_preamble = after.same.same_preamble; same_polling = after.same.same_polling; same_unique = after.same.same_unique };
            sound = record {
              preamble_low = s.preamble_low;
              preamble_high = s.preamble_high;
              polling_high = s.polling_high;
              unique_low = s.unique_low;
              unique_high = s.unique_high;
              frame_room = omega (arith, s.frame_room, length_written e.preamble (back_header e) bytes_back frame);
              contents_room = s.contents_room;
              content_low = s.content_low;
              content_high = s.content_high;
              bursts_given = s.bursts_given;
            };
          })
          e.content.command
          (after.follows_same q)
          (λ i. record { kind = back; long = true; primary = after.same_primary i; burst = true; address = after.same.same_unique i; command = e.content.command })
          (ap (λ (b : Bool). when b then false else true) after.same_primary))
      go false r = absurd (omega (arith, ltb-false (0 + 1) (back_length e) r))

  turned_goes : Turned e frame → Goes d Step
  turned_goes (in_hand h) = hand_goes h
  turned_goes (begins_now q p) = begins_goes q p
  turned_goes (follows_now q on) = follows_goes q on

-- ---- the answer

-- a request for this device has one of its addresses, and command 11 by broadcast address 0
pub own_address : (d : Device) (frame contents : List ℕ) (h : Header) → Sound d frame contents → may_answer d h ≡ true → h.address ≤ largest_address h.long
unfolding when◌then◌else◌
own_address d frame contents h s own = tag (seeks_tag h) refl own
  where
    go : (l : Bool) → (when l then d.unique =? h.address else (when d.polling =? h.address then h.command =? 0 else false)) ≡ true → h.address ≤ (when l then 2 ^ 38 - 1 else 63)
    go true o = omega (arith, eqb-true d.unique h.address o, s.unique_high)
    go false o = omega (arith, eqb-true d.polling h.address (went_then (d.polling =? h.address) (h.command =? 0) false true o (λ q. true_false (sym q))).0, s.polling_high)

    tag : (t : Bool) → seeks_tag h ≡ t → (when t then true else is_own d h) ≡ true → h.address ≤ largest_address h.long
    tag true q o = omega (arith, tag_zero h q)
    tag false q o = go h.long o

-- an answer that does not carry the device's unique address has no wish
own_short : (d : Device) (h : Header) → may_answer d h ≡ true → names_device h ≡ false → has_no_wish h ≡ true
unfolding when◌then◌else◌
own_short d h own short = go (seeks_tag h) refl own short
  where
    go : (t : Bool) → seeks_tag h ≡ t → (when t then true else is_own d h) ≡ true → (when t then false else h.long) ≡ false → has_no_wish h ≡ true
    go true q o l = if_cases (λ (b : Bool). b ≡ true) (h.command =? 0) true (seeks_tag h) (λ z. refl) (λ z. q)
    go false q o l =
        let p = sym (if_is_false h.long (d.unique =? h.address) (when d.polling =? h.address then h.command =? 0 else false) l) ∙ o in
        if_is_true (h.command =? 0) _ _ (went_then (d.polling =? h.address) (h.command =? 0) false true p (λ q. true_false (sym q))).1

-- a wish that is not refused: a short request's answer has none, and burst is turned on only with content
wish_short : (d : Device) (wish : Wish) → wish_refused d wish ≡ false → has_no_wish d.request ≡ true → wished d.burst wish ≡ d.burst
wish_short d Same f c = refl
wish_short d On f c = absurd (true_false (sym (if_is_true (has_no_wish d.request) _ _ c) ∙ f))
wish_short d Off f c = absurd (true_false (sym c ∙ f))

wish_given : (d : Device) (wish : Wish) (frame contents : List ℕ) → Sound d frame contents → wish_refused d wish ≡ false → wished d.burst wish ≡ true → d.content.given ≡ true
wish_given d Same frame contents s f on = s.bursts_given on
wish_given d On frame contents s f on =
    if_cases (λ (b : Bool). b ≡ false → d.content.given ≡ true) _ _ _ (λ q z. absurd (true_false z))
    (λ q. if_cases (λ (b : Bool). b ≡ false → d.content.given ≡ true) _ _ _ (λ g z. g) (λ g z. absurd (true_false z))) f
wish_given d Off frame contents s f on = absurd (true_false (sym on))

-- the device behind an answer that was taken
abbrev answering : Device → Turn → Wish → ℕ → Device
answering d turn wish count = device_with d d.receiver turn d.request wish (frame_length d.preamble (answer_header d.request (wished d.burst wish)) count) d.due

pub data AnswerView (limit : ℕ) (d : Device) (wish : Wish) (count n : ℕ) : Type 0 where
  is_refused : (why : ℕ) → answered_by limit d wish count (Asked n) ≡ refused why → AnswerView limit d wish count n
  is_taken : 2 ≤ count → count ≤ limit → wish_refused d wish ≡ false → answered_by limit d wish count (Asked n) ≡ accepted (answering d (answers_at d n) wish count) → AnswerView limit d wish count n

pub answer_view : (limit : ℕ) (d : Device) (wish : Wish) (count n : ℕ) → AnswerView limit d wish count n
answer_view limit d wish count n = first (count_refused limit count) refl
  where
    second : (t : Bool) → wish_refused d wish ≡ t → (count_refused limit count) ≡ false → AnswerView limit d wish count n
    second true f a = is_refused 10 (if_is_false (count_refused limit count) _ _ a ∙ if_is_true (wish_refused d wish) _ _ f)
    second false f a = is_taken (count_low limit count a) (count_high limit count a) f (if_is_false (count_refused limit count) _ _ a ∙ if_is_false (wish_refused d wish) _ _ f)

    first : (t : Bool) → (count_refused limit count) ≡ t → AnswerView limit d wish count n
    first true a = is_refused 9 (if_is_true (count_refused limit count) _ _ a)
    first false a = second (wish_refused d wish) refl a

-- ---- the content

pub data ContentView (limit : ℕ) (d : Device) (command count : ℕ) : Type 0 where
  is_refused : (why : ℕ) → content_given limit d command count ≡ refused why → ContentView limit d command count
  is_taken : 2 ≤ count → count ≤ limit → content_given limit d command count ≡ accepted (device_with_content d (record { given = true; command = command; count = count })) → ContentView limit d command count

pub content_view : (limit : ℕ) (d : Device) (command count : ℕ) → ContentView limit d command count
unfolding content_given
content_view limit d command count = first (command =? 254) refl
  where
    second : (t : Bool) → (count_refused limit count) ≡ t → (command =? 254) ≡ false → ContentView limit d command count
    second true a f = is_refused 9 (if_is_false (command =? 254) _ _ f ∙ if_is_true (count_refused limit count) _ _ a)
    second false a f = is_taken (count_low limit count a) (count_high limit count a) (if_is_false (command =? 254) _ _ f ∙ if_is_false (count_refused limit count) _ _ a)

    first : (t : Bool) → (command =? 254) ≡ t → ContentView limit d command count
    first true f = is_refused 5 (if_is_true (command =? 254) _ _ f)
    first false f = second (count_refused limit count) refl f

-- ---- the tick behind what was heard, for every call

same_sound : (d : Device) (turn : Turn) (wish : Wish) (count : ℕ) (frame after contents : List ℕ) → length after ≡ length frame → Sound d frame contents → Sound (answering d turn wish count) after contents
same_sound d turn wish count frame after contents same s = record {
  preamble_low = s.preamble_low;
  preamble_high = s.preamble_high;
  polling_high = s.polling_high;
  unique_low = s.unique_low;
  unique_high = s.unique_high;
  frame_room = omega (arith, s.frame_room);
  contents_room = s.contents_room;
  content_low = s.content_low;
  content_high = s.content_high;
  bursts_given = s.bursts_given;
}

pub content_sound : (d : Device) (command : ℕ) (frame contents put : List ℕ) → 2 ≤ length put → length put ≤ 255 → Sound d frame contents
    → Sound (device_with_content d (record { given = true; command = command; count = length put })) frame (stored contents 0 put)
content_sound d command frame contents put low high s = record {
  preamble_low = s.preamble_low;
  preamble_high = s.preamble_high;
  polling_high = s.polling_high;
  unique_low = s.unique_low;
  unique_high = s.unique_high;
  frame_room = s.frame_room;
  contents_room = omega (arith, s.contents_room, length_stored contents 0 put);
  content_low = λ q. low;
  content_high = high;
  bursts_given = λ q. refl;
}

content_turned : (d : Device) (c : Content) (frame : List ℕ) → c.given ≡ true → Turned d frame → Turned (device_with_content d c) frame
content_turned d c frame given (in_hand (nothing_in_hand q)) = in_hand (nothing_in_hand q)
content_turned d c frame given (in_hand (is_asked n q some o)) = in_hand (is_asked n q some o)
content_turned d c frame given (in_hand (is_accepted q p)) =
    in_hand (is_accepted q (record { w = p.w; message = p.message; held = p.held; header_is = p.header_is; no_expansion = p.no_expansion; own = p.own; short_same = p.short_same; on_given = λ z. given }))
content_turned d c frame given (begins_now q p) =
    begins_now q (record { w = p.w; message = p.message; held = p.held; header_is = p.header_is; no_expansion = p.no_expansion; own = p.own; short_same = p.short_same; on_given = λ z. given })
content_turned d c frame given (follows_now q on) = follows_now q on

pub ack_typed : is_type ack ≡ true
unfolding when◌then◌else◌
ack_typed = refl

answers_follows : (d : Device) (n : ℕ) → answers_at d n ≡ Follows → ⊥
unfolding when◌then◌else◌
answers_follows d n e = go (n =? d.profile.sto) e
  where
    go : (t : Bool) → (when t then AnswerWaits else Begins) ≡ Follows → ⊥
    go true q = let z : ◌≡◌ {A = ℕ} 0 1 = cc in omega arith
    go false q = let z : ◌≡◌ {A = ℕ} 0 1 = cc in omega arith

module _ (limit : ℕ) (low : 2 ≤ limit) (high : limit ≤ 255) (t : DeviceTaken) (frame bytes contents : List ℕ) (some_sto : 1 ≤ t.device.profile.sto) (s : Sound t.device frame contents) (turned : Turned t.device frame) where
  d : Device
  d = t.device

  -- an answer to the request in hand
  answer_goes : (wish : Wish) (put : List ℕ) (n : ℕ) → t.device.turn ≡ Asked n → may_answer t.device t.device.request ≡ true
      → AnswerView limit t.device wish (length put) n → Goes t.device (answer_called (answered_by limit t.device wish (length put) (Asked n)) t.device (answer_frame t.device wish put frame) frame bytes contents t.told)
  unfolding d
  answer_goes wish put n q own (is_refused why e) =
      subst (λ (c : Called Device). Goes d (answer_called c d (answer_frame d wish put frame) frame bytes contents t.told)) (sym e)
      (turned_goes d d frame bytes contents t.told (CallResult.Refused why) (unchanged d) s turned)
  answer_goes wish put n q own (is_taken least most f e) =
      subst (λ (c : Called Device). Goes d (answer_called c d (answer_frame d wish put frame) frame bytes contents t.told)) (sym e)
      (turned_goes d (next (answers_at d n)) put_in bytes contents t.told CallResult.Taken after (same_sound d (answers_at d n) wish (length put) frame put_in contents (length_written d.preamble (answer_header d.request burst) put frame) s) (by (n =? d.profile.sto) refl))
    where
      burst : Bool
      burst = wished d.burst wish

      next : Turn → Device
      next turn = answering d turn wish (length put)

      put_in : List ℕ
      put_in = answer_frame d wish put frame

      fits : Fits d.preamble (answer_header d.request burst) (length put)
      fits = record {
        preamble_low = s.preamble_low;
        preamble_high = s.preamble_high;
        address_high = own_address d frame contents d.request s own;
        count_high = omega arith;
        enough = device_enough ack (length put) least;
        typed = ack_typed;
      }

      prepared : (turn : Turn) → Prepared (next turn) put_in
      prepared turn = record {
        w = frame_bytes d.preamble (answer_header d.request burst) put;
        message = whole_message (answer_header d.request burst) put;
        held = holds_written d.preamble (answer_header d.request burst) put frame fits s.frame_room;
        header_is = refl;
        no_expansion = refl;
        own = own;
        short_same = λ l. wish_short d wish f (own_short d d.request own l);
        on_given = λ on. wish_given d wish frame contents s f on;
      }

      hand_is : (b : Bool) → (n =? d.profile.sto) ≡ b → ticks_in_hand (answers_at d n) ≤ ticks_in_hand d.turn
      hand_is true r = omega (arith, ap ticks_in_hand (if_is_true (n =? d.profile.sto) AnswerWaits Begins r), ap ticks_in_hand q, eqb-true n d.profile.sto r)
      hand_is false r = omega (arith, ap ticks_in_hand (if_is_false (n =? d.profile.sto) AnswerWaits Begins r))

      after : AfterCall d (next (answers_at d n))
      after = record {
        same = record { same_profile = refl; same_preamble = refl; same_polling = refl; same_unique = refl };
        same_receiver = refl;
        same_burst = refl;
        same_primary = refl;
        same_due = refl;
        same_request = refl;
        less_in_hand = hand_is (n =? d.profile.sto) refl;
        follows_same = λ z. absurd (answers_follows d n z);
        follows_kept = λ z. absurd (asked_follows n (sym q ∙ z));
        listens_same = λ z. absurd (listens_asked n (sym z ∙ q));
        first_waits = λ a b. accepted_begins (sym (if_is_true (n =? d.profile.sto) AnswerWaits Begins (eq-eqb n d.profile.sto (asked_same (sym q ∙ a)))) ∙ b);
      }

      by : (b : Bool) → (n =? d.profile.sto) ≡ b → Turned (next (answers_at d n)) put_in
      by true r = in_hand (is_accepted (if_is_true (n =? d.profile.sto) AnswerWaits Begins r) (prepared (answers_at d n)))
      by false r = begins_now (if_is_false (n =? d.profile.sto) AnswerWaits Begins r) (prepared (answers_at d n))

  -- no request in hand
  none_goes : (wish : Wish) (put : List ℕ) → answered limit t.device wish (length put) ≡ refused 8
      → Goes t.device (device_calls limit t (gives_answer wish put) frame bytes contents)
  none_goes wish put e =
      subst (λ (c : Called Device). Goes t.device (answer_called c t.device (answer_frame t.device wish put frame) frame bytes contents t.told)) (sym e)
      (turned_goes t.device t.device frame bytes contents t.told (CallResult.Refused 8) (unchanged t.device) s turned)

  pub device_goes : (call : DeviceCall) → Goes t.device (device_calls limit t call frame bytes contents)
  unfolding answered
  device_goes no_call = turned_goes t.device t.device frame bytes contents t.told CallResult.Nothing (unchanged t.device) s turned
  device_goes (gives_answer wish put) = go turned
    where
      Case : Turn → Type 0
      Case turn = Goes t.device (answer_called (answered_by limit t.device wish (length put) turn) t.device (answer_frame t.device wish put frame) frame bytes contents t.told)

      go : Turned t.device frame → Case t.device.turn
      go (in_hand (nothing_in_hand q)) = none_goes wish put (ap (answered_by limit t.device wish (length put)) q)
      go (in_hand (is_asked n q some o)) = subst Case (sym q) (answer_goes wish put n q o (answer_view limit t.device wish (length put) n))
      go (in_hand (is_accepted q p)) = none_goes wish put (ap (answered_by limit t.device wish (length put)) q)
      go (begins_now q p) = none_goes wish put (ap (answered_by limit t.device wish (length put)) q)
      go (follows_now q on) = none_goes wish put (ap (answered_by limit t.device wish (length put)) q)
  device_goes (gives_content command put) = go (content_view limit t.device command (length put))
    where
      Case : Called Device → Type 0
      Case c = Goes t.device (content_called c t.device put frame bytes contents t.told)

      go : ContentView limit t.device command (length put) → Case (content_given limit t.device command (length put))
      go (is_refused why e) = subst Case (sym e) (turned_goes t.device t.device frame bytes contents t.told (CallResult.Refused why) (unchanged t.device) s turned)
      go (is_taken least most e) =
          let c : Content = record { given = true; command = command; count = length put } in
          subst Case (sym e)
          (turned_goes t.device (device_with_content t.device c) frame bytes (stored contents 0 put) t.told CallResult.Taken
          (record {
            same = record { same_profile = refl; same_preamble = refl; same_polling = refl; same_unique = refl };
            same_receiver = refl;
            same_burst = refl;
            same_primary = refl;
            same_due = refl;
            same_request = refl;
            less_in_hand = omega arith;
            follows_same = λ z. z;
            follows_kept = λ z. z;
            listens_same = λ z. z;
            first_waits = λ a b. asked_begins t.device.profile.sto (sym a ∙ b);
          })
          (content_sound t.device command frame contents put least (omega arith) s)
          (content_turned t.device c frame refl turned))
