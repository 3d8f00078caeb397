-- What a device is behind what it heard: a silent tick, a character inside a frame, a frame's last character. And a device that is sending.
use Prim.Native.Nat.{ℕ, ◌-◌, ◌≤◌}
use native.Mathlib.Omega.{arith}
use mathlib.Core.Path.{◌≡◌, refl, sym, ap, subst, ◌∙◌}
use mathlib.Core.Bool.{Bool, true, false}
use mathlib.Core.List.{List}
use lib.ListN.{length}
use borrow.Author.Tests.{leb-false, eqb-true, eqb-false}
use Rattle.base.specs.Choice.{when◌then◌else◌, ◌≤?◌, ◌=?◌}
use Rattle.base.proofs.Choices.{true_false, if_is_true, if_is_false}
use Rattle.frame.specs.Delimiter.{stx}
use Rattle.frame.specs.declared.Header.{Header}
use Rattle.line.specs.Reader.{idle, passing, taken}
use Rattle.line.specs.declared.Damage.{Damage}
use Rattle.line.specs.declared.Event.{Event}
use Rattle.line.specs.declared.Event.TheVariants.{Nothing, PassedOver, Broken, Frame}
use Rattle.line.specs.declared.Heard.{Heard}
use Rattle.line.specs.declared.Heard.TheVariants.{Silence}
use Rattle.line.specs.declared.Receiver.{Receiver}
use Rattle.line.specs.declared.Taken.{Taken}
use Rattle.line.specs.declared.Whole.{Whole}
use Rattle.turns.specs.Party.{is_broadcast}
use Rattle.turns.specs.Device.{device_with, may_answer, due_after, after_frame, waited, back_due, counts, on_character, on_heard, device_takes, ended_by, changed, listens_on}
use Rattle.turns.specs.declared.Wish.TheVariants.{Same}
use Rattle.turns.specs.declared.Turn.{Turn}
use Rattle.turns.specs.declared.Turn.TheVariants.{Listens, Asked, Begins, Follows}
use Rattle.turns.specs.declared.Device.{Device}
use Rattle.turns.specs.declared.DeviceTold.{DeviceTold}
use Rattle.turns.specs.declared.DeviceTold.TheVariants.{Broadcast, Request}
use Rattle.turns.specs.declared.DeviceTaken.{DeviceTaken}
use Rattle.turns.proofs.Turns.{listens_follows, asked_follows, asked_listens, accepted_listens, begins_follows}
use Rattle.turns.proofs.Devices.{Sound, ticks_in_hand, Hand, nothing_in_hand, is_asked, is_accepted, Turned, in_hand, begins_now, follows_now, SameDevice}
use Rattle.turns.specs.declared.Change.{Change}
use Rattle.turns.proofs.Silent.{ready_outside, device_outside}
use Rattle.turns.proofs.Masters.{if_cases}

-- ---- what is common to every way of taking

pub record Took (frame contents : List ℕ) (d : Device) (t : DeviceTaken) : Type 0 where
  pub same : SameDevice d t.device
  pub same_burst : t.device.burst ≡ d.burst
  pub same_primary : t.device.primary ≡ d.primary
  pub sound : Sound t.device frame contents
  pub turned : Turned t.device frame

-- a character inside a frame: the request is dropped, and no BACK is due
pub record TookMid (frame contents : List ℕ) (d : Device) (t : DeviceTaken) (r : Receiver) : Type 0 where
  pub took : Took frame contents d t
  pub event_is : t.event ≡ Nothing
  pub receiver_is : t.device.receiver ≡ r
  pub listens : t.device.turn ≡ Listens

-- a frame's last character: an STX that its host may answer is in hand
pub data FrameTurn (d : Device) (t : DeviceTaken) (w : Whole) : Type 0 where
  asked_by : w.header.kind ≡ stx → may_answer d w.header ≡ true → t.device.turn ≡ Asked d.profile.sto → t.device.request ≡ w.header → t.device.due ≡ due_after d.profile (ended_by (Frame w)) → FrameTurn d t w
  listens_on_lem : t.device.turn ≡ Listens → t.device.due ≡ due_after d.profile (ended_by (Frame w)) → FrameTurn d t w

pub record TookFrame (frame contents : List ℕ) (d : Device) (t : DeviceTaken) (w : Whole) : Type 0 where
  pub took : Took frame contents d t
  pub event_is : t.event ≡ Frame w
  pub receiver_is : t.device.receiver ≡ idle
  pub turn_is : FrameTurn d t w

-- a silent tick: a bursting device's BACK is due, or the ticks are counted
pub data SilentTurn (d : Device) (t : DeviceTaken) : Type 0 where
  back_is_due : d.burst ≡ true → d.due ≡ 1 → t.device.turn ≡ Follows → SilentTurn d t
  counts_on : (d.burst ≡ true → d.due ≡ 1 → ⊥) → t.device.due ≡ d.due - 1 → t.device.request ≡ d.request → (t.device.turn ≡ Follows → ⊥)
      → ticks_in_hand t.device.turn ≤ ticks_in_hand d.turn - 1 → (d.turn ≡ Listens → t.device.turn ≡ Listens) → SilentTurn d t

pub record TookSilence (frame contents : List ℕ) (d : Device) (t : DeviceTaken) : Type 0 where
  pub took : Took frame contents d t
  pub event_is : t.event ≡ Nothing
  pub receiver_is : t.device.receiver ≡ idle
  pub turn_is : SilentTurn d t

-- what breaks a frame before its first address byte, or is passed over
pub data Noise (r : Receiver) : Heard → Type 0 where
  passed_over : (c : ℕ) → r ≡ passing → Noise r (Heard.Character c)
  crossed_passing : (c : ℕ) (kind : Damage) → r ≡ passing → Noise r (Heard.Damaged c kind)
  crossed_idle : (c : ℕ) (kind : Damage) → r ≡ idle → Noise r (Heard.Damaged c kind)

pub record TookNoise (frame contents : List ℕ) (d : Device) (t : DeviceTaken) : Type 0 where
  pub took : Took frame contents d t
  pub plain_is : Rattle.turns.specs.Device.error_frame d t.event frame ≡ frame
  pub receiver_is : t.device.receiver ≡ passing
  pub listens : t.device.turn ≡ Listens
  pub due_is : t.device.due ≡ d.profile.rt1p

module _ (frame contents : List ℕ) (d : Device) (hears : d.deaf ≡ false) (hand : Hand d frame) (sound : Sound d frame contents) where
  heard_is : (heard : Heard) → device_takes d heard ≡ on_heard d heard
  unfolding device_takes
  heard_is heard = if_is_false d.deaf _ _ hears

  -- the parts that taking never changes
  keeps_sound : (r : Receiver) (turn : Turn) (request : Header) (wish : _) (n due : ℕ) → Sound (device_with d r turn request wish n due) frame contents
  keeps_sound r turn request wish n due = record {
    preamble_low = sound.preamble_low;
    preamble_high = sound.preamble_high;
    polling_high = sound.polling_high;
    unique_low = sound.unique_low;
    unique_high = sound.unique_high;
    frame_room = sound.frame_room;
    contents_room = sound.contents_room;
    content_low = sound.content_low;
    content_high = sound.content_high;
    bursts_given = sound.bursts_given;
  }

  pub takes_mid : (c : ℕ) (r : Receiver) → taken d.receiver (Heard.Character c) ≡ Rattle.line.specs.Reader.tells r Nothing → TookMid frame contents d (device_takes d (Heard.Character c)) r
  takes_mid c r e =
      let same : device_takes d (Heard.Character c) ≡ on_character d r Nothing = heard_is (Heard.Character c) ∙ ap (λ (t : Taken). on_character d t.receiver t.event) e in
      subst (λ (t : DeviceTaken). TookMid frame contents d t r) (sym same)
      (record {
        took = record {
          same = record { same_profile = refl; same_preamble = refl; same_polling = refl; same_unique = refl };
          same_burst = refl;
          same_primary = refl;
          sound = keeps_sound r Listens d.request Same d.length 0;
          turned = in_hand (nothing_in_hand refl);
        };
        event_is = refl;
        receiver_is = refl;
        listens = refl;
      })

  -- a device that listens on behind a frame
  listening : (w : Whole) (told : DeviceTold) → TookFrame frame contents d (changed d idle (Frame w) (listens_on d told)) w
  listening w told = record {
    took = record {
      same = record { same_profile = refl; same_preamble = refl; same_polling = refl; same_unique = refl };
      same_burst = refl;
      same_primary = refl;
      sound = keeps_sound idle Listens d.request Same d.length (due_after d.profile (ended_by (Frame w)));
      turned = in_hand (nothing_in_hand refl);
    };
    event_is = refl;
    receiver_is = refl;
    turn_is = listens_on_lem refl refl;
  }

  pub takes_frame : (c : ℕ) (w : Whole) → taken d.receiver (Heard.Character c) ≡ Rattle.line.specs.Reader.tells idle (Frame w) → w.expansion ≡ 0 → 1 ≤ d.profile.sto → TookFrame frame contents d (device_takes d (Heard.Character c)) w
  takes_frame c w e x some_sto =
      let same : device_takes d (Heard.Character c) ≡ changed d idle (Frame w) (after_frame d w) = heard_is (Heard.Character c) ∙ ap (λ (t : Taken). on_character d t.receiver t.event) e in
      subst (λ (t : DeviceTaken). TookFrame frame contents d t w) (sym same)
      (if_cases After (w.header.kind =? stx) _ _
      (λ q. if_cases After (w.expansion =? 0) _ _
      (λ z. if_cases After (may_answer d w.header) _ _ (own q) (λ o. if_cases After (is_broadcast w.header) _ _ (λ b. listening w (Broadcast w)) (λ b. listening w DeviceTold.Nothing)))
      (λ z. listening w DeviceTold.Nothing))
      (λ q. listening w DeviceTold.Nothing))
    where
      After : Change → Type 0
      After k = TookFrame frame contents d (changed d idle (Frame w) k) w

      own : (w.header.kind =? stx) ≡ true → may_answer d w.header ≡ true → TookFrame frame contents d (changed d idle (Frame w) (record { turn = Asked d.profile.sto; request = w.header; length = d.length; told = Request w })) w
      own q o = record {
        took = record {
          same = record { same_profile = refl; same_preamble = refl; same_polling = refl; same_unique = refl };
          same_burst = refl;
          same_primary = refl;
          sound = keeps_sound idle (Asked d.profile.sto) w.header Same d.length (due_after d.profile (ended_by (Frame w)));
          turned = in_hand (is_asked d.profile.sto refl some_sto o);
        };
        event_is = refl;
        receiver_is = refl;
        turn_is = asked_by (eqb-true w.header.kind stx q) o refl refl refl;
      }

  -- behind a break, and behind characters that are passed over
  pub takes_noise : (heard : Heard) → Noise d.receiver heard → TookNoise frame contents d (device_takes d heard)
  unfolding taken
  takes_noise heard n = go n
    where
      After : DeviceTaken → Type 0
      After t = TookNoise frame contents d t

      on : Event → DeviceTaken
      on e = Rattle.turns.specs.Device.tells (device_with d passing Listens d.request Same d.length d.profile.rt1p) DeviceTold.Nothing e

      took : (e : Event) → Took frame contents d (on e)
      took e = record {
        same = record { same_profile = refl; same_preamble = refl; same_polling = refl; same_unique = refl };
        same_burst = refl;
        same_primary = refl;
        sound = keeps_sound passing Listens d.request Same d.length d.profile.rt1p;
        turned = in_hand (nothing_in_hand refl);
      }

      go : {h : Heard} → Noise d.receiver h → After (device_takes d h)
      go (passed_over c e) =
          subst After (sym (heard_is (Heard.Character c) ∙ ap (λ (r : Receiver). on_character d (taken r (Heard.Character c)).receiver (taken r (Heard.Character c)).event) e))
          (record { took = took PassedOver; plain_is = refl; receiver_is = refl; listens = refl; due_is = refl })
      go (crossed_passing c kind e) =
          subst After (sym (heard_is (Heard.Damaged c kind) ∙ ap (λ (r : Receiver). on_character d (taken r (Heard.Damaged c kind)).receiver (taken r (Heard.Damaged c kind)).event) e))
          (record { took = took PassedOver; plain_is = refl; receiver_is = refl; listens = refl; due_is = refl })
      go (crossed_idle c kind e) =
          subst After (sym (heard_is (Heard.Damaged c kind) ∙ ap (λ (r : Receiver). on_character d (taken r (Heard.Damaged c kind)).receiver (taken r (Heard.Damaged c kind)).event) e))
          (record { took = took Broken; plain_is = refl; receiver_is = refl; listens = refl; due_is = refl })

  pub takes_silence : taken d.receiver Silence ≡ Rattle.line.specs.Reader.tells idle Nothing → TookSilence frame contents d (device_takes d Silence)
  takes_silence e =
      let same : device_takes d Silence ≡ counts d idle d.due Nothing = heard_is Silence ∙ device_outside d (ready_outside d.receiver e) in
      subst (λ (t : DeviceTaken). TookSilence frame contents d t) (sym same) (by_burst d.burst refl)
    where
      After : DeviceTaken → Type 0
      After t = TookSilence frame contents d t

      on : Turn → ℕ → DeviceTaken
      on turn due = Rattle.turns.specs.Device.tells (device_with d idle turn d.request d.wish d.length due) DeviceTold.Nothing Nothing

      silent_took : (turn : Turn) (due : ℕ) → Turned (device_with d idle turn d.request d.wish d.length due) frame → Took frame contents d (on turn due)
      silent_took turn due turned = record {
        same = record { same_profile = refl; same_preamble = refl; same_polling = refl; same_unique = refl };
        same_burst = refl;
        same_primary = refl;
        sound = keeps_sound idle turn d.request d.wish d.length due;
        turned = turned;
      }

      -- the turn, counted
      counted : (d.burst ≡ true → d.due ≡ 1 → ⊥) → Hand d frame → After (on (waited d.turn) (d.due - 1))
      counted not_due (nothing_in_hand q) =
          subst (λ (turn : Turn). After (on turn (d.due - 1))) (sym (ap waited q))
          (record {
            took = silent_took Listens (d.due - 1) (in_hand (nothing_in_hand refl));
            event_is = refl;
            receiver_is = refl;
            turn_is = counts_on not_due refl refl listens_follows (omega arith) (λ z. refl);
          })
      counted not_due (is_accepted q p) =
          subst (λ (turn : Turn). After (on turn (d.due - 1))) (sym (ap waited q))
          (record {
            took = silent_took Begins (d.due - 1) (begins_now refl (record { w = p.w; message = p.message; held = p.held; header_is = p.header_is; no_expansion = p.no_expansion; own = p.own; short_same = p.short_same; on_given = p.on_given }));
            event_is = refl;
            receiver_is = refl;
            turn_is = counts_on not_due refl refl begins_follows (omega arith) (λ z. absurd (accepted_listens (sym q ∙ z)));
          })
      counted not_due (is_asked n q some o) = subst (λ (turn : Turn). After (on turn (d.due - 1))) (sym (ap waited q)) (left (n ≤? 1) refl)
        where
          left : (t : Bool) → (n ≤? 1) ≡ t → After (on (when n ≤? 1 then Listens else Asked (n - 1)) (d.due - 1))
          left true r =
              subst (λ (turn : Turn). After (on turn (d.due - 1))) (sym (if_is_true (n ≤? 1) Listens (Asked (n - 1)) r))
              (record {
                took = silent_took Listens (d.due - 1) (in_hand (nothing_in_hand refl));
                event_is = refl;
                receiver_is = refl;
                turn_is = counts_on not_due refl refl listens_follows (omega arith) (λ z. refl);
              })
          left false r =
              subst (λ (turn : Turn). After (on turn (d.due - 1))) (sym (if_is_false (n ≤? 1) Listens (Asked (n - 1)) r))
              (record {
                took = silent_took (Asked (n - 1)) (d.due - 1) (in_hand (is_asked (n - 1) refl (omega (arith, leb-false n 1 r)) o));
                event_is = refl;
                receiver_is = refl;
                turn_is = counts_on not_due refl refl (asked_follows (n - 1)) (omega (arith, ap ticks_in_hand q)) (λ z. absurd (asked_listens n (sym q ∙ z)));
              })

      by_due : (t : Bool) → (d.due =? 1) ≡ t → d.burst ≡ true → After (counts d idle d.due Nothing)
      by_due true r b =
          subst (λ (turn : Turn). After (on turn (d.due - 1))) (sym (if_is_true (back_due d d.due) _ _ (if_is_true d.burst (d.due =? 1) false b ∙ r)))
          (record {
            took = silent_took Follows (d.due - 1) (follows_now refl b);
            event_is = refl;
            receiver_is = refl;
            turn_is = back_is_due b (eqb-true d.due 1 r) refl;
          })
      by_due false r b =
          subst (λ (turn : Turn). After (on turn (d.due - 1))) (sym (if_is_false (back_due d d.due) _ _ (if_is_true d.burst (d.due =? 1) false b ∙ r)))
          (counted (λ b' one. eqb-false d.due 1 r one) hand)

      by_burst : (t : Bool) → d.burst ≡ t → After (counts d idle d.due Nothing)
      by_burst true b = by_due (d.due =? 1) refl b
      by_burst false b =
          subst (λ (turn : Turn). After (on turn (d.due - 1))) (sym (if_is_false (back_due d d.due) _ _ (if_is_false d.burst (d.due =? 1) false b)))
          (counted (λ b' one. true_false (sym b' ∙ b)) hand)

-- ---- a device that hears nothing: it is fresh, or sent in the tick before

pub takes_nothing : (d : Device) (heard : Heard) → d.deaf ≡ true → device_takes d heard ≡ Rattle.turns.specs.Device.tells d DeviceTold.Nothing Nothing
unfolding device_takes
takes_nothing d heard e = if_is_true d.deaf _ _ e
