-- The devices on the silent line: all rest, or one begins its ACK, or one begins its BACK. Two never begin together.
use Prim.Native.Nat.{ℕ, suc, ◌-◌, ◌≤◌, ◌<◌}
use native.Mathlib.Omega.{arith}
use mathlib.Core.Path.{◌≡◌, refl, sym, ap, subst, ◌∙◌}
use mathlib.Core.Bool.{Bool, true, false}
use mathlib.Core.List.{List, [], ◌∷◌}
use lib.ListN.{length, get_or}
use borrow.Author.Tests.{eqb-true}
use Rattle.base.specs.Choice.{when◌then◌else◌, ◌=?◌}
use Rattle.base.proofs.Choices.{true_false, went_then}
use Rattle.frame.specs.Delimiter.{back}
use Rattle.frame.specs.declared.Header.{Header}
use Rattle.line.specs.Reader.{idle, passing}
use Rattle.line.specs.declared.Heard.TheVariants.{Silence}
use Rattle.line.specs.declared.Profile.{Profile}
use Rattle.line.specs.declared.Receiver.{Receiver}
use Rattle.line.specs.declared.Whole.{Whole}
use Rattle.turns.specs.Party.{seeks_tag}
use Rattle.turns.specs.Master.{names_device}
use Rattle.turns.specs.Device.{is_own, may_answer, answer_header, first_for}
use Rattle.turns.specs.Link.{DeviceCall, no_call, DeviceSide, DeviceStep, device_tick, device_ticks, sides}
use Rattle.turns.specs.Run.{All, none, and, Differ, Distinct}
use Rattle.runs.proofs.Fair.{answering, AnswersTag, SoleTag, tag_and}
use Rattle.turns.specs.declared.Sent.{Sent}
use Rattle.turns.specs.declared.Turn.TheVariants.{Listens}
use Rattle.turns.specs.declared.Noted.{Noted}
use Rattle.turns.specs.declared.Device.{Device}
use Rattle.turns.proofs.Masters.{Holds}
use Rattle.turns.proofs.Devices as D
use Rattle.turns.proofs.Devices.{Sound, SameDevice, ticks_in_hand, own_kept}
use Rattle.turns.proofs.DeviceSpeaking.{Frames, an_ack, a_back, sending, turn_behind, due_behind}
use Rattle.turns.proofs.Listening as L
use Rattle.turns.proofs.Listening.{device_silence}
use Rattle.turns.proofs.Lists.{Quietly}
use Rattle.turns.proofs.Phases.{DeviceListens, DeviceQuiet, BurstIs, Ready, idle_ready}

-- ---- the device that sends, and those that hear it

-- behind k + 1 characters of its frame w; u is its unique address, and burst is on or not as `burst` says
pub data DevicePlace (f : Frames) (k : ℕ) (w : List ℕ) (d : Device) : Type 0 where
  inside : suc k < length w → d.turn ≡ sending f (suc k) → DevicePlace f k w d
  finished : suc k ≡ length w → d.turn ≡ turn_behind f d.burst → d.due ≡ due_behind f d → DevicePlace f k w d

pub record DeviceSpeaks (p : Profile) (f : Frames) (k : ℕ) (w : List ℕ) (message : Whole) (u : ℕ) (burst : Bool) (x : DeviceSide) : Type 0 where
  pub profile_is : x.device.profile ≡ p
  pub unique_is : x.device.unique ≡ u
  pub burst_is : x.device.burst ≡ burst
  pub deaf_is : x.device.deaf ≡ true
  pub receiver_is : x.device.receiver ≡ passing
  pub held : Holds x.frame x.device.length w message
  pub place : DevicePlace f k w x.device
  pub sound : Sound x.device x.frame x.contents

-- every other device
pub record DeviceHears (p : Profile) (r : Receiver) (u : ℕ) (x : DeviceSide) : Type 0 where
  pub listens : DeviceListens p x
  pub receiver_is : x.device.receiver ≡ r
  pub another : x.device.unique ≡ u → ⊥

-- ---- whose turn it is

-- an STX is for one device at most
own_once : (x y : DeviceSide) (h : Header) → Differ x y → is_own x.device h ≡ true → is_own y.device h ≡ true → ⊥
unfolding when◌then◌else◌
own_once x y h d = go h.long
  where
    go : (l : Bool) → (when l then x.device.unique =? h.address else (when x.device.polling =? h.address then h.command =? 0 else false)) ≡ true
        → (when l then y.device.unique =? h.address else (when y.device.polling =? h.address then h.command =? 0 else false)) ≡ true → ⊥
    go true a b = d.unique_differs (eqb-true x.device.unique h.address a ∙ sym (eqb-true y.device.unique h.address b))
    go false a b =
        let pa = eqb-true x.device.polling h.address (went_then (x.device.polling =? h.address) (h.command =? 0) false true a (λ q. true_false (sym q))).0 in
        let pb = eqb-true y.device.polling h.address (went_then (y.device.polling =? h.address) (h.command =? 0) false true b (λ q. true_false (sym q))).0 in
        d.polling_differs (pa ∙ sym pb)

-- ---- the silent line

-- what a device that rests satisfies: it is quiet with one tick less, and a bursting device's BACK was not due
pub record StillQuiet (p : Profile) (g : ℕ) (h : Header) (n : ℕ) (x : DeviceSide) (s : DeviceStep) : Type 0 where
  pub quietly : Quietly (DeviceQuiet p (g - 1) h (n - 1)) x s
  pub idle_is : s.side.device.receiver ≡ idle
  pub not_due : x.device.burst ≡ true → n ≡ 1 → ⊥

-- a device that begins its ACK to the STX with the header h
pub record BeginsAck (p : Profile) (h : Header) (x : DeviceSide) (s : DeviceStep) : Type 0 where
  pub w : List ℕ
  pub message : Whole
  pub burst : Bool
  pub request : Header
  pub speaks : DeviceSpeaks p an_ack 0 w message x.device.unique burst s.side
  pub character : s.sent ≡ Sent.Character (get_or w 0 0)
  pub same : SameDevice x.device s.side.device
  pub header_is : message.header ≡ answer_header request burst
  pub no_expansion : message.expansion ≡ 0
  pub own : may_answer x.device request ≡ true
  pub short_same : names_device request ≡ false → burst ≡ x.device.burst
  pub asked : may_answer x.device h ≡ true
  pub request_is : request ≡ h
  pub same_request : s.side.device.request ≡ request
  pub primary_is : s.side.device.primary ≡ first_for x.device

-- a device that begins its BACK
pub record BeginsBack (p : Profile) (x : DeviceSide) (s : DeviceStep) : Type 0 where
  pub w : List ℕ
  pub message : Whole
  pub command : ℕ
  pub speaks : DeviceSpeaks p a_back 0 w message x.device.unique true s.side
  pub character : s.sent ≡ Sent.Character (get_or w 0 0)
  pub same : SameDevice x.device s.side.device
  pub type_is : message.header.kind ≡ back
  pub long_is : message.header.long ≡ true
  pub address_is : message.header.address ≡ x.device.unique
  pub no_expansion : message.expansion ≡ 0
  pub bursts : x.device.burst ≡ true
  pub for_is : message.header.primary ≡ x.device.primary
  pub primary_is : s.side.device.primary ≡ (when x.device.primary then false else true)

pub data DeviceDoes (p : Profile) (g : ℕ) (h : Header) (n : ℕ) (x : DeviceSide) (s : DeviceStep) : Type 0 where
  does_rest : StillQuiet p g h n x s → DeviceDoes p g h n x s
  does_answer : 1 ≤ g → BeginsAck p h x s → DeviceDoes p g h n x s
  does_burst : n ≡ 1 → BeginsBack p x s → DeviceDoes p g h n x s

one_in_hand : (d : Device) (frame : List ℕ) → D.Hand d frame → (d.turn ≡ Listens → ⊥) → 1 ≤ ticks_in_hand d.turn
one_in_hand d frame (D.nothing_in_hand q) z = absurd (z q)
one_in_hand d frame (D.is_asked n q some o) z = omega (arith, ap ticks_in_hand q)
one_in_hand d frame (D.is_accepted q r) z = omega (arith, ap ticks_in_hand q)

pub device_does : (limit : ℕ) → 2 ≤ limit → limit ≤ 255 → (p : Profile) → 1 ≤ p.sto → (g : ℕ) (h : Header) (n : ℕ) (x : DeviceSide) (call : DeviceCall) → DeviceQuiet p g h n x
    → DeviceDoes p g h n x (device_tick limit x Silence call)
device_does limit low high p some g h n x call q = go (device_silence limit low high p some x call q.listens q.ready)
  where
    s : DeviceStep
    s = device_tick limit x Silence call

    one_more : (w : List ℕ) (message : Whole) → Holds s.side.frame s.side.device.length w message → suc 0 < length w
    one_more w message k = omega (arith, k.speaks.long)

    go : L.DeviceSilent limit low high p some x call q.listens s → DeviceDoes p g h n x s
    go (L.stays_quiet listens sil same rec bur due nd less kept pri req) =
        does_rest (record {
          quietly = record {
            silent = sil;
            same = same;
            same_burst = bur;
            same_primary = pri;
            good = record {
              listens = listens;
              ready = subst Ready (sym rec) idle_ready;
              in_time = omega (arith, q.in_time);
              asked_own = λ z. own_kept h same (q.asked_own (kept z));
              asked_for = λ z. req ∙ q.asked_for (kept z);
              back_due = λ z. due ∙ ap (λ (m : ℕ). m - 1) (q.back_due (sym bur ∙ z));
            };
          };
          idle_is = rec;
          not_due = λ b e. nd b (q.back_due b ∙ e);
        })
    go (L.begins_answer t burst b same tb hd own short nl req first) =
        does_answer (omega (arith, q.in_time, one_in_hand x.device x.frame q.listens.hand nl))
        (record {
          w = b.w;
          message = b.message;
          burst = burst;
          request = x.device.request;
          speaks = record {
            profile_is = b.same.same_profile ∙ same.same_profile ∙ q.listens.profile_is;
            unique_is = b.same.same_unique ∙ same.same_unique;
            burst_is = b.burst_is;
            deaf_is = b.deaf_is;
            receiver_is = b.receiver_is;
            held = b.held;
            place = inside (one_more b.w b.message b.held) b.turn_is;
            sound = b.sound;
          };
          character = b.character;
          same = L.joined same b.same;
          header_is = hd;
          no_expansion = b.no_expansion;
          own = own;
          short_same = short;
          asked = q.asked_own nl;
          request_is = q.asked_for nl;
          same_request = req;
          primary_is = first;
        })
    go (L.begins_back t b command same tb tp on one hd next) =
        does_burst (sym (q.back_due on) ∙ one)
        (record {
          w = b.w;
          message = b.message;
          command = command;
          speaks = record {
            profile_is = b.same.same_profile ∙ same.same_profile ∙ q.listens.profile_is;
            unique_is = b.same.same_unique ∙ same.same_unique;
            burst_is = b.burst_is ∙ tb ∙ on;
            deaf_is = b.deaf_is;
            receiver_is = b.receiver_is;
            held = b.held;
            place = inside (one_more b.w b.message b.held) b.turn_is;
            sound = b.sound;
          };
          character = b.character;
          same = L.joined same b.same;
          type_is = ap (λ (z : Header). z.kind) hd;
          long_is = ap (λ (z : Header). z.long) hd;
          address_is = ap (λ (z : Header). z.address) hd ∙ same.same_unique;
          no_expansion = b.no_expansion;
          bursts = on;
          for_is = ap (λ (z : Header). z.primary) hd ∙ tp;
          primary_is = next;
        })

-- ---- all devices on the silent line

pub data AllStill (p : Profile) (g : ℕ) (h : Header) (n : ℕ) : List DeviceSide → List DeviceStep → Type 0 where
  nothing_still : AllStill p g h n [] []
  still_and : {x : DeviceSide} {s : DeviceStep} {xs : List DeviceSide} {ss : List DeviceStep} → StillQuiet p g h n x s → AllStill p g h n xs ss → AllStill p g h n (x ∷ xs) (s ∷ ss)

-- one of them begins, and the others rest
pub data OneBegins (p : Profile) (g : ℕ) (h : Header) (n : ℕ) (B : DeviceSide → DeviceStep → Type 0) : List DeviceSide → List DeviceStep → Type 0 where
  begins_here : {x : DeviceSide} {s : DeviceStep} {xs : List DeviceSide} {ss : List DeviceStep} → B x s → AllStill p g h n xs ss → OneBegins p g h n B (x ∷ xs) (s ∷ ss)
  begins_further : {x : DeviceSide} {s : DeviceStep} {xs : List DeviceSide} {ss : List DeviceStep} → StillQuiet p g h n x s → OneBegins p g h n B xs ss → OneBegins p g h n B (x ∷ xs) (s ∷ ss)

pub data SilentDevices (p : Profile) (g : ℕ) (h : Header) (n : ℕ) (xs : List DeviceSide) (ss : List DeviceStep) : Type 0 where
  all_still : AllStill p g h n xs ss → SilentDevices p g h n xs ss
  one_answers : 1 ≤ g → OneBegins p g h n (BeginsAck p h) xs ss → SilentDevices p g h n xs ss
  one_bursts : n ≡ 1 → OneBegins p g h n (BeginsBack p) xs ss → SilentDevices p g h n xs ss

-- its ACK is to a command 11
to_tag : (p : Profile) (h : Header) (x : DeviceSide) (s : DeviceStep) → seeks_tag h ≡ true → BeginsAck p h x s → AnswersTag s.side
to_tag p h x s tag b = record { on_its_way = go b.speaks.place; to_tag = ap seeks_tag (b.same_request ∙ b.request_is) ∙ tag }
  where
    go : DevicePlace an_ack 0 b.w s.side.device → answering s.side.device.turn ≡ true
    go (inside below t) = ap answering t
    go (finished last t due) = absurd (omega (arith, b.speaks.held.speaks.long))

-- two that would answer are asked by one STX, which is for one device at most, or a command 11, which one host at most answers; two that would burst are both noted
no_two_answers : (p : Profile) (g : ℕ) (h : Header) (n : ℕ) (x : DeviceSide) (s : DeviceStep) {xs : List DeviceSide} {ss : List DeviceStep} → BeginsAck p h x s → All (Differ x) xs → OneBegins p g h n (BeginsAck p h) xs ss
    → All (λ (y : DeviceSide). AnswersTag s.side → AnswersTag y → ⊥) (sides ss) → ⊥
unfolding sides when◌then◌else◌
no_two_answers p g h n x s k (and {x = y} d ds) (begins_here {s = u} b a) (and t ts) = go (seeks_tag h) refl k.asked b.asked
  where
    go : (tag : Bool) → seeks_tag h ≡ tag → (when tag then true else is_own x.device h) ≡ true → (when tag then true else is_own y.device h) ≡ true → ⊥
    go true q i j = t (to_tag p h x s q k) (to_tag p h y u q b)
    go false q i j = own_once x y h d i j
no_two_answers p g h n x s k (and d ds) (begins_further q r) (and t ts) = no_two_answers p g h n x s k ds r ts
no_two_answers p g h n x s {ss = ss} k All.none x8 _ = elim x8 [ ]

no_two_bursts : (p : Profile) (g : ℕ) (h : Header) (n : ℕ) (burst : Bool) (noted : Noted) (next : Bool) (x : DeviceSide) {xs : List DeviceSide} {ss : List DeviceStep} → noted.address ≡ x.device.unique → All (Differ x) xs → All (BurstIs burst noted next) xs
    → OneBegins p g h n (BeginsBack p) xs ss → ⊥
no_two_bursts p g h n burst noted next x o (and d ds) (and i is) (begins_here b a) = d.unique_differs (sym o ∙ i.unique_noted b.bursts)
no_two_bursts p g h n burst noted next x o (and d ds) (and i is) (begins_further q r) = no_two_bursts p g h n burst noted next x o ds is r
no_two_bursts p g h n burst noted next x {ss = ss} o All.none _ x9 = elim x9 [ ]

module _ (limit : ℕ) (low : 2 ≤ limit) (high : limit ≤ 255) (p : Profile) (some : 1 ≤ p.sto) (g : ℕ) (h : Header) (n : ℕ) (calm : 1 ≤ g → n ≡ 1 → ⊥) (burst : Bool) (noted : Noted) (next : Bool) where
  -- the head and the rest
  both : {x : DeviceSide} {xs : List DeviceSide} {s : DeviceStep} {ss : List DeviceStep} → DeviceDoes p g h n x s → SilentDevices p g h n xs ss → BurstIs burst noted next x → All (Differ x) xs → All (BurstIs burst noted next) xs → All (λ (y : DeviceSide). AnswersTag s.side → AnswersTag y → ⊥) (sides ss)
      → SilentDevices p g h n (x ∷ xs) (s ∷ ss)
  both (does_rest q) (all_still a) i d is ts = all_still (still_and q a)
  both (does_rest q) (one_answers z o) i d is ts = one_answers z (begins_further q o)
  both (does_rest q) (one_bursts z o) i d is ts = one_bursts z (begins_further q o)
  both (does_answer z b) (all_still a) i d is ts = one_answers z (begins_here b a)
  both {x} {s = s} (does_answer z b) (one_answers y o) i d is ts = absurd (no_two_answers p g h n x s b d o ts)
  both (does_answer z b) (one_bursts y o) i d is ts = absurd (calm z y)
  both (does_burst z b) (all_still a) i d is ts = one_bursts z (begins_here b a)
  both (does_burst z b) (one_answers y o) i d is ts = absurd (calm y z)
  both {x} (does_burst z b) (one_bursts y o) i d is ts = absurd (no_two_bursts p g h n burst noted next x (i.unique_noted b.bursts) d is o)

  pub silent_devices : {xs : List DeviceSide} (calls : List DeviceCall) → All (DeviceQuiet p g h n) xs → Distinct xs → All (BurstIs burst noted next) xs → SoleTag (sides (device_ticks limit Silence xs calls)) → SilentDevices p g h n xs (device_ticks limit Silence xs calls)
  unfolding device_ticks sides
  silent_devices calls none Distinct.none none tag = all_still nothing_still
  silent_devices [] (and {x = x} q qs) (Distinct.and d ds) (and i is) (tag_and t ts) =
      both (device_does limit low high p some g h n x no_call q) (silent_devices [] qs ds is ts) i d is t
  silent_devices (c ∷ cs) (and {x = x} q qs) (Distinct.and d ds) (and i is) (tag_and t ts) =
      both (device_does limit low high p some g h n x c q) (silent_devices cs qs ds is ts) i d is t
