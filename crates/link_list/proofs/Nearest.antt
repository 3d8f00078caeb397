-- Every call is refused with the number with which its nearest codable call is; so a run over any list of ticks is one over what some byte string decodes to.
use Prim.Native.Nat.{ℕ, suc, ◌-◌, ◌^◌, ◌≤◌, ◌<◌, min}
use native.Mathlib.Omega.{arith}
use mathlib.Core.Path.{◌≡◌, refl, sym, ap, subst, ◌∙◌}
use mathlib.Core.Bool.{Bool, true, false}
use mathlib.Core.List.{List, [], ◌∷◌, map}
use lib.ListN.{length, take, length-take, length-map}
use lib.Seq.{take_all}
use borrow.Author.Tests.{ltb-true, ltb-false, le-ltb, ne_eqb}
use Rattle.base.specs.Refusal.{Called, accepted, refused}
use Rattle.base.specs.Choice.{when◌then◌else◌, ◌<?◌, ◌=?◌, ◌outside◌to◌}
use Rattle.base.proofs.Choices.{if_is_true, if_is_false, if_above, inside_high}
use Rattle.frame.specs.Limits.{largest_polling}
use Rattle.frame.specs.Address.{largest_with, address_above}
use Rattle.frame.specs.Frame.{frame_length, frame_bytes}
use Rattle.line.specs.declared.Heard.{Heard}
use Rattle.turns.specs.Master.{requested, requested_up_to, polling_up_to, request_header, command_refused, has_message, master_with, master_takes}
use Rattle.turns.specs.Device.{answered_by, answered, answer_frame, device_takes, answers_at, answer_header, wished, content_given, device_with_content, wish_refused}
use Rattle.turns.specs.Device as D
use Rattle.turns.specs.Link.{MasterCall, no_request, requests, DeviceCall, no_call, gives_answer, gives_content, Calls, MasterSide, master_data, master_called, master_calls, master_tick, DeviceSide, DeviceStep, device_data, heard_frame, answer_called, content_called, device_calls, device_tick, Link, LinkStep, device_ticks, sides, link_tick, link_after, run}
use Rattle.turns.specs.declared.CallResult.{CallResult}
use Rattle.turns.specs.declared.Master.{Master}
use Rattle.turns.specs.declared.Request.{Request}
use Rattle.turns.specs.declared.Stage.TheVariants.{Waiting}
use Rattle.turns.specs.declared.Device.{Device}
use Rattle.turns.specs.declared.MasterTold.{MasterTold}
use Rattle.turns.specs.declared.MasterTaken.{MasterTaken}
use Rattle.turns.specs.declared.DeviceTold.{DeviceTold}
use Rattle.turns.specs.declared.DeviceTaken.{DeviceTaken}
use Rattle.turns.specs.declared.Turn.{Turn}
use Rattle.turns.specs.declared.Turn.TheVariants.{Listens, Asked, AnswerWaits, Begins, Answers, Follows, Bursts}
use Rattle.turns.specs.declared.Wish.{Wish}
use Rattle.turns.proofs.Masters.{polling_fits}
use Rattle.link_list.specs.Ticks.{Here, ticks_of}
use Rattle.link_list.specs.Encode.{ticks_bytes, Bytes, no_byte, byte_and, DataCodable, RequestCodable, MasterCodable, DeviceCodable, SlotsCodable, no_slot, absent_and, present_and, TicksCodable}
use Rattle.link_list.specs.Nearest.{at_most, nearest_data, nearest_request, nearest_master, nearest_device, present, nearest_devices, nearest_tick, nearest_ticks, outcome, IsRefused, is_refused, MasterGives, DeviceGives, DevicesGive, no_device, device_and, TickGives, TicksGive}
use Rattle.link_list.proofs.Encode.{every_list}

-- ---- a number and the nearest one

data Cut (most n k : ℕ) : Type 0 where
  kept : n ≤ most → k ≡ n → Cut most n k
  cut : most < n → k ≡ most → Cut most n k

at_most_lem : (most n : ℕ) → Cut most n (at_most most n)
at_most_lem most n = go (most <? n) refl
  where
    go : (t : Bool) → (most <? n) ≡ t → Cut most n (at_most most n)
    go true e = cut (ltb-true most n e) (if_is_true (most <? n) most n e)
    go false e = kept (ltb-false most n e) (if_is_false (most <? n) most n e)

at_most_small : (most n : ℕ) → at_most most n ≤ most
at_most_small most n = go (at_most_lem most n)
  where
    go : Cut most n (at_most most n) → at_most most n ≤ most
    go (kept h e) = omega (arith, e)
    go (cut h e) = omega (arith, e)

at_most_same : (most n : ℕ) → n ≤ most → at_most most n ≡ n
at_most_same most n h = if_is_false (most <? n) most n (le-ltb most n h)

-- a test for being above less than the most, and for being equal to it
same_above : (b k n : ℕ) → (b < k → b < n) → (b < n → b < k) → (b <? k) ≡ (b <? n)
same_above b k n f g = go (b <? k) refl (b <? n) refl
  where
    go : (s : Bool) → (b <? k) ≡ s → (t : Bool) → (b <? n) ≡ t → (b <? k) ≡ (b <? n)
    go true p true q = p ∙ sym q
    go false p false q = p ∙ sym q
    go true p false q = absurd (omega (arith, f (ltb-true b k p), ltb-false b n q))
    go false p true q = absurd (omega (arith, g (ltb-true b n q), ltb-false b k p))

cut_above : (b most n k : ℕ) → b < most → Cut most n k → (b <? k) ≡ (b <? n)
cut_above b most n k h (kept p e) = ap (λ (m : ℕ). b <? m) e
cut_above b most n k h (cut p e) = same_above b k n (λ q. omega arith) (λ q. omega (arith, e))

cut_below : (b most n k : ℕ) → b ≤ most → Cut most n k → (k <? b) ≡ (n <? b)
cut_below b most n k h (kept p e) = ap (λ (m : ℕ). m <? b) e
cut_below b most n k h (cut p e) = le-ltb k b (omega (arith, e)) ∙ sym (le-ltb n b (omega arith))

cut_equal : (b most n k : ℕ) → b < most → Cut most n k → (k =? b) ≡ (n =? b)
cut_equal b most n k h (kept p e) = ap (λ (m : ℕ). m =? b) e
cut_equal b most n k h (cut p e) = ne_eqb k b (λ q. absurd (omega (arith, e, q))) ∙ sym (ne_eqb n b (λ q. absurd (omega (arith, q))))

cut_outside : (low high most n k : ℕ) → low ≤ most → high < most → Cut most n k → (k outside low to high) ≡ (n outside low to high)
cut_outside low high most n k h j c = λ i. when cut_below low most n k h c i then true else cut_above high most n k j c i

-- ---- data

nearest_length : (put : List ℕ) → Cut 256 (length put) (length (nearest_data put))
nearest_length put = go (256 <? length put) refl
  where
    long : length (nearest_data put) ≡ min 256 (length put)
    long = length-map (take 256 put) (at_most 255) ∙ length-take 256 put

    go : (t : Bool) → (256 <? length put) ≡ t → Cut 256 (length put) (length (nearest_data put))
    go true e = cut (ltb-true 256 (length put) e) (omega (arith, long, ltb-true 256 (length put) e))
    go false e = kept (ltb-false 256 (length put) e) (omega (arith, long, ltb-false 256 (length put) e))

all_bytes : (xs : List ℕ) → Bytes (map (at_most 255) xs)
all_bytes [] = no_byte
all_bytes (x ∷ xs) = byte_and {b = at_most 255 x} (omega (arith, at_most_small 255 x)) (all_bytes xs)

bytes_same : (xs : List ℕ) → Bytes xs → map (at_most 255) xs ≡ xs
bytes_same [] no_byte = refl
bytes_same (x ∷ xs) (byte_and h k) = λ i. at_most_same 255 x (omega arith) i ∷ bytes_same xs k i

data_same : (put : List ℕ) → length put ≤ 256 → Bytes put → nearest_data put ≡ put
data_same put h k = ap (map (at_most 255)) (take_all 256 put h) ∙ bytes_same put k

data_codable : (put : List ℕ) → DataCodable (nearest_data put)
data_codable put = record { at_most_lem = go (nearest_length put); are_bytes = all_bytes (take 256 put) }
  where
    go : Cut 256 (length put) (length (nearest_data put)) → length (nearest_data put) ≤ 256
    go (kept h e) = omega (arith, e)
    go (cut h e) = omega (arith, e)

-- ---- a master's request

tests : {A : Type 0} → Bool → Bool → Bool → Bool → Bool → Bool → Called A → Called A
tests a r b c d e x =
    when a then refused 3 else
    when r then refused 17 else
    when b then refused 4 else
    when c then refused 5 else
    when d then refused 6 else
    when e then refused 7 else x

tests_outcome : {A : Type 0} (a r b c d e : Bool) (x y : Called A) → outcome x ≡ outcome y → outcome (tests a r b c d e x) ≡ outcome (tests a r b c d e y)
unfolding tests when◌then◌else◌
tests_outcome true r b c d e x y h = refl
tests_outcome false true b c d e x y h = refl
tests_outcome false false true c d e x y h = refl
tests_outcome false false false true d e x y h = refl
tests_outcome false false false false true e x y h = refl
tests_outcome false false false false false true x y h = refl
tests_outcome false false false false false false x y h = h

data Refused {A : Type 0} (x : Called A) : Type 0 where
  with_number : (why : ℕ) → x ≡ refused why → Refused x

tests_refused : {A : Type 0} (a r b c d e : Bool) (x : Called A) → (a ≡ false → r ≡ false → b ≡ false → d ≡ false → ⊥) → Refused (tests a r b c d e x)
unfolding tests when◌then◌else◌
tests_refused true r b c d e x h = with_number 3 refl
tests_refused false true b c d e x h = with_number 17 refl
tests_refused false false true c d e x h = with_number 4 refl
tests_refused false false false true d e x h = with_number 5 refl
tests_refused false false false false true e x h = with_number 6 refl
tests_refused false false false false false e x h = absurd (h refl refl refl refl)

module _ (limit : ℕ) (small : limit < 256) (m : Master) (q : Request) (put : List ℕ) where
  preamble_same : (at_most 255 q.preamble outside 5 to 20) ≡ (q.preamble outside 5 to 20)
  preamble_same = cut_outside 5 20 255 q.preamble _ (omega arith) (omega arith) (at_most_lem 255 q.preamble)

  revision_same : (at_most 63 q.revision outside 3 to 7) ≡ (q.revision outside 3 to 7)
  revision_same = cut_outside 3 7 63 q.revision _ (omega arith) (omega arith) (at_most_lem 63 q.revision)

  polling_same : polling_up_to (at_most 63 q.revision) ≡ polling_up_to q.revision
  polling_same = go (at_most_lem 63 q.revision)
    where
      go : Cut 63 q.revision (at_most 63 q.revision) → polling_up_to (at_most 63 q.revision) ≡ polling_up_to q.revision
      go (kept h e) = ap polling_up_to e
      go (cut h e) = sym (if_above (at_most 63 q.revision) 5 largest_polling 15 largest_polling (omega (arith, e)) refl) ∙ if_above q.revision 5 largest_polling 15 largest_polling (omega arith) refl

  largest_small : (long : Bool) → largest_with (polling_up_to q.revision) long < 2 ^ 40 - 1
  unfolding when◌then◌else◌
  largest_small true = omega arith
  largest_small false = omega (arith, polling_fits q.revision)

  address_same : address_above (polling_up_to (at_most 63 q.revision)) (request_header m (nearest_request q)) ≡ address_above (polling_up_to q.revision) (request_header m q)
  address_same =
      ap (λ (n : ℕ). address_above n (request_header m (nearest_request q))) polling_same
      ∙ cut_above (largest_with (polling_up_to q.revision) q.long) (2 ^ 40 - 1) q.address _ (largest_small q.long) (at_most_lem (2 ^ 40 - 1) q.address)

  command_same : command_refused (nearest_request q) ≡ command_refused q
  command_same =
      let c = at_most_lem 255 q.command in
      λ i. when cut_equal 254 255 q.command _ (omega arith) c i then true else when q.long then false else (when cut_equal 0 255 q.command _ (omega arith) c i then false else true)

  data_same_test : (limit <? length (nearest_data put)) ≡ (limit <? length put)
  data_same_test = cut_above limit 256 (length put) _ small (nearest_length put)

  -- the master behind a request that was taken
  waits : Request → ℕ → Master
  waits r count =
      master_with m m.receiver m.burst m.noted m.timer
      (record { stage = Waiting; header = request_header m r; length = frame_length r.preamble (request_header m r) count; attempts = 0 })

  pub request_outcome : outcome (requested limit m (nearest_request q) (length (nearest_data put))) ≡ outcome (requested limit m q (length put))
  unfolding requested requested_up_to tests waits
  request_outcome =
      (λ i. outcome {A = Master} (tests (preamble_same i) (revision_same i) (address_same i) (command_same i) (data_same_test i) (has_message m.message.stage) (accepted (waits (nearest_request q) (length (nearest_data put))))))
      ∙ tests_outcome (q.preamble outside 5 to 20) (q.revision outside 3 to 7) (address_above (polling_up_to q.revision) (request_header m q)) (command_refused q) (limit <? length put) (has_message m.message.stage)
      (accepted (waits (nearest_request q) (length (nearest_data put)))) (accepted (waits q (length put))) refl

  request_refused : (q.preamble < 256 → q.revision < 64 → q.address < 2 ^ 40 → length put ≤ 256 → ⊥) → Refused (requested limit m q (length put))
  unfolding requested requested_up_to tests waits
  request_refused h =
      tests_refused (q.preamble outside 5 to 20) (q.revision outside 3 to 7) (address_above (polling_up_to q.revision) (request_header m q)) (command_refused q) (limit <? length put) (has_message m.message.stage)
      (accepted (waits q (length put)))
      (λ a r b d. h (omega (arith, inside_high q.preamble 5 20 (q.preamble outside 5 to 20) refl a))
      (omega (arith, inside_high q.revision 3 7 (q.revision outside 3 to 7) refl r))
      (omega (arith, ltb-false (largest_with (polling_up_to q.revision) q.long) q.address b, largest_small q.long))
      (omega (arith, ltb-false limit (length put) d)))

-- ---- a device's answer and its burst content

two : {A : Type 0} → ℕ → ℕ → Bool → Bool → Called A → Called A
two v w a b x = when a then refused v else when b then refused w else x

two_outcome : {A : Type 0} (v w : ℕ) (a b : Bool) (x y : Called A) → outcome x ≡ outcome y → outcome (two v w a b x) ≡ outcome (two v w a b y)
unfolding two when◌then◌else◌
two_outcome v w true b x y h = refl
two_outcome v w false true x y h = refl
two_outcome v w false false x y h = h

two_refused : {A : Type 0} (v w : ℕ) (a b : Bool) (x : Called A) → (a ≡ false → b ≡ false → ⊥) → Refused (two v w a b x)
unfolding two when◌then◌else◌
two_refused v w true b x h = with_number v refl
two_refused v w false true x h = with_number w refl
two_refused v w false false x h = absurd (h refl refl)

module _ (limit : ℕ) (small : limit < 256) (d : Device) (put : List ℕ) where
  count_same : (length (nearest_data put) outside 2 to limit) ≡ (length put outside 2 to limit)
  count_same = cut_outside 2 limit 256 (length put) _ (omega arith) small (nearest_length put)

  count_above : (length put ≤ 256 → ⊥) → (length put outside 2 to limit) ≡ false → ⊥
  count_above h e = h (omega (arith, inside_high (length put) 2 limit (length put outside 2 to limit) refl e))

  module _ (wish : Wish) where
    begins : ℕ → ℕ → Device
    begins left count = D.device_with d d.receiver (answers_at d left) d.request wish (frame_length d.preamble (answer_header d.request (wished d.burst wish)) count) d.due

    by_turn : (t : Turn) → outcome (answered_by limit d wish (length (nearest_data put)) t) ≡ outcome (answered_by limit d wish (length put) t)
    unfolding two begins
    by_turn Listens = refl
    by_turn (Asked left) =
        (λ i. outcome {A = Device} (two 9 10 (count_same i) (wish_refused d wish) (accepted (begins left (length (nearest_data put))))))
        ∙ two_outcome 9 10 (length put outside 2 to limit) (wish_refused d wish) (accepted (begins left (length (nearest_data put)))) (accepted (begins left (length put))) refl
    by_turn AnswerWaits = refl
    by_turn Begins = refl
    by_turn (Answers n) = refl
    by_turn Follows = refl
    by_turn (Bursts n) = refl

    pub answer_outcome : outcome (answered limit d wish (length (nearest_data put))) ≡ outcome (answered limit d wish (length put))
    unfolding answered
    answer_outcome = by_turn d.turn

    turn_refused : (length put ≤ 256 → ⊥) → (t : Turn) → Refused (answered_by limit d wish (length put) t)
    unfolding two begins
    turn_refused h Listens = with_number 8 refl
    turn_refused h (Asked left) = two_refused 9 10 (length put outside 2 to limit) (wish_refused d wish) (accepted (begins left (length put))) (λ a b. count_above h a)
    turn_refused h AnswerWaits = with_number 8 refl
    turn_refused h Begins = with_number 8 refl
    turn_refused h (Answers n) = with_number 8 refl
    turn_refused h Follows = with_number 8 refl
    turn_refused h (Bursts n) = with_number 8 refl

    answer_refused : (length put ≤ 256 → ⊥) → Refused (answered limit d wish (length put))
    unfolding answered
    answer_refused h = turn_refused h d.turn

  module _ (command : ℕ) where
    holds : ℕ → ℕ → Device
    holds c count = device_with_content d (record { given = true; command = c; count = count })

    pub content_outcome : outcome (content_given limit d (at_most 255 command) (length (nearest_data put))) ≡ outcome (content_given limit d command (length put))
    unfolding content_given two holds
    content_outcome =
        (λ i. outcome {A = Device} (two 5 9 (cut_equal 254 255 command _ (omega arith) (at_most_lem 255 command) i) (count_same i) (accepted (holds (at_most 255 command) (length (nearest_data put))))))
        ∙ two_outcome 5 9 (command =? 254) (length put outside 2 to limit) (accepted (holds (at_most 255 command) (length (nearest_data put)))) (accepted (holds command (length put))) refl

    content_refused : (length put ≤ 256 → ⊥) → Refused (content_given limit d command (length put))
    unfolding content_given two holds
    content_refused h = two_refused 5 9 (command =? 254) (length put outside 2 to limit) (accepted (holds command (length put))) (λ a b. count_above h b)

-- ---- the nearest list is codable

request_codable : (q : Request) → RequestCodable (nearest_request q)
request_codable q = record {
  preamble_byte = omega (arith, at_most_small 255 q.preamble);
  revision_small = omega (arith, at_most_small 63 q.revision);
  address_small = omega (arith, at_most_small (2 ^ 40 - 1) q.address);
  command_byte = omega (arith, at_most_small 255 q.command);
}

master_codable : (c : MasterCall) → MasterCodable (nearest_master c)
master_codable no_request = MasterCodable.codable_none
master_codable (requests q put) = MasterCodable.codable_request (request_codable q) (data_codable put)

device_codable : (c : DeviceCall) → DeviceCodable (nearest_device c)
device_codable no_call = DeviceCodable.codable_none
device_codable (gives_answer wish put) = DeviceCodable.codable_answer (data_codable put)
device_codable (gives_content command put) = DeviceCodable.codable_content {command = at_most 255 command} (omega (arith, at_most_small 255 command)) (data_codable put)

slots_codable : (slots : List Bool) (calls : List DeviceCall) → SlotsCodable slots (nearest_devices (present slots) calls)
slots_codable [] calls = no_slot
slots_codable (false ∷ slots) calls = absent_and (slots_codable slots calls)
slots_codable (true ∷ slots) [] = present_and DeviceCodable.codable_none (slots_codable slots [])
slots_codable (true ∷ slots) (c ∷ cs) = present_and (device_codable c) (slots_codable slots cs)

pub nearest_codable : (here : Here) (ticks : List Calls) → TicksCodable here (nearest_ticks here ticks)
unfolding nearest_ticks
nearest_codable here [] = TicksCodable.no_tick
nearest_codable here (c ∷ cs) =
    TicksCodable.tick_and
    (record { primary = master_codable c.for_primary; secondary = master_codable c.for_secondary; devices = slots_codable here c.for_devices })
    (nearest_codable here cs)

-- ---- a tick goes as with the nearest calls

was_refused_is : {A : Type 0} (x : Called A) (why : ℕ) → outcome x ≡ CallResult.Refused why → x ≡ refused why
was_refused_is (accepted a) why e = absurd (let k : ◌≡◌ {A = ℕ} 0 1 = cc in omega arith)
was_refused_is (refused w) why e = ap refused cc

module _ (limit : ℕ) (small : limit < 256) where
  master_refused : (x y : Called Master) (before : Master) (put near frame bytes : List ℕ) (told : MasterTold) → Refused x → outcome y ≡ outcome x
      → master_called y before near frame bytes told ≡ master_called x before put frame bytes told
  master_refused x y before put near frame bytes told (with_number why p) e =
      ap (λ (z : Called Master). master_called z before near frame bytes told) (was_refused_is y why (e ∙ ap outcome p))
      ∙ sym (ap (λ (z : Called Master). master_called z before put frame bytes told) p)

  master_calls_lem : (t : MasterTaken) (c : MasterCall) (frame bytes : List ℕ) → MasterGives c → master_calls limit t (nearest_master c) frame bytes ≡ master_calls limit t c frame bytes
  master_calls_lem t no_request frame bytes g = refl
  master_calls_lem t (requests q put) frame bytes (MasterGives.gives_request b k) = go (at_most_lem 255 q.preamble) (at_most_lem 63 q.revision) (at_most_lem (2 ^ 40 - 1) q.address) (nearest_length put)
    where
      other : (q.preamble < 256 → q.revision < 64 → q.address < 2 ^ 40 → length put ≤ 256 → ⊥) → master_calls limit t (nearest_master (requests q put)) frame bytes ≡ master_calls limit t (requests q put) frame bytes
      other h =
          master_refused (requested limit t.master q (length put)) (requested limit t.master (nearest_request q) (length (nearest_data put))) t.master
          (frame_bytes q.preamble (request_header t.master q) put) (frame_bytes (nearest_request q).preamble (request_header t.master (nearest_request q)) (nearest_data put)) frame bytes t.told
          (request_refused limit small t.master q put h) (request_outcome limit small t.master q put)

      go : Cut 255 q.preamble (at_most 255 q.preamble) → Cut 63 q.revision (at_most 63 q.revision) → Cut (2 ^ 40 - 1) q.address (at_most (2 ^ 40 - 1) q.address) → Cut 256 (length put) (length (nearest_data put))
          → master_calls limit t (nearest_master (requests q put)) frame bytes ≡ master_calls limit t (requests q put) frame bytes
      go (kept h p) (kept g r) (kept i a) (kept j n) =
          let command = at_most_same 255 q.command (omega arith) in
          ap (λ (c : MasterCall). master_calls limit t c frame bytes)
          (λ x. requests (record { preamble = p x; revision = r x; long = q.long; address = a x; command = command x }) (data_same put j k x))
      go (cut h p) r a n = other (λ x v y z. absurd (omega arith))
      go (kept h p) (cut g r) a n = other (λ x v y z. absurd (omega arith))
      go (kept h p) (kept g r) (cut i a) n = other (λ x v y z. absurd (omega arith))
      go (kept h p) (kept g r) (kept i a) (cut j n) = other (λ x v y z. absurd (omega arith))

  master_tick_lem : (x : MasterSide) (heard : Heard) (c : MasterCall) → MasterGives c → master_tick limit x heard (nearest_master c) ≡ master_tick limit x heard c
  unfolding master_tick
  master_tick_lem x heard c g = master_calls_lem (master_takes x.master heard (master_data x heard)) c x.frame (master_data x heard) g

  answer_called_lem : (x y : Called Device) (before : Device) (put near frame bytes contents : List ℕ) (told : DeviceTold) → Refused x → outcome y ≡ outcome x
      → answer_called y before near frame bytes contents told ≡ answer_called x before put frame bytes contents told
  answer_called_lem x y before put near frame bytes contents told (with_number why p) e =
      ap (λ (z : Called Device). answer_called z before near frame bytes contents told) (was_refused_is y why (e ∙ ap outcome p))
      ∙ sym (ap (λ (z : Called Device). answer_called z before put frame bytes contents told) p)

  content_called_lem : (x y : Called Device) (before : Device) (put near frame bytes contents : List ℕ) (told : DeviceTold) → Refused x → outcome y ≡ outcome x
      → content_called y before near frame bytes contents told ≡ content_called x before put frame bytes contents told
  content_called_lem x y before put near frame bytes contents told (with_number why p) e =
      ap (λ (z : Called Device). content_called z before near frame bytes contents told) (was_refused_is y why (e ∙ ap outcome p))
      ∙ sym (ap (λ (z : Called Device). content_called z before put frame bytes contents told) p)

  device_calls_lem : (t : DeviceTaken) (c : DeviceCall) (frame bytes contents : List ℕ) → DeviceGives c → device_calls limit t (nearest_device c) frame bytes contents ≡ device_calls limit t c frame bytes contents
  device_calls_lem t no_call frame bytes contents g = refl
  device_calls_lem t (gives_answer wish put) frame bytes contents (DeviceGives.gives_wished k) = go (nearest_length put)
    where
      go : Cut 256 (length put) (length (nearest_data put)) → device_calls limit t (gives_answer wish (nearest_data put)) frame bytes contents ≡ device_calls limit t (gives_answer wish put) frame bytes contents
      go (kept j n) = ap (λ (l : List ℕ). device_calls limit t (gives_answer wish l) frame bytes contents) (data_same put j k)
      go (cut h n) =
          answer_called_lem (answered limit t.device wish (length put)) (answered limit t.device wish (length (nearest_data put))) t.device
          (answer_frame t.device wish put frame) (answer_frame t.device wish (nearest_data put) frame) frame bytes contents t.told
          (answer_refused limit small t.device put wish (λ x. absurd (omega arith))) (answer_outcome limit small t.device put wish)
  device_calls_lem t (gives_content command put) frame bytes contents (DeviceGives.gives_burst b k) = go (nearest_length put)
    where
      go : Cut 256 (length put) (length (nearest_data put)) → device_calls limit t (gives_content (at_most 255 command) (nearest_data put)) frame bytes contents ≡ device_calls limit t (gives_content command put) frame bytes contents
      go (kept j n) =
          let c = at_most_same 255 command (omega arith) in
          λ i. device_calls limit t (gives_content (c i) (data_same put j k i)) frame bytes contents
      go (cut h n) =
          content_called_lem (content_given limit t.device command (length put)) (content_given limit t.device (at_most 255 command) (length (nearest_data put))) t.device
          put (nearest_data put) frame bytes contents t.told
          (content_refused limit small t.device put command (λ x. absurd (omega arith))) (content_outcome limit small t.device put command)

  device_tick_lem : (x : DeviceSide) (heard : Heard) (c : DeviceCall) → DeviceGives c → device_tick limit x heard (nearest_device c) ≡ device_tick limit x heard c
  unfolding device_tick
  device_tick_lem x heard c g = device_calls_lem (device_takes x.device heard) c (heard_frame x heard) (device_data x heard) x.contents g

  -- ---- what became of a call, whatever it holds, is what becomes of its nearest codable one

  master_outcome : (x : Called Master) (before : Master) (put frame bytes : List ℕ) (told : MasterTold) → (master_called x before put frame bytes told).result ≡ outcome x
  master_outcome (accepted m) before put frame bytes told = refl
  master_outcome (refused why) before put frame bytes told = refl

  answer_was : (x : Called Device) (before : Device) (put frame bytes contents : List ℕ) (told : DeviceTold) → (answer_called x before put frame bytes contents told).result ≡ outcome x
  answer_was (accepted d) before put frame bytes contents told = refl
  answer_was (refused why) before put frame bytes contents told = refl

  content_was : (x : Called Device) (before : Device) (put frame bytes contents : List ℕ) (told : DeviceTold) → (content_called x before put frame bytes contents told).result ≡ outcome x
  content_was (accepted d) before put frame bytes contents told = refl
  content_was (refused why) before put frame bytes contents told = refl

  pub master_as_nearest : (x : MasterSide) (heard : Heard) (c : MasterCall) → (master_tick limit x heard c).result ≡ (master_tick limit x heard (nearest_master c)).result
  unfolding master_tick
  master_as_nearest x heard no_request = refl
  master_as_nearest x heard (requests q put) =
      let t = master_takes x.master heard (master_data x heard) in
      master_outcome (requested limit t.master q (length put)) t.master _ x.frame (master_data x heard) t.told
      ∙ sym (request_outcome limit small t.master q put)
      ∙ sym (master_outcome (requested limit t.master (nearest_request q) (length (nearest_data put))) t.master _ x.frame (master_data x heard) t.told)

  pub device_as_nearest : (x : DeviceSide) (heard : Heard) (c : DeviceCall) → (device_tick limit x heard c).result ≡ (device_tick limit x heard (nearest_device c)).result
  unfolding device_tick
  device_as_nearest x heard no_call = refl
  device_as_nearest x heard (gives_answer wish put) =
      let t = device_takes x.device heard in
      answer_was (answered limit t.device wish (length put)) t.device (answer_frame t.device wish put (heard_frame x heard)) (heard_frame x heard) (device_data x heard) x.contents t.told
      ∙ sym (answer_outcome limit small t.device put wish)
      ∙ sym (answer_was (answered limit t.device wish (length (nearest_data put))) t.device (answer_frame t.device wish (nearest_data put) (heard_frame x heard)) (heard_frame x heard) (device_data x heard) x.contents t.told)
  device_as_nearest x heard (gives_content command put) =
      let t = device_takes x.device heard in
      content_was (content_given limit t.device command (length put)) t.device put (heard_frame x heard) (device_data x heard) x.contents t.told
      ∙ sym (content_outcome limit small t.device put command)
      ∙ sym (content_was (content_given limit t.device (at_most 255 command) (length (nearest_data put))) t.device (nearest_data put) (heard_frame x heard) (device_data x heard) x.contents t.told)

  -- a call that is not codable, of bytes, is refused
  outcome_refused : {A : Type 0} (x : Called A) (a : CallResult) → a ≡ outcome x → Refused x → IsRefused a
  outcome_refused x a e (with_number why p) = subst IsRefused (sym (e ∙ ap outcome p)) (is_refused why)

  pub master_not_codable : (x : MasterSide) (heard : Heard) (c : MasterCall) → MasterGives c → (MasterCodable c → ⊥) → IsRefused (master_tick limit x heard c).result
  unfolding master_tick
  master_not_codable x heard no_request g h = absurd (h MasterCodable.codable_none)
  master_not_codable x heard (requests q put) (MasterGives.gives_request b k) h =
      let t = master_takes x.master heard (master_data x heard) in
      outcome_refused (requested limit t.master q (length put)) _ (master_outcome (requested limit t.master q (length put)) t.master _ x.frame (master_data x heard) t.told)
      (request_refused limit small t.master q put
      (λ p r a n. h (MasterCodable.codable_request (record { preamble_byte = p; revision_small = r; address_small = a; command_byte = b }) (record { at_most_lem = n; are_bytes = k }))))

  pub device_not_codable : (x : DeviceSide) (heard : Heard) (c : DeviceCall) → DeviceGives c → (DeviceCodable c → ⊥) → IsRefused (device_tick limit x heard c).result
  unfolding device_tick
  device_not_codable x heard no_call g h = absurd (h DeviceCodable.codable_none)
  device_not_codable x heard (gives_answer wish put) (DeviceGives.gives_wished k) h =
      let t = device_takes x.device heard in
      outcome_refused (answered limit t.device wish (length put)) _
      (answer_was (answered limit t.device wish (length put)) t.device (answer_frame t.device wish put (heard_frame x heard)) (heard_frame x heard) (device_data x heard) x.contents t.told)
      (answer_refused limit small t.device put wish (λ n. h (DeviceCodable.codable_answer (record { at_most_lem = n; are_bytes = k }))))
  device_not_codable x heard (gives_content command put) (DeviceGives.gives_burst b k) h =
      let t = device_takes x.device heard in
      outcome_refused (content_given limit t.device command (length put)) _
      (content_was (content_given limit t.device command (length put)) t.device put (heard_frame x heard) (device_data x heard) x.contents t.told)
      (content_refused limit small t.device put command (λ n. h (DeviceCodable.codable_content b (record { at_most_lem = n; are_bytes = k }))))

  -- ---- a run

  device_ticks_lem : (heard : Heard) (xs : List DeviceSide) (calls : List DeviceCall) → DevicesGive calls → device_ticks limit heard xs (nearest_devices (length xs) calls) ≡ device_ticks limit heard xs calls
  unfolding device_ticks
  device_ticks_lem heard [] calls g = refl
  device_ticks_lem heard (x ∷ xs) [] g = ap (λ (l : List DeviceStep). device_tick limit x heard no_call ∷ l) (device_ticks_lem heard xs [] no_device)
  device_ticks_lem heard (x ∷ xs) (c ∷ cs) (device_and d g) = λ i. device_tick_lem x heard c d i ∷ device_ticks_lem heard xs cs g i

  as_many : (heard : Heard) (xs : List DeviceSide) (calls : List DeviceCall) → length (sides (device_ticks limit heard xs calls)) ≡ length xs
  unfolding device_ticks sides
  as_many heard [] calls = refl
  as_many heard (x ∷ xs) [] = ap suc (as_many heard xs [])
  as_many heard (x ∷ xs) (c ∷ cs) = ap suc (as_many heard xs cs)

  link_tick_lem : (here : Here) (l : Link) (c : Calls) → length l.devices ≡ present here → TickGives c → link_tick limit l (nearest_tick here c) ≡ link_tick limit l c
  unfolding link_tick
  link_tick_lem here l c e g =
      let devices : device_ticks limit l.line l.devices (nearest_devices (present here) c.for_devices) ≡ device_ticks limit l.line l.devices c.for_devices =
      ap (λ (n : ℕ). device_ticks limit l.line l.devices (nearest_devices n c.for_devices)) (sym e) ∙ device_ticks_lem l.line l.devices c.for_devices g.devices in
      λ i. record {
        for_primary = master_tick_lem l.primary l.line c.for_primary g.primary i;
        for_secondary = master_tick_lem l.secondary l.line c.for_secondary g.secondary i;
        for_devices = devices i;
      }

  link_devices : (l : Link) (c : Calls) → length (link_after (link_tick limit l c)).devices ≡ length l.devices
  unfolding link_tick
  link_devices l c = as_many l.line l.devices c.for_devices

  -- a run, tick by tick
  pub nearest_run : (here : Here) (l : Link) (ticks : List Calls) → length l.devices ≡ present here → TicksGive ticks → run limit l (nearest_ticks here ticks) ≡ run limit l ticks
  unfolding run nearest_ticks
  nearest_run here l [] e g = refl
  nearest_run here l (c ∷ cs) e (TicksGive.tick_and g gs) =
      let tick = link_tick_lem here l c e g in
      (λ i. tick i ∷ run limit (link_after (tick i)) (nearest_ticks here cs))
      ∙ ap (λ (s : List LinkStep). link_tick limit l c ∷ s) (nearest_run here (link_after (link_tick limit l c)) cs (link_devices l c ∙ e) gs)

  -- ---- a run over any list of ticks is one over what some byte string decodes to

  pub every_run : (here : Here) (l : Link) (ticks : List Calls) → length l.devices ≡ present here → TicksGive ticks
      → run limit l (ticks_of here (ticks_bytes here (nearest_ticks here ticks))) ≡ run limit l ticks
  every_run here l ticks e g = ap (run limit l) (every_list here (nearest_ticks here ticks) (nearest_codable here ticks)).decoded ∙ nearest_run here l ticks e g
