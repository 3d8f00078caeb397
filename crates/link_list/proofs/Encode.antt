-- Every list of codable ticks is what its bytes decode to: each call, each tick, then the list.
use Prim.Native.Nat.{ℕ, suc, ◌+◌, ◌*◌, ◌/◌, ◌%◌, ◌^◌, ◌≤◌, ◌<◌}
use native.Mathlib.Nat.{div-div-eq-div-mul}
use native.Mathlib.Omega.{arith}
use mathlib.Core.Path.{◌≡◌, refl, sym, ap, ◌∙◌}
use mathlib.Core.Bool.{Bool, true, false}
use mathlib.Core.List.{List, [], ◌∷◌, ◌++◌, append_assoc}
use lib.ListN.{length}
use lib.Seq.{take_at, drop_at}
use Rattle.base.specs.Choice.{when◌then◌else◌}
use Rattle.base.proofs.Choices.{if_unequal}
use Rattle.turns.proofs.Bursting.{if_both}
use Rattle.turns.specs.Link.{MasterCall, no_request, requests, DeviceCall, no_call, gives_answer, gives_content, Calls}
use Rattle.turns.specs.declared.Request.{Request}
use Rattle.turns.specs.declared.Wish.TheVariants.{Same, On, Off}
use Rattle.master.specs.Tick as M
use Rattle.device_tick.specs.Tick as D
use Rattle.link_list.specs.Ticks.{length_in, data_in, request_by, request_in, answer_in, behind_call, behind, Here, calls_each, slots_in, calls_in, ticks_of}
use Rattle.link_list.specs.Encode.{call_bytes, master_bytes, device_bytes, slots_bytes, tick_bytes, ticks_bytes, Bytes, no_byte, byte_and, DataCodable, MasterCodable, DeviceCodable, SlotsCodable, no_slot, absent_and, present_and, TickCodable, TicksCodable, no_tick, tick_and, Encodes}
use Rattle.link_list.proofs.Whole.{ticks_more, ticks_none}

-- ---- a call

address_back : (a : ℕ) → a / 2 ^ 32 * 2 ^ 32 + a / 2 ^ 24 % 256 * 2 ^ 24 + a / 2 ^ 16 % 256 * 2 ^ 16 + a / 2 ^ 8 % 256 * 2 ^ 8 + a % 256 ≡ a
address_back a = omega (arith, div-div-eq-div-mul a (2 ^ 8) (2 ^ 8), div-div-eq-div-mul a (2 ^ 16) (2 ^ 8), div-div-eq-div-mul a (2 ^ 24) (2 ^ 8))

length_back : (n : ℕ) → n ≤ 256 → (n / 256 * 256 + n % 256) % 257 ≡ n
length_back n h = omega arith

module _ (kind preamble command address : ℕ) (put rest : List ℕ) (h : length put ≤ 256) where
  data_back : data_in (call_bytes kind preamble command address put ++ rest) ≡ put
  data_back = take_at put rest _ (sym (length_back (length put) h))

  call_long : length (call_bytes kind preamble command address put) ≡ 10 + length_in (call_bytes kind preamble command address put ++ rest)
  call_long = omega (arith, length_back (length put) h)

call_behind : (kind preamble command address : ℕ) (put rest : List ℕ) → 0 < kind → length put ≤ 256 → behind_call (call_bytes kind preamble command address put ++ rest) ≡ rest
unfolding behind_call
call_behind kind preamble command address put rest some h =
    sym (if_unequal kind 0 rest _ _ (λ e. absurd (omega (arith, e))) (sym (drop_at (call_bytes kind preamble command address put) rest _ (call_long kind preamble command address put rest h))))

none_behind : (rest : List ℕ) → behind_call (0 ∷ rest) ≡ rest
unfolding behind_call when◌then◌else◌
none_behind rest = refl

-- a master's: its kind is four times the revision, and the form
form_back : (revision form : ℕ) → form < 4 → (revision * 4 + form) % 4 ≡ form
form_back revision form h = omega arith

revision_back : (revision form : ℕ) → form < 4 → (revision * 4 + form) / 4 ≡ revision
revision_back revision form h = omega arith

request_back : (long : Bool) (preamble revision address command : ℕ) (put rest : List ℕ) → length put ≤ 256
    → (let q : Request = record { preamble = preamble; revision = revision; long = long; address = address; command = command } in
    M.call_of (request_in (master_bytes (requests q put) ++ rest)) (data_in (master_bytes (requests q put) ++ rest)) ≡ requests q put)
unfolding when◌then◌else◌
request_back true preamble revision address command put rest h =
    let kind = revision * 4 + 2 in
    let whole = call_bytes kind preamble command address put ++ rest in
    ap (λ (form : ℕ). M.call_of (request_by form whole) (data_in whole)) (form_back revision 2 (omega arith))
    ∙ (λ i. requests (record { preamble = preamble; revision = revision_back revision 2 (omega arith) i; long = true; address = address_back address i; command = command }) (data_back kind preamble command address put rest h i))
request_back false preamble revision address command put rest h =
    let kind = revision * 4 + 1 in
    let whole = call_bytes kind preamble command address put ++ rest in
    ap (λ (form : ℕ). M.call_of (request_by form whole) (data_in whole)) (form_back revision 1 (omega arith))
    ∙ (λ i. requests (record { preamble = preamble; revision = revision_back revision 1 (omega arith) i; long = false; address = address_back address i; command = command }) (data_back kind preamble command address put rest h i))

master_back : (c : MasterCall) (rest : List ℕ) → MasterCodable c → M.call_of (request_in (master_bytes c ++ rest)) (data_in (master_bytes c ++ rest)) ≡ c
unfolding when◌then◌else◌
master_back no_request rest h = refl
master_back (requests q put) rest (MasterCodable.codable_request r d) = request_back q.long q.preamble q.revision q.address q.command put rest d.at_most_lem

form_some : (revision : ℕ) (long : Bool) → 0 < revision * 4 + (when long then 2 else 1)
unfolding when◌then◌else◌
form_some revision true = omega arith
form_some revision false = omega arith

master_behind : (c : MasterCall) (rest : List ℕ) → MasterCodable c → behind_call (master_bytes c ++ rest) ≡ rest
master_behind no_request rest h = none_behind rest
master_behind (requests q put) rest (MasterCodable.codable_request r d) =
    call_behind (q.revision * 4 + (when q.long then 2 else 1)) q.preamble q.command q.address put rest (form_some q.revision q.long) d.at_most_lem

some_byte : (c : MasterCall) (rest : List ℕ) → 0 < length (master_bytes c ++ rest)
some_byte no_request rest = omega arith
some_byte (requests q put) rest = omega arith

-- a device's
device_back : (c : DeviceCall) (rest : List ℕ) → DeviceCodable c → D.call_of (answer_in (device_bytes c ++ rest)) (data_in (device_bytes c ++ rest)) ≡ c
unfolding when◌then◌else◌
device_back no_call rest h = refl
device_back (gives_answer Same put) rest (DeviceCodable.codable_answer d) = ap (gives_answer Same) (data_back 1 0 0 0 put rest d.at_most_lem)
device_back (gives_answer On put) rest (DeviceCodable.codable_answer d) = ap (gives_answer On) (data_back 2 0 0 0 put rest d.at_most_lem)
device_back (gives_answer Off put) rest (DeviceCodable.codable_answer d) = ap (gives_answer Off) (data_back 3 0 0 0 put rest d.at_most_lem)
device_back (gives_content command put) rest (DeviceCodable.codable_content b d) = ap (gives_content command) (data_back 4 0 command 0 put rest d.at_most_lem)

device_behind : (c : DeviceCall) (rest : List ℕ) → DeviceCodable c → behind_call (device_bytes c ++ rest) ≡ rest
device_behind no_call rest h = none_behind rest
device_behind (gives_answer Same put) rest (DeviceCodable.codable_answer d) = call_behind 1 0 0 0 put rest (omega arith) d.at_most_lem
device_behind (gives_answer On put) rest (DeviceCodable.codable_answer d) = call_behind 2 0 0 0 put rest (omega arith) d.at_most_lem
device_behind (gives_answer Off put) rest (DeviceCodable.codable_answer d) = call_behind 3 0 0 0 put rest (omega arith) d.at_most_lem
device_behind (gives_content command put) rest (DeviceCodable.codable_content b d) = call_behind 4 0 command 0 put rest (omega arith) d.at_most_lem

-- ---- the calls to the slots

slots_back : (slots : List Bool) (calls : List DeviceCall) (rest : List ℕ) → SlotsCodable slots calls → slots_in slots (slots_bytes slots calls ++ rest) ≡ calls
unfolding slots_in
slots_back [] [] rest no_slot = refl
slots_back (false ∷ slots) calls rest (absent_and s) = ap (slots_in slots) (none_behind (slots_bytes slots calls ++ rest)) ∙ slots_back slots calls rest s
slots_back (true ∷ slots) (c ∷ cs) rest (present_and d s) =
    ap (λ (l : List ℕ). slots_in (true ∷ slots) l) (append_assoc (device_bytes c) (slots_bytes slots cs) rest)
    ∙ (λ i. device_back c (slots_bytes slots cs ++ rest) d i ∷ slots_in slots (device_behind c (slots_bytes slots cs ++ rest) d i))
    ∙ ap (λ (l : List DeviceCall). c ∷ l) (slots_back slots cs rest s)
slots_back [] (c ∷ cs) rest x'' = elim x'' [ ]
slots_back (true ∷ slots) [] rest x5 = elim x5 [ ]

slots_behind : (slots : List Bool) (calls : List DeviceCall) (rest : List ℕ) → SlotsCodable slots calls → behind (length slots) (slots_bytes slots calls ++ rest) ≡ rest
unfolding behind
slots_behind [] [] rest no_slot = refl
slots_behind (false ∷ slots) calls rest (absent_and s) = ap (behind (length slots)) (none_behind (slots_bytes slots calls ++ rest)) ∙ slots_behind slots calls rest s
slots_behind (true ∷ slots) (c ∷ cs) rest (present_and d s) =
    ap (λ (l : List ℕ). behind (suc (length slots)) l) (append_assoc (device_bytes c) (slots_bytes slots cs) rest)
    ∙ ap (behind (length slots)) (device_behind c (slots_bytes slots cs ++ rest) d)
    ∙ slots_behind slots cs rest s
slots_behind [] (c ∷ cs) rest x'' = elim x'' [ ]
slots_behind (true ∷ slots) [] rest x5 = elim x5 [ ]

-- ---- a tick

module _ (here : Here) (c : Calls) (rest : List ℕ) (t : TickCodable here c) where
  slots : List ℕ
  slots = slots_bytes here c.for_devices ++ rest

  whole : List ℕ
  whole = master_bytes c.for_primary ++ (master_bytes c.for_secondary ++ slots)

  tick_parts : tick_bytes here c ++ rest ≡ whole
  unfolding slots whole
  tick_parts =
      append_assoc (master_bytes c.for_primary) (master_bytes c.for_secondary ++ slots_bytes here c.for_devices) rest
      ∙ ap (λ (l : List ℕ). master_bytes c.for_primary ++ l) (append_assoc (master_bytes c.for_secondary) (slots_bytes here c.for_devices) rest)

  behind_primary : behind_call whole ≡ master_bytes c.for_secondary ++ slots
  unfolding whole
  behind_primary = master_behind c.for_primary (master_bytes c.for_secondary ++ slots) t.primary

  behind_masters : behind_call (behind_call whole) ≡ slots
  behind_masters = ap behind_call behind_primary ∙ master_behind c.for_secondary slots t.secondary

  primary_whole : M.call_of (request_in whole) (data_in whole) ≡ c.for_primary
  unfolding whole
  primary_whole = master_back c.for_primary (master_bytes c.for_secondary ++ slots) t.primary

  devices_whole : slots_in here slots ≡ c.for_devices
  unfolding slots
  devices_whole = slots_back here c.for_devices rest t.devices

  calls_whole : calls_in here whole ≡ c
  unfolding calls_in behind slots_in
  calls_whole =
      let secondary : M.call_of (request_in (behind_call whole)) (data_in (behind_call whole)) ≡ c.for_secondary =
      ap (λ (l : List ℕ). M.call_of (request_in l) (data_in l)) behind_primary ∙ master_back c.for_secondary slots t.secondary in
      let devices : slots_in here (behind_call (behind_call whole)) ≡ c.for_devices = ap (slots_in here) behind_masters ∙ devices_whole in
      λ i. record { for_primary = primary_whole i; for_secondary = secondary i; for_devices = devices i }

  behind_whole : behind (calls_each here) whole ≡ rest
  unfolding behind slots
  behind_whole = ap (behind (length here)) behind_masters ∙ slots_behind here c.for_devices rest t.devices

  whole_some : 0 < length whole
  unfolding whole
  whole_some = some_byte c.for_primary (master_bytes c.for_secondary ++ slots)

-- ---- the list

ticks_back : (here : Here) (ticks : List Calls) → TicksCodable here ticks → ticks_of here (ticks_bytes here ticks) ≡ ticks
unfolding ticks_bytes
ticks_back here [] no_tick = ticks_none here [] (omega arith)
ticks_back here (c ∷ cs) (tick_and t ts) =
    let rest = ticks_bytes here cs in
    ap (ticks_of here) (tick_parts here c rest t)
    ∙ ticks_more here (whole here c rest t) (whole_some here c rest t)
    ∙ (λ i. calls_whole here c rest t i ∷ ticks_of here (behind_whole here c rest t i))
    ∙ ap (λ (l : List Calls). c ∷ l) (ticks_back here cs ts)

-- ---- every number is a byte

bytes_append : (xs ys : List ℕ) → Bytes xs → Bytes ys → Bytes (xs ++ ys)
bytes_append [] ys no_byte k = k
bytes_append (x ∷ xs) ys (byte_and b h) k = byte_and b (bytes_append xs ys h k)

byte : (b : ℕ) (bs : List ℕ) → b < 256 → Bytes bs → Bytes (b ∷ bs)
byte b bs h k = byte_and h k

low_byte : (n : ℕ) (bs : List ℕ) → Bytes bs → Bytes ((n % 256) ∷ bs)
low_byte n bs k = byte (n % 256) bs (omega arith) k

none_bytes : (bs : List ℕ) → Bytes bs → Bytes (0 ∷ bs)
none_bytes bs k = byte 0 bs (omega arith) k

call_bytes_lem : (kind preamble command address : ℕ) (put : List ℕ) → kind < 256 → preamble < 256 → command < 256 → address < 2 ^ 40 → DataCodable put → Bytes (call_bytes kind preamble command address put)
call_bytes_lem kind preamble command address put k p c a d =
    byte kind _ k (byte preamble _ p (byte command _ c
    (byte (address / 2 ^ 32) _ (omega arith) (low_byte (address / 2 ^ 24) _ (low_byte (address / 2 ^ 16) _ (low_byte (address / 2 ^ 8) _ (low_byte address _
    (byte (length put / 256) _ (omega (arith, d.at_most_lem)) (low_byte (length put) _ d.are_bytes)))))))))

master_bytes_lem : (c : MasterCall) → MasterCodable c → Bytes (master_bytes c)
master_bytes_lem no_request h = none_bytes [] no_byte
master_bytes_lem (requests q put) (MasterCodable.codable_request r d) =
    call_bytes_lem (q.revision * 4 + (when q.long then 2 else 1)) q.preamble q.command q.address put
    (if_both (λ (k : ℕ). q.revision * 4 + k < 256) q.long 2 1 (omega (arith, r.revision_small)) (omega (arith, r.revision_small))) r.preamble_byte r.command_byte r.address_small d

device_bytes_lem : (c : DeviceCall) → DeviceCodable c → Bytes (device_bytes c)
device_bytes_lem no_call h = none_bytes [] no_byte
device_bytes_lem (gives_answer Same put) (DeviceCodable.codable_answer d) = call_bytes_lem 1 0 0 0 put (omega arith) (omega arith) (omega arith) (omega arith) d
device_bytes_lem (gives_answer On put) (DeviceCodable.codable_answer d) = call_bytes_lem 2 0 0 0 put (omega arith) (omega arith) (omega arith) (omega arith) d
device_bytes_lem (gives_answer Off put) (DeviceCodable.codable_answer d) = call_bytes_lem 3 0 0 0 put (omega arith) (omega arith) (omega arith) (omega arith) d
device_bytes_lem (gives_content command put) (DeviceCodable.codable_content b d) = call_bytes_lem 4 0 command 0 put (omega arith) (omega arith) b (omega arith) d

slots_bytes_lem : (slots : List Bool) (calls : List DeviceCall) → SlotsCodable slots calls → Bytes (slots_bytes slots calls)
slots_bytes_lem [] [] no_slot = no_byte
slots_bytes_lem (false ∷ slots) calls (absent_and s) = none_bytes (slots_bytes slots calls) (slots_bytes_lem slots calls s)
slots_bytes_lem (true ∷ slots) (c ∷ cs) (present_and d s) = bytes_append (device_bytes c) (slots_bytes slots cs) (device_bytes_lem c d) (slots_bytes_lem slots cs s)
slots_bytes_lem [] (c ∷ cs) x'' = elim x'' [ ]
slots_bytes_lem (true ∷ slots) [] x5 = elim x5 [ ]

ticks_bytes_lem : (here : Here) (ticks : List Calls) → TicksCodable here ticks → Bytes (ticks_bytes here ticks)
unfolding ticks_bytes
ticks_bytes_lem here [] no_tick = no_byte
ticks_bytes_lem here (c ∷ cs) (tick_and t ts) =
    bytes_append (tick_bytes here c) (ticks_bytes here cs)
    (bytes_append (master_bytes c.for_primary) (master_bytes c.for_secondary ++ slots_bytes here c.for_devices) (master_bytes_lem c.for_primary t.primary)
    (bytes_append (master_bytes c.for_secondary) (slots_bytes here c.for_devices) (master_bytes_lem c.for_secondary t.secondary)
    (slots_bytes_lem here c.for_devices t.devices)))
    (ticks_bytes_lem here cs ts)

-- ---- every list of codable ticks is what some byte string decodes to

pub every_list : (here : Here) (ticks : List Calls) → TicksCodable here ticks → Encodes here (ticks_bytes here ticks) ticks
every_list here ticks h = record { are_bytes = ticks_bytes_lem here ticks h; decoded = ticks_back here ticks h }
