-- Runs under item 14, computed: overlaps of equal and of unequal frames, starts in the middle of an STX and of an ACK, a message for which the wait is claimed, and one accepted too early that waits longer.
use Prim.Native.Nat.{ℕ, zero, suc, ◌+◌, ◌-◌, ◌≤◌, ◌<◌}
use native.Mathlib.Omega.{arith}
use mathlib.Core.Path.{◌≡◌, refl, sym, ap, subst, ◌∙◌}
use mathlib.Core.Bool.{Bool, true, false}
use mathlib.Core.List.{List, [], ◌∷◌, ◌++◌}
use lib.ListN.{length, replicate, drop, length-drop}
use Rattle.base.specs.Choice.{when◌then◌else◌}
use Rattle.base.specs.Store.{stored}
use Rattle.base.proofs.Choices.{true_false}
use Rattle.frame.specs.Check.{xor_from}
use Rattle.frame.specs.Delimiter.{delimiter_of}
use Rattle.frame.specs.Frame.{frame_bytes, preamble_bytes, body_bytes, protected_bytes, header_bytes}
use Rattle.frame.specs.Write.{write_buffer, write_answer}
use Rattle.line.specs.Reader.{taken, taken_data, at_idle, at_preamble, at_first, at_address, at_expansion, at_command, at_count, at_data, at_check, silent_inside}
use Rattle.line.specs.declared.Heard.TheVariants.{Silence}
use Rattle.turns.specs.Master.{fresh_master, requested, requested_up_to, master_takes, master_sends}
use Rattle.turns.specs.Device.{fresh_device, device_takes, device_sends, answered, content_given}
use Rattle.turns.specs.Link.{MasterCall, no_request, requests, no_call, gives_answer, gives_content, Link, LinkStep, Calls, DeviceSide, master_tick, device_tick, device_ticks, sides, carried, link_after}
use Rattle.turns.specs.Run.{All, none, and, Distinct, DeviceStarts, device_senders, EachTick, no_tick, tick_and}
use Rattle.turns.specs.Ledgers.{Ledger, finders, ledgers_after, blanks, OneFinds}
use Rattle.turns.specs.Ledgers as L
use Rattle.turns.specs.Demand3.{master_in, AcceptedIn, BeginsWithin, begins, waits, NoneBurstsIn, longest_wait}
use Rattle.runs.specs.Late.{late_tick, late_run, Started, starts_now, started_before, LatePremises, in_tick, senders_in, BeginTogether, FrameSeen, behind_frame, LateStart}
use Rattle.turns.specs.declared.CallResult.{CallResult}
use Rattle.turns.specs.declared.Sent.{Sent}
use Rattle.turns.specs.declared.Wish.TheVariants.{Same}
use Rattle.turns.proofs.Example as E
use Rattle.turns.proofs.Example.{fresh, quiet}
use Rattle.runs.proofs.Premises.{short, short_taken, finders_most, ledgers_most, counts}
use Rattle.runs.proofs.Item14.{item_14}

-- ---- the link: the profile of Premises, with short timers, and one device. With at most 2 data bytes a frame has at most 31 characters; that of the device has.

unfoldable pub link : Link
link = record {
  primary = record { master = fresh_master short true 3; frame = replicate 284 0; bytes = replicate 255 0 };
  secondary = record { master = fresh_master short false 3; frame = replicate 284 0; bytes = replicate 255 0 };
  devices = record { device = fresh_device short 20 0 2; frame = replicate 284 0; bytes = replicate 255 0; contents = replicate 255 0 } ∷ [];
  line = Silence;
}

-- a request of command 3, with a preamble of so many characters
pub request : ℕ → MasterCall
request preamble = requests (record { preamble = preamble; revision = 7; long = true; address = 2; command = 3 }) (0 ∷ 0 ∷ [])

pub calls : MasterCall → MasterCall → Calls
calls a b = record { for_primary = a; for_secondary = b; for_devices = [] }

pub answers : Calls
answers = record { for_primary = no_request; for_secondary = no_request; for_devices = gives_answer Same (0 ∷ 0 ∷ []) ∷ [] }

-- ---- that a run meets the premises: of one device at most one finds, and that none bursts is computed

late_lone_finds : (limit a b : ℕ) (gs : List Ledger) (l : Link) (cs : List Calls) → length gs ≤ 1 → OneFinds gs cs (late_run limit a b l cs)
unfolding late_run
late_lone_finds limit a b gs l [] e = L.no_tick
late_lone_finds limit a b gs l (c ∷ cs) e =
    let next = ledgers_after c.for_devices (late_tick limit a b l c).for_devices gs in
    let most : length next ≤ 1 = omega (arith, ledgers_most c.for_devices (late_tick limit a b l c).for_devices gs) in
    let few : finders next ≤ 1 = omega (arith, finders_most next) in
    L.tick_and few (late_lone_finds limit (a - 1) (b - 1) next (link_after (late_tick limit a b l c)) cs most)

pub off : List DeviceSide → Bool
off [] = true
off (x ∷ xs) = when x.device.burst then false else off xs

pub off_in : List LinkStep → Bool
off_in [] = true
off_in (s ∷ ss) = when off (sides s.for_devices) then off_in ss else false

all_off : (xs : List DeviceSide) → off xs ≡ true → All (λ (x : DeviceSide). x.device.burst ≡ true → ⊥) xs
unfolding off when◌then◌else◌
all_off [] e = none
all_off (x ∷ xs) e = go x.device.burst refl e (λ q. all_off xs q)
  where
    go : (b : Bool) → x.device.burst ≡ b → (when b then false else off xs) ≡ true → (off xs ≡ true → All (λ (y : DeviceSide). y.device.burst ≡ true → ⊥) xs) → All (λ (y : DeviceSide). y.device.burst ≡ true → ⊥) (x ∷ xs)
    go true q z rest = absurd (true_false (sym z))
    go false q z rest = and (λ on. true_false (sym on ∙ q)) (rest z)

each_off : (ss : List LinkStep) → off_in ss ≡ true → EachTick NoneBurstsIn ss
unfolding off_in when◌then◌else◌
each_off [] e = no_tick
each_off (s ∷ ss) e = go (off (sides s.for_devices)) refl e (λ q. each_off ss q)
  where
    go : (b : Bool) → off (sides s.for_devices) ≡ b → (when b then off_in ss else false) ≡ true → (off_in ss ≡ true → EachTick NoneBurstsIn ss) → EachTick NoneBurstsIn (s ∷ ss)
    go true q z rest = tick_and (all_off _ q) (rest z)
    go false q z rest = absurd (true_false (sym z))

device_starts_lem : DeviceStarts short (record { device = fresh_device short 20 0 2; frame = replicate 284 0; bytes = replicate 255 0; contents = replicate 255 0 })
unfolding when◌then◌else◌
device_starts_lem = record { preamble = 20; polling = 0; unique = 2; starts = refl; room = omega arith; content_room = omega arith }

meets : (a b : ℕ) (ticks : List Calls) → off_in (late_run 2 a b link ticks) ≡ true → LatePremises 2 short 3 a b link ticks
unfolding link blanks when◌then◌else◌
meets a b ticks e = record {
  made = short_taken;
  primary = record { starts = refl; room = omega arith };
  secondary = record { starts = refl; room = omega arith };
  devices = and (starts_now device_starts_lem) none;
  distinct = Distinct.and none Distinct.none;
  none_bursts = each_off _ e;
  one_finds = late_lone_finds 2 a b _ link ticks (omega arith);
}

holds : (a b : ℕ) (ticks : List Calls) → off_in (late_run 2 a b link ticks) ≡ true → LateStart 2 short 3 a b (late_run 2 a b link ticks)
holds a b ticks e = item_14 2 (omega arith) (omega arith) short 3 a b link ticks (meets a b ticks e)

-- ---- an overlap of equal frames: the primary starts in tick 2, the secondary in tick 0, and both are asked in tick 2

unfoldable pub equal : List Calls
equal = quiet ∷ (quiet ∷ (calls (request 20) (request 20) ∷ replicate 40 quiet))

-- both send in ticks 6 to 36, which is the longest overlap; the primary's retry begins in tick 41
pub equal_run : (E.senders (late_run 2 2 0 link equal) ≡ replicate 6 0 ++ (replicate 31 3 ++ (replicate 4 0 ++ replicate 2 1))) × (off_in (late_run 2 2 0 link equal) ≡ true)
unfolding off off_in equal E.senders E.devices_sent E.one short link request calls answers quiet late_run late_tick device_ticks sides carried master_tick device_tick requested requested_up_to master_takes master_sends device_takes device_sends answered content_given taken taken_data at_idle at_preamble at_first at_address at_expansion at_command at_count at_data at_check silent_inside write_buffer write_answer frame_bytes preamble_bytes body_bytes protected_bytes header_bytes xor_from delimiter_of stored when◌then◌else◌
equal_run = (refl, refl)

pub equal_begins : BeginTogether (late_run 2 2 0 link equal) 6
unfolding equal in_tick short link request calls answers quiet late_run late_tick device_ticks sides carried master_tick device_tick requested requested_up_to master_takes master_sends device_takes device_sends answered content_given taken taken_data at_idle at_preamble at_first at_address at_expansion at_command at_count at_data at_check silent_inside write_buffer write_answer frame_bytes preamble_bytes body_bytes protected_bytes header_bytes xor_from delimiter_of stored when◌then◌else◌
equal_begins = record { primary_sends = refl; secondary_sends = refl; primary_did_not = refl; secondary_did_not = refl }

-- so they begin together in no other tick
pub equal_once : (t : ℕ) → BeginTogether (late_run 2 2 0 link equal) t → t ≡ 6
equal_once t b = (holds 2 0 equal equal_run.1).one_overlap.at_most_one t 6 b equal_begins

-- ---- an overlap of unequal frames

unfoldable pub unequal : List Calls
unequal = quiet ∷ (quiet ∷ (calls (request 5) (request 7) ∷ replicate 30 quiet))

-- both send in ticks 6 to 21, the secondary alone to tick 23; the primary's retry begins RT1 behind that, in tick 28
pub unequal_run : (E.senders (late_run 2 2 0 link unequal) ≡ replicate 6 0 ++ (replicate 16 3 ++ (replicate 2 2 ++ (replicate 4 0 ++ replicate 5 1)))) × (off_in (late_run 2 2 0 link unequal) ≡ true)
unfolding off off_in unequal E.senders E.devices_sent E.one short link request calls answers quiet late_run late_tick device_ticks sides carried master_tick device_tick requested requested_up_to master_takes master_sends device_takes device_sends answered content_given taken taken_data at_idle at_preamble at_first at_address at_expansion at_command at_count at_data at_check silent_inside write_buffer write_answer frame_bytes preamble_bytes body_bytes protected_bytes header_bytes xor_from delimiter_of stored when◌then◌else◌
unequal_run = (refl, refl)

pub unequal_holds : LateStart 2 short 3 2 0 (late_run 2 2 0 link unequal)
unequal_holds = holds 2 0 unequal unequal_run.1

-- with FSK: the primary starts in tick 8, the secondary in tick 0, both are asked in tick 41, and the device's host answers the primary's retry in tick 102
unfoldable pub fsk : List Calls
fsk =
    replicate 41 quiet
    ++ (calls (requests (record { preamble = 5; revision = 7; long = true; address = 2; command = 3 }) []) (requests (record { preamble = 5; revision = 7; long = true; address = 2; command = 3 }) [])
    ∷ (replicate 60 quiet
    ++ (record { for_primary = no_request; for_secondary = no_request; for_devices = gives_answer Same (0 ∷ 0 ∷ 0 ∷ 0 ∷ 0 ∷ []) ∷ [] }
    ∷ replicate 30 quiet)))

-- both send in ticks 41 to 54; the retry goes out in ticks 88 to 101, the ACK in 103 to 121, and the secondary begins in tick 123
pub fsk_run : E.senders (late_run 255 8 0 fresh fsk) ≡ replicate 41 0 ++ (replicate 14 3 ++ (replicate 33 0 ++ (replicate 14 1 ++ (0 ∷ (replicate 19 4 ++ (0 ∷ replicate 10 2))))))
unfolding fsk fresh E.senders E.devices_sent E.one calls quiet late_run late_tick device_ticks sides carried master_tick device_tick requested requested_up_to master_takes master_sends device_takes device_sends answered content_given taken taken_data at_idle at_preamble at_first at_address at_expansion at_command at_count at_data at_check silent_inside write_buffer write_answer frame_bytes preamble_bytes body_bytes protected_bytes header_bytes xor_from delimiter_of stored when◌then◌else◌
fsk_run = refl

-- ---- starts during a frame; the primary starts in tick 0, is asked in it and sends in ticks 4 to 19

-- the secondary starts in the middle of the STX, in tick 8, and is asked then
unfoldable pub in_stx : List Calls
in_stx = calls (request 5) no_request ∷ (replicate 7 quiet ++ (calls no_request (request 5) ∷ (replicate 11 quiet ++ (answers ∷ replicate 36 quiet))))

-- it hears the ACK whole, in ticks 21 to 51, and begins in tick 53
pub in_stx_run : (E.senders (late_run 2 0 8 link in_stx) ≡ replicate 4 0 ++ (replicate 16 1 ++ (0 ∷ (replicate 31 4 ++ (0 ∷ replicate 4 2))))) × (off_in (late_run 2 0 8 link in_stx) ≡ true)
unfolding off off_in in_stx E.senders E.devices_sent E.one short link request calls answers quiet late_run late_tick device_ticks sides carried master_tick device_tick requested requested_up_to master_takes master_sends device_takes device_sends answered content_given taken taken_data at_idle at_preamble at_first at_address at_expansion at_command at_count at_data at_check silent_inside write_buffer write_answer frame_bytes preamble_bytes body_bytes protected_bytes header_bytes xor_from delimiter_of stored when◌then◌else◌
in_stx_run = (refl, refl)

pub in_stx_holds : LateStart 2 short 3 0 8 (late_run 2 0 8 link in_stx)
in_stx_holds = holds 0 8 in_stx in_stx_run.1

-- with a device that was started two ticks before, and given content, the run shows the same
pub older_device : DeviceSide
older_device = (device_tick 2 (device_tick 2 (record { device = fresh_device short 20 0 2; frame = replicate 284 0; bytes = replicate 255 0; contents = replicate 255 0 }) Silence no_call).side Silence (gives_content 3 (0 ∷ 0 ∷ []))).side

pub older_started : Started 2 short Silence older_device
unfolding older_device
older_started = started_before refl (started_before refl (starts_now device_starts_lem) no_call) (gives_content 3 (0 ∷ 0 ∷ []))

pub older_run : E.senders (late_run 2 0 8 (record { primary = link.primary; secondary = link.secondary; devices = older_device ∷ []; line = Silence }) in_stx) ≡ E.senders (late_run 2 0 8 link in_stx)
unfolding in_stx older_device E.senders E.devices_sent E.one short link request calls answers quiet late_run late_tick device_ticks sides carried master_tick device_tick requested requested_up_to master_takes master_sends device_takes device_sends answered content_given taken taken_data at_idle at_preamble at_first at_address at_expansion at_command at_count at_data at_check silent_inside write_buffer write_answer frame_bytes preamble_bytes body_bytes protected_bytes header_bytes xor_from delimiter_of stored when◌then◌else◌
older_run = refl

-- the secondary starts in the middle of the ACK, in tick 30, and is asked then
unfoldable pub in_ack : List Calls
in_ack = calls (request 5) no_request ∷ (replicate 19 quiet ++ (answers ∷ (replicate 9 quiet ++ (calls no_request (request 5) ∷ replicate 30 quiet))))

-- it passes over the ACK, and begins RT1 behind it, in tick 58
pub in_ack_run : (E.senders (late_run 2 0 30 link in_ack) ≡ replicate 4 0 ++ (replicate 16 1 ++ (0 ∷ (replicate 31 4 ++ (replicate 6 0 ++ replicate 3 2))))) × (off_in (late_run 2 0 30 link in_ack) ≡ true)
unfolding off off_in in_ack E.senders E.devices_sent E.one short link request calls answers quiet late_run late_tick device_ticks sides carried master_tick device_tick requested requested_up_to master_takes master_sends device_takes device_sends answered content_given taken taken_data at_idle at_preamble at_first at_address at_expansion at_command at_count at_data at_check silent_inside write_buffer write_answer frame_bytes preamble_bytes body_bytes protected_bytes header_bytes xor_from delimiter_of stored when◌then◌else◌
in_ack_run = (refl, refl)

pub in_ack_holds : LateStart 2 short 3 0 30 (late_run 2 0 30 link in_ack)
in_ack_holds = holds 0 30 in_ack in_ack_run.1

-- ---- a message for which the wait is claimed

late_length : (limit a b : ℕ) (l : Link) (ticks : List Calls) → length (late_run limit a b l ticks) ≡ length ticks
unfolding late_run
late_length limit a b l [] = refl
late_length limit a b l (c ∷ cs) = ap suc (late_length limit (a - 1) (b - 1) (link_after (late_tick limit a b l c)) cs)

-- a master's request was taken in tick t, by computing
is_taken : CallResult → Bool
is_taken CallResult.Nothing = false
is_taken CallResult.Taken = true
is_taken (CallResult.Refused why) = false

taken_in : Bool → List LinkStep → ℕ → Bool
taken_in bit [] t = false
taken_in bit (s ∷ ss) zero = is_taken (master_in bit s).result
taken_in bit (s ∷ ss) (suc t) = taken_in bit ss t

pub record TakenIn (bit : Bool) (ss : List LinkStep) (t : ℕ) : Type 0 where
  pub step : LinkStep
  pub after : List LinkStep
  pub is : drop t ss ≡ step ∷ after
  pub accepted : AcceptedIn bit step

taken_at : (bit : Bool) (ss : List LinkStep) (t : ℕ) → taken_in bit ss t ≡ true → TakenIn bit ss t
unfolding taken_in is_taken
taken_at bit [] t e = absurd (true_false (sym e))
taken_at bit (s ∷ ss) zero e = record { step = s; after = ss; is = refl; accepted = go (master_in bit s).result e }
  where
    go : (a : CallResult) → is_taken a ≡ true → a ≡ CallResult.Taken
    go CallResult.Nothing z = absurd (true_false (sym z))
    go CallResult.Taken z = refl
    go (CallResult.Refused why) z = absurd (true_false (sym z))
taken_at bit (s ∷ ss) (suc t) e = let r = taken_at bit ss t e in record { step = r.step; after = r.after; is = r.is; accepted = r.accepted }

-- the numbers of senders, by tick
number_at : List ℕ → ℕ → ℕ
number_at [] t = 0
number_at (x ∷ xs) zero = x
number_at (x ∷ xs) (suc t) = number_at xs t

counts_at : (ss : List LinkStep) (t : ℕ) → senders_in ss t ≡ number_at (counts ss) t
unfolding in_tick counts number_at
counts_at [] t = refl
counts_at (s ∷ ss) zero = refl
counts_at (s ∷ ss) (suc t) = counts_at ss t

ones : (n : ℕ) (xs : List ℕ) (i : ℕ) → i < n → number_at (replicate n 1 ++ xs) i ≡ 1
unfolding number_at
ones zero xs i z = absurd (omega (arith, z))
ones (suc n) xs zero z = refl
ones (suc n) xs (suc i) z = ones n xs i (omega (arith, z))

ones_behind : (m n : ℕ) (xs : List ℕ) (i : ℕ) → m ≤ i → i < m + n → number_at (replicate m 0 ++ (replicate n 1 ++ xs)) i ≡ 1
unfolding number_at
ones_behind zero n xs i y z = ones n xs i (omega (arith, z))
ones_behind (suc m) n xs zero y z = absurd (omega (arith, y))
ones_behind (suc m) n xs (suc i) y z = ones_behind m n xs i (omega (arith, y)) (omega (arith, z))

-- the primary starts in tick 2 and is asked then, the secondary starts in tick 0 and is asked in tick 25
unfoldable pub claimed : List Calls
claimed = quiet ∷ (quiet ∷ (calls (request 5) no_request ∷ (replicate 22 quiet ++ (calls no_request (request 5) ∷ replicate 190 quiet))))

-- the primary's STX goes out in ticks 6 to 21, and the secondary's request is taken
claimed_run : (counts (late_run 2 2 0 link claimed) ≡ replicate 6 0 ++ (replicate 16 1 ++ drop 22 (counts (late_run 2 2 0 link claimed))))
    × (number_at (counts (late_run 2 2 0 link claimed)) 5 ≡ 0) × (number_at (counts (late_run 2 2 0 link claimed)) 22 ≡ 0) × (taken_in false (late_run 2 2 0 link claimed) 25 ≡ true) × (off_in (late_run 2 2 0 link claimed) ≡ true)
unfolding claimed off off_in counts device_senders number_at taken_in is_taken short link request calls answers quiet late_run late_tick device_ticks sides carried master_tick device_tick requested requested_up_to master_takes master_sends device_takes device_sends answered content_given taken taken_data at_idle at_preamble at_first at_address at_expansion at_command at_count at_data at_check silent_inside write_buffer write_answer frame_bytes preamble_bytes body_bytes protected_bytes header_bytes xor_from delimiter_of stored when◌then◌else◌
claimed_run = (refl, refl, refl, refl, refl)

claimed_long : length (late_run 2 2 0 link claimed) ≡ 216
unfolding claimed
claimed_long = late_length 2 2 0 link claimed

pub claimed_seen : FrameSeen 2 0 (late_run 2 2 0 link claimed) 5 21
claimed_seen = record {
  primary_on = omega arith;
  secondary_on = omega arith;
  silent_before = counts_at (late_run 2 2 0 link claimed) 5 ∙ claimed_run.1;
  some = omega arith;
  one_sends = λ i y z. counts_at (late_run 2 2 0 link claimed) i ∙ ap (λ (ns : List ℕ). number_at ns i) claimed_run.0 ∙ ones_behind 6 16 (drop 22 (counts (late_run 2 2 0 link claimed))) i (omega (arith, y)) (omega (arith, z));
  silent_behind = counts_at (late_run 2 2 0 link claimed) 22 ∙ claimed_run.2;
  in_the_run = omega (arith, claimed_long);
}

pub bound : longest_wait 2 short 3 ≡ 187
unfolding short
bound = refl

-- it is seen on the line, so the wait is claimed from tick 21 on, and the secondary's message begins in time
pub claimed_begins : BeginsWithin false (longest_wait 2 short 3) (drop 25 (late_run 2 2 0 link claimed))
claimed_begins =
    let h = holds 2 0 claimed claimed_run.4 in
    let r = taken_at false (late_run 2 2 0 link claimed) 25 claimed_run.3 in
    let long : length (r.step ∷ r.after) ≡ 191 = sym (ap length r.is) ∙ length-drop 25 (late_run 2 2 0 link claimed) ∙ ap (λ (n : ℕ). n - 25) claimed_long in
    subst (BeginsWithin false (longest_wait 2 short 3)) (sym r.is) (h.waits false 25 r.step r.after r.is (behind_frame 21 (omega arith) (h.seen_is_shared 5 21 claimed_seen)) r.accepted (omega (arith, long, bound)))

-- ---- a message accepted before both masters have a frame: it waits longer than the bound

-- the primary's message is answered in ticks 36 to 66. The secondary starts in the middle of that ACK, in tick 37, and is asked then. The primary is asked again in tick 67, and only its last retry is answered, in tick 207.
unfoldable pub early : List Calls
early =
    calls (request 20) no_request
    ∷ (replicate 34 quiet
    ++ (answers
    ∷ (quiet
    ∷ (calls no_request (request 20)
    ∷ (replicate 29 quiet
    ++ (calls (request 20) no_request
    ∷ (replicate 139 quiet
    ++ (answers
    ∷ replicate 34 quiet))))))))

-- the secondary's first character goes out in tick 239, 202 ticks behind its acceptance
pub early_run : (E.senders (late_run 2 0 37 link early)
    ≡ replicate 4 0
    ++ (replicate 31 1
    ++ (0
    ∷ (replicate 31 4
    ++ (replicate 2 0
    ++ (replicate 31 1
    ++ (replicate 4 0
    ++ (replicate 31 1
    ++ (replicate 4 0
    ++ (replicate 31 1
    ++ (replicate 4 0
    ++ (replicate 31 1
    ++ (replicate 2 0
    ++ (replicate 31 4
    ++ (0
    ∷ replicate 3 2))))))))))))))) × (off_in (late_run 2 0 37 link early) ≡ true)
unfolding off off_in early E.senders E.devices_sent E.one short link request calls answers quiet late_run late_tick device_ticks sides carried master_tick device_tick requested requested_up_to master_takes master_sends device_takes device_sends answered content_given taken taken_data at_idle at_preamble at_first at_address at_expansion at_command at_count at_data at_check silent_inside write_buffer write_answer frame_bytes preamble_bytes body_bytes protected_bytes header_bytes xor_from delimiter_of stored when◌then◌else◌
early_run = (refl, refl)

pub early_holds : LateStart 2 short 3 0 37 (late_run 2 0 37 link early)
early_holds = holds 0 37 early early_run.1

-- a master is silent for n ticks, by computing
is_silent : Sent → Bool
is_silent Sent.Silent = true
is_silent (Sent.Character c) = false

silent_for : Bool → ℕ → List LinkStep → Bool
silent_for bit zero ss = true
silent_for bit (suc n) [] = true
silent_for bit (suc n) (s ∷ ss) = when is_silent (master_in bit s).sent then silent_for bit n ss else false

silent_late : (bit : Bool) (n : ℕ) (ss : List LinkStep) → silent_for bit (suc n) ss ≡ true → BeginsWithin bit n ss → ⊥
unfolding silent_for is_silent when◌then◌else◌
silent_late bit n (s ∷ ss) e (begins m c q) = true_false (sym e ∙ (λ i. when is_silent (q i) then silent_for bit n ss else false))
silent_late bit (suc n) (s ∷ ss) e (waits q b) = silent_late bit n ss (sym (λ i. when is_silent (q i) then silent_for bit (suc n) ss else false) ∙ e) b
silent_late bit n [] e x'' = elim x'' [ ]

early_is : (taken_in false (late_run 2 0 37 link early) 37 ≡ true) × (silent_for false (suc (longest_wait 2 short 3)) (drop 37 (late_run 2 0 37 link early)) ≡ true)
unfolding early taken_in is_taken silent_for is_silent short link request calls answers quiet late_run late_tick device_ticks sides carried master_tick device_tick requested requested_up_to master_takes master_sends device_takes device_sends answered content_given taken taken_data at_idle at_preamble at_first at_address at_expansion at_command at_count at_data at_check silent_inside write_buffer write_answer frame_bytes preamble_bytes body_bytes protected_bytes header_bytes xor_from delimiter_of stored when◌then◌else◌
early_is = (refl, refl)

pub early_accepted : TakenIn false (late_run 2 0 37 link early) 37
early_accepted = taken_at false (late_run 2 0 37 link early) 37 early_is.0

pub early_waits : BeginsWithin false (longest_wait 2 short 3) (drop 37 (late_run 2 0 37 link early)) → ⊥
early_waits b = silent_late false (longest_wait 2 short 3) (drop 37 (late_run 2 0 37 link early)) early_is.1 b
