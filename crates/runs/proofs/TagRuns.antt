-- Runs with command 11 by broadcast, computed: one of two devices that were told it answers, and all premises are met; the device that answers bursts, and its BACK follows directly; two answer, which breaks the premise of item 6, and two send.
use Prim.Native.Nat.{ℕ, ◌+◌, ◌≤◌}
use native.Mathlib.Omega.{arith}
use mathlib.Core.Path.{◌≡◌, refl, sym, ◌∙◌}
use mathlib.Core.Bool.{Bool, true, false}
use mathlib.Core.List.{List, [], ◌∷◌, ◌++◌}
use lib.ListN.{replicate, drop}
use borrow.Author.Tests.{leb-true}
use Rattle.base.specs.Refusal.{accepted}
use Rattle.base.specs.Choice.{when◌then◌else◌, ◌≤?◌}
use Rattle.base.specs.Store.{stored}
use Rattle.base.proofs.Choices.{true_false, went_then}
use Rattle.frame.specs.Check.{xor_from}
use Rattle.frame.specs.Delimiter.{delimiter_of}
use Rattle.frame.specs.Frame.{frame_bytes, preamble_bytes, body_bytes, protected_bytes, header_bytes}
use Rattle.frame.specs.Write.{write_buffer, write_answer}
use Rattle.line.specs.Reader.{taken, taken_data, at_idle, at_preamble, at_first, at_address, at_expansion, at_command, at_count, at_data, at_check}
use Rattle.line.specs.declared.Profile.{Profile}
use Rattle.turns.specs.Master.{requested, requested_up_to, master_takes, master_sends}
use Rattle.turns.specs.Device.{device_starts, fresh_device, device_takes, device_sends, answered, content_given}
use Rattle.turns.specs.Link.{no_request, requests, no_call, gives_answer, DeviceSide, DeviceStep, Link, LinkStep, Calls, master_tick, device_tick, device_ticks, sides, carried, link_tick, link_after, run}
use Rattle.turns.specs.Run.{All, none, and, Differ, Distinct, Sole, no_one, sole_and, DeviceStarts, Starts, device_senders, EachTick, no_tick, tick_and, OneBursts, NoTwoSend}
use Rattle.turns.specs.Ledgers.{Ledger, ledgers_after, blanks, finders, OneFinds}
use Rattle.turns.specs.Ledgers as L
use Rattle.turns.specs.Demand3.{Premises}
use Rattle.runs.specs.Late.{late_tick, late_run}
use Rattle.turns.specs.declared.MasterTold.{MasterTold}
use Rattle.turns.specs.declared.MasterTold.TheVariants.{Answered, GivenUp, BroadcastSent}
use Rattle.turns.specs.declared.DeviceTold.{DeviceTold}
use Rattle.turns.specs.declared.DeviceTold.TheVariants.{Request, Broadcast}
use Rattle.turns.specs.declared.Wish.TheVariants.{Same}
use Rattle.turns.proofs.Example as E
use Rattle.turns.proofs.Example.{quiet}
use Rattle.runs.proofs.NoTwoSend.{no_two_send}
use Rattle.runs.proofs.Premises.{short, short_taken, ask, content, turn_on, two_devices, both_reply, counts}

-- ---- what a run shows, tick by tick

-- how many hosts are told a request
unfoldable pub told_request : DeviceTold → ℕ
told_request DeviceTold.Nothing = 0
told_request (Request w) = 1
told_request (Broadcast w) = 0

unfoldable pub told_in_lem : List DeviceStep → ℕ
told_in_lem [] = 0
told_in_lem (s ∷ ss) = told_request s.told + told_in_lem ss

unfoldable pub hosts_told : List LinkStep → List ℕ
hosts_told [] = []
hosts_told (s ∷ ss) = told_in_lem s.for_devices ∷ hosts_told ss

-- 1 where a message is reported as answered
unfoldable pub reported : MasterTold → ℕ
reported MasterTold.Nothing = 0
reported (Answered w) = 1
reported (GivenUp n) = 0
reported BroadcastSent = 0

unfoldable pub reports : List LinkStep → List ℕ
reports [] = []
reports (s ∷ ss) = reported s.for_primary.told ∷ reports ss

-- how many hosts' answers to the last command 11 were taken
unfoldable pub finds : List Ledger → List Calls → List LinkStep → List ℕ
finds gs [] ss = []
finds gs (c ∷ cs) [] = []
finds gs (c ∷ cs) (s ∷ ss) = finders (ledgers_after c.for_devices s.for_devices gs) ∷ finds (ledgers_after c.for_devices s.for_devices gs) cs ss

-- how many devices burst
unfoldable pub bursting : List DeviceSide → ℕ
bursting [] = 0
bursting (x ∷ xs) = (when x.device.burst then 1 else 0) + bursting xs

unfoldable pub bursts : List LinkStep → List ℕ
bursts [] = []
bursts (s ∷ ss) = bursting (sides s.for_devices) ∷ bursts ss

-- ---- at most one in every tick, computed, is what the premises ask

unfoldable pub few : List ℕ → Bool
few [] = true
few (n ∷ ns) = when n ≤? 1 then few ns else false

few_and : (n : ℕ) (ns : List ℕ) → few (n ∷ ns) ≡ true → (n ≤ 1) × (few ns ≡ true)
unfolding few
few_and n ns e = let t = went_then (n ≤? 1) (few ns) false true e (λ q. true_false (sym q)) in (leb-true n 1 t.0, t.1)

few_find : (limit : ℕ) (gs : List Ledger) (l : Link) (cs : List Calls) → few (finds gs cs (run limit l cs)) ≡ true → OneFinds gs cs (run limit l cs)
unfolding finds run
few_find limit gs l [] e = L.no_tick
few_find limit gs l (c ∷ cs) e =
    let next = ledgers_after c.for_devices (link_tick limit l c).for_devices gs in
    let t = few_and (finders next) (finds next cs (run limit (link_after (link_tick limit l c)) cs)) e in
    L.tick_and t.0 (few_find limit next (link_after (link_tick limit l c)) cs t.1)

none_burst : (xs : List DeviceSide) {Q : Type 0} → bursting xs ≤ 0 → All (λ (y : DeviceSide). Q → y.device.burst ≡ true → ⊥) xs
unfolding bursting when◌then◌else◌
none_burst [] e = none
none_burst (x ∷ xs) {Q} e = go x.device.burst refl e (λ q. none_burst xs q)
  where
    go : (b : Bool) → x.device.burst ≡ b → (when b then 1 else 0) + bursting xs ≤ 0 → (bursting xs ≤ 0 → All (λ (y : DeviceSide). Q → y.device.burst ≡ true → ⊥) xs) → All (λ (y : DeviceSide). Q → y.device.burst ≡ true → ⊥) (x ∷ xs)
    go true q e rest = absurd (omega arith)
    go false q e rest = and (λ u t. true_false (sym t ∙ q)) (rest (omega arith))

few_sole : (xs : List DeviceSide) → bursting xs ≤ 1 → Sole xs
unfolding bursting when◌then◌else◌
few_sole [] e = no_one
few_sole (x ∷ xs) e = go x.device.burst refl e (λ q. few_sole xs q) (λ q. none_burst xs q)
  where
    other : (ys : List DeviceSide) → x.device.burst ≡ false → All (λ (y : DeviceSide). x.device.burst ≡ true → y.device.burst ≡ true → ⊥) ys
    other [] q = none
    other (y ∷ ys) q = and (λ t u. true_false (sym t ∙ q)) (other ys q)

    go : (b : Bool) → x.device.burst ≡ b → (when b then 1 else 0) + bursting xs ≤ 1 → (bursting xs ≤ 1 → Sole xs) → (bursting xs ≤ 0 → All (λ (y : DeviceSide). x.device.burst ≡ true → y.device.burst ≡ true → ⊥) xs) → Sole (x ∷ xs)
    go true q e rest alone = sole_and (alone (omega arith)) (rest (omega arith))
    go false q e rest alone = sole_and (other xs q) (rest (omega arith))

few_burst : (ss : List LinkStep) → few (bursts ss) ≡ true → EachTick OneBursts ss
unfolding bursts
few_burst [] e = no_tick
few_burst (s ∷ ss) e = let t = few_and (bursting (sides s.for_devices)) (bursts ss) e in tick_and (few_sole (sides s.for_devices) t.0) (few_burst ss t.1)

-- ---- the calls

-- the primary sends command 11 by broadcast
unfoldable pub seek : Calls
seek = record { for_primary = requests (record { preamble = 5; revision = 7; long = true; address = 0; command = 11 }) []; for_secondary = no_request; for_devices = [] }

unfoldable pub second_answers : Calls
second_answers = record { for_primary = no_request; for_secondary = no_request; for_devices = no_call ∷ (gives_answer Same (0 ∷ 0 ∷ []) ∷ []) }

-- ---- one of two answers

unfoldable pub one_answers : List Calls
one_answers = seek ∷ (replicate 18 quiet ++ (second_answers ∷ replicate 17 quiet))

-- both are told it in tick 18, behind the STX of ticks 4 to 17
pub both_told : hosts_told (run 255 two_devices one_answers) ≡ replicate 18 0 ++ (2 ∷ replicate 18 0)
unfolding hosts_told told_in_lem told_request one_answers second_answers seek short two_devices quiet run link_tick device_ticks sides carried master_tick device_tick requested requested_up_to master_takes master_sends device_takes device_sends answered content_given taken taken_data at_idle at_preamble at_first at_address at_expansion at_command at_count at_data at_check write_buffer write_answer frame_bytes preamble_bytes body_bytes protected_bytes header_bytes xor_from delimiter_of stored when◌then◌else◌
both_told = refl

-- and in tick 21 where the primary starts, and is asked, in tick 3
pub both_told_late : hosts_told (late_run 255 3 0 two_devices (replicate 3 quiet ++ (seek ∷ replicate 20 quiet))) ≡ replicate 21 0 ++ (2 ∷ replicate 2 0)
unfolding hosts_told told_in_lem told_request seek short two_devices quiet late_run late_tick device_ticks sides carried master_tick device_tick requested requested_up_to master_takes master_sends device_takes device_sends answered content_given taken taken_data at_idle at_preamble at_first at_address at_expansion at_command at_count at_data at_check write_buffer write_answer frame_bytes preamble_bytes body_bytes protected_bytes header_bytes xor_from delimiter_of stored when◌then◌else◌
both_told_late = refl

-- one sends its ACK, in ticks 19 to 34
pub one_found : E.senders (run 255 two_devices one_answers) ≡ replicate 4 0 ++ (replicate 14 1 ++ (0 ∷ (replicate 16 4 ++ (0 ∷ 0 ∷ []))))
unfolding E.senders E.devices_sent E.one one_answers second_answers seek short two_devices quiet run link_tick device_ticks sides carried master_tick device_tick requested requested_up_to master_takes master_sends device_takes device_sends answered content_given taken taken_data at_idle at_preamble at_first at_address at_expansion at_command at_count at_data at_check write_buffer write_answer frame_bytes preamble_bytes body_bytes protected_bytes header_bytes xor_from delimiter_of stored when◌then◌else◌
one_found = refl

-- and the primary reports its message as answered in tick 35
pub one_reported : reports (run 255 two_devices one_answers) ≡ replicate 35 0 ++ (1 ∷ 0 ∷ [])
unfolding reports reported one_answers second_answers seek short two_devices quiet run link_tick device_ticks sides carried master_tick device_tick requested requested_up_to master_takes master_sends device_takes device_sends answered content_given taken taken_data at_idle at_preamble at_first at_address at_expansion at_command at_count at_data at_check write_buffer write_answer frame_bytes preamble_bytes body_bytes protected_bytes header_bytes xor_from delimiter_of stored when◌then◌else◌
one_reported = refl

abbrev pub device_at : Profile → ℕ → ℕ → DeviceSide
device_at p polling unique = record { device = fresh_device p 5 polling unique; frame = replicate 284 0; bytes = replicate 255 0; contents = replicate 255 0 }

pub starts_at : (p : Profile) (polling unique : ℕ) → device_starts p 5 polling unique ≡ accepted (fresh_device p 5 polling unique) → DeviceStarts p (device_at p polling unique)
starts_at p polling unique e = record { preamble = 5; polling = polling; unique = unique; starts = e; room = omega arith; content_room = omega arith }

differ : Differ (device_at short 0 2) (device_at short 1 3)
differ = record { polling_differs = λ e. omega (arith, e); unique_differs = λ e. omega (arith, e) }

pub two_starts : Starts short 3 two_devices
unfolding two_devices when◌then◌else◌
two_starts = record {
  primary = record { starts = refl; room = omega arith };
  secondary = record { starts = refl; room = omega arith };
  devices = and (starts_at short 0 2 refl) (and (starts_at short 1 3 refl) none);
  distinct = Distinct.and (and differ none) (Distinct.and none Distinct.none);
}

-- all premises are met, so that demand 3 speaks of this run
pub one_meets : Premises 255 short 3 two_devices one_answers
unfolding few finds finders ledgers_after blanks bursts bursting one_answers second_answers seek short two_devices quiet run link_tick device_ticks sides carried master_tick device_tick requested requested_up_to master_takes master_sends device_takes device_sends answered content_given taken taken_data at_idle at_preamble at_first at_address at_expansion at_command at_count at_data at_check write_buffer write_answer frame_bytes preamble_bytes body_bytes protected_bytes header_bytes xor_from delimiter_of stored when◌then◌else◌
one_meets = record {
  made = short_taken;
  starts = two_starts;
  one_bursts = few_burst (run 255 two_devices one_answers) refl;
  one_finds = few_find 255 (blanks two_devices.devices) two_devices one_answers refl;
}

pub one_alone : EachTick NoTwoSend (run 255 two_devices one_answers)
one_alone = no_two_send 255 (omega arith) (omega arith) short 3 two_devices one_answers one_meets

-- ---- the one that answers bursts

unfoldable pub first_answers : Calls
first_answers = record { for_primary = no_request; for_secondary = no_request; for_devices = gives_answer Same (0 ∷ 0 ∷ []) ∷ [] }

-- the first device turns burst on with an answer of its own, then its host answers a command 11
unfoldable pub burster_answers : List Calls
burster_answers =
    ask 2 (content ∷ [])
    ∷ (replicate 18 quiet
    ++ (record { for_primary = no_request; for_secondary = no_request; for_devices = turn_on ∷ [] }
    ∷ (replicate 16 quiet
    ++ (seek
    ∷ (replicate 48 quiet
    ++ (first_answers
    ∷ replicate 33 quiet))))))

-- the STX in ticks 70 to 83; the ACK in ticks 85 to 100, and directly behind it the BACK
pub back_behind : drop 69 (E.senders (run 255 two_devices burster_answers)) ≡ 0 ∷ (replicate 14 1 ++ (0 ∷ (replicate 32 4 ++ (0 ∷ 0 ∷ []))))
unfolding E.senders E.devices_sent E.one burster_answers first_answers seek ask content turn_on short two_devices quiet run link_tick device_ticks sides carried master_tick device_tick requested requested_up_to master_takes master_sends device_takes device_sends answered content_given taken taken_data at_idle at_preamble at_first at_address at_expansion at_command at_count at_data at_check write_buffer write_answer frame_bytes preamble_bytes body_bytes protected_bytes header_bytes xor_from delimiter_of stored when◌then◌else◌
back_behind = refl

-- the primary reports it as answered in tick 101
pub burster_reported : drop 84 (reports (run 255 two_devices burster_answers)) ≡ replicate 17 0 ++ (1 ∷ replicate 17 0)
unfolding reports reported burster_answers first_answers seek ask content turn_on short two_devices quiet run link_tick device_ticks sides carried master_tick device_tick requested requested_up_to master_takes master_sends device_takes device_sends answered content_given taken taken_data at_idle at_preamble at_first at_address at_expansion at_command at_count at_data at_check write_buffer write_answer frame_bytes preamble_bytes body_bytes protected_bytes header_bytes xor_from delimiter_of stored when◌then◌else◌
burster_reported = refl

pub burster_meets : Premises 255 short 3 two_devices burster_answers
unfolding few finds finders ledgers_after blanks bursts bursting burster_answers first_answers seek ask content turn_on short two_devices quiet run link_tick device_ticks sides carried master_tick device_tick requested requested_up_to master_takes master_sends device_takes device_sends answered content_given taken taken_data at_idle at_preamble at_first at_address at_expansion at_command at_count at_data at_check write_buffer write_answer frame_bytes preamble_bytes body_bytes protected_bytes header_bytes xor_from delimiter_of stored when◌then◌else◌
burster_meets = record {
  made = short_taken;
  starts = two_starts;
  one_bursts = few_burst (run 255 two_devices burster_answers) refl;
  one_finds = few_find 255 (blanks two_devices.devices) two_devices burster_answers refl;
}

-- ---- two answer

unfoldable pub two_answer : List Calls
two_answer = seek ∷ (replicate 18 quiet ++ (both_reply ∷ []))

-- the premise does not hold of tick 19
pub two_find : finds (blanks two_devices.devices) two_answer (run 255 two_devices two_answer) ≡ replicate 19 0 ++ (2 ∷ [])
unfolding finds finders ledgers_after blanks two_answer seek short two_devices both_reply quiet run link_tick device_ticks sides carried master_tick device_tick requested requested_up_to master_takes master_sends device_takes device_sends answered content_given taken taken_data at_idle at_preamble at_first at_address at_expansion at_command at_count at_data at_check write_buffer write_answer frame_bytes preamble_bytes body_bytes protected_bytes header_bytes xor_from delimiter_of stored when◌then◌else◌
two_find = refl

-- and two send in it
pub two_send : counts (run 255 two_devices two_answer) ≡ replicate 4 0 ++ (replicate 14 1 ++ (0 ∷ 2 ∷ []))
unfolding counts device_senders two_answer seek short two_devices both_reply quiet run link_tick device_ticks sides carried master_tick device_tick requested requested_up_to master_takes master_sends device_takes device_sends answered content_given taken taken_data at_idle at_preamble at_first at_address at_expansion at_command at_count at_data at_check write_buffer write_answer frame_bytes preamble_bytes body_bytes protected_bytes header_bytes xor_from delimiter_of stored when◌then◌else◌
two_send = refl
