-- Runs over bytes, computed. One meets the premises: the numbers that are written of it, an answer that is reported in it and a BACK that is found whole, of which the contract speaks. In the other two devices have one polling address, and a number tells of two senders.
use Prim.Native.Nat.{ℕ, ◌*◌}
use native.Mathlib.Omega.{arith}
use mathlib.Core.Path.{◌≡◌, refl}
use mathlib.Core.Bool.{true, false}
use mathlib.Core.List.{List, [], ◌∷◌, ◌++◌}
use lib.ListN.{length, take, get_or, replicate}
use Rattle.std.specs.Prelude.{Option, Some, None}
use Rattle.base.specs.Refusal.{accepted}
use Rattle.base.specs.Choice.{when◌then◌else◌}
use Rattle.base.specs.Store.{stored}
use Rattle.frame.specs.Check.{xor_from}
use Rattle.frame.specs.Delimiter.{ack, back, delimiter_of}
use Rattle.frame.specs.Frame.{frame_bytes, preamble_bytes, body_bytes, protected_bytes, header_bytes}
use Rattle.frame.specs.Write.{write_buffer, write_answer}
use Rattle.line.specs.Reader.{taken, taken_data, at_idle, at_preamble, at_first, at_address, at_expansion, at_command, at_count, at_data, at_check}
use Rattle.line.specs.declared.Event.TheVariants.{Frame}
use Rattle.line.specs.declared.Heard.TheVariants.{Silence}
use Rattle.turns.specs.Master.{fresh_master, requested, requested_up_to, master_takes, master_sends}
use Rattle.turns.specs.Device.{fresh_device, device_takes, device_sends, answered, content_given}
use Rattle.turns.specs.Link.{no_request, Calls, master_tick, device_tick, device_ticks, sides, carried, link_tick, run}
use Rattle.turns.specs.Run.{none, Distinct, device_senders}
use Rattle.turns.specs.Ledgers.{blanks}
use Rattle.runs.specs.Credit.{none_asked, EachCredited}
use Rattle.runs.specs.Backs.{no_contents, found_by, EachBack}
use Rattle.turns.specs.declared.MasterTold.TheVariants.{Answered}
use Rattle.runs.proofs.CreditRuns.{link_behind}
use Rattle.runs.proofs.Premises.{short, short_taken, lone, lone_finds}
use Rattle.link_parties.specs.Stands.{devices_from}
use Rattle.link_parties.specs.declared.Link.{Link}
use Rattle.link_start.specs.Fresh.{lent_fresh}
use Rattle.link_start.specs.Start.{absent, devices_start, limited_starts}
use Rattle.link_start.specs.declared.Setting.{Setting}
use Rattle.link_list.specs.Ticks.{behind_call, behind, slots_in, calls_in, ticks_from}
use Rattle.link_run.specs.Run.{numbers_of, steps_of, devices_by, calls_by, RunPremises}
use Rattle.link_run.proofs.Kept.{credit_kept, backs_kept}

-- ---- one device, which answers and bursts

-- a slot without a device
abbrev nobody : Option Setting
nobody = None

unfoldable pub one_slot : List (Option Setting)
one_slot = Some (record { preamble = 5; polling = 0; unique = 2 }) ∷ replicate 5 nobody

unfoldable pub link : Link
link = record {
  masters = fresh_master short true 3 ∷ fresh_master short false 3 ∷ [];
  devices = Some (fresh_device short 5 0 2) ∷ replicate 5 absent;
  line = Silence;
}

-- so many ticks without a call
abbrev pub quiet : ℕ → List ℕ
quiet n = replicate (8 * n) 0

-- in tick 0 the primary asks the device with the unique address 2, of revision 7, for command 3, and its host gives burst content; in tick 19 the host answers, and turns burst on
unfoldable pub bytes : List ℕ
bytes =
    (30 ∷ 5 ∷ 3 ∷ 0 ∷ 0 ∷ 0 ∷ 0 ∷ 2 ∷ 0 ∷ 0 ∷ []) ++ ((0 ∷ []) ++ ((4 ∷ 0 ∷ 3 ∷ 0 ∷ 0 ∷ 0 ∷ 0 ∷ 0 ∷ 0 ∷ 2 ∷ 0 ∷ 0 ∷ []) ++ (replicate 5 0 ++ (quiet 18
    ++ ((0 ∷ 0 ∷ []) ++ ((2 ∷ 0 ∷ 0 ∷ 0 ∷ 0 ∷ 0 ∷ 0 ∷ 0 ∷ 0 ∷ 2 ∷ 0 ∷ 0 ∷ []) ++ (replicate 5 0 ++ quiet 32)))))))

-- 16: the primary's request is taken. It sends in ticks 4 to 17, 65; the device its ACK and a BACK from tick 19 to 50, 1.
pub numbers_are : numbers_of (steps_of 255 short 3 one_slot bytes) ≡ 16 ∷ (replicate 3 0 ++ (replicate 14 65 ++ (0 ∷ (replicate 32 1 ++ (0 ∷ [])))))
unfolding numbers_of steps_of limited_starts one_slot bytes short devices_start devices_from ticks_from calls_in slots_in behind behind_call run device_senders link_tick device_ticks sides carried master_tick device_tick requested requested_up_to master_takes master_sends device_takes device_sends answered content_given taken taken_data at_idle at_preamble at_first at_address at_expansion at_command at_count at_data at_check write_buffer write_answer frame_bytes preamble_bytes body_bytes protected_bytes header_bytes xor_from delimiter_of stored when◌then◌else◌
numbers_are = refl

pub started : limited_starts 255 short 3 one_slot ≡ accepted link
unfolding one_slot link short limited_starts devices_start when◌then◌else◌
started = refl

-- its calls, tick by tick
abbrev pub calls : List Calls
calls = calls_by (accepted link) bytes

abbrev pub silent : Calls
silent = record { for_primary = no_request; for_secondary = no_request; for_devices = [] }

-- in tick 35 the primary reports its message as answered
pub reported : (link_tick 255 (link_behind 255 (lent_fresh link) (take 35 calls)) (get_or calls 35 silent)).for_primary.told
    ≡ Answered (record { header = record { kind = ack; long = true; primary = true; burst = true; address = 2; command = 3 }; expansion = 0; count = 2 })
unfolding link_behind link bytes short devices_from ticks_from calls_in slots_in behind behind_call link_tick device_ticks sides carried master_tick device_tick requested requested_up_to master_takes master_sends device_takes device_sends answered content_given taken taken_data at_idle at_preamble at_first at_address at_expansion at_command at_count at_data at_check write_buffer write_answer frame_bytes preamble_bytes body_bytes protected_bytes header_bytes xor_from delimiter_of stored when◌then◌else◌
reported = refl

-- in tick 51 it finds the BACK whole
pub back_found : found_by (link_behind 255 (lent_fresh link) (take 51 calls)).primary (link_behind 255 (lent_fresh link) (take 51 calls)).line
    ≡ Frame (record { header = record { kind = back; long = true; primary = true; burst = true; address = 2; command = 3 }; expansion = 0; count = 2 })
unfolding link_behind link bytes short devices_from ticks_from calls_in slots_in behind behind_call link_tick device_ticks sides carried master_tick device_tick requested requested_up_to master_takes master_sends device_takes device_sends answered content_given taken taken_data at_idle at_preamble at_first at_address at_expansion at_command at_count at_data at_check write_buffer write_answer frame_bytes preamble_bytes body_bytes protected_bytes header_bytes xor_from delimiter_of stored when◌then◌else◌
back_found = refl

-- it meets the premises
pub met : RunPremises 255 short 3 one_slot bytes
unfolding steps_of limited_starts one_slot link short devices_start devices_from blanks when◌then◌else◌
met = record {
  made = short_taken;
  distinct = Distinct.and none Distinct.none;
  one_bursts = lone 255 (lent_fresh link) _ calls refl;
  one_finds = lone_finds 255 _ (lent_fresh link) calls (omega arith);
}

six_settings : length one_slot ≡ 6
unfolding one_slot
six_settings = refl

-- so the contract speaks of them
pub run_credited : EachCredited 255 none_asked (blanks (devices_by (accepted link))) (lent_fresh link) calls
run_credited = credit_kept 255 short 3 one_slot six_settings bytes met link started

pub run_backs : EachBack 255 (no_contents (devices_by (accepted link))) (lent_fresh link) calls
run_backs = backs_kept 255 short 3 one_slot six_settings bytes met link started

-- ---- two devices with one polling address

unfoldable pub alike : List (Option Setting)
alike = Some (record { preamble = 5; polling = 0; unique = 2 }) ∷ Some (record { preamble = 5; polling = 0; unique = 3 }) ∷ replicate 4 nobody

-- in tick 0 the primary asks the polling address 0 of a device of revision 7 for command 0; in tick 15 both hosts answer
unfoldable pub both_reply : List ℕ
both_reply =
    (29 ∷ 5 ∷ 0 ∷ 0 ∷ 0 ∷ 0 ∷ 0 ∷ 0 ∷ 0 ∷ 0 ∷ []) ++ (replicate 7 0 ++ (quiet 14
    ++ ((0 ∷ 0 ∷ []) ++ ((1 ∷ 0 ∷ 0 ∷ 0 ∷ 0 ∷ 0 ∷ 0 ∷ 0 ∷ 0 ∷ 2 ∷ 0 ∷ 0 ∷ []) ++ ((1 ∷ 0 ∷ 0 ∷ 0 ∷ 0 ∷ 0 ∷ 0 ∷ 0 ∷ 0 ∷ 2 ∷ 0 ∷ 0 ∷ []) ++ replicate 4 0)))))

-- the number of tick 15 tells of two senders
pub two_told : numbers_of (steps_of 255 short 3 alike both_reply) ≡ 16 ∷ (replicate 3 0 ++ (replicate 10 65 ++ (0 ∷ 2 ∷ [])))
unfolding numbers_of steps_of limited_starts alike both_reply short devices_start devices_from ticks_from calls_in slots_in behind behind_call run device_senders link_tick device_ticks sides carried master_tick device_tick requested requested_up_to master_takes master_sends device_takes device_sends answered content_given taken taken_data at_idle at_preamble at_first at_address at_expansion at_command at_count at_data at_check write_buffer write_answer frame_bytes preamble_bytes body_bytes protected_bytes header_bytes xor_from delimiter_of stored when◌then◌else◌
two_told = refl
