-- Runs that demand 3's premises exclude, computed, of which `sound_from_starts` speaks: two devices with one polling address answer one STX, and two devices burst; and of which `late_sound_from_starts` speaks: the secondary starts in the middle of an STX, and two devices burst. In each two parties send in one tick.
use native.Mathlib.Omega.{arith}
use mathlib.Core.Path.{◌≡◌, refl}
use mathlib.Core.List.{List, [], ◌∷◌, ◌++◌}
use lib.ListN.{replicate, drop}
use Rattle.base.specs.Choice.{when◌then◌else◌}
use Rattle.base.specs.Store.{stored}
use Rattle.frame.specs.Check.{xor_from}
use Rattle.frame.specs.Delimiter.{delimiter_of}
use Rattle.frame.specs.Frame.{frame_bytes, preamble_bytes, body_bytes, protected_bytes, header_bytes}
use Rattle.frame.specs.Write.{write_buffer, write_answer}
use Rattle.line.specs.Profile.{fsk_profile}
use Rattle.line.specs.Reader.{taken, taken_data, at_idle, at_preamble, at_first, at_address, at_expansion, at_command, at_count, at_data, at_check}
use Rattle.line.proofs.Profiles.{fsk_taken}
use Rattle.turns.specs.Master.{requested, requested_up_to, master_takes, master_sends}
use Rattle.turns.specs.Device.{device_takes, device_sends, answered, content_given}
use Rattle.turns.specs.Link.{Calls, master_tick, device_tick, device_ticks, sides, carried, link_tick, run}
use Rattle.turns.specs.Run.{none, and, device_senders}
use Rattle.turns.proofs.Example.{quiet, asks}
use Rattle.runs.specs.Late.{late_tick, late_run}
use Rattle.runs.specs.SoundPair.{run01}
use Rattle.runs.specs.LateSoundPair.{late_run01}
use Rattle.runs.proofs.Premises.{short, short_taken, ask, turn_on, content, alike, both_reply, counts, two_devices, both_burst}
use Rattle.runs.proofs.TagRuns.{starts_at, two_starts}
use Rattle.runs.proofs.SoundStarts.{late_sound_from_starts, all_now, sound_from_starts}

-- ---- two devices with one polling address

unfoldable pub both_answer : List Calls
both_answer = asks ∷ (replicate 43 quiet ++ (both_reply ∷ replicate 14 quiet))

-- the STX in ticks 33 to 42; both send their ACKs in ticks 44 to 55
pub shared_address_two : counts (run 255 alike both_answer) ≡ replicate 33 0 ++ (replicate 10 1 ++ (0 ∷ (replicate 12 2 ++ replicate 3 0)))
unfolding counts device_senders alike both_answer both_reply asks quiet run link_tick device_ticks sides carried master_tick device_tick requested requested_up_to master_takes master_sends device_takes device_sends answered content_given taken taken_data at_idle at_preamble at_first at_address at_expansion at_command at_count at_data at_check write_buffer write_answer frame_bytes preamble_bytes body_bytes protected_bytes header_bytes xor_from delimiter_of stored when◌then◌else◌
shared_address_two = refl

pub shared_address_sound : run 255 alike both_answer ≡ run01 255 alike both_answer
unfolding alike when◌then◌else◌
shared_address_sound =
    sound_from_starts 255 (omega arith) (omega arith) fsk_profile 3 alike both_answer fsk_taken (record { starts = refl; room = omega arith }) (record { starts = refl; room = omega arith })
    (and (starts_at fsk_profile 0 2 refl) (and (starts_at fsk_profile 0 3 refl) none))

-- ---- two devices burst: `two_burst` in Premises says that two send in tick 154

pub two_bursting_sound : run 255 two_devices both_burst ≡ run01 255 two_devices both_burst
two_bursting_sound = sound_from_starts 255 (omega arith) (omega arith) short 3 two_devices both_burst short_taken two_starts.primary two_starts.secondary two_starts.devices

-- ---- the same where the secondary starts in tick 7, in the middle of the STX of ticks 4 to 17

pub late_bursting_two : drop 150 (counts (late_run 255 0 7 two_devices both_burst)) ≡ 0 ∷ 0 ∷ 0 ∷ 0 ∷ 2 ∷ []
unfolding counts device_senders short two_devices ask turn_on content both_burst quiet late_run late_tick device_ticks sides carried master_tick device_tick requested requested_up_to master_takes master_sends device_takes device_sends answered content_given taken taken_data at_idle at_preamble at_first at_address at_expansion at_command at_count at_data at_check write_buffer write_answer frame_bytes preamble_bytes body_bytes protected_bytes header_bytes xor_from delimiter_of stored when◌then◌else◌
late_bursting_two = refl

pub late_bursting_sound : late_run 255 0 7 two_devices both_burst ≡ late_run01 255 0 7 two_devices both_burst
late_bursting_sound = late_sound_from_starts 255 (omega arith) (omega arith) short 3 0 7 two_devices both_burst short_taken two_starts.primary two_starts.secondary (all_now two_starts.devices)
