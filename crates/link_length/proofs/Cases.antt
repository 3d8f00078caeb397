-- Computed: document 02's numbers for both profiles, the order of the refusals, a run that the owner's wait speaks of, and one that breaks it with more data.
use Prim.Native.Nat.{ℕ, ◌+◌, ◌-◌}
use native.Mathlib.Omega.{arith}
use mathlib.Core.Path.{◌≡◌, refl, sym}
use mathlib.Core.Bool.{true, false}
use mathlib.Core.List.{List, [], ◌∷◌, ◌++◌}
use lib.ListN.{replicate}
use Rattle.base.specs.Choice.{when◌then◌else◌}
use Rattle.base.specs.Refusal.{Called, accepted, refused}
use Rattle.base.specs.Store.{stored}
use Rattle.base.proofs.Choices.{true_false}
use Rattle.frame.specs.Check.{xor_from}
use Rattle.frame.specs.Delimiter.{delimiter_of}
use Rattle.frame.specs.Frame.{frame_bytes, preamble_bytes, body_bytes, protected_bytes, header_bytes}
use Rattle.frame.specs.Write.{write_buffer, write_answer}
use Rattle.line.specs.Profile.{fsk_profile, c8psk_profile}
use Rattle.line.specs.Reader.{taken, taken_data, at_idle, at_preamble, at_first, at_address, at_expansion, at_command, at_count, at_data, at_check}
use Rattle.line.specs.declared.Profile.{Profile}
use Rattle.turns.specs.Master.{requested, requested_up_to, master_takes, master_sends}
use Rattle.turns.specs.Device.{device_takes, device_sends, answered, content_given}
use Rattle.turns.specs.Link.{no_request, requests, Calls, master_tick, device_tick, device_ticks, sides, carried, link_tick, link_after, run}
use Rattle.turns.specs.Run.{none, and}
use Rattle.turns.specs.Ledgers.{blanks}
use Rattle.turns.specs.Demand3.{Premises, BeginsWithin, NoneBursts, until_it_begins, and_on}
use Rattle.turns.specs.declared.CallResult.{CallResult}
use Rattle.turns.proofs.Example as E
use Rattle.turns.proofs.Example.{quiet}
use Rattle.runs.proofs.Premises.{short, one_device, one_device_starts, short_taken, lone, lone_finds}
use Rattle.runs.proofs.Wait.{run_length}
use Rattle.link_length.specs.Length.{largest_from, data_length, wait_for}
use Rattle.link_length.proofs.Claims.{owner_waits}

-- ---- the length for each wait, with R 3

unfoldable pub lengths_for : Profile → List ℕ → List (Called ℕ)
lengths_for p [] = []
lengths_for p (w ∷ ws) = data_length p 3 w ∷ lengths_for p ws

-- each byte more costs 5 ticks
pub fsk_lengths : lengths_for fsk_profile (0 ∷ 364 ∷ 365 ∷ 369 ∷ 370 ∷ 1629 ∷ 1630 ∷ 4294967295 ∷ [])
    ≡ refused 26 ∷ refused 26 ∷ accepted 2 ∷ accepted 2 ∷ accepted 3 ∷ accepted 254 ∷ accepted 255 ∷ accepted 255 ∷ []
unfolding lengths_for largest_from when◌then◌else◌
fsk_lengths = refl

pub c8psk_lengths : lengths_for c8psk_profile (441 ∷ 442 ∷ 1706 ∷ 1707 ∷ []) ≡ refused 26 ∷ accepted 2 ∷ accepted 254 ∷ accepted 255 ∷ []
unfolding lengths_for largest_from when◌then◌else◌
c8psk_lengths = refl

-- ---- the wait for each length, with R 3

unfoldable pub waits_for : Profile → List ℕ → List (Called ℕ)
waits_for p [] = []
waits_for p (n ∷ ns) = wait_for p 3 n false ∷ wait_for p 3 n true ∷ waits_for p ns

-- without and with a bursting device
pub fsk_waits : waits_for fsk_profile (1 ∷ 2 ∷ 255 ∷ 256 ∷ [])
    ≡ refused 9 ∷ refused 9 ∷ accepted 365 ∷ accepted 546 ∷ accepted 1630 ∷ accepted 2823 ∷ refused 9 ∷ refused 9 ∷ []
unfolding waits_for when◌then◌else◌
fsk_waits = refl

pub c8psk_waits : waits_for c8psk_profile (2 ∷ 255 ∷ []) ≡ accepted 442 ∷ accepted 650 ∷ accepted 1707 ∷ accepted 2927 ∷ []
unfolding waits_for when◌then◌else◌
c8psk_waits = refl

-- ---- the order of the refusals

-- RT1 secondary is not RT1 primary + RT2
unfoldable pub bad : Profile
bad = record { sto = 28; hold = 2; rt2 = 8; rt1p = 33; rt1s = 40 }

pub profile_first : data_length bad 2 0 ≡ refused 1
unfolding bad when◌then◌else◌
profile_first = refl

pub retries_next : data_length fsk_profile 2 0 ≡ refused 2
unfolding when◌then◌else◌
retries_next = refl

pub wait_profile_first : wait_for bad 16 0 false ≡ refused 1
unfolding bad when◌then◌else◌
wait_profile_first = refl

pub wait_retries_next : wait_for fsk_profile 16 0 false ≡ refused 2
unfolding when◌then◌else◌
wait_retries_next = refl

-- ---- the owner's wait, with short timers and R 3: for 187 ticks the length is 2

pub short_length : data_length short 3 187 ≡ accepted 2
unfolding short largest_from when◌then◌else◌
short_length = refl

-- in tick 0 the primary asks a device, which does not answer; the message begins in tick 4
unfoldable pub asked : Calls
asked = record { for_primary = requests (record { preamble = 5; revision = 7; long = true; address = 2; command = 3 }) []; for_secondary = no_request; for_devices = [] }

unfoldable pub ticks : List Calls
ticks = asked ∷ replicate 200 quiet

none_bursts : NoneBursts true (run 2 one_device ticks)
unfolding ticks asked quiet short one_device run link_tick device_ticks sides carried master_tick device_tick requested requested_up_to master_takes master_sends device_takes device_sends answered content_given taken taken_data at_idle at_preamble at_first at_address at_expansion at_command at_count at_data at_check write_buffer write_answer frame_bytes preamble_bytes body_bytes protected_bytes header_bytes xor_from delimiter_of stored when◌then◌else◌
none_bursts =
    and_on (and (λ e. true_false (sym e)) none) (and_on (and (λ e. true_false (sym e)) none) (and_on (and (λ e. true_false (sym e)) none) (and_on (and (λ e. true_false (sym e)) none)
    (until_it_begins 0xFF (and (λ e. true_false (sym e)) none) refl))))

within_premises : Premises 2 short 3 one_device ticks
unfolding one_device blanks
within_premises = record { made = short_taken; starts = one_device_starts; one_bursts = lone 2 one_device _ ticks refl; one_finds = lone_finds 2 _ one_device ticks (omega arith) }

-- so it is claimed that the message begins within 187 ticks of tick 6, RT1 secondary
pub owner_begins : BeginsWithin true ((short.rt1s - 0) + 187) (run 2 one_device ticks)
unfolding run ticks asked quiet short one_device link_tick master_tick requested requested_up_to master_takes master_sends when◌then◌else◌
owner_begins =
    owner_waits short 3 187 2 short_length one_device ticks within_premises true 0 _ _ refl refl none_bursts
    (omega (arith, run_length 2 (link_after (link_tick 2 one_device asked)) (replicate 200 quiet)))

-- ---- with more data the wait does not hold

-- the primary asks with 255 data bytes, and the secondary asks too
unfoldable pub long_ask : Calls
long_ask = record {
  for_primary = requests (record { preamble = 20; revision = 7; long = true; address = 2; command = 3 }) (replicate 255 0);
  for_secondary = requests (record { preamble = 5; revision = 7; long = true; address = 2; command = 3 }) [];
  for_devices = [];
}

-- on the link with the length for this wait that is 6
pub long_refused : (link_tick 2 one_device long_ask).for_primary.result ≡ CallResult.Refused 6
unfolding long_ask one_device short run link_tick device_ticks sides carried master_tick device_tick requested requested_up_to master_takes master_sends device_takes device_sends answered content_given taken taken_data at_idle at_preamble at_first at_address at_expansion at_command at_count at_data at_check write_buffer write_answer frame_bytes preamble_bytes body_bytes protected_bytes header_bytes xor_from delimiter_of stored when◌then◌else◌
long_refused = refl

-- on one without a limit the primary still sends in tick 193, in which the secondary's message was due
pub long_sends : E.senders (run 255 one_device (long_ask ∷ replicate 193 quiet)) ≡ replicate 4 0 ++ replicate 190 1
unfolding E.senders E.devices_sent E.one long_ask quiet one_device short run link_tick device_ticks sides carried master_tick device_tick requested requested_up_to master_takes master_sends device_takes device_sends answered content_given taken taken_data at_idle at_preamble at_first at_address at_expansion at_command at_count at_data at_check write_buffer write_answer frame_bytes preamble_bytes body_bytes protected_bytes header_bytes xor_from delimiter_of stored when◌then◌else◌
long_sends = refl
