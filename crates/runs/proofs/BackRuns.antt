-- A BACK in a run, computed: the host gives another content while it goes out, and the primary finds it whole with the content from before its first character.
use Prim.Native.Nat.{ℕ}
use native.Mathlib.Omega.{arith}
use mathlib.Core.Path.{◌≡◌, refl}
use mathlib.Core.Bool.{true}
use mathlib.Core.List.{List, [], ◌∷◌, ◌++◌}
use lib.ListN.{replicate, get_or}
use Rattle.base.specs.Choice.{when◌then◌else◌}
use Rattle.base.specs.Store.{stored}
use Rattle.frame.specs.Check.{xor_from}
use Rattle.frame.specs.Delimiter.{back, delimiter_of}
use Rattle.frame.specs.Frame.{frame_bytes, preamble_bytes, body_bytes, protected_bytes, header_bytes}
use Rattle.frame.specs.Write.{write_buffer, write_answer}
use Rattle.line.specs.Reader.{taken, taken_data, at_idle, at_preamble, at_first, at_address, at_expansion, at_command, at_count, at_data, at_check}
use Rattle.line.specs.declared.Event.TheVariants.{Frame}
use Rattle.turns.specs.Master.{requested, requested_up_to, master_takes, master_sends}
use Rattle.turns.specs.Device.{device_takes, device_sends, answered, content_given}
use Rattle.turns.specs.Link.{no_request, DeviceCall, gives_content, Link, Calls, master_tick, device_tick, device_ticks, sides, carried, link_tick, link_after}
use Rattle.turns.specs.Ledgers.{blanks}
use Rattle.runs.specs.Backs.{no_content, content, ContentLog, content_logs_after, no_contents, found_by, EachBack}
use Rattle.runs.proofs.Backs.{backs_in_a_run}
use Rattle.runs.proofs.CreditRuns.{link_behind}
use Rattle.turns.proofs.Example.{quiet}
use Rattle.runs.proofs.Premises as P
use Rattle.runs.proofs.Premises.{short, short_taken, ask, turn_on, one_device, one_device_starts, lone, lone_finds}

-- the logs behind a list of ticks
unfoldable pub logs_behind : ℕ → List ContentLog → Link → List Calls → List ContentLog
logs_behind limit gs l [] = gs
logs_behind limit gs l (c ∷ cs) = logs_behind limit (content_logs_after c.for_devices (link_tick limit l c).for_devices gs) (link_after (link_tick limit l c)) cs

unfoldable pub host_gives : DeviceCall → Calls
host_gives c = record { for_primary = no_request; for_secondary = no_request; for_devices = c ∷ [] }

-- the host turns burst on with its answer; the ACK goes out in ticks 19 to 34, and directly behind it the BACK, in ticks 35 to 50. In tick 40 the host gives another content.
unfoldable pub content_changed : List Calls
content_changed = ask 2 (P.content ∷ []) ∷ (replicate 18 quiet ++ (host_gives turn_on ∷ (replicate 20 quiet ++ (host_gives (gives_content 9 (1 ∷ 2 ∷ [])) ∷ replicate 10 quiet))))

-- what it gave last before the BACK's first character, the sixteenth from the last
pub given_before : get_or (get_or (logs_behind 255 (no_contents one_device.devices) one_device content_changed) 0 (record { last = no_content; sent_with = [] })).sent_with 15 no_content ≡ content 3 (0 ∷ 0 ∷ [])
unfolding logs_behind content_logs_after no_contents content_changed host_gives ask P.content turn_on short one_device quiet link_tick device_ticks sides carried master_tick device_tick requested requested_up_to master_takes master_sends device_takes device_sends answered content_given taken taken_data at_idle at_preamble at_first at_address at_expansion at_command at_count at_data at_check write_buffer write_answer frame_bytes preamble_bytes body_bytes protected_bytes header_bytes xor_from delimiter_of stored when◌then◌else◌
given_before = refl

-- and at all
pub given_last : (get_or (logs_behind 255 (no_contents one_device.devices) one_device content_changed) 0 (record { last = no_content; sent_with = [] })).last ≡ content 9 (1 ∷ 2 ∷ [])
unfolding logs_behind content_logs_after no_contents content_changed host_gives ask P.content turn_on short one_device quiet link_tick device_ticks sides carried master_tick device_tick requested requested_up_to master_takes master_sends device_takes device_sends answered content_given taken taken_data at_idle at_preamble at_first at_address at_expansion at_command at_count at_data at_check write_buffer write_answer frame_bytes preamble_bytes body_bytes protected_bytes header_bytes xor_from delimiter_of stored when◌then◌else◌
given_last = refl

-- in tick 51 the primary finds the BACK whole
pub found_whole : found_by (link_behind 255 one_device content_changed).primary (link_behind 255 one_device content_changed).line
    ≡ Frame (record { header = record { kind = back; long = true; primary = true; burst = true; address = 2; command = 3 }; expansion = 0; count = 2 })
unfolding link_behind content_changed host_gives ask P.content turn_on short one_device quiet link_tick device_ticks sides carried master_tick device_tick requested requested_up_to master_takes master_sends device_takes device_sends answered content_given taken taken_data at_idle at_preamble at_first at_address at_expansion at_command at_count at_data at_check write_buffer write_answer frame_bytes preamble_bytes body_bytes protected_bytes header_bytes xor_from delimiter_of stored when◌then◌else◌
found_whole = refl

-- the run meets the premises
pub content_credited : EachBack 255 (no_contents one_device.devices) one_device (content_changed ++ (quiet ∷ []))
unfolding one_device blanks
content_credited =
    backs_in_a_run 255 (omega arith) (omega arith) short 3 one_device (content_changed ++ (quiet ∷ []))
    (record { made = short_taken; starts = one_device_starts; one_bursts = lone 255 one_device _ (content_changed ++ (quiet ∷ [])) refl; one_finds = lone_finds 255 _ one_device (content_changed ++ (quiet ∷ [])) (omega arith) })
    (omega arith) (omega arith)
