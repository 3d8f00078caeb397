-- Document 01's worked run, computed: the primary's STX goes out in ticks 33 to 42, and the device's ACK in ticks 44 to 55.
use Prim.Native.Nat.{ℕ, ◌+◌}
use mathlib.Core.Path.{◌≡◌, refl}
use mathlib.Core.Bool.{true, false}
use mathlib.Core.List.{List, [], ◌∷◌, ◌++◌}
use lib.ListN.{replicate}
use Rattle.base.specs.Choice.{when◌then◌else◌}
use Rattle.base.specs.Store.{stored}
use Rattle.frame.specs.Check.{xor_from}
use Rattle.frame.specs.Delimiter.{delimiter_of}
use Rattle.frame.specs.Frame.{frame_bytes, preamble_bytes, body_bytes, protected_bytes, header_bytes}
use Rattle.frame.specs.Write.{write_buffer, write_answer}
use Rattle.line.specs.Profile.{fsk_profile}
use Rattle.line.specs.Reader.{taken, taken_data, at_idle, at_preamble, at_first, at_address, at_expansion, at_command, at_count, at_data, at_check}
use Rattle.line.specs.declared.Heard.TheVariants.{Silence}
use Rattle.turns.specs.Master.{fresh_master, requested, requested_up_to, master_takes, master_sends}
use Rattle.turns.specs.Device.{fresh_device, device_takes, device_sends, answered, content_given}
use Rattle.turns.specs.Link.{no_request, requests, gives_answer, Link, LinkStep, Calls, DeviceStep, master_tick, device_tick, device_ticks, sides, carried, link_tick, run}
use Rattle.turns.specs.declared.Sent.{Sent}
use Rattle.turns.specs.declared.Sent.TheVariants.{Silent, Character}
use Rattle.turns.specs.declared.Wish.TheVariants.{Same}

unfoldable pub fresh : Link
fresh = record {
  primary = record { master = fresh_master fsk_profile true 3; frame = replicate 284 0; bytes = replicate 255 0 };
  secondary = record { master = fresh_master fsk_profile false 3; frame = replicate 284 0; bytes = replicate 255 0 };
  devices = record { device = fresh_device fsk_profile 5 0 2; frame = replicate 284 0; bytes = replicate 255 0; contents = replicate 255 0 } ∷ [];
  line = Silence;
}

unfoldable pub quiet : Calls
quiet = record { for_primary = no_request; for_secondary = no_request; for_devices = [] }

unfoldable pub asks : Calls
asks = record { for_primary = requests (record { preamble = 5; revision = 7; long = false; address = 0; command = 0 }) []; for_secondary = no_request; for_devices = [] }

pub replies : Calls
replies = record { for_primary = no_request; for_secondary = no_request; for_devices = gives_answer Same (0 ∷ 0 ∷ []) ∷ [] }

unfoldable pub ticks : List Calls
ticks = asks ∷ (replicate 43 quiet ++ (replies ∷ replicate 15 quiet))

unfoldable pub one : Sent → ℕ → ℕ
one Silent n = 0
one (Character c) n = n

unfoldable pub devices_sent : List DeviceStep → ℕ
devices_sent [] = 0
devices_sent (s ∷ ss) = one s.sent 4 + devices_sent ss

unfoldable pub senders : List LinkStep → List ℕ
senders [] = []
senders (s ∷ ss) = (one s.for_primary.sent 1 + one s.for_secondary.sent 2 + devices_sent s.for_devices) ∷ senders ss

pub worked_run : senders (run 255 fresh ticks) ≡ replicate 33 0 ++ (replicate 10 1 ++ (0 ∷ (replicate 12 4 ++ replicate 4 0)))
unfolding senders devices_sent one ticks replies asks quiet fresh run link_tick device_ticks sides carried master_tick device_tick requested requested_up_to master_takes master_sends device_takes device_sends answered content_given taken taken_data at_idle at_preamble at_first at_address at_expansion at_command at_count at_data at_check write_buffer write_answer frame_bytes preamble_bytes body_bytes protected_bytes header_bytes xor_from delimiter_of stored when◌then◌else◌
worked_run = refl
