-- Computed scenes at the ticks where document 02, item 13, turns: T+52 and T+53, T+87 and T+88; 20,946 and 20,947 ticks after an answer; 20,946 quiet ticks; three bytes that wake and two that do not.
use Rattle.std.specs.Prelude.{None}
use Prim.Native.Nat.{ℕ, ◌-◌}
use mathlib.Core.Path.{◌≡◌, refl}
use mathlib.Core.Bool.{true, false}
use mathlib.Core.List.{List, [], ◌∷◌, ◌++◌}
use lib.ListN.{replicate}
use Rattle.base.specs.Choice.{when◌then◌else◌}
use Rattle.base.specs.Store.{stored}
use Rattle.frame.specs.Check.{xor_from}
use Rattle.frame.specs.Delimiter.{stx, delimiter_of}
use Rattle.frame.specs.Frame.{frame_bytes, preamble_bytes, body_bytes, protected_bytes, header_bytes}
use Rattle.frame.specs.Write.{write_buffer, write_answer}
use Rattle.line.specs.Profile.{infrared_profile}
use Rattle.line.specs.Reader.{taken, taken_data, silent_inside, at_idle, at_preamble, at_first, at_address, at_expansion, at_command, at_count, at_data, at_check, idle}
use Rattle.line.specs.declared.Heard.{Heard}
use Rattle.line.specs.declared.Heard.TheVariants.{Silence, Character}
use Rattle.turns.specs.Device.{fresh_device, device_takes, device_sends, answered}
use Rattle.turns.specs.Link.{requests}
use Rattle.turns.specs.Master.{fresh_master, master_takes, master_sends, requested, requested_up_to, sends, opened}
use Rattle.turns.specs.declared.CallResult.{CallResult}
use Rattle.turns.specs.declared.Sent.{Sent}
use Rattle.turns.specs.declared.Sent.TheVariants.{Silent}
use Rattle.turns.specs.declared.Wish.TheVariants.{Same}
use Rattle.port.specs.Master.{port_master_takes, port_requested, port_master_sends}
use Rattle.port.specs.Device.{port_device_takes, port_answered, port_device_sends}
use Rattle.port.specs.Listening.{Manner, reading, passing_over, dozing, manner}
use Rattle.port.specs.Ticks.{PortMasterSide, PortMasterStep, MasterInput, port_master_tick, port_master_run, no_call, gives_answer, PortDeviceSide, PortDeviceStep, DeviceInput, port_device_tick, port_device_run}
use Rattle.port.specs.Waking.{after_ticks}
use Rattle.port.specs.declared.Ear.{Ear}
use Rattle.port.specs.declared.Ear.TheVariants.{Awake, Dozes}

-- ---- a device's answer: the request's last character is in tick T, and taken in T+1

-- a device with these quiet ticks and this ear
unfoldable pub device : Ear → ℕ → PortDeviceSide
device ear quiet = record { device = record { device = fresh_device infrared_profile 5 2 7; ear = ear; quiet = quiet }; frame = []; bytes = [] }

unfoldable pub hears : Heard → DeviceInput
hears h = record { heard = h; call = no_call }

unfoldable pub carried : List ℕ → List DeviceInput
carried [] = []
carried (c ∷ cs) = hears (Character c) ∷ carried cs

unfoldable pub last_result : List PortDeviceStep → CallResult
last_result [] = CallResult.Nothing
last_result (s ∷ []) = s.result
last_result (s ∷ (t ∷ ss)) = last_result (t ∷ ss)

-- the host answers an STX with this command in tick T+k
unfoldable pub answered_at : ℕ → ℕ → CallResult
answered_at command k =
    last_result (port_device_run 255 (device Awake 0)
    (replicate 2 (hears Silence) ++ (carried (frame_bytes 5 (record { kind = stx; long = true; primary = true; burst = false; address = 7; command = command }) [])
    ++ (replicate (k - 2) (hears Silence) ++ (record { heard = Silence; call = gives_answer Same (0 ∷ 0 ∷ []) } ∷ [])))))

pub t_52 : (answered_at 0 52 ≡ CallResult.Taken) × (answered_at 0 53 ≡ CallResult.Refused 8)
unfolding answered_at last_result carried hears device port_device_run port_device_tick port_device_takes port_answered port_device_sends device_takes device_sends answered taken taken_data silent_inside at_idle at_preamble at_first at_address at_expansion at_command at_count at_data at_check write_buffer write_answer frame_bytes preamble_bytes body_bytes protected_bytes header_bytes xor_from delimiter_of stored when◌then◌else◌
t_52 = (refl, refl)

pub t_87 : (answered_at 3 87 ≡ CallResult.Taken) × (answered_at 3 88 ≡ CallResult.Refused 8)
unfolding answered_at last_result carried hears device port_device_run port_device_tick port_device_takes port_answered port_device_sends device_takes device_sends answered taken taken_data silent_inside at_idle at_preamble at_first at_address at_expansion at_command at_count at_data at_check write_buffer write_answer frame_bytes preamble_bytes body_bytes protected_bytes header_bytes xor_from delimiter_of stored when◌then◌else◌
t_87 = (refl, refl)

-- ---- a device dozes off in the tick that takes its 20,946th quiet tick

unfoldable pub manner_of : PortDeviceSide → List DeviceInput → Manner
manner_of x is = manner (after_ticks 255 x is).device.ear

pub dozes_off : (manner_of (device Awake 20944) (hears Silence ∷ (hears Silence ∷ [])) ≡ reading) × (manner_of (device Awake 20945) (hears Silence ∷ (hears Silence ∷ [])) ≡ dozing)
unfolding manner_of after_ticks hears device port_device_tick port_device_takes port_device_sends device_takes device_sends taken taken_data silent_inside when◌then◌else◌
dozes_off = (refl, refl)

-- three bytes wake it, and two do not; the tick in which it is deaf comes first
unfoldable pub dozes_for : List ℕ → Manner
dozes_for cs = manner_of (device (Dozes Silence Silence) 20946) (hears Silence ∷ carried cs)

pub three_wake : (dozes_for (0x00 ∷ 0xFF ∷ []) ≡ dozing) × (dozes_for (0x00 ∷ 0xFF ∷ 0x00 ∷ []) ≡ passing_over) × (dozes_for (0xFF ∷ 0x00 ∷ 0xFF ∷ []) ≡ passing_over) × (dozes_for (0x00 ∷ 0xFF ∷ 0xFF ∷ []) ≡ dozing)
unfolding dozes_for carried manner_of after_ticks hears device port_device_tick port_device_takes port_device_sends device_takes device_sends taken taken_data silent_inside when◌then◌else◌
three_wake = (refl, refl, refl, refl)

-- ---- a master that begins 20,946 and 20,947 ticks after an answer's last character

-- its message waits, its window is open, and the last tick was so many ticks after the answer
unfoldable pub master : ℕ → PortMasterSide
master since = record {
  master = record { master = (sends (fresh_master infrared_profile true 3) false (opened infrared_profile) (fresh_master infrared_profile true 3).message idle Silent).master; since = since; wake = None };
  frame = replicate 284 0;
  bytes = [];
}

unfoldable pub first_sent : List PortMasterStep → Sent
first_sent [] = Silent
first_sent (s ∷ ss) = s.sent

unfoldable pub asks : MasterInput
asks = record { heard = Silence; call = requests (record { preamble = 5; revision = 7; long = false; address = 2; command = 0 }) [] }

pub begins_with : (first_sent (port_master_run 255 (master 20945) (asks ∷ [])) ≡ Sent.Character 0xFF) × (first_sent (port_master_run 255 (master 20946) (asks ∷ [])) ≡ Sent.Character 0x00)
unfolding first_sent asks master port_master_run port_master_tick port_master_takes port_requested port_master_sends requested requested_up_to master_takes master_sends taken taken_data silent_inside frame_bytes preamble_bytes body_bytes protected_bytes header_bytes xor_from delimiter_of stored when◌then◌else◌
begins_with = (refl, refl)
