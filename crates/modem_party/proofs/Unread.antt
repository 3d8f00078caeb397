-- A run, computed, in which byte 2 is not read in one tick, in which the first preamble character of an STX has arrived. The next one is heard with damage 2, and the device's host is not told the request; without the chip it is, also where that first character is missing.
use Prim.Native.Nat.{ℕ}
use mathlib.Core.Bool.{false}
use mathlib.Core.List.{List, [], ◌∷◌, ◌++◌}
use mathlib.Core.Path.{◌≡◌, refl}
use lib.Count.{ones}
use lib.ListN.{replicate}
use Rattle.base.specs.Choice.{when◌then◌else◌}
use Rattle.base.specs.Store.{stored}
use Rattle.frame.specs.Delimiter.{delimiter_of}
use Rattle.line.specs.Profile.{fsk_profile}
use Rattle.line.specs.Reader.{taken, taken_data, at_idle, at_preamble, at_first, at_command, at_count, at_check}
use Rattle.line.specs.declared.Damage.TheVariants.{Overrun}
use Rattle.line.specs.declared.Heard.TheVariants.{Silence, Character, Damaged}
use Rattle.modem.specs.Chip.{fresh_chip, arrives}
use Rattle.modem.specs.Accesses.{looks, puts, after_all}
use Rattle.modem.specs.Driver.{hears, wire}
use Rattle.modem.specs.Further.{Further, alone}
use Rattle.turns.specs.Told.{device_tells}
use Rattle.turns.specs.Device.{fresh_device, device_takes, device_sends}
use Rattle.turns.specs.Link.{DeviceCall, no_call, DeviceSide, DeviceStep, device_tick}
use Rattle.modem_party.specs.Behind.{Step, Tick, plain, Behind, closes, OnLine, chipped}
use Rattle.modem_party.specs.Ticks.{device_step}

abbrev pub behind_silence : DeviceSide → DeviceSide
behind_silence s = (device_tick 255 s Silence no_call).side

-- after two silent ticks: a fresh one is deaf in the first
unfoldable pub device : DeviceSide
device = behind_silence (behind_silence (record { device = fresh_device fsk_profile 5 0 2; frame = replicate 284 0; bytes = replicate 255 0; contents = replicate 255 0 }))

-- the STX of command 0 to polling address 0, behind its first preamble character
unfoldable pub others : List ℕ
others = 0xFF ∷ 0xFF ∷ 0xFF ∷ 0xFF ∷ 0x02 ∷ 0x80 ∷ 0x00 ∷ 0x00 ∷ 0x82 ∷ []

-- these characters, in each tick one, with these further accesses
unfoldable pub character_ticks : Further → List ℕ → List (Tick DeviceCall)
character_ticks f [] = []
character_ticks f (c ∷ cs) = record { heard = Character c; bit = false; call = no_call; further = f } ∷ character_ticks f cs

-- the number of what is told in each tick: 1 is a request
unfoldable pub told : List (Step DeviceSide DeviceStep) → List ℕ
told [] = []
told (u ∷ us) = (device_tells u.told.told).number ∷ told us

unfoldable pub told_behind : List (OnLine DeviceSide DeviceStep) → List ℕ
told_behind [] = []
told_behind (l ∷ ls) = (device_tells l.step.told.told).number ∷ told_behind ls

-- the first character arrives, and the driver reads nothing in this tick: the device hears silence
abbrev pub unread : Behind DeviceSide DeviceStep
unread = closes alone (arrives fresh_chip (wire (Character 0xFF) false)) (device_step 255 device Silence no_call)

pub overrun_heard : (hears (arrives unread.chip (wire (Character 0xFF) false))).heard ≡ Damaged 0xFF Overrun
unfolding device looks puts after_all device_tick device_takes device_sends taken taken_data when◌then◌else◌
overrun_heard = refl

pub not_told : told_behind (chipped (device_step 255) unread.chip unread.step.behind (character_ticks alone others)) ≡ replicate 9 0
unfolding told_behind character_ticks others device chipped looks puts after_all ones device_tick device_takes device_sends taken taken_data at_idle at_preamble at_first at_command at_count at_check delimiter_of stored when◌then◌else◌
not_told = refl

-- without the chip, with the first character missing and with it
pub told_missing : told (plain (device_step 255) unread.step.behind (character_ticks alone others)) ≡ replicate 8 0 ++ (1 ∷ [])
unfolding told character_ticks others device plain device_tick device_takes device_sends taken taken_data at_idle at_preamble at_first at_command at_count at_check delimiter_of stored when◌then◌else◌
told_missing = refl

pub told_without : told (plain (device_step 255) device (character_ticks alone (0xFF ∷ others))) ≡ replicate 9 0 ++ (1 ∷ [])
unfolding told character_ticks others device plain device_tick device_takes device_sends taken taken_data at_idle at_preamble at_first at_command at_count at_check delimiter_of stored when◌then◌else◌
told_without = refl
