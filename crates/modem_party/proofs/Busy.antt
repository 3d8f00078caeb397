-- Two runs, computed, with the STX of Unread.antt. With further accesses of every kind in every tick, which spare what is heard and sent, the device's host is told the request as without the chip. With one that does not, a read of byte 2 before status in the tick of the check byte, it is not.
use Prim.Native.Nat.{ℕ}
use mathlib.Core.Bool.{false}
use mathlib.Core.List.{List, [], ◌∷◌, ◌++◌}
use mathlib.Core.Path.{◌≡◌, refl, sym}
use lib.Count.{ones}
use lib.ListN.{replicate}
use Rattle.base.specs.Choice.{when◌then◌else◌}
use Rattle.base.specs.Store.{stored}
use Rattle.base.proofs.Choices.{true_false}
use Rattle.frame.specs.Delimiter.{delimiter_of}
use Rattle.line.specs.Reader.{taken, taken_data, at_idle, at_preamble, at_first, at_command, at_count, at_check}
use Rattle.line.specs.declared.Heard.{Heard}
use Rattle.modem.specs.Chip.{fresh_chip}
use Rattle.modem.specs.Accesses.{looks, puts, Access, reads, writes, after_all}
use Rattle.modem.specs.Further.{Own, own_status_read, own_kind_read, own_data_read, own_control_read, own_control_write, own_data_write, Further, alone, writes_data, any_of, Spares}
use Rattle.turns.specs.Device.{device_takes, device_sends}
use Rattle.turns.specs.Link.{device_tick}
use Rattle.modem_party.specs.Behind.{chipped}
use Rattle.modem_party.specs.Ticks.{device_step}
use Rattle.modem_party.proofs.Unread.{device, others, character_ticks, told_behind}

-- ---- spared

-- reads, refused accesses, and a write to control that keeps request to send set, with both interrupts
abbrev pub anywhere : List Access
anywhere = reads 0 ∷ reads 1 ∷ reads 3 ∷ reads 7 ∷ reads 8 ∷ writes 0 0xFF ∷ writes 8 0xFF ∷ writes 1 0xE0 ∷ []

-- after status is read also reads of byte 2; between the driver's accesses, but not between its two writes, request to send is cleared
abbrev pub busy_before : Own → List Access
busy_before own_status_read = anywhere
busy_before own_kind_read = reads 2 ∷ anywhere
busy_before own_data_read = reads 2 ∷ writes 1 0x00 ∷ []
busy_before own_control_read = reads 2 ∷ anywhere
busy_before own_control_write = reads 2 ∷ writes 1 0x00 ∷ []
busy_before own_data_write = reads 2 ∷ anywhere

-- after a character a second one, which is lost, and request to send cleared; after silence request to send set
abbrev pub busy : Further
busy = record { before = busy_before; after_character = writes 2 0x33 ∷ writes 1 0x00 ∷ []; after_silence = reads 2 ∷ writes 1 0xE0 ∷ [] }

pub busy_spares : (h : Heard) → Spares h busy
unfolding any_of when◌then◌else◌
busy_spares h = record {
  character_left = λ e. absurd (true_false (sym e));
  first_write = first;
  request_kept = refl;
  silence_kept = λ e. absurd (true_false (sym e));
}
  where
    first : (o : Own) → any_of writes_data (busy_before o) ≡ false
    first own_status_read = refl
    first own_kind_read = refl
    first own_data_read = refl
    first own_control_read = refl
    first own_control_write = refl
    first own_data_write = refl

pub busy_told : told_behind (chipped (device_step 255) fresh_chip device (character_ticks busy (0xFF ∷ others))) ≡ replicate 9 0 ++ (1 ∷ [])
unfolding told_behind character_ticks others device chipped looks puts after_all ones device_tick device_takes device_sends taken taken_data at_idle at_preamble at_first at_command at_count at_check delimiter_of stored when◌then◌else◌
busy_told = refl

-- ---- not spared

abbrev pub early_before : Own → List Access
early_before own_status_read = reads 2 ∷ []
early_before own_kind_read = []
early_before own_data_read = []
early_before own_control_read = []
early_before own_control_write = []
early_before own_data_write = []

abbrev pub early : Further
early = record { before = early_before; after_character = []; after_silence = [] }

-- all but the check byte
unfoldable pub first_nine : List ℕ
first_nine = 0xFF ∷ 0xFF ∷ 0xFF ∷ 0xFF ∷ 0xFF ∷ 0x02 ∷ 0x80 ∷ 0x00 ∷ 0x00 ∷ []

pub early_not_told : told_behind (chipped (device_step 255) fresh_chip device (character_ticks alone first_nine ++ character_ticks early (0x82 ∷ []))) ≡ replicate 10 0
unfolding told_behind character_ticks first_nine device chipped looks puts after_all ones device_tick device_takes device_sends taken taken_data at_idle at_preamble at_first at_command at_count at_check delimiter_of stored when◌then◌else◌
early_not_told = refl
