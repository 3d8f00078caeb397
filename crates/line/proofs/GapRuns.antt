-- Runs by computation, for the claims of specs/Gaps: a damaged frame with expansion bytes is told alike without and with single silent ticks; two in a row break it.
use mathlib.Core.Path.{refl}
use mathlib.Core.Bool.{true, false}
use mathlib.Core.List.{List, [], ◌∷◌}
use Rattle.base.specs.Choice.{when◌then◌else◌}
use Rattle.base.specs.Store.{stored}
use Rattle.frame.specs.Delimiter.{delimiter_of}
use Rattle.line.specs.Gaps.{is_sound, is_with_damage, no_more, at_once, behind_silence, Gapped, from_first, Ends, last, before}
use Rattle.line.specs.Reader.{idle, tells, taken, taken_data, silent_inside, at_idle, at_preamble, at_first, at_address, at_expansion, at_command, at_count, at_data, at_check}
use Rattle.line.specs.declared.Damage.TheVariants.{Parity}
use Rattle.line.specs.declared.Event.{Event}
use Rattle.line.specs.declared.Event.TheVariants.{Broken}
use Rattle.line.specs.declared.Heard.{Heard}
use Rattle.line.specs.declared.Heard.TheVariants.{Silence, Character, Damaged}
use Rattle.line.specs.declared.Taken.{Taken}

-- two 0xFF, an STX's delimiter with two expansion bytes, a short address, the expansion bytes, command 3, two data bytes, the first of them damaged, and the check byte
abbrev pub unbroken : List Heard
unbroken = Character 0xFF ∷ Character 0xFF ∷ Character 0x42 ∷ Character 0x80 ∷ Character 0x11 ∷ Character 0x12 ∷ Character 0x03 ∷ Character 0x02 ∷ Damaged 0xAA Parity ∷ Character 0x55 ∷ Character 0x3F ∷ []

-- the same with seven silent ticks, no two in a row
abbrev pub with_gaps : List Heard
with_gaps = Character 0xFF ∷ Silence ∷ Character 0xFF ∷ Character 0x42 ∷ Silence ∷ Character 0x80 ∷ Character 0x11 ∷ Silence ∷ Character 0x12 ∷ Silence ∷ Character 0x03 ∷ Character 0x02 ∷ Silence ∷ Damaged 0xAA Parity ∷ Silence ∷ Character 0x55 ∷ Silence ∷ Character 0x3F ∷ []

pub gaps_so : Gapped unbroken with_gaps
gaps_so = from_first is_sound (behind_silence is_sound (at_once is_sound (behind_silence is_sound (at_once is_sound (behind_silence is_sound (behind_silence is_sound (at_once is_sound (behind_silence is_with_damage (behind_silence is_sound (behind_silence is_sound no_more))))))))))

-- what both tell in their last tick, and only there
abbrev pub damaged_frame : Taken
damaged_frame =
    tells idle (Event.Damaged (record { header = record { kind = 2; long = false; primary = true; burst = false; address = 0; command = 3 }; expansion = 2; count = 2 })
    (record { parity = true; overrun = false; framing = false; check = false; address = false }))

pub without_gaps : Ends idle (0 ∷ 0 ∷ 0 ∷ []) unbroken damaged_frame (0xAA ∷ 0x55 ∷ 0 ∷ [])
unfolding taken taken_data silent_inside at_idle at_preamble at_first at_address at_expansion at_command at_count at_data at_check delimiter_of stored when◌then◌else◌
without_gaps = before refl (before refl (before refl (before refl (before refl (before refl (before refl (before refl (before refl (before refl (last refl refl))))))))))

pub with_gaps_lem : Ends idle (0 ∷ 0 ∷ 0 ∷ []) with_gaps damaged_frame (0xAA ∷ 0x55 ∷ 0 ∷ [])
unfolding taken taken_data silent_inside at_idle at_preamble at_first at_address at_expansion at_command at_count at_data at_check delimiter_of stored when◌then◌else◌
with_gaps_lem = before refl (before refl (before refl (before refl (before refl (before refl (before refl (before refl (before refl (before refl (before refl (before refl (before refl (before refl (before refl (before refl (before refl (last refl refl)))))))))))))))))

-- one silent tick in the preamble, and two in a row behind the first address byte: the second is told as a break
pub two_in_a_row : Ends idle [] (Character 0xFF ∷ Silence ∷ Character 0xFF ∷ Character 0x42 ∷ Character 0x80 ∷ Silence ∷ Silence ∷ []) (tells idle Broken) []
unfolding taken taken_data silent_inside at_idle at_preamble at_first at_address at_expansion at_command at_count at_data at_check delimiter_of stored when◌then◌else◌
two_in_a_row = before refl (before refl (before refl (before refl (before refl (before refl (last refl refl))))))
