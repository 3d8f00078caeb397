-- Computed runs: recordings and their lists, on which the claims are not empty, and what happens where a premise does not hold.
use Prim.Native.Nat.{ℕ}
use mathlib.Core.Path.{◌≡◌, refl}
use mathlib.Core.List.{List, [], ◌∷◌}
use lib.Bits.{bit_xor}
use Rattle.base.specs.Choice.{when◌then◌else◌}
use Rattle.frame.specs.Delimiter.{delimiter_of}
use Rattle.line.specs.Reader.{taken, at_idle, at_preamble, at_first, at_command, at_count, at_check, silent_inside}
use Rattle.recording.specs.Form.{ticks_of}
use Rattle.recording_list.specs.Listing.{entry, found, listing_of}

-- an STX with command 0 to polling address 0, behind two 0xFF
abbrev stx_ticks : List ℕ
stx_ticks = 32 ∷ 255 ∷ 32 ∷ 255 ∷ 32 ∷ 2 ∷ 32 ∷ 128 ∷ 32 ∷ 0 ∷ 32 ∷ 0 ∷ 32 ∷ 130 ∷ []

-- it starts in tick 1, behind a silent tick, and ends in tick 7
pub whole_listed : listing_of (0 ∷ 0 ∷ stx_ticks) ≡ entry 7 1
unfolding found ticks_of entry taken at_idle at_preamble at_first at_command at_count at_check silent_inside delimiter_of when◌then◌else◌ bit_xor
whole_listed = refl

-- with a silent tick inside it ends a tick later
pub gap_listed : listing_of (0 ∷ 0 ∷ 32 ∷ 255 ∷ 0 ∷ 0 ∷ 32 ∷ 255 ∷ 32 ∷ 2 ∷ 32 ∷ 128 ∷ 32 ∷ 0 ∷ 32 ∷ 0 ∷ 32 ∷ 130 ∷ []) ≡ entry 8 1
unfolding found ticks_of entry taken at_idle at_preamble at_first at_command at_count at_check silent_inside delimiter_of when◌then◌else◌ bit_xor
gap_listed = refl

-- two silent ticks in a row break it
pub two_break : listing_of (0 ∷ 0 ∷ 32 ∷ 255 ∷ 0 ∷ 0 ∷ 0 ∷ 0 ∷ 32 ∷ 255 ∷ []) ≡ entry 3 0
unfolding found ticks_of entry taken at_idle at_preamble silent_inside when◌then◌else◌
two_break = refl

-- from tick 0 on no frame may start: one entry, and the characters behind it add none
pub start_listed : listing_of stx_ticks ≡ entry 0 0
unfolding found ticks_of entry taken when◌then◌else◌
start_listed = refl

-- behind a character that breaks, characters are passed over: no start there either
pub no_start_behind : listing_of (0 ∷ 0 ∷ 32 ∷ 7 ∷ 32 ∷ 255 ∷ 32 ∷ 255 ∷ 32 ∷ 2 ∷ []) ≡ entry 1 0
unfolding found ticks_of entry taken at_idle silent_inside when◌then◌else◌
no_start_behind = refl
