-- To be believed: what the engine must do, or what is claimed of it.
-- Document 02, item 9: "A recording has two bytes a tick, most significant bit first: 3 bits of kind (0 silence, 1 character, 2 to 4 damage 1 to 3), 5 zero bits, 8 bits of character, zero for silence."
use Rattle.std.specs.Prelude.{ℕ, ◌/◌, ◌%◌, Bool, true, false, List, [], ◌∷◌}
use Rattle.base.specs.Choice.{when◌then◌else◌, ◌<?◌, ◌=?◌}
use Rattle.line.specs.Heard.{heard_of}
use Rattle.line.specs.declared.Heard.{Heard}

-- what a recording says was heard, tick by tick, "0 silence, 1 character, 2 to 4 damage 1 to 3", other kinds, which 21 refuses, as silence; a last odd byte is no tick
unfoldable pub ticks_of : List ℕ → List Heard
ticks_of [] = []
ticks_of (first ∷ []) = []
ticks_of (first ∷ c ∷ recording) = heard_of (first / 32) c ∷ ticks_of recording

-- "5 zero bits", kinds 0 to 4, and "8 bits of character, zero for silence": the two bytes of a tick that no recording has
abbrev pub tick_refused : ℕ → ℕ → Bool
tick_refused first c =
    when first % 32 =? 0 then
    (when 4 <? first / 32 then true else
    when first / 32 =? 0 then (when c =? 0 then false else true) else
    false)
    else true

-- "It refuses an odd length or another value with 21"
unfoldable pub bad_recording : List ℕ → Bool
bad_recording [] = false
bad_recording (first ∷ []) = true
bad_recording (first ∷ c ∷ recording) = when tick_refused first c then true else bad_recording recording
