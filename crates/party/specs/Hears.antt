-- Inner contracts: nothing that is to be believed rests on them.
-- Whether silence or a character is heard in a tick.
use Rattle.std.specs.Prelude.{Bool, true, false}
use Rattle.line.specs.declared.Heard.{Heard}
use Rattle.line.specs.declared.Heard.TheVariants.{Silence, Character, Damaged}

-- "A party hears silence, a character, or a damaged character"
abbrev pub is_silence : Heard → Bool
is_silence Silence = true
is_silence (Character c) = false
is_silence (Damaged c kind) = false
