-- Laws of the delimiter: the bytes that are one, and that what is written is read back.
use Rattle.std.specs.Prelude.{Option, Some}
use Prim.Native.Nat.{ℕ, ◌<◌}
use mathlib.Core.Path.{◌≡◌, refl, sym}
use mathlib.Core.Bool.{Bool, true, false}
use mathlib.Core.List.{List, [], ◌∷◌}
use Rattle.base.specs.Choice.{when◌then◌else◌}
use Rattle.base.proofs.Choices.{true_false}
use Rattle.base.proofs.Tables.{holds_below, holds_at, among, None, not_among}
use Rattle.frame.specs.Delimiter.{delimiter_of}
use Rattle.frame.specs.declared.Delimiter.{Delimiter}
use Rattle.std.specs.declared.option.Option.TheVariants as O

-- the bytes that are a delimiter, in the order of the code's cases
abbrev pub delimiters : List ℕ
delimiters =
    0x02 ∷ 0x22 ∷ 0x42 ∷ 0x62 ∷ 0x82 ∷ 0xA2 ∷ 0xC2 ∷ 0xE2 ∷
    0x06 ∷ 0x26 ∷ 0x46 ∷ 0x66 ∷ 0x86 ∷ 0xA6 ∷ 0xC6 ∷ 0xE6 ∷
    0x01 ∷ 0x21 ∷ 0x41 ∷ 0x61 ∷ 0x81 ∷ 0xA1 ∷ 0xC1 ∷ 0xE1 ∷ []

is_not : Option Delimiter → Bool
is_not O.None = true
is_not (Some d) = false

is_not_lem : (d : Option Delimiter) → is_not d ≡ true → O.None ≡ d
unfolding is_not
is_not_lem O.None e = refl
is_not_lem (Some d) e = absurd (true_false (sym e))

listed : ℕ → Bool
listed n = when among delimiters n then true else is_not (delimiter_of n)

all_listed : holds_below 256 listed ≡ true
unfolding holds_below listed is_not delimiter_of when◌then◌else◌
all_listed = refl

-- a byte that is none of them is no delimiter
pub other_byte : (n : ℕ) → n < 256 → None (Unit {0}) delimiters n → O.None ≡ delimiter_of n
unfolding listed when◌then◌else◌
other_byte n h unlisted =
    is_not_lem (delimiter_of n) (rw (sym (not_among delimiters n unlisted)) at (holds_at 256 listed all_listed n h))
