-- "9: data outside 2 to 255", or outside 2 to the link's data limit: laws of the byte count of an answer and of burst content.
use Prim.Native.Nat.{ℕ, ◌≤◌}
use mathlib.Core.Path.{◌≡◌, refl}
use mathlib.Core.Bool.{false}
use Rattle.base.proofs.Choices.{inside_is, inside_low, inside_high}
use Rattle.turns.specs.Device.{count_refused}

pub count_taken : (limit count : ℕ) → 2 ≤ count → count ≤ limit → count_refused limit count ≡ false
count_taken limit count low high = inside_is count 2 limit low high

pub count_low : (limit count : ℕ) → count_refused limit count ≡ false → 2 ≤ count
count_low limit count e = inside_low count 2 limit _ refl e

pub count_high : (limit count : ℕ) → count_refused limit count ≡ false → count ≤ limit
count_high limit count e = inside_high count 2 limit _ refl e
