-- To be believed: what the engine must do, or what is claimed of it.
-- Document 01, "Frames": "The check byte makes the exclusive-or from delimiter to check byte zero."
use Rattle.std.specs.Prelude.{ℕ, List, [], ◌∷◌}
use Rattle.std.specs.Int.Bits.{bit_xor}

-- the exclusive-or of x and some bytes, byte by byte
unfoldable pub xor_from : ℕ → List ℕ → ℕ
xor_from x [] = x
xor_from x (b ∷ bytes) = xor_from (bit_xor x b) bytes

abbrev pub exclusive_or : List ℕ → ℕ
exclusive_or bytes = xor_from 0 bytes
