-- To be believed: what the engine must do, or what is claimed of it.
-- Bytes stored in a lent buffer. The laws are in proofs/Stores.antt.
use Rattle.std.specs.Prelude.{ℕ, suc, List, [], ◌∷◌, set}

-- the buffer with these bytes stored in a row from a place on; every other byte stays, and so does the buffer's length
unfoldable pub stored : List ℕ → ℕ → List ℕ → List ℕ
stored buffer place [] = buffer
stored buffer place (b ∷ bytes) = stored (set buffer place b) (suc place) bytes
