-- How the code stands for what is to be believed.
-- A tick of a recording as one number, and the numbers of a run over a recording.
use Rattle.std.specs.Prelude.{ℕ, ◌+◌, ◌*◌, ◌/◌, ◌%◌, ◌≤◌, ◌<◌, ◌≡◌, List, [], ◌∷◌, length, get_or}
pub use Rattle.base.specs.Events.{RunIs}

-- v is the two bytes of tick t as one number, the character the high byte
pub record TickIs (recording : List ℕ) (t v : ℕ) : Type 0 where
  pub first : v % 256 ≡ get_or recording (2 * t) 0
  pub character : v / 256 ≡ get_or recording (2 * t + 1) 0
  pub small : v < 65536

-- such a number, or 0 where the recording has no tick t
pub record TickAt (recording : List ℕ) (t v : ℕ) : Type 0 where
  pub there : t < length recording / 2 → TickIs recording t v
  pub beyond : length recording / 2 ≤ t → v ≡ 0

-- a tick of any party, made from the two bytes: the number for what it did, and the party after it
pub record Ticked (S : Type 0) : Type 0 where
  pub number : ℕ
  pub behind : S

-- the number of each tick of a recording; an odd last byte is no tick
unfoldable pub trace : {S : Type 0} → (S → ℕ → ℕ → Ticked S) → S → List ℕ → List ℕ
trace tick s [] = []
trace tick s (first ∷ []) = []
trace tick s (first ∷ c ∷ recording) = (tick s first c).number ∷ trace tick (tick s first c).behind recording
