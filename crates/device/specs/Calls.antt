-- How the code stands for what is to be believed.
-- What the answers of a device's start and of its host's call are, as the definitions of turns name them; and a lent buffer after a call.
use Rattle.std.specs.Prelude.{ℕ, List}
use Rattle.base.specs.Refusal.{Called, accepted, refused}
use Rattle.turns.specs.declared.Device.{Device}

-- the buffer after the call: as the call writes it where it is accepted; as it was where it is refused
abbrev pub buffer_behind : Called Device → List ℕ → List ℕ → List ℕ
buffer_behind (accepted d) written before = written
buffer_behind (refused why) written before = before
