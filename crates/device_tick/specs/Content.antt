-- Inner contracts: nothing that is to be believed rests on them.
-- What the call of a burst content promises: its answer by `content_given` of crates/turns/specs/Device.antt ("5 for command 254; 9"), and the lent content.
use Rattle.std.specs.Prelude.{ℕ, ◌≡◌, List, length, Result}
use Rattle.base.specs.Store.{stored}
use Rattle.turns.specs.Device.{content_given}
use Rattle.turns.specs.declared.Device.{Device}
use Rattle.device.specs.Calls.{buffer_behind}
use Rattle.base.specs.declared.Refusal.{Refusal}
use Rattle.base.specs.Refusal.{called_as}

-- the data stand at the front of the lent content where the call is taken; where it is refused, nothing changes
pub record ContentIs (limit : ℕ) (d : Device) (command : ℕ) (bytes contents : List ℕ) (r : Result Device Refusal) (contents_after : List ℕ) : Type 0 where
  pub called : called_as r ≡ content_given limit d command (length bytes)
  pub contents_are : contents_after ≡ buffer_behind (content_given limit d command (length bytes)) (stored contents 0 bytes) contents
