-- How the code stands for what is to be believed.
-- What the start of a device of the port and its host's answer come to.
use Rattle.std.specs.Prelude.{ℕ, ◌≡◌, List, length, Result}
use Rattle.base.specs.Refusal.{called_as}
use Rattle.turns.specs.Device.{answer_frame}
use Rattle.turns.specs.declared.Device.{Device}
use Rattle.turns.specs.declared.Wish.{Wish}
use Rattle.device.specs.Calls.{buffer_behind}
use Rattle.port.specs.Device.{port_answered}
use Rattle.base.specs.declared.Refusal.{Refusal}

pub record PortAnswerIs (limit : ℕ) (d : Device) (wish : Wish) (bytes frame : List ℕ) (r : Result Device Refusal) (frame_after : List ℕ) : Type 0 where
  pub called : called_as r ≡ port_answered limit d wish (length bytes)
  pub frame_is : frame_after ≡ buffer_behind (port_answered limit d wish (length bytes)) (answer_frame d wish bytes frame) frame
