-- Inner contracts: nothing that is to be believed rests on them.
-- What a device's functions promise: their answer, and the lent buffers.
use Rattle.std.specs.Prelude.{ℕ, ◌≡◌, List, length, Result}
use Rattle.line.specs.declared.Heard.{Heard}
use Rattle.turns.specs.Device.{device_takes, error_frame, answered, answer_frame, device_sends, begun_frame}
use Rattle.turns.specs.Link.{device_data}
use Rattle.turns.specs.declared.Device.{Device}
use Rattle.turns.specs.declared.DeviceSent.{DeviceSent}
use Rattle.turns.specs.declared.DeviceTaken.{DeviceTaken}
use Rattle.turns.specs.declared.Wish.{Wish}
use Rattle.device_rules.specs.Hearing.{lent}
use Rattle.device.specs.Calls.{buffer_behind}
use Rattle.base.specs.declared.Refusal.{Refusal}
use Rattle.base.specs.Refusal.{called_as}

pub record DeviceTakeIs (d : Device) (heard : Heard) (bytes frame : List ℕ) (t : DeviceTaken) (bytes_after frame_after : List ℕ) : Type 0 where
  pub taken : t ≡ device_takes d heard
  pub data_is : bytes_after ≡ device_data (lent d bytes) heard
  pub frame_is : frame_after ≡ error_frame d (device_takes d heard).event frame

pub record AnswerIs (limit : ℕ) (d : Device) (wish : Wish) (bytes frame : List ℕ) (r : Result Device Refusal) (frame_after : List ℕ) : Type 0 where
  pub called : called_as r ≡ answered limit d wish (length bytes)
  pub frame_is : frame_after ≡ buffer_behind (answered limit d wish (length bytes)) (answer_frame d wish bytes frame) frame

pub record SendIs (d : Device) (contents frame : List ℕ) (s : DeviceSent) (frame_after : List ℕ) : Type 0 where
  pub sent : s ≡ device_sends d frame_after
  pub frame_is : frame_after ≡ begun_frame d d.turn contents frame
