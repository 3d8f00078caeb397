-- How the code stands for what is to be believed.
-- What the tick reader tells in a tick, as a number: the C header's `enum nengapiko_event`.
use Rattle.std.specs.Prelude.{ℕ}
use Rattle.line.specs.declared.Event.{Event}
use Rattle.line.specs.declared.Event.TheVariants.{Nothing, PassedOver, Broken, Frame, Damaged}

abbrev pub event_number : Event → ℕ
event_number Nothing = 0
event_number PassedOver = 1
event_number Broken = 2
event_number (Frame w) = 3
event_number (Damaged w m) = 4
