-- To be believed: what the engine must do, or what is claimed of it.
-- Document 01, "The player": what every party sent in each tick of a run, in the parties' order.
use Rattle.std.specs.Prelude.{List, [], ◌∷◌}
use Rattle.turns.specs.Link.{DeviceStep, LinkStep}
use Rattle.turns.specs.declared.Sent.{Sent}

unfoldable pub devices_sent : List DeviceStep → List Sent
devices_sent [] = []
devices_sent (s ∷ ss) = s.sent ∷ devices_sent ss

-- the parties in their order: "0 primary, 1 secondary, 2 to 7 devices"
abbrev pub sent_of : LinkStep → List Sent
sent_of s = s.for_primary.sent ∷ s.for_secondary.sent ∷ devices_sent s.for_devices

unfoldable pub sent_in : List LinkStep → List (List Sent)
sent_in [] = []
sent_in (s ∷ ss) = sent_of s ∷ sent_in ss
