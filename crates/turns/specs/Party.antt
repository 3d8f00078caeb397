-- To be believed: what the engine must do, or what is claimed of it.
-- What master and device share: what a broadcast is, and what a command 11 by broadcast is.
use Rattle.std.specs.Prelude.{ℕ, Bool, true, false}
use Rattle.base.specs.Choice.{when◌then◌else◌, ◌=?◌}
use Rattle.frame.specs.declared.Header.{Header}

-- "Unique address 0 is broadcast."
abbrev pub is_broadcast : Header → Bool
is_broadcast h = when h.long then h.address =? 0 else false

-- item 6: "command 11, sent to the broadcast address"; its ACK too, since "Our transmitters repeat the request's address bytes"
abbrev pub seeks_tag : Header → Bool
seeks_tag h = when is_broadcast h then h.command =? 11 else false
