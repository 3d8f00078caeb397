-- Inner contracts: nothing that is to be believed rests on them.
-- Names for parts of the definitions in crates/turns/specs/Master.antt.
use Rattle.std.specs.Prelude.{Bool, false}
use Rattle.base.specs.Choice.{when◌then◌else◌, ◌=?◌}
use Rattle.frame.specs.declared.Header.{Header}
use Rattle.turns.specs.Master.{same_bit}
use Rattle.turns.specs.declared.Ending.{Ending}
use Rattle.turns.specs.declared.MasterTold.TheVariants.{Nothing}
use Rattle.turns.specs.declared.Message.{Message}

-- whether address and command of an ACK are those of the request
abbrev pub same_request : Header → Header → Bool
same_request q h = when same_bit q.long h.long then (when q.address =? h.address then q.command =? h.command else false) else false

-- a message that has not ended
abbrev pub unended : Message → Ending
unended g = record { message = g; told = Nothing }
