-- Inner contracts: nothing that is to be believed rests on them.
-- The line's reader, which hears all that the line carries, and whether a party's reader equals it. The law in proofs/Readers.antt says that two readers are equal where `same_reader` says so.
use Rattle.std.specs.Prelude.{Bool, true, false}
use Rattle.line.specs.declared.Event.{Event}
use Rattle.line.specs.declared.Event.TheVariants.{Nothing, PassedOver, Broken, Frame, Damaged}
use Rattle.line.specs.contracts.ReceiverPartialEq.TheImpl as ReceiverEq
use Rattle.line.specs.declared.Receiver.{Receiver}
use Rattle.line.specs.declared.Taken.{Taken}
use Rattle.link_parties.specs.declared.LineStep.{LineStep}

abbrev pub finds_nothing : Event → Bool
finds_nothing Nothing = true
finds_nothing PassedOver = false
finds_nothing Broken = false
finds_nothing (Frame w) = false
finds_nothing (Damaged w m) = false

-- the line's reader after a tick
abbrev pub step_of : Taken → LineStep
step_of t = record { reader = t.receiver; quiet = finds_nothing t.event }

-- whether two readers are equal: the equality that their type derives, field by field
abbrev pub same_reader : Receiver → Receiver → Bool
same_reader = ReceiverEq.ghosts.eq
