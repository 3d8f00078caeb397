use Rattle.std.proofs.Common.{rules}
use Rattle.recording_lines.proofs.Printing.{ticked}
use Rattle.recording_lines.proofs.tick.Goals as goal

pub returns : goal.returns
returns c = rw c.copy_receiver.ensures (search (rules, ticked))
