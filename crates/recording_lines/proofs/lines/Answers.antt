use Rattle.std.proofs.Common.{rules}
use Rattle.recording_lines.proofs.Printing.{printings}
use Rattle.recording_lines.proofs.lines.Goals as goal

pub loop-t-preserved : goal.loop-t-preserved
loop-t-preserved c = search (rules, printings, c.tick-printed.ensures)

pub returns : goal.returns
returns c = search (rules, printings)
