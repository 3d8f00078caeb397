use Rattle.std.proofs.Common.{rules}
use Rattle.recording_list.proofs.Frames.{delimiters}
use Rattle.recording_list.proofs.Ticks.delimiter_at.Goals as goal

pub returns-then-not-two : goal.returns-then-not-two
returns-then-not-two c = search (rules, delimiters)

pub returns-in-None : goal.returns-in-None
returns-in-None c = search (rules, delimiters)
