use Rattle.std.proofs.Common.{rules}
use Rattle.frame_read.proofs.Reading.{frames}
use Rattle.frame_read.proofs.read.Goals as goal

pub returns-then-preamble-lt2 : goal.returns-then-preamble-lt2
returns-then-preamble-lt2 c = search (rules, frames)

pub returns : goal.returns
returns c = search (rules, frames)
