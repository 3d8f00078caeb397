use Rattle.std.proofs.Common.{rules}
use Rattle.recording_list.proofs.Frames.{preambles}
use Rattle.recording_list.proofs.Ticks.preamble_with_gaps.Goals as goal

pub returns : goal.returns
returns c = search (rules, preambles)

pub loop-t-preserved : goal.loop-t-preserved
loop-t-preserved c = search (rules, preambles)
