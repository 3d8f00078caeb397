use Rattle.std.proofs.Common.{rules}
use Rattle.recording_list.proofs.Frames.{fast_preambles}
use Rattle.recording_list.proofs.Ticks.preamble_from.Goals as goal

pub returns : goal.returns
returns c = search (rules, fast_preambles)
