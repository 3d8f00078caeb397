use Rattle.std.proofs.Common.{rules}
use Rattle.recording_capture.proofs.Capturing.{capturings}
use Rattle.recording_capture.proofs.packets.Goals as goal

pub loop-t-preserved : goal.loop-t-preserved
loop-t-preserved c = search (rules, capturings)

pub returns : goal.returns
returns c = search (rules, capturings)
