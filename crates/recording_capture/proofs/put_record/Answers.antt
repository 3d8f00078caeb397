use Rattle.std.proofs.Common.{rules}
use Rattle.recording_capture.proofs.Headers.{put_packets}
use Rattle.recording_capture.proofs.put_record.Goals as goal

pub returns : goal.returns
returns c = search (rules, put_packets)
