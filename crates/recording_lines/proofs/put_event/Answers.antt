use Rattle.std.proofs.Common.{rules}
use Rattle.recording_lines.proofs.Printing.{put_events}
use Rattle.recording_lines.proofs.put_event.Goals as goal

pub returns-in-PassedOver : goal.returns-in-PassedOver
returns-in-PassedOver c = search (rules, put_events)
