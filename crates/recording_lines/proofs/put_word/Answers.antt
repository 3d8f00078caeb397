use Rattle.std.proofs.Common.{rules}
use Rattle.recording_lines.proofs.Printing.{put_lines}
use Rattle.recording_lines.proofs.put_word.Goals as goal

pub returns : goal.returns
returns c = search (rules, put_lines)
