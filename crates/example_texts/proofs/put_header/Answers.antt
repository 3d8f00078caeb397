use Rattle.std.proofs.Common.{rules}
use Rattle.example_texts.proofs.Fields.{put_header}
use Rattle.example_texts.proofs.put_header.Goals as goal

pub returns : goal.returns
returns c = search (rules, put_header)
