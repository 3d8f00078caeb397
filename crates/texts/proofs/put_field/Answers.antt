use Rattle.std.proofs.Common.{rules}
use Rattle.texts.proofs.Puts.{put_then}
use Rattle.texts.proofs.put_field.Goals as goal

pub returns : goal.returns
returns c = search (rules, put_then)
