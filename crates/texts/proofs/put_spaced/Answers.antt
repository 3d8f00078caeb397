use Rattle.std.proofs.Common.{rules}
use Rattle.texts.proofs.Puts.{put_spaced}
use Rattle.texts.proofs.put_spaced.Goals as goal

pub returns : goal.returns
returns c = search (rules, put_spaced)
