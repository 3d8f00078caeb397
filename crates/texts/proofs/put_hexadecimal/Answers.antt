use Rattle.std.proofs.Common.{rules}
use Rattle.texts.proofs.Puts.{put_hexadecimal}
use Rattle.texts.proofs.put_hexadecimal.Goals as goal

pub returns : goal.returns
returns c = search (rules, put_hexadecimal)
