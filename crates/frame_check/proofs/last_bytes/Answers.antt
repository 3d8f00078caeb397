use Rattle.std.proofs.Common.{rules}
use Rattle.frame_check.proofs.Words.{last_bytes}
use Rattle.frame_check.proofs.last_bytes.Goals as goal

pub returns : goal.returns
returns c = search (rules, last_bytes)
