use Rattle.std.proofs.Common.{rules}
use Rattle.frame_write.proofs.Puts.{header_is}
use Rattle.frame_write.proofs.put_header.Goals as goal

pub returns : goal.returns
returns c = search (rules, header_is)
