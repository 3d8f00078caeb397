use Rattle.std.proofs.Common.{rules}
use Rattle.frame_write.proofs.Puts.{byte_put}
use Rattle.frame_write.proofs.put_byte.Goals as goal

pub returns : goal.returns
returns c = search (rules, byte_put)
