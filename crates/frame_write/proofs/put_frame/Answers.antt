use Rattle.std.proofs.Common.{rules}
use Rattle.frame_write.proofs.Puts.{frame_put}
use Rattle.frame_write.proofs.put_frame.Goals as goal

pub returns : goal.returns
returns c = search (rules, frame_put)
