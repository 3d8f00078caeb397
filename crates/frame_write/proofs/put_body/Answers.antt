use Rattle.std.proofs.Common.{rules}
use Rattle.frame_write.proofs.Puts.{body_put}
use Rattle.frame_write.proofs.put_body.Goals as goal

pub returns : goal.returns
returns c = search (rules, body_put)
