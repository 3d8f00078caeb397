use Rattle.std.proofs.Common.{rules}
use Rattle.frame_write.proofs.Puts.{copying}
use Rattle.frame_write.proofs.put_data.Goals as goal

pub loop-i-init : goal.loop-i-init
loop-i-init c = search (rules, copying)

pub loop-i-preserved : goal.loop-i-preserved
loop-i-preserved c = search (rules, copying)

pub returns : goal.returns
returns c = search (rules, copying)
