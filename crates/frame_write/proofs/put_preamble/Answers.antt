use Rattle.std.proofs.Common.{rules}
use Rattle.frame_write.proofs.Puts.{preambles}
use Rattle.frame_write.proofs.put_preamble.Goals as goal

pub loop-byte-init : goal.loop-byte-init
loop-byte-init c = search (rules, preambles)

pub loop-byte-preserved : goal.loop-byte-preserved
loop-byte-preserved c = search (rules, preambles)

pub returns : goal.returns
returns c = search (rules, preambles)
