use Rattle.std.proofs.Common.{rules}
use Rattle.master_c.proofs.Kept.{packed_is}
use Rattle.master_c.proofs.pack.Goals as goal

pub returns : goal.returns
returns c =
    packed_is _ c.args.m _ _ _ _ _ _ _ c.front_words.ensures c.receiver_words.ensures c.end_words.ensures c.put.ensures c.put-2.ensures c.put-3.ensures (search rules)
