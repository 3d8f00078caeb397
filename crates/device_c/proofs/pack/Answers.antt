use Rattle.std.proofs.Common.{rules}
use Rattle.device_c.proofs.Packs.{packed_is}
use Rattle.device_c.proofs.pack.Goals as goal

pub returns : goal.returns
returns c =
    packed_is _ c.args.d _ _ _ _ _ _ _ _ _
    c.settings_words.ensures
    c.receiver_words.ensures
    c.answering_words.ensures
    c.bursting_words.ensures
    c.put.ensures
    c.put-2.ensures
    c.put-3.ensures
    c.put-4.ensures
    (search rules)
