use Rattle.player.proofs.Started.{ready_stands, ready_plays}
use Rattle.player.proofs.play_good.Goals as goal

pub play_from-requires : goal.play_from-requires
play_from-requires c = ready_stands _ _ _ _ c.told_of-told.ensures c.play_begin-p.ensures.play_is c.requires

pub returns : goal.returns
returns c = ready_plays _ _ _ _ _ _ _ _ c.told_of-told.ensures c.play_begin-p.ensures c.play_from.ensures
