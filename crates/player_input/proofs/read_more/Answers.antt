use Rattle.player_input.proofs.Rooms.{end_stays}
use Rattle.player_input.proofs.read_more.Goals as goal

pub returns : goal.returns
returns g c = end_stays _ _ _ _ c.requires c.keep_end.ensures
