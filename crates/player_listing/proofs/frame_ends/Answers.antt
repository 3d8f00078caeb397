use Rattle.std.proofs.Common.{rules}
use Rattle.player_listing.proofs.Listens.{ends}
use Rattle.player_listing.proofs.frame_ends.Goals as goal
use Rattle.player_listing.proofs.frame_ends.Goals.{then-alone, else-alone}

pub returns : goal.returns
returns c = elim c.if-alone.branch [ then-alone w ↦ rw (w.at-is, w.out-is) (search (rules, ends)) | else-alone w ↦ rw (w.at-is, w.out-is) (search (rules, ends)) ]
