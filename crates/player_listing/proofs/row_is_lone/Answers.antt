use Rattle.std.proofs.Common.{rules}
use Rattle.player_listing.proofs.Rows.{counted}
use Rattle.player_listing.proofs.row_is_lone.Goals as goal
use Rattle.player_listing.proofs.row_is_lone.Goals.{then-c-ge256, else-c-ge256}

pub loop-c-preserved : goal.loop-c-preserved
loop-c-preserved c = elim c.if-c-ge256.branch [ then-c-ge256 w ↦ rw w.n-is (search (rules, counted)) | else-c-ge256 w ↦ rw w.n-is (search (rules, counted)) ]
