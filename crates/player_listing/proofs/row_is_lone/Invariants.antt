use Rattle.player_listing.specs.Rows.{row_sent}
use Rattle.player_listing.proofs.Listens.{Counting}
use Rattle.player_listing.proofs.row_is_lone.Given as goal

abbrev pub invariant-loop-c : goal.invariant-loop-c
invariant-loop-c l = Counting (row_sent l.row) l.n l.c-index
