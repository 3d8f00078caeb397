use Rattle.std.proofs.Common.{◌+◌, [], get_or}
use Rattle.player_listing.proofs.Rows.{RowHeard, RowsListed}
use Rattle.player_listing.proofs.list_ticks.Given as goal

-- the parties of a row
abbrev pub invariant-loop-i : goal.invariant-loop-i
invariant-loop-i l = RowHeard (l.tick + l.k) l.lone (get_or l.sent l.k []) l.initial.list l.initial.out l.initial.place l.list l.out l.place l.i

-- the rows
abbrev pub invariant-loop-k : goal.invariant-loop-k
invariant-loop-k l = RowsListed l.tick l.k-end l.sent l.fn.monitors l.fn.out l.fn.at l.list l.out l.place l.k
