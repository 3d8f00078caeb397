-- What the search has found among the rows that it has looked at.
use Rattle.readings.proofs.Searches.{Seeking}
use Rattle.readings_rows.proofs.search.Given as goal

abbrev pub invariant-loop-i : goal.invariant-loop-i
invariant-loop-i l = Seeking l.rows l.k l.i l.s
