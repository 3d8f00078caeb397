-- What the search has found among the rows that it has looked at.
use Rattle.readings.specs.Search.{rows_of}
use Rattle.readings.proofs.Searches.{Seeking}
use Rattle.readings.proofs.search.Given as goal

abbrev pub invariant-loop-i : goal.invariant-loop-i
invariant-loop-i l = Seeking (rows_of l.numbers) l.k l.i l.s
