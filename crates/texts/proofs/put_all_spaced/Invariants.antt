use Rattle.texts.proofs.Puts.{Spacing}
use Rattle.texts.proofs.put_all_spaced.Given as goal

abbrev pub invariant-loop-byte : goal.invariant-loop-byte
invariant-loop-byte l = Spacing l.bytes l.fn.out l.at l.out l.place l.byte-index
