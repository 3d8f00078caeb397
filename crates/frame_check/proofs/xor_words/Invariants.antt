use Rattle.frame_check.proofs.Words.{Worded}
use Rattle.frame_check.proofs.xor_words.Given as goal

abbrev pub invariant-loop-i : goal.invariant-loop-i
invariant-loop-i l = Worded l.first l.bytes l.start l.count l.sum l.i
