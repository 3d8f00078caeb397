use Rattle.std.proofs.Common.{rules, arith}
use Rattle.frame_check.proofs.Words.{word_loaded}
use Rattle.frame_check.proofs.word.Goals as goal

pub returns : goal.returns
returns c = word_loaded _ _ _ c.requires (λ k. omega (arith, c.type_inv.p k)) (search rules)
