use Rattle.std.proofs.Common.{rules, arith}
use Rattle.player_convert.proofs.Widening.{widen_more, widen_ended}
use Rattle.player_convert.proofs.widen.Goals as goal

pub loop-at-preserved : goal.loop-at-preserved
loop-at-preserved c = widen_more _ _ _ _ _ c.loop-at.invariant c.loop-at-test.true (λ i. omega (arith, c.type_inv.script i)) _ _ (omega arith) (search rules)

pub returns : goal.returns
returns c = let ended = widen_ended _ _ _ _ _ c.loop-at.invariant c.loop-at-test.false in record { count = ended.0; bytes = ended.1 }
