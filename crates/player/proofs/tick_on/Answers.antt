use Rattle.std.proofs.Common.{arith}
use Rattle.player_calls.specs.Calls.{zero_bytes}
use Rattle.player.proofs.PlaysOn.{count_fits, ticks_onward}
use Rattle.player.proofs.tick_on.Goals as goal

pub overflow_add-result : goal.overflow_add-result
unfolding zero_bytes
overflow_add-result c = omega (arith, count_fits _ _ c.args.p _ c.requires c.calls_at-wanted.result _ c.free_ticks-free.ensures _ c.few_of-few.ensures.0 _ _ _ _ _ c.ticks-t.ensures, c.tick_fits.ensures)

pub returns : goal.returns
unfolding zero_bytes
returns c =
    ticks_onward _ _ _ _ c.requires _ _ c.free_ticks-free.ensures _ c.few_of-few.ensures.0 _ _ _ _ _ c.ticks-t.ensures _ _ _ _
    c.calls_at-wanted.ensures c.calls_of-calls.ensures (λ i. omega (arith, c.type_inv.script i)) c.tick_fits.ensures c.list_ticks-heard.ensures
