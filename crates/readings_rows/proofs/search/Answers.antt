use Rattle.std.proofs.Common.{length, add-one, arith, ◌≡◌}
use Rattle.readings.proofs.Searches.{seeking_none, seeking_more, seeking_all}
use Rattle.readings_rows.proofs.search.Goals as goal

pub loop-i-init : goal.loop-i-init
loop-i-init c = seeking_none c.args.rows.now c.args.k

pub loop-i-preserved : goal.loop-i-preserved
loop-i-preserved c =
    rw (add-one c.loop-i.i)
    (seeking_more c.args.rows.now c.args.k c.loop-i.i c.loop-i.s c.sought_next-s.result c.loop-i.invariant (omega arith) c.sought_next-s.ensures)

pub returns : goal.returns
returns c =
    let end : c.loop-i.i ≡ length c.args.rows.now = omega arith in
    seeking_all c.args.rows.now c.args.k c.loop-i.s (rw end at c.loop-i.invariant)
