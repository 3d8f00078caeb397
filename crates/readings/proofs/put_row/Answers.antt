use Rattle.readings.proofs.Puts.{row_put}
use Rattle.readings.proofs.put_row.Goals as goal

pub returns : goal.returns
returns c = row_put c.args.area.now c.copy.new.to c.args.i c.args.tick c.args.w c.args.bytes.now c.args.was c.row_for.result c.row_for.ensures c.copy.ensures
