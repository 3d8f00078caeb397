use Rattle.std.proofs.Common.{rules}
use Rattle.load_writer.proofs.Places.{fitting}
use Rattle.load_writer.proofs.Puts.{fronts}
use Rattle.load_writer.proofs.put_front.Goals as goal

pub put_record-requires : goal.put_record-requires
put_record-requires c = search (rules, fitting, fronts)
