use Rattle.std.proofs.Common.{rules}
use Rattle.load_writer.proofs.Places.{fitting}
use Rattle.load_writer.proofs.Puts.{scripts}
use Rattle.load_writer.proofs.put_script.Goals as goal

pub put_record-requires : goal.put_record-requires
put_record-requires c = search (rules, fitting, scripts)

pub returns-then-count-le12 : goal.returns-then-count-le12
returns-then-count-le12 c = search (rules, fitting, scripts)
