use Rattle.std.proofs.Common.{rules}
use Rattle.state_start_c.proofs.Starts.{reader_fresh}
use Rattle.state_start_c.proofs.nengapiko_reader_start.Goals as goal

pub returns : goal.returns
returns c = search (rules, reader_fresh)
