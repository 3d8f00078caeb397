use Rattle.std.proofs.Common.{rules}
use Rattle.master.proofs.Requests.{puts}
use Rattle.master.proofs.put_stx.Goals as goal

pub overflow_cast-result : goal.overflow_cast-result
overflow_cast-result c = search (rules, puts)

pub returns-in-Ok : goal.returns-in-Ok
returns-in-Ok c = search (rules, puts)

pub returns-in-Err : goal.returns-in-Err
returns-in-Err c = search (rules, puts)
