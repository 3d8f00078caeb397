use Rattle.std.proofs.Common.{◌*◌}
use Rattle.recording.proofs.Runs.{Running}
use Rattle.modem_c.specs.Script.{accessed, answers}
use Rattle.modem_c.proofs.nengapiko_modem.Given as goal

abbrev pub invariant-loop-i : goal.invariant-loop-i
invariant-loop-i l = Running accessed (answers l.fn.script) l.fn.script l.fn.events l.x l.events (2 * l.i) l.i
