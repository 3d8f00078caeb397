use Rattle.std.proofs.Common.{◌-◌, length}
use Rattle.player_script.proofs.Calls.{Walking}
use Rattle.player_script.proofs.calls_at.Given as goal

abbrev pub invariant-loop-t : goal.invariant-loop-t
invariant-loop-t l = Walking l.form l.script l.at l.tick l.t

abbrev pub decreases-loop-t : goal.decreases-loop-t
decreases-loop-t l = length l.script - l.t.next
