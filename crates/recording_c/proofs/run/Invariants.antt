use Rattle.std.proofs.Common.{◌*◌}
use Rattle.recording.proofs.Runs.{Running}
use Rattle.recording_c.specs.Ticks.{ticked, told}
use Rattle.recording_c.proofs.run.Given as goal

abbrev pub invariant-loop-i : goal.invariant-loop-i
invariant-loop-i l = Running ticked (told l.recording) l.recording l.fn.events l.r l.events (2 * l.i) l.i
