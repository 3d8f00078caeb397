use Rattle.std.proofs.Common.{arith}
use Rattle.recording_c.proofs.Reader.{run_tick}
use Rattle.recording_c.proofs.run.Goals as goal

pub loop-i-preserved : goal.loop-i-preserved
loop-i-preserved c =
    run_tick c.args.recording.now c.args.events.now c.loop-i.r c.loop-i.events c.loop-i.i c.stepped-taken.result c.number.result c.loop-i.invariant
    (omega (arith, c.min-ticks.ensures)) (omega (arith, c.min-ticks.ensures)) c.stepped-taken.ensures c.number.ensures
