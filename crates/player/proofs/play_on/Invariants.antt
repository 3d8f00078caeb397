use Rattle.std.proofs.Common.{◌-◌}
use Rattle.link_parties.specs.Stands.{rows_of}
use Rattle.player.proofs.Pieces.{Piecing}
use Rattle.player.proofs.play_on.Given as goal

abbrev pub invariant-loop-p : goal.invariant-loop-p
invariant-loop-p l = Piecing l.told l.script l.initial.p (rows_of l.fn.frames l.fn.bytes l.fn.contents) l.fn.out l.p (rows_of l.frames l.bytes l.contents) l.out

abbrev pub decreases-loop-p : goal.decreases-loop-p
decreases-loop-p l = l.told.stop - l.p.tick
