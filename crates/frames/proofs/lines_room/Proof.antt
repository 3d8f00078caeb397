use Rattle.std.proofs.Common.{ℕ, sym}
use lib.ListN.{length-replicate}
use Rattle.frames.proofs.lines_room.Statement.{statement}
use Rattle.frames.proofs.lines_room.Tie as tie

returns : tie.Need-returns
returns c = sym (length-replicate {A = ℕ} 1843200 0)

pub lines_room_spec : {M : Type 1} → statement M
lines_room_spec = tie.close (tie.spec returns)
