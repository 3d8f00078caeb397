use Rattle.std.proofs.Common.{ℕ, sym}
use lib.ListN.{length-replicate}
use Rattle.capture.proofs.packets_room.Statement.{statement}
use Rattle.capture.proofs.packets_room.Tie as tie

returns : tie.Need-returns
returns c = sym (length-replicate {A = ℕ} 653312 0)

pub packets_room_spec : {M : Type 1} → statement M
packets_room_spec = tie.close (tie.spec returns)
