use Rattle.player_input.proofs.Rooms.{room_less}
use Rattle.player_input.proofs.Told.{end_held}
use Rattle.player_input.proofs.read_long.Goals as goal

pub returns-then-n-lt-PIECE : goal.returns-then-n-lt-PIECE
returns-then-n-lt-PIECE g c = end_held _ _ _ c.end_of.result c.end_of.ensures

pub loop-last-smaller : goal.loop-last-smaller
loop-last-smaller g c = room_less c.args.form c.loop-last.room c.loop-last.marks c.walk_front.new.marks c.loop-last.last c.in-Some.tick c.walk_front.result c.loop-last.invariant c.walk_front.ensures c.in-Some.is c.loop-last-test.true
