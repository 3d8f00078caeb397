use Rattle.std.proofs.Common.{rules}
use Rattle.player.proofs.PlaysOn.{rests_onward, rest_room}
use Rattle.player.proofs.onward.Goals as goal

pub rest_on-requires : goal.rest_on-requires
rest_on-requires c = search (rules, rest_room)

pub returns-then-link_rests : goal.returns-then-link_rests
returns-then-link_rests c = search (rules, rests_onward)
