use Rattle.std.proofs.Common.{rules}
use Rattle.player_listing.proofs.Listens.{tells, told_other}
use Rattle.player_listing.proofs.ends_with.Goals as goal

pub returns-in-Frame : goal.returns-in-Frame
returns-in-Frame c = search (rules, tells)

pub returns-in_default : goal.returns-in_default
returns-in_default c = told_other _ _ _ _ _ _ _ c.in_default.not-Frame
