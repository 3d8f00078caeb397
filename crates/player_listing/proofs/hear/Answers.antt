use Rattle.std.proofs.Common.{rules}
use Rattle.base.proofs.Choices.{choices}
use Rattle.player_listing.proofs.Listens.{hears}
use Rattle.player_listing.proofs.hear.Goals as goal
use Rattle.player_listing.proofs.hear.Goals.{then-monitor, else-monitor}

pub returns : goal.returns
returns c =
    hears _ _ _ _ _ _ _ _ _ _ _ _ _ c.heard_character-t.ensures c.one_more-count.ensures
    (elim c.if-monitor.branch [ then-monitor w ↦ search (rules, choices) | else-monitor w ↦ search (rules, choices) ])
    c.ends_with.ensures
