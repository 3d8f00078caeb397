use Rattle.std.proofs.Common.{rules}
use Rattle.base.proofs.Choices.{choices}
use Rattle.link_parties.proofs.if_hears.Goals.{then-follows, else-follows, else-quiet-via-then-quiet+else-eq, else-quiet-via-else-quiet}
use Rattle.link_parties.proofs.if_hears.Goals as goal

pub returns-then-eq : goal.returns-then-eq
returns-then-eq c = elim c.if-follows.branch [ then-follows w ↦ search (rules, choices) | else-follows w ↦ search (rules, choices) ]

pub returns-else-quiet : goal.returns-else-quiet
returns-else-quiet c =
    elim c.else-quiet.branch [
      | else-quiet-via-then-quiet+else-eq w ↦ elim w.if-follows.branch [ then-follows x ↦ search (rules, choices) | else-follows x ↦ search (rules, choices) ]
      | else-quiet-via-else-quiet w ↦ search (rules, choices)
    ]
