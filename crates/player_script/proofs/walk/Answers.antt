use Rattle.std.proofs.Common.{rules}
use Rattle.player_script.proofs.Walks.{passes}
use Rattle.player_script.proofs.walk.Goals as goal
use Rattle.player_script.proofs.walk.Goals.{then-e-last-via-then-e-last, then-e-last-via-else-e-last+then-not-is_call, then-e-last-via-else-e-last+else-not-is_call+then-marks-e}

-- a falling tick, no call, or a second call to a party
pub returns-then-e-last : goal.returns-then-e-last
returns-then-e-last c =
    elim c.then-e-last.branch [
      | then-e-last-via-then-e-last w ↦ search (rules, passes)
      | then-e-last-via-else-e-last+then-not-is_call w ↦ search (rules, passes)
      | then-e-last-via-else-e-last+else-not-is_call+then-marks-e w ↦ search (rules, passes)
    ]
