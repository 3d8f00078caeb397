use Rattle.std.proofs.Common.{rules}
use Rattle.player.proofs.Whole.{answer_is, plays_good, plays_bad}
use Rattle.player.proofs.play_form.Goals as goal

pub returns-then-is_good : goal.returns-then-is_good
returns-then-is_good c = plays_good _ _ _ _ _ (search (rules, answer_is)) c.play_good.ensures

pub returns-else-is_good : goal.returns-else-is_good
returns-else-is_good c = plays_bad _ _ _ _ _ (search (rules, answer_is)) c.put_bytes.ensures
