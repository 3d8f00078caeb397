use Rattle.std.proofs.Common.{rules}
use Rattle.player_listing.proofs.Words.{put_word}
use Rattle.player_listing.proofs.put_master_word.Goals as goal

pub returns : goal.returns
returns c = search (rules, put_word)
