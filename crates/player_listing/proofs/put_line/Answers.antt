use Rattle.std.proofs.Common.{rules}
use Rattle.player_listing.proofs.Words.{put_line}
use Rattle.player_listing.proofs.put_line.Goals as goal

pub returns : goal.returns
returns c = search (rules, put_line)
