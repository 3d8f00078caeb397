use Rattle.std.proofs.Common.{rules}
use Rattle.texts.proofs.Puts.{put_then}
use Rattle.player_listing.proofs.put_number_word.Goals as goal

pub returns : goal.returns
returns c = search (rules, put_then)
