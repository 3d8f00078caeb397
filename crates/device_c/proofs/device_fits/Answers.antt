use Rattle.std.proofs.Common.{rules}
use Rattle.device_c.proofs.device_fits.Goals as goal

pub returns : goal.returns
returns c = record {
  profile = search rules;
  receiver = c.receiver_fits.ensures;
  turn = c.turn_fits.ensures;
  request = search rules;
  content = search rules;
  numbers = search rules;
}
