use Rattle.std.proofs.Common.{rules}
use Rattle.master_c.proofs.master_fits.Goals as goal

pub returns : goal.returns
returns c = record {
  profile = search rules;
  retries = search rules;
  timer = search rules;
  receiver = c.receiver_fits.ensures;
  message = record { header = search rules; stage = c.stage_fits.ensures; length = search rules; attempts = search rules };
}
