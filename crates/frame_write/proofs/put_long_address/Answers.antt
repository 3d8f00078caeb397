use Rattle.std.proofs.Common.{rules}
use Rattle.frame_write.proofs.Puts.{first_small, long_address_put}
use Rattle.frame_write.proofs.put_long_address.Goals as goal

pub first_byte-requires : goal.first_byte-requires
first_byte-requires c = search (rules, first_small)

pub returns : goal.returns
returns c = search (rules, long_address_put)
