use Rattle.std.proofs.Common.{length}
use Rattle.base.proofs.Stores.{Storing}
use Rattle.frame.specs.Frame.{preamble_bytes}
use Rattle.frame_write.proofs.put_preamble.Given as goal

abbrev pub invariant-loop-byte : goal.invariant-loop-byte
invariant-loop-byte l = Storing l.fn.part (preamble_bytes (length l.fn.part)) (length l.fn.part) l.part l.byte-index
