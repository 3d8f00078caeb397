-- Theorem: every written frame is as long as its fields say, the longest frame is 284 bytes, and there is one of that length.
use Prim.Native.Nat.{ℕ, ◌+◌, ◌≤◌}
use native.Mathlib.Omega.{arith}
use mathlib.Core.Path.{◌≡◌, refl}
use mathlib.Core.Bool.{Bool, true, false}
use mathlib.Core.List.{List}
use lib.ListN.{length}
use Rattle.base.specs.Choice.{when◌then◌else◌}
use Rattle.base.specs.Refusal.{accepted}
use Rattle.frame.specs.Limits.{most_preambles, most_data, longest_frame}
use Rattle.frame.specs.Delimiter.{ack}
use Rattle.frame.specs.Address.{address_length}
use Rattle.frame.specs.Frame.{frame_bytes, frame_length}
use Rattle.frame.specs.Write.{write_answer}
use Rattle.frame.proofs.Lengths.{frame_count}
use Rattle.frame.proofs.Taken.{taken}
use Rattle.frame.specs.declared.Header.{Header}

pub address_at_most : (long : Bool) → address_length long ≤ 5
unfolding when◌then◌else◌
address_at_most true = omega arith
address_at_most false = omega arith

pub record Length (preamble : ℕ) (h : Header) (bytes : List ℕ) (place end : ℕ) : Type 0 where
  pub as_the_fields_say : end ≡ place + frame_length preamble h (length bytes)
  pub as_many_bytes : frame_length preamble h (length bytes) ≡ length (frame_bytes preamble h bytes)
  pub at_most : frame_length preamble h (length bytes) ≤ longest_frame most_data

pub written_length : (preamble : ℕ) (h : Header) (bytes : List ℕ) (room place end : ℕ) → write_answer preamble h (length bytes) room place ≡ accepted end → Length preamble h bytes place end
written_length preamble h bytes room place end e =
    let told = taken preamble h (length bytes) room place end e in
    record {
      as_the_fields_say = told.end_is;
      as_many_bytes = frame_count preamble h bytes;
      at_most = omega (arith, told.fits.preamble_high, told.fits.count_high, address_at_most h.long);
    }

abbrev pub longest_header : Header
longest_header = record { kind = ack; long = true; primary = true; burst = false; address = 1; command = 0 }

pub longest_is_written : write_answer most_preambles longest_header most_data (longest_frame most_data) 0 ≡ accepted 284
unfolding write_answer when◌then◌else◌
longest_is_written = refl
