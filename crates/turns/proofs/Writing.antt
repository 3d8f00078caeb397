-- What the frame writer leaves in a lent buffer: one of the same length, and with the frame stored from its first byte on where the fields fit and there is room for the longest frame.
use Prim.Native.Nat.{ℕ, ◌≤◌}
use native.Mathlib.Omega.{arith}
use mathlib.Core.Path.{◌≡◌, refl, sym, ap}
use mathlib.Core.List.{List}
use lib.ListN.{length}
use Rattle.base.specs.Refusal.{Called, accepted, refused}
use Rattle.base.specs.Store.{stored}
use Rattle.base.proofs.Stores.{length_stored}
use Rattle.frame.specs.Frame.{frame_bytes}
use Rattle.frame.specs.Write.{write_answer, buffer_by, write_buffer}
use Rattle.frame.specs.declared.Header.{Header}
use Rattle.frame.proofs.Taken.{Fits, fits_taken}
use Rattle.frame.proofs.Longest.{address_at_most}

pub written_stored : (preamble : ℕ) (h : Header) (bytes frame : List ℕ) → Fits preamble h (length bytes) → 284 ≤ length frame
    → write_buffer preamble h bytes frame 0 ≡ stored frame 0 (frame_bytes preamble h bytes)
unfolding write_buffer
written_stored preamble h bytes frame f room =
    ap (λ (w : Called ℕ). buffer_by w frame 0 (frame_bytes preamble h bytes))
    (sym (fits_taken preamble h (length bytes) (length frame) 0 f (omega (arith, f.preamble_high, f.count_high, address_at_most h.long))))

pub length_written : (preamble : ℕ) (h : Header) (bytes frame : List ℕ) → length (write_buffer preamble h bytes frame 0) ≡ length frame
unfolding write_buffer
length_written preamble h bytes frame = by (write_answer preamble h (length bytes) (length frame) 0)
  where
    by : (w : Called ℕ) → length (buffer_by w frame 0 (frame_bytes preamble h bytes)) ≡ length frame
    by (accepted end) = length_stored frame 0 (frame_bytes preamble h bytes)
    by (refused why) = refl
