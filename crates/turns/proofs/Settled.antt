-- M1 to M10, proved together: the definitions give for each what document 01 states.
use Prim.Native.Nat.{ℕ, ◌+◌, ◌≤◌}
use native.Mathlib.Omega.{arith}
use mathlib.Core.Path.{◌≡◌, refl, sym, ap, ◌∙◌}
use mathlib.Core.Bool.{Bool, true, false}
use mathlib.Core.List.{List, [], ◌∷◌, ◌++◌}
use lib.ListN.{length, replicate}
use Rattle.base.specs.Refusal.{accepted}
use Rattle.base.specs.Choice.{when◌then◌else◌}
use Rattle.base.specs.Store.{stored}
use Rattle.frame.specs.Check.{xor_from, exclusive_or}
use Rattle.frame.specs.Delimiter.{stx, ack, delimiter_of}
use Rattle.frame.specs.Frame.{frame_bytes, preamble_bytes, body_bytes, protected_bytes, header_bytes}
use Rattle.frame.specs.Write.{write_buffer, write_answer}
use Rattle.frame.specs.declared.Header.{Header}
use Rattle.frame.proofs.Longest.{written_length, longest_header, longest_is_written}
use Rattle.line.specs.Reader.{taken, taken_data, at_idle, at_preamble, at_first, at_address, at_expansion, at_command, at_count, at_data, at_check}
use Rattle.turns.specs.Master.{requested, requested_up_to}
use Rattle.turns.specs.Device.{device_takes, device_sends, answered}
use Rattle.turns.specs.Link.{device_tick}
use Rattle.turns.specs.Settled.{CheckByte, Longest, request, hearing, check_byte_is, polling_is, data_is, answer_is, longest_is, table, AllSettled, no_more, row_and}

-- the check byte of every frame with these bytes is their exclusive-or
frame_with : (h : Header) (put : List ℕ) → write_answer 5 h (length put) 284 0 ≡ accepted (5 + length (protected_bytes h put) + 1) → CheckByte (protected_bytes h put) (exclusive_or (protected_bytes h put))
unfolding frame_bytes body_bytes
frame_with h put e = record {
  header = h;
  content = put;
  has_bytes = refl;
  is_written = e;
  every = λ preamble g bytes same. ap (λ (xs : List ℕ). preamble_bytes preamble ++ (xs ++ (exclusive_or xs ∷ []))) same;
}

longest_frame : Longest 284
unfolding when◌then◌else◌
longest_frame = record {
  none_longer = λ preamble h put room place end e.
      let w = written_length preamble h put room place end e in
      (omega (arith, w.as_the_fields_say, w.at_most), omega (arith, w.as_many_bytes, w.at_most));
  preamble = 20;
  header = longest_header;
  content = replicate 255 0;
  is_written = longest_is_written;
  as_long = sym (written_length 20 longest_header (replicate 255 0) 284 0 284 longest_is_written).as_many_bytes;
}

pub all_settled : AllSettled table
unfolding hearing requested requested_up_to device_tick device_takes device_sends answered taken taken_data at_idle at_preamble at_first at_address at_expansion at_command at_count at_data at_check write_buffer write_answer frame_bytes preamble_bytes body_bytes protected_bytes header_bytes xor_from delimiter_of stored when◌then◌else◌
all_settled =
    row_and (check_byte_is (frame_with request [] refl))
    (row_and (check_byte_is (frame_with (record { kind = stx; long = true; primary = true; burst = false; address = 2; command = 3 }) [] refl))
    (row_and (check_byte_is (frame_with (record { kind = ack; long = false; primary = true; burst = false; address = 0; command = 0 }) (0 ∷ 0 ∷ []) refl))
    (row_and (polling_is refl)
    (row_and (polling_is refl)
    (row_and (data_is refl)
    (row_and (data_is refl)
    (row_and (answer_is refl)
    (row_and (answer_is refl)
    (row_and (longest_is longest_frame) no_more)))))))))
