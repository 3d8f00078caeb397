-- Document 01's example, computed: what the player prints for its input.
use mathlib.Core.Path.{◌≡◌, refl}
use mathlib.Core.List.{[], ◌∷◌, ◌++◌}
use Rattle.base.specs.Choice.{when◌then◌else◌}
use Rattle.base.specs.Store.{stored}
use Rattle.texts.specs.Decimal.{decimal_of}
use Rattle.frame.specs.Check.{xor_from}
use Rattle.frame.specs.Delimiter.{delimiter_of}
use Rattle.frame.specs.Frame.{frame_bytes, preamble_bytes, body_bytes, protected_bytes, header_bytes}
use Rattle.frame.specs.Write.{write_buffer, write_answer}
use Rattle.line.specs.Reader.{taken, taken_data, at_idle, at_preamble, at_first, at_address, at_expansion, at_command, at_count, at_data, at_check}
use Rattle.turns.specs.Master.{requested, requested_up_to, master_takes, master_sends}
use Rattle.turns.specs.Device.{device_takes, device_sends, answered, content_given}
use Rattle.turns.specs.Link.{master_tick, device_tick, device_ticks, sides, carried, link_tick, run}
use Rattle.player_listing.specs.Lines.{frame_ends, ends_with, listens, lines_of, senders, tick_lines, lines_from}
use Rattle.player_listing.specs.Text.{line_text, lines_text, head_line}
use Rattle.player_script.specs.declared.Form.TheVariants.{Old}
use Rattle.player_script.specs.Script.{records_of, records_in, width, is_in, is_good, good_in, wanted_at, stop_of, calls_from}
use Rattle.player_listing.specs.Sents.{devices_sent, sent_in}
use Rattle.player.specs.Play.{ready_link, play}

-- 42 0 STX 0 10, and 55 2 ACK 0 12
pub worked_example : play Old (0x00 ∷ 0x00 ∷ 0x01 ∷ 0x00 ∷ 0x00 ∷ 0x2C ∷ 0x22 ∷ 0x02 ∷ 0x00 ∷ 0x3C ∷ 0x00 ∷ 0x00 ∷ [])
    ≡ head_line
    ++ (52 ∷ 50 ∷ 32 ∷ 48 ∷ 32 ∷ 83 ∷ 84 ∷ 88 ∷ 32 ∷ 48 ∷ 32 ∷ 49 ∷ 48 ∷ 10
    ∷ 53 ∷ 53 ∷ 32 ∷ 50 ∷ 32 ∷ 65 ∷ 67 ∷ 75 ∷ 32 ∷ 48 ∷ 32 ∷ 49 ∷ 50 ∷ 10 ∷ [])
unfolding play records_of records_in width is_in is_good good_in wanted_at stop_of calls_from ready_link devices_sent sent_in frame_ends ends_with listens lines_of senders tick_lines lines_from decimal_of line_text lines_text run link_tick device_ticks sides carried master_tick device_tick requested requested_up_to master_takes master_sends device_takes device_sends answered content_given taken taken_data at_idle at_preamble at_first at_address at_expansion at_command at_count at_data at_check write_buffer write_answer frame_bytes preamble_bytes body_bytes protected_bytes header_bytes xor_from delimiter_of stored when◌then◌else◌
worked_example = refl
