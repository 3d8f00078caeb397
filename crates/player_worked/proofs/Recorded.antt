-- Two scripts, cut at tick 400, with the listings that an independent simulation of document 01 gave for them: the definitions print the same.
use mathlib.Core.Path.{◌≡◌, refl}
use mathlib.Core.List.{[], ◌∷◌, ◌++◌}
use Rattle.base.specs.Choice.{when◌then◌else◌}
use Rattle.base.specs.Store.{stored}
use Rattle.texts.specs.Decimal.{decimal_of}
use Rattle.frame.specs.Check.{xor_from}
use Rattle.frame.specs.Delimiter.{delimiter_of}
use Rattle.frame.specs.Frame.{frame_bytes, preamble_bytes, body_bytes, protected_bytes, header_bytes}
use Rattle.frame.specs.Write.{write_buffer, write_answer}
use Rattle.line.specs.Reader.{taken, taken_data, at_idle, at_preamble, at_first, at_address, at_expansion, at_command, at_count, at_data, at_check}
use Rattle.turns.specs.Master.{requested, requested_up_to, master_takes, master_sends}
use Rattle.turns.specs.Device.{device_takes, device_sends, answered, content_given}
use Rattle.turns.specs.Link.{master_tick, device_tick, device_ticks, sides, carried, link_tick, run}
use Rattle.player_listing.specs.Lines.{frame_ends, ends_with, listens, lines_of, senders, tick_lines, lines_from}
use Rattle.player_listing.specs.Text.{line_text, lines_text, head_line}
use Rattle.player_script.specs.declared.Form.TheVariants.{Old}
use Rattle.player_script.specs.Script.{records_of, records_in, width, is_in, is_good, good_in, wanted_at, stop_of, calls_from}
use Rattle.player_listing.specs.Sents.{devices_sent, sent_in}
use Rattle.player.specs.Play.{ready_link, play}

-- one device bursts. The lines:
--   46 0 STX 0 14
--   80 5 ACK 0 21
--   96 5 BACK 0 16
--   111 1 STX 1 14
--   160 5 BACK 1 16
--   175 0 STX 0 14
--   227 7 ACK 0 50
--   244 5 BACK 0 16
--   259 1 STX 1 14
--   308 5 BACK 1 16
--   319 0 STX 0 10
pub one_bursts : play Old
    (0 ∷ 2 ∷ 53 ∷ 9 ∷ 0 ∷ 5 ∷ 3 ∷ 5 ∷ 0 ∷ 5 ∷ 50 ∷ 33 ∷ 0 ∷ 11 ∷ 53 ∷ 12 ∷ 0 ∷ 15 ∷ 19 ∷ 99 ∷ 0 ∷ 16 ∷ 69 ∷ 18
    ∷ 0 ∷ 18 ∷ 50 ∷ 229 ∷ 0 ∷ 21 ∷ 66 ∷ 13 ∷ 0 ∷ 25 ∷ 50 ∷ 5 ∷ 0 ∷ 26 ∷ 101 ∷ 28 ∷ 0 ∷ 29 ∷ 36 ∷ 173 ∷ 0 ∷ 29 ∷ 53 ∷ 3
    ∷ 0 ∷ 32 ∷ 3 ∷ 99 ∷ 0 ∷ 42 ∷ 66 ∷ 39 ∷ 0 ∷ 52 ∷ 98 ∷ 24 ∷ 0 ∷ 55 ∷ 37 ∷ 2 ∷ 0 ∷ 60 ∷ 68 ∷ 1 ∷ 0 ∷ 60 ∷ 84 ∷ 7
    ∷ 0 ∷ 68 ∷ 1 ∷ 2 ∷ 0 ∷ 70 ∷ 66 ∷ 4 ∷ 0 ∷ 73 ∷ 85 ∷ 11 ∷ 0 ∷ 75 ∷ 85 ∷ 37 ∷ 0 ∷ 81 ∷ 3 ∷ 7 ∷ 0 ∷ 108 ∷ 1 ∷ 54
    ∷ 0 ∷ 108 ∷ 114 ∷ 7 ∷ 0 ∷ 113 ∷ 50 ∷ 21 ∷ 0 ∷ 117 ∷ 114 ∷ 22 ∷ 0 ∷ 123 ∷ 82 ∷ 30 ∷ 0 ∷ 128 ∷ 37 ∷ 153 ∷ 0 ∷ 141 ∷ 69 ∷ 5
    ∷ 0 ∷ 143 ∷ 19 ∷ 99 ∷ 0 ∷ 146 ∷ 85 ∷ 19 ∷ 0 ∷ 152 ∷ 85 ∷ 2 ∷ 0 ∷ 154 ∷ 50 ∷ 37 ∷ 0 ∷ 154 ∷ 101 ∷ 20 ∷ 0 ∷ 162 ∷ 34 ∷ 2
    ∷ 0 ∷ 162 ∷ 98 ∷ 211 ∷ 0 ∷ 167 ∷ 3 ∷ 4 ∷ 0 ∷ 172 ∷ 3 ∷ 99 ∷ 0 ∷ 173 ∷ 50 ∷ 37 ∷ 0 ∷ 177 ∷ 98 ∷ 27 ∷ 0 ∷ 178 ∷ 117 ∷ 36
    ∷ 0 ∷ 181 ∷ 34 ∷ 3 ∷ 0 ∷ 189 ∷ 17 ∷ 4 ∷ 0 ∷ 202 ∷ 66 ∷ 34 ∷ 0 ∷ 203 ∷ 114 ∷ 204 ∷ 0 ∷ 206 ∷ 37 ∷ 17 ∷ 0 ∷ 209 ∷ 50 ∷ 35
    ∷ 0 ∷ 215 ∷ 50 ∷ 28 ∷ 0 ∷ 215 ∷ 69 ∷ 37 ∷ 0 ∷ 222 ∷ 114 ∷ 70 ∷ 0 ∷ 224 ∷ 19 ∷ 3 ∷ 0 ∷ 227 ∷ 98 ∷ 22 ∷ 0 ∷ 228 ∷ 1 ∷ 4
    ∷ 0 ∷ 229 ∷ 1 ∷ 1 ∷ 0 ∷ 231 ∷ 50 ∷ 3 ∷ 0 ∷ 237 ∷ 50 ∷ 39 ∷ 0 ∷ 246 ∷ 98 ∷ 34 ∷ 0 ∷ 252 ∷ 19 ∷ 4 ∷ 1 ∷ 0 ∷ 114 ∷ 39
    ∷ 1 ∷ 1 ∷ 84 ∷ 24 ∷ 1 ∷ 8 ∷ 50 ∷ 29 ∷ 1 ∷ 10 ∷ 98 ∷ 4 ∷ 1 ∷ 19 ∷ 34 ∷ 35 ∷ 1 ∷ 53 ∷ 17 ∷ 3 ∷ 1 ∷ 58 ∷ 101 ∷ 154
    ∷ 1 ∷ 63 ∷ 17 ∷ 64 ∷ 1 ∷ 64 ∷ 19 ∷ 5 ∷ 1 ∷ 70 ∷ 82 ∷ 6 ∷ 1 ∷ 82 ∷ 98 ∷ 181 ∷ 1 ∷ 83 ∷ 98 ∷ 23 ∷ 1 ∷ 85 ∷ 3 ∷ 2
    ∷ 1 ∷ 91 ∷ 37 ∷ 31 ∷ 1 ∷ 91 ∷ 98 ∷ 11 ∷ 1 ∷ 110 ∷ 3 ∷ 0 ∷ 1 ∷ 122 ∷ 114 ∷ 5 ∷ 1 ∷ 129 ∷ 98 ∷ 117 ∷ 1 ∷ 131 ∷ 3 ∷ 0
    ∷ 1 ∷ 131 ∷ 19 ∷ 6 ∷ 1 ∷ 134 ∷ 66 ∷ 30 ∷ 1 ∷ 139 ∷ 17 ∷ 23 ∷ 1 ∷ 142 ∷ 17 ∷ 53 ∷ 1 ∷ 144 ∷ 0 ∷ 0 ∷ [])
    ≡ head_line
    ++ (52 ∷ 54 ∷ 32 ∷ 48 ∷ 32 ∷ 83 ∷ 84 ∷ 88 ∷ 32 ∷ 48 ∷ 32 ∷ 49 ∷ 52 ∷ 10 ∷ 56 ∷ 48 ∷ 32 ∷ 53 ∷ 32 ∷ 65 ∷ 67 ∷ 75 ∷ 32 ∷ 48
    ∷ 32 ∷ 50 ∷ 49 ∷ 10 ∷ 57 ∷ 54 ∷ 32 ∷ 53 ∷ 32 ∷ 66 ∷ 65 ∷ 67 ∷ 75 ∷ 32 ∷ 48 ∷ 32 ∷ 49 ∷ 54 ∷ 10 ∷ 49 ∷ 49 ∷ 49 ∷ 32 ∷ 49
    ∷ 32 ∷ 83 ∷ 84 ∷ 88 ∷ 32 ∷ 49 ∷ 32 ∷ 49 ∷ 52 ∷ 10 ∷ 49 ∷ 54 ∷ 48 ∷ 32 ∷ 53 ∷ 32 ∷ 66 ∷ 65 ∷ 67 ∷ 75 ∷ 32 ∷ 49 ∷ 32 ∷ 49
    ∷ 54 ∷ 10 ∷ 49 ∷ 55 ∷ 53 ∷ 32 ∷ 48 ∷ 32 ∷ 83 ∷ 84 ∷ 88 ∷ 32 ∷ 48 ∷ 32 ∷ 49 ∷ 52 ∷ 10 ∷ 50 ∷ 50 ∷ 55 ∷ 32 ∷ 55 ∷ 32 ∷ 65
    ∷ 67 ∷ 75 ∷ 32 ∷ 48 ∷ 32 ∷ 53 ∷ 48 ∷ 10 ∷ 50 ∷ 52 ∷ 52 ∷ 32 ∷ 53 ∷ 32 ∷ 66 ∷ 65 ∷ 67 ∷ 75 ∷ 32 ∷ 48 ∷ 32 ∷ 49 ∷ 54 ∷ 10
    ∷ 50 ∷ 53 ∷ 57 ∷ 32 ∷ 49 ∷ 32 ∷ 83 ∷ 84 ∷ 88 ∷ 32 ∷ 49 ∷ 32 ∷ 49 ∷ 52 ∷ 10 ∷ 51 ∷ 48 ∷ 56 ∷ 32 ∷ 53 ∷ 32 ∷ 66 ∷ 65 ∷ 67
    ∷ 75 ∷ 32 ∷ 49 ∷ 32 ∷ 49 ∷ 54 ∷ 10 ∷ 51 ∷ 49 ∷ 57 ∷ 32 ∷ 48 ∷ 32 ∷ 83 ∷ 84 ∷ 88 ∷ 32 ∷ 48 ∷ 32 ∷ 49 ∷ 48 ∷ 10 ∷ [])
unfolding play records_of records_in width is_in is_good good_in wanted_at stop_of calls_from ready_link devices_sent sent_in frame_ends ends_with listens lines_of senders tick_lines lines_from decimal_of line_text lines_text run link_tick device_ticks sides carried master_tick device_tick requested requested_up_to master_takes master_sends device_takes device_sends answered content_given taken taken_data at_idle at_preamble at_first at_address at_expansion at_command at_count at_data at_check write_buffer write_answer frame_bytes preamble_bytes body_bytes protected_bytes header_bytes xor_from delimiter_of stored when◌then◌else◌
one_bursts = refl

-- two devices burst, and frames collide. The lines:
--   46 0 STX 0 14
--   86 2 ACK 0 37
--   102 2 BACK 0 16
--   117 1 STX 1 14
--   152 7 ACK 1 34
--   168 7 BACK 0 16
--   183 1 STX 1 14
--   225 4 ACK 1 41
pub two_burst : play Old
    (0 ∷ 6 ∷ 98 ∷ 10 ∷ 0 ∷ 7 ∷ 34 ∷ 5 ∷ 0 ∷ 10 ∷ 19 ∷ 7 ∷ 0 ∷ 13 ∷ 114 ∷ 11 ∷ 0 ∷ 15 ∷ 50 ∷ 86 ∷ 0 ∷ 21 ∷ 3 ∷ 2
    ∷ 0 ∷ 24 ∷ 66 ∷ 27 ∷ 0 ∷ 31 ∷ 114 ∷ 115 ∷ 0 ∷ 32 ∷ 116 ∷ 20 ∷ 0 ∷ 34 ∷ 82 ∷ 19 ∷ 0 ∷ 43 ∷ 52 ∷ 39 ∷ 0 ∷ 50 ∷ 36 ∷ 23
    ∷ 0 ∷ 63 ∷ 52 ∷ 30 ∷ 0 ∷ 68 ∷ 82 ∷ 5 ∷ 0 ∷ 74 ∷ 34 ∷ 16 ∷ 0 ∷ 75 ∷ 98 ∷ 6 ∷ 0 ∷ 77 ∷ 19 ∷ 2 ∷ 0 ∷ 78 ∷ 19 ∷ 5
    ∷ 0 ∷ 78 ∷ 98 ∷ 28 ∷ 0 ∷ 98 ∷ 68 ∷ 121 ∷ 0 ∷ 98 ∷ 82 ∷ 33 ∷ 0 ∷ 99 ∷ 3 ∷ 7 ∷ 0 ∷ 104 ∷ 50 ∷ 6 ∷ 0 ∷ 111 ∷ 34 ∷ 6
    ∷ 0 ∷ 118 ∷ 116 ∷ 20 ∷ 0 ∷ 121 ∷ 3 ∷ 2 ∷ 0 ∷ 153 ∷ 98 ∷ 29 ∷ 0 ∷ 154 ∷ 1 ∷ 3 ∷ 0 ∷ 157 ∷ 19 ∷ 4 ∷ 0 ∷ 169 ∷ 3 ∷ 2
    ∷ 0 ∷ 172 ∷ 98 ∷ 21 ∷ 0 ∷ 176 ∷ 114 ∷ 170 ∷ 0 ∷ 183 ∷ 17 ∷ 12 ∷ 0 ∷ 184 ∷ 66 ∷ 27 ∷ 0 ∷ 188 ∷ 100 ∷ 3 ∷ 0 ∷ 198 ∷ 66 ∷ 25
    ∷ 0 ∷ 202 ∷ 66 ∷ 32 ∷ 0 ∷ 204 ∷ 3 ∷ 99 ∷ 0 ∷ 205 ∷ 19 ∷ 7 ∷ 0 ∷ 206 ∷ 17 ∷ 3 ∷ 0 ∷ 216 ∷ 50 ∷ 35 ∷ 0 ∷ 217 ∷ 114 ∷ 16
    ∷ 0 ∷ 220 ∷ 116 ∷ 21 ∷ 0 ∷ 221 ∷ 50 ∷ 30 ∷ 0 ∷ 223 ∷ 36 ∷ 36 ∷ 0 ∷ 226 ∷ 19 ∷ 6 ∷ 0 ∷ 226 ∷ 36 ∷ 37 ∷ 0 ∷ 227 ∷ 114 ∷ 19
    ∷ 0 ∷ 242 ∷ 17 ∷ 3 ∷ 0 ∷ 243 ∷ 19 ∷ 3 ∷ 0 ∷ 245 ∷ 52 ∷ 15 ∷ 0 ∷ 249 ∷ 3 ∷ 7 ∷ 0 ∷ 249 ∷ 50 ∷ 39 ∷ 0 ∷ 254 ∷ 101 ∷ 29
    ∷ 1 ∷ 0 ∷ 100 ∷ 35 ∷ 1 ∷ 5 ∷ 52 ∷ 10 ∷ 1 ∷ 8 ∷ 84 ∷ 30 ∷ 1 ∷ 9 ∷ 50 ∷ 27 ∷ 1 ∷ 10 ∷ 82 ∷ 22 ∷ 1 ∷ 14 ∷ 116 ∷ 224
    ∷ 1 ∷ 25 ∷ 19 ∷ 5 ∷ 1 ∷ 32 ∷ 19 ∷ 2 ∷ 1 ∷ 56 ∷ 3 ∷ 5 ∷ 1 ∷ 58 ∷ 53 ∷ 38 ∷ 1 ∷ 82 ∷ 82 ∷ 37 ∷ 1 ∷ 92 ∷ 50 ∷ 15
    ∷ 1 ∷ 93 ∷ 68 ∷ 16 ∷ 1 ∷ 96 ∷ 1 ∷ 2 ∷ 1 ∷ 101 ∷ 50 ∷ 33 ∷ 1 ∷ 105 ∷ 98 ∷ 10 ∷ 1 ∷ 108 ∷ 82 ∷ 136 ∷ 1 ∷ 125 ∷ 66 ∷ 134
    ∷ 1 ∷ 127 ∷ 34 ∷ 17 ∷ 1 ∷ 137 ∷ 114 ∷ 28 ∷ 1 ∷ 144 ∷ 0 ∷ 0 ∷ [])
    ≡ head_line
    ++ (52 ∷ 54 ∷ 32 ∷ 48 ∷ 32 ∷ 83 ∷ 84 ∷ 88 ∷ 32 ∷ 48 ∷ 32 ∷ 49 ∷ 52 ∷ 10 ∷ 56 ∷ 54 ∷ 32 ∷ 50 ∷ 32 ∷ 65 ∷ 67 ∷ 75 ∷ 32 ∷ 48
    ∷ 32 ∷ 51 ∷ 55 ∷ 10 ∷ 49 ∷ 48 ∷ 50 ∷ 32 ∷ 50 ∷ 32 ∷ 66 ∷ 65 ∷ 67 ∷ 75 ∷ 32 ∷ 48 ∷ 32 ∷ 49 ∷ 54 ∷ 10 ∷ 49 ∷ 49 ∷ 55 ∷ 32
    ∷ 49 ∷ 32 ∷ 83 ∷ 84 ∷ 88 ∷ 32 ∷ 49 ∷ 32 ∷ 49 ∷ 52 ∷ 10 ∷ 49 ∷ 53 ∷ 50 ∷ 32 ∷ 55 ∷ 32 ∷ 65 ∷ 67 ∷ 75 ∷ 32 ∷ 49 ∷ 32 ∷ 51
    ∷ 52 ∷ 10 ∷ 49 ∷ 54 ∷ 56 ∷ 32 ∷ 55 ∷ 32 ∷ 66 ∷ 65 ∷ 67 ∷ 75 ∷ 32 ∷ 48 ∷ 32 ∷ 49 ∷ 54 ∷ 10 ∷ 49 ∷ 56 ∷ 51 ∷ 32 ∷ 49 ∷ 32
    ∷ 83 ∷ 84 ∷ 88 ∷ 32 ∷ 49 ∷ 32 ∷ 49 ∷ 52 ∷ 10 ∷ 50 ∷ 50 ∷ 53 ∷ 32 ∷ 52 ∷ 32 ∷ 65 ∷ 67 ∷ 75 ∷ 32 ∷ 49 ∷ 32 ∷ 52 ∷ 49 ∷ 10 ∷ [])
unfolding play records_of records_in width is_in is_good good_in wanted_at stop_of calls_from ready_link devices_sent sent_in frame_ends ends_with listens lines_of senders tick_lines lines_from decimal_of line_text lines_text run link_tick device_ticks sides carried master_tick device_tick requested requested_up_to master_takes master_sends device_takes device_sends answered content_given taken taken_data at_idle at_preamble at_first at_address at_expansion at_command at_count at_data at_check write_buffer write_answer frame_bytes preamble_bytes body_bytes protected_bytes header_bytes xor_from delimiter_of stored when◌then◌else◌
two_burst = refl
