-- The opening, computed: each kind occurs in its 400 ticks.
use mathlib.Core.Path.{◌≡◌, refl}
use mathlib.Core.Bool.{true, false}
use mathlib.Core.List.{List, [], ◌∷◌}
use lib.ListN.{length}
use Rattle.base.specs.Choice.{when◌then◌else◌}
use Rattle.base.specs.Store.{stored}
use Rattle.frame.specs.Check.{xor_from}
use Rattle.frame.specs.Delimiter.{stx, delimiter_of}
use Rattle.frame.specs.Frame.{frame_bytes, preamble_bytes, body_bytes, protected_bytes, header_bytes}
use Rattle.frame.specs.Limits.{most_data}
use Rattle.frame.specs.Write.{write_buffer, write_answer}
use Rattle.line.specs.Reader.{taken, taken_data, silent_inside, at_idle, at_preamble, at_first, at_address, at_expansion, at_command, at_count, at_data, at_check}
use Rattle.line.specs.declared.Whole.{Whole}
use Rattle.turns.specs.Master.{requested, requested_up_to, master_takes, master_sends}
use Rattle.turns.specs.Device.{device_takes, device_sends, answered, content_given}
use Rattle.turns.specs.Link.{requests, gives_answer, LinkStep, Calls, master_tick, device_tick, device_ticks, sides, carried, link_tick, run}
use Rattle.turns.specs.Run.{device_senders}
use Rattle.turns.specs.Attempts.{stx_header}
use Rattle.turns.specs.declared.CallResult.{CallResult}
use Rattle.turns.specs.declared.DeviceTold.{DeviceTold}
use Rattle.turns.specs.declared.MasterTold.TheVariants.{GivenUp}
use Rattle.turns.specs.declared.Request.{Request}
use Rattle.turns.specs.declared.Wish.TheVariants.{Same}
use Rattle.player_script.specs.Script.{wanted_at, stop_of, calls_from}
use Rattle.player.specs.Play.{ready_link}
use Rattle.load_writer.specs.Load.{opening}
use Rattle.load_plays.specs.Occur.{shown_at, asked, asked_result, master_told, gave, gave_result, device_told, bursts, between, untouched, characters_sent, times}

-- the calls before tick 400, and what every party does
unfoldable pub opening_calls : List Calls
opening_calls = calls_from 0 400 opening

unfoldable pub opening_steps : List LinkStep
opening_steps = run most_data ready_link opening_calls

-- the request to address 8, and that to party 3 in the STX of the secondary
abbrev pub absent_request : Request
absent_request = record { preamble = 5; revision = 7; long = true; address = 8; command = 3 }

abbrev pub told_request : Whole
told_request = record { header = record { kind = stx; long = true; primary = false; burst = false; address = 3; command = 3 }; expansion = 0; count = 0 }

pub calls_long : length opening_calls ≡ 400
unfolding opening_calls calls_from
calls_long = refl

pub asks : asked true 0 opening_calls ≡ requests absent_request []
unfolding opening_calls opening wanted_at stop_of calls_from ready_link run link_tick device_ticks sides carried master_tick device_tick requested requested_up_to master_takes master_sends device_takes device_sends answered content_given taken taken_data silent_inside at_idle at_preamble at_first at_address at_expansion at_command at_count at_data at_check write_buffer write_answer frame_bytes preamble_bytes body_bytes protected_bytes header_bytes xor_from delimiter_of stored device_senders shown_at untouched characters_sent times when◌then◌else◌
asks = refl

pub answers : gave 1 271 opening_calls ≡ gives_answer Same (0 ∷ 0 ∷ [])
unfolding opening_calls opening wanted_at stop_of calls_from ready_link run link_tick device_ticks sides carried master_tick device_tick requested requested_up_to master_takes master_sends device_takes device_sends answered content_given taken taken_data silent_inside at_idle at_preamble at_first at_address at_expansion at_command at_count at_data at_check write_buffer write_answer frame_bytes preamble_bytes body_bytes protected_bytes header_bytes xor_from delimiter_of stored device_senders shown_at untouched characters_sent times when◌then◌else◌
answers = refl

-- what is told and what becomes of the calls
pub record Shown (steps : List LinkStep) : Type 0 where
  pub primary_taken : asked_result true 0 steps ≡ CallResult.Taken
  pub secondary_taken : asked_result false 0 steps ≡ CallResult.Taken
  pub given_up : master_told true 221 steps ≡ GivenUp 4
  pub attempts : characters_sent true (between 0 221 steps) ≡ times 4 (frame_bytes 5 (stx_header true absent_request) [])
  pub is_told : device_told 1 243 steps ≡ DeviceTold.Request told_request
  pub since : untouched 1 (between 243 271 steps) ≡ true
  pub late : gave_result 1 271 steps ≡ CallResult.Refused 8
  pub off_before : bursts 0 291 steps ≡ false
  pub is_on : bursts 0 292 steps ≡ true
  pub on_before : bursts 0 390 steps ≡ true
  pub is_off : bursts 0 391 steps ≡ false

pub opened : Shown opening_steps
unfolding opening_steps opening_calls opening wanted_at stop_of calls_from ready_link run link_tick device_ticks sides carried master_tick device_tick requested requested_up_to master_takes master_sends device_takes device_sends answered content_given taken taken_data silent_inside at_idle at_preamble at_first at_address at_expansion at_command at_count at_data at_check write_buffer write_answer frame_bytes preamble_bytes body_bytes protected_bytes header_bytes xor_from delimiter_of stored device_senders shown_at untouched characters_sent times when◌then◌else◌
opened = record {
  primary_taken = refl;
  secondary_taken = refl;
  given_up = refl;
  attempts = refl;
  is_told = refl;
  since = refl;
  late = refl;
  off_before = refl;
  is_on = refl;
  on_before = refl;
  is_off = refl;
}
