-- To be believed: what the engine must do, or what is claimed of it.
-- Document 01, "The player": the link that stands ready, and the listing.
use Rattle.std.specs.Prelude.{ℕ, ◌-◌, true, false, List, [], ◌∷◌, ◌++◌, replicate}
use Rattle.base.specs.Choice.{when◌then◌else◌}
use Rattle.base.specs.Refusal.{Called, accepted, refused}
use Rattle.frame.specs.Limits.{most_data, longest_frame}
use Rattle.line.specs.Profile.{fsk_profile}
use Rattle.line.specs.declared.Heard.TheVariants.{Silence}
use Rattle.turns.specs.Master.{fresh_master}
use Rattle.turns.specs.Device.{fresh_device}
use Rattle.turns.specs.Link.{DeviceSide, Link, run}
use Rattle.player_script.specs.Script.{form_of, records_in, good_in, stop_of, calls_from}
use Rattle.player_script.specs.declared.Entry.{Entry}
use Rattle.player_script.specs.declared.Form.{Form}
use Rattle.player_listing.specs.Lines.{quiet_monitor, lines_from}
use Rattle.player_listing.specs.Text.{decimal, head_line, lines_text}
use Rattle.player_listing.specs.Sents.{sent_in}

-- "2 to 7 devices with polling address party − 2 and unique address equal to the party"; "FSK, R 3, preamble 5"
abbrev pub ready : ℕ → DeviceSide
ready party = record {
  device = fresh_device fsk_profile 5 (party - 2) party;
  frame = replicate (longest_frame most_data) 0;
  bytes = replicate most_data 0;
  contents = replicate most_data 0;
}

unfoldable pub ready_link : Link
ready_link = record {
  primary = record { master = fresh_master fsk_profile true 3; frame = replicate (longest_frame most_data) 0; bytes = replicate most_data 0 };
  secondary = record { master = fresh_master fsk_profile false 3; frame = replicate (longest_frame most_data) 0; bytes = replicate most_data 0 };
  devices = ready 2 ∷ ready 3 ∷ ready 4 ∷ ready 5 ∷ ready 6 ∷ ready 7 ∷ [];
  line = Silence;
}

-- ---- the player

abbrev pub listing : List Entry → List ℕ
listing es = head_line ++ lines_text (lines_from 0 (replicate 8 quiet_monitor) (sent_in (run most_data ready_link (calls_from 0 (stop_of es) es))))

-- "16: bad script"
abbrev pub script_taken : Form → List ℕ → Called (List Entry)
script_taken form script = when good_in form script then accepted (records_in form script) else refused 16

-- the listing; or the number of the refusal, a line of its own: "the output is then that number alone"
abbrev pub output_of : Called (List Entry) → List ℕ
output_of (accepted es) = listing es
output_of (refused why) = decimal why ++ (10 ∷ [])

unfoldable pub play : Form → List ℕ → List ℕ
play form script = output_of (script_taken form script)

-- "The player is told the record size": for a script whose records have so many bytes. "It refuses a record size other than 4 or 6 with 24, printed as 16 is, then 16"
abbrev pub sized_taken : Called Form → List ℕ → Called (List Entry)
sized_taken (accepted form) script = script_taken form script
sized_taken (refused why) script = refused why

unfoldable pub play_sized : ℕ → List ℕ → List ℕ
play_sized size script = output_of (sized_taken (form_of size) script)
