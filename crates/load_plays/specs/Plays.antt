-- To be believed: what the engine must do, or what is claimed of it.
-- Document 02, item 4: what is claimed of the play of every load. The run is the one that the player lists (crates/player/specs/Play.antt).
use Rattle.std.specs.Prelude.{ℕ, ◌≤◌, ◌≡◌, List, ◌++◌, length, replicate}
use Rattle.frame.specs.Limits.{most_data}
use Rattle.line.specs.Profile.{fsk_profile}
use Rattle.turns.specs.Link.{LinkStep, Calls, run}
use Rattle.turns.specs.Run.{EachTick, NoTwoSend}
use Rattle.turns.specs.Demand3.{Premises, WaitIn}
use Rattle.base.specs.Refusal.{accepted}
use Rattle.player_script.specs.declared.Form.TheVariants.{Old, New}
use Rattle.player_script.specs.Script.{stop_of, calls_from}
use Rattle.player_listing.specs.Lines.{quiet_monitor, lines_from}
use Rattle.player_listing.specs.Text.{head_line, lines_text}
use Rattle.player_listing.specs.Sents.{sent_in}
use Rattle.player_convert.specs.Turn.{turned, converted}
use Rattle.player.specs.Play.{ready_link, play}
use Rattle.load_writer.specs.Load.{load, script_bytes}
use Rattle.load_writer.specs.Write.{most_records}
use Rattle.load_plays.specs.Occur.{EachKind}

-- the calls of the ticks before the stop
abbrev pub calls_of : ℕ → ℕ → List Calls
calls_of seed count = calls_from 0 (stop_of (load seed count)) (load seed count)

-- the play
unfoldable pub play_of : ℕ → ℕ → List LinkStep
play_of seed count = run most_data ready_link (calls_of seed count)

-- the player prints its listing
abbrev pub PlaysIt : Type 0
PlaysIt =
    (seed count : ℕ) → 1 ≤ count → count ≤ most_records
    → play Old (script_bytes (load seed count)) ≡ head_line ++ lines_text (lines_from 0 (replicate 8 quiet_monitor) (sent_in (play_of seed count)))

-- document 02, item 11: "the generator's listings are compared on the new form". Every load turns into it, and there the player prints the same listing.
abbrev pub PlaysNew : Type 0
PlaysNew =
    (seed count room : ℕ) → 1 ≤ count → count ≤ most_records → length (turned New (load seed count)) ≤ room
    → (converted Old (script_bytes (load seed count)) room ≡ accepted (turned New (load seed count)))
    × (play New (turned New (load seed count)) ≡ play Old (script_bytes (load seed count)))

-- "within the premises on which the longest wait rests"
abbrev pub WithinPremises : Type 0
WithinPremises = (seed count : ℕ) → Premises most_data fsk_profile 3 ready_link (calls_of seed count)

-- so demand 3 holds of it
abbrev pub NoTwoSendInAPlay : Type 0
NoTwoSendInAPlay = (seed count : ℕ) → EachTick NoTwoSend (play_of seed count)

abbrev pub WaitInAPlay : Type 0
WaitInAPlay = (seed count : ℕ) → WaitIn most_data fsk_profile 3 (play_of seed count)

-- "in every play each kind listed occurs": this holds from 13 records on, where document 02 asks it from 64 on
abbrev pub KindsOccur : Type 0
KindsOccur = (seed count : ℕ) → 13 ≤ count → EachKind ready_link fsk_profile.sto 3 (calls_of seed count) (play_of seed count)
