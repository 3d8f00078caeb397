-- To be believed: what the engine must do, or what is claimed of it.
-- Document 02, item 11: "with every value kept". What is claimed of every script that was turned. That it plays to the same listing is claimed in crates/player/specs/Turned.antt.
use Rattle.std.specs.Prelude.{ℕ, ◌≤◌, ◌<◌, true, List, ◌≡◌, length, get_or}
use Rattle.base.specs.Choice.{◌<?◌}
use Rattle.base.specs.Refusal.{accepted}
use Rattle.player_script.specs.Script.{records_in, good_in, stop_of}
use Rattle.player_script.specs.declared.Form.{Form}
use Rattle.player_convert.specs.Turn.{other, any_above, converted}

-- the result is a good script of the other form, with the same records
pub record KeptBy (f : Form) (script result : List ℕ) : Type 0 where
  pub good : good_in (other f) result ≡ true
  pub same_records : records_in (other f) result ≡ records_in f script

abbrev pub TurnKeeps : Type 0
TurnKeeps = (f : Form) (script result : List ℕ) (room : ℕ) → converted f script room ≡ accepted result → KeptBy f script result

abbrev pub Bytes : List ℕ → Type 0
Bytes s = (i : ℕ) → get_or s i 0 < 256

-- turned into the other form and back, a script has the same bytes again
abbrev pub ThereAndBack : Type 0
ThereAndBack =
    (f : Form) (script result : List ℕ) (room back : ℕ) → Bytes script → converted f script room ≡ accepted result → length script ≤ back
    → converted (other f) result back ≡ accepted script

-- a good script's ticks do not fall and its stop is last, so the stop's tick decides whether some record's tick is too large
abbrev pub StopDecides : Type 0
StopDecides = (f : Form) (most : ℕ) (script : List ℕ) → good_in f script ≡ true → any_above most (records_in f script) ≡ (most <? stop_of (records_in f script))
