-- To be believed: what the engine must do, or what is claimed of it.
-- Document 02, item 11: "Old scripts turn into new ones, and new ones whose ticks fit back, with every value kept, and play to the same listing."
use Rattle.std.specs.Prelude.{ℕ, List, ◌≡◌}
use Rattle.base.specs.Refusal.{accepted}
use Rattle.player_script.specs.declared.Form.{Form}
use Rattle.player_convert.specs.Turn.{other, converted}
use Rattle.player.specs.Play.{play}

abbrev pub PlaysSame : Type 0
PlaysSame = (f : Form) (script result : List ℕ) (room : ℕ) → converted f script room ≡ accepted result → play (other f) result ≡ play f script
