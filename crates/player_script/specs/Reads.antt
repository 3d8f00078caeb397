-- Inner contracts: nothing that is to be believed rests on them.
-- Reading a script tick by tick, from a place that moves on.
use Rattle.std.specs.Prelude.{ℕ, ◌≤◌, List, [], ◌∷◌, ◌≡◌, drop}
use Rattle.player_script.specs.Script.{records_in, wanted_at}
use Rattle.player_script.specs.declared.Entry.{Entry}
use Rattle.player_script.specs.declared.Form.{Form}

-- the ticks of these records do not fall, from this one on
pub data Rising : ℕ → List Entry → Type 0 where
  none : {low : ℕ} → Rising low []
  more : {low : ℕ} {e : Entry} {es : List Entry} → low ≤ e.tick → Rising e.tick es → Rising low (e ∷ es)

-- the records from a place on do not fall below this tick; and for this tick and each later one they want what the whole script wants
pub record Reads (f : Form) (script : List ℕ) (at tick : ℕ) : Type 0 where
  pub rising : Rising tick (records_in f (drop at script))
  pub rest : (later party : ℕ) → tick ≤ later → wanted_at later party (records_in f (drop at script)) ≡ wanted_at later party (records_in f script)
