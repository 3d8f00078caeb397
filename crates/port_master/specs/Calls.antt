-- How the code stands for what is to be believed.
-- What the start of the port's master and its host's request answer.
use Rattle.std.specs.Prelude.{ℕ, List, length, Result}
use Rattle.turns.specs.declared.Master.{Master}
use Rattle.master.specs.Answers.{AskedIs}
use Rattle.turns.specs.declared.Request.{Request}
use Rattle.port.specs.Master.{port_requested}
use Rattle.base.specs.declared.Refusal.{Refusal}

abbrev pub PortRequestIs : ℕ → Master → Request → List ℕ → List ℕ → Result Master Refusal → List ℕ → Type 0
PortRequestIs limit m q bytes frame r after = AskedIs (port_requested limit m q (length bytes)) m q bytes frame r after
