-- What demand 3's premises ask of a tick, said on the devices' turns: at most one device bursts, and at most one's ACK to a command 11 is on its way. That every tick of a run has it is proved in Tags.
use mathlib.Core.Path.{◌≡◌}
use mathlib.Core.Bool.{Bool, true, false}
use mathlib.Core.List.{List, [], ◌∷◌}
use Rattle.turns.specs.Party.{seeks_tag}
use Rattle.turns.specs.Link.{DeviceSide, LinkStep, sides}
use Rattle.turns.specs.Run.{All, Sole}
use Rattle.turns.specs.declared.Turn.{Turn}
use Rattle.turns.specs.declared.Turn.TheVariants.{Listens, Asked, AnswerWaits, Begins, Answers, Follows, Bursts}

-- an ACK is prepared, begins, or is being sent
abbrev pub answering : Turn → Bool
answering Listens = false
answering (Asked n) = false
answering AnswerWaits = true
answering Begins = true
answering (Answers n) = true
answering Follows = false
answering (Bursts n) = false

-- and it is to a command 11 by broadcast
pub record AnswersTag (x : DeviceSide) : Type 0 where
  pub on_its_way : answering x.device.turn ≡ true
  pub to_tag : seeks_tag x.device.request ≡ true

pub data SoleTag : List DeviceSide → Type 0 where
  no_tag : SoleTag []
  tag_and : {x : DeviceSide} {xs : List DeviceSide} → All (λ (y : DeviceSide). AnswersTag x → AnswersTag y → ⊥) xs → SoleTag xs → SoleTag (x ∷ xs)

abbrev pub Fair : LinkStep → Type 0
Fair s = Sole (sides s.for_devices) × SoleTag (sides s.for_devices)
