-- How the code stands for what is to be believed.
-- Values within their types, as the code's devices hold them.
use Rattle.std.specs.Prelude.{ℕ, ◌<◌, ◌^◌}
use Rattle.turns.specs.declared.Content.{Content}
use Rattle.turns.specs.declared.Device.{Device}
use Rattle.turns.specs.declared.Turn.{Turn}
use Rattle.turns.specs.declared.Turn.TheVariants.{Listens, Asked, AnswerWaits, Begins, Answers, Follows, Bursts}
use Rattle.state_words.specs.Fits.{HeaderFits, ProfileFits, ReceiverFits}

abbrev pub TurnFits : Turn → Type 0
TurnFits Listens = Unit {0}
TurnFits (Asked n) = n < 2 ^ 16
TurnFits AnswerWaits = Unit {0}
TurnFits Begins = Unit {0}
TurnFits (Answers n) = n < 2 ^ 16
TurnFits Follows = Unit {0}
TurnFits (Bursts n) = n < 2 ^ 16

pub record ContentFits (c : Content) : Type 0 where
  pub command : c.command < 2 ^ 8
  pub count : c.count < 2 ^ 8

pub record NumbersFit (preamble polling length due : ℕ) : Type 0 where
  pub preamble_fits : preamble < 2 ^ 8
  pub polling_fits : polling < 2 ^ 8
  pub length_fits : length < 2 ^ 16
  pub due_fits : due < 2 ^ 32

pub record DeviceFits (d : Device) : Type 0 where
  pub profile : ProfileFits d.profile
  pub receiver : ReceiverFits d.receiver
  pub turn : TurnFits d.turn
  pub request : HeaderFits d.request
  pub content : ContentFits d.content
  pub numbers : NumbersFit d.preamble d.polling d.length d.due
