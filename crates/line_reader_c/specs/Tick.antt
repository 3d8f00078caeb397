-- How the code stands for what is to be believed.
-- The tick reader's tick, over its words and the lent buffer for the data of the frame that it hears.
use Rattle.std.specs.Prelude.{List, ◌≡◌, ℕ}
use Rattle.base.specs.Lent.{Lent, before, after}
use Rattle.line.specs.Reader.{taken, taken_data}
use Rattle.line.specs.declared.Heard.{Heard}
use Rattle.line.specs.declared.Receiver.{Receiver}
use Rattle.state_words.specs.Reader.{receiver_words, receiver_at}
use Rattle.state_words.specs.Numbers.{tick_numbers}

-- the reader that some words stand for; it has 16 words
abbrev pub unpacked : List ℕ → Receiver
unpacked words = receiver_at words 0

-- what a call leaves after a tick of this reader: the words, the data and the results
pub record StepIs (r : Receiver) (heard : Heard) (before words bytes results : List ℕ) : Type 0 where
  pub words_are : words ≡ receiver_words (taken r heard).receiver
  pub unpacked_is : unpacked words ≡ (taken r heard).receiver
  pub bytes_are : bytes ≡ taken_data r heard before
  pub results_are : results ≡ tick_numbers 0 0 0 (taken r heard).event

-- the tick of the reader that the words stood for before the call
abbrev pub ReaderTicks : Lent (List ℕ) → Lent (List ℕ) → Heard → Lent (List ℕ) → Type 0
ReaderTicks words bytes heard results = StepIs (unpacked (before words)) heard (before bytes) (after words) (after bytes) (after results)
