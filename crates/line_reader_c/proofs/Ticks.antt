-- A tick of the reader by what its parts gave.
use Prim.Native.Nat.{ℕ}
use mathlib.Core.List.{List}
use mathlib.Core.Path.{◌≡◌, ap, subst, ◌∙◌}
use Rattle.line.specs.Reader.{ReaderTakeIs}
use Rattle.line.specs.declared.Heard.{Heard}
use Rattle.line.specs.declared.Receiver.{Receiver}
use Rattle.line.specs.declared.Taken.{Taken}
use Rattle.state_words.specs.Reader.{receiver_words}
use Rattle.state_words.specs.Numbers.{tick_numbers}
use Rattle.state_words.specs.Fits.{ReceiverFits}
use Rattle.state_words.proofs.Kept.{receiver_kept}
use Rattle.line_reader_c.specs.Tick.{unpacked, StepIs}

by_reader : (r : Receiver) (heard : Heard) (before after words results : List ℕ) (t : Taken)
    → ReaderTakeIs r heard before t after → ReceiverFits t.receiver → words ≡ receiver_words t.receiver → results ≡ tick_numbers 0 0 0 t.event
    → StepIs r heard before words after results
by_reader r heard before after words results t v f w n = record {
  words_are = w ∙ ap (λ (x : Taken). receiver_words x.receiver) v.reader;
  unpacked_is = ap unpacked w ∙ receiver_kept t.receiver f ∙ ap (λ (x : Taken). x.receiver) v.reader;
  bytes_are = v.buffer;
  results_are = n ∙ ap (λ (x : Taken). tick_numbers 0 0 0 x.event) v.reader;
}

-- of the reader that the words were, with what was heard
pub tick_is : (old : List ℕ) (r : Receiver) (h heard : Heard) (before after words results : List ℕ) (t : Taken)
    → r ≡ unpacked old → h ≡ heard → ReaderTakeIs r h before t after → ReceiverFits t.receiver → words ≡ receiver_words t.receiver → results ≡ tick_numbers 0 0 0 t.event
    → StepIs (unpacked old) heard before words after results
tick_is old r h heard before after words results t d e v f w n =
    subst (λ (x : Receiver). StepIs x heard before words after results) d
    (subst (λ (x : Heard). StepIs r x before words after results) e (by_reader r h before after words results t v f w n))
