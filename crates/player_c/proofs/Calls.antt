-- The calls by what was answered.
use Rattle.std.specs.Prelude.{Result, Ok, Err}
use Prim.Native.Nat.{ℕ}
use mathlib.Core.Path.{◌≡◌, refl, sym, ap, ◌∙◌}
use mathlib.Core.List.{List}
use lib.ListN.{length}
use Rattle.base.specs.Lent.{Lent, before, after}
use Rattle.base.specs.Refusal.{number, Called, called_as}
use Rattle.base.specs.declared.Refusal.{Refusal}
use Rattle.load_writer.specs.Write.{LoadIs}
use Rattle.player_convert.specs.Turn.{conversion, length_in, ConvertIs}
use Rattle.player_c.specs.Call.{returned, end_after, ConvertCall, LoadCall}

module _ (size : ℕ) (script : List ℕ) (out : Lent (List ℕ)) (end : Lent ℕ) (found : Result ℕ Refusal) (d : ConvertIs (conversion size script (length (before out))) (before out) found (after out)) where
  pub converted_to : (n : ℕ) → found ≡ Ok n → after end ≡ n → ConvertCall size script out end 0
  converted_to n e k =
      let is = sym (ap called_as e) ∙ d.answer in
      record { returns = ap returned is; end_is = k ∙ ap (λ (c : Called ℕ). end_after c (before end)) is; out_is = d.bytes }

  pub not_converted : (why : Refusal) (r : ℕ) → found ≡ Err why → r ≡ number why → after end ≡ before end → ConvertCall size script out end r
  not_converted why r e k l =
      let is = sym (ap called_as e) ∙ d.answer in
      record { returns = k ∙ ap returned is; end_is = l ∙ ap (λ (c : Called ℕ). end_after c (before end)) is; out_is = d.bytes }

pub ruleset calls = (refl, converted_to, not_converted)

module _ (seed count : ℕ) (buffer : Lent (List ℕ)) (found : Result ℕ Refusal) (d : LoadIs seed count (before buffer) found (after buffer)) where
  pub load_written : (end : ℕ) → found ≡ Ok end → LoadCall seed count buffer 0
  load_written end e = record { returns = ap returned (sym (ap called_as e) ∙ d.answer); buffer_is = d.buffer_after }

  pub load_refused : (why : Refusal) (r : ℕ) → found ≡ Err why → r ≡ number why → LoadCall seed count buffer r
  load_refused why r e k = record { returns = k ∙ ap returned (sym (ap called_as e) ∙ d.answer); buffer_is = d.buffer_after }

pub ruleset loads = (load_written, load_refused)
