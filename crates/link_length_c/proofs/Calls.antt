-- A call by what was answered.
use Rattle.std.specs.Prelude.{Result, Ok, Err}
use Prim.Native.Nat.{ℕ}
use mathlib.Core.Bool.{Bool}
use mathlib.Core.Path.{◌≡◌, refl, sym, ap, ◌∙◌}
use Rattle.base.specs.Lent.{Lent, before, after}
use Rattle.base.specs.Refusal.{number, Called, accepted, refused, called_as}
use Rattle.base.specs.declared.Refusal.{Refusal}
use Rattle.line.specs.declared.Profile.{Profile}
use Rattle.link_length.specs.Length.{data_length, wait_for}
use Rattle.link_length_c.specs.Call.{returned, given, CallIs, LengthCall, WaitCall}

was_given : (c : Called ℕ) (l : Lent ℕ) (n : ℕ) → accepted n ≡ c → after l ≡ n → CallIs c l 0
was_given c l n e k = record { returns = ap returned e; number_is = k ∙ ap (λ (x : Called ℕ). given x (before l)) e }

was_refused : (c : Called ℕ) (l : Lent ℕ) (why r : ℕ) → refused why ≡ c → r ≡ why → after l ≡ before l → CallIs c l r
was_refused c l why r e k u = record { returns = k ∙ ap returned e; number_is = u ∙ ap (λ (x : Called ℕ). given x (before l)) e }

module _ (p : Profile) (retries wait : ℕ) (length : Lent ℕ) (found : Result ℕ Refusal) (d : called_as found ≡ data_length p retries wait) where
  pub length_given : (n : ℕ) → found ≡ Ok n → after length ≡ n → LengthCall p retries wait length 0
  length_given n e k = was_given _ length n (sym (ap called_as e) ∙ d) k

  pub length_refused : (why : Refusal) (r : ℕ) → found ≡ Err why → r ≡ number why → after length ≡ before length → LengthCall p retries wait length r
  length_refused why r e k u = was_refused _ length (number why) r (sym (ap called_as e) ∙ d) k u

module _ (p : Profile) (retries length : ℕ) (bursting : Bool) (wait : Lent ℕ) (found : Result ℕ Refusal) (d : called_as found ≡ wait_for p retries length bursting) where
  pub wait_given : (n : ℕ) → found ≡ Ok n → after wait ≡ n → WaitCall p retries length bursting wait 0
  wait_given n e k = was_given _ wait n (sym (ap called_as e) ∙ d) k

  pub wait_refused : (why : Refusal) (r : ℕ) → found ≡ Err why → r ≡ number why → after wait ≡ before wait → WaitCall p retries length bursting wait r
  wait_refused why r e k u = was_refused _ wait (number why) r (sym (ap called_as e) ∙ d) k u

pub ruleset calls = (refl, length_given, length_refused, wait_given, wait_refused)
