-- How the code stands for what is to be believed.
-- What a call returns, and what it leaves in the number that it is lent: the data length, or the wait.
use Rattle.std.specs.Prelude.{ℕ, Bool, ◌≡◌}
use Rattle.base.specs.Lent.{Lent, before, after}
use Rattle.base.specs.Refusal.{Called, accepted, refused}
use Rattle.line.specs.declared.Profile.{Profile}
use Rattle.link_length.specs.Length.{data_length, wait_for}

abbrev pub profile : ℕ → ℕ → ℕ → ℕ → ℕ → Profile
profile sto hold rt2 rt1p rt1s = record { sto = sto; hold = hold; rt2 = rt2; rt1p = rt1p; rt1s = rt1s }

-- 0, or the refusal's number
abbrev pub returned : Called ℕ → ℕ
returned (accepted n) = 0
returned (refused why) = why

-- the number that is given, or what was there
abbrev pub given : Called ℕ → ℕ → ℕ
given (accepted n) was = n
given (refused why) was = was

pub record CallIs (c : Called ℕ) (number : Lent ℕ) (r : ℕ) : Type 0 where
  pub returns : r ≡ returned c
  pub number_is : after number ≡ given c (before number)

abbrev pub LengthCall : Profile → ℕ → ℕ → Lent ℕ → ℕ → Type 0
LengthCall p retries wait length r = CallIs (data_length p retries wait) length r

abbrev pub WaitCall : Profile → ℕ → ℕ → Bool → Lent ℕ → ℕ → Type 0
WaitCall p retries length bursting wait r = CallIs (wait_for p retries length bursting) wait r
