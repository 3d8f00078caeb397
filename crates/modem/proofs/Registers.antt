-- Laws by which the driver's accesses are proved: a refused one shows 0, or changes nothing.
use Rattle.std.specs.Prelude.{Result, Ok, Err}
use Rattle.std.specs.Result.{result_unwrap_or}
use Rattle.std.proofs.Common.{◌≡◌, ℕ, ap}
use Rattle.base.specs.Refusal.{called_as}
use Rattle.base.specs.declared.Refusal.{Refusal}
use Rattle.modem.specs.Accesses.{register_read, register_written, looked_by, put_by, looks, puts}
use Rattle.modem.specs.declared.Chip.{Chip}
use Rattle.modem.specs.declared.Looked.{Looked}

pub looks_is : (x : Chip) (n : ℕ) (r : Result Looked Refusal) → called_as r ≡ register_read x n → result_unwrap_or r (record { value = 0; chip = x }) ≡ looks x n
unfolding looks
looks_is x n (Ok l) e = ap (looked_by x) e
looks_is x n (Err why) e = ap (looked_by x) e

pub puts_is : (x : Chip) (n v : ℕ) (r : Result Chip Refusal) → called_as r ≡ register_written x n v → result_unwrap_or r x ≡ puts x n v
unfolding puts
puts_is x n v (Ok y) e = ap (put_by x) e
puts_is x n v (Err why) e = ap (put_by x) e
