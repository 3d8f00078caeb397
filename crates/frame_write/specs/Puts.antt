-- Inner contracts: nothing that is to be believed rests on them.
-- What a function promises that is lent a part of the writer's buffer, and the limits that the fields are within when it is called.
use Rattle.std.specs.Prelude.{ℕ, ◌≤◌, ◌≡◌, List}
use Rattle.frame.specs.Limits.{most_data}
use Rattle.frame.specs.Address.{largest_address}
use Rattle.frame.specs.Check.{xor_from}
use Rattle.frame.specs.declared.Header.{Header}

-- the part holds these bytes, and sum is the exclusive-or of x and them
pub record PartIs (x : ℕ) (bytes part : List ℕ) (sum : ℕ) : Type 0 where
  pub holds : part ≡ bytes
  pub check : sum ≡ xor_from x bytes

-- a header and so many data bytes, within the limits that every written frame is within
pub record WithinLimits (h : Header) (count : ℕ) : Type 0 where
  pub type_small : h.kind ≤ 6
  pub address_small : h.address ≤ largest_address h.long
  pub count_small : count ≤ most_data
