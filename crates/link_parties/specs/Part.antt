-- How the code stands for what is to be believed.
-- The data of a call: so many of the lent bytes from a place on, or as many as there are.
use Rattle.std.specs.Prelude.{ℕ, List, take, drop}
use Rattle.link_parties.specs.declared.Part.{Part}

abbrev pub data_of : Part → List ℕ → List ℕ
data_of p put = take p.count (drop p.from put)
