-- How the code stands for what is to be believed.
-- A lent parameter in a contract: what it holds before the call and after it. X is List ℕ for a slice or an array, List (List ℕ) for rows.
use denote.Triple.Both.{Both}
use denote.Ref.{MutBor}

abbrev pub Lent : Type 0 → Type 0
Lent X = Both (MutBor X) (MutBor X)

abbrev pub before : {X : Type 0} → Lent X → X
before x = x.entry.now

abbrev pub after : {X : Type 0} → Lent X → X
after x = x.exit.now
