-- Inner contracts: nothing that is to be believed rests on them.
-- How two ticks are joined, by their bytes. First bytes are in the order of the rule: a character's is the lowest but for silence, which is 0 and comes last. proofs/Rule says that this is Joining's rule.
use Rattle.std.specs.Prelude.{ℕ, ◌%◌, ◌≡◌, Bool, true, false, List, Result}
use Rattle.base.specs.Choice.{when◌then◌else◌, ◌<?◌, ◌=?◌}
use Rattle.recording_join.specs.Joining.{difference_of, by_difference, buffer_after}
use Rattle.recording_join.specs.declared.JoinError.{JoinError}

-- whether the second tap's tick is taken, by the first bytes of both
unfoldable pub takes_second : ℕ → ℕ → Bool
takes_second x y = when y =? 0 then false else when x =? 0 then true else y <? x

-- whether two ticks, as one number each, are two different characters
unfoldable pub differs : ℕ → ℕ → Bool
differs v w = when v % 256 =? 32 then (when w % 256 =? 32 then (when v =? w then false else true) else false) else false

-- joining, where nothing but a difference is refused
pub record DifferenceJoinIs (first second buffer : List ℕ) (r : Result Unit JoinError) (after : List ℕ) : Type 0 where
  pub answer : r ≡ by_difference (difference_of first second)
  pub joined : after ≡ buffer_after r first second buffer
