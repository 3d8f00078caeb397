-- To be believed: what the engine must do, or what is claimed of it.
-- Document 02, item 12, "How much data for a wanted turn": the data length for a wait, the longest wait for a data length, and what is refused.
use Rattle.std.specs.Prelude.{ℕ, zero, suc, ◌+◌, Bool}
use Rattle.base.specs.Choice.{when◌then◌else◌, ◌<?◌, ◌≤?◌, ◌outside◌to◌}
use Rattle.base.specs.Refusal.{Called, accepted, refused}
use Rattle.frame.specs.Limits.{fewest_answered, most_data}
use Rattle.line.specs.Profile.{profile_made}
use Rattle.line.specs.declared.Profile.{Profile}
use Rattle.turns.specs.Demand3.{longest_wait, longer_with_burst}

-- "It refuses the profile with 1, then ..": what is answered for the profile that the check takes
abbrev pub with_profile : (Profile → Called ℕ) → Called Profile → Called ℕ
with_profile answer (accepted p) = answer p
with_profile answer (refused why) = refused why

-- ---- the data length for a wait

-- "whose plain wait formula stays within it, without a bursting device, F being 29 more than the data length"
abbrev pub is_within : Profile → ℕ → ℕ → ℕ → Bool
is_within p retries wait n = longest_wait n p retries ≤? wait

-- "the largest": n, or the next below it that is within
unfoldable pub largest_from : ℕ → Profile → ℕ → ℕ → ℕ
largest_from zero p retries wait = zero
largest_from (suc n) p retries wait = when is_within p retries wait (suc n) then suc n else largest_from n p retries wait

-- "then R with 2, then with 26 exactly when 2 data bytes already wait too long"
abbrev pub length_in : Profile → ℕ → ℕ → Called ℕ
length_in p retries wait =
    when retries outside 3 to 15 then refused 2 else
    when wait <? longest_wait fewest_answered p retries then refused 26 else
    accepted (largest_from most_data p retries wait)

abbrev pub data_length : Profile → ℕ → ℕ → Called ℕ
data_length p retries wait = with_profile (λ q. length_in q retries wait) (profile_made p)

-- ---- the longest wait for a data length

-- "plus 4×F + RT1 secondary + 2×RT2 if a device bursts meanwhile"
abbrev pub wait_with : Bool → ℕ → Profile → ℕ → ℕ
wait_with bursting n p retries = when bursting then longest_wait n p retries + longer_with_burst n p else longest_wait n p retries

-- in the same order: 2, then 9 for a length that no link is given
abbrev pub wait_in : Profile → ℕ → ℕ → Bool → Called ℕ
wait_in p retries n bursting =
    when retries outside 3 to 15 then refused 2 else
    when n outside fewest_answered to most_data then refused 9 else
    accepted (wait_with bursting n p retries)

abbrev pub wait_for : Profile → ℕ → ℕ → Bool → Called ℕ
wait_for p retries n bursting = with_profile (λ q. wait_in q retries n bursting) (profile_made p)
