-- To be believed: what the engine must do, or what is claimed of it.
-- Document 02, item 12: what is claimed of `data_length`, which is what `link_length::data_length` answers.
use Rattle.std.specs.Prelude.{ℕ, ◌+◌, ◌-◌, ◌≤◌, ◌<◌, Bool, true, false, List, ◌∷◌, ◌≡◌, length, drop}
use Rattle.base.specs.Choice.{◌outside◌to◌}
use Rattle.base.specs.Refusal.{accepted, refused}
use Rattle.frame.specs.Limits.{fewest_answered, most_data}
use Rattle.line.specs.Profile.{profile_made}
use Rattle.line.specs.declared.Profile.{Profile}
use Rattle.turns.specs.Link.{Link, LinkStep, Calls, run}
use Rattle.turns.specs.Demand3.{Premises, AcceptedIn, BeginsWithin, NoneBursts, WaitIn, longest_wait}
use Rattle.link_length.specs.Length.{data_length}

-- ---- the length that is given

-- "the largest data length from 2 to 255 whose plain wait formula stays within it": it is within, and every length within is at most this one
pub record Largest (p : Profile) (retries wait n : ℕ) : Type 0 where
  pub low : fewest_answered ≤ n
  pub high : n ≤ most_data
  pub within : longest_wait n p retries ≤ wait
  pub most : (m : ℕ) → m ≤ most_data → longest_wait m p retries ≤ wait → m ≤ n

abbrev pub GivesTheLargest : Type 0
GivesTheLargest = (p : Profile) (retries wait n : ℕ) → data_length p retries wait ≡ accepted n → Largest p retries wait n

-- ---- the refusals

-- "It refuses the profile with 1, then R with 2": a bad profile is 1 whatever R and the wait are, and then a bad R is 2 whatever the wait is
abbrev pub OneThenTwo : Type 0
OneThenTwo =
    (p : Profile) (retries wait : ℕ)
    → (profile_made p ≡ refused 1 → data_length p retries wait ≡ refused 1)
    × (profile_made p ≡ accepted p → (retries outside 3 to 15) ≡ true → data_length p retries wait ≡ refused 2)

-- "then with 26 exactly when 2 data bytes already wait too long": the profile and R are good, and 2 bytes wait longer
pub record TooShort (p : Profile) (retries wait : ℕ) : Type 0 where
  pub good_profile : profile_made p ≡ accepted p
  pub good_retries : (retries outside 3 to 15) ≡ false
  pub too_long : wait < longest_wait fewest_answered p retries

abbrev pub TooShortExactly : Type 0
TooShortExactly =
    (p : Profile) (retries wait : ℕ)
    → (data_length p retries wait ≡ refused 26 → TooShort p retries wait) × (TooShort p retries wait → data_length p retries wait ≡ refused 26)

-- and then no length fits
abbrev pub NoneFits : Type 0
NoneFits = (p : Profile) (retries wait : ℕ) → data_length p retries wait ≡ refused 26 → (n : ℕ) → fewest_answered ≤ n → longest_wait n p retries ≤ wait → ⊥

-- ---- the two halves joined: the owner's wait on a link that is given the length

-- every accepted message's first character goes out within this wait of its acceptance, or of tick RT1 secondary if that is later, while no device bursts. Tick t of the run is s, and `after` are the ticks after it.
abbrev pub OwnerWaitIn : ℕ → Profile → List LinkStep → Type 0
OwnerWaitIn wait p steps =
    (primary : Bool) (t : ℕ) (s : LinkStep) (after : List LinkStep) → drop t steps ≡ s ∷ after → AcceptedIn primary s
    → NoneBursts primary (s ∷ after) → (p.rt1s - t) + wait < length (s ∷ after) → BeginsWithin primary ((p.rt1s - t) + wait) (s ∷ after)

-- "The same length then limits every request, answer and burst content on a link that is given it; .. and demand 3 holds there with this F"
abbrev pub OwnerWaits : Type 0
OwnerWaits =
    (p : Profile) (retries wait n : ℕ) → data_length p retries wait ≡ accepted n
    → (l : Link) (ticks : List Calls) → Premises n p retries l ticks → OwnerWaitIn wait p (run n l ticks)

-- so in any run in which document 01's wait holds with this length, as `link_run::run` promises of its own (crates/link_run/specs/Run.antt, `Demand3Of`)
abbrev pub OwnerWaitsWhere : Type 0
OwnerWaitsWhere =
    (p : Profile) (retries wait n : ℕ) → data_length p retries wait ≡ accepted n → (steps : List LinkStep) → WaitIn n p retries steps → OwnerWaitIn wait p steps
