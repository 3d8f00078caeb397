-- To be believed: what the engine must do, or what is claimed of it.
-- Document 02, item 2, on what becomes of a master's request: "HART revisions 3 to 5 know polling addresses 0 to 15, later ones 0 to 63", "an address too large for the revision is 4".
use Rattle.std.specs.Prelude.{ℕ, ◌≤◌, ◌<◌, ◌≡◌, false, List, ◌⊎◌, length}
use Rattle.frame.specs.Limits.{fewest_preambles, most_preambles}
use Rattle.line.specs.declared.Heard.{Heard}
use Rattle.turns.specs.Link.{requests, MasterSide, master_tick}
use Rattle.turns.specs.declared.CallResult.{CallResult}
use Rattle.turns.specs.declared.CallResult.TheVariants.{Taken, Refused}
use Rattle.turns.specs.declared.Request.{Request}

-- A request with a short address is refused with 4 just where the address is above the largest. With any other, command 0 and data within the limit it is taken, or a message is in hand.
pub record KnownUpTo (largest limit : ℕ) (q : Request) (put : List ℕ) (result : CallResult) : Type 0 where
  pub above : largest < q.address → result ≡ Refused 4
  pub not_above : q.address ≤ largest → result ≡ Refused 4 → ⊥
  pub asked : q.address ≤ largest → q.command ≡ 0 → length put ≤ limit → (result ≡ Taken) ⊎ (result ≡ Refused 7)

-- The rule, with the largest address as its parameter, for the revisions of which `Of` holds: of every request that 3 does not refuse, in any state of the master, whatever it hears.
abbrev pub PollingRule : ℕ → (ℕ → Type 0) → ℕ → Type 0
PollingRule limit Of largest =
    (x : MasterSide) (heard : Heard) (q : Request) (put : List ℕ)
    → fewest_preambles ≤ q.preamble → q.preamble ≤ most_preambles → Of q.revision → q.long ≡ false
    → KnownUpTo largest limit q put (master_tick limit x heard (requests q put)).result

-- "HART revisions 3 to 5 know polling addresses 0 to 15,"
abbrev pub OldRule : ℕ → Type 0
OldRule limit = PollingRule limit (λ (r : ℕ). (3 ≤ r) × (r ≤ 5)) 15

-- "later ones 0 to 63."
abbrev pub LaterRule : ℕ → Type 0
LaterRule limit = PollingRule limit (λ (r : ℕ). (6 ≤ r) × (r ≤ 7)) 63
