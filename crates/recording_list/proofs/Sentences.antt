-- Laws of what a passed-over character adds: document 02, item 9, "Characters passed over behind a break add none".
use Prim.Native.Nat.{ℕ, ◌≤◌}
use native.Mathlib.Omega.{arith}
use mathlib.Core.Path.{◌≡◌, refl}
use mathlib.Core.List.{[]}
use borrow.Author.Tests.{ne_eqb}
use Rattle.base.specs.Choice.{when◌then◌else◌, ◌=?◌}
use Rattle.base.proofs.Choices.{if_is_false}
use Rattle.line.specs.declared.Event.TheVariants.{PassedOver}
use Rattle.recording_list.specs.Listing.{entry, adds}

-- at the reader's start: a broken frame
pub start_adds : adds 0 PassedOver ≡ entry 0 0
unfolding when◌then◌else◌
start_adds = refl

-- later: none
pub passed_none : (t : ℕ) → 1 ≤ t → adds t PassedOver ≡ []
passed_none t h = if_is_false (t =? 0) _ [] (ne_eqb t 0 (λ z. absurd (omega arith)))
