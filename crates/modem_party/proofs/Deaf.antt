-- A party that sent is deaf: the laws that master and device share. `sent` and `deaf` say it of what a party leaves behind a tick, or behind a part of one.
use Prim.Native.Nat.{ℕ}
use native.Mathlib.Omega.{arith}
use mathlib.Core.Bool.{Bool, true, false}
use mathlib.Core.Path.{◌≡◌}
use Rattle.base.specs.Choice.{when◌then◌else◌}
use Rattle.turns.specs.declared.Sent.{Sent}

abbrev pub DeafIf : {U : Type 0} → (U → Sent) → (U → Bool) → U → Type 0
DeafIf sent deaf u = (c : ℕ) → sent u ≡ Sent.Character c → deaf u ≡ true

pub either : {U : Type 0} (sent : U → Sent) (deaf : U → Bool) (b : Bool) (u v : U) → DeafIf sent deaf u → DeafIf sent deaf v → DeafIf sent deaf (when b then u else v)
unfolding when◌then◌else◌
either sent deaf true u v p q = p
either sent deaf false u v p q = q

pub not_silent : {A : Type 0} (c : ℕ) → Sent.Silent ≡ Sent.Character c → A
not_silent c e = let z : ◌≡◌ {A = ℕ} 0 1 = cc in absurd (omega arith)
