-- A device's turns are told apart: no two of them are equal.
use Prim.Native.Nat.{ℕ}
use native.Mathlib.Omega.{arith}
use mathlib.Core.Path.{◌≡◌}
use Rattle.turns.specs.declared.Turn.TheVariants.{Listens, Asked, AnswerWaits, Begins, Answers, Follows, Bursts}

pub listens_follows : Listens ≡ Follows → ⊥
listens_follows e = let z : ◌≡◌ {A = ℕ} 0 1 = cc in omega arith

pub listens_begins : Listens ≡ Begins → ⊥
listens_begins e = let z : ◌≡◌ {A = ℕ} 0 1 = cc in omega arith

pub listens_asked : (n : ℕ) → Listens ≡ Asked n → ⊥
listens_asked n e = let z : ◌≡◌ {A = ℕ} 0 1 = cc in omega arith

pub asked_follows : (n : ℕ) → Asked n ≡ Follows → ⊥
asked_follows n e = let z : ◌≡◌ {A = ℕ} 0 1 = cc in omega arith

pub asked_begins : (n : ℕ) → Asked n ≡ Begins → ⊥
asked_begins n e = let z : ◌≡◌ {A = ℕ} 0 1 = cc in omega arith

pub asked_listens : (n : ℕ) → Asked n ≡ Listens → ⊥
asked_listens n e = let z : ◌≡◌ {A = ℕ} 0 1 = cc in omega arith

pub accepted_follows : AnswerWaits ≡ Follows → ⊥
accepted_follows e = let z : ◌≡◌ {A = ℕ} 0 1 = cc in omega arith

pub accepted_begins : AnswerWaits ≡ Begins → ⊥
accepted_begins e = let z : ◌≡◌ {A = ℕ} 0 1 = cc in omega arith

pub accepted_listens : AnswerWaits ≡ Listens → ⊥
accepted_listens e = let z : ◌≡◌ {A = ℕ} 0 1 = cc in omega arith

pub begins_follows : Begins ≡ Follows → ⊥
begins_follows e = let z : ◌≡◌ {A = ℕ} 0 1 = cc in omega arith

pub follows_asked : (n : ℕ) → Follows ≡ Asked n → ⊥
follows_asked n e = let z : ◌≡◌ {A = ℕ} 0 1 = cc in omega arith

pub bursts_asked : (m n : ℕ) → Bursts m ≡ Asked n → ⊥
bursts_asked m n e = let z : ◌≡◌ {A = ℕ} 0 1 = cc in omega arith

pub accepted_asked : (n : ℕ) → AnswerWaits ≡ Asked n → ⊥
accepted_asked n e = let z : ◌≡◌ {A = ℕ} 0 1 = cc in omega arith

pub begins_asked : (n : ℕ) → Begins ≡ Asked n → ⊥
begins_asked n e = let z : ◌≡◌ {A = ℕ} 0 1 = cc in omega arith

pub answers_asked : (m n : ℕ) → Answers m ≡ Asked n → ⊥
answers_asked m n e = let z : ◌≡◌ {A = ℕ} 0 1 = cc in omega arith

-- and a request in hand for other ticks is another turn
pub asked_same : {m n : ℕ} → Asked m ≡ Asked n → m ≡ n
asked_same e = cc
