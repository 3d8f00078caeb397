-- The master's count of ticks since an answer, and what it found in the ticks before.
use Prim.Native.Nat.{ℕ, zero, suc, ◌+◌, ◌≤◌, ◌<◌}
use native.Mathlib.Omega.{arith}
use mathlib.Core.Path.{◌≡◌, refl, sym, ◌∙◌}
use mathlib.Core.Bool.{Bool, true, false}
use mathlib.Core.List.{List, [], ◌∷◌}
use borrow.Author.Tests.{leb-true, leb-false, le-leb, lt-leb, ltb-true, ltb-false}
use Rattle.base.specs.Choice.{when◌then◌else◌, ◌<?◌, ◌≤?◌}
use Rattle.base.proofs.Choices.{if_is_true, if_is_false}
use Rattle.line.specs.declared.Event.{Event}
use Rattle.turns.proofs.Masters.{if_cases}
use Rattle.port.specs.Master.{ends_answer}
use Rattle.port.specs.Sending.{answer_among}

-- an answer is among the last n ticks, up to `doze`, exactly where the count is at most n
Agrees : ℕ → ℕ → List Event → Type 0
Agrees doze since past = (n : ℕ) → n ≤ doze → answer_among n past ≡ (since ≤? n)

pub record Counts (doze since : ℕ) (past : List Event) : Type 0 where
  agrees : Agrees doze since past

-- fresh
none_yet : (doze : ℕ) → Agrees doze (doze + 1) []
unfolding Agrees answer_among
none_yet doze zero h = sym (lt-leb (doze + 1) 0 (omega arith))
none_yet doze (suc n) h = sym (lt-leb (doze + 1) (suc n) (omega arith))

-- an answer ended in this tick
answered : (doze : ℕ) (past : List Event) (e : Event) → ends_answer e ≡ true → Agrees doze 1 (e ∷ past)
unfolding Agrees answer_among
answered doze past e q zero h = sym (lt-leb 1 0 (omega arith))
answered doze past e q (suc n) h = if_is_true (ends_answer e) _ _ q ∙ sym (le-leb 1 (suc n) (omega arith))

-- none did
module _ (doze since : ℕ) (past : List Event) (e : Event) (q : ends_answer e ≡ false) (a : Agrees doze since past) where
  some : 1 ≤ since
  unfolding Agrees answer_among
  some = leb-false since 0 (sym (a 0 (omega arith)))

  counted : since ≤ doze → Agrees doze (since + 1) (e ∷ past)
  unfolding Agrees answer_among
  counted low zero h = sym (lt-leb (since + 1) 0 (omega arith))
  counted low (suc n) h = if_is_false (ends_answer e) _ _ q ∙ a n (omega arith) ∙ go (since ≤? n) refl
    where
      go : (t : Bool) → (since ≤? n) ≡ t → (since ≤? n) ≡ (since + 1 ≤? suc n)
      go true z = z ∙ sym (le-leb (since + 1) (suc n) (omega (arith, leb-true since n z)))
      go false z = z ∙ sym (lt-leb (since + 1) (suc n) (omega (arith, leb-false since n z)))

  stays : doze < since → Agrees doze since (e ∷ past)
  unfolding Agrees answer_among
  stays high zero h = sym (lt-leb since 0 (omega (arith, some)))
  stays high (suc n) h = if_is_false (ends_answer e) _ _ q ∙ a n (omega arith) ∙ lt-leb since n (omega arith) ∙ sym (lt-leb since (suc n) (omega arith))

  older : Agrees doze (when since ≤? doze then since + 1 else since) (e ∷ past)
  older = if_cases (λ (k : ℕ). Agrees doze k (e ∷ past)) (since ≤? doze) _ _ (λ z. counted (leb-true since doze z)) (λ z. stays (leb-false since doze z))

pub counts_none : (doze : ℕ) → Counts doze (doze + 1) []
counts_none doze = record { agrees = none_yet doze }

pub counts_next : (doze since : ℕ) (past : List Event) (e : Event) → Counts doze since past → Counts doze (when ends_answer e then 1 else (when since ≤? doze then since + 1 else since)) (e ∷ past)
counts_next doze since past e c = record { agrees = if_cases (λ (k : ℕ). Agrees doze k (e ∷ past)) (ends_answer e) _ _ (λ q. answered doze past e q) (λ q. older doze since past e q c.agrees) }

-- a wake-up goes first exactly where no answer is among the last ticks
pub none_among : (doze since : ℕ) (past : List Event) → Counts doze since past → (doze <? since) ≡ true → answer_among doze past ≡ false
unfolding Agrees
none_among doze since past c e = c.agrees doze (omega arith) ∙ lt-leb since doze (ltb-true doze since e)

pub one_among : (doze since : ℕ) (past : List Event) → Counts doze since past → (doze <? since) ≡ false → answer_among doze past ≡ true
unfolding Agrees
one_among doze since past c e = c.agrees doze (omega arith) ∙ le-leb since doze (ltb-false doze since e)
