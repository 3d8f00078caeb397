-- A timer that counts silent ticks with BURST clear: those in which no window opens are counted at once.
use Prim.Native.Nat.{ℕ, zero, suc, ◌+◌, ◌-◌, ◌≤◌, ◌<◌}
use native.Mathlib.Omega.{arith}
use mathlib.Core.Path.{◌≡◌, refl, sym, ap, ◌∙◌}
use borrow.Author.Tests.{ne_eqb}
use Rattle.base.proofs.Choices.{if_is_false}
use Rattle.base.specs.Choice.{◌=?◌}
use Rattle.line.specs.declared.Profile.{Profile}
use Rattle.turns.specs.Master.{count_clear, opened}
use Rattle.turns.specs.declared.Timer.{Timer}
use Rattle.link_rests.specs.Rests.{timer_rested}

-- so many ticks less
abbrev pub less : ℕ → Timer → Timer
less n t = record { next = t.next - n; window = t.window - n; quiet = 0 }

-- a tick that opens no window
counts_one : (p : Profile) (t : Timer) → (t.next ≡ 1 → ⊥) → count_clear p t ≡ less 1 t
counts_one p t n = if_is_false (t.next =? 1) (opened p) (less 1 t) (ne_eqb t.next 1 n)

-- and so many of them, after the first
counts_many : (p : Profile) (t : Timer) (n : ℕ) → ((k : ℕ) → k ≤ n → t.next - k ≡ 1 → ⊥) → timer_rested (suc n) p t ≡ less (suc n) t
unfolding timer_rested
counts_many p t zero h = counts_one p t (λ q. h 0 (omega arith) (omega (arith, q)))
counts_many p t (suc n) h =
    ap (count_clear p) (counts_many p t n (λ k l q. h k (omega arith) q))
    ∙ counts_one p (less (suc n) t) (λ q. h (suc n) (omega arith) q)
    ∙ λ i. record { next = once (t.next) i; window = once (t.window) i; quiet = 0 }
  where
    once : (m : ℕ) → m - suc n - 1 ≡ m - suc (suc n)
    once m = omega arith

-- the ticks before a window's, or all
pub rests_many : (p : Profile) (t : Timer) (n : ℕ) → (t.next ≡ 1 → ⊥) → (0 < t.next → n ≤ t.next - 1) → 0 < n → less n t ≡ timer_rested n p t
rests_many p t zero one before some = absurd (omega (arith, some))
rests_many p t (suc n) one before some = sym (counts_many p t n none)
  where
    none : (k : ℕ) → k ≤ n → t.next - k ≡ 1 → ⊥
    none k l q = one (omega (arith, before (omega (arith, q)), q, l))

-- of so many ticks
pub rests_part : (p : Profile) (t : Timer) (ticks n next window : ℕ) → next ≡ t.next - n → window ≡ t.window - n → 0 < n → n ≤ ticks → (t.next ≡ 1 → ⊥) → (0 < t.next → n ≤ t.next - 1)
    → (ticks - n < ticks) × (record { next = next; window = window; quiet = 0 } ≡ timer_rested (ticks - (ticks - n)) p t)
rests_part p t ticks n next window e f some most one before =
    let all : n ≡ ticks - (ticks - n) = omega (arith, most) in
    (omega (arith, some, most), (λ i. record { next = e i; window = f i; quiet = 0 }) ∙ rests_many p t n one before some ∙ ap (λ (k : ℕ). timer_rested k p t) all)

-- a window's tick
pub rests_once : (p : Profile) (t : Timer) → count_clear p t ≡ timer_rested 1 p t
unfolding timer_rested
rests_once p t = refl

-- first some ticks, then the others
pub rests_on : (p : Profile) (t : Timer) (m n : ℕ) → timer_rested m p (timer_rested n p t) ≡ timer_rested (m + n) p t
unfolding timer_rested
rests_on p t zero n = let e : n ≡ zero + n = omega arith in ap (λ (k : ℕ). timer_rested k p t) e
rests_on p t (suc m) n =
    let e : suc (m + n) ≡ suc m + n = omega arith in
    ap (count_clear p) (rests_on p t m n) ∙ ap (λ (k : ℕ). timer_rested k p t) e

-- ---- the loop: what is left of the ticks leads to what they all lead to

pub record Left (p : Profile) (start : Timer) (ticks : ℕ) (t : Timer) (left : ℕ) : Type 0 where
  pub within : left ≤ ticks
  pub is : timer_rested left p t ≡ timer_rested ticks p start

pub left_all : (p : Profile) (start : Timer) (ticks : ℕ) → Left p start ticks start ticks
left_all p start ticks = record { within = omega arith; is = refl }

pub left_less : (p : Profile) (start : Timer) (ticks : ℕ) (t u : Timer) (left now : ℕ) → Left p start ticks t left → now < left → u ≡ timer_rested (left - now) p t → Left p start ticks u now
left_less p start ticks t u left now v less e =
    let all : now + (left - now) ≡ left = omega (arith, less) in
    record {
      within = omega (arith, v.within, less);
      is = ap (timer_rested now p) e ∙ rests_on p t now (left - now) ∙ ap (λ (k : ℕ). timer_rested k p t) all ∙ v.is;
    }

pub left_none : (p : Profile) (start : Timer) (ticks : ℕ) (t : Timer) (left : ℕ) → Left p start ticks t left → left ≤ 0 → t ≡ timer_rested ticks p start
unfolding timer_rested
left_none p start ticks t zero v e = v.is
left_none p start ticks t (suc left) v e = absurd (omega (arith, e))
