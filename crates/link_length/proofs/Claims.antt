-- The claims: the length that is given is the largest, 26 is answered exactly where 2 data bytes wait too long, and then none fits; and the owner's wait holds on a link with that length.
use Prim.Native.Nat.{ℕ, zero, suc, ◌+◌, ◌≤◌}
use native.Mathlib.Decide.{dec_le}
use native.Mathlib.Nat.{mul-le-mul_left}
use native.Mathlib.Omega.{arith}
use mathlib.Core.Bool.{Bool, true, false}
use mathlib.Core.List.{List}
use mathlib.Core.Path.{◌≡◌, refl, sym, ap, subst, ◌∙◌}
use borrow.Author.Tests.{lt-ltb, ltb-true, ltb-false, leb-true, leb-false}
use Rattle.base.specs.Choice.{when◌then◌else◌, ◌<?◌, ◌outside◌to◌}
use Rattle.base.specs.Refusal.{Called, accepted, refused}
use Rattle.base.proofs.Choices.{if_is_true, if_is_false}
use Rattle.line.specs.Profile.{value_refused, order_refused, profile_made}
use Rattle.line.specs.declared.Profile.{Profile}
use Rattle.turns.specs.Link.{LinkStep}
use Rattle.turns.specs.Demand3.{BeginsWithin, begins, waits, longest_wait}
use Rattle.turns.proofs.Fresh.{refused_accepted}
use Rattle.runs.proofs.Wait.{wait}
use Rattle.link_length.specs.Length.{with_profile, is_within, largest_from, length_in, data_length}
use Rattle.link_length.specs.Claims.{Largest, GivesTheLargest, OneThenTwo, TooShort, TooShortExactly, NoneFits, OwnerWaits, OwnerWaitsWhere}

-- ---- the search finds the largest

record LargestTo (p : Profile) (retries wait top n : ℕ) : Type 0 where
  low : 2 ≤ n
  high : n ≤ top
  within : longest_wait n p retries ≤ wait
  most : (m : ℕ) → m ≤ top → longest_wait m p retries ≤ wait → m ≤ n

largest_to : (top : ℕ) (p : Profile) (retries most : ℕ) → 2 ≤ top → longest_wait 2 p retries ≤ most → LargestTo p retries most top (largest_from top p retries most)
unfolding largest_from when◌then◌else◌
largest_to zero p retries most e w = absurd (omega arith)
largest_to (suc n) p retries most e w = go (is_within p retries most (suc n)) refl (λ k. largest_to n p retries most k w)
  where
    go : (b : Bool) → is_within p retries most (suc n) ≡ b → (2 ≤ n → LargestTo p retries most n (largest_from n p retries most))
        → LargestTo p retries most (suc n) (when b then suc n else largest_from n p retries most)
    go true q rest = record { low = e; high = omega arith; within = leb-true (longest_wait (suc n) p retries) most q; most = λ m k z. k }
    go false q rest = by (dec_le 2 n)
      where
        over : longest_wait (suc n) p retries ≤ most → ⊥
        over z = omega (arith, z, leb-false (longest_wait (suc n) p retries) most q)

        by : Dec (2 ≤ n) → LargestTo p retries most (suc n) (largest_from n p retries most)
        by (yes k) = let r = rest k in record { low = r.low; high = omega (arith, r.high); within = r.within; most = λ m z x. below m (dec_le m n) z x }
          where
            below : (m : ℕ) → Dec (m ≤ n) → m ≤ suc n → longest_wait m p retries ≤ most → m ≤ largest_from n p retries most
            below m (yes u) z x = (rest k).most m u x
            below m (no u) z x = let same : m ≡ suc n = omega arith in absurd (over (subst (λ (j : ℕ). longest_wait j p retries ≤ most) same x))
        by (no k) = let two : 2 ≡ suc n = omega arith in absurd (over (subst (λ (j : ℕ). longest_wait j p retries ≤ most) two w))

is_largest : (p : Profile) (retries most : ℕ) → longest_wait 2 p retries ≤ most → Largest p retries most (largest_from 255 p retries most)
is_largest p retries most w = let r = largest_to 255 p retries most (omega arith) w in record { low = r.low; high = r.high; within = r.within; most = r.most }

-- ---- the answer, by what was tested

data MadeView (p : Profile) : Type 0 where
  is_made : profile_made p ≡ accepted p → MadeView p
  is_refused : profile_made p ≡ refused 1 → MadeView p

made_view : (p : Profile) → MadeView p
made_view p = go (value_refused p) (order_refused p) refl refl
  where
    go : (a b : Bool) → value_refused p ≡ a → order_refused p ≡ b → MadeView p
    go true b e f = is_refused (if_is_true (value_refused p) _ _ e)
    go false true e f = is_refused (if_is_false (value_refused p) _ _ e ∙ if_is_true (order_refused p) _ _ f)
    go false false e f = is_made (if_is_false (value_refused p) _ _ e ∙ if_is_false (order_refused p) _ _ f)

-- what is answered for a profile that the check takes, and for one that it refuses
with_made : (p : Profile) (retries most : ℕ) → profile_made p ≡ accepted p → data_length p retries most ≡ length_in p retries most
with_made p retries most e = ap (with_profile (λ q. length_in q retries most)) e

with_refused : (p : Profile) (retries most why : ℕ) → profile_made p ≡ refused why → data_length p retries most ≡ refused why
with_refused p retries most why e = ap (with_profile (λ q. length_in q retries most)) e

data AnswerView (p : Profile) (retries most : ℕ) : Type 0 where
  is_one : data_length p retries most ≡ refused 1 → AnswerView p retries most
  is_two : data_length p retries most ≡ refused 2 → AnswerView p retries most
  is_short : data_length p retries most ≡ refused 26 → TooShort p retries most → AnswerView p retries most
  is_given : (n : ℕ) → data_length p retries most ≡ accepted n → Largest p retries most n → AnswerView p retries most

answer_view : (p : Profile) (retries most : ℕ) → AnswerView p retries most
answer_view p retries most = go (made_view p)
  where
    two : ℕ
    two = longest_wait 2 p retries

    by : profile_made p ≡ accepted p → (b c : Bool) → (retries outside 3 to 15) ≡ b → (most <? two) ≡ c → AnswerView p retries most
    by m true c e f = is_two (with_made p retries most m ∙ if_is_true (retries outside 3 to 15) _ _ e)
    by m false true e f =
        is_short (with_made p retries most m ∙ if_is_false (retries outside 3 to 15) _ _ e ∙ if_is_true (most <? two) _ _ f)
        (record { good_profile = m; good_retries = e; too_long = ltb-true most two f })
    by m false false e f =
        is_given _ (with_made p retries most m ∙ if_is_false (retries outside 3 to 15) _ _ e ∙ if_is_false (most <? two) _ _ f) (is_largest p retries most (ltb-false most two f))

    go : MadeView p → AnswerView p retries most
    go (is_made e) = by e (retries outside 3 to 15) (most <? two) refl refl
    go (is_refused e) = is_one (with_refused p retries most 1 e)

-- the number of an answer: 0 for one that was given
abbrev answered : Called ℕ → ℕ
answered (accepted n) = 0
answered (refused why) = why

-- ---- the claims

pub gives_the_largest : GivesTheLargest
gives_the_largest p retries most n q = go (answer_view p retries most)
  where
    go : AnswerView p retries most → Largest p retries most n
    go (is_one e) = absurd (refused_accepted (sym e ∙ q))
    go (is_two e) = absurd (refused_accepted (sym e ∙ q))
    go (is_short e s) = absurd (refused_accepted (sym e ∙ q))
    go (is_given m e l) = subst (Largest p retries most) (ap given (sym e ∙ q)) l
      where
        given : Called ℕ → ℕ
        given (accepted k) = k
        given (refused why) = 0

pub one_then_two : OneThenTwo
one_then_two p retries most =
    (λ e. with_refused p retries most 1 e, λ e f. with_made p retries most e ∙ if_is_true (retries outside 3 to 15) _ _ f)

pub too_short_exactly : TooShortExactly
too_short_exactly p retries most = (λ q. go q (answer_view p retries most), back)
  where
    go : data_length p retries most ≡ refused 26 → AnswerView p retries most → TooShort p retries most
    go q (is_one e) = let k : ◌≡◌ {A = ℕ} 1 26 = ap answered (sym e ∙ q) in absurd (omega arith)
    go q (is_two e) = let k : ◌≡◌ {A = ℕ} 2 26 = ap answered (sym e ∙ q) in absurd (omega arith)
    go q (is_short e s) = s
    go q (is_given n e l) = absurd (refused_accepted (sym q ∙ e))

    back : TooShort p retries most → data_length p retries most ≡ refused 26
    back s =
        with_made p retries most s.good_profile ∙ if_is_false (retries outside 3 to 15) _ _ s.good_retries
        ∙ if_is_true (most <? longest_wait 2 p retries) _ _ (lt-ltb most (longest_wait 2 p retries) s.too_long)

-- more data wait longer
grows : (p : Profile) (retries n m : ℕ) → n ≤ m → longest_wait n p retries ≤ longest_wait m p retries
grows p retries n m e =
    let more : n + 29 + p.rt1s ≤ m + 29 + p.rt1s = omega arith in
    omega (arith, mul-le-mul_left (retries + 1) more)

pub none_fits : NoneFits
none_fits p retries most q n e z =
    let s = (too_short_exactly p retries most).0 q in
    omega (arith, s.too_long, grows p retries 2 n e, z)

begins_more : {primary : Bool} (n m : ℕ) {ss : List LinkStep} → n ≤ m → BeginsWithin primary n ss → BeginsWithin primary m ss
begins_more n m e (begins k c q) = begins m c q
begins_more (suc n) zero e (waits q b) = absurd (omega arith)
begins_more (suc n) (suc m) e (waits q b) = waits q (begins_more n m (omega arith) b)

pub owner_waits_where : OwnerWaitsWhere
owner_waits_where p retries most n q steps w primary t s after d acc none room =
    let l = gives_the_largest p retries most n q in
    begins_more _ _ (omega (arith, l.within)) ((w primary t s after d acc).0 none (omega (arith, l.within, room)))

pub owner_waits : OwnerWaits
owner_waits p retries most n q l ticks k =
    let g = gives_the_largest p retries most n q in
    owner_waits_where p retries most n q _ (wait n g.low g.high p retries l ticks k)
