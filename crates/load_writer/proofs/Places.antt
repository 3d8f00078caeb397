-- A record of the opening or the mark by its place, and that every record fits its bytes, as the writer's code needs it.
use Prim.Native.Nat.{ℕ, zero, suc, ◌+◌, ◌-◌, ◌%◌, ◌≤◌, ◌<◌}
use native.Mathlib.Omega.{arith}
use mathlib.Core.Bool.{true}
use mathlib.Core.Path.{◌≡◌, refl, sym, ap, subst, ◌∙◌}
use mathlib.Core.List.{[], ◌∷◌}
use lib.ListN.{length, get_or, get_or-append}
use borrow.Author.Tests.{eqb-true}
use Rattle.base.specs.Choice.{when◌then◌else◌, ◌=?◌}
use Rattle.base.proofs.Choices.{if_is_false}
use Rattle.base.proofs.Tables.{holds_below, holds_at, among, None, not_among}
use Rattle.player_script.specs.declared.Entry.{Entry}
use Rattle.load_writer.specs.Load.{call, opening, mark, front, lower, upper, stop_at}
use Rattle.load_writer.specs.Fits.{Fits}
use Rattle.load_writer.proofs.Records.{each_at}
use Rattle.load_writer.proofs.Bytes.{lower_fits, upper_fits, stop_fits, front_fit}

-- ---- a record by its place

-- equal fields
pub call_is : (t p q a b g h : ℕ) (r : Entry) → r ≡ call t p a g → p ≡ q → a ≡ b → g ≡ h → r ≡ call t q b h
call_is t p q a b g h r e k l m = e ∙ (λ i. call t (k i) (l i) (m i))

-- a polling address is two less than the unique one
pub polled : (t p a b : ℕ) (r : Entry) → r ≡ call t p 1 ((a + 62) % 64) → a ≡ b → r ≡ call t p 1 ((b + 62) % 64)
polled t p a b r e k = e ∙ ap (λ (n : ℕ). call t p 1 ((n + 62) % 64)) k

pub ruleset calls = (call_is, polled)

pub opening_at : (i j : ℕ) (r : Entry) → i ≡ j → r ≡ get_or opening j (stop_at 0) → r ≡ get_or opening i (stop_at 0)
opening_at i j r e p = p ∙ ap (λ (k : ℕ). get_or opening k (stop_at 0)) (sym e)

-- the last arm's place is none of the others
pub opening_last : (i : ℕ) → i < 8 → None (Unit {0}) (0 ∷ 1 ∷ 2 ∷ 3 ∷ 4 ∷ 5 ∷ 6 ∷ []) i → i ≡ 7
unfolding holds_below when◌then◌else◌
opening_last i h others =
    eqb-true i 7
    (sym (if_is_false (among (0 ∷ 1 ∷ 2 ∷ 3 ∷ 4 ∷ 5 ∷ 6 ∷ []) i) true (i =? 7) (sym (not_among (0 ∷ 1 ∷ 2 ∷ 3 ∷ 4 ∷ 5 ∷ 6 ∷ []) i others)))
    ∙ holds_at 8 (λ (k : ℕ). when among (0 ∷ 1 ∷ 2 ∷ 3 ∷ 4 ∷ 5 ∷ 6 ∷ []) k then true else k =? 7) refl i h)

opening_length : length opening ≡ 8
unfolding opening
opening_length = refl

pub front_length : (x : ℕ) → length (front x) ≡ 12
unfolding opening
front_length x = refl

pub front_opening : (x i : ℕ) (r : Entry) → i < 8 → r ≡ get_or opening i (stop_at 0) → r ≡ get_or (front x) i (stop_at 0)
front_opening x i r h p = p ∙ sym (get_or-append opening (mark x 0 ∷ mark x 1 ∷ mark x 2 ∷ mark x 3 ∷ []) (stop_at 0) i (omega (arith, h, opening_length)))

marked : (x q : ℕ) → q < 4 → mark x q ≡ get_or (front x) (8 + q) (stop_at 0)
unfolding opening
marked x zero h = refl
marked x (suc zero) h = refl
marked x (suc (suc zero)) h = refl
marked x (suc (suc (suc zero))) h = refl
marked x (suc (suc (suc (suc q)))) h = absurd (omega (arith, h))

pub front_mark : (x i : ℕ) (r : Entry) → 8 ≤ i → i < 12 → r ≡ mark x (i - 8) → r ≡ get_or (front x) i (stop_at 0)
front_mark x i r h k p = p ∙ marked x (i - 8) (omega (arith, h, k)) ∙ ap (λ (n : ℕ). get_or (front x) n (stop_at 0)) (back i h)
  where
    back : (i : ℕ) → 8 ≤ i → 8 + (i - 8) ≡ i
    back i h = omega (arith, h)

-- ---- records that fit

pub lower_fits_at : (t x : ℕ) (e : Entry) → e ≡ lower t x → t < 65536 → Fits e
lower_fits_at t x e p h = subst Fits (sym p) (lower_fits t x h)

pub upper_fits_at : (t x : ℕ) (e : Entry) → e ≡ upper t x → t < 65536 → Fits e
upper_fits_at t x e p h = subst Fits (sym p) (upper_fits t x h)

pub stop_fits_at : (t : ℕ) (e : Entry) → e ≡ call t 0 0 0 → t < 65536 → Fits e
stop_fits_at t e p h = subst Fits (sym p) (stop_fits t h)

pub front_fits_at : (x i : ℕ) (e : Entry) → e ≡ get_or (front x) i (stop_at 0) → Fits e
front_fits_at x i e p = subst Fits (sym p) (each_at Fits (front x) i (stop_at 0) (front_fit x) (stop_fits 0 (omega arith)))

pub stop_behind : (x i : ℕ) (e f : Entry) → e ≡ get_or (front x) i (stop_at 0) → f ≡ call e.tick 0 0 0 → Fits f
stop_behind x i e f p q = stop_fits_at e.tick f q (front_fits_at x i e p).tick

pub ruleset fitting = (lower_fits_at, upper_fits_at, stop_fits_at, front_fits_at, stop_behind)
