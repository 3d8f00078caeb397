-- What holds of every record of a load, said once: of drawn records by their pair, of the opening by a computed test, and of a load that is cut anywhere.
use Prim.Native.Nat.{ℕ, zero, suc, ◌+◌, ◌*◌, ◌/◌, ◌%◌, ◌≤◌, ◌<◌}
use native.Mathlib.Omega.{arith}
use mathlib.Core.Path.{◌≡◌, refl}
use mathlib.Core.Bool.{Bool, true, false}
use mathlib.Core.List.{List, [], ◌∷◌, ◌++◌}
use lib.ListN.{length, get_or}
use Rattle.base.specs.Choice.{when◌then◌else◌, ◌<?◌, ◌=?◌}
use Rattle.base.proofs.Tables.{chain_first, chain_second}
use Rattle.turns.proofs.Bursting.{if_both}
use Rattle.player_script.specs.declared.Entry.{Entry}
use Rattle.load_writer.specs.Load.{call, opening, mark, front, pair_tick, asked_of, wish_of, length_of, lower, upper, stop_at, draw, drawn_from, laid, load}

-- ---- the four forms of the first of a pair

pub lower_either : (P : Entry → Type 0) (t x : ℕ) → P (call t (x % 2) 1 ((asked_of (x / 16 % 16) + 62) % 64)) → P (call t (x % 2) 3 (asked_of (x / 16 % 16))) → P (call t 2 (wish_of (x / 256 % 4)) (length_of x)) → P (call t 3 2 (length_of x)) → P (lower t x)
unfolding lower
lower_either P t x a b c d = if_both P (x % 16 <? 4) _ _ (if_both P (x / 256 % 4 =? 0) _ _ a b) (if_both P (x % 16 <? 14) _ _ c d)

pub lower_tick : (t x : ℕ) → (lower t x).tick ≡ t
lower_tick t x = lower_either (λ (e : Entry). e.tick ≡ t) t x refl refl refl refl

-- ---- every record

pub data Each (P : Entry → Type 0) : List Entry → Type 0 where
  none : Each P []
  and : {e : Entry} {es : List Entry} → P e → Each P es → Each P (e ∷ es)

pub each_and : (P : Entry → Type 0) (e : Entry) (es : List Entry) → P e → Each P es → Each P (e ∷ es)
each_and P e es h w = and h w

pub each_at : (P : Entry → Type 0) (es : List Entry) (i : ℕ) (d : Entry) → Each P es → P d → P (get_or es i d)
each_at P [] i d w h = h
each_at P (e ∷ es) zero d (and g w) h = g
each_at P (e ∷ es) (suc i) d (and g w) h = each_at P es i d w h

-- the pairs up to a number, the upper ones and the stops
module _ (P : Entry → Type 0) (bound : ℕ) (low : (k x : ℕ) → 2 * k ≤ bound → P (lower (pair_tick k) x)) (up : (k x : ℕ) → 2 * k ≤ bound → P (upper (pair_tick k) x)) (stop : (e : Entry) → P e → P (stop_at e.tick)) where
  pub each_drawn : (n k x : ℕ) → 2 * k + n ≤ bound → Each P (drawn_from k x n)
  unfolding drawn_from upper
  each_drawn zero k x h = none
  each_drawn (suc zero) k x h = each_and P (stop_at (pair_tick k)) [] (stop (upper (pair_tick k) x) (up k x (omega (arith, h)))) none
  each_drawn (suc (suc zero)) k x h =
      each_and P (lower (pair_tick k) x) _ (low k x (omega (arith, h))) (each_and P (stop_at (pair_tick k)) [] (stop (upper (pair_tick k) x) (up k x (omega (arith, h)))) none)
  each_drawn (suc (suc (suc n))) k x h =
      each_and P (lower (pair_tick k) x) _ (low k x (omega (arith, h)))
      (each_and P (upper (pair_tick k) (draw x)) _ (up k (draw x) (omega (arith, h))) (each_drawn (suc n) (k + 1) (draw (draw x)) (omega (arith, h))))

  each_laid : (x : ℕ) (es : List Entry) (n : ℕ) → n ≤ length es + bound → Each P es → Each P (laid x es n)
  unfolding laid
  each_laid x [] n h w = each_drawn n 0 x (omega (arith, h))
  each_laid x (e ∷ es) zero h w = none
  each_laid x (e ∷ es) (suc zero) h (and g w) = each_and P (stop_at e.tick) [] (stop e g) none
  each_laid x (e ∷ es) (suc (suc n)) h (and g w) = each_and P e _ g (each_laid x es (suc n) (omega (arith, h)) w)

  front_count : (x : ℕ) → length (front x) ≡ 12
  unfolding opening
  front_count x = refl

  pub each_load : (seed n : ℕ) → n ≤ 12 + bound → Each P (front (draw seed)) → Each P (load seed n)
  unfolding load
  each_load seed n h w = each_laid (draw (draw seed)) (front (draw seed)) n (omega (arith, h, front_count (draw seed))) w

-- ---- the opening by a test, and the mark

unfoldable pub tests : (Entry → Bool) → List Entry → Bool
tests test [] = true
tests test (e ∷ es) = when test e then tests test es else false

module _ (P : Entry → Type 0) (test : Entry → Bool) (sound : (e : Entry) → test e ≡ true → P e) (marks : (x q : ℕ) → q < 4 → P (mark x q)) where
  each_tested : (es fs : List Entry) → tests test es ≡ true → Each P fs → Each P (es ++ fs)
  unfolding tests
  each_tested [] fs t w = w
  each_tested (e ∷ es) fs t w = each_and P e (es ++ fs) (sound e (chain_first (test e) (tests test es) t)) (each_tested es fs (chain_second (test e) (tests test es) t) w)

  pub each_front : tests test opening ≡ true → (x : ℕ) → Each P (front x)
  each_front t x =
      each_tested opening _ t
      (each_and P (mark x 0) _ (marks x 0 (omega arith))
      (each_and P (mark x 1) _ (marks x 1 (omega arith))
      (each_and P (mark x 2) _ (marks x 2 (omega arith))
      (each_and P (mark x 3) _ (marks x 3 (omega arith)) none))))
