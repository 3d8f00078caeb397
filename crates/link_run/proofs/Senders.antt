-- A tick's number tells who sends in it; where at most one party does, the number that was written for the tick tells of at most one sender.
use Prim.Native.Nat.{ℕ, zero, suc, ◌+◌, ◌*◌, ◌/◌, ◌%◌, ◌≤◌, ◌<◌}
use native.Mathlib.Omega.{arith}
use mathlib.Core.Path.{◌≡◌, sym, ap, subst, ◌∙◌}
use mathlib.Core.List.{List, [], ◌∷◌}
use lib.ListN.{length, take, drop, get_or, take-append-drop, get_or-append}
use Rattle.base.specs.Store.{stored}
use Rattle.base.proofs.Stores.{stored_between}
use Rattle.turns.specs.Link.{LinkStep}
use Rattle.turns.specs.Run.{count, device_senders, senders, EachTick, tick_and, NoTwoSend}
use Rattle.runs.specs.Late.{in_tick}
use Rattle.turns.specs.declared.CallResult.{CallResult}
use Rattle.turns.specs.declared.Sent.{Sent}
use Rattle.turns.specs.declared.Sent.TheVariants.{Silent, Character}
use Rattle.link_run.specs.Run.{taken, tick_number, numbers_of, senders_told, primary_told, secondary_told, OneSender, written}

-- ---- a tick

-- the parts of a number: what the primary, the secondary and the devices send, and whose requests were taken
module _ (p s d for-p for-s : ℕ) (at_most : p + (s + d) ≤ 15) (p-once : p ≤ 1) (s-once : s ≤ 1) (for-p-once : for-p ≤ 1) (for-s-once : for-s ≤ 1) where
  abbrev made : ℕ
  made = (p + (s + d)) + 16 * (for-p + 4 * p) + 32 * (for-s + 4 * s)

  in_64 : made / 64 ≡ p + 2 * s
  in_64 = omega arith

  in_128 : made / 128 ≡ s
  in_128 = omega arith

  made_primary : primary_told made ≡ p
  made_primary = let odd : (p + 2 * s) % 2 ≡ p = omega arith in ap (λ (n : ℕ). n % 2) in_64 ∙ odd

  made_secondary : secondary_told made ≡ s
  made_secondary = let odd : s % 2 ≡ s = omega arith in ap (λ (n : ℕ). n % 2) in_128 ∙ odd

  made_senders : senders_told made ≡ p + (s + d)
  made_senders = omega arith

taken_once : (a : CallResult) → taken a ≤ 1
taken_once CallResult.Nothing = omega arith
taken_once CallResult.Taken = omega arith
taken_once (CallResult.Refused why) = omega arith

counts_once : (x : Sent) → count x ≤ 1
counts_once Silent = omega arith
counts_once (Character c) = omega arith

-- who sends in a tick is what its number tells: a link has at most eight parties
module _ (s : LinkStep) (at_most : senders s ≤ 15) where
  pub senders_told_lem : senders_told (tick_number s) ≡ senders s
  senders_told_lem =
      made_senders (count s.for_primary.sent) (count s.for_secondary.sent) (device_senders s.for_devices) (taken s.for_primary.result) (taken s.for_secondary.result) at_most
      (counts_once s.for_primary.sent) (counts_once s.for_secondary.sent) (taken_once s.for_primary.result) (taken_once s.for_secondary.result)

  pub primary_told_lem : primary_told (tick_number s) ≡ count s.for_primary.sent
  primary_told_lem =
      made_primary (count s.for_primary.sent) (count s.for_secondary.sent) (device_senders s.for_devices) (taken s.for_primary.result) (taken s.for_secondary.result) at_most
      (counts_once s.for_primary.sent) (counts_once s.for_secondary.sent) (taken_once s.for_primary.result) (taken_once s.for_secondary.result)

  pub secondary_told_lem : secondary_told (tick_number s) ≡ count s.for_secondary.sent
  secondary_told_lem =
      made_secondary (count s.for_primary.sent) (count s.for_secondary.sent) (device_senders s.for_devices) (taken s.for_primary.result) (taken s.for_secondary.result) at_most
      (counts_once s.for_primary.sent) (counts_once s.for_secondary.sent) (taken_once s.for_primary.result) (taken_once s.for_secondary.result)

tick_tells : (s : LinkStep) → senders s ≤ 1 → OneSender (tick_number s)
tick_tells s h =
    let most : senders s ≤ 15 = omega arith in
    record {
      at_most_one = few (senders_told (tick_number s)) (senders_told_lem s most);
      masters_counted = counted (senders_told (tick_number s)) (primary_told (tick_number s)) (secondary_told (tick_number s)) (senders_told_lem s most) (primary_told_lem s most) (secondary_told_lem s most);
    }
  where
    few : (n : ℕ) → n ≡ senders s → n ≤ 1
    few n x = omega arith

    counted : (n a b : ℕ) → n ≡ senders s → a ≡ count s.for_primary.sent → b ≡ count s.for_secondary.sent → a + b ≤ n
    counted n a b x y z = omega arith

-- ---- tick i of a run

numbers_tell : (steps : List LinkStep) (i : ℕ) → in_tick senders steps i ≤ 1 → OneSender (get_or (numbers_of steps) i 0)
unfolding numbers_of in_tick
numbers_tell [] i h = record { at_most_one = omega arith; masters_counted = omega arith }
numbers_tell (s ∷ ss) zero h = tick_tells s h
numbers_tell (s ∷ ss) (suc i) h = numbers_tell ss i h

pub none_in_tick : (steps : List LinkStep) (i : ℕ) → EachTick NoTwoSend steps → in_tick senders steps i ≤ 1
unfolding in_tick
none_in_tick [] i e = omega arith
none_in_tick (s ∷ ss) zero (tick_and h e) = h
none_in_tick (s ∷ ss) (suc i) (tick_and h e) = none_in_tick ss i e

-- ---- what was written

length_most : (n : ℕ) (xs : List ℕ) → length (take n xs) ≤ n
length_most zero xs = omega arith
length_most (suc n) [] = omega arith
length_most (suc n) (x ∷ xs) = omega (arith, length_most n xs)

-- a byte that was written is the number of its tick
written_is : (steps : List LinkStep) (before after : List ℕ) (i : ℕ) → after ≡ stored before 0 (written steps before) → i < length (written steps before) → get_or after i 0 ≡ get_or (numbers_of steps) i 0
written_is steps before after i e h =
    let us = written steps before in
    ap (λ (xs : List ℕ). get_or xs i 0) (e ∙ stored_between before 0 us (omega (arith, length_most (length before) (numbers_of steps))))
    ∙ get_or-append us (drop (0 + length us) before) 0 i h
    ∙ sym (get_or-append us (drop (length before) (numbers_of steps)) 0 i h)
    ∙ ap (λ (xs : List ℕ). get_or xs i 0) (take-append-drop (length before) (numbers_of steps))

pub written_tells : (steps : List LinkStep) (before after : List ℕ) (i : ℕ) → after ≡ stored before 0 (written steps before) → i < length (written steps before) → in_tick senders steps i ≤ 1 → OneSender (get_or after i 0)
written_tells steps before after i e h k = subst OneSender (sym (written_is steps before after i e h)) (numbers_tell steps i k)
