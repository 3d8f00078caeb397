-- The player takes every load.
use Prim.Native.Nat.{ℕ, zero, suc, ◌+◌, ◌/◌, ◌%◌, ◌≤◌, ◌<◌}
use mathlib.Core.Path.{◌≡◌, refl, sym, ap, ◌∙◌}
use mathlib.Core.Bool.{true, false}
use mathlib.Core.List.{List, [], ◌∷◌}
use native.Mathlib.Nat.{mod-lt, div-add-mod'}
use native.Mathlib.Omega.{arith}
use lib.Pow.{pow_pos}
use borrow.Author.Tests.{lt-ltb, le-ltb, eq-eqb, ne_eqb}
use Rattle.base.specs.Choice.{when◌then◌else◌, ◌<?◌, ◌=?◌}
use Rattle.base.proofs.Choices.{true_false, if_is_true, if_is_false}
use Rattle.turns.proofs.Bursting.{if_both}
use Rattle.player_script.specs.Script.{is_masters, is_devices, is_call, is_in, called_before, is_good}
use Rattle.player_script.specs.declared.Entry.{Entry}
use Rattle.load_writer.proofs.Records.{lower_either, lower_tick}
use Rattle.load_writer.specs.Load.{call, opening, front, pair_tick, wish_of, length_of, lower, upper_party, upper, stop_at, draw, drawn_from, laid, load}

good_more : (last : ℕ) (called : List ℕ) (e : Entry) (rest : List Entry) → (e.tick <? last) ≡ false → is_call e ≡ true
    → is_in e.party (called_before last called e) ≡ false → is_good e.tick (e.party ∷ called_before last called e) rest ≡ true → is_good last called (e ∷ rest) ≡ true
unfolding is_good
good_more last called e [] a b c d = absurd (true_false (sym d))
good_more last called e (f ∷ es) a b c d = if_is_false (e.tick <? last) _ _ a ∙ if_is_true (is_call e) _ _ b ∙ if_is_false (is_in e.party (called_before last called e)) _ _ c ∙ d

good_stop : (last : ℕ) (called : List ℕ) (tick : ℕ) → last ≤ tick → is_good last called (stop_at tick ∷ []) ≡ true
unfolding is_good when◌then◌else◌
good_stop last called tick h = if_is_false (tick <? last) _ _ (le-ltb tick last h)

-- ---- a pair

low_party : (x : ℕ) → x % 2 < 2
low_party x = mod-lt x (pow_pos 1)

lower_party : (t x : ℕ) → (lower t x).party < 4
lower_party t x = lower_either (λ (e : Entry). e.party < 4) t x (omega (arith, low_party x)) (omega (arith, low_party x)) (omega arith) (omega arith)

masters_call : (t p action a : ℕ) → p < 2 → is_masters action ≡ true → is_call (call t p action a) ≡ true
masters_call t p action a h m = if_is_true (p <? 2) _ _ (lt-ltb p 2 h) ∙ m

wish_devices : (k : ℕ) → is_devices (wish_of k) ≡ true
unfolding when◌then◌else◌
wish_devices k = if_both (λ (n : ℕ). is_devices n ≡ true) (k =? 0) _ _ refl (if_both (λ (n : ℕ). is_devices n ≡ true) (k =? 1) _ _ refl refl)

asks_polling : is_masters 1 ≡ true
unfolding when◌then◌else◌
asks_polling = refl

asks_unique : is_masters 3 ≡ true
unfolding when◌then◌else◌
asks_unique = refl

party_3 : (t a : ℕ) → is_call (call t 3 2 a) ≡ true
unfolding when◌then◌else◌
party_3 t a = refl

answers : is_devices 2 ≡ true
unfolding when◌then◌else◌
answers = refl

party_2 : (t k a : ℕ) → is_call (call t 2 (wish_of k) a) ≡ true
party_2 t k a = if_is_false (2 <? 2) _ _ refl ∙ if_is_true (2 <? 8) _ _ refl ∙ wish_devices k

lower_call : (t x : ℕ) → is_call (lower t x) ≡ true
lower_call t x =
    lower_either (λ (e : Entry). is_call e ≡ true) t x
    (masters_call t (x % 2) 1 0 (low_party x) asks_polling)
    (masters_call t (x % 2) 3 0 (low_party x) asks_unique)
    (party_2 t (x / 256 % 4) (length_of x))
    (party_3 t (length_of x))

-- the parties of the second
upper_party_lem : (w : ℕ) → 4 ≤ upper_party w
upper_party_lem w = let P : ℕ → Type 0 = λ p. 4 ≤ p in if_both P (w <? 10) _ _ (omega arith) (if_both P (w <? 12) _ _ (omega arith) (if_both P (w <? 14) _ _ (omega arith) (omega arith)))

pub upper_below : (w : ℕ) → upper_party w < 8
upper_below w = let P : ℕ → Type 0 = λ p. p < 8 in if_both P (w <? 10) _ _ (omega arith) (if_both P (w <? 12) _ _ (omega arith) (if_both P (w <? 14) _ _ (omega arith) (omega arith)))

upper_call : (t x : ℕ) → is_call (upper t x) ≡ true
unfolding upper
upper_call t x = if_is_false (upper_party (x % 16) <? 2) _ _ (le-ltb (upper_party (x % 16)) 2 (omega (arith, upper_party_lem (x % 16)))) ∙ if_is_true (upper_party (x % 16) <? 8) _ _ (lt-ltb _ 8 (upper_below (x % 16))) ∙ answers

-- ---- the drawn records

rises : (k : ℕ) → pair_tick k < pair_tick (k + 1)
rises k = omega (arith, div-add-mod' k 8, div-add-mod' (k + 1) 8, mod-lt k (pow_pos 3), mod-lt (k + 1) (pow_pos 3))

not_in_none : (p : ℕ) → is_in p [] ≡ false
unfolding is_in
not_in_none p = refl

not_in_one : (p q : ℕ) → (p ≡ q → ⊥) → is_in p (q ∷ []) ≡ false
unfolding is_in
not_in_one p q h = if_is_false (p =? q) _ _ (ne_eqb p q h)

-- the first of a pair: in a new tick nobody has a call
first : (k x last : ℕ) (called : List ℕ) (rest : List Entry) → last < pair_tick k
    → is_good (pair_tick k) ((lower (pair_tick k) x).party ∷ []) rest ≡ true → is_good last called (lower (pair_tick k) x ∷ rest) ≡ true
first k x last called rest h r =
    good_more last called e rest (ap (λ (t : ℕ). t <? last) (lower_tick t x) ∙ le-ltb t last (omega (arith, h))) (lower_call t x)
    (ap (is_in e.party) fresh ∙ not_in_none e.party)
    (ap (λ (c : List ℕ). is_good e.tick (e.party ∷ c) rest) fresh ∙ ap (λ (n : ℕ). is_good n (e.party ∷ []) rest) (lower_tick t x) ∙ r)
  where
    t : ℕ
    t = pair_tick k

    e : Entry
    e = lower t x

    fresh : called_before last called e ≡ []
    fresh = if_is_false (e.tick =? last) _ _ (ap (λ (n : ℕ). n =? last) (lower_tick t x) ∙ ne_eqb t last (λ q. omega (arith, h, q)))

second : (k x y : ℕ) (rest : List Entry)
    → is_good (pair_tick k) ((upper (pair_tick k) y).party ∷ (lower (pair_tick k) x).party ∷ []) rest ≡ true
    → is_good (pair_tick k) ((lower (pair_tick k) x).party ∷ []) (upper (pair_tick k) y ∷ rest) ≡ true
unfolding upper
second k x y rest r =
    good_more t (p ∷ []) (upper t y) rest (le-ltb t t (omega arith)) (upper_call t y)
    (ap (is_in (upper_party (y % 16))) same ∙ not_in_one (upper_party (y % 16)) p (λ q. omega (arith, q, upper_party_lem (y % 16), lower_party t x)))
    (ap (λ (c : List ℕ). is_good t (upper_party (y % 16) ∷ c) rest) same ∙ r)
  where
    t : ℕ
    t = pair_tick k

    p : ℕ
    p = (lower t x).party

    same : called_before t (p ∷ []) (upper t y) ≡ p ∷ []
    same = if_is_true (t =? t) _ _ (eq-eqb t t refl)

pub drawn_good : (n k x last : ℕ) (called : List ℕ) → last < pair_tick k → is_good last called (drawn_from k x (suc n)) ≡ true
unfolding drawn_from
drawn_good zero k x last called h = good_stop last called (pair_tick k) (omega (arith, h))
drawn_good (suc zero) k x last called h = first k x last called _ h (good_stop (pair_tick k) _ (pair_tick k) (omega arith))
drawn_good (suc (suc n)) k x last called h =
    first k x last called _ h (second k x (draw x) _ (drawn_good n (k + 1) (draw (draw x)) (pair_tick k) _ (rises k)))

-- ---- the front

data Front : ℕ → List ℕ → List Entry → ℕ → Type 0 where
  done : {last : ℕ} {called : List ℕ} → Front last called [] last
  more : {last : ℕ} {called : List ℕ} {e : Entry} {es : List Entry} {end : ℕ} → (e.tick <? last) ≡ false → is_call e ≡ true → is_in e.party (called_before last called e) ≡ false
      → Front e.tick (e.party ∷ called_before last called e) es end → Front last called (e ∷ es) end

stop_here : (last : ℕ) (called : List ℕ) (tick : ℕ) → (tick <? last) ≡ false → is_good last called (stop_at tick ∷ []) ≡ true
unfolding is_good when◌then◌else◌
stop_here last called tick a = if_is_false (tick <? last) _ _ a

laid_good : (n x last : ℕ) (called : List ℕ) (es : List Entry) (end : ℕ) → Front last called es end → end < pair_tick 0 → is_good last called (laid x es (suc n)) ≡ true
unfolding laid
laid_good n x last called [] end done h = drawn_good n 0 x last called h
laid_good zero x last called (e ∷ es) end (more a b c d) h = stop_here last called e.tick a
laid_good (suc n) x last called (e ∷ es) end (more a b c d) h = good_more last called e _ a b c (laid_good n x e.tick _ es end d h)

front_good : (x : ℕ) → Front 0 [] (front x) 400
unfolding opening is_in when◌then◌else◌
front_good x = more refl refl refl (more refl refl refl (more refl refl refl (more refl refl refl (more refl refl refl (more refl refl refl (more refl refl refl (more refl refl refl
    (more refl refl refl (more refl refl refl (more refl refl refl (more refl refl refl done)))))))))))

pub load_good : (seed n : ℕ) → is_good 0 [] (load seed (suc n)) ≡ true
unfolding load
load_good seed n = laid_good n (draw (draw seed)) 0 [] (front (draw seed)) 400 (front_good (draw seed)) (omega arith)
