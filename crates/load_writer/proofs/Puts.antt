-- Records in the lent buffer, one behind the other: what is left, stored behind what stands there, gives the whole.
use Prim.Native.Nat.{ℕ, zero, suc, ◌+◌, ◌-◌, ◌*◌, ◌≤◌, ◌<◌}
use native.Mathlib.Omega.{arith}
use mathlib.Core.Path.{◌≡◌, refl, sym, ap, ap₂, ◌∙◌}
use mathlib.Core.List.{List, [], ◌∷◌, ◌++◌}
use lib.ListN.{length, get_or, take, drop, length-take, length-drop, drop_of_length-le}
use lib.Seq.{drop-cons, drop-drop, take-length, length-take-le}
use borrow.Rule.Slice.PartMut.{put_mid}
use Rattle.base.specs.Store.{stored}
use Rattle.base.proofs.Stores.{length_stored, stored_between, stored_parts}
use Rattle.player_script.specs.declared.Entry.{Entry}
use Rattle.load_writer.specs.Load.{draw, call, front, pair_tick, lower, upper, stop_at, drawn_from, laid, load, entry_bytes, script_bytes}
use Rattle.load_writer.proofs.Bytes.{bytes_length}
use Rattle.load_writer.proofs.Places.{front_length}

-- ---- in the buffer

-- a record's bytes are copied to their place
pub record_put : (out : List ℕ) (at k : ℕ) (bytes : List ℕ) (e : Entry) → k ≡ 4 → at + 4 ≤ length out → bytes ≡ entry_bytes e [] → put_mid at k out bytes ≡ stored out at (entry_bytes e [])
record_put out at k bytes e s h p =
    (λ i. take at out ++ (p i ++ drop (s i) (drop at out)))
    ∙ ap (λ (l : List ℕ). take at out ++ (entry_bytes e [] ++ l)) (drop-drop 4 at out)
    ∙ sym (stored_between out at (entry_bytes e []) h)

four_on : (n : ℕ) → suc (suc (suc (suc n))) ≡ n + 4
four_on n = omega arith

-- a record, and the others behind it
record_and : (e : Entry) (out rest : List ℕ) (at : ℕ) → stored (stored out at (entry_bytes e [])) (at + 4) rest ≡ stored out at (entry_bytes e rest)
unfolding stored
record_and e out rest at = ap (λ (n : ℕ). stored (stored out at (entry_bytes e [])) n rest) (sym (four_on at))

pub still_room : (out after vs : List ℕ) (at n : ℕ) → after ≡ stored out at vs → n ≤ length out → n ≤ length after
still_room out after vs at n p h = omega (arith, h, ap length p, length_stored out at vs)

-- ---- the opening and the mark

-- i of the n records stand in the buffer; the others, stored behind them, give all
pub record Fronting (before : List ℕ) (x n : ℕ) (out : List ℕ) (i : ℕ) : Type 0 where
  pub within : i ≤ n
  pub few : n ≤ 12
  pub room : 4 * n ≤ length out
  pub same_length : length out ≡ length before
  pub left : stored out (4 * i) (script_bytes (drop i (take n (front x)))) ≡ stored before 0 (script_bytes (take n (front x)))

pub fronting_none : (before : List ℕ) (x n : ℕ) → n ≤ 12 → 4 * n ≤ length before → Fronting before x n before 0
fronting_none before x n h k = record { within = omega arith; few = h; room = k; same_length = refl; left = refl }

take_at_place : (es : List Entry) (d : Entry) (n i : ℕ) → i < n → get_or (take n es) i d ≡ get_or es i d
take_at_place es d zero i h = absurd (omega (arith, h))
take_at_place [] d (suc n) i h = refl
take_at_place (e ∷ es) d (suc n) zero h = refl
take_at_place (e ∷ es) d (suc n) (suc i) h = take_at_place es d n i (omega (arith, h))

pub fronting_more : (before : List ℕ) (x n : ℕ) (out after : List ℕ) (i : ℕ) (e : Entry) → Fronting before x n out i → i < n → e ≡ get_or (front x) i (stop_at 0) → after ≡ stored out (4 * i) (entry_bytes e []) → Fronting before x n after (i + 1)
unfolding script_bytes
fronting_more before x n out after i e v h p q = record {
  within = omega (arith, h);
  few = v.few;
  room = still_room out after (entry_bytes e []) (4 * i) (4 * n) q v.room;
  same_length = ap length q ∙ length_stored out (4 * i) (entry_bytes e []) ∙ v.same_length;
  left =
      ap (λ (k : ℕ). stored after (4 * (i + 1)) (script_bytes (drop k (take n (front x))))) (behind i)
      ∙ ap₂ (λ (l : List ℕ) (k : ℕ). stored l k rest) q (next i)
      ∙ record_and e out rest (4 * i)
      ∙ ap (λ (f : Entry). stored out (4 * i) (entry_bytes f rest)) (p ∙ sym (take_at_place (front x) (stop_at 0) n i h))
      ∙ ap (λ (es : List Entry). stored out (4 * i) (script_bytes es)) (sym (drop-cons (take n (front x)) i (stop_at 0) long))
      ∙ v.left;
}
  where
    rest : List ℕ
    rest = script_bytes (drop (suc i) (take n (front x)))

    behind : (i : ℕ) → i + 1 ≡ suc i
    behind i = omega arith

    next : (i : ℕ) → 4 * (i + 1) ≡ 4 * i + 4
    next i = omega arith

    long : i < length (take n (front x))
    long = omega (arith, h, length-take-le n (front x) (omega (arith, v.few, front_length x)))

pub fronting_all : (before : List ℕ) (x n : ℕ) (out : List ℕ) (i : ℕ) → Fronting before x n out i → n ≤ i → out ≡ stored before 0 (script_bytes (take n (front x)))
unfolding script_bytes stored
fronting_all before x n out i v h = sym (ap (λ (es : List Entry). stored out (4 * i) (script_bytes es)) (drop_of_length-le (take n (front x)) {i = i} (omega (arith, h, length-take n (front x))))) ∙ v.left

pub ruleset fronts = (refl, fronting_none, fronting_more, fronting_all)

-- ---- drawn records

-- n records are left, from pair k on: stored from this place on, they give all
pub record Drawing (before : List ℕ) (first count : ℕ) (out : List ℕ) (k x n at : ℕ) : Type 0 where
  pub some : 1 ≤ n
  pub pairs : 2 * k + n ≤ 65524
  pub room : at + 4 * n ≤ length out
  pub same_length : length out ≡ length before
  pub left : stored out at (script_bytes (drawn_from k x n)) ≡ stored before 0 (script_bytes (drawn_from 0 first count))

pub drawing_none : (before : List ℕ) (first count : ℕ) → 1 ≤ count → count ≤ 65524 → 4 * count ≤ length before → Drawing before first count before 0 first count 0
drawing_none before first count h k l = record { some = h; pairs = omega (arith, k); room = omega (arith, l); same_length = refl; left = refl }

pair_first : (k x n : ℕ) → 2 < n → script_bytes (drawn_from k x n) ≡ entry_bytes (lower (pair_tick k) x) (entry_bytes (upper (pair_tick k) (draw x)) (script_bytes (drawn_from (k + 1) (draw (draw x)) (n - 2))))
unfolding script_bytes drawn_from
pair_first k x zero h = absurd (omega (arith, h))
pair_first k x (suc zero) h = absurd (omega (arith, h))
pair_first k x (suc (suc zero)) h = absurd (omega (arith, h))
pair_first k x (suc (suc (suc n))) h = ap (λ (m : ℕ). entry_bytes (lower (pair_tick k) x) (entry_bytes (upper (pair_tick k) (draw x)) (script_bytes (drawn_from (k + 1) (draw (draw x)) m)))) (two_less n)
  where
    two_less : (n : ℕ) → suc n ≡ suc (suc (suc n)) - 2
    two_less n = omega arith

pub drawing_pair : (before : List ℕ) (first count : ℕ) (out one two : List ℕ) (k x n at t y z : ℕ) (e f : Entry) → Drawing before first count out k x n at → 2 < n → t ≡ pair_tick k → y ≡ draw x → z ≡ draw y → e ≡ lower t x → f ≡ upper t y
    → one ≡ stored out at (entry_bytes e []) → two ≡ stored one (at + 4) (entry_bytes f []) → Drawing before first count two (k + 1) z (n - 2) (at + 8)
drawing_pair before first count out one two k x n at t y z e f v h t-is y-is z-is e-is f-is p q = record {
  some = omega (arith, h);
  pairs = omega (arith, v.pairs, h);
  room = omega (arith, v.room, h, same);
  same_length = same ∙ v.same_length;
  left =
      ap₂ (λ (l : List ℕ) (w : ℕ). stored l (at + 8) (script_bytes (drawn_from (k + 1) w (n - 2)))) q (z-is ∙ ap draw y-is)
      ∙ ap (λ (w : ℕ). stored (stored one (at + 4) (entry_bytes f [])) w rest) (on at)
      ∙ record_and f one rest (at + 4)
      ∙ ap (λ (l : List ℕ). stored l (at + 4) (entry_bytes f rest)) p
      ∙ record_and e out (entry_bytes f rest) at
      ∙ ap₂ (λ (a b : Entry). stored out at (entry_bytes a (entry_bytes b rest))) (e-is ∙ ap (λ (w : ℕ). lower w x) t-is) (f-is ∙ ap₂ upper t-is y-is)
      ∙ ap (stored out at) (sym (pair_first k x n h))
      ∙ v.left;
}
  where
    rest : List ℕ
    rest = script_bytes (drawn_from (k + 1) (draw (draw x)) (n - 2))

    on : (a : ℕ) → a + 8 ≡ a + 4 + 4
    on a = omega arith

    same : length two ≡ length out
    same = ap length q ∙ length_stored one (at + 4) (entry_bytes f []) ∙ ap length p ∙ length_stored out at (entry_bytes e [])

pub drawing_all : (before : List ℕ) (first count : ℕ) (out after : List ℕ) (k x n at : ℕ) → Drawing before first count out k x n at → after ≡ stored out at (script_bytes (drawn_from k x n)) → after ≡ stored before 0 (script_bytes (drawn_from 0 first count))
drawing_all before first count out after k x n at v p = p ∙ v.left

pub ruleset draws = (refl, drawing_none, drawing_pair, drawing_all)

-- the last record or two
pub last_one : (out after : List ℕ) (at k x n t : ℕ) (e : Entry) → n ≡ 1 → t ≡ pair_tick k → e ≡ call t 0 0 0 → after ≡ stored out at (entry_bytes e []) → after ≡ stored out at (script_bytes (drawn_from k x n))
unfolding script_bytes drawn_from
last_one out after at k x n t e n-is t-is e-is p =
    p ∙ ap (λ (f : Entry). stored out at (entry_bytes f [])) (e-is ∙ ap stop_at t-is) ∙ ap (λ (m : ℕ). stored out at (script_bytes (drawn_from k x m))) (sym n-is)

pub last_two : (out one two : List ℕ) (at k x n t : ℕ) (e f : Entry) → (n ≡ 1 → ⊥) → 1 ≤ n → n ≤ 2 → t ≡ pair_tick k → e ≡ lower t x → f ≡ call t 0 0 0
    → one ≡ stored out at (entry_bytes e []) → two ≡ stored one (at + 4) (entry_bytes f []) → two ≡ stored out at (script_bytes (drawn_from k x n))
unfolding script_bytes drawn_from
last_two out one two at k x n t e f other low high t-is e-is f-is p q =
    q ∙ ap (λ (l : List ℕ). stored l (at + 4) (entry_bytes f [])) p ∙ record_and e out (entry_bytes f []) at
    ∙ ap₂ (λ (a b : Entry). stored out at (entry_bytes a (entry_bytes b []))) (e-is ∙ ap (λ (w : ℕ). lower w x) t-is) (f-is ∙ ap stop_at t-is)
    ∙ ap (λ (m : ℕ). stored out at (script_bytes (drawn_from k x m))) (sym (two_is n other low high))
  where
    two_is : (n : ℕ) → (n ≡ 1 → ⊥) → 1 ≤ n → n ≤ 2 → n ≡ 2
    two_is zero o l h = absurd (omega (arith, l))
    two_is (suc zero) o l h = absurd (o refl)
    two_is (suc (suc zero)) o l h = refl
    two_is (suc (suc (suc n))) o l h = absurd (omega (arith, h))

pub ruleset lasts = (last_one, last_two)

-- ---- the whole script

bytes_append : (us vs : List Entry) → script_bytes (us ++ vs) ≡ script_bytes us ++ script_bytes vs
unfolding script_bytes
bytes_append [] vs = refl
bytes_append (e ∷ us) vs = ap (entry_bytes e) (bytes_append us vs)

-- cut among the first records
cut : (y : ℕ) (es : List Entry) (d : Entry) (n : ℕ) → n < length es → laid y es (suc n) ≡ take n es ++ (stop_at (get_or es n d).tick ∷ [])
unfolding laid
cut y [] d n h = absurd (omega (arith, h))
cut y (e ∷ es) d zero h = refl
cut y (e ∷ es) d (suc n) h = ap (λ (l : List Entry). e ∷ l) (cut y es d n (omega (arith, h)))

-- or behind them
behind : (y : ℕ) (es : List Entry) (n : ℕ) → laid y es (length es + suc n) ≡ es ++ drawn_from 0 y (suc n)
unfolding laid
behind y [] n = ap (drawn_from 0 y) (none n)
  where
    none : (n : ℕ) → 0 + suc n ≡ suc n
    none n = omega arith
behind y (e ∷ es) n = ap (laid y (e ∷ es)) (more (length es) n) ∙ ap (λ (l : List Entry). e ∷ l) (ap (laid y es) (sym (on (length es) n)) ∙ behind y es n)
  where
    more : (m n : ℕ) → suc m + suc n ≡ suc (suc (m + n))
    more m n = omega arith

    on : (m n : ℕ) → m + suc n ≡ suc (m + n)
    on m n = omega arith

pub part_room : (xs : List ℕ) (a k n : ℕ) → k ≡ length xs - a → a + n ≤ length xs → n ≤ length (take k (drop a xs))
part_room xs a k n e h = omega (arith, e, h, length-take k (drop a xs), length-drop a xs)

take_count : (x n : ℕ) → n ≤ 12 → 4 * n ≡ length (script_bytes (take n (front x)))
take_count x n h = omega (arith, bytes_length (take n (front x)), length-take-le n (front x) (omega (arith, h, front_length x)))

pub short_put : (seed x count last k : ℕ) (before mid part : List ℕ) (e stop : Entry) → x ≡ draw seed → 1 ≤ count → count ≤ 12 → last ≡ count - 1 → e ≡ get_or (front x) last (stop_at 0) → stop ≡ call e.tick 0 0 0
    → mid ≡ stored before 0 (script_bytes (take last (front x))) → part ≡ stored (take k (drop (4 * last) mid)) 0 (entry_bytes stop []) → k ≡ length mid - 4 * last
    → put_mid (4 * last) k mid part ≡ stored before 0 (script_bytes (load seed count))
unfolding load script_bytes
short_put seed x count last k before mid part e stop x-is low high last_is e-is stop_is p q k_is =
    stored_parts (4 * last) k before mid part (script_bytes (take last (front x))) (entry_bytes stop []) p (take_count x last (omega (arith, last_is, high))) q (omega (arith, k_is))
    ∙ ap (stored before 0) (script ∙ ap (λ (y : ℕ). script_bytes (laid (draw y) (front y) count)) x-is)
  where
    script : script_bytes (take last (front x)) ++ entry_bytes stop [] ≡ script_bytes (laid (draw x) (front x) count)
    script =
        ap (λ (f : Entry). script_bytes (take last (front x)) ++ entry_bytes f []) (stop_is ∙ ap (λ (f : Entry). stop_at f.tick) e-is)
        ∙ sym (bytes_append (take last (front x)) (stop_at (get_or (front x) last (stop_at 0)).tick ∷ []))
        ∙ ap script_bytes (sym (cut (draw x) (front x) (stop_at 0) last (omega (arith, last_is, low, high, front_length x))))
        ∙ ap (λ (n : ℕ). script_bytes (laid (draw x) (front x) n)) (omega (arith, last_is, low))

pub long_put : (seed x y count rest k : ℕ) (before mid part : List ℕ) → x ≡ draw seed → y ≡ draw x → 12 < count → rest ≡ count - 12
    → mid ≡ stored before 0 (script_bytes (take 12 (front x))) → part ≡ stored (take k (drop 48 mid)) 0 (script_bytes (drawn_from 0 y rest)) → k ≡ length mid - 48
    → put_mid 48 k mid part ≡ stored before 0 (script_bytes (load seed count))
unfolding load
long_put seed x y count rest k before mid part x-is y-is high rest_is p q k_is =
    stored_parts 48 k before mid part (script_bytes (take 12 (front x))) (script_bytes (drawn_from 0 y rest)) p (take_count x 12 (omega arith)) q (omega (arith, k_is))
    ∙ ap (stored before 0) (script ∙ ap (λ (y : ℕ). script_bytes (laid (draw y) (front y) count)) x-is)
  where
    whole : take 12 (front x) ≡ front x
    whole = ap (λ (n : ℕ). take n (front x)) (sym (front_length x)) ∙ take-length (front x)

    sum : suc (rest - 1) ≡ rest
    sum = omega (arith, rest_is, high)

    all : length (front x) + suc (rest - 1) ≡ count
    all = omega (arith, rest_is, high, front_length x)

    script : script_bytes (take 12 (front x)) ++ script_bytes (drawn_from 0 y rest) ≡ script_bytes (laid (draw x) (front x) count)
    script =
        ap₂ (λ (es : List Entry) (z : ℕ). script_bytes es ++ script_bytes (drawn_from 0 z rest)) whole y-is
        ∙ sym (bytes_append (front x) (drawn_from 0 (draw x) rest))
        ∙ ap (λ (n : ℕ). script_bytes (front x ++ drawn_from 0 (draw x) n)) (sym sum)
        ∙ ap script_bytes (sym (behind (draw x) (front x) (rest - 1)))
        ∙ ap (λ (n : ℕ). script_bytes (laid (draw x) (front x) n)) all

pub ruleset scripts = (part_room, still_room, short_put, long_put)
