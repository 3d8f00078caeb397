-- Every record of a load of at most 65,536 fits its four bytes, and the player reads it back: so the script is good.
use Prim.Native.Nat.{ℕ, zero, suc, ◌+◌, ◌-◌, ◌*◌, ◌/◌, ◌%◌, ◌^◌, ◌≤◌, ◌<◌}
use mathlib.Core.Path.{◌≡◌, refl, ap, ap₂, ◌∙◌}
use mathlib.Core.Bool.{Bool, true, false}
use mathlib.Core.List.{List, [], ◌∷◌}
use native.Mathlib.Nat.{mod-lt, div-add-mod', mul-mod_left}
use native.Mathlib.Omega.{arith}
use lib.ListN.{length}
use lib.Arith.{digits_div, digits_mod}
use lib.Pow.{pow_pos}
use borrow.Author.Tests.{eq-eqb, ltb-true}
use Rattle.base.specs.Choice.{when◌then◌else◌, ◌<?◌, ◌=?◌}
use Rattle.base.proofs.Choices.{if_is_true}
use Rattle.base.proofs.Tables.{chain_first, chain_second}
use Rattle.turns.proofs.Bursting.{if_both}
use Rattle.player_script.specs.Script.{entry_of, records_of, is_good, good_script}
use Rattle.player_script.specs.declared.Entry.{Entry}
use Rattle.load_writer.specs.Load.{call, opening, mark, front, pair_tick, asked_of, wish_of, length_of, lower, upper_party, upper, stop_at, draw, load, script_bytes}
use Rattle.load_writer.specs.Fits.{Fits}
use Rattle.load_writer.specs.Claims.{AlwaysTaken, ReadsBack}
use Rattle.load_writer.proofs.Records.{lower_either, Each, and, tests, each_front, each_load}
use Rattle.load_writer.proofs.Good.{upper_below, load_good}

pub fits : (t p a g : ℕ) → t < 65536 → p < 16 → a < 16 → g < 256 → Fits (call t p a g)
fits t p a g h i j k = record { tick = h; party = i; action = j; argument = k }

-- ---- what is drawn fits

below_32 : (n : ℕ) → n % 32 < 32
below_32 n = mod-lt n (pow_pos 5)

length_fits : (x : ℕ) → length_of x < 256
length_fits x = omega (arith, below_32 (x / 1024))

below_64 : (n : ℕ) → n % 64 < 64
below_64 n = mod-lt n (pow_pos 6)

below_16 : (n : ℕ) → n % 16 < 16
below_16 n = mod-lt n (pow_pos 4)

asked_fits : (v : ℕ) → v < 16 → asked_of v < 256
asked_fits v h = if_both (λ (n : ℕ). n < 256) (v <? 8) _ _ (omega (arith, h)) (if_both (λ (n : ℕ). n < 256) (v <? 12) _ _ (omega arith) (omega (arith, h)))

poll_fits : (n : ℕ) → n % 64 < 256
poll_fits n = omega (arith, below_64 n)

bit : (x : ℕ) → x % 2 < 16
bit x = omega (arith, mod-lt x (pow_pos 1))

wish_fits : (k : ℕ) → wish_of k < 16
wish_fits k = if_both (λ (n : ℕ). n < 16) (k =? 0) _ _ (omega arith) (if_both (λ (n : ℕ). n < 16) (k =? 1) _ _ (omega arith) (omega arith))

pub lower_fits : (t x : ℕ) → t < 65536 → Fits (lower t x)
lower_fits t x h =
    lower_either Fits t x
    (fits t (x % 2) 1 ((asked_of (x / 16 % 16) + 62) % 64) h (bit x) (omega arith) (poll_fits (asked_of (x / 16 % 16) + 62)))
    (fits t (x % 2) 3 (asked_of (x / 16 % 16)) h (bit x) (omega arith) (asked_fits (x / 16 % 16) (below_16 (x / 16))))
    (fits t 2 (wish_of (x / 256 % 4)) (length_of x) h (omega arith) (wish_fits (x / 256 % 4)) (length_fits x))
    (fits t 3 2 (length_of x) h (omega arith) (omega arith) (length_fits x))

pub upper_fits : (t x : ℕ) → t < 65536 → Fits (upper t x)
unfolding upper
upper_fits t x h = fits t (upper_party (x % 16)) 2 (length_of x) h (omega (arith, upper_below (x % 16))) (omega arith) (length_fits x)

pub stop_fits : (t : ℕ) → t < 65536 → Fits (stop_at t)
stop_fits t h = fits t 0 0 0 h (omega arith) (omega arith) (omega arith)

-- ---- ticks

pair_fits : (k : ℕ) → 2 * k ≤ 65524 → pair_tick k < 65536
pair_fits k h = omega (arith, h, div-add-mod' k 8, mod-lt k (pow_pos 3))

-- the opening's records, computed
abbrev fit_test : Entry → Bool
fit_test e = when e.tick <? 65536 then (when e.party <? 16 then (when e.action <? 16 then e.argument <? 256 else false) else false) else false

tested : (e : Entry) → fit_test e ≡ true → Fits e
tested e t =
    let u = chain_second (e.tick <? 65536) _ t in
    let v = chain_second (e.party <? 16) _ u in
    record {
      tick = ltb-true e.tick 65536 (chain_first (e.tick <? 65536) _ t);
      party = ltb-true e.party 16 (chain_first (e.party <? 16) _ u);
      action = ltb-true e.action 16 (chain_first (e.action <? 16) _ v);
      argument = ltb-true e.argument 256 (chain_second (e.action <? 16) _ v);
    }

opening_tested : tests fit_test opening ≡ true
unfolding tests opening when◌then◌else◌
opening_tested = refl

mark_fits : (x q : ℕ) → q < 4 → Fits (mark x q)
mark_fits x q h = fits 400 (4 + q) 2 (x / 2 ^ (24 - 8 * q) % 256) (omega arith) (omega (arith, h)) (omega arith) (mod-lt (x / 2 ^ (24 - 8 * q)) (pow_pos 8))

pub front_fit : (x : ℕ) → Each Fits (front x)
front_fit x = each_front Fits fit_test tested mark_fits opening_tested x

pub load_fits : (seed n : ℕ) → n ≤ 65536 → Each Fits (load seed n)
load_fits seed n h =
    each_load Fits 65524 (λ k x j. lower_fits (pair_tick k) x (pair_fits k j)) (λ k x j. upper_fits (pair_tick k) x (pair_fits k j)) (λ e f. stop_fits e.tick f.tick) seed n (omega (arith, h))
    (front_fit (draw seed))

-- ---- read back

entry_back : (e : Entry) → Fits e → entry_of (e.tick / 256) (e.tick % 256) (e.party * 16 + e.action) e.argument ≡ e
entry_back e f =
    ap₂ (λ (t p : ℕ). call t p ((e.party * 16 + e.action) % 16) e.argument) (div-add-mod' e.tick 256) (digits_div e.party f.action)
    ∙ ap (λ (a : ℕ). call e.tick e.party a e.argument) (digits_mod e.party f.action)

records_back : (es : List Entry) → Each Fits es → records_of (script_bytes es) ≡ es
unfolding records_of script_bytes
records_back [] w = refl
records_back (e ∷ es) (and f w) = ap₂ (λ (x : Entry) (xs : List Entry). x ∷ xs) (entry_back e f) (records_back es w)

pub bytes_length : (es : List Entry) → length (script_bytes es) ≡ length es * 4
unfolding script_bytes
bytes_length [] = refl
bytes_length (e ∷ es) = omega (arith, bytes_length es)

taken : (seed n : ℕ) → suc n ≤ 65536 → good_script (script_bytes (load seed (suc n))) ≡ true
unfolding good_script
taken seed n h =
    if_is_true (length (script_bytes es) % 4 =? 0) _ _ (eq-eqb (length (script_bytes es) % 4) 0 (ap (λ (k : ℕ). k % 4) (bytes_length es) ∙ mul-mod_left (length es) 4))
    ∙ ap (is_good 0 []) (records_back es (load_fits seed (suc n) h)) ∙ load_good seed n
  where
    es : List Entry
    es = load seed (suc n)

pub reads_back : ReadsBack
reads_back seed count high = records_back (load seed count) (load_fits seed count high)

pub always_taken : AlwaysTaken
always_taken seed zero low high = absurd (omega (arith, low))
always_taken seed (suc n) low high = taken seed n high
