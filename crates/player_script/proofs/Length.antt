-- A good script has at most eight calls in each of 65,536 ticks, and the stop: 524,289 records of 4 bytes.
use Prim.Native.Nat.{ℕ, zero, suc, ◌+◌, ◌-◌, ◌*◌, ◌%◌, ◌≤◌, ◌<◌}
use native.Mathlib.Decide.{dec_le}
use native.Mathlib.Omega.{arith}
use mathlib.Core.Bool.{Bool, true, false}
use mathlib.Core.Path.{◌≡◌, refl, ap, ◌∙◌}
use mathlib.Core.List.{List, [], ◌∷◌}
use lib.ListN.{length, get_or}
use borrow.Author.Tests.{eqb-true, eq-eqb, ne_eqb}
use Rattle.base.specs.Choice.{◌=?◌}
use Rattle.base.proofs.Choices.{if_is_true, if_is_false}
use Rattle.base.proofs.Tables.{chain_first, chain_second}
use Rattle.player_script.specs.Script.{records_of, is_in, called_before, is_good, good_script}
use Rattle.player_script.specs.declared.Entry.{Entry}
use Rattle.player_script.proofs.Good.{good_call}

-- how many of the first n parties have no call yet
abbrev place : Bool → ℕ
place true = 0
place false = 1

unfoldable free : ℕ → List ℕ → ℕ
free zero called = 0
free (suc n) called = place (is_in n called) + free n called

free_all : free 8 [] ≡ 8
unfolding free is_in
free_all = refl

-- another party's call takes no place
in_other : (n party : ℕ) (called : List ℕ) → (n ≡ party → ⊥) → is_in n (party ∷ called) ≡ is_in n called
unfolding is_in
in_other n party called h = if_is_false (n =? party) true (is_in n called) (ne_eqb n party h)

in_own : (n party : ℕ) (called : List ℕ) → n ≡ party → is_in n (party ∷ called) ≡ true
unfolding is_in
in_own n party called h = if_is_true (n =? party) true (is_in n called) (eq-eqb n party h)

free_other : (n party : ℕ) (called : List ℕ) → n ≤ party → free n (party ∷ called) ≡ free n called
unfolding free
free_other zero party called h = refl
free_other (suc n) party called h = omega (arith, ap place (in_other n party called (λ e. omega arith)), free_other n party called (omega arith))

free_less : (n party : ℕ) (called : List ℕ) → party < n → is_in party called ≡ false → free n (party ∷ called) + 1 ≡ free n called
unfolding free
free_less zero party called h f = absurd (omega arith)
free_less (suc n) party called h f = go (dec_le n party) (λ l. free_less n party called l f)
  where
    go : Dec (n ≤ party) → (party < n → free n (party ∷ called) + 1 ≡ free n called) → free (suc n) (party ∷ called) + 1 ≡ free (suc n) called
    go (yes l) rest =
        let same : n ≡ party = omega arith in
        omega (arith, ap place (in_own n party called same), ap place (ap (λ (k : ℕ). is_in k called) same ∙ f), free_other n party called l)
    go (no l) rest = omega (arith, ap place (in_other n party called (λ e. omega arith)), rest (omega arith))

-- ticks of 16 bits
data Ticks16 : List Entry → Type 0 where
  none : Ticks16 []
  more : {e : Entry} {es : List Entry} → e.tick ≤ 65535 → Ticks16 es → Ticks16 (e ∷ es)

ticks_16 : (script : List ℕ) → ((i : ℕ) → get_or script i 0 < 256) → Ticks16 (records_of script)
unfolding records_of
ticks_16 [] h = none
ticks_16 (a ∷ []) h = none
ticks_16 (a ∷ b ∷ []) h = none
ticks_16 (a ∷ b ∷ c ∷ []) h = none
ticks_16 (a ∷ b ∷ c ∷ d ∷ rest) h = let small : a * 256 + b ≤ 65535 = omega (arith, h 0, h 1) in more small (ticks_16 rest (λ i. h (suc (suc (suc (suc i))))))

-- the places that are left in the tick of the record before, the eight of each later tick, and the stop
good_count : (last : ℕ) (called : List ℕ) (es : List Entry) → Ticks16 es → last ≤ 65535 → is_good last called es ≡ true → length es ≤ 1 + free 8 called + 8 * (65535 - last)
good_count last called [] s h g = omega arith
good_count last called (e ∷ []) s h g = omega arith
good_count last called (e ∷ f ∷ es) (more l s) h g =
    let call = good_call last called e f es g in
    go call.rises
    (free_less 8 e.party (called_before last called e) call.party call.once)
    (good_count e.tick (e.party ∷ called_before last called e) (f ∷ es) s l call.goes_on)
    (dec_le e.tick last)
  where
    go : last ≤ e.tick → free 8 (e.party ∷ called_before last called e) + 1 ≡ free 8 (called_before last called e)
        → length (f ∷ es) ≤ 1 + free 8 (e.party ∷ called_before last called e) + 8 * (65535 - e.tick)
        → Dec (e.tick ≤ last) → length (e ∷ f ∷ es) ≤ 1 + free 8 called + 8 * (65535 - last)
    go r p q (yes k) = omega (arith, ap (free 8) (if_is_true (e.tick =? last) called [] (eq-eqb e.tick last (omega arith))))
    go r p q (no k) =
        let before : free 8 (called_before last called e) ≡ 8 = ap (free 8) (if_is_false (e.tick =? last) called [] (ne_eqb e.tick last (λ z. omega arith))) ∙ free_all in
        omega arith

record_bytes : (script : List ℕ) → length script < 4 * length (records_of script) + 4
unfolding records_of
record_bytes [] = omega arith
record_bytes (a ∷ []) = omega arith
record_bytes (a ∷ b ∷ []) = omega arith
record_bytes (a ∷ b ∷ c ∷ []) = omega arith
record_bytes (a ∷ b ∷ c ∷ d ∷ rest) = omega (arith, record_bytes rest)

pub good_length : (script : List ℕ) → ((i : ℕ) → get_or script i 0 < 256) → good_script script ≡ true → length script ≤ 2097156
unfolding good_script
good_length script h g =
    let whole : length script % 4 ≡ 0 = eqb-true (length script % 4) 0 (chain_first (length script % 4 =? 0) (is_good 0 [] (records_of script)) g) in
    omega (arith, free_all, record_bytes script, good_count 0 [] (records_of script) (ticks_16 script h) (omega arith) (chain_second (length script % 4 =? 0) (is_good 0 [] (records_of script)) g))
