-- Turning keeps every value: the records of what was turned are those that were turned, and turning back gives the very bytes.
use Prim.Native.Nat.{ℕ, suc, ◌+◌, ◌*◌, ◌/◌, ◌%◌, ◌<◌}
use native.Mathlib.Omega.{arith}
use mathlib.Core.Bool.{true}
use mathlib.Core.List.{List, [], ◌∷◌}
use mathlib.Core.Path.{◌≡◌, refl, ap, ◌∙◌}
use lib.ListN.{length}
use borrow.Author.Tests.{eq-eqb, eqb-true}
use Rattle.base.specs.Choice.{◌=?◌}
use Rattle.base.proofs.Choices.{if_is_true}
use Rattle.base.proofs.Tables.{chain_first, chain_second}
use Rattle.player_script.specs.Script.{entry_of, long_entry_of, width, records_of, long_records_of, records_in, is_good, good_in}
use Rattle.player_script.specs.declared.Entry.{Entry}
use Rattle.player_script.specs.declared.Form.{Form}
use Rattle.player_script.specs.declared.Form.TheVariants.{Old, New}
use Rattle.player_convert.specs.Turn.{turned, Sayable, none, more}
use Rattle.player_convert.specs.Kept.{Bytes}

entry_same : (e : Entry) (t p a : ℕ) → t ≡ e.tick → p ≡ e.party → a ≡ e.action → ◌≡◌ {A = Entry} (record { tick = t; party = p; action = a; argument = e.argument }) e
entry_same e t p a h k l = λ i. record { tick = h i; party = k i; action = l i; argument = e.argument }

old_entry : (e : Entry) → e.action < 16 → entry_of (e.tick / 256) (e.tick % 256) (e.party * 16 + e.action) e.argument ≡ e
old_entry e h = entry_same e _ _ _ (omega arith) (omega arith) (omega arith)

new_tick : (n : ℕ) → (n / 16777216 * 256 + n / 65536 % 256) * 65536 + (n / 256 % 256 * 256 + n % 256) ≡ n
new_tick n = omega arith

new_entry : (e : Entry) → e.action < 16 → long_entry_of (e.tick / 16777216) (e.tick / 65536 % 256) (e.tick / 256 % 256) (e.tick % 256) (e.party * 16 + e.action) e.argument ≡ e
new_entry e h = entry_same e _ _ _ (new_tick e.tick) (omega arith) (omega arith)

pub records_kept : (f : Form) (es : List Entry) → Sayable f es → records_in f (turned f es) ≡ es
unfolding records_in records_of long_records_of turned
records_kept Old [] none = refl
records_kept Old (e ∷ es) (more h k s) = λ i. old_entry e k i ∷ records_kept Old es s i
records_kept New [] none = refl
records_kept New (e ∷ es) (more h k s) = λ i. new_entry e k i ∷ records_kept New es s i

-- ---- the bytes are kept too: turned back into the form that they had

front_same : (x y : ℕ) (xs ys : List ℕ) → x ≡ y → xs ≡ ys → x ∷ xs ≡ y ∷ ys
front_same x y xs ys e f = λ i. e i ∷ f i

high_byte : (a b : ℕ) → b < 256 → (a * 256 + b) / 256 ≡ a
high_byte a b h = omega arith

low_byte : (a b : ℕ) → b < 256 → (a * 256 + b) % 256 ≡ b
low_byte a b h = omega arith

nibbles : (c : ℕ) → c / 16 * 16 + c % 16 ≡ c
nibbles c = omega arith

pub old_bytes : (s : List ℕ) → Bytes s → length s % 4 ≡ 0 → turned Old (records_of s) ≡ s
unfolding turned records_of
old_bytes [] h m = refl
old_bytes (a ∷ []) h m = absurd (omega arith)
old_bytes (a ∷ b ∷ []) h m = absurd (omega arith)
old_bytes (a ∷ b ∷ c ∷ []) h m = absurd (omega arith)
old_bytes (a ∷ b ∷ c ∷ d ∷ rest) h m =
    front_same _ a _ _ (high_byte a b (h 1)) (front_same _ b _ _ (low_byte a b (h 1)) (front_same _ c _ _ (nibbles c) (ap (λ (l : List ℕ). d ∷ l) (old_bytes rest (λ i. h (suc (suc (suc (suc i))))) (omega arith)))))

tick_bytes : (a b c d : ℕ) → b < 256 → c < 256 → d < 256
    → (((a * 256 + b) * 65536 + (c * 256 + d)) / 16777216 ≡ a) × ((((a * 256 + b) * 65536 + (c * 256 + d)) / 65536 % 256 ≡ b)
    × ((((a * 256 + b) * 65536 + (c * 256 + d)) / 256 % 256 ≡ c) × (((a * 256 + b) * 65536 + (c * 256 + d)) % 256 ≡ d)))
tick_bytes a b c d h k l = (omega arith, (omega arith, (omega arith, omega arith)))

pub new_bytes : (s : List ℕ) → Bytes s → length s % 6 ≡ 0 → turned New (long_records_of s) ≡ s
unfolding turned long_records_of
new_bytes [] h m = refl
new_bytes (a ∷ []) h m = absurd (omega arith)
new_bytes (a ∷ b ∷ []) h m = absurd (omega arith)
new_bytes (a ∷ b ∷ c ∷ []) h m = absurd (omega arith)
new_bytes (a ∷ b ∷ c ∷ d ∷ []) h m = absurd (omega arith)
new_bytes (a ∷ b ∷ c ∷ d ∷ e ∷ []) h m = absurd (omega arith)
new_bytes (a ∷ b ∷ c ∷ d ∷ e ∷ f ∷ rest) h m =
    let t = tick_bytes a b c d (h 1) (h 2) (h 3) in
    front_same _ a _ _ t.0 (front_same _ b _ _ t.1.0 (front_same _ c _ _ t.1.1.0 (front_same _ d _ _ t.1.1.1 (front_same _ e _ _ (nibbles e)
    (ap (λ (l : List ℕ). f ∷ l) (new_bytes rest (λ i. h (suc (suc (suc (suc (suc (suc i))))))) (omega arith)))))))

-- ---- a good script stays good

pub old_length : (es : List Entry) → length (turned Old es) ≡ 4 * length es
unfolding turned
old_length [] = refl
old_length (e ∷ es) = omega (arith, old_length es)

pub new_length : (es : List Entry) → length (turned New es) ≡ 6 * length es
unfolding turned
new_length [] = refl
new_length (e ∷ es) = omega (arith, new_length es)

turned_length : (f : Form) (es : List Entry) → length (turned f es) % width f ≡ 0
unfolding width
turned_length Old es = omega (arith, old_length es)
turned_length New es = omega (arith, new_length es)

-- how many records some bytes have
pub old_count : (s : List ℕ) → length (records_of s) ≡ length s / 4
unfolding records_of
old_count [] = omega arith
old_count (a ∷ []) = omega arith
old_count (a ∷ b ∷ []) = omega arith
old_count (a ∷ b ∷ c ∷ []) = omega arith
old_count (a ∷ b ∷ c ∷ d ∷ rest) = omega (arith, old_count rest)

pub new_count : (s : List ℕ) → length (long_records_of s) ≡ length s / 6
unfolding long_records_of
new_count [] = omega arith
new_count (a ∷ []) = omega arith
new_count (a ∷ b ∷ []) = omega arith
new_count (a ∷ b ∷ c ∷ []) = omega arith
new_count (a ∷ b ∷ c ∷ d ∷ []) = omega arith
new_count (a ∷ b ∷ c ∷ d ∷ e ∷ []) = omega arith
new_count (a ∷ b ∷ c ∷ d ∷ e ∷ f ∷ rest) = omega (arith, new_count rest)

pub good_turned : (f : Form) (es : List Entry) → Sayable f es → good_in f (turned f es) ≡ is_good 0 [] es
unfolding good_in
good_turned f es s = if_is_true (length (turned f es) % width f =? 0) _ _ (eq-eqb (length (turned f es) % width f) 0 (turned_length f es)) ∙ ap (is_good 0 []) (records_kept f es s)

pub good_records : (f : Form) (s : List ℕ) → good_in f s ≡ true → is_good 0 [] (records_in f s) ≡ true
unfolding good_in
good_records f s g = chain_second (length s % width f =? 0) (is_good 0 [] (records_in f s)) g

pub good_whole : (f : Form) (s : List ℕ) → good_in f s ≡ true → length s % width f ≡ 0
unfolding good_in
good_whole f s g = eqb-true (length s % width f) 0 (chain_first (length s % width f =? 0) (is_good 0 [] (records_in f s)) g)

-- "Old scripts turn into new ones", and new ones back: the script stays good, with the same records
pub good_turns : (f g : Form) (s : List ℕ) → good_in f s ≡ true → Sayable g (records_in f s) → (good_in g (turned g (records_in f s)) ≡ true) × (records_in g (turned g (records_in f s)) ≡ records_in f s)
good_turns f g s h k = (good_turned g (records_in f s) k ∙ good_records f s h, records_kept g (records_in f s) k)
