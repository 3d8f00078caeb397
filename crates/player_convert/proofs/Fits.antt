-- Which scripts fit the other form, and that the stop's tick decides it.
use Prim.Native.Nat.{ℕ, suc, ◌+◌, ◌*◌, ◌%◌, ◌≤◌, ◌<◌}
use native.Mathlib.Omega.{arith}
use borrow.Author.Tests.{lt-ltb, le-ltb, ltb-true, ltb-false}
use mathlib.Core.Bool.{Bool, true, false}
use mathlib.Core.List.{List, [], ◌∷◌}
use mathlib.Core.Path.{◌≡◌, refl, sym, ◌∙◌}
use Rattle.base.specs.Choice.{when◌then◌else◌, ◌<?◌}
use Rattle.base.proofs.Choices.{true_false, if_is_false, went_else}
use Rattle.player_script.specs.Script.{records_of, long_records_of, records_in, stop_of}
use Rattle.player_script.specs.Reads.{Rising}
use Rattle.player_script.proofs.Ticks.{reads_start}
use Rattle.player_script.specs.declared.Entry.{Entry}
use Rattle.player_script.specs.declared.Form.{Form}
use Rattle.player_script.specs.declared.Form.TheVariants.{Old, New}
use Rattle.player_convert.specs.Turn.{most_tick, any_above, Sayable, none, more}
use Rattle.player_convert.specs.Kept.{Bytes, StopDecides}

-- an action is four bits
data FourBits : List Entry → Type 0 where
  no_record : FourBits []
  and_on : {e : Entry} {es : List Entry} → e.action < 16 → FourBits es → FourBits (e ∷ es)

old_bits : (s : List ℕ) → FourBits (records_of s)
unfolding records_of
old_bits [] = no_record
old_bits (a ∷ []) = no_record
old_bits (a ∷ b ∷ []) = no_record
old_bits (a ∷ b ∷ c ∷ []) = no_record
old_bits (a ∷ b ∷ c ∷ d ∷ rest) = let small : c % 16 < 16 = omega arith in and_on small (old_bits rest)

new_bits : (s : List ℕ) → FourBits (long_records_of s)
unfolding long_records_of
new_bits [] = no_record
new_bits (a ∷ []) = no_record
new_bits (a ∷ b ∷ []) = no_record
new_bits (a ∷ b ∷ c ∷ []) = no_record
new_bits (a ∷ b ∷ c ∷ d ∷ []) = no_record
new_bits (a ∷ b ∷ c ∷ d ∷ e ∷ []) = no_record
new_bits (a ∷ b ∷ c ∷ d ∷ e ∷ f ∷ rest) = let small : e % 16 < 16 = omega arith in and_on small (new_bits rest)

bits_in : (f : Form) (s : List ℕ) → FourBits (records_in f s)
unfolding records_in
bits_in Old s = old_bits s
bits_in New s = new_bits s

-- ---- the stop's tick decides

first_at_most : (low : ℕ) (e : Entry) (es : List Entry) → Rising low (e ∷ es) → e.tick ≤ stop_of (e ∷ es)
unfolding stop_of
first_at_most low e [] r = omega arith
first_at_most low e (g ∷ es) (Rising.more l (Rising.more m r)) = omega (arith, m, first_at_most e.tick g es (Rising.more m r))

above_stop : (most low : ℕ) (es : List Entry) → Rising low es → any_above most es ≡ (most <? stop_of es)
unfolding any_above stop_of when◌then◌else◌
above_stop most low [] r = sym (le-ltb most 0 (omega arith))
above_stop most low (e ∷ []) r = by (most <? e.tick)
  where
    by : (t : Bool) → (when t then true else false) ≡ t
    by true = refl
    by false = refl
above_stop most low (e ∷ g ∷ es) (Rising.more l (Rising.more m r)) = by (most <? e.tick) refl (above_stop most e.tick (g ∷ es) (Rising.more m r))
  where
    by : (t : Bool) → (most <? e.tick) ≡ t → any_above most (g ∷ es) ≡ (most <? stop_of (g ∷ es)) → (when t then true else any_above most (g ∷ es)) ≡ (most <? stop_of (g ∷ es))
    by true h rest = sym (lt-ltb most (stop_of (g ∷ es)) (omega (arith, ltb-true most e.tick h, m, first_at_most e.tick g es (Rising.more m r))))
    by false h rest = rest

pub stop_decides : StopDecides
stop_decides f most s g = above_stop most 0 (records_in f s) (reads_start f s g).rising

-- ---- records whose ticks fit

all_fit : (f : Form) (es : List Entry) → FourBits es → any_above (most_tick f) es ≡ false → Sayable f es
unfolding any_above
all_fit f [] no_record h = none
all_fit f (e ∷ es) (and_on a b) h =
    let w = went_else (most_tick f <? e.tick) true (any_above (most_tick f) es) false h true_false in
    more (ltb-false (most_tick f) e.tick w.0) a (all_fit f es b w.1)

-- "new ones whose ticks fit back"
pub fits_other : (f g : Form) (s : List ℕ) → any_above (most_tick g) (records_in f s) ≡ false → Sayable g (records_in f s)
fits_other f g s h = all_fit g (records_in f s) (bits_in f s) h

-- what a form can say has no tick above its largest
pub none_above : (f : Form) (es : List Entry) → Sayable f es → any_above (most_tick f) es ≡ false
unfolding any_above
none_above f [] none = refl
none_above f (e ∷ es) (more h a s) = if_is_false (most_tick f <? e.tick) true (any_above (most_tick f) es) (le-ltb (most_tick f) e.tick h) ∙ none_above f es s

old_sayable : (s : List ℕ) → Bytes s → Sayable Old (records_of s)
unfolding records_of
old_sayable [] h = none
old_sayable (a ∷ []) h = none
old_sayable (a ∷ b ∷ []) h = none
old_sayable (a ∷ b ∷ c ∷ []) h = none
old_sayable (a ∷ b ∷ c ∷ d ∷ rest) h =
    let tick : a * 256 + b ≤ 65535 = omega (arith, h 0, h 1) in
    let small : c % 16 < 16 = omega arith in
    more tick small (old_sayable rest (λ i. h (suc (suc (suc (suc i))))))

new_sayable : (s : List ℕ) → Bytes s → Sayable New (long_records_of s)
unfolding long_records_of
new_sayable [] h = none
new_sayable (a ∷ []) h = none
new_sayable (a ∷ b ∷ []) h = none
new_sayable (a ∷ b ∷ c ∷ []) h = none
new_sayable (a ∷ b ∷ c ∷ d ∷ []) h = none
new_sayable (a ∷ b ∷ c ∷ d ∷ e ∷ []) h = none
new_sayable (a ∷ b ∷ c ∷ d ∷ e ∷ f ∷ rest) h =
    let tick : (a * 256 + b) * 65536 + (c * 256 + d) ≤ 4294967295 = omega (arith, h 0, h 1, h 2, h 3) in
    let small : e % 16 < 16 = omega arith in
    more tick small (new_sayable rest (λ i. h (suc (suc (suc (suc (suc (suc i))))))))

-- a form can say the records of its own scripts
pub own_fits : (f : Form) (s : List ℕ) → Bytes s → Sayable f (records_in f s)
unfolding records_in
own_fits Old s h = old_sayable s h
own_fits New s h = new_sayable s h

-- an old script's ticks fit the new form
old_wide : (es : List Entry) → Sayable Old es → Sayable New es
old_wide [] none = none
old_wide (e ∷ es) (more h a s) = let wide : e.tick ≤ 4294967295 = omega (arith, h) in more wide a (old_wide es s)

pub old_fits_new : (s : List ℕ) → Bytes s → any_above 4294967295 (records_in Old s) ≡ false
old_fits_new s h = none_above New (records_in Old s) (old_wide (records_in Old s) (own_fits Old s h))
