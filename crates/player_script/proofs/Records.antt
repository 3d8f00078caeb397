-- The records of a script from a place on, and the last of them.
use Prim.Native.Nat.{ℕ, zero, suc, ◌+◌, ◌-◌, ◌*◌, ◌/◌, ◌%◌, ◌≤◌, ◌<◌}
use native.Mathlib.Numerals.{add-one, add-two, add-three, add-four}
use native.Mathlib.Omega.{arith}
use mathlib.Core.Path.{◌≡◌, refl, sym, ap, subst, ◌∙◌}
use mathlib.Core.List.{List, [], ◌∷◌, ◌++◌}
use lib.ListN.{length, drop, get_or, length-drop}
use lib.Seq.{drop-cons}
use Rattle.player_script.specs.Script.{entry_of, long_entry_of, width, records_of, long_records_of, records_in, stop_of}
use Rattle.player_script.specs.Walk.{entry_at, long_entry_at, entry_in}
use Rattle.player_script.specs.declared.Entry.{Entry}
use Rattle.player_script.specs.declared.Form.{Form}
use Rattle.player_script.specs.declared.Form.TheVariants.{Old, New}

-- ---- a form, at a case that a `match` has told

pub width_some : (f : Form) → (4 ≤ width f) × (width f ≤ 6)
unfolding width
width_some Old = (omega arith, omega arith)
width_some New = (omega arith, omega arith)

pub width_at : (f g : Form) (n : ℕ) → f ≡ g → n ≡ width g → n ≡ width f
width_at f g n e p = p ∙ ap width (sym e)

pub old_width : 4 ≡ width Old
unfolding width
old_width = refl

pub new_width : 6 ≡ width New
unfolding width
new_width = refl

pub old_fits : (f : Form) (at n : ℕ) → f ≡ Old → at + width f ≤ n → at + 4 ≤ n
old_fits f at n e h = let k : width f ≡ 4 = ap width e ∙ sym old_width in omega arith

pub new_fits : (f : Form) (at n : ℕ) → f ≡ New → at + width f ≤ n → at + 6 ≤ n
new_fits f at n e h = let k : width f ≡ 6 = ap width e ∙ sym new_width in omega arith

pub old_entry : (f : Form) (script : List ℕ) (at : ℕ) (e : Entry) → f ≡ Old → e ≡ entry_at script at → e ≡ entry_in f script at
unfolding entry_in
old_entry f script at e k p = p ∙ ap (λ (g : Form). entry_in g script at) (sym k)

pub new_entry : (f : Form) (script : List ℕ) (at : ℕ) (e : Entry) → f ≡ New → e ≡ long_entry_at script at → e ≡ entry_in f script at
unfolding entry_in
new_entry f script at e k p = p ∙ ap (λ (g : Form). entry_in g script at) (sym k)

pub ruleset forms = (refl, width_at, old_width, new_width, old_fits, new_fits, old_entry, new_entry)

-- ---- the first record

-- the next four bytes
pub four_more : (script : List ℕ) (at : ℕ) → at + 4 ≤ length script
    → drop at script ≡ get_or script at 0 ∷ get_or script (at + 1) 0 ∷ get_or script (at + 2) 0 ∷ get_or script (at + 3) 0 ∷ drop (at + 4) script
four_more script at h =
    simp (add-one, add-two, add-three, add-four)
    (drop-cons script at 0 (omega arith)
    ∙ ap (λ (l : List ℕ). get_or script at 0 ∷ l) (drop-cons script (suc at) 0 (omega arith))
    ∙ ap (λ (l : List ℕ). get_or script at 0 ∷ get_or script (suc at) 0 ∷ l) (drop-cons script (suc (suc at)) 0 (omega arith))
    ∙ ap (λ (l : List ℕ). get_or script at 0 ∷ get_or script (suc at) 0 ∷ get_or script (suc (suc at)) 0 ∷ l) (drop-cons script (suc (suc (suc at))) 0 (omega arith)))

two_more : (script : List ℕ) (at : ℕ) → at + 2 ≤ length script → drop at script ≡ get_or script at 0 ∷ get_or script (at + 1) 0 ∷ drop (at + 2) script
two_more script at h =
    simp (add-one, add-two)
    (drop-cons script at 0 (omega arith) ∙ ap (λ (l : List ℕ). get_or script at 0 ∷ l) (drop-cons script (suc at) 0 (omega arith)))

six_more : (script : List ℕ) (at : ℕ) → at + 6 ≤ length script
    → drop at script ≡ get_or script at 0 ∷ get_or script (at + 1) 0 ∷ get_or script (at + 2) 0 ∷ get_or script (at + 3) 0 ∷ get_or script (at + 4) 0 ∷ get_or script (at + 5) 0 ∷ drop (at + 6) script
six_more script at h =
    let k : at + 4 + 1 ≡ at + 5 = omega arith in
    let l : at + 4 + 2 ≡ at + 6 = omega arith in
    four_more script at (omega arith)
    ∙ ap (λ (l : List ℕ). get_or script at 0 ∷ get_or script (at + 1) 0 ∷ get_or script (at + 2) 0 ∷ get_or script (at + 3) 0 ∷ l)
    (two_more script (at + 4) (omega arith) ∙ (λ i. get_or script (at + 4) 0 ∷ get_or script (k i) 0 ∷ drop (l i) script))

pub records_more : (f : Form) (script : List ℕ) (at : ℕ) → at + width f ≤ length script → records_in f (drop at script) ≡ entry_in f script at ∷ records_in f (drop (at + width f) script)
unfolding records_in records_of long_records_of entry_in width
records_more Old script at h = ap records_of (four_more script at h)
records_more New script at h = ap long_records_of (six_more script at h)

short_none : (f : Form) (l : List ℕ) → length l < width f → records_in f l ≡ []
unfolding records_in records_of long_records_of width
short_none Old [] h = refl
short_none Old (a ∷ []) h = refl
short_none Old (a ∷ b ∷ []) h = refl
short_none Old (a ∷ b ∷ c ∷ []) h = refl
short_none Old (a ∷ b ∷ c ∷ d ∷ l) h = absurd (omega arith)
short_none New [] h = refl
short_none New (a ∷ []) h = refl
short_none New (a ∷ b ∷ []) h = refl
short_none New (a ∷ b ∷ c ∷ []) h = refl
short_none New (a ∷ b ∷ c ∷ d ∷ []) h = refl
short_none New (a ∷ b ∷ c ∷ d ∷ e ∷ []) h = refl
short_none New (a ∷ b ∷ c ∷ d ∷ e ∷ f ∷ l) h = absurd (omega arith)

pub records_none : (f : Form) (script : List ℕ) (at : ℕ) → length script < at + width f → records_in f (drop at script) ≡ []
records_none f script at h = short_none f (drop at script) (omega (arith, length-drop at script, width_some f))

pub records_last : (f : Form) (script : List ℕ) (at : ℕ) → at + width f ≤ length script → length script < at + width f + width f → records_in f (drop at script) ≡ entry_in f script at ∷ []
records_last f script at h k = records_more f script at h ∙ ap (λ (es : List Entry). entry_in f script at ∷ es) (records_none f script (at + width f) k)

-- ---- the records of two parts, the first of whole records

old_append : (a b : List ℕ) → length a % 4 ≡ 0 → records_of (a ++ b) ≡ records_of a ++ records_of b
unfolding records_of
old_append [] b h = refl
old_append (p ∷ []) b h = absurd (omega arith)
old_append (p ∷ q ∷ []) b h = absurd (omega arith)
old_append (p ∷ q ∷ r ∷ []) b h = absurd (omega arith)
old_append (p ∷ q ∷ r ∷ s ∷ a) b h = ap (λ (es : List Entry). entry_of p q r s ∷ es) (old_append a b (omega arith))

new_append : (a b : List ℕ) → length a % 6 ≡ 0 → long_records_of (a ++ b) ≡ long_records_of a ++ long_records_of b
unfolding long_records_of
new_append [] b h = refl
new_append (p ∷ []) b h = absurd (omega arith)
new_append (p ∷ q ∷ []) b h = absurd (omega arith)
new_append (p ∷ q ∷ r ∷ []) b h = absurd (omega arith)
new_append (p ∷ q ∷ r ∷ s ∷ []) b h = absurd (omega arith)
new_append (p ∷ q ∷ r ∷ s ∷ t ∷ []) b h = absurd (omega arith)
new_append (p ∷ q ∷ r ∷ s ∷ t ∷ u ∷ a) b h = ap (λ (es : List Entry). long_entry_of p q r s t u ∷ es) (new_append a b (omega arith))

pub records_append : (f : Form) (a b : List ℕ) → length a % width f ≡ 0 → records_in f (a ++ b) ≡ records_in f a ++ records_in f b
unfolding records_in width
records_append Old a b h = old_append a b h
records_append New a b h = new_append a b h

-- ---- the last record: so many records behind a place

unfoldable place_at : ℕ → ℕ → ℕ → ℕ
place_at w zero at = at
place_at w (suc m) at = place_at w m (at + w)

place_old : (m at : ℕ) → place_at 4 m at ≡ at + m * 4
unfolding place_at
place_old zero at = omega arith
place_old (suc m) at = place_old m (at + 4) ∙ omega arith

place_new : (m at : ℕ) → place_at 6 m at ≡ at + m * 6
unfolding place_at
place_new zero at = omega arith
place_new (suc m) at = place_new m (at + 6) ∙ omega arith

place_low : (w m at : ℕ) → at ≤ place_at w m at
unfolding place_at
place_low w zero at = omega arith
place_low w (suc m) at = omega (arith, place_low w m (at + w))

stop_from : (f : Form) (script : List ℕ) (m at : ℕ) → place_at (width f) m at + width f ≤ length script → length script < place_at (width f) m at + width f + width f
    → stop_of (records_in f (drop at script)) ≡ (entry_in f script (place_at (width f) m at)).tick
unfolding stop_of place_at
stop_from f script zero at h k = ap stop_of (records_last f script at h k)
stop_from f script (suc m) at h k =
    let low : at + width f ≤ place_at (width f) m (at + width f) = place_low (width f) m (at + width f) in
    let next : at + width f + width f ≤ length script = omega (arith, low, h) in
    let here : at + width f ≤ length script = omega (arith, next) in
    ap stop_of (records_more f script at here)
    ∙ ap (λ (es : List Entry). stop_of (entry_in f script at ∷ es)) (records_more f script (at + width f) next)
    ∙ ap stop_of (sym (records_more f script (at + width f) next))
    ∙ stop_from f script m (at + width f) h k

pub stop_none : (f : Form) (script : List ℕ) (w : ℕ) → w ≡ width f → length script - length script % w ≡ 0 → 0 ≡ stop_of (records_in f script)
unfolding stop_of width
stop_none Old script w p e = let k : length script - length script % 4 ≡ 0 = sym (ap (λ (n : ℕ). length script - length script % n) p) ∙ e in sym (ap stop_of (records_none Old script 0 (omega arith)))
stop_none New script w p e = let k : length script - length script % 6 ≡ 0 = sym (ap (λ (n : ℕ). length script - length script % n) p) ∙ e in sym (ap stop_of (records_none New script 0 (omega arith)))

old_some : (n : ℕ) → (n - n % 4 ≡ 0 → ⊥) → 4 ≤ n
old_some n z = omega (arith, z)

new_some : (n : ℕ) → (n - n % 6 ≡ 0 → ⊥) → 6 ≤ n
new_some n z = omega (arith, z)

old_place : (n : ℕ) → 4 ≤ n → place_at 4 (n / 4 - 1) 0 ≡ n - n % 4 - 4
old_place n h = place_old (n / 4 - 1) 0 ∙ omega arith

new_place : (n : ℕ) → 6 ≤ n → place_at 6 (n / 6 - 1) 0 ≡ n - n % 6 - 6
new_place n h = place_new (n / 6 - 1) 0 ∙ omega arith

old_last : (script : List ℕ) → 4 ≤ length script → (entry_in Old script (length script - length script % 4 - 4)).tick ≡ stop_of (records_in Old script)
unfolding width
old_last script h =
    let at = old_place (length script) h in
    ap (λ (n : ℕ). (entry_in Old script n).tick) (sym at) ∙ sym (stop_from Old script (length script / 4 - 1) 0 (omega (arith, at)) (omega (arith, at)))

new_last : (script : List ℕ) → 6 ≤ length script → (entry_in New script (length script - length script % 6 - 6)).tick ≡ stop_of (records_in New script)
unfolding width
new_last script h =
    let at = new_place (length script) h in
    ap (λ (n : ℕ). (entry_in New script n).tick) (sym at) ∙ sym (stop_from New script (length script / 6 - 1) 0 (omega (arith, at)) (omega (arith, at)))

last_is : (f : Form) (script : List ℕ) (w : ℕ) → w ≡ width f → (length script - length script % w ≡ 0 → ⊥) → (entry_in f script (length script - length script % w - w)).tick ≡ stop_of (records_in f script)
unfolding width
last_is Old script w p z =
    ap (λ (n : ℕ). (entry_in Old script (length script - length script % n - n)).tick) p
    ∙ old_last script (old_some (length script) (λ k. z (ap (λ (n : ℕ). length script - length script % n) p ∙ k)))
last_is New script w p z =
    ap (λ (n : ℕ). (entry_in New script (length script - length script % n - n)).tick) p
    ∙ new_last script (new_some (length script) (λ k. z (ap (λ (n : ℕ). length script - length script % n) p ∙ k)))

pub stop_last : (f : Form) (script : List ℕ) (w : ℕ) (e : Entry) → w ≡ width f → (length script - length script % w ≡ 0 → ⊥) → e ≡ entry_in f script (length script - length script % w - w) → e.tick ≡ stop_of (records_in f script)
stop_last f script w e p z q = ap (λ (x : Entry). x.tick) q ∙ last_is f script w p z

-- where a record begins that is read
pub last_within : (f : Form) (n w : ℕ) → w ≡ width f → (n - n % w ≡ 0 → ⊥) → n - n % w - w + width f ≤ n
unfolding width
last_within Old n w p z = subst (λ (m : ℕ). n - n % m - m + 4 ≤ n) (sym p) (old_ends n (old_some n (λ k. z (ap (λ (m : ℕ). n - n % m) p ∙ k))))
  where
    old_ends : (n : ℕ) → 4 ≤ n → n - n % 4 - 4 + 4 ≤ n
    old_ends n h = omega arith
last_within New n w p z = subst (λ (m : ℕ). n - n % m - m + 6 ≤ n) (sym p) (new_ends n (new_some n (λ k. z (ap (λ (m : ℕ). n - n % m) p ∙ k))))
  where
    new_ends : (n : ℕ) → 6 ≤ n → n - n % 6 - 6 + 6 ≤ n
    new_ends n h = omega arith

-- what is left over is no more than all, and a record fits in what is not
pub left_low : (f : Form) (n w : ℕ) → w ≡ width f → n % w ≤ n
unfolding width
left_low Old n w p = subst (λ (m : ℕ). n % m ≤ n) (sym p) (omega arith)
left_low New n w p = subst (λ (m : ℕ). n % m ≤ n) (sym p) (omega arith)

pub last_low : (f : Form) (n w : ℕ) → w ≡ width f → (n - n % w ≡ 0 → ⊥) → w ≤ n - n % w
unfolding width
last_low Old n w p z = subst (λ (m : ℕ). m ≤ n - n % m) (sym p) (low n (old_some n (λ k. z (ap (λ (m : ℕ). n - n % m) p ∙ k))))
  where
    low : (n : ℕ) → 4 ≤ n → 4 ≤ n - n % 4
    low n h = omega arith
last_low New n w p z = subst (λ (m : ℕ). m ≤ n - n % m) (sym p) (low n (new_some n (λ k. z (ap (λ (m : ℕ). n - n % m) p ∙ k))))
  where
    low : (n : ℕ) → 6 ≤ n → 6 ≤ n - n % 6
    low n h = omega arith

pub ruleset stops = (refl, stop_none, stop_last, last_within, left_low, last_low)
