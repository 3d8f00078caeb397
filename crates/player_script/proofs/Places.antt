-- A walk ends: each call takes a place, of which there are eight in a tick.
use Prim.Native.Nat.{ℕ, zero, suc, ◌+◌, ◌*◌, ◌≤◌, ◌<◌}
use native.Mathlib.Decide.{dec_le}
use native.Mathlib.Omega.{arith}
use mathlib.Core.Bool.{Bool, true, false}
use mathlib.Core.Path.{◌≡◌, refl, sym, ap, ◌∙◌}
use mathlib.Core.List.{List, [], ◌∷◌}
use lib.ListN.{length, get_or, set, length-set}
use borrow.Author.Tests.{eq-eqb, ne_eqb, eqb-true, eqb-false}
use Rattle.base.specs.Choice.{◌=?◌}
use Rattle.player_script.specs.Script.{is_call}
use Rattle.player_script.specs.Pieces.{Gone, bad, up_to, with_call, walked_by}
use Rattle.player_script.specs.declared.Entry.{Entry}
use Rattle.player_script.proofs.Good.{call_party, call_falls, call_none, call_twice, call_more}
use Rattle.player_script.proofs.Walks.{bad_stays}

-- ---- the places that are taken

abbrev pub place : Bool → ℕ
place true = 1
place false = 0

-- how many marks are this one
unfoldable pub marks_of : ℕ → List ℕ → ℕ
marks_of n [] = 0
marks_of n (m ∷ ms) = place (m =? n) + marks_of n ms

-- the eight of each tick before the last, and those of the last
unfoldable pub places : ℕ → List ℕ → ℕ
places last marks = 8 * last + marks_of (last + 1) marks

most_marks : (n : ℕ) (ms : List ℕ) → marks_of n ms ≤ length ms
unfolding marks_of
most_marks n [] = omega arith
most_marks n (m ∷ ms) = by (m =? n) (most_marks n ms)
  where
    by : (t : Bool) → marks_of n ms ≤ length ms → place t + marks_of n ms ≤ length (m ∷ ms)
    by true h = omega arith
    by false h = omega arith

one_mark : (n p : ℕ) (ms : List ℕ) → p < length ms → (get_or ms p 0 ≡ n → ⊥) → marks_of n (set ms p n) ≡ marks_of n ms + 1
unfolding marks_of
one_mark n p [] h k = absurd (omega arith)
one_mark n zero (m ∷ ms) h k = omega (arith, ap place (eq-eqb n n refl), ap place (ne_eqb m n k))
one_mark n (suc p) (m ∷ ms) h k = omega (arith, one_mark n p ms (omega arith) k)

pub most_places : (last : ℕ) (marks : List ℕ) → length marks ≡ 8 → places last marks ≤ 8 * last + 8
unfolding places
most_places last marks s = omega (arith, most_marks (last + 1) marks)

one_place : (last t p : ℕ) (marks : List ℕ) → length marks ≡ 8 → last ≤ t → p < 8 → (get_or marks p 0 ≡ t + 1 → ⊥) → places last marks + 1 ≤ places t (set marks p (t + 1))
unfolding places
one_place last t p marks s l h k = by (dec_le t last) (one_mark (t + 1) p marks (omega arith) k)
  where
    by : Dec (t ≤ last) → marks_of (t + 1) (set marks p (t + 1)) ≡ marks_of (t + 1) marks + 1 → 8 * last + marks_of (last + 1) marks + 1 ≤ 8 * t + marks_of (t + 1) (set marks p (t + 1))
    by (yes e) q = let same : last ≡ t = omega arith in omega (arith, ap (λ (n : ℕ). marks_of (n + 1) marks) same)
    by (no e) q = omega (arith, most_marks (last + 1) marks)

-- ---- a record, and some

data CallView (last : ℕ) (marks : List ℕ) (e : Entry) : Type 0 where
  is_bad : with_call last marks e ≡ bad → CallView last marks e
  is_call_lem : last ≤ e.tick → e.party < 8 → (get_or marks e.party 0 ≡ e.tick + 1 → ⊥) → with_call last marks e ≡ up_to e.tick (set marks e.party (e.tick + 1)) → CallView last marks e

call_view : (last : ℕ) (marks : List ℕ) (e : Entry) → CallView last marks e
call_view last marks e = by (dec_le last e.tick) (is_call e) refl (get_or marks e.party 0 =? (e.tick + 1)) refl
  where
    by : Dec (last ≤ e.tick) → (c : Bool) → is_call e ≡ c → (t : Bool) → (get_or marks e.party 0 =? (e.tick + 1)) ≡ t → CallView last marks e
    by (no l) c q t s = is_bad (call_falls last marks e (omega arith))
    by (yes l) false q t s = is_bad (call_none last marks e l q)
    by (yes l) true q true s = is_bad (call_twice last marks e l q (eqb-true (get_or marks e.party 0) (e.tick + 1) s))
    by (yes l) true q false s =
        let other = eqb-false (get_or marks e.party 0) (e.tick + 1) s in
        is_call_lem l (call_party e (is_call e) refl q) other (call_more last marks e l q other)

pub record Placed (last : ℕ) (marks : List ℕ) (n t : ℕ) (after : List ℕ) : Type 0 where
  pub slots : length after ≡ 8
  pub taken : places last marks + n ≤ places t after

pub walk_places : (last : ℕ) (marks : List ℕ) (es : List Entry) (t : ℕ) (after : List ℕ) → length marks ≡ 8 → walked_by (up_to last marks) es ≡ up_to t after → Placed last marks (length es) t after
unfolding walked_by
walk_places last marks [] t after s k =
    let j : up_to last marks ≡ up_to t after = k in
    let p : last ≡ t = cc in
    let q : marks ≡ after = cc in
    let r : places last marks ≡ places t after = λ i. places (p i) (q i) in
    record { slots = ap length (sym q) ∙ s; taken = omega arith }
walk_places last marks (e ∷ es) t after s k = by (call_view last marks e) k (λ g. walk_places e.tick (set marks e.party (e.tick + 1)) es t after (length-set marks e.party (e.tick + 1) ∙ s) g)
  where
    by : CallView last marks e → walked_by (with_call last marks e) es ≡ up_to t after
        → (walked_by (up_to e.tick (set marks e.party (e.tick + 1))) es ≡ up_to t after → Placed e.tick (set marks e.party (e.tick + 1)) (length es) t after)
        → Placed last marks (length (e ∷ es)) t after
    by (is_bad b) g rest =
        let clash : bad ≡ up_to t after = sym (ap (λ (x : Gone). walked_by x es) b ∙ bad_stays es) ∙ g in
        let z : ◌≡◌ {A = ℕ} 0 1 = cc in
        absurd (omega arith)
    by (is_call_lem l p o b) g rest =
        let on = rest (ap (λ (x : Gone). walked_by x es) (sym b) ∙ g) in
        record { slots = on.slots; taken = omega (arith, on.taken, one_place last e.tick e.party marks s l p o) }
