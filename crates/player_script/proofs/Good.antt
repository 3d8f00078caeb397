-- A good script, and that it is good after nothing: the marks of the walk stand for the parties that have calls.
use Prim.Native.Nat.{ℕ, ◌+◌, ◌%◌, ◌≤◌, ◌<◌}
use native.Mathlib.Decide.{dec_le}
use native.Mathlib.Omega.{arith}
use mathlib.Core.Bool.{Bool, true, false}
use mathlib.Core.Path.{◌≡◌, refl, sym, ap, ◌∙◌}
use mathlib.Core.List.{List, [], ◌∷◌}
use lib.ListN.{length, get_or, set, replicate, length-set, get_or-replicate}
use lib.Seq.{get_or-set_same, get_or-set_other}
use borrow.Author.Tests.{ltb-false, le-ltb, lt-ltb, eq-eqb, ne_eqb, eqb-true, eqb-false}
use Rattle.base.specs.Choice.{when◌then◌else◌, ◌<?◌, ◌=?◌}
use Rattle.base.proofs.Choices.{true_false, if_true, if_false, if_is_true, if_is_false, went_else}
use Rattle.base.proofs.Tables.{chain_first, chain_second}
use Rattle.player_script.specs.Script.{width, records_in, is_stop, is_masters, is_devices, is_call, is_in, called_before, is_good, good_in}
use Rattle.player_script.specs.Pieces.{Gone, bad, up_to, nothing, with_call, rest_good, good_after}
use Rattle.player_script.specs.declared.Entry.{Entry}
use Rattle.player_script.specs.declared.Form.{Form}

-- ---- one record

abbrev step : ℕ → List ℕ → Entry → List Entry → Bool
step last called e rest =
    when e.tick <? last then false else
    when is_call e then (when is_in e.party (called_before last called e) then false else is_good e.tick (e.party ∷ called_before last called e) rest) else false

-- the code's mark of a party is one more than the tick of its last call: these parties are marked with the tick `last`, and none with a later one
pub record Marked (seen : List ℕ) (last : ℕ) (called : List ℕ) : Type 0 where
  pub slots : length seen ≡ 8
  pub marks : (p : ℕ) → p < 8 → (get_or seen p 0 =? (last + 1)) ≡ is_in p called
  pub past : (p : ℕ) → p < 8 → get_or seen p 0 ≤ last + 1

module _ (seen : List ℕ) (last : ℕ) (called : List ℕ) (m : Marked seen last called) (e : Entry) (rises : last ≤ e.tick) where
  marked_before : (p : ℕ) → p < 8 → (get_or seen p 0 =? (e.tick + 1)) ≡ is_in p (called_before last called e)
  unfolding is_in
  marked_before p h = go (dec_le e.tick last)
    where
      go : Dec (e.tick ≤ last) → (get_or seen p 0 =? (e.tick + 1)) ≡ is_in p (called_before last called e)
      go (yes l) =
          let same : e.tick ≡ last = omega arith in
          ap (λ (n : ℕ). get_or seen p 0 =? (n + 1)) same ∙ m.marks p h ∙ ap (is_in p) (sym (if_is_true (e.tick =? last) called [] (eq-eqb e.tick last same)))
      go (no l) =
          ne_eqb (get_or seen p 0) (e.tick + 1) (λ q. omega (arith, m.past p h))
          ∙ ap (is_in p) (sym (if_is_false (e.tick =? last) called [] (ne_eqb e.tick last (λ q. omega arith))))

  marked_more : e.party < 8 → Marked (set seen e.party (e.tick + 1)) e.tick (e.party ∷ called_before last called e)
  unfolding is_in
  marked_more h = record { slots = length-set seen e.party (e.tick + 1) ∙ m.slots; marks = λ p k. at p k (dec_le p e.party) (dec_le e.party p); past = λ p k. under p k (dec_le p e.party) (dec_le e.party p) }
    where
      own : get_or (set seen e.party (e.tick + 1)) e.party 0 ≡ e.tick + 1
      own = get_or-set_same seen e.party (e.tick + 1) 0 (omega (arith, m.slots))

      other : (p : ℕ) → (p ≡ e.party → ⊥) → get_or (set seen e.party (e.tick + 1)) p 0 ≡ get_or seen p 0
      other p n = get_or-set_other seen e.party p (e.tick + 1) 0 n

      at_own : (p : ℕ) → p ≡ e.party → (get_or (set seen e.party (e.tick + 1)) p 0 =? (e.tick + 1)) ≡ is_in p (e.party ∷ called_before last called e)
      at_own p q = if_true (p =? e.party) _ true (is_in p (called_before last called e)) (eq-eqb p e.party q) (eq-eqb _ _ (ap (λ (n : ℕ). get_or (set seen e.party (e.tick + 1)) n 0) q ∙ own))

      at_other : (p : ℕ) → p < 8 → (p ≡ e.party → ⊥) → (get_or (set seen e.party (e.tick + 1)) p 0 =? (e.tick + 1)) ≡ is_in p (e.party ∷ called_before last called e)
      at_other p k n = if_false (p =? e.party) _ true (is_in p (called_before last called e)) (ne_eqb p e.party n) (ap (λ (x : ℕ). x =? (e.tick + 1)) (other p n) ∙ marked_before p k)

      at : (p : ℕ) → p < 8 → Dec (p ≤ e.party) → Dec (e.party ≤ p) → (get_or (set seen e.party (e.tick + 1)) p 0 =? (e.tick + 1)) ≡ is_in p (e.party ∷ called_before last called e)
      at p k (yes a) (yes b) = at_own p (omega arith)
      at p k (no a) b = at_other p k (λ q. omega arith)
      at p k (yes a) (no b) = at_other p k (λ q. omega arith)

      under : (p : ℕ) → p < 8 → Dec (p ≤ e.party) → Dec (e.party ≤ p) → get_or (set seen e.party (e.tick + 1)) p 0 ≤ e.tick + 1
      under p k (yes a) (yes b) = let same : p ≡ e.party = omega arith in omega (arith, own, ap (λ (n : ℕ). get_or (set seen e.party (e.tick + 1)) n 0) same)
      under p k (no a) b = omega (arith, other p (λ q. omega arith), m.past p k)
      under p k (yes a) (no b) = omega (arith, other p (λ q. omega arith), m.past p k)

-- a call's party
pub call_party : (e : Entry) (r : Bool) → r ≡ is_call e → r ≡ true → e.party < 8
call_party e r q t = go (dec_le 8 e.party)
  where
    go : Dec (8 ≤ e.party) → e.party < 8
    go (no l) = omega arith
    go (yes l) =
        absurd (true_false (sym t ∙ q
        ∙ if_is_false (e.party <? 2) (is_masters e.action) (when e.party <? 8 then is_devices e.action else false) (le-ltb e.party 2 (omega arith))
        ∙ if_is_false (e.party <? 8) (is_devices e.action) false (le-ltb e.party 8 l)))

no_marks : Marked (replicate 8 0) 0 []
unfolding is_in
no_marks = record {
  slots = refl;
  marks = λ p h. ne_eqb (get_or (replicate 8 0) p 0) 1 (λ q. omega (arith, get_or-replicate {A = ℕ} 8 p 0 0 h));
  past = λ p h. omega (arith, get_or-replicate {A = ℕ} 8 p 0 0 h);
}

-- ---- a record more, after such marks

abbrev on_call : List ℕ → Entry → Gone
on_call marks e = when get_or marks e.party 0 =? (e.tick + 1) then bad else up_to e.tick (set marks e.party (e.tick + 1))

module _ (last : ℕ) (marks : List ℕ) (e : Entry) where
  call_is : with_call last marks e ≡ (when e.tick <? last then bad else when is_call e then on_call marks e else bad)
  unfolding with_call
  call_is = refl

  pub call_falls : e.tick < last → with_call last marks e ≡ bad
  call_falls l = call_is ∙ if_is_true (e.tick <? last) _ _ (lt-ltb e.tick last l)

  rises_is : last ≤ e.tick → with_call last marks e ≡ (when is_call e then on_call marks e else bad)
  rises_is l = call_is ∙ if_is_false (e.tick <? last) _ _ (le-ltb e.tick last l)

  pub call_none : last ≤ e.tick → is_call e ≡ false → with_call last marks e ≡ bad
  call_none l q = rises_is l ∙ if_is_false (is_call e) _ _ q

  pub call_twice : last ≤ e.tick → is_call e ≡ true → get_or marks e.party 0 ≡ e.tick + 1 → with_call last marks e ≡ bad
  call_twice l q s = rises_is l ∙ if_is_true (is_call e) _ _ q ∙ if_is_true (get_or marks e.party 0 =? (e.tick + 1)) _ _ (eq-eqb _ _ s)

  pub call_more : last ≤ e.tick → is_call e ≡ true → (get_or marks e.party 0 ≡ e.tick + 1 → ⊥) → with_call last marks e ≡ up_to e.tick (set marks e.party (e.tick + 1))
  call_more l q s = rises_is l ∙ if_is_true (is_call e) _ _ q ∙ if_is_false (get_or marks e.party 0 =? (e.tick + 1)) _ _ (ne_eqb _ _ s)

-- ---- records are good just if they are after marks that stand for the same calls

abbrev Same : ℕ → List ℕ → List ℕ → List Entry → Type 0
Same last called marks es = is_good last called es ≡ rest_good (up_to last marks) es

bad_rest : (es : List Entry) → rest_good bad es ≡ false
unfolding rest_good
bad_rest [] = refl
bad_rest (e ∷ []) = refl
bad_rest (e ∷ f ∷ es) = bad_rest (f ∷ es)

-- nothing is good after a bad record
pub bad_after : (f : Form) (rest : List ℕ) → good_after f bad rest ≡ false
unfolding good_after when◌then◌else◌
bad_after f rest = by (length rest % width f =? 0)
  where
    by : (t : Bool) → (when t then rest_good bad (records_in f rest) else false) ≡ false
    by true = bad_rest (records_in f rest)
    by false = refl

module _ (last : ℕ) (called marks : List ℕ) (m : Marked marks last called) (e f : Entry) (es : List Entry) where
  good_is : is_good last called (e ∷ f ∷ es) ≡ step last called e (f ∷ es)
  unfolding is_good
  good_is = refl

  rising_good : last ≤ e.tick → is_good last called (e ∷ f ∷ es) ≡ (when is_call e then (when is_in e.party (called_before last called e) then false else is_good e.tick (e.party ∷ called_before last called e) (f ∷ es)) else false)
  rising_good l = good_is ∙ if_is_false (e.tick <? last) _ _ (le-ltb e.tick last l)

  call_good : last ≤ e.tick → is_call e ≡ true
      → is_good last called (e ∷ f ∷ es) ≡ (when is_in e.party (called_before last called e) then false else is_good e.tick (e.party ∷ called_before last called e) (f ∷ es))
  call_good l q = rising_good l ∙ if_is_true (is_call e) _ _ q

  both_bad : is_good last called (e ∷ f ∷ es) ≡ false → with_call last marks e ≡ bad → Same last called marks (e ∷ f ∷ es)
  unfolding rest_good
  both_bad g w = g ∙ sym (ap (λ (x : Gone). rest_good x (f ∷ es)) w ∙ bad_rest (f ∷ es))

  same_twice : last ≤ e.tick → is_call e ≡ true → get_or marks e.party 0 ≡ e.tick + 1 → Same last called marks (e ∷ f ∷ es)
  same_twice l q s =
      both_bad
      (call_good l q ∙ if_is_true _ _ _ (sym (marked_before marks last called m e l e.party (call_party e (is_call e) refl q)) ∙ eq-eqb _ _ s))
      (call_twice last marks e l q s)

  same_more : (Marked (set marks e.party (e.tick + 1)) e.tick (e.party ∷ called_before last called e) → Same e.tick (e.party ∷ called_before last called e) (set marks e.party (e.tick + 1)) (f ∷ es))
      → last ≤ e.tick → is_call e ≡ true → (get_or marks e.party 0 ≡ e.tick + 1 → ⊥) → Same last called marks (e ∷ f ∷ es)
  unfolding rest_good
  same_more rest l q s =
      call_good l q
      ∙ if_is_false _ _ _ (sym (marked_before marks last called m e l e.party (call_party e (is_call e) refl q)) ∙ ne_eqb _ _ s)
      ∙ rest (marked_more marks last called m e l (call_party e (is_call e) refl q))
      ∙ sym (ap (λ (x : Gone). rest_good x (f ∷ es)) (call_more last marks e l q s))

  same_on : (Marked (set marks e.party (e.tick + 1)) e.tick (e.party ∷ called_before last called e) → Same e.tick (e.party ∷ called_before last called e) (set marks e.party (e.tick + 1)) (f ∷ es))
      → Dec (last ≤ e.tick) → (c : Bool) → is_call e ≡ c → (t : Bool) → (get_or marks e.party 0 =? (e.tick + 1)) ≡ t → Same last called marks (e ∷ f ∷ es)
  same_on rest (no l) c q t s = both_bad (good_is ∙ if_is_true (e.tick <? last) _ _ (lt-ltb e.tick last (omega arith))) (call_falls last marks e (omega arith))
  same_on rest (yes l) false q t s = both_bad (rising_good l ∙ if_is_false (is_call e) _ _ q) (call_none last marks e l q)
  same_on rest (yes l) true q true s = same_twice l q (eqb-true (get_or marks e.party 0) (e.tick + 1) s)
  same_on rest (yes l) true q false s = same_more rest l q (eqb-false (get_or marks e.party 0) (e.tick + 1) s)

good_marked : (last : ℕ) (called marks : List ℕ) (es : List Entry) → Marked marks last called → Same last called marks es
unfolding is_good rest_good
good_marked last called marks [] m = refl
good_marked last called marks (e ∷ []) m = refl
good_marked last called marks (e ∷ f ∷ es) m =
    same_on last called marks m e f es
    (λ k. good_marked e.tick (e.party ∷ called_before last called e) (set marks e.party (e.tick + 1)) (f ∷ es) k)
    (dec_le last e.tick) (is_call e) refl (get_or marks e.party 0 =? (e.tick + 1)) refl

-- ---- the whole script

pub good_whole : (f : Form) (script : List ℕ) (r : Bool) → r ≡ good_after f nothing script → r ≡ good_in f script
unfolding good_in good_after
good_whole f script r q = q ∙ ap (λ (b : Bool). when length script % width f =? 0 then b else false) (sym (good_marked 0 [] (replicate 8 0) (records_in f script) no_marks))

pub after_whole : (f : Form) (gone : Gone) (rest : List ℕ) (w : ℕ) (r : Bool) → w ≡ width f → length rest % w ≡ 0 → r ≡ rest_good gone (records_in f rest) → r ≡ good_after f gone rest
unfolding good_after
after_whole f gone rest w r p e q = if_true (length rest % width f =? 0) r (rest_good gone (records_in f rest)) false (eq-eqb (length rest % width f) 0 (ap (λ (n : ℕ). length rest % n) (sym p) ∙ e)) q

pub left_over_bad : (f : Form) (gone : Gone) (rest : List ℕ) (w : ℕ) → w ≡ width f → (length rest % w ≡ 0 → ⊥) → false ≡ good_after f gone rest
unfolding good_after
left_over_bad f gone rest w p n = if_false (length rest % width f =? 0) false (rest_good gone (records_in f rest)) false (ne_eqb (length rest % width f) 0 (λ k. n (ap (λ (m : ℕ). length rest % m) p ∙ k))) refl

-- what the records that are left ask
pub left_whole : (f : Form) (n w : ℕ) → w ≡ width f → n % w ≡ 0 → n % width f ≡ 0
left_whole f n w p e = ap (λ (m : ℕ). n % m) (sym p) ∙ e

pub ruleset whole = (refl, good_whole, after_whole, left_over_bad, left_whole)

-- ---- what holds of a good script's call

pub record GoodCall (last : ℕ) (called : List ℕ) (e : Entry) (rest : List Entry) : Type 0 where
  pub rises : last ≤ e.tick
  pub party : e.party < 8
  pub once : is_in e.party (called_before last called e) ≡ false
  pub goes_on : is_good e.tick (e.party ∷ called_before last called e) rest ≡ true

pub good_end : (last : ℕ) (called : List ℕ) (e : Entry) → is_good last called (e ∷ []) ≡ true → last ≤ e.tick
unfolding is_good
good_end last called e g = ltb-false e.tick last (went_else (e.tick <? last) false (is_stop e) true g (λ f. true_false (sym f))).0

pub good_call : (last : ℕ) (called : List ℕ) (e f : Entry) (es : List Entry) → is_good last called (e ∷ f ∷ es) ≡ true → GoodCall last called e (f ∷ es)
unfolding is_good
good_call last called e f es g =
    let rise = went_else (e.tick <? last) false _ true g (λ f. true_false (sym f)) in
    let free = went_else (is_in e.party (called_before last called e)) false _ true (chain_second (is_call e) _ rise.1) (λ f. true_false (sym f)) in
    record {
      rises = ltb-false e.tick last rise.0;
      party = call_party e (is_call e) refl (chain_first (is_call e) _ rise.1);
      once = free.0;
      goes_on = free.1;
    }
