-- Ticks that have no record: what the code finds, and that nothing is wanted in them.
use Rattle.std.specs.Prelude.{Option, None}
use Prim.Native.Nat.{ℕ, ◌+◌, ◌-◌, ◌≤◌, ◌<◌}
use native.Mathlib.Decide.{dec_lt}
use native.Mathlib.Omega.{arith}
use mathlib.Core.Bool.{Bool, true, false}
use mathlib.Core.Path.{◌≡◌, refl, sym, ap, subst, ◌∙◌}
use mathlib.Core.List.{List, [], ◌∷◌}
use lib.ListN.{length, drop}
use borrow.Author.Tests.{eq-eqb, ne_eqb, eqb-false, lt-ltb, le-ltb, ltb-true}
use Rattle.base.specs.Choice.{when◌then◌else◌, ◌<?◌, ◌=?◌}
use Rattle.base.proofs.Choices.{if_is_true, if_is_false}
use Rattle.player_script.specs.Script.{width, records_in, wanted_at}
use Rattle.player_script.specs.Reads.{Rising, none, more, Reads}
use Rattle.player_script.specs.Walk.{entry_in, free_before, free_ticks}
use Rattle.player_script.specs.declared.Entry.{Entry}
use Rattle.player_script.specs.declared.Form.{Form}
use Rattle.player_script.proofs.Records.{width_some, records_more, records_none}
use Rattle.player_script.proofs.Ticks.{later_none}

-- ---- what the code finds

pub free_within : (f : Form) (script : List ℕ) (at w : ℕ) → w ≡ width f → at ≤ length script → w ≤ length script - at → at + width f ≤ length script
free_within f script at w e k h = omega (arith, e, k, h, width_some f)

module _ (f : Form) (script : List ℕ) (at tick stop : ℕ) where
  pub free_first : tick ≡ 0 → 0 ≡ free_ticks f script at tick stop
  unfolding free_ticks
  free_first e = sym (if_is_true (tick =? 0) 0 _ (eq-eqb tick 0 e))

  free_later : (es : List Entry) (r : ℕ) → (tick ≡ 0 → ⊥) → records_in f (drop at script) ≡ es → r ≡ free_before tick stop es → r ≡ free_ticks f script at tick stop
  unfolding free_ticks
  free_later es r n e p = p ∙ ap (free_before tick stop) (sym e) ∙ sym (if_is_false (tick =? 0) 0 _ (ne_eqb tick 0 n))

  pub free_behind : (r : ℕ) → (tick ≡ 0 → ⊥) → length script < at → r ≡ stop - tick → r ≡ free_ticks f script at tick stop
  free_behind r n h p = free_later [] r n (records_none f script at (omega (arith, h, width_some f))) p

  pub free_end : (r w : ℕ) → (tick ≡ 0 → ⊥) → w ≡ width f → at ≤ length script → length script - at < w → r ≡ stop - tick → r ≡ free_ticks f script at tick stop
  free_end r w n e k h p = free_later [] r n (records_none f script at (omega (arith, e, k, h, width_some f))) p

  pub free_record : (e : Entry) (r w : ℕ) → (tick ≡ 0 → ⊥) → w ≡ width f → at ≤ length script → w ≤ length script - at → e ≡ entry_in f script at → r ≡ (when e.tick <? stop then e.tick else stop) - tick → r ≡ free_ticks f script at tick stop
  free_record e r w n z k h q p =
      free_later (entry_in f script at ∷ records_in f (drop (at + width f) script)) r n (records_more f script at (free_within f script at w z k h))
      (p ∙ ap (λ (x : Entry). (when x.tick <? stop then x.tick else stop) - tick) q)

pub before_record : (next stop tick r : ℕ) → next < stop → r ≡ next - tick → r ≡ (when next <? stop then next else stop) - tick
before_record next stop tick r h p = p ∙ ap (λ (n : ℕ). n - tick) (sym (if_is_true (next <? stop) next stop (lt-ltb next stop h)))

pub before_stop : (next stop tick r : ℕ) → stop ≤ next → r ≡ stop - tick → r ≡ (when next <? stop then next else stop) - tick
before_stop next stop tick r h p = p ∙ ap (λ (n : ℕ). n - tick) (sym (if_is_false (next <? stop) next stop (le-ltb next stop h)))

-- they end before the stop
pub free_most : (f : Form) (script : List ℕ) (at tick stop : ℕ) → free_ticks f script at tick stop ≤ stop - tick
unfolding free_ticks when◌then◌else◌
free_most f script at tick stop = by (tick =? 0) (records_in f (drop at script))
  where
    to : (e : Entry) (t : Bool) → (e.tick <? stop) ≡ t → (when t then e.tick else stop) - tick ≤ stop - tick
    to e true h = omega (arith, ltb-true e.tick stop h)
    to e false h = omega arith

    by : (t : Bool) (es : List Entry) → (when t then 0 else free_before tick stop es) ≤ stop - tick
    by true es = omega arith
    by false [] = omega arith
    by false (e ∷ es) = to e (e.tick <? stop) refl

pub ruleset frees = (refl, free_first, free_behind, free_end, free_within, free_record, before_record, before_stop)

-- ---- that nothing is wanted in them

pub record Free (f : Form) (script : List ℕ) (at tick stop ticks : ℕ) : Type 0 where
  pub some_tick : 0 < ticks → 0 < tick
  pub before_it : 0 < ticks → tick + ticks ≤ stop
  pub reads_on : (n : ℕ) → n ≤ ticks → Reads f script at (tick + n)
  pub wants_none : (n party : ℕ) → n < ticks → wanted_at (tick + n) party (records_in f script) ≡ None

-- the earlier of a record's tick and the stop's
earlier_low : (next stop : ℕ) → (when next <? stop then next else stop) ≤ next
earlier_low next stop = go (dec_lt next stop)
  where
    go : Dec (next < stop) → (when next <? stop then next else stop) ≤ next
    go (yes h) = omega (arith, if_is_true (next <? stop) next stop (lt-ltb next stop h))
    go (no h) = omega (arith, if_is_false (next <? stop) next stop (le-ltb next stop (omega (arith, h))), h)

earlier_high : (next stop : ℕ) → (when next <? stop then next else stop) ≤ stop
earlier_high next stop = go (dec_lt next stop)
  where
    go : Dec (next < stop) → (when next <? stop then next else stop) ≤ stop
    go (yes h) = omega (arith, if_is_true (next <? stop) next stop (lt-ltb next stop h))
    go (no h) = omega (arith, if_is_false (next <? stop) next stop (le-ltb next stop (omega (arith, h))))

module _ (f : Form) (script : List ℕ) (at tick stop ticks : ℕ) (v : Reads f script at tick) where
  nothing_free : ticks ≡ 0 → Free f script at tick stop ticks
  nothing_free z = record {
    some_tick = λ h. absurd (omega (arith, z));
    before_it = λ h. absurd (omega (arith, z));
    reads_on = λ n h. let k : tick ≡ tick + n = omega (arith, z) in subst (Reads f script at) k v;
    wants_none = λ n party h. absurd (omega (arith, z));
  }

  -- the records from the place on
  some_free : (es : List Entry) → records_in f (drop at script) ≡ es → 0 < tick → Rising tick es → ticks ≡ free_before tick stop es → Free f script at tick stop ticks
  unfolding wanted_at
  some_free [] q pos rises g = record {
    some_tick = λ h. pos;
    before_it = λ h. omega (arith, g);
    reads_on = λ n h. record { rising = subst (Rising (tick + n)) (sym q) none; rest = λ later party k. v.rest later party (omega arith) };
    wants_none = λ n party h. sym (v.rest (tick + n) party (omega arith)) ∙ ap (wanted_at (tick + n) party) q;
  }
  some_free (e ∷ es) q pos (more l r) g = record {
    some_tick = λ h. pos;
    before_it = λ h. omega (arith, g, earlier_high e.tick stop);
    reads_on = λ n h. record { rising = subst (Rising (tick + n)) (sym q) (more (omega (arith, g, l, earlier_low e.tick stop)) r); rest = λ later party k. v.rest later party (omega arith) };
    wants_none = λ n party h.
        sym (v.rest (tick + n) party (omega arith)) ∙ ap (wanted_at (tick + n) party) q
        ∙ later_none e.tick (tick + n) party (e ∷ es) (more (omega arith) r) (omega (arith, g, earlier_low e.tick stop));
  }

  pub free_is : ticks ≡ free_ticks f script at tick stop → Free f script at tick stop ticks
  unfolding free_ticks when◌then◌else◌
  free_is e = by_first (tick =? 0) refl e
    where
      by_first : (t : Bool) → (tick =? 0) ≡ t → ticks ≡ (when t then 0 else free_before tick stop (records_in f (drop at script))) → Free f script at tick stop ticks
      by_first true q g = nothing_free g
      by_first false q g = some_free (records_in f (drop at script)) refl (positive (eqb-false tick 0 q)) v.rising g
        where
          positive : (tick ≡ 0 → ⊥) → 0 < tick
          positive n = omega (arith, n)
