-- Reading a good script tick by tick: what `tick_at` gives at each place is what the whole script wants in that tick.
use Rattle.std.specs.Prelude.{Option, Some, None}
use Prim.Native.Nat.{ℕ, zero, suc, ◌+◌, ◌%◌, ◌≤◌, ◌<◌}
use native.Mathlib.Decide.{dec_le}
use native.Mathlib.Omega.{arith}
use mathlib.Core.Bool.{Bool, true, false}
use mathlib.Core.Path.{◌≡◌, refl, sym, ap, subst, ◌∙◌}
use mathlib.Core.List.{List, [], ◌∷◌}
use lib.ListN.{length, drop}
use borrow.Author.Tests.{eqb-true, eqb-false, ne_eqb}
use Rattle.base.specs.Choice.{when◌then◌else◌, ◌=?◌}
use Rattle.base.proofs.Choices.{if_is_false}
use Rattle.base.proofs.Tables.{chain_second}
use Rattle.player_script.specs.Script.{width, records_in, called_before, is_good, good_in, is_of, call_of, wanted_at, leading, tick_of, place_behind, tick_at}
use Rattle.player_script.specs.Walk.{entry_in}
use Rattle.player_script.specs.Reads.{Rising, none, more, Reads}
use Rattle.player_script.specs.declared.Entry.{Entry}
use Rattle.player_script.specs.declared.Form.{Form}
use Rattle.player_script.specs.declared.ScriptTick.{ScriptTick}
use Rattle.player_script.specs.declared.ScriptCall.{ScriptCall}
use Rattle.player_script.proofs.Good.{good_end, good_call}
use Rattle.player_script.proofs.Records.{width_some, records_more, records_none}

-- ---- from the start

good_rises : (last : ℕ) (called : List ℕ) (es : List Entry) → is_good last called es ≡ true → Rising last es
good_rises last called [] g = none
good_rises last called (e ∷ []) g = more (good_end last called e g) none
good_rises last called (e ∷ f ∷ es) g =
    let call = good_call last called e f es g in
    more call.rises (good_rises e.tick (e.party ∷ called_before last called e) (f ∷ es) call.goes_on)

pub reads_start : (f : Form) (script : List ℕ) → good_in f script ≡ true → Reads f script 0 0
unfolding good_in
reads_start f script g = record { rising = good_rises 0 [] (records_in f script) (chain_second (length script % width f =? 0) (is_good 0 [] (records_in f script)) g); rest = λ later party h. refl }

-- ---- from tick to tick

-- the records behind the leading ones
unfoldable behind : ℕ → List Entry → List Entry
behind tick [] = []
behind tick (e ∷ es) = when e.tick =? tick then behind tick es else e ∷ es

-- they are those behind so many bytes
abbrev BehindIs : Form → List ℕ → ℕ → ℕ → Type 0
BehindIs f script tick at = records_in f (drop (place_behind (width f) at (leading tick (records_in f (drop at script)))) script) ≡ behind tick (records_in f (drop at script))

behind_none : (f : Form) (script : List ℕ) (tick at : ℕ) → length script < at + width f → BehindIs f script tick at
unfolding place_behind leading behind
behind_none f script tick at h =
    let none_left = records_none f script at h in
    ap (λ (es : List Entry). records_in f (drop (place_behind (width f) at (leading tick es)) script)) none_left ∙ none_left ∙ ap (behind tick) (sym none_left)

behind_more : (f : Form) (script : List ℕ) (tick at : ℕ) → at + width f ≤ length script → BehindIs f script tick (at + width f) → BehindIs f script tick at
unfolding place_behind leading behind when◌then◌else◌
behind_more f script tick at h rest =
    ap (λ (es : List Entry). records_in f (drop (place_behind (width f) at (leading tick es)) script)) (records_more f script at h)
    ∙ go ((entry_in f script at).tick =? tick)
    ∙ ap (behind tick) (sym (records_more f script at h))
  where
    go : (t : Bool) → records_in f (drop (place_behind (width f) at (when t then entry_in f script at ∷ leading tick (records_in f (drop (at + width f) script)) else [])) script)
        ≡ (when t then behind tick (records_in f (drop (at + width f) script)) else entry_in f script at ∷ records_in f (drop (at + width f) script))
    go true = rest
    go false = records_more f script at h

behind_at : (f : Form) (script : List ℕ) (n tick at : ℕ) → length script ≤ at + n → BehindIs f script tick at
behind_at f script zero tick at h = behind_none f script tick at (omega (arith, h, width_some f))
behind_at f script (suc n) tick at h = by (dec_le (at + width f) (length script)) (behind_at f script n tick (at + width f) (omega (arith, h, width_some f)))
  where
    by : Dec (at + width f ≤ length script) → BehindIs f script tick (at + width f) → BehindIs f script tick at
    by (yes l) rest = behind_more f script tick at l rest
    by (no l) rest = behind_none f script tick at (omega (arith, l))

above : (e : Entry) (tick : ℕ) → tick ≤ e.tick → (e.tick =? tick) ≡ false → tick < e.tick
above e tick l q = go (dec_le e.tick tick)
  where
    go : Dec (e.tick ≤ tick) → tick < e.tick
    go (yes h) = absurd (eqb-false e.tick tick q (omega arith))
    go (no h) = omega arith

-- a record of another tick wants nothing
other_tick : (tick party : ℕ) (e : Entry) (es : List Entry) → (e.tick ≡ tick → ⊥) → wanted_at tick party (e ∷ es) ≡ wanted_at tick party es
unfolding wanted_at
other_tick tick party e es n = if_is_false (is_of tick party e) _ _ (if_is_false (e.tick =? tick) _ _ (ne_eqb e.tick tick n))

pub later_none : (low tick party : ℕ) (es : List Entry) → Rising low es → tick < low → wanted_at tick party es ≡ None
unfolding wanted_at
later_none low tick party [] none h = refl
later_none low tick party (e ∷ es) (more l r) h = other_tick tick party e es (λ q. omega arith) ∙ later_none e.tick tick party es r (omega arith)

-- the leading records want all that is wanted in their tick
leading_all : (tick party : ℕ) (es : List Entry) → Rising tick es → wanted_at tick party (leading tick es) ≡ wanted_at tick party es
unfolding wanted_at leading when◌then◌else◌
leading_all tick party [] none = refl
leading_all tick party (e ∷ es) (more l r) = go (e.tick =? tick) refl (λ q. leading_all tick party es (subst (λ (n : ℕ). Rising n es) (eqb-true e.tick tick q) r))
  where
    go : (t : Bool) → (e.tick =? tick) ≡ t → ((e.tick =? tick) ≡ true → wanted_at tick party (leading tick es) ≡ wanted_at tick party es)
        → wanted_at tick party (when t then e ∷ leading tick es else []) ≡ wanted_at tick party (e ∷ es)
    go true q rest = ap (λ (w : Option ScriptCall). when is_of tick party e then Some (call_of e) else w) (rest q)
    go false q rest = sym (other_tick tick party e es (eqb-false e.tick tick q) ∙ later_none e.tick tick party es r (above e tick l q))

-- the leading records want nothing in later ticks
behind_all : (tick later party : ℕ) (es : List Entry) → tick < later → wanted_at later party (behind tick es) ≡ wanted_at later party es
unfolding wanted_at behind when◌then◌else◌
behind_all tick later party [] h = refl
behind_all tick later party (e ∷ es) h = go (e.tick =? tick) refl (behind_all tick later party es h)
  where
    go : (t : Bool) → (e.tick =? tick) ≡ t → wanted_at later party (behind tick es) ≡ wanted_at later party es
        → wanted_at later party (when t then behind tick es else e ∷ es) ≡ wanted_at later party (e ∷ es)
    go true q rest = rest ∙ sym (other_tick later party e es (λ p. omega (arith, eqb-true e.tick tick q)))
    go false q rest = refl

-- behind them the ticks are later
behind_rises : (tick : ℕ) (es : List Entry) → Rising tick es → Rising (tick + 1) (behind tick es)
unfolding behind when◌then◌else◌
behind_rises tick [] none = none
behind_rises tick (e ∷ es) (more l r) = go (e.tick =? tick) refl (λ q. behind_rises tick es (subst (λ (n : ℕ). Rising n es) (eqb-true e.tick tick q) r))
  where
    go : (t : Bool) → (e.tick =? tick) ≡ t → ((e.tick =? tick) ≡ true → Rising (tick + 1) (behind tick es)) → Rising (tick + 1) (when t then behind tick es else e ∷ es)
    go true q rest = rest q
    go false q rest = let later : tick + 1 ≤ e.tick = omega (arith, above e tick l q) in more later r

module _ (f : Form) (script : List ℕ) (at tick : ℕ) (t : ScriptTick) (v : Reads f script at tick) (e : t ≡ tick_at f script at tick) where
  wanted : (party : ℕ) → wanted_at tick party (leading tick (records_in f (drop at script))) ≡ wanted_at tick party (records_in f script)
  wanted party = leading_all tick party (records_in f (drop at script)) v.rising ∙ v.rest tick party (omega arith)

  -- what is read in this tick is what the whole script wants in it
  pub reads_tick : t ≡ tick_of tick (records_in f script) t.next
  unfolding tick_at
  reads_tick =
      let all : (tick_of tick (leading tick (records_in f (drop at script))) t.next).calls ≡ (tick_of tick (records_in f script) t.next).calls =
      λ i. wanted 0 i ∷ wanted 1 i ∷ wanted 2 i ∷ wanted 3 i ∷ wanted 4 i ∷ wanted 5 i ∷ wanted 6 i ∷ wanted 7 i ∷ [] in
      λ i. record { calls = (ap (λ (x : ScriptTick). x.calls) e ∙ all) i; next = t.next }

  -- and reading goes on behind it with the next tick
  next_is : records_in f (drop t.next script) ≡ behind tick (records_in f (drop at script))
  unfolding tick_at
  next_is =
      ap (λ (x : ScriptTick). records_in f (drop x.next script)) e
      ∙ behind_at f script (length script) tick at (omega arith)

  pub reads_next : Reads f script t.next (tick + 1)
  reads_next = record {
    rising = subst (Rising (tick + 1)) (sym next_is) (behind_rises tick (records_in f (drop at script)) v.rising);
    rest = λ later party h. ap (wanted_at later party) next_is ∙ behind_all tick later party (records_in f (drop at script)) (omega arith) ∙ v.rest later party (omega arith);
  }

pub ruleset ticks = (reads_start, reads_tick, reads_next)
