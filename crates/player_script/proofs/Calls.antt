-- A walk over the records of a tick: its calls are those of `wanted_at`, and what is left of it gives what the whole gives.
use Rattle.std.specs.Prelude.{Option, Some, None}
use Rattle.std.specs.Option.{option_or}
use Prim.Native.Nat.{ℕ, zero, suc, ◌+◌, ◌-◌, ◌≤◌, ◌<◌}
use native.Mathlib.Omega.{arith}
use mathlib.Core.Bool.{Bool, true, false}
use mathlib.Core.Path.{◌≡◌, refl, sym, ap, ◌∙◌}
use mathlib.Core.List.{List, [], ◌∷◌}
use lib.ListN.{length, drop, get_or, set}
use borrow.Author.Tests.{eq-eqb, ne_eqb}
use Rattle.base.specs.Choice.{when◌then◌else◌, ◌=?◌}
use Rattle.base.proofs.Choices.{if_true, if_false, if_is_true, if_is_false}
use Rattle.player_script.specs.Script.{width, records_in, call_of, wanted_at, leading, tick_of, place_behind, tick_at}
use Rattle.player_script.specs.Walk.{entry_in, wanted_by, kept, kept_from, with_record, no_calls}
use Rattle.player_script.specs.declared.Entry.{Entry}
use Rattle.player_script.specs.declared.Form.{Form}
use Rattle.player_script.specs.declared.ScriptTick.{ScriptTick}
use Rattle.player_script.specs.declared.ScriptCall.{ScriptCall}
use Rattle.player_script.proofs.Records.{width_some, records_more, records_none}

-- ---- one record

-- the record's call comes last
kept_own : (before : Option ScriptCall) (own : Bool) (w : Option ScriptCall) → own ≡ true → option_or before w ≡ kept before own w
kept_own None own w t = if_true own w w None t refl
kept_own (Some before) own w t = refl

kept_other : (before : Option ScriptCall) (own : Bool) (w : Option ScriptCall) → own ≡ false → before ≡ kept before own w
kept_other None own w f = if_false own None w None f refl
kept_other (Some before) own w f = refl

-- the parties from this number on, none of them the record's
kept_others : (party : ℕ) (e : Entry) (cs : List (Option ScriptCall)) → ((k : ℕ) → k < length cs → party + k ≡ e.party → ⊥) → cs ≡ kept_from party e cs
unfolding kept_from
kept_others party e [] n = refl
kept_others party e (c ∷ cs) n =
    let other : (e.party =? party) ≡ false = ne_eqb e.party party (λ q. n 0 (omega arith) (omega arith)) in
    λ i. kept_other c (e.party =? party) (wanted_by e) other i ∷ kept_others (party + 1) e cs (λ k h q. n (k + 1) (omega arith) (omega arith)) i

kept_at : (party k : ℕ) (e : Entry) (cs : List (Option ScriptCall)) → party + k ≡ e.party → k < length cs → set cs k (option_or (get_or cs k None) (wanted_by e)) ≡ kept_from party e cs
unfolding kept_from
kept_at party k e [] p h = absurd (omega arith)
kept_at party zero e (c ∷ cs) p h =
    let own : (e.party =? party) ≡ true = eq-eqb e.party party (omega arith) in
    λ i. kept_own c (e.party =? party) (wanted_by e) own i ∷ kept_others (party + 1) e cs (λ k l q. omega arith) i
kept_at party (suc k) e (c ∷ cs) p h =
    let other : (e.party =? party) ≡ false = ne_eqb e.party party (λ q. omega arith) in
    λ i. kept_other c (e.party =? party) (wanted_by e) other i ∷ kept_at (party + 1) k e cs (omega arith) (omega arith) i

-- the code sets the call of the record's party
pub with_record_own : (w : ℕ) (t : ScriptTick) (e : Entry) (x c : Option ScriptCall) → length t.calls ≡ 8 → e.party < 8 → x ≡ wanted_by e → c ≡ option_or (get_or t.calls e.party None) x
    → record { calls = set t.calls e.party c; next = t.next + w } ≡ with_record w t e
unfolding with_record
with_record_own w t e x c s h p q =
    let own : c ≡ option_or (get_or t.calls e.party None) (wanted_by e) = q ∙ ap (option_or (get_or t.calls e.party None)) p in
    λ i. record { calls = (ap (set t.calls e.party) own ∙ kept_at 0 e.party e t.calls (omega arith) (omega arith)) i; next = t.next + w }

pub with_record_other : (w : ℕ) (t : ScriptTick) (e : Entry) → length t.calls ≡ 8 → 8 ≤ e.party → record { calls = t.calls; next = t.next + w } ≡ with_record w t e
unfolding with_record
with_record_other w t e s h = λ i. record { calls = kept_others 0 e t.calls (λ k l q. omega arith) i; next = t.next + w }

pub ruleset keeps = (refl, with_record_own, with_record_other)

-- ---- the records of a tick

unfoldable pub walked : ℕ → ℕ → List Entry → ScriptTick → ScriptTick
walked w tick [] t = t
walked w tick (e ∷ es) t = when e.tick =? tick then walked w tick es (with_record w t e) else t

-- a party's call, and where it has none the later one
abbrev first : Option ScriptCall → Option ScriptCall → Option ScriptCall
first before later = kept before true later

first_none : (w : Option ScriptCall) → first w None ≡ w
unfolding when◌then◌else◌
first_none None = refl
first_none (Some w) = refl

-- the record's call comes before the later ones
kept_first : (before : Option ScriptCall) (own stop : Bool) (w : ScriptCall) (later : Option ScriptCall)
    → first (kept before own (when stop then None else Some w)) later ≡ first before (when (when true then (when stop then false else own) else false) then Some w else later)
unfolding when◌then◌else◌
kept_first (Some x) own stop w later = refl
kept_first None true true w later = refl
kept_first None true false w later = refl
kept_first None false true w later = refl
kept_first None false false w later = refl

-- the same for the parties from this number on
firsts : ℕ → ℕ → List Entry → List (Option ScriptCall) → List (Option ScriptCall)
firsts party tick es [] = []
firsts party tick es (c ∷ cs) = first c (wanted_at tick party es) ∷ firsts (party + 1) tick es cs

firsts_none : (party tick : ℕ) (cs : List (Option ScriptCall)) → firsts party tick [] cs ≡ cs
unfolding firsts wanted_at
firsts_none party tick [] = refl
firsts_none party tick (c ∷ cs) = λ i. first_none c i ∷ firsts_none (party + 1) tick cs i

firsts_kept : (party tick : ℕ) (e : Entry) (es : List Entry) (cs : List (Option ScriptCall)) → (e.tick =? tick) ≡ true → firsts party tick es (kept_from party e cs) ≡ firsts party tick (e ∷ es) cs
unfolding firsts kept_from wanted_at
firsts_kept party tick e es [] q = refl
firsts_kept party tick e es (c ∷ cs) q =
    let here : first (kept c (e.party =? party) (wanted_by e)) (wanted_at tick party es) ≡ first c (wanted_at tick party (e ∷ es)) =
    kept_first c (e.party =? party) (e.action =? 0) (call_of e) (wanted_at tick party es)
    ∙ ap (λ (b : Bool). first c (when (when b then (when e.action =? 0 then false else e.party =? party) else false) then Some (call_of e) else wanted_at tick party es)) (sym q) in
    λ i. here i ∷ firsts_kept (party + 1) tick e es cs q i

walked_calls : (w tick : ℕ) (es : List Entry) (t : ScriptTick) → (walked w tick es t).calls ≡ firsts 0 tick (leading tick es) t.calls
unfolding walked leading with_record when◌then◌else◌
walked_calls w tick [] t = sym (firsts_none 0 tick t.calls)
walked_calls w tick (e ∷ es) t = go (e.tick =? tick) refl (walked_calls w tick es (with_record w t e))
  where
    go : (b : Bool) → (e.tick =? tick) ≡ b → (walked w tick es (with_record w t e)).calls ≡ firsts 0 tick (leading tick es) (kept_from 0 e t.calls)
        → (when b then walked w tick es (with_record w t e) else t).calls ≡ firsts 0 tick (when b then e ∷ leading tick es else []) t.calls
    go false q rest = sym (firsts_none 0 tick t.calls)
    go true q rest = rest ∙ firsts_kept 0 tick e (leading tick es) t.calls q

walked_next : (w tick : ℕ) (es : List Entry) (t : ScriptTick) → (walked w tick es t).next ≡ place_behind w t.next (leading tick es)
unfolding walked leading with_record place_behind when◌then◌else◌
walked_next w tick [] t = refl
walked_next w tick (e ∷ es) t = go (e.tick =? tick) (walked_next w tick es (with_record w t e))
  where
    go : (b : Bool) → (walked w tick es (with_record w t e)).next ≡ place_behind w (t.next + w) (leading tick es)
        → (when b then walked w tick es (with_record w t e) else t).next ≡ place_behind w t.next (when b then e ∷ leading tick es else [])
    go false rest = refl
    go true rest = rest

pub walked_all : (w at tick : ℕ) (es : List Entry) → walked w tick es (no_calls at) ≡ tick_of tick (leading tick es) (place_behind w at (leading tick es))
unfolding firsts when◌then◌else◌
walked_all w at tick es = λ i. record { calls = walked_calls w tick es (no_calls at) i; next = walked_next w tick es (no_calls at) i }

-- ---- the walk over the script's bytes

pub record Walking (f : Form) (script : List ℕ) (at tick : ℕ) (t : ScriptTick) : Type 0 where
  pub within : t.next ≤ length script
  pub walks : walked (width f) tick (records_in f (drop t.next script)) t ≡ tick_at f script at tick

walk_from : (f : Form) (script : List ℕ) (at tick : ℕ) (t : ScriptTick) → t ≡ no_calls at → walked (width f) tick (records_in f (drop t.next script)) t ≡ tick_at f script at tick
unfolding tick_at
walk_from f script at tick t e = ap (λ (u : ScriptTick). walked (width f) tick (records_in f (drop u.next script)) u) e ∙ walked_all (width f) at tick (records_in f (drop at script))

pub walk_start : (f : Form) (script : List ℕ) (at tick : ℕ) (t : ScriptTick) → at ≤ length script → t ≡ no_calls at → Walking f script at tick t
walk_start f script at tick t h e = record { within = omega (arith, ap (λ (u : ScriptTick). u.next) e); walks = walk_from f script at tick t e }

walk_over : (f : Form) (script : List ℕ) (at tick : ℕ) (t : ScriptTick) → walked (width f) tick (records_in f (drop t.next script)) t ≡ tick_at f script at tick → length script < t.next + width f → t ≡ tick_at f script at tick
unfolding walked
walk_over f script at tick t w h = sym (ap (λ (es : List Entry). walked (width f) tick es t) (records_none f script t.next h)) ∙ w

pub walk_nothing : (f : Form) (script : List ℕ) (at tick : ℕ) (t : ScriptTick) → length script < at → t ≡ no_calls at → t ≡ tick_at f script at tick
walk_nothing f script at tick t h e = walk_over f script at tick t (walk_from f script at tick t e) (omega (arith, ap (λ (u : ScriptTick). u.next) e))

pub walk_end : (f : Form) (script : List ℕ) (at tick w : ℕ) (t : ScriptTick) → Walking f script at tick t → w ≡ width f → length script - t.next < w → t ≡ tick_at f script at tick
walk_end f script at tick w t v p h = walk_over f script at tick t v.walks (omega (arith, p, h, width_some f))

-- a record begins here
pub walk_within : (f : Form) (script : List ℕ) (at tick w : ℕ) (t : ScriptTick) → Walking f script at tick t → w ≡ width f → w ≤ length script - t.next → t.next + width f ≤ length script
walk_within f script at tick w t v p h = omega (arith, v.within, p, h, width_some f)

module _ (f : Form) (script : List ℕ) (at tick w : ℕ) (t : ScriptTick) (e : Entry) (v : Walking f script at tick t) (same : w ≡ width f) (h : w ≤ length script - t.next) (p : e ≡ entry_in f script t.next) where
  walk_step : tick_at f script at tick ≡ (when e.tick =? tick then walked (width f) tick (records_in f (drop (t.next + width f) script)) (with_record (width f) t e) else t)
  unfolding walked
  walk_step =
      sym v.walks
      ∙ ap (λ (es : List Entry). walked (width f) tick es t) (records_more f script t.next (walk_within f script at tick w t v same h))
      ∙ ap (λ (x : Entry). when x.tick =? tick then walked (width f) tick (records_in f (drop (t.next + width f) script)) (with_record (width f) t x) else t) (sym p)

  pub walk_other : (e.tick ≡ tick → ⊥) → t ≡ tick_at f script at tick
  walk_other n = sym (walk_step ∙ if_is_false (e.tick =? tick) _ _ (ne_eqb e.tick tick n))

  pub walk_more : (u : ScriptTick) → e.tick ≡ tick → u ≡ with_record w t e → Walking f script at tick u
  unfolding with_record
  walk_more u s q =
      let r : u ≡ with_record (width f) t e = q ∙ ap (λ (n : ℕ). with_record n t e) same in
      record {
        within = omega (arith, ap (λ (x : ScriptTick). x.next) r, walk_within f script at tick w t v same h);
        walks = ap (λ (x : ScriptTick). walked (width f) tick (records_in f (drop x.next script)) x) r ∙ sym (walk_step ∙ if_is_true (e.tick =? tick) _ _ (eq-eqb e.tick tick s));
      }

pub walk_less : (script : List ℕ) (w : ℕ) (t u : ScriptTick) (e : Entry) → 4 ≤ w → w ≤ length script - t.next → u ≡ with_record w t e → length script - u.next < length script - t.next
unfolding with_record
walk_less script w t u e k h q = omega (arith, ap (λ (x : ScriptTick). x.next) q)

pub ruleset walks = (walk_start, walk_nothing, walk_end, walk_within, walk_other, walk_more, walk_less)
