-- Every play of thirteen records or more begins with the play of the opening: what comes behind it has no call before tick 400.
use Rattle.std.specs.Prelude.{Option, Some, None}
use Prim.Native.Nat.{ℕ, zero, suc, ◌+◌, ◌-◌, ◌≤◌, ◌<◌}
use native.Mathlib.Omega.{arith}
use mathlib.Core.Path.{◌≡◌, refl, ap, ap₂, ◌∙◌}
use mathlib.Core.List.{List, [], ◌∷◌, ◌++◌}
use borrow.Author.Tests.{ne_eqb}
use Rattle.base.specs.Choice.{when◌then◌else◌, ◌=?◌}
use Rattle.base.proofs.Choices.{if_is_false}
use Rattle.frame.specs.Limits.{most_data}
use Rattle.turns.specs.Link.{DeviceCall, gives_content, Link, LinkStep, Calls, link_tick, link_after, run}
use Rattle.player_script.specs.Script.{is_of, call_of, wanted_at, master_call, device_call, calls_at, stop_of, calls_from}
use Rattle.player_script.specs.declared.Entry.{Entry}
use Rattle.player_script.specs.declared.ScriptCall.{ScriptCall}
use Rattle.player.specs.Play.{ready_link}
use Rattle.load_writer.specs.Load.{opening, mark, pair_tick, lower, upper, draw, drawn_from, laid, load}
use Rattle.load_writer.proofs.Records.{lower_tick, Each, and, each_and, each_drawn}
use Rattle.load_writer.proofs.Seeds.{beyond}
use Rattle.load_plays.specs.Plays.{calls_of, play_of}
use Rattle.load_plays.proofs.Opening.{opening_calls, opening_steps}

-- ---- records from tick 400 on

abbrev FromMark : Entry → Type 0
FromMark e = 400 ≤ e.tick

abbrev Late : List Entry → Type 0
Late es = Each FromMark es

pair_late : (k : ℕ) → 400 ≤ pair_tick k
pair_late k = omega arith

lower_late : (k x : ℕ) → 400 ≤ (lower (pair_tick k) x).tick
lower_late k x = omega (arith, lower_tick (pair_tick k) x, pair_late k)

upper_late : (k x : ℕ) → 400 ≤ (upper (pair_tick k) x).tick
unfolding upper
upper_late k x = pair_late k

drawn_late : (n x : ℕ) → Late (drawn_from 0 x n)
drawn_late n x = each_drawn FromMark n (λ k y h. lower_late k y) (λ k y h. upper_late k y) (λ e h. h) n 0 x (omega arith)

-- what comes behind the opening
later : ℕ → ℕ → List Entry
later seed m = mark (draw seed) 0 ∷ mark (draw seed) 1 ∷ mark (draw seed) 2 ∷ mark (draw seed) 3 ∷ drawn_from 0 (draw (draw seed)) (suc m)

later_late : (seed m : ℕ) → Late (later seed m)
unfolding later
later_late seed m = marked 0 (marked 1 (marked 2 (marked 3 (drawn_late (suc m) (draw (draw seed))))))
  where
    marked : (q : ℕ) {es : List Entry} → Late es → Late (mark (draw seed) q ∷ es)
    marked q {es} w = each_and FromMark (mark (draw seed) q) es (omega arith) w

load_is : (seed m : ℕ) → load seed (beyond m) ≡ opening ++ later seed m
unfolding load laid opening later
load_is seed m = refl

-- ---- their calls come later

wanted_late : (t p : ℕ) (es : List Entry) → t < 400 → Late es → wanted_at t p es ≡ None
unfolding wanted_at
wanted_late t p [] h l = refl
wanted_late t p (e ∷ es) h (and q l) = if_is_false (is_of t p e) _ _ (if_is_false (e.tick =? t) _ _ (ne_eqb e.tick t (λ s. omega (arith, h, q, s)))) ∙ wanted_late t p es h l

wanted_front : (t p : ℕ) (es fs : List Entry) → t < 400 → Late fs → wanted_at t p (es ++ fs) ≡ wanted_at t p es
unfolding wanted_at
wanted_front t p [] fs h l = wanted_late t p fs h l
wanted_front t p (e ∷ es) fs h l = ap (λ (w : Option ScriptCall). when is_of t p e then Some (call_of e) else w) (wanted_front t p es fs h l)

abbrev given : ℕ → Option ScriptCall → DeviceCall
given tick w = when tick =? 0 then gives_content 3 (0 ∷ 0 ∷ []) else device_call w

calls_front : (t : ℕ) (es fs : List Entry) → t < 400 → Late fs → calls_at t (es ++ fs) ≡ calls_at t es
calls_front t es fs h l = λ i. record {
  for_primary = master_call (same 0 i);
  for_secondary = master_call (same 1 i);
  for_devices = given t (same 2 i) ∷ given t (same 3 i) ∷ given t (same 4 i) ∷ given t (same 5 i) ∷ given t (same 6 i) ∷ given t (same 7 i) ∷ [];
}
  where
    same : (p : ℕ) → wanted_at t p (es ++ fs) ≡ wanted_at t p es
    same p = wanted_front t p es fs h l

from_front : (n t : ℕ) (es fs : List Entry) → t + n ≤ 400 → Late fs → calls_from t n (es ++ fs) ≡ calls_from t n es
unfolding calls_from
from_front zero t es fs h l = refl
from_front (suc n) t es fs h l = ap₂ (λ (c : Calls) (cs : List Calls). c ∷ cs) (calls_front t es fs (omega (arith, h)) l) (from_front n (t + 1) es fs (omega (arith, h)) l)

calls_append : (n t m : ℕ) (es : List Entry) → calls_from t (n + m) es ≡ calls_from t n es ++ calls_from (t + n) m es
unfolding calls_from
calls_append zero t m es = ap₂ (λ (i k : ℕ). calls_from i k es) (stays t) (none_more m)
  where
    stays : (t : ℕ) → t ≡ t + 0
    stays t = omega arith

    none_more : (m : ℕ) → 0 + m ≡ m
    none_more m = omega arith
calls_append (suc n) t m es =
    ap (λ (k : ℕ). calls_from t k es) (suc_first n m)
    ∙ ap (λ (cs : List Calls). calls_at t es ∷ cs) (calls_append n (t + 1) m es ∙ ap (λ (k : ℕ). calls_from (t + 1) n es ++ calls_from k m es) (move_one t n))
  where
    suc_first : (a b : ℕ) → suc a + b ≡ suc (a + b)
    suc_first a b = omega arith

    move_one : (t n : ℕ) → t + 1 + n ≡ t + suc n
    move_one t n = omega arith

-- ---- the run

behind : ℕ → Link → List Calls → Link
behind limit l [] = l
behind limit l (c ∷ cs) = behind limit (link_after (link_tick limit l c)) cs

run_append : (limit : ℕ) (l : Link) (cs ds : List Calls) → run limit l (cs ++ ds) ≡ run limit l cs ++ run limit (behind limit l cs) ds
unfolding run behind
run_append limit l [] ds = refl
run_append limit l (c ∷ cs) ds = ap (λ (ss : List LinkStep). link_tick limit l c ∷ ss) (run_append limit (link_after (link_tick limit l c)) cs ds)

stop_late : (e : Entry) (es : List Entry) → Late (e ∷ es) → 400 ≤ stop_of (e ∷ es)
unfolding stop_of
stop_late e [] (and q l) = q
stop_late e (f ∷ es) (and q l) = stop_late f es l

stop_is : (seed m : ℕ) → stop_of (opening ++ later seed m) ≡ stop_of (later seed m)
unfolding stop_of opening later
stop_is seed m = refl

far_later : (seed m : ℕ) → 400 ≤ stop_of (later seed m)
unfolding later
far_later seed m = stop_late _ _ (later_late seed m)

-- the calls begin with the opening's, and so does what every party does
pub record Begins (calls : List Calls) (steps : List LinkStep) : Type 0 where
  pub more_calls : List Calls
  pub more_steps : List LinkStep
  pub calls_are : calls ≡ opening_calls ++ more_calls
  pub steps_are : steps ≡ opening_steps ++ more_steps

pub opening_first : (seed m : ℕ) → Begins (calls_of seed (beyond m)) (play_of seed (beyond m))
unfolding play_of opening_calls opening_steps
opening_first seed m = record {
  more_calls = rest;
  more_steps = run most_data (behind most_data ready_link opening_calls) rest;
  calls_are = first;
  steps_are = ap (run most_data ready_link) first ∙ run_append most_data ready_link opening_calls rest;
}
  where
    es : List Entry
    es = opening ++ later seed m

    rest : List Calls
    rest = calls_from (0 + 400) (stop_of (opening ++ later seed m) - 400) (opening ++ later seed m)

    long : stop_of (opening ++ later seed m) ≡ 400 + (stop_of (opening ++ later seed m) - 400)
    long = omega (arith, stop_is seed m, far_later seed m)

    first : calls_of seed (beyond m) ≡ calls_from 0 400 opening ++ rest
    first =
        ap (λ (fs : List Entry). calls_from 0 (stop_of fs) fs) (load_is seed m)
        ∙ ap (λ (k : ℕ). calls_from 0 k (opening ++ later seed m)) long
        ∙ calls_append 400 0 (stop_of (opening ++ later seed m) - 400) (opening ++ later seed m)
        ∙ ap (λ (cs : List Calls). cs ++ rest) (from_front 400 0 opening (later seed m) (omega arith) (later_late seed m))
