-- In every play of thirteen records or more each kind occurs: it does in the opening's 400 ticks, and every such play begins with them.
use Prim.Native.Nat.{ℕ, zero, suc, ◌+◌, ◌-◌, ◌≤◌, ◌<◌}
use native.Mathlib.Omega.{arith}
use mathlib.Core.Path.{◌≡◌, refl, ap, subst, ◌∙◌}
use mathlib.Core.Bool.{true}
use mathlib.Core.List.{List, [], ◌∷◌, ◌++◌}
use lib.ListN.{length, take, drop, length-append, length-drop}
use lib.Seq.{take-append-le, drop-append-le}
use Rattle.frame.specs.Limits.{most_data}
use Rattle.line.specs.Profile.{fsk_profile}
use Rattle.turns.specs.Link.{DeviceSide, LinkStep, Calls}
use Rattle.turns.specs.Run.{All}
use Rattle.turns.specs.Run as R
use Rattle.turns.specs.declared.Wish.TheVariants.{Same}
use Rattle.runs.proofs.Wait.{run_length}
use Rattle.player.specs.Play.{ready, ready_link}
use Rattle.load_writer.proofs.Seeds.{beyond}
use Rattle.load_plays.specs.Occur.{shown_at, between, untouched, characters_sent, EachKind}
use Rattle.load_plays.specs.Plays.{calls_of, play_of, KindsOccur}
use Rattle.load_plays.proofs.Opening.{opening_calls, opening_steps, absent_request, told_request, calls_long, asks, answers, opened}
use Rattle.load_plays.proofs.First.{Begins, opening_first}

shown_front : {A B : Type 0} (other : A) (show : B → A) (t : ℕ) (xs ys : List B) → t < length xs → shown_at other show t (xs ++ ys) ≡ shown_at other show t xs
unfolding shown_at
shown_front other show t [] ys h = absurd (omega (arith, h))
shown_front other show zero (x ∷ xs) ys h = refl
shown_front other show (suc t) (x ∷ xs) ys h = shown_front other show t xs ys (omega (arith, h))

steps_long : length opening_steps ≡ 400
unfolding opening_steps
steps_long = run_length most_data ready_link opening_calls ∙ calls_long

between_front : (a b : ℕ) (xs ys : List LinkStep) → a ≤ b → b ≤ length xs → between a b (xs ++ ys) ≡ between a b xs
between_front a b xs ys h k = ap (take (b - a)) (drop-append-le a xs ys (omega (arith, h, k))) ∙ take-append-le (b - a) (drop a xs) ys (omega (arith, h, k, length-drop a xs))

-- parties 2 to 7 have other addresses
another : (party : ℕ) → party < 8 → (ready party).device.unique ≡ absent_request.address → ⊥
another party h e = omega (arith, h, e)

nobodys : All (λ (x : DeviceSide). x.device.unique ≡ absent_request.address → ⊥) ready_link.devices
unfolding ready_link
nobodys =
    R.and {x = ready 2} (another 2 (omega arith))
    (R.and {x = ready 3} (another 3 (omega arith))
    (R.and {x = ready 4} (another 4 (omega arith))
    (R.and {x = ready 5} (another 5 (omega arith))
    (R.and {x = ready 6} (another 6 (omega arith))
    (R.and {x = ready 7} (another 7 (omega arith)) R.none)))))

module _ (calls : List Calls) (steps : List LinkStep) (b : Begins calls steps) where
  in_calls : {A : Type 0} (other : A) (show : Calls → A) (t : ℕ) (v : A) → t < 400 → shown_at other show t opening_calls ≡ v → shown_at other show t calls ≡ v
  in_calls other show t v h e = ap (shown_at other show t) b.calls_are ∙ shown_front other show t opening_calls b.more_calls (omega (arith, h, calls_long)) ∙ e

  in_steps : {A : Type 0} (other : A) (show : LinkStep → A) (t : ℕ) (v : A) → t < 400 → shown_at other show t opening_steps ≡ v → shown_at other show t steps ≡ v
  in_steps other show t v h e = ap (shown_at other show t) b.steps_are ∙ shown_front other show t opening_steps b.more_steps (omega (arith, h, steps_long)) ∙ e

  part : (from to : ℕ) → from ≤ to → to ≤ 400 → between from to steps ≡ between from to opening_steps
  part from to h k = ap (between from to) b.steps_are ∙ between_front from to opening_steps b.more_steps h (omega (arith, k, steps_long))

  long : 391 < length steps
  long = omega (arith, ap length b.steps_are, length-append opening_steps b.more_steps, steps_long)

  each_kind : EachKind ready_link fsk_profile.sto 3 calls steps
  each_kind = record {
    primary_asks = record { tick = 0; was_taken = in_steps _ _ 0 _ (omega arith) opened.primary_taken };
    secondary_asks = record { tick = 0; was_taken = in_steps _ _ 0 _ (omega arith) opened.secondary_taken };
    late = record {
      device = 1;
      request = told_request;
      t = 242;
      is_told = in_steps _ _ 243 _ (omega arith) opened.is_told;
      tick = 271;
      past = omega arith;
      since = ap (untouched 1) (part 243 271 (omega arith) (omega arith)) ∙ opened.since;
      wish = Same;
      bytes = 0 ∷ 0 ∷ [];
      answers = in_calls _ _ 271 _ (omega arith) answers;
      is_refused = in_steps _ _ 271 _ (omega arith) opened.late;
    };
    absent = record {
      primary = true;
      request = absent_request;
      is_long = refl;
      not_broadcast = λ e. omega (arith, e);
      nobodys = nobodys;
      tick = 0;
      asks = in_calls _ _ 0 _ (omega arith) asks;
      was_taken = in_steps _ _ 0 _ (omega arith) opened.primary_taken;
      last = 221;
      attempts = ap (characters_sent true) (part 0 221 (omega arith) (omega arith)) ∙ opened.attempts;
      given_up = in_steps _ _ 221 _ (omega arith) opened.given_up;
    };
    burst = record {
      device = 0;
      on = 291;
      off_before = in_steps _ _ 291 _ (omega arith) opened.off_before;
      is_on = in_steps _ _ 292 _ (omega arith) opened.is_on;
      off = 390;
      later = omega arith;
      within = long;
      on_before = in_steps _ _ 390 _ (omega arith) opened.on_before;
      is_off = in_steps _ _ 391 _ (omega arith) opened.is_off;
    };
  }

pub kinds_occur : KindsOccur
kinds_occur seed count low =
    subst (λ (n : ℕ). EachKind ready_link fsk_profile.sto 3 (calls_of seed n) (play_of seed n)) (back count low)
    (each_kind (calls_of seed (beyond (count - 13))) (play_of seed (beyond (count - 13))) (opening_first seed (count - 13)))
  where
    back : (n : ℕ) → 13 ≤ n → beyond (n - 13) ≡ n
    back n h = omega (arith, h)
