-- Laws of reading calls, one behind the other: the loops, and that what is read at a place are the calls of Ticks.antt.
use Prim.Native.Nat.{ℕ, zero, suc, ◌+◌, ◌-◌, ◌≤◌, ◌<◌}
use native.Mathlib.Omega.{arith}
use mathlib.Core.Bool.{Bool, true, false}
use mathlib.Core.List.{List, [], ◌∷◌, ◌++◌, append-nil}
use mathlib.Core.Path.{◌≡◌, refl, sym, ap, ◌∙◌}
use lib.ListN.{length, take, drop, get_or, set, length-set, length-drop}
use lib.Seq.{drop-drop, take_all, take-nil}
use borrow.Author.Tests.{ltb-true, ltb-false}
use Rattle.base.specs.Choice.{when◌then◌else◌, ◌<?◌, ◌=?◌}
use Rattle.base.proofs.Choices.{if_is_true, if_is_false}
use Rattle.base.proofs.Lists.{front_more}
use Rattle.master.specs.Tick as M
use Rattle.device_tick.specs.Tick as D
use Rattle.link_parties.specs.Part.{data_of}
use Rattle.link_parties.specs.Stands.{if_here, no_device_call, device_call_of, device_calls_from, calls_of}
use Rattle.link_parties.proofs.Parts.{past_end}
use Rattle.link_parties.specs.declared.DeviceCallWithPart.{DeviceCallWithPart}
use Rattle.link_parties.specs.declared.MasterCallWithPart.{MasterCallWithPart}
use Rattle.link_parties.specs.declared.Part.{Part}
use Rattle.link_list.specs.Ticks.{kind_in, length_in, data_in, request_in, answer_in, behind_call, Here, slots_in, behind, calls_in}
use Rattle.link_list.specs.Read.{part_in, master_call_at, device_call_at, forward, next_in, calls_from, place_behind, CallsRead, tick_from, tick_at}

-- ---- a loop: the first n calls are read, of so many

module _ {A : Type 0} where
  pub record Reading (call : List ℕ → ℕ → A) (ticks : List ℕ) (most start : ℕ) (calls : List A) (at n : ℕ) : Type 0 where
    pub room : length calls ≡ most
    pub within : n ≤ most
    pub inside : at ≤ length ticks
    pub calls_left : take n calls ++ calls_from call ticks (most - n) at ≡ calls_from call ticks most start
    pub place_left : place_behind ticks (most - n) at ≡ place_behind ticks most start

  pub reading_none : (call : List ℕ → ℕ → A) (ticks : List ℕ) (most start : ℕ) (calls : List A) → length calls ≡ most → start ≤ length ticks → Reading call ticks most start calls start 0
  reading_none call ticks most start calls h k =
      let whole : most - 0 ≡ most = omega arith in
      record {
        room = h;
        within = omega arith;
        inside = k;
        calls_left = ap (λ (n : ℕ). calls_from call ticks n start) whole;
        place_left = ap (λ (n : ℕ). place_behind ticks n start) whole;
      }

  module _ (call : List ℕ → ℕ → A) (ticks : List ℕ) (most start : ℕ) (calls : List A) (at n : ℕ) (v : Reading call ticks most start calls at n) where
    pub reading_more : (e : A) (next : ℕ) → n < most → e ≡ call ticks at → next ≡ next_in ticks at → next ≤ length ticks → Reading call ticks most start (set calls n e) next (n + 1)
    unfolding calls_from place_behind
    reading_more e next h p q k =
        let less : suc (most - (n + 1)) ≡ most - n = omega (arith, h) in
        record {
          room = length-set calls n e ∙ v.room;
          within = omega (arith, h);
          inside = k;
          calls_left =
              sym (front_more calls (calls_from call ticks (most - (n + 1)) next) n e (omega (arith, v.room, h)))
              ∙ (λ i. take n calls ++ (p i ∷ calls_from call ticks (most - (n + 1)) (q i)))
              ∙ ap (λ (m : ℕ). take n calls ++ calls_from call ticks m at) less
              ∙ v.calls_left;
          place_left = ap (place_behind ticks (most - (n + 1))) q ∙ ap (λ (m : ℕ). place_behind ticks m at) less ∙ v.place_left;
        }

    pub reading_all : most ≤ n → CallsRead call ticks most start calls at
    unfolding calls_from place_behind
    reading_all h =
        let none : 0 ≡ most - n = omega (arith, h) in
        record {
          calls_are =
              sym (append-nil calls)
              ∙ ap (λ (l : List A). l ++ []) (sym (take_all n calls (omega (arith, v.room, h))))
              ∙ ap (λ (m : ℕ). take n calls ++ calls_from call ticks m at) none
              ∙ v.calls_left;
          next_is = ap (λ (m : ℕ). place_behind ticks m at) none ∙ v.place_left;
          inside = v.inside;
        }

pub tick_is : (ticks : List ℕ) (at second third next : ℕ) (p s : MasterCallWithPart) (ds : List DeviceCallWithPart)
    → p ≡ master_call_at ticks at → second ≡ next_in ticks at → s ≡ master_call_at ticks second → third ≡ next_in ticks second → CallsRead device_call_at ticks 6 third ds next
    → record { calls = record { masters = p ∷ s ∷ []; devices = ds }; next = next } ≡ tick_from ticks at
unfolding calls_from place_behind
tick_is ticks at second third next p s ds e f g h d =
    let behind_two : third ≡ next_in ticks (next_in ticks at) = h ∙ ap (next_in ticks) f in
    λ i. record {
      calls = record { masters = e i ∷ (g ∙ ap (master_call_at ticks) f) i ∷ []; devices = (d.calls_are ∙ ap (calls_from device_call_at ticks 6) behind_two) i };
      next = (d.next_is ∙ ap (place_behind ticks 6) behind_two) i;
    }

-- ---- what is read at a place

-- a call's data
part_data : (ticks : List ℕ) (at : ℕ) → data_of (part_in ticks at) ticks ≡ data_in (drop at ticks)
part_data ticks at = by (length ticks - at <? 10) refl
  where
    by : (b : Bool) → (length ticks - at <? 10) ≡ b → data_of (part_in ticks at) ticks ≡ data_in (drop at ticks)
    by true e =
        ap (λ (p : Part). data_of p ticks) (if_is_true (length ticks - at <? 10) _ _ e)
        ∙ sym (ap (take (length_in (drop at ticks))) (past_end (drop at ticks) 10 (omega (arith, length-drop at ticks, ltb-true (length ticks - at) 10 e)))
        ∙ take-nil (length_in (drop at ticks)))
    by false e =
        ap (λ (p : Part). data_of p ticks) (if_is_false (length ticks - at <? 10) _ _ e)
        ∙ ap (take (length_in (drop at ticks))) (sym (drop-drop 10 at ticks))

-- the place behind a call
forward_rest : (xs : List ℕ) (at n : ℕ) → drop (forward at n (length xs)) xs ≡ drop n (drop at xs)
forward_rest xs at n = by (length xs - at <? n) refl
  where
    by : (b : Bool) → (length xs - at <? n) ≡ b → drop (forward at n (length xs)) xs ≡ drop n (drop at xs)
    by true e =
        ap (λ (k : ℕ). drop k xs) (if_is_true (length xs - at <? n) _ _ e)
        ∙ past_end xs (length xs) (omega arith)
        ∙ sym (past_end (drop at xs) n (omega (arith, length-drop at xs, ltb-true (length xs - at) n e)))
    by false e = ap (λ (k : ℕ). drop k xs) (if_is_false (length xs - at <? n) _ _ e) ∙ sym (drop-drop n at xs)

next_rest : (ticks : List ℕ) (at : ℕ) → drop (next_in ticks at) ticks ≡ behind_call (drop at ticks)
unfolding next_in behind_call
next_rest ticks at = by (kind_in (drop at ticks) =? 0) refl
  where
    by : (b : Bool) → (kind_in (drop at ticks) =? 0) ≡ b → drop (next_in ticks at) ticks ≡ behind_call (drop at ticks)
    by true e =
        ap (λ (k : ℕ). drop k ticks) (if_is_true (kind_in (drop at ticks) =? 0) _ _ e) ∙ forward_rest ticks at 1
        ∙ sym (if_is_true (kind_in (drop at ticks) =? 0) _ _ e)
    by false e =
        ap (λ (k : ℕ). drop k ticks) (if_is_false (kind_in (drop at ticks) =? 0) _ _ e) ∙ forward_rest ticks at (10 + length_in (drop at ticks))
        ∙ sym (if_is_false (kind_in (drop at ticks) =? 0) _ _ e)

place_rest : (ticks : List ℕ) (n at : ℕ) → drop (place_behind ticks n at) ticks ≡ behind n (drop at ticks)
unfolding place_behind behind
place_rest ticks zero at = refl
place_rest ticks (suc n) at = place_rest ticks n (next_in ticks at) ∙ ap (behind n) (next_rest ticks at)

-- the calls of the slots, from slot i on
devices_read : (ticks : List ℕ) (cs : List DeviceCallWithPart) (i n at : ℕ) (hs : Here) → drop i cs ≡ calls_from device_call_at ticks n at → length hs ≤ n → device_calls_from ticks cs i hs ≡ slots_in hs (drop at ticks)
unfolding device_calls_from slots_in calls_from
devices_read ticks cs i n at [] e h = refl
devices_read ticks cs i zero at (x ∷ hs) e h = absurd (omega arith)
devices_read ticks cs i (suc n) at (x ∷ hs) e h =
    let rest = devices_read ticks cs (suc i) n (next_in ticks at) hs (behind_one cs i (device_call_at ticks at) (calls_from device_call_at ticks n (next_in ticks at)) e) (omega (arith, h)) in
    λ j. if_here x
    ((ap (device_call_of ticks) (first_one cs i (device_call_at ticks at) (calls_from device_call_at ticks n (next_in ticks at)) e) ∙ ap (D.call_of (answer_in (drop at ticks))) (part_data ticks at)) j)
    ((rest ∙ ap (slots_in hs) (next_rest ticks at)) j)
  where
    empty : (c : DeviceCallWithPart) (ys : List DeviceCallWithPart) → [] ≡ c ∷ ys → ⊥
    empty c ys e = let k : ◌≡◌ {A = ℕ} 0 (suc (length ys)) = ap (λ (l : List DeviceCallWithPart). length l) e in omega (arith, k)

    first_one : (xs : List DeviceCallWithPart) (k : ℕ) (c : DeviceCallWithPart) (ys : List DeviceCallWithPart) → drop k xs ≡ c ∷ ys → get_or xs k no_device_call ≡ c
    first_one [] zero c ys e = absurd (empty c ys e)
    first_one [] (suc k) c ys e = absurd (empty c ys e)
    first_one (x ∷ xs) zero c ys e = ap (λ (l : List DeviceCallWithPart). get_or l 0 no_device_call) e
    first_one (x ∷ xs) (suc k) c ys e = first_one xs k c ys e

    behind_one : (xs : List DeviceCallWithPart) (k : ℕ) (c : DeviceCallWithPart) (ys : List DeviceCallWithPart) → drop k xs ≡ c ∷ ys → drop (suc k) xs ≡ ys
    behind_one [] zero c ys e = absurd (empty c ys e)
    behind_one [] (suc k) c ys e = absurd (empty c ys e)
    behind_one (x ∷ xs) zero c ys e = ap (λ (l : List DeviceCallWithPart). drop 1 l) e
    behind_one (x ∷ xs) (suc k) c ys e = behind_one xs k c ys e

module _ (ticks : List ℕ) where
  from_is : (here : Here) (at : ℕ) → length here ≤ 6 → calls_of ticks here (tick_from ticks at).calls ≡ calls_in here (drop at ticks)
  unfolding calls_in calls_from
  from_is here at h = λ j. record {
    for_primary = M.call_of (request_in (drop at ticks)) (part_data ticks at j);
    for_secondary = M.call_of (request_in (next_rest ticks at j)) ((part_data ticks (next_in ticks at) ∙ ap data_in (next_rest ticks at)) j);
    for_devices = (devices_read ticks (calls_from device_call_at ticks 6 (place_behind ticks 2 at)) 0 6 (place_behind ticks 2 at) here refl h ∙ ap (slots_in here) (place_rest ticks 2 at)) j;
  }

  -- the place that the code reads at, and the one that was asked for
  read_from : (at : ℕ) → drop (when at <? length ticks then at else length ticks) ticks ≡ drop at ticks
  read_from at = by (at <? length ticks) refl
    where
      by : (b : Bool) → (at <? length ticks) ≡ b → drop (when at <? length ticks then at else length ticks) ticks ≡ drop at ticks
      by true e = ap (λ (k : ℕ). drop k ticks) (if_is_true (at <? length ticks) _ _ e)
      by false e =
          ap (λ (k : ℕ). drop k ticks) (if_is_false (at <? length ticks) _ _ e)
          ∙ past_end ticks (length ticks) (omega arith)
          ∙ sym (past_end ticks at (ltb-false at (length ticks) e))

  -- the calls of Ticks.antt, and the rest behind them
  pub calls_are : (here : Here) (at : ℕ) → length here ≤ 6 → calls_of ticks here (tick_at ticks at).calls ≡ calls_in here (drop at ticks)
  calls_are here at h = from_is here (when at <? length ticks then at else length ticks) h ∙ ap (calls_in here) (read_from at)

  pub rest_is : (at : ℕ) → drop (tick_at ticks at).next ticks ≡ behind 8 (drop at ticks)
  rest_is at = place_rest ticks 8 (when at <? length ticks then at else length ticks) ∙ ap (behind 8) (read_from at)
