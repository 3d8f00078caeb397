-- Laws of a start: the loop over the slots, and what two starts make together where one was refused.
use Rattle.std.specs.Prelude.{Result, Ok, Err, Option}
use Prim.Native.Nat.{ℕ, zero, suc, ◌-◌, ◌≤◌, ◌<◌}
use native.Mathlib.Omega.{arith}
use mathlib.Core.List.{List, ◌∷◌}
use mathlib.Core.Path.{◌≡◌, refl, sym, ap, subst, ◌∙◌}
use lib.ListN.{length, drop, get_or, set, length-set, drop_of_length-le}
use lib.Seq.{drop-cons, drop-set-lt, get_or-set_same}
use Rattle.base.specs.Refusal.{number, Called, accepted, refused, called_as}
use Rattle.base.specs.declared.Refusal.{Refusal}
use Rattle.line.specs.declared.Profile.{Profile}
use Rattle.turns.specs.declared.Device.{Device}
use Rattle.link_start.specs.Start.{both, slot_starts, in_front, devices_start, made, lowest, pair}
use Rattle.link_start.specs.declared.Setting.{Setting}

-- what is made of two parts has the lowest of their answers
abbrev with_answer : {C : Type 0} → C → Called (Unit {0}) → Called C
with_answer c (accepted u) = accepted c
with_answer c (refused why) = refused why

made_with : {C : Type 0} (c : C) (v : Result (Unit {0}) Refusal) → made c v ≡ with_answer c (called_as v)
made_with c (Ok u) = refl
made_with c (Err why) = refl

both_with : {A B C : Type 0} (f : A → B → C) (a : A) (b : B) (x y : Result (Unit {0}) Refusal) → with_answer (f a b) (lowest (called_as x) (called_as y)) ≡ both f (made a x) (made b y)
both_with f a b (Ok u) (Ok t) = refl
both_with f a b (Ok u) (Err w) = refl
both_with f a b (Err v) (Ok u) = refl
both_with f a b (Err v) (Err w) = refl

both_made : {A B C : Type 0} (f : A → B → C) (a : A) (b : B) (x y v : Result (Unit {0}) Refusal) → called_as v ≡ lowest (called_as x) (called_as y) → made (f a b) v ≡ both f (made a x) (made b y)
both_made f a b x y v e = made_with (f a b) v ∙ ap (with_answer (f a b)) e ∙ both_with f a b x y

lowest_taken : (y : Result (Unit {0}) Refusal) → called_as y ≡ lowest (accepted tt) (called_as y)
lowest_taken (Ok u) = refl
lowest_taken (Err why) = refl

-- a slot that was refused
refused_more : (xs ys : List (Option Device)) (why : ℕ) (v w : Result (Unit {0}) Refusal) → called_as w ≡ lowest (refused why) (called_as v) → made xs w ≡ both in_front (refused why) (made ys v)
refused_more xs ys why (Ok u) w e = made_with xs w ∙ ap (with_answer xs) e
refused_more xs ys why (Err q) w e = made_with xs w ∙ ap (with_answer xs) e

-- ---- the loop over the slots, from the last to the first

pub record Begun (p : Profile) (ss : List (Option Setting)) (slots : List (Option Device)) (v : Result (Unit {0}) Refusal) (n : ℕ) : Type 0 where
  pub settings_six : length ss ≡ 6
  pub six : length slots ≡ 6
  pub within : n ≤ 6
  pub left : made (drop n slots) v ≡ devices_start p (drop n ss)

pub begun_none : (p : Profile) (ss : List (Option Setting)) (slots : List (Option Device)) → length ss ≡ 6 → length slots ≡ 6 → Begun p ss slots (Ok tt) 6
unfolding devices_start
begun_none p ss slots h k = record {
  settings_six = h;
  six = k;
  within = omega arith;
  left =
      ap (λ (l : List (Option Device)). made l (Ok tt)) (drop_of_length-le slots {i = 6} (omega (arith, k)))
      ∙ ap (devices_start p) (sym (drop_of_length-le ss {i = 6} (omega (arith, h))));
}

devices_more : (p : Profile) (s : Option Setting) (ss : List (Option Setting)) → both in_front (slot_starts p s) (devices_start p ss) ≡ devices_start p (s ∷ ss)
unfolding devices_start
devices_more p s ss = refl

module _ (p : Profile) (ss : List (Option Setting)) (slots : List (Option Device)) (v : Result (Unit {0}) Refusal) (i : ℕ) (b : Begun p ss slots v (suc i)) where
  inside : i < 6
  inside = omega (arith, b.within)

  stored : (e : Option Device) → drop i (set slots i e) ≡ e ∷ drop (suc i) slots
  stored e =
      drop-cons (set slots i e) i e (omega (arith, length-set slots i e, b.six, inside))
      ∙ (λ j. get_or-set_same slots i e e (omega (arith, b.six, inside)) j ∷ drop-set-lt (suc i) slots i e (omega arith) j)

  left_by : (d : Option Setting) (slots : List (Option Device)) (w : Result (Unit {0}) Refusal) (x : Called (Option Device)) (xs : Called (List (Option Device))) → x ≡ slot_starts p (get_or ss i d) → xs ≡ devices_start p (drop (suc i) ss) → made slots w ≡ both in_front x xs
      → made slots w ≡ devices_start p (drop i ss)
  left_by d slots w x xs q e k =
      k
      ∙ (λ j. both in_front (q j) (e j))
      ∙ devices_more p (get_or ss i d) (drop (suc i) ss)
      ∙ ap (devices_start p) (sym (drop-cons ss i d (omega (arith, b.settings_six, inside))))

  one_more : (d : Option Setting) (e : Option Device) → accepted e ≡ slot_starts p (get_or ss i d) → Begun p ss (set slots i e) v i
  one_more d e q = record {
    settings_six = b.settings_six;
    six = length-set slots i e ∙ b.six;
    within = omega (arith, inside);
    left = left_by d (drop i (set slots i e)) v (accepted e) (made (drop (suc i) slots) v) q b.left (ap (λ (l : List (Option Device)). made l v) (stored e) ∙ both_made in_front e (drop (suc i) slots) (Ok tt) v v (lowest_taken v));
  }

  one_refused : (d : Option Setting) (why : Refusal) (w : Result (Unit {0}) Refusal) → refused (number why) ≡ slot_starts p (get_or ss i d) → called_as w ≡ lowest (refused (number why)) (called_as v) → Begun p ss slots w i
  one_refused d why w q g = record {
    settings_six = b.settings_six;
    six = b.six;
    within = omega (arith, inside);
    left = left_by d (drop i slots) w (refused (number why)) (made (drop (suc i) slots) v) q b.left (refused_more (drop i slots) (drop (suc i) slots) (number why) v w g);
  }

module _ (p : Profile) (ss : List (Option Setting)) (slots : List (Option Device)) (v : Result (Unit {0}) Refusal) (n : ℕ) (d : Option Setting) (b : Begun p ss slots v n) (h : 0 < n) where
  pub begun_more : (e : Option Device) → accepted e ≡ slot_starts p (get_or ss (n - 1) d) → Begun p ss (set slots (n - 1) e) v (n - 1)
  begun_more e q =
      let k : n ≡ suc (n - 1) = omega (arith, h) in
      one_more p ss slots v (n - 1) (subst (Begun p ss slots v) k b) d e q

  pub begun_refused : (why : Refusal) (w : Result (Unit {0}) Refusal) → refused (number why) ≡ slot_starts p (get_or ss (n - 1) d) → called_as w ≡ lowest (refused (number why)) (called_as v) → Begun p ss slots w (n - 1)
  begun_refused why w q g =
      let k : n ≡ suc (n - 1) = omega (arith, h) in
      one_refused p ss slots v (n - 1) (subst (Begun p ss slots v) k b) d why w q g

pub begun_all : (p : Profile) (ss : List (Option Setting)) (slots : List (Option Device)) (v : Result (Unit {0}) Refusal) (n : ℕ) → Begun p ss slots v n → n ≤ 0 → made slots v ≡ devices_start p ss
begun_all p ss slots v zero b h = b.left
begun_all p ss slots v (suc n) b h = absurd (omega arith)

-- what two starts make together, by what `both` gives of their pair
by_pair : {A B C : Type 0} → (A → B → C) → Called (A × B) → Called C
by_pair f (accepted z) = accepted (f z.0 z.1)
by_pair f (refused why) = refused why

both_by : {A B C : Type 0} (f : A → B → C) (x : Called A) (y : Called B) → by_pair f (both pair x y) ≡ both f x y
unfolding by_pair
both_by f (accepted a) (accepted b) = refl
both_by f (accepted a) (refused w) = refl
both_by f (refused v) (accepted b) = refl
both_by f (refused v) (refused w) = refl

module _ {A B C : Type 0} (f : A → B → C) (x s : Called A) (y t : Called B) (r : Result (A × B) Refusal) (e : called_as r ≡ both pair x y) (p : x ≡ s) (q : y ≡ t) where
  made_by : (v : Result (A × B) Refusal) → r ≡ v → by_pair f (called_as v) ≡ both f s t
  made_by v k = ap (by_pair f) (ap called_as (sym k) ∙ e) ∙ both_by f x y ∙ (λ i. both f (p i) (q i))

  pub refused_both : (v : Result C Refusal) (why : Refusal) → r ≡ Err why → v ≡ Err why → called_as v ≡ both f s t
  unfolding by_pair
  refused_both v why k l = ap called_as l ∙ made_by (Err why) k
