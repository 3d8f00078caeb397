-- The loop over the slots: the settings of the first n are made.
use Prim.Native.Nat.{ℕ, ◌+◌, ◌≤◌, ◌<◌}
use native.Mathlib.Numerals.{add-one}
use native.Mathlib.Omega.{arith}
use mathlib.Core.List.{List, [], ◌∷◌, ◌++◌, append-nil}
use mathlib.Core.Path.{◌≡◌, refl, sym, ap, ◌∙◌}
use lib.ListN.{length, take, drop, get_or, set, length-set, drop_of_length-le}
use lib.Seq.{drop-cons, take_all}
use Rattle.std.specs.Prelude.{Option}
use Rattle.base.proofs.Lists.{front_more}
use Rattle.link_start.specs.declared.Setting.{Setting}
use Rattle.link_run_c.specs.Settings.{setting_of, settings_of}

pub record Making (preambles pollings uniques : List ℕ) (settings : List (Option Setting)) (n : ℕ) : Type 0 where
  pub preambles_six : length preambles ≡ 6
  pub pollings_six : length pollings ≡ 6
  pub uniques_six : length uniques ≡ 6
  pub six : length settings ≡ 6
  pub within : n ≤ 6
  pub left : take n settings ++ settings_of (drop n preambles) (drop n pollings) (drop n uniques) ≡ settings_of preambles pollings uniques

pub making_none : (preambles pollings uniques : List ℕ) (settings : List (Option Setting)) → length preambles ≡ 6 → length pollings ≡ 6 → length uniques ≡ 6 → length settings ≡ 6 → Making preambles pollings uniques settings 0
making_none preambles pollings uniques settings p q u s = record { preambles_six = p; pollings_six = q; uniques_six = u; six = s; within = omega arith; left = refl }

pub making_more : (preambles pollings uniques : List ℕ) (settings : List (Option Setting)) (n : ℕ) (e : Option Setting) → Making preambles pollings uniques settings n → n < 6
    → e ≡ setting_of (get_or preambles n 0) (get_or pollings n 0) (get_or uniques n 0) → Making preambles pollings uniques (set settings n e) (n + 1)
unfolding settings_of
making_more preambles pollings uniques settings n e v h p = record {
  preambles_six = v.preambles_six;
  pollings_six = v.pollings_six;
  uniques_six = v.uniques_six;
  six = length-set settings n e ∙ v.six;
  within = omega (arith, h);
  left =
      sym (front_more settings (settings_of (drop (n + 1) preambles) (drop (n + 1) pollings) (drop (n + 1) uniques)) n e (omega (arith, v.six, h)))
      ∙ ap (λ (s : Option Setting). take n settings ++ (s ∷ settings_of (drop (n + 1) preambles) (drop (n + 1) pollings) (drop (n + 1) uniques))) p
      ∙ ap (λ (m : ℕ). take n settings ++ (setting_of (get_or preambles n 0) (get_or pollings n 0) (get_or uniques n 0) ∷ settings_of (drop m preambles) (drop m pollings) (drop m uniques))) (add-one n)
      ∙ (λ i. take n settings ++ settings_of
      (sym (drop-cons preambles n 0 (omega (arith, v.preambles_six, h))) i)
      (sym (drop-cons pollings n 0 (omega (arith, v.pollings_six, h))) i)
      (sym (drop-cons uniques n 0 (omega (arith, v.uniques_six, h))) i))
      ∙ v.left;
}

pub making_all : (preambles pollings uniques : List ℕ) (settings : List (Option Setting)) (n : ℕ) → Making preambles pollings uniques settings n → 6 ≤ n → settings ≡ settings_of preambles pollings uniques
unfolding settings_of
making_all preambles pollings uniques settings n v h =
    sym (append-nil settings)
    ∙ ap (λ (l : List (Option Setting)). l ++ []) (sym (take_all n settings (omega (arith, v.six, h))))
    ∙ ap (λ (l : List ℕ). take n settings ++ settings_of l (drop n pollings) (drop n uniques)) (sym (drop_of_length-le preambles {i = n} (omega (arith, v.preambles_six, h))))
    ∙ v.left

pub ruleset made = (refl, making_none, making_more, making_all)
