-- What is told of a script that is longer than the room: the steps of reading join to it.
use Prim.Native.Nat.{ℕ, ◌<◌}
use native.Mathlib.Omega.{arith}
use mathlib.Core.Bool.{Bool, true, false}
use mathlib.Core.List.{List, ◌++◌}
use mathlib.Core.Path.{◌≡◌, refl, sym, ap, subst, ◌∙◌}
use Rattle.base.specs.Choice.{when◌then◌else◌}
use Rattle.base.proofs.Choices.{if_is_false, if_answer_true, if_answer_false}
use Rattle.player_script.specs.Script.{records_in, good_in, stop_of}
use Rattle.player_script.specs.Pieces.{Gone, bad, good_after, joined}
use Rattle.player_script.proofs.Good.{bad_after}
use Rattle.player_script.proofs.Pieces.{pieces_good, pieces_stop}
use Rattle.player_script.specs.declared.Form.{Form}
use Rattle.player_input.specs.Input.{held_in, end_of, told_of, LongTold, BadTold}
use Rattle.player_input.specs.declared.Input.{Input}
use Rattle.player_input.specs.declared.Input.TheVariants.{LongGood, LongBad}

-- ---- the last bytes

module _ (f : Form) (gone : Gone) (rest : List ℕ) where
  pub end_good : (b : Bool) (t : ℕ) → b ≡ good_after f gone rest → b ≡ true → t ≡ stop_of (records_in f rest) → LongGood t ≡ end_of f gone rest
  unfolding end_of
  end_good b t q e p = if_answer_true b (good_after f gone rest) (LongGood t) (LongGood (stop_of (records_in f rest))) LongBad q e (ap (λ (n : ℕ). LongGood n) p)

  pub end_bad : (b : Bool) → b ≡ good_after f gone rest → b ≡ false → LongBad ≡ end_of f gone rest
  unfolding end_of
  end_bad b q e = if_answer_false b (good_after f gone rest) LongBad (LongGood (stop_of (records_in f rest))) LongBad q e refl

  -- they hold no whole script
  pub end_held : (r : Input) → r ≡ end_of f gone rest → held_in r < 3145740
  unfolding end_of when◌then◌else◌
  end_held r p = subst (λ (x : Input). held_in x < 3145740) (sym p) (by (good_after f gone rest))
    where
      by : (t : Bool) → held_in (when t then LongGood (stop_of (records_in f rest)) else LongBad) < 3145740
      by true = omega arith
      by false = omega arith

pub ruleset ends = (refl, end_good, end_bad, end_held)

-- ---- the whole script

pub long_told : LongTold
unfolding end_of told_of
long_told f pieces rest ws h =
    ap (λ (b : Bool). when b then LongGood (stop_of (records_in f rest)) else LongBad) (sym (pieces_good f pieces rest ws h))
    ∙ ap (λ (n : ℕ). when good_in f (joined pieces ++ rest) then LongGood n else LongBad) (sym (pieces_stop f pieces rest ws h))

bad_end : (f : Form) (rest : List ℕ) → end_of f bad rest ≡ LongBad
unfolding end_of
bad_end f rest = if_is_false (good_after f bad rest) (LongGood (stop_of (records_in f rest))) LongBad (bad_after f rest)

pub bad_told : BadTold
bad_told f pieces rest ws h k = sym (long_told f pieces rest ws h) ∙ ap (λ (gone : Gone). end_of f gone rest) k ∙ bad_end f rest
