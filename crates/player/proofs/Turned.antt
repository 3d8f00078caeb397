-- Theorem: the claim of specs/Turned.
use mathlib.Core.Bool.{true}
use mathlib.Core.List.{List}
use mathlib.Core.Path.{◌≡◌, sym, ap, ◌∙◌}
use Prim.Native.Nat.{ℕ}
use Rattle.base.specs.Refusal.{accepted, refused}
use Rattle.base.proofs.Choices.{if_is_true}
use Rattle.player_script.specs.Script.{records_in, good_in}
use Rattle.player_script.specs.declared.Form.{Form}
use Rattle.player_convert.specs.Turn.{other}
use Rattle.player_convert.proofs.Turns.{result_of, turn_keeps}
use Rattle.player.specs.Play.{listing, output_of, play}
use Rattle.player.specs.Turned.{PlaysSame}

pub play_good : (f : Form) (s : List ℕ) → good_in f s ≡ true → play f s ≡ listing (records_in f s)
unfolding play
play_good f s g = ap output_of (if_is_true (good_in f s) (accepted (records_in f s)) (refused 16) g)

pub plays_same : PlaysSame
plays_same f script result room e =
    let k = turn_keeps f script result room e in
    play_good (other f) result k.good ∙ ap listing k.same_records ∙ sym (play_good f script (result_of f script result room e).good)
