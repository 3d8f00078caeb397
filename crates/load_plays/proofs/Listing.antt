-- The player takes every load, and prints the listing of its play.
use Prim.Native.Nat.{◌≤◌, ◌<◌}
use native.Mathlib.Omega.{arith}
use borrow.Author.Tests.{le-ltb}
use mathlib.Core.Bool.{false}
use mathlib.Core.List.{List, [], ◌∷◌}
use mathlib.Core.Path.{◌≡◌, ap, ◌∙◌}
use lib.ListN.{length}
use Rattle.base.specs.Choice.{◌<?◌}
use Rattle.base.specs.Refusal.{accepted, refused}
use Rattle.base.proofs.Choices.{if_is_true, if_is_false}
use Rattle.player_script.specs.Script.{records_in, width, good_script, good_in}
use Rattle.player_script.specs.declared.Entry.{Entry}
use Rattle.player_script.specs.declared.Form.TheVariants.{Old, New}
use Rattle.player_convert.specs.Turn.{turned, any_above, by_room, converted, Sayable}
use Rattle.player_convert.proofs.Fits.{none_above}
use Rattle.player.specs.Play.{listing, output_of, play}
use Rattle.player.proofs.Turned.{plays_same}
use Rattle.load_writer.specs.Load.{load, script_bytes}
use Rattle.load_writer.specs.Fits.{Fits}
use Rattle.load_writer.proofs.Records.{Each, none, and}
use Rattle.load_writer.proofs.Bytes.{load_fits, always_taken, reads_back}
use Rattle.load_plays.specs.Plays.{play_of, PlaysIt, PlaysNew}

pub load_plays : PlaysIt
unfolding play play_of records_in width good_in good_script
load_plays seed count low high =
    ap output_of (if_is_true (good_in Old (script_bytes (load seed count))) (accepted (records_in Old (script_bytes (load seed count)))) (refused 16) (always_taken seed count low high))
    ∙ ap listing (reads_back seed count high)

-- ---- in the new form

sayable : (es : List Entry) → Each Fits es → Sayable New es
sayable [] none = Sayable.none
sayable (e ∷ es) (and h hs) = let small : e.tick ≤ 4294967295 = omega (arith, h.tick) in Sayable.more small h.action (sayable es hs)

pub load_plays_new : PlaysNew
unfolding records_in width good_in good_script
load_plays_new seed count room low high enough =
    let script = script_bytes (load seed count) in
    let back : records_in Old script ≡ load seed count = reads_back seed count high in
    let fits : any_above 4294967295 (records_in Old script) ≡ false = ap (any_above 4294967295) back ∙ none_above New (load seed count) (sayable (load seed count) (load_fits seed count high)) in
    let turns : converted Old script room ≡ accepted (turned New (load seed count)) =
    if_is_true (good_in Old script) _ _ (always_taken seed count low high)
    ∙ if_is_false (any_above 4294967295 (records_in Old script)) _ _ fits
    ∙ ap (λ (es : List Entry). by_room (turned New es) room) back
    ∙ if_is_false (room <? length (turned New (load seed count))) _ _ (le-ltb room (length (turned New (load seed count))) enough) in
    (turns, plays_same Old script (turned New (load seed count)) room turns)
