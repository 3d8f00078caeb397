-- The theorems of a script read in pieces: it is good just if its last piece is good after the others, and its stop is the last piece's.
use Prim.Native.Nat.{ℕ, ◌+◌, ◌%◌, ◌≤◌}
use native.Mathlib.Omega.{arith}
use mathlib.Core.Bool.{Bool, false}
use mathlib.Core.Path.{◌≡◌, refl, sym, ap, ◌∙◌}
use mathlib.Core.List.{List, [], ◌∷◌, ◌++◌, append_assoc}
use lib.ListN.{length, drop, length-append}
use Rattle.base.specs.Choice.{when◌then◌else◌, ◌=?◌}
use Rattle.player_script.specs.Script.{width, records_in, stop_of}
use Rattle.player_script.specs.Pieces.{Gone, nothing, walked_by, rest_good, good_after, EachWhole, none, more, joined, walked_over, PiecesGood, PiecesStop}
use Rattle.player_script.specs.Walk.{entry_in}
use Rattle.player_script.specs.declared.Entry.{Entry}
use Rattle.player_script.specs.declared.Form.{Form}
use Rattle.player_script.specs.declared.Form.TheVariants.{Old, New}
use Rattle.player_script.proofs.Records.{records_more, records_append}
use Rattle.player_script.proofs.Good.{good_whole}
use Rattle.player_script.proofs.Walks.{rest_append}

-- whole records in front leave no byte over
whole_front : (f : Form) (a b : List ℕ) → length a % width f ≡ 0 → length (a ++ b) % width f ≡ length b % width f
unfolding width
whole_front Old a b h = omega (arith, length-append a b)
whole_front New a b h = omega (arith, length-append a b)

-- the last of some records and one more
stop_append : (cs : List Entry) (b : Entry) (bs : List Entry) → stop_of (cs ++ (b ∷ bs)) ≡ stop_of (b ∷ bs)
unfolding stop_of
stop_append [] b bs = refl
stop_append (a ∷ []) b bs = refl
stop_append (a ∷ c ∷ cs) b bs = stop_append (c ∷ cs) b bs

-- ---- one piece

module _ (f : Form) (piece rest : List ℕ) (even : length piece % width f ≡ 0) (some : width f ≤ length rest) where
  first_is : records_in f rest ≡ entry_in f rest 0 ∷ records_in f (drop (0 + width f) rest)
  first_is = records_more f rest 0 (omega (arith, some))

  both_is : records_in f (piece ++ rest) ≡ records_in f piece ++ (entry_in f rest 0 ∷ records_in f (drop (0 + width f) rest))
  both_is = records_append f piece rest even ∙ ap (λ (es : List Entry). records_in f piece ++ es) first_is

  rest_after : (gone : Gone) → rest_good gone (records_in f (piece ++ rest)) ≡ rest_good (walked_by gone (records_in f piece)) (records_in f rest)
  rest_after gone =
      ap (rest_good gone) both_is
      ∙ rest_append gone (records_in f piece) (entry_in f rest 0) (records_in f (drop (0 + width f) rest))
      ∙ ap (rest_good (walked_by gone (records_in f piece))) (sym first_is)

  pub piece_good : (gone : Gone) → good_after f gone (piece ++ rest) ≡ good_after f (walked_by gone (records_in f piece)) rest
  unfolding good_after
  piece_good gone =
      ap (λ (n : ℕ). when n =? 0 then rest_good gone (records_in f (piece ++ rest)) else false) (whole_front f piece rest even)
      ∙ ap (λ (b : Bool). when length rest % width f =? 0 then b else false) (rest_after gone)

  piece_stop : stop_of (records_in f (piece ++ rest)) ≡ stop_of (records_in f rest)
  piece_stop = ap stop_of both_is ∙ stop_append (records_in f piece) (entry_in f rest 0) (records_in f (drop (0 + width f) rest)) ∙ ap stop_of (sym first_is)

-- ---- any number of pieces

longer : (f : Form) (a b : List ℕ) → width f ≤ length b → width f ≤ length (a ++ b)
longer f a b h = omega (arith, length-append a b)

good_joined : (f : Form) (gone : Gone) (pieces : List (List ℕ)) (rest : List ℕ) → EachWhole f pieces → width f ≤ length rest
    → good_after f gone (joined pieces ++ rest) ≡ good_after f (walked_over f gone pieces) rest
unfolding joined walked_over
good_joined f gone [] rest none h = refl
good_joined f gone (piece ∷ pieces) rest (more e ws) h =
    ap (good_after f gone) (append_assoc piece (joined pieces) rest)
    ∙ piece_good f piece (joined pieces ++ rest) e (longer f (joined pieces) rest h) gone
    ∙ good_joined f (walked_by gone (records_in f piece)) pieces rest ws h

pub pieces_good : PiecesGood
pieces_good f pieces rest ws h =
    sym (good_whole f (joined pieces ++ rest) (good_after f nothing (joined pieces ++ rest)) refl)
    ∙ good_joined f nothing pieces rest ws h

stop_joined : (f : Form) (pieces : List (List ℕ)) (rest : List ℕ) → EachWhole f pieces → width f ≤ length rest → stop_of (records_in f (joined pieces ++ rest)) ≡ stop_of (records_in f rest)
unfolding joined
stop_joined f [] rest none h = refl
stop_joined f (piece ∷ pieces) rest (more e ws) h =
    ap (λ (l : List ℕ). stop_of (records_in f l)) (append_assoc piece (joined pieces) rest)
    ∙ piece_stop f piece (joined pieces ++ rest) e (longer f (joined pieces) rest h)
    ∙ stop_joined f pieces rest ws h

pub pieces_stop : PiecesStop
pieces_stop f pieces rest ws h = stop_joined f pieces rest ws h
