-- The loop that widens: what is left to be put gives what the whole gives.
use Prim.Native.Nat.{ℕ, suc, ◌+◌, ◌-◌, ◌*◌, ◌/◌, ◌%◌, ◌≤◌, ◌<◌}
use native.Mathlib.Omega.{arith}
use mathlib.Core.List.{List, [], ◌∷◌, ◌++◌}
use mathlib.Core.Path.{◌≡◌, refl, sym, ap, ◌∙◌}
use lib.ListN.{length, get_or, drop}
use borrow.Rule.Slice.PartMut.{put_mid}
use Rattle.base.specs.Store.{stored}
use Rattle.base.proofs.Stores.{length_stored}
use Rattle.player_convert.proofs.Copies.{put_stored}
use Rattle.player_script.specs.Script.{width, entry_of, records_in}
use Rattle.player_script.specs.Walk.{entry_in}
use Rattle.player_script.proofs.Records.{records_more, records_none}
use Rattle.player_script.specs.declared.Form.TheVariants.{Old, New}
use Rattle.player_convert.specs.Turn.{entry_bytes, turned}

pub record Widening (script xs ys : List ℕ) (at to : ℕ) : Type 0 where
  pub within : at ≤ length script
  pub whole : (length script - at) % 4 ≡ 0
  pub place : 2 * to ≡ 3 * at
  pub room : 3 * length script ≤ 2 * length xs
  pub same_length : length ys ≡ length xs
  pub count : to + length (turned New (records_in Old (drop at script))) ≡ length (turned New (records_in Old script))
  pub left : stored ys to (turned New (records_in Old (drop at script))) ≡ stored xs 0 (turned New (records_in Old script))

pub widen_begun : (script xs : List ℕ) → (length script % 4 ≡ 0) × (3 * length script ≤ 2 * length xs) → Widening script xs xs 0 0
widen_begun script xs h = record { within = omega arith; whole = omega (arith, h.0); place = refl; room = h.1; same_length = refl; count = omega arith; left = refl }

widened : (a b c d : ℕ) → a < 256 → b < 256 → entry_bytes New (entry_of a b c d) ≡ 0 ∷ 0 ∷ a ∷ b ∷ c ∷ d ∷ []
widened a b c d h k =
    let p : (a * 256 + b) / 16777216 ≡ 0 = omega arith in
    let q : (a * 256 + b) / 65536 % 256 ≡ 0 = omega arith in
    let r : (a * 256 + b) / 256 % 256 ≡ a = omega arith in
    let s : (a * 256 + b) % 256 ≡ b = omega arith in
    let t : c / 16 * 16 + c % 16 ≡ c = omega arith in
    λ i. p i ∷ q i ∷ r i ∷ s i ∷ t i ∷ d ∷ []

module _ (script xs ys : List ℕ) (at to : ℕ) (v : Widening script xs ys at to) (h : at < length script) where
  pub four_left : at + 4 ≤ length script
  four_left = omega (arith, v.within, v.whole, h)

  pub six_room : to + 6 ≤ length ys
  six_room = omega (arith, four_left, v.place, v.room, v.same_length)

  module _ (bytes : (i : ℕ) → get_or script i 0 < 256) where
    rest : List ℕ
    rest = turned New (records_in Old (drop (at + 4) script))

    first_is : turned New (records_in Old (drop at script)) ≡ 0 ∷ 0 ∷ get_or script at 0 ∷ get_or script (at + 1) 0 ∷ get_or script (at + 2) 0 ∷ get_or script (at + 3) 0 ∷ rest
    unfolding turned rest width entry_in
    first_is = ap (turned New) (records_more Old script at four_left) ∙ ap (λ (l : List ℕ). l ++ rest) (widened (get_or script at 0) (get_or script (at + 1) 0) (get_or script (at + 2) 0) (get_or script (at + 3) 0) (bytes at) (bytes (at + 1)))

    abbrev wide : List ℕ
    wide = 0 ∷ 0 ∷ get_or script at 0 ∷ get_or script (at + 1) 0 ∷ get_or script (at + 2) 0 ∷ get_or script (at + 3) 0 ∷ []

    module _ (k : ℕ) (part : List ℕ) (six : k ≡ 6) (bytes_are : part ≡ wide) where
      record_is : put_mid to k ys part ≡ stored ys to wide
      record_is = put_stored ys to k part wide six bytes_are six_room

      pub widen_more : Widening script xs (put_mid to k ys part) (at + 4) (to + 6)
      unfolding stored rest
      widen_more =
          let behind : to + 6 ≡ suc (suc (suc (suc (suc (suc to))))) = omega arith in
          record {
            within = four_left;
            whole = omega (arith, v.whole, four_left);
            place = omega (arith, v.place);
            room = v.room;
            same_length = ap length record_is ∙ length_stored ys to wide ∙ v.same_length;
            count = omega (arith, v.count, ap length first_is);
            left = (λ i. stored (record_is i) (behind i) rest) ∙ ap (stored ys to) (sym first_is) ∙ v.left;
          }

pub widen_ended : (script xs ys : List ℕ) (at to : ℕ) → Widening script xs ys at to → length script ≤ at
    → (to ≡ length (turned New (records_in Old script))) × (ys ≡ stored xs 0 (turned New (records_in Old script)))
unfolding stored turned width
widen_ended script xs ys at to v h =
    let none_left = records_none Old script at (omega (arith, h)) in
    let nothing : turned New (records_in Old (drop at script)) ≡ [] = ap (turned New) none_left in
    (omega (arith, v.count, ap length nothing), sym (ap (stored ys to) nothing) ∙ v.left)

module _ (script xs ys : List ℕ) (at to : ℕ) (v : Widening script xs ys at to) (h : at < length script) where
  pub read_1 : at + 1 < length script
  read_1 = omega (arith, four_left script xs ys at to v h)

  pub read_2 : at + 2 < length script
  read_2 = omega (arith, four_left script xs ys at to v h)

  pub read_3 : at + 3 < length script
  read_3 = omega (arith, four_left script xs ys at to v h)

pub ruleset widenings = (refl, widen_begun, four_left, six_room, read_1, read_2, read_3)
