-- The loop that narrows: what is left to be put gives what the whole gives.
use Prim.Native.Nat.{ℕ, suc, ◌+◌, ◌-◌, ◌*◌, ◌/◌, ◌%◌, ◌≤◌, ◌<◌}
use native.Mathlib.Omega.{arith}
use mathlib.Core.List.{List, [], ◌∷◌, ◌++◌}
use mathlib.Core.Path.{◌≡◌, refl, sym, ap, subst, ◌∙◌}
use lib.ListN.{length, get_or, take, drop}
use borrow.Rule.Slice.PartMut.{put_mid}
use Rattle.base.specs.Store.{stored}
use Rattle.base.proofs.Stores.{length_stored}
use Rattle.player_convert.proofs.Copies.{put_stored}
use Rattle.player_script.specs.Script.{width, long_entry_of, records_in}
use Rattle.player_script.specs.Walk.{long_entry_at, entry_in}
use Rattle.player_script.proofs.Records.{four_more, records_more, records_none}
use Rattle.player_script.specs.declared.Entry.{Entry}
use Rattle.player_script.specs.declared.Form.TheVariants.{Old, New}
use Rattle.player_convert.specs.Turn.{entry_bytes, turned, Sayable, more}

pub record Narrowing (script xs ys : List ℕ) (at to : ℕ) : Type 0 where
  pub within : at ≤ length script
  pub whole : (length script - at) % 6 ≡ 0
  pub place : 3 * to ≡ 2 * at
  pub room : 2 * length script ≤ 3 * length xs
  pub same_length : length ys ≡ length xs
  pub fits : Sayable Old (records_in New (drop at script))
  pub count : to + length (turned Old (records_in New (drop at script))) ≡ length (turned Old (records_in New script))
  pub left : stored ys to (turned Old (records_in New (drop at script))) ≡ stored xs 0 (turned Old (records_in New script))

pub narrow_begun : (script xs : List ℕ) → (length script % 6 ≡ 0) × ((2 * length script ≤ 3 * length xs) × Sayable Old (records_in New script)) → Narrowing script xs xs 0 0
narrow_begun script xs h = record { within = omega arith; whole = omega (arith, h.0); place = refl; room = h.1.0; same_length = refl; fits = h.1.1; count = omega arith; left = refl }

first_tick : (e : Entry) (es : List Entry) → Sayable Old (e ∷ es) → e.tick ≤ 65535
first_tick e es (more h a s) = h

fits_rest : (e : Entry) (es : List Entry) → Sayable Old (e ∷ es) → Sayable Old es
fits_rest e es (more h a s) = s

-- the tick's two high bytes are 0
narrowed : (a b c d e f : ℕ) → (a * 256 + b) * 65536 + (c * 256 + d) ≤ 65535 → c < 256 → d < 256 → entry_bytes Old (long_entry_of a b c d e f) ≡ c ∷ d ∷ e ∷ f ∷ []
narrowed a b c d e f h k l =
    let n : ℕ = (a * 256 + b) * 65536 + (c * 256 + d) in
    let low : (a * 256 + b) * 65536 + (c * 256 + d) ≡ c * 256 + d = omega arith in
    let p : (c * 256 + d) / 256 ≡ c = omega arith in
    let q : (c * 256 + d) % 256 ≡ d = omega arith in
    let r : e / 16 * 16 + e % 16 ≡ e = omega arith in
    (λ i. low i / 256 ∷ low i % 256 ∷ r i ∷ f ∷ []) ∙ (λ i. p i ∷ q i ∷ e ∷ f ∷ [])

module _ (script xs ys : List ℕ) (at to : ℕ) (v : Narrowing script xs ys at to) (h : at < length script) where
  pub six_left : at + 6 ≤ length script
  six_left = omega (arith, v.within, v.whole, h)

  pub four_room : to + 4 ≤ length ys
  four_room = omega (arith, six_left, v.place, v.room, v.same_length)

  module _ (bytes : (i : ℕ) → get_or script i 0 < 256) where
    rest : List ℕ
    rest = turned Old (records_in New (drop (at + 6) script))

    first_record : records_in New (drop at script) ≡ long_entry_at script at ∷ records_in New (drop (at + 6) script)
    unfolding width entry_in
    first_record = records_more New script at six_left

    fits_first : Sayable Old (long_entry_at script at ∷ records_in New (drop (at + 6) script))
    fits_first = subst (Sayable Old) first_record v.fits

    first_is : turned Old (records_in New (drop at script)) ≡ get_or script (at + 2) 0 ∷ get_or script (at + 3) 0 ∷ get_or script (at + 4) 0 ∷ get_or script (at + 5) 0 ∷ rest
    unfolding turned rest
    first_is =
        ap (turned Old) first_record
        ∙ ap (λ (l : List ℕ). l ++ rest) (narrowed (get_or script at 0) (get_or script (at + 1) 0) (get_or script (at + 2) 0) (get_or script (at + 3) 0) (get_or script (at + 4) 0) (get_or script (at + 5) 0) (first_tick _ _ fits_first) (bytes (at + 2)) (bytes (at + 3)))

    abbrev narrow_bytes : List ℕ
    narrow_bytes = get_or script (at + 2) 0 ∷ get_or script (at + 3) 0 ∷ get_or script (at + 4) 0 ∷ get_or script (at + 5) 0 ∷ []

    module _ (k : ℕ) (part : List ℕ) (four : k ≡ 4) (bytes_are : part ≡ take 4 (drop (at + 2) script)) where
      record_is : put_mid to k ys part ≡ stored ys to narrow_bytes
      record_is =
          let three : at + 2 + 1 ≡ at + 3 = omega arith in
          let next : at + 2 + 2 ≡ at + 4 = omega arith in
          let last : at + 2 + 3 ≡ at + 5 = omega arith in
          put_stored ys to k part narrow_bytes four
          (bytes_are ∙ ap (take 4) (four_more script (at + 2) (omega (arith, six_left)))
          ∙ (λ i. get_or script (at + 2) 0 ∷ get_or script (three i) 0 ∷ get_or script (next i) 0 ∷ get_or script (last i) 0 ∷ []))
          four_room

      pub narrow_more : Narrowing script xs (put_mid to k ys part) (at + 6) (to + 4)
      unfolding stored rest
      narrow_more =
          let behind : to + 4 ≡ suc (suc (suc (suc to))) = omega arith in
          record {
            within = six_left;
            whole = omega (arith, v.whole, six_left);
            place = omega (arith, v.place);
            room = v.room;
            same_length = ap length record_is ∙ length_stored ys to narrow_bytes ∙ v.same_length;
            fits = fits_rest _ _ fits_first;
            count = omega (arith, v.count, ap length first_is);
            left = (λ i. stored (record_is i) (behind i) rest) ∙ ap (stored ys to) (sym first_is) ∙ v.left;
          }

pub narrow_ended : (script xs ys : List ℕ) (at to : ℕ) → Narrowing script xs ys at to → length script ≤ at
    → (to ≡ length (turned Old (records_in New script))) × (ys ≡ stored xs 0 (turned Old (records_in New script)))
unfolding stored turned width
narrow_ended script xs ys at to v h =
    let none_left = records_none New script at (omega (arith, h)) in
    let nothing : turned Old (records_in New (drop at script)) ≡ [] = ap (turned Old) none_left in
    (omega (arith, v.count, ap length nothing), sym (ap (stored ys to) nothing) ∙ v.left)

pub ruleset narrowings = (refl, narrow_begun, six_left, four_room)
