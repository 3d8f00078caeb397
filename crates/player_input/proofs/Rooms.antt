-- Room after room: the loop that keeps a room's end, and that each room's calls take places, of which there are eight in each of 2^32 ticks.
use Rattle.std.specs.Prelude.{Option, Some}
use Prim.Native.Nat.{ℕ, ◌+◌, ◌-◌, ◌≤◌, ◌<◌}
use native.Mathlib.Omega.{arith}
use mathlib.Core.List.{List, ◌++◌}
use mathlib.Core.Path.{◌≡◌, refl, sym, ap, ◌∙◌}
use lib.ListN.{length, take, drop, get_or, set, length-set, length-drop}
use lib.Seq.{length-take-le, take-append-le, take_all, drop-set-lt, get_or-drop}
use borrow.Rule.Slice.PartMut.{put_mid}
use Rattle.base.proofs.Stores.{length_stored, stored_front, Storing, storing_none, storing_more, storing_all}
use Rattle.player_script.specs.Script.{records_in}
use Rattle.player_script.specs.Pieces.{Gone, up_to, walked_by, walked_as}
use Rattle.player_script.specs.declared.Form.{Form}
use Rattle.player_script.proofs.Records.{width_some, records_more}
use Rattle.player_script.proofs.Places.{places, most_places, Placed, walk_places}
use Rattle.player_input.specs.Input.{piece_of, end_kept, EndStays}

-- ---- the front of a room

pub front_walked : (f : Form) (gone walked : Gone) (piece room : List ℕ) (count : ℕ) → piece ≡ take count room → walked ≡ walked_by gone (records_in f piece) → walked ≡ walked_by gone (records_in f (take count room))
front_walked f gone walked piece room count e p = p ∙ ap (λ (l : List ℕ). walked_by gone (records_in f l)) e

-- ---- the end is kept

pub record Keeping (room held : List ℕ) (i : ℕ) : Type 0 where
  pub long : length room ≡ 3145740
  pub same_length : length held ≡ length room
  pub storing : Storing room (drop 3145728 room) 12 held i
  pub end : drop 3145728 held ≡ drop 3145728 room

pub keep_begun : (room : List ℕ) → length room ≡ 3145740 → Keeping room room 0
keep_begun room h = record { long = h; same_length = refl; storing = storing_none room (drop 3145728 room) 12 (omega (arith, length-drop 3145728 room)) (omega arith); end = refl }

pub keep_more : (room held : List ℕ) (i : ℕ) → Keeping room held i → i < 12 → Keeping room (set held i (get_or held (3145728 + i) 0)) (i + 1)
keep_more room held i v h = record {
  long = v.long;
  same_length = length-set held i (get_or held (3145728 + i) 0) ∙ v.same_length;
  storing = storing_more room (drop 3145728 room) 12 held i (get_or held (3145728 + i) 0) v.storing h (sym (get_or-drop 3145728 held i 0) ∙ ap (λ (l : List ℕ). get_or l i 0) v.end);
  end = drop-set-lt 3145728 held i (get_or held (3145728 + i) 0) (omega arith) ∙ v.end;
}

pub keep_ended : (room held : List ℕ) (i : ℕ) → Keeping room held i → 12 ≤ i → held ≡ end_kept room
keep_ended room held i v h = storing_all room (drop 3145728 room) 12 held i v.storing h

pub ruleset keeps = (refl, keep_begun, keep_more, keep_ended)

pub end_stays : (room held part : List ℕ) (k : ℕ) → length room ≡ 3145740 → held ≡ end_kept room → EndStays room (put_mid 12 k held part)
end_stays room held part k h e =
    let count : 12 ≡ length (drop 3145728 room) = omega (arith, length-drop 3145728 room) in
    let long : 12 ≤ length held = omega (arith, ap length e, length_stored room 0 (drop 3145728 room)) in
    record {
      front = take-append-le 12 (take 12 held) (part ++ drop k (drop 12 held)) (omega (arith, length-take-le 12 held long))
          ∙ take_all 12 (take 12 held) (omega (arith, length-take-le 12 held long))
          ∙ stored_front 12 room held (drop 3145728 room) e count (omega arith);
    }

-- ---- the rooms end

-- what the loop keeps
pub record Reading (room marks : List ℕ) : Type 0 where
  pub long : length room ≡ 3145740
  pub slots : length marks ≡ 8

pub reading_begun : (room marks : List ℕ) → length room ≡ 3145740 → length marks ≡ 8 → Reading room marks
reading_begun room marks h k = record { long = h; slots = k }

-- places that are left: there are eight in each tick of 32 bits
abbrev pub places_left : ℕ → List ℕ → ℕ
places_left last marks = 34359738377 - places last marks

module _ (f : Form) (room marks after : List ℕ) (last tick : ℕ) (r : Option ℕ) (v : Reading room marks)
    (q : walked_as r after ≡ walked_by (up_to last marks) (records_in f (piece_of room))) (k : r ≡ Some tick) where
  -- a piece has a record
  some_record : 1 ≤ length (records_in f (piece_of room))
  some_record =
      let long : length (piece_of room) ≡ 3145728 = length-take-le 3145728 room (omega (arith, v.long)) in
      omega (arith, ap length (records_more f (piece_of room) 0 (omega (arith, width_some f))))

  placed : Placed last marks (length (records_in f (piece_of room))) tick after
  unfolding walked_as
  placed = walk_places last marks (records_in f (piece_of room)) tick after v.slots (sym q ∙ ap (λ (x : Option ℕ). walked_as x after) k)

  pub room_less : last < 4294967296 → places_left tick after < places_left last marks
  room_less h = omega (arith, some_record, placed.taken, most_places last marks v.slots)

  pub room_again : (later : List ℕ) → length later ≡ length room → Reading later after
  room_again later e = record { long = e ∙ v.long; slots = placed.slots }

pub ruleset rooms = (refl, reading_begun, room_less, room_again)
