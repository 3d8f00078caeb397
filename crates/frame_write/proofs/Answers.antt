-- Laws of the writer's answer: by the room in the buffer, and what an answer that is no refusal tells.
use Rattle.std.specs.Prelude.{Result, Ok, Err}
use Prim.Native.Nat.{ℕ, ◌+◌, ◌-◌, ◌≤◌}
use native.Mathlib.Omega.{arith}
use mathlib.Core.Path.{◌≡◌, refl, sym, ap, ◌∙◌}
use mathlib.Core.List.{List}
use lib.ListN.{length, take, drop, length-take, length-drop}
use Rattle.base.specs.Store.{stored}
use Rattle.base.specs.declared.Refusal.{Refusal}
use Rattle.base.specs.Refusal.{number, Called, accepted, refused, called_as}
use Rattle.base.proofs.Stores.{stored_part, room_behind}
use Rattle.frame.specs.Limits.{most_data}
use Rattle.frame.specs.Address.{largest_address}
use Rattle.frame.specs.Frame.{frame_length, frame_bytes}
use Rattle.frame.specs.Write.{by_room, write_answer, write_buffer, buffer_by}
use Rattle.frame.proofs.Taken.{Room, taken, type_small}
use Rattle.frame.specs.declared.Header.{Header}

-- the room, by the length that a call answered
pub room_of : (place k length room : ℕ) (r : Called ℕ) → k ≡ length → r ≡ by_room (place + k) room → r ≡ by_room (place + length) room
room_of place k length room r e p = p ∙ ap (λ (n : ℕ). by_room (place + n) room) e

-- the buffer, by the answer
pub buffer_to : (preamble : ℕ) (h : Header) (bytes buffer after : List ℕ) (place end : ℕ) (r : Result ℕ Refusal)
    → r ≡ Ok end → called_as r ≡ write_answer preamble h (length bytes) (length buffer) place → after ≡ stored buffer place (frame_bytes preamble h bytes)
    → after ≡ write_buffer preamble h bytes buffer place
unfolding write_buffer
buffer_to preamble h bytes buffer after place end r e q p = p ∙ ap (λ (w : Called ℕ). buffer_by w buffer place (frame_bytes preamble h bytes)) (ap called_as (sym e) ∙ q)

pub buffer_refused : (preamble : ℕ) (h : Header) (bytes buffer : List ℕ) (place : ℕ) (why : Refusal) (r : Result ℕ Refusal)
    → r ≡ Err why → called_as r ≡ write_answer preamble h (length bytes) (length buffer) place
    → buffer ≡ write_buffer preamble h bytes buffer place
unfolding write_buffer
buffer_refused preamble h bytes buffer place why r e q = ap (λ (w : Called ℕ). buffer_by w buffer place (frame_bytes preamble h bytes)) (ap called_as (sym e) ∙ q)

-- the answer that is passed on
pub answer_to : (end : ℕ) (r : Result ℕ Refusal) (c : Called ℕ) → r ≡ Ok end → called_as r ≡ c → accepted end ≡ c
answer_to end r c e q = ap called_as (sym e) ∙ q

pub answer_refused : (n : ℕ) (why : Refusal) (r : Result ℕ Refusal) (c : Called ℕ) → r ≡ Err why → n ≡ number why → called_as r ≡ c → refused n ≡ c
answer_refused n why r c e p q = ap refused p ∙ ap called_as (sym e) ∙ q

-- what an answer that is no refusal tells
module _ (preamble : ℕ) (h : Header) (count room place end : ℕ) (r : Result ℕ Refusal) (e : r ≡ Ok end) (q : called_as r ≡ write_answer preamble h count room place) where
  told : Room preamble h count room place end
  told = taken preamble h count room place end (sym q ∙ ap called_as e)

  pub place_inside : place ≤ room
  place_inside = omega (arith, told.end_is, told.inside)

  pub type_fits : h.kind ≤ 6
  type_fits = type_small h.kind told.fits.typed

  pub address_fits : h.address ≤ largest_address h.long
  address_fits = told.fits.address_high

  pub count_fits : count ≤ most_data
  count_fits = told.fits.count_high

  pub frame_fits : frame_length preamble h count ≤ room - place
  frame_fits = omega (arith, told.end_is, told.inside)

pub part_fits : (preamble : ℕ) (h : Header) (count place end : ℕ) (buffer : List ℕ) (r : Result ℕ Refusal) → r ≡ Ok end → called_as r ≡ write_answer preamble h count (length buffer) place
    → frame_length preamble h count ≤ length (take (length buffer - place) (drop place buffer))
part_fits preamble h count place end buffer r e q =
    omega (arith, frame_fits preamble h count (length buffer) place end r e q, length-take (length buffer - place) (drop place buffer), length-drop place buffer)

pub ruleset writes = (refl, place_inside, type_fits, address_fits, count_fits, part_fits, stored_part, room_behind, buffer_to, buffer_refused, answer_to, answer_refused)
