-- The writer's answer, and the buffer by it.
use Rattle.std.specs.Prelude.{Result, Ok, Err}
use Prim.Native.Nat.{ℕ, ◌*◌, ◌≤◌, ◌<◌}
use native.Mathlib.Omega.{arith}
use mathlib.Core.Bool.{false}
use mathlib.Core.Path.{◌≡◌, refl, sym, ap, ◌∙◌}
use mathlib.Core.List.{List}
use lib.ListN.{length}
use borrow.Author.Tests.{leb-true}
use Rattle.base.specs.Choice.{when◌then◌else◌, ◌≤?◌, ◌=?◌, ◌outside◌to◌}
use Rattle.base.specs.Store.{stored}
use Rattle.base.specs.declared.Refusal.{Refusal}
use Rattle.base.specs.Refusal.{Called, accepted, refused, called_as}
use Rattle.base.proofs.Choices.{if_at_most, if_above, went_then, went_else, inside_low, inside_high}
use Rattle.load_writer.specs.Load.{load, script_bytes}
use Rattle.load_writer.specs.Write.{most_records, by_room, load_answer, load_buffer, buffer_by, LoadIs}

-- ---- the answer

pub answer_is : (seed count room : ℕ) (r : Called ℕ) → r ≡ (when seed =? 0 then refused 18 else when count outside 1 to most_records then refused 18 else by_room (4 * count) room) → r ≡ load_answer seed count room
unfolding load_answer
answer_is seed count room r p = p

-- by the room
pub room_enough : (count room : ℕ) → 4 * count ≤ room → accepted (4 * count) ≡ by_room (4 * count) room
room_enough count room h = if_at_most (4 * count) room (accepted (4 * count)) (accepted (4 * count)) (refused 15) h refl

pub room_short : (count room : ℕ) → room < 4 * count → refused 15 ≡ by_room (4 * count) room
room_short count room h = if_above (4 * count) room (refused 15) (accepted (4 * count)) (refused 15) h refl

-- the buffer, by the answer
buffer_to : (seed count end : ℕ) (buffer after : List ℕ) (r : Result ℕ Refusal) → r ≡ Ok end → called_as r ≡ load_answer seed count (length buffer) → after ≡ stored buffer 0 (script_bytes (load seed count)) → after ≡ load_buffer seed count buffer
unfolding load_buffer
buffer_to seed count end buffer after r e q p = p ∙ ap (λ (c : Called ℕ). buffer_by c buffer (script_bytes (load seed count))) (ap called_as (sym e) ∙ q)

buffer_refused : (seed count : ℕ) (buffer : List ℕ) (why : Refusal) (r : Result ℕ Refusal) → r ≡ Err why → called_as r ≡ load_answer seed count (length buffer) → buffer ≡ load_buffer seed count buffer
unfolding load_buffer
buffer_refused seed count buffer why r e q = ap (λ (c : Called ℕ). buffer_by c buffer (script_bytes (load seed count))) (ap called_as (sym e) ∙ q)

-- the answer that is passed on
pub written : (seed count end : ℕ) (buffer after : List ℕ) (r : Result ℕ Refusal) → r ≡ Ok end → called_as r ≡ load_answer seed count (length buffer) → after ≡ stored buffer 0 (script_bytes (load seed count))
    → LoadIs seed count buffer (Ok end) after
written seed count end buffer after r e q p = record { answer = ap called_as (sym e) ∙ q; buffer_after = buffer_to seed count end buffer after r e q p }

pub refusal_passed : (seed count : ℕ) (buffer : List ℕ) (why : Refusal) (r s : Result ℕ Refusal) → r ≡ Err why → s ≡ Err why → called_as r ≡ load_answer seed count (length buffer)
    → LoadIs seed count buffer s buffer
refusal_passed seed count buffer why r s e f q = record { answer = ap called_as (f ∙ sym e) ∙ q; buffer_after = buffer_refused seed count buffer why r e q }

-- what an answer that is no refusal tells
not_refused : (n end : ℕ) → ◌≡◌ {A = Called ℕ} (refused n) (accepted end) → ⊥
not_refused n end e = absurd (let z : ◌≡◌ {A = ℕ} 0 1 = cc in omega arith)

pub record Taken (count room : ℕ) : Type 0 where
  pub some : 1 ≤ count
  pub most : count ≤ most_records
  pub fits_room : 4 * count ≤ room

taken : (seed count room end : ℕ) → load_answer seed count room ≡ accepted end → Taken count room
unfolding load_answer
taken seed count room end e =
    let a = (went_else (seed =? 0) _ _ (accepted end) e (not_refused 18 end)).1 in
    let b = went_else (count outside 1 to most_records) _ _ (accepted end) a (not_refused 18 end) in
    let c = went_then (4 * count ≤? room) _ _ (accepted end) b.1 (not_refused 15 end) in
    record { some = inside_low count 1 most_records false (sym b.0) refl; most = inside_high count 1 most_records false (sym b.0) refl; fits_room = leb-true (4 * count) room c.0 }

module _ (seed count room end : ℕ) (r : Result ℕ Refusal) (e : r ≡ Ok end) (q : called_as r ≡ load_answer seed count room) where
  told : Taken count room
  told = taken seed count room end (sym q ∙ ap called_as e)

  pub some_records : 1 ≤ count
  some_records = told.some

  pub most_records_lem : count ≤ most_records
  most_records_lem = told.most

  pub script_fits : 4 * count ≤ room
  script_fits = told.fits_room

pub ruleset writes = (refl, some_records, most_records_lem, script_fits)
