-- What a taken write tells: the fields are within their limits, and the frame fits the buffer.
use Prim.Native.Nat.{ℕ, ◌+◌, ◌≤◌}
use native.Mathlib.Omega.{arith}
use mathlib.Core.Path.{◌≡◌, refl, sym}
use mathlib.Core.Bool.{Bool, true, false}
use borrow.Author.Tests.{ltb-false, leb-true, eqb-true}
use Rattle.base.specs.Choice.{when◌then◌else◌, ◌<?◌, ◌≤?◌, ◌=?◌, ◌outside◌to◌}
use Rattle.base.specs.Refusal.{Called, accepted, refused}
use Rattle.base.proofs.Choices.{went_then, went_else, inside_low, inside_high, inside_is, if_true, if_false, if_not_below, if_at_most}
use Rattle.frame.specs.Limits.{fewest_preambles, most_preambles, most_data}
use Rattle.frame.specs.Delimiter.{stx, ack, back, is_type}
use Rattle.frame.specs.Address.{largest_address, address_too_large}
use Rattle.frame.specs.Frame.{too_few, frame_length}
use Rattle.frame.specs.Write.{write_answer}
use Rattle.frame.specs.declared.Header.{Header}

-- the fields of a frame that can be written, with so many data bytes
pub record Fits (preamble : ℕ) (h : Header) (count : ℕ) : Type 0 where
  pub preamble_low : fewest_preambles ≤ preamble
  pub preamble_high : preamble ≤ most_preambles
  pub address_high : h.address ≤ largest_address h.long
  pub count_high : count ≤ most_data
  pub enough : too_few h.kind count ≡ false
  pub typed : is_type h.kind ≡ true

pub record Room (preamble : ℕ) (h : Header) (count room place end : ℕ) : Type 0 where
  pub fits : Fits preamble h count
  pub end_is : end ≡ place + frame_length preamble h count
  pub inside : end ≤ room

not_to : (why end : ℕ) → refused why ≡ accepted end → ⊥
not_to why end e = let z : ◌≡◌ {A = ℕ} 0 1 = cc in omega arith

pub taken : (preamble : ℕ) (h : Header) (count room place end : ℕ) → write_answer preamble h count room place ≡ accepted end → Room preamble h count room place end
unfolding write_answer
taken preamble h count room place end e =
    let a = went_else (preamble outside fewest_preambles to most_preambles) _ _ (accepted end) e (not_to 3 end) in
    let b = went_else (address_too_large h) _ _ (accepted end) a.1 (not_to 4 end) in
    let c = went_else (most_data <? count) _ _ (accepted end) b.1 (not_to 6 end) in
    let d = went_else (too_few h.kind count) _ _ (accepted end) c.1 (not_to 9 end) in
    let t = went_then (is_type h.kind) _ _ (accepted end) d.1 (not_to 12 end) in
    let r = went_then (place + frame_length preamble h count ≤? room) _ _ (accepted end) t.1 (not_to 15 end) in
    let same : place + frame_length preamble h count ≡ end = cc r.1 in
    let below = leb-true (place + frame_length preamble h count) room r.0 in
    record {
      fits = record {
        preamble_low = inside_low preamble fewest_preambles most_preambles _ refl a.0;
        preamble_high = inside_high preamble fewest_preambles most_preambles _ refl a.0;
        address_high = ltb-false (largest_address h.long) h.address b.0;
        count_high = ltb-false most_data count c.0;
        enough = d.0;
        typed = t.0;
      };
      end_is = sym same;
      inside = omega arith;
    }

-- a frame type is one of three numbers
pub data Typed (n : ℕ) : Type 0 where
  is_stx : n ≡ stx → Typed n
  is_ack : n ≡ ack → Typed n
  is_back : n ≡ back → Typed n

pub typed_as : (n : ℕ) → is_type n ≡ true → Typed n
unfolding when◌then◌else◌
typed_as n e = first (n =? stx) refl
  where
    second : (b : Bool) → (n =? ack) ≡ b → (when b then true else n =? back) ≡ true → Typed n
    second true q f = is_ack (eqb-true n ack q)
    second false q f = is_back (eqb-true n back f)

    first : (b : Bool) → (n =? stx) ≡ b → Typed n
    first true q = is_stx (eqb-true n stx q)
    first false q = second (n =? ack) refl (rw q at e)

pub type_small : (n : ℕ) → is_type n ≡ true → n ≤ 6
type_small n e = go (typed_as n e)
  where
    go : Typed n → n ≤ 6
    go (is_stx q) = omega arith
    go (is_ack q) = omega arith
    go (is_back q) = omega arith

-- and the other way round: such fields with room for the frame are taken
pub fits_taken : (preamble : ℕ) (h : Header) (count room place : ℕ) → Fits preamble h count → place + frame_length preamble h count ≤ room → accepted (place + frame_length preamble h count) ≡ write_answer preamble h count room place
unfolding write_answer
fits_taken preamble h count room place f r =
    let answer : Called ℕ = accepted (place + frame_length preamble h count) in
    if_false (preamble outside fewest_preambles to most_preambles) answer _ _ (inside_is preamble fewest_preambles most_preambles f.preamble_low f.preamble_high)
    (if_not_below (largest_address h.long) h.address answer _ _ f.address_high
    (if_not_below most_data count answer _ _ f.count_high
    (if_false (too_few h.kind count) answer _ _ f.enough
    (if_true (is_type h.kind) answer _ _ f.typed
    (if_at_most (place + frame_length preamble h count) room answer _ _ r refl)))))
