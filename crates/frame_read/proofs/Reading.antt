-- Laws of the reader's parts.
use Rattle.std.specs.Prelude.{Option}
use Prim.Native.Nat.{ℕ, ◌+◌, ◌-◌, ◌≤◌, ◌<◌}
use native.Mathlib.Omega.{arith}
use mathlib.Core.Path.{◌≡◌, refl, sym, ap, ◌∙◌}
use mathlib.Core.Bool.{Bool, true, false, cond}
use mathlib.Core.List.{List, [], ◌∷◌}
use lib.ListN.{length, get_or, take, drop, length-drop}
use lib.Seq.{take_all}
use Rattle.base.specs.Choice.{when◌then◌else◌, ◌=?◌}
use Rattle.base.proofs.Choices.{choices, if_is_true, if_is_false, if_equal, if_unequal, if_above, if_at_most, if_below, if_not_below}
use Rattle.base.specs.Refusal.{Called, accepted, refused}
use Rattle.frame.specs.Address.{byte_at}
use Rattle.frame.specs.Check.{exclusive_or}
use Rattle.frame.specs.Delimiter.{delimiter_of, delimiter_with}
use Rattle.frame.specs.Read.{preambles, command_place, header_of, found_at, with_count, with_command, with_delimiter, read_body, read_frame}
use Rattle.frame.proofs.Checks.{check_right, check_from_zero}
use Rattle.frame.specs.declared.Delimiter.{Delimiter}
use Rattle.frame.specs.declared.Header.{Header}
use Rattle.frame.specs.declared.Found.{Found}
use Rattle.std.specs.Prelude.{◌==◌}
use Rattle.std.specs.List.{prefix_len, take_while}
use Rattle.std.proofs.lemmas.List.Folds.{length-prefix_len}

-- as an iterator counts them
cond_when : (t : Bool) (m n : ℕ) → m ≡ n → cond t (1 + m) 0 ≡ (when t then n + 1 else 0)
unfolding when◌then◌else◌
cond_when true m n e = omega arith
cond_when false m n e = refl

preambles_prefix : (bytes : List ℕ) → prefix_len (λ b. b == 0xFF) bytes ≡ preambles bytes
unfolding preambles
preambles_prefix [] = refl
preambles_prefix (b ∷ bytes) = cond_when (b == 0xFF) (prefix_len (λ x. x == 0xFF) bytes) (preambles bytes) (preambles_prefix bytes)

pub preambles_are : (bytes : List ℕ) (r : ℕ) → r ≡ length (take_while (λ b. b == 0xFF) bytes) → r ≡ preambles bytes
preambles_are bytes r e = e ∙ length-prefix_len (λ b. b == 0xFF) bytes ∙ preambles_prefix bytes

-- the record, by the header that a call answered
pub found_is : (preamble : ℕ) (body : List ℕ) (frame : ℕ) (long : Bool) (expansion place count : ℕ) (h : Header) → h ≡ header_of frame long place body
    → accepted (record { preamble = preamble; header = h; expansion = expansion; start = preamble + (place + 2); count = count; end = preamble + (place + 3 + count) }) ≡ accepted (found_at preamble body frame long expansion place count)
found_is preamble body frame long expansion place count h e = ap (λ (x : Header). accepted (record { preamble = preamble; header = x; expansion = expansion; start = preamble + (place + 2); count = count; end = preamble + (place + 3 + count) })) e

-- the code compares the exclusive-or of what stands before the check byte with the check byte; the definition takes the whole, and tests for zero
module _ (body : List ℕ) (place count sum : ℕ) (inside : place + 2 + count < length body) (e : sum ≡ exclusive_or (take (place + 2 + count) body)) (r a b : Called Found) where
  one_more : place + 2 + count + 1 ≡ place + 3 + count
  one_more = omega arith

  pub check_taken : sum ≡ get_or body (place + 2 + count) 0 → r ≡ a → r ≡ (when exclusive_or (take (place + 3 + count) body) =? 0 then a else b)
  check_taken q p = if_equal _ 0 r a b (ap (λ (n : ℕ). exclusive_or (take n body)) (sym one_more) ∙ check_right body (place + 2 + count) inside (sym e ∙ q)) p

  pub check_left : (sum ≡ get_or body (place + 2 + count) 0 → ⊥) → r ≡ b → r ≡ (when exclusive_or (take (place + 3 + count) body) =? 0 then a else b)
  check_left f p = if_unequal _ 0 r a b (λ z. f (e ∙ check_from_zero body (place + 2 + count) inside (ap (λ (n : ℕ). exclusive_or (take n body)) one_more ∙ z))) p

-- behind the count, the delimiter and the preamble
pub count_is : (preamble : ℕ) (body : List ℕ) (frame : ℕ) (long : Bool) (expansion place count : ℕ) (r : Called Found) → count ≡ byte_at body (place + 1) → place + 1 < length body
    → r ≡ with_count preamble body frame long expansion place count → r ≡ with_command preamble body frame long expansion place
count_is preamble body frame long expansion place count r e h p =
    if_above (length body) (place + 1) r _ _ h (p ∙ ap (λ (n : ℕ). with_count preamble body frame long expansion place n) e)

pub place_is : (preamble : ℕ) (body : List ℕ) (frame : ℕ) (long : Bool) (expansion place : ℕ) (r : Called Found) → place ≡ command_place long expansion
    → r ≡ with_command preamble body frame long expansion place → r ≡ with_delimiter preamble body (delimiter_with frame long expansion)
place_is preamble body frame long expansion place r e p = p ∙ ap (λ (n : ℕ). with_command preamble body frame long expansion n) e

pub delimiter_is : (preamble : ℕ) (body : List ℕ) (d g : Option Delimiter) (r : Called Found) → (length body ≡ 0 → ⊥) → d ≡ g → d ≡ delimiter_of (byte_at body 0) → r ≡ with_delimiter preamble body g → r ≡ read_body preamble body
unfolding read_body
delimiter_is preamble body d g r h e q p = if_unequal (length body) 0 r _ _ h (p ∙ ap (λ (x : Option Delimiter). with_delimiter preamble body x) (sym e ∙ q))

pub no_body : (preamble : ℕ) (body : List ℕ) (r : Called Found) → length body ≡ 0 → r ≡ refused 13 → r ≡ read_body preamble body
unfolding read_body
no_body preamble body r h p = if_equal (length body) 0 r _ _ h p

pub frame_is : (bytes body : List ℕ) (preamble : ℕ) (r : Called Found) → preamble ≡ preambles bytes → 2 ≤ preamble → body ≡ drop preamble bytes → r ≡ read_body preamble body → r ≡ read_frame bytes
unfolding read_frame
frame_is bytes body preamble r e h q p =
    if_not_below (preambles bytes) 2 r _ _ (omega arith) (p ∙ ap (λ (l : List ℕ). read_body preamble l) q ∙ ap (λ (n : ℕ). read_body n (drop n bytes)) e)

pub few_preambles : (bytes : List ℕ) (preamble : ℕ) (r : Called Found) → preamble ≡ preambles bytes → preamble < 2 → r ≡ refused 11 → r ≡ read_frame bytes
unfolding read_frame
few_preambles bytes preamble r e h p = if_below (preambles bytes) 2 r _ _ (omega arith) p

-- the rest of a list, as the part that is lent
pub rest_is : (bytes : List ℕ) (n : ℕ) → take (length bytes - n) (drop n bytes) ≡ drop n bytes
rest_is bytes n = take_all (length bytes - n) (drop n bytes) (omega (arith, length-drop n bytes))

pub ruleset bodies = (choices, check_taken, check_left, found_is)

pub ruleset frames = (refl, preambles_are, count_is, place_is, delimiter_is, no_body, frame_is, few_preambles, rest_is)
