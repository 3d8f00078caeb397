-- Theorems: an answer of the reader that asks for no more bytes stays the same whatever follows, and behind the preamble 267 bytes are enough.
use Rattle.std.specs.Prelude.{Option, Some, None}
use Prim.Native.Nat.{ℕ, suc, ◌+◌, ◌≤◌, ◌<◌, ◌/◌, ◌%◌}
use native.Mathlib.Omega.{arith}
use native.Mathlib.Numerals.{add-one}
use mathlib.Core.Path.{◌≡◌, refl, sym, ap, ◌∙◌}
use mathlib.Core.Bool.{Bool, true, false}
use mathlib.Core.List.{List, [], ◌∷◌, ◌++◌, append_assoc}
use lib.ListN.{length, replicate, take, drop, length-append, take-append-drop, get_or-append}
use lib.Seq.{length-take-le, take_at, drop_at, get_or-drop}
use borrow.Author.Tests.{leb-false, ltb-true, ltb-false, eq-eqb, eqb-false}
use Rattle.base.specs.Choice.{when◌then◌else◌, ◌<?◌, ◌≤?◌, ◌=?◌}
use Rattle.base.specs.Refusal.{Called, accepted, refused}
use Rattle.base.proofs.Choices.{true_false, if_true, if_false, if_above, if_below, if_not_below, if_unequal, if_is_true, if_is_false, went_then, went_else}
use Rattle.frame.specs.Delimiter.{is_type, delimiter_of, delimiter_with}
use Rattle.frame.specs.Address.{address_length, byte_at}
use Rattle.frame.specs.Check.{xor_from, exclusive_or}
use Rattle.frame.specs.Frame.{preamble_bytes, too_few}
use Rattle.frame.specs.Read.{preambles, command_place, found_at, with_count, with_command, with_delimiter, read_body, read_frame}
use Rattle.frame.specs.Growing.{wants_more, most_behind_preamble, OthersFinal, EnoughBytes}
use Rattle.frame.proofs.Lengths.{preamble_count}
use Rattle.frame.proofs.Preambles.{preambles_split}
use Rattle.frame.proofs.Prefix.{reads_prefix}
use Rattle.frame.specs.declared.Delimiter.{Delimiter}
use Rattle.frame.specs.declared.Found.{Found}

refused_same : (n m : ℕ) → ◌≡◌ {A = Called Found} (refused n) (refused m) → n ≡ m
refused_same n m e = cc

-- some bytes with others behind them
module _ (t rest : List ℕ) where
  byte_kept : (i : ℕ) → i < length t → byte_at (t ++ rest) i ≡ byte_at t i
  byte_kept i h = get_or-append t rest 0 i h

  longer : length t ≤ length (t ++ rest)
  longer = omega (arith, length-append t rest)

  take_kept : (m : ℕ) → m ≤ length t → take m (t ++ rest) ≡ take m t
  take_kept m h =
      ap (λ (l : List ℕ). take m (l ++ rest)) (sym (take-append-drop m t))
      ∙ ap (take m) (append_assoc (take m t) (drop m t) rest)
      ∙ take_at (take m t) (drop m t ++ rest) m (length-take-le m t h)

-- a refusal of the body but 13 stays
module _ (preamble : ℕ) (t rest : List ℕ) (why : ℕ) (settled : why ≡ 13 → ⊥) where
  early : ◌≡◌ {A = Called Found} (refused 13) (refused why) → ⊥
  early e = settled (sym (refused_same 13 why e))

  not_accepted : (f : Found) → accepted f ≡ refused why → ⊥
  not_accepted f e = let z : ◌≡◌ {A = ℕ} 0 1 = cc in omega arith

  count_kept : (frame : ℕ) (long : Bool) (expansion place count : ℕ) → with_count preamble t frame long expansion place count ≡ refused why
      → refused why ≡ with_count preamble (t ++ rest) frame long expansion place count
  count_kept frame long expansion place count e =
      let a = went_else (length t ≤? place + 2 + count) _ _ (refused why) e early in
      let inside : place + 2 + count < length t = leb-false (length t) (place + 2 + count) a.0 in
      if_above (length (t ++ rest)) (place + 2 + count) (refused why) _ _ (omega (arith, longer t rest)) (go (too_few frame count) refl inside a.1)
    where
      m : ℕ
      m = place + 3 + count

      ended : List ℕ → Called Found
      ended l = when exclusive_or (take m l) =? 0 then accepted (found_at preamble l frame long expansion place count) else refused 14

      go : (few : Bool) → too_few frame count ≡ few → place + 2 + count < length t
          → (when too_few frame count then refused 14 else ended t) ≡ refused why → refused why ≡ (when too_few frame count then refused 14 else ended (t ++ rest))
      go true few inside q = if_true (too_few frame count) (refused why) _ _ few (sym q ∙ if_is_true (too_few frame count) _ _ few)
      go false few inside q =
          let r = went_else (exclusive_or (take m t) =? 0) _ _ (refused why) (sym (if_is_false (too_few frame count) _ _ few) ∙ q) (not_accepted (found_at preamble t frame long expansion place count)) in
          let same : take m (t ++ rest) ≡ take m t = take_kept t rest m (omega arith) in
          if_false (too_few frame count) (refused why) _ _ few
          (if_false (exclusive_or (take m (t ++ rest)) =? 0) (refused why) _ _ (ap (λ (l : List ℕ). exclusive_or l =? 0) same ∙ r.0) (sym r.1))

  command_kept : (frame : ℕ) (long : Bool) (expansion place : ℕ) → with_command preamble t frame long expansion place ≡ refused why
      → refused why ≡ with_command preamble (t ++ rest) frame long expansion place
  command_kept frame long expansion place e =
      let a = went_else (length t ≤? place + 1) _ _ (refused why) e early in
      let inside : place + 1 < length t = leb-false (length t) (place + 1) a.0 in
      if_above (length (t ++ rest)) (place + 1) (refused why) _ _ (omega (arith, longer t rest))
      (count_kept frame long expansion place (byte_at t (place + 1)) a.1
      ∙ ap (λ (n : ℕ). with_count preamble (t ++ rest) frame long expansion place n) (sym (byte_kept t rest (place + 1) inside)))

  delimiter_kept : (d : Option Delimiter) → with_delimiter preamble t d ≡ refused why → refused why ≡ with_delimiter preamble (t ++ rest) d
  delimiter_kept None e = sym e
  delimiter_kept (Some d) e = command_kept d.kind d.long d.expansion (command_place d.long d.expansion) e

  body_some : read_body preamble t ≡ refused why → length t ≡ 0 → ⊥
  unfolding read_body
  body_some e = eqb-false (length t) 0 (went_else (length t =? 0) _ _ (refused why) e early).0

  body_kept : read_body preamble t ≡ refused why → read_body preamble (t ++ rest) ≡ refused why
  unfolding read_body
  body_kept e =
      let a = went_else (length t =? 0) _ _ (refused why) e early in
      let some : length t ≡ 0 → ⊥ = body_some e in
      sym (if_unequal (length (t ++ rest)) 0 (refused why) _ _ (λ z. some (omega (arith, longer t rest)))
      (delimiter_kept (delimiter_of (byte_at t 0)) a.1
      ∙ ap (λ (b : ℕ). with_delimiter preamble (t ++ rest) (delimiter_of b)) (sym (byte_kept t rest 0 (omega arith)))))

-- preambles that another byte ends are as many whatever follows
preambles_kept : (bytes rest : List ℕ) → (preambles bytes ≡ length bytes → ⊥) → preambles (bytes ++ rest) ≡ preambles bytes
unfolding preambles when◌then◌else◌
preambles_kept [] rest f = absurd (f refl)
preambles_kept (b ∷ bytes) rest f = go (b =? 0xFF) refl (preambles_kept bytes rest)
  where
    go : (t : Bool) → (b =? 0xFF) ≡ t → ((preambles bytes ≡ length bytes → ⊥) → preambles (bytes ++ rest) ≡ preambles bytes)
        → (when b =? 0xFF then preambles (bytes ++ rest) + 1 else 0) ≡ (when b =? 0xFF then preambles bytes + 1 else 0)
    go true e kept =
        ap (λ (n : ℕ). when b =? 0xFF then n + 1 else 0)
        (kept (λ z. f (if_is_true (b =? 0xFF) (preambles bytes + 1) 0 e ∙ add-one (preambles bytes) ∙ ap suc z)))
    go false e kept = if_is_false (b =? 0xFF) _ _ e ∙ sym (if_is_false (b =? 0xFF) _ _ e)

-- behind its preambles, where a byte stands there, what follows is only longer
module _ (bytes rest : List ℕ) where
  abbrev p : ℕ
  p = preambles bytes

  abbrev t : List ℕ
  t = drop p bytes

  all_counted : length bytes ≡ p + length t
  all_counted = ap (λ (l : List ℕ). length l) (preambles_split bytes) ∙ length-append (preamble_bytes p) t ∙ ap (λ (n : ℕ). n + length t) (sym (preamble_count p))

  body_longer : drop p (bytes ++ rest) ≡ t ++ rest
  body_longer =
      ap (λ (l : List ℕ). drop p (l ++ rest)) (preambles_split bytes)
      ∙ ap (drop p) (append_assoc (preamble_bytes p) t rest)
      ∙ drop_at (preamble_bytes p) (t ++ rest) p (sym (preamble_count p))

  refused_kept : (why : ℕ) → (why ≡ 13 → ⊥) → (when why =? 11 then p =? length bytes else false) ≡ false → read_frame bytes ≡ refused why → read_frame (bytes ++ rest) ≡ refused why
  unfolding read_frame
  refused_kept why settled other q = go (p <? 2) refl
    where
      go : (few : Bool) → (p <? 2) ≡ few → read_frame (bytes ++ rest) ≡ refused why
      go true few =
          let eleven : why ≡ 11 = sym (refused_same 11 why (sym (if_is_true (p <? 2) _ _ few) ∙ q)) in
          let open_end : p ≡ length bytes → ⊥ = eqb-false p (length bytes) (sym (if_is_true (why =? 11) _ _ (eq-eqb why 11 eleven)) ∙ other) in
          let kept : preambles (bytes ++ rest) ≡ p = preambles_kept bytes rest open_end in
          sym (if_below (preambles (bytes ++ rest)) 2 (refused why) _ _ (omega (arith, ltb-true p 2 few, kept)) (ap refused eleven))
      go false few =
          let body : read_body p t ≡ refused why = sym (if_is_false (p <? 2) _ _ few) ∙ q in
          let more : read_body p (t ++ rest) ≡ refused why = body_kept p t rest why settled body in
          let kept : preambles (bytes ++ rest) ≡ p = preambles_kept bytes rest (λ z. body_some p t rest why settled body (omega (arith, all_counted))) in
          sym (if_not_below (preambles (bytes ++ rest)) 2 (refused why) _ _ (omega (arith, ltb-false p 2 few, kept))
          (sym more ∙ ap (read_body p) (sym body_longer) ∙ ap (λ (n : ℕ). read_body n (drop n (bytes ++ rest))) (sym kept)))

-- the theorem
pub others_final : OthersFinal
others_final bytes rest e = go (read_frame bytes) refl e
  where
    go : (r : Called Found) → read_frame bytes ≡ r → wants_more bytes r ≡ false → read_frame (bytes ++ rest) ≡ read_frame bytes
    go (accepted f) q w =
        ap read_frame (ap (λ (l : List ℕ). l ++ rest) (sym (take-append-drop f.end bytes)) ∙ append_assoc (take f.end bytes) (drop f.end bytes) rest)
        ∙ reads_prefix bytes f q (drop f.end bytes ++ rest)
        ∙ sym q
    go (refused why) q w =
        let a = went_else (why =? 13) _ _ false w true_false in
        refused_kept bytes rest why (eqb-false why 13 a.0) a.1 q ∙ sym q

-- how many expansion bytes a delimiter says; 0 where there is none
abbrev said : Option Delimiter → ℕ
said None = 0
said (Some d) = d.expansion

-- a delimiter's expansion bytes are at most three
few_expansion : (b frame : ℕ) (long : Bool) (expansion : ℕ) → delimiter_of b ≡ delimiter_with frame long expansion → expansion < 4
unfolding delimiter_of
few_expansion b frame long expansion e =
    let a = went_then (b / 8 % 4 =? 0) _ _ (delimiter_with frame long expansion) e not_is in
    let c = went_then (is_type (b % 8)) _ _ (delimiter_with frame long expansion) a.1 not_is in
    let same : b / 32 % 4 ≡ expansion = ap said c.1 in
    omega arith
  where
    not_is : None ≡ delimiter_with frame long expansion → ⊥
    not_is q = let z : ◌≡◌ {A = ℕ} 0 1 = cc in omega arith

address_short : (long : Bool) → address_length long < 6
unfolding when◌then◌else◌
address_short true = omega arith
address_short false = omega arith

-- an answer behind enough bytes
module _ (bytes : List ℕ) (preamble : ℕ) (t : List ℕ) (enough : most_behind_preamble ≤ length t) where
  counted_enough : (frame : ℕ) (long : Bool) (expansion place count : ℕ) → place < 10 → count < 256 → wants_more bytes (with_count preamble t frame long expansion place count) ≡ false
  unfolding when◌then◌else◌
  counted_enough frame long expansion place count h k =
      ap (wants_more bytes) (sym (if_above (length t) (place + 2 + count) _ _ _ (omega arith) refl)) ∙ go (too_few frame count) (exclusive_or (take (place + 3 + count) t) =? 0)
    where
      go : (few none : Bool) → wants_more bytes (when few then refused 14 else when none then accepted (found_at preamble t frame long expansion place count) else refused 14) ≡ false
      go true none = refl
      go false true = refl
      go false false = refl

  delimited_enough : ((i : ℕ) → byte_at t i < 256) → (d : Option Delimiter) → delimiter_of (byte_at t 0) ≡ d → wants_more bytes (with_delimiter preamble t d) ≡ false
  unfolding when◌then◌else◌
  delimited_enough small None e = refl
  delimited_enough small (Some d) e =
      let place : ℕ = command_place d.long d.expansion in
      let short : place < 10 = omega (arith, few_expansion (byte_at t 0) d.kind d.long d.expansion e, address_short d.long) in
      ap (wants_more bytes) (sym (if_above (length t) (place + 1) _ _ _ (omega arith) refl)) ∙ counted_enough d.kind d.long d.expansion place (byte_at t (place + 1)) short (small (place + 1))

pub enough_bytes : EnoughBytes
unfolding read_frame read_body
enough_bytes bytes small two enough =
    let p = preambles bytes in
    let t = drop p bytes in
    let long : most_behind_preamble ≤ length t = omega (arith, all_counted bytes []) in
    let below : (i : ℕ) → byte_at t i < 256 = λ i. omega (arith, get_or-drop p bytes i 0, small (p + i)) in
    ap (wants_more bytes) (sym (if_not_below p 2 _ _ _ two (if_unequal (length t) 0 _ _ _ (omega arith) refl)))
    ∙ delimited_enough bytes p t long below (delimiter_of (byte_at t 0)) refl

-- Neither claim holds of more. Two preambles are refused with 13, and with a request's other five bytes behind them they are a frame.
end_of : Called Found → ℕ
end_of (accepted f) = f.end
end_of (refused why) = 0

more_is_read : (read_frame (0xFF ∷ 0xFF ∷ []) ≡ refused 13) × (end_of (read_frame (0xFF ∷ 0xFF ∷ 0x02 ∷ 0x80 ∷ 0 ∷ 0 ∷ 0x82 ∷ [])) ≡ 7)
unfolding end_of read_frame read_body preambles delimiter_of xor_from when◌then◌else◌
more_is_read = (refl, refl)

-- The longest frame behind its preamble has 267 bytes; without the last it is refused with 13.
one_byte_fewer : read_frame (0xFF ∷ 0xFF ∷ 0xE2 ∷ replicate 9 0 ++ 255 ∷ replicate 255 0) ≡ refused 13
unfolding read_frame read_body preambles delimiter_of when◌then◌else◌
one_byte_fewer = refl
