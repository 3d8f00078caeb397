-- Theorem: a frame that is read without expansion bytes is, from delimiter to check byte, what the writer gives for its fields, and the writer takes them.
use Rattle.std.specs.Prelude.{Option, Some, None}
use Prim.Native.Nat.{ℕ, zero, suc, ◌+◌, ◌-◌, ◌*◌, ◌/◌, ◌%◌, ◌^◌, ◌≤◌, ◌<◌}
use native.Mathlib.Omega.{arith}
use mathlib.Core.Path.{◌≡◌, refl, sym, ap, ap₂, subst, ◌∙◌}
use mathlib.Core.Bool.{Bool, true, false}
use mathlib.Core.List.{List, [], ◌∷◌, ◌++◌}
use lib.ListN.{length, take, drop, length-drop}
use lib.Seq.{drop-cons, take-add, drop-drop, get_or-drop, length-take-le}
use borrow.Author.Tests.{eqb-true}
use Rattle.base.specs.Choice.{when◌then◌else◌, ◌=?◌}
use Rattle.base.proofs.Choices.{if_is_true, if_is_false, if_at_most}
use Rattle.base.proofs.Stores.{take_more}
use Rattle.base.proofs.Tables.{holds_below, holds_at, chain_first, chain_second}
use Rattle.base.specs.Refusal.{accepted}
use Rattle.frame.specs.Limits.{fewest_preambles, most_preambles}
use Rattle.frame.specs.Delimiter.{is_type, delimiter_of, delimiter_byte, delimiter_with}
use Rattle.frame.specs.Address.{largest_address, address_bytes, long_address, short_address, first_byte, byte_at, address_of, unique_address, polling_address}
use Rattle.frame.specs.Check.{exclusive_or}
use Rattle.frame.specs.Frame.{too_few, header_bytes, protected_bytes, body_bytes, frame_length}
use Rattle.frame.specs.Read.{preambles, command_place, header_of, found_at, read_frame, part_of}
use Rattle.frame.specs.Write.{write_answer}
use Rattle.frame.proofs.Checks.{check_from_zero}
use Rattle.frame.proofs.Sound.{frame_sound}
use Rattle.frame.proofs.Taken.{Fits, fits_taken}
use Rattle.frame.specs.declared.Delimiter.{Delimiter}
use Rattle.frame.specs.declared.Header.{Header}
use Rattle.frame.specs.declared.Found.{Found}

-- every number of the list is a byte
pub Bytes : List ℕ → Type 0
Bytes bytes = (i : ℕ) → byte_at bytes i < 256

-- a delimiter with no expansion bytes is the one that is written; its type is a frame type
right : ℕ → Option Delimiter → Bool
right b None = true
right b (Some d) = when is_type d.kind then (when d.expansion =? 0 then b =? delimiter_byte d.kind d.long else true) else false

all_right : holds_below 256 (λ (b : ℕ). right b (delimiter_of b)) ≡ true
unfolding holds_below right delimiter_of when◌then◌else◌
all_right = refl

right_at : (b frame : ℕ) (long : Bool) (expansion : ℕ) → b < 256 → delimiter_of b ≡ delimiter_with frame long expansion → right b (delimiter_with frame long expansion) ≡ true
right_at b frame long expansion h e = ap (right b) (sym e) ∙ holds_at 256 (λ (n : ℕ). right n (delimiter_of n)) all_right b h

pub delimiter_typed : (b frame : ℕ) (long : Bool) (expansion : ℕ) → b < 256 → delimiter_of b ≡ delimiter_with frame long expansion → is_type frame ≡ true
unfolding right
delimiter_typed b frame long expansion h e = chain_first (is_type frame) _ (right_at b frame long expansion h e)

delimiter_again : (b frame : ℕ) (long : Bool) → b < 256 → delimiter_of b ≡ delimiter_with frame long 0 → b ≡ delimiter_byte frame long
unfolding right when◌then◌else◌
delimiter_again b frame long h e = eqb-true b (delimiter_byte frame long) (chain_second (is_type frame) (b =? delimiter_byte frame long) (right_at b frame long 0 h e))

-- the first address byte is made of its flags and its six bits
flags : ℕ → Bool
flags b = b =? (when b / 128 =? 1 then 128 else 0) + (when b / 64 % 2 =? 1 then 64 else 0) + b % 64

all_flags : holds_below 256 flags ≡ true
unfolding holds_below flags when◌then◌else◌
all_flags = refl

first_again : (b : ℕ) → b < 256 → b ≡ (when b / 128 =? 1 then 128 else 0) + (when b / 64 % 2 =? 1 then 64 else 0) + b % 64
unfolding flags
first_again b h = eqb-true b _ (holds_at 256 flags all_flags b h)

-- the n bytes from a place on
bytes_from : List ℕ → ℕ → ℕ → List ℕ
bytes_from t i zero = []
bytes_from t i (suc n) = byte_at t i ∷ bytes_from t (suc i) n

take_bytes : (t : List ℕ) (i n : ℕ) → i + n ≤ length t → take n (drop i t) ≡ bytes_from t i n
unfolding bytes_from
take_bytes t i zero h = refl
take_bytes t i (suc n) h = ap (take (suc n)) (drop-cons t i 0 (omega arith)) ∙ ap (λ (l : List ℕ). byte_at t i ∷ l) (take_bytes t (suc i) n (omega arith))

-- the bytes of a unique address, from the address that they give
module _ (x b2 b3 b4 b5 : ℕ) (hx : x < 64) (h2 : b2 < 256) (h3 : b3 < 256) (h4 : b4 < 256) (h5 : b5 < 256) where
  address : ℕ
  address = x * 2 ^ 32 + b2 * 2 ^ 24 + b3 * 2 ^ 16 + b4 * 2 ^ 8 + b5

  byte_1 : x ≡ address / 2 ^ 32
  unfolding address
  byte_1 = omega arith

  byte_2 : b2 ≡ address / 2 ^ 24 % 256
  unfolding address
  byte_2 = omega arith

  byte_3 : b3 ≡ address / 2 ^ 16 % 256
  unfolding address
  byte_3 = omega arith

  byte_4 : b4 ≡ address / 2 ^ 8 % 256
  unfolding address
  byte_4 = omega arith

  byte_5 : b5 ≡ address % 256
  unfolding address
  byte_5 = omega arith

  unique_small : address < 2 ^ 38
  unfolding address
  unique_small = omega arith

-- the first bytes of a frame that was read are the header that is written for its fields
module _ (t : List ℕ) (small : Bytes t) (frame : ℕ) (long : Bool) (delimited : delimiter_of (byte_at t 0) ≡ delimiter_with frame long 0) where
  place : ℕ
  place = command_place long 0

  h : Header
  h = header_of frame long place t

  -- the header, once the address's bytes are known
  header_by : (addr : List ℕ) → address_bytes h ≡ addr → header_bytes h (byte_at t (place + 1)) ≡ byte_at t 0 ∷ (addr ++ (byte_at t place ∷ byte_at t (place + 1) ∷ []))
  unfolding header_bytes Bytes h
  header_by addr e =
      ap₂ (λ (d : ℕ) (l : List ℕ). d ∷ (l ++ (byte_at t place ∷ byte_at t (place + 1) ∷ []))) (sym (delimiter_again (byte_at t 0) frame long (small 0) delimited)) e

  first_is : byte_at t 1 ≡ first_byte h (byte_at t 1 % 64)
  unfolding Bytes h
  first_is = first_again (byte_at t 1) (small 1)

  header_short : long ≡ false → 5 ≤ length t → take (place + 2) t ≡ header_bytes h (byte_at t (place + 1))
  unfolding place h bytes_from
  header_short e room =
      let two : place ≡ 2 = omega (arith, if_is_false {A = ℕ} long 5 1 e) in
      let bits : h.address ≡ byte_at t 1 % 64 = if_is_false long (unique_address t) (polling_address t) e in
      let addr : address_bytes h ≡ byte_at t 1 ∷ [] =
      if_is_false long (long_address h) (short_address h) e ∙ ap (λ (n : ℕ). n ∷ []) (ap (first_byte h) bits ∙ sym first_is) in
      ap (λ (n : ℕ). take (n + 2) t) two
      ∙ take_bytes t 0 4 (omega arith)
      ∙ ap (λ (n : ℕ). byte_at t 0 ∷ byte_at t 1 ∷ byte_at t n ∷ byte_at t (n + 1) ∷ []) (sym two)
      ∙ sym (header_by (byte_at t 1 ∷ []) addr)

  header_long : long ≡ true → 9 ≤ length t → take (place + 2) t ≡ header_bytes h (byte_at t (place + 1))
  unfolding place h bytes_from address Bytes
  header_long e room =
      let six : place ≡ 6 = omega (arith, if_is_true {A = ℕ} long 5 1 e) in
      let x : ℕ = byte_at t 1 % 64 in
      let b2 : ℕ = byte_at t 2 in
      let b3 : ℕ = byte_at t 3 in
      let b4 : ℕ = byte_at t 4 in
      let b5 : ℕ = byte_at t 5 in
      let hx : x < 64 = omega arith in
      let a : h.address ≡ address x b2 b3 b4 b5 hx (small 2) (small 3) (small 4) (small 5) = if_is_true long (unique_address t) (polling_address t) e in
      let first : first_byte h (h.address / 2 ^ 32) ≡ byte_at t 1 =
      ap (first_byte h) (ap (λ (n : ℕ). n / 2 ^ 32) a ∙ sym (byte_1 x b2 b3 b4 b5 hx (small 2) (small 3) (small 4) (small 5))) ∙ sym first_is in
      let second : h.address / 2 ^ 24 % 256 ≡ b2 = ap (λ (n : ℕ). n / 2 ^ 24 % 256) a ∙ sym (byte_2 x b2 b3 b4 b5 hx (small 2) (small 3) (small 4) (small 5)) in
      let third : h.address / 2 ^ 16 % 256 ≡ b3 = ap (λ (n : ℕ). n / 2 ^ 16 % 256) a ∙ sym (byte_3 x b2 b3 b4 b5 hx (small 2) (small 3) (small 4) (small 5)) in
      let fourth : h.address / 2 ^ 8 % 256 ≡ b4 = ap (λ (n : ℕ). n / 2 ^ 8 % 256) a ∙ sym (byte_4 x b2 b3 b4 b5 hx (small 2) (small 3) (small 4) (small 5)) in
      let fifth : h.address % 256 ≡ b5 = ap (λ (n : ℕ). n % 256) a ∙ sym (byte_5 x b2 b3 b4 b5 hx (small 2) (small 3) (small 4) (small 5)) in
      let addr : address_bytes h ≡ byte_at t 1 ∷ b2 ∷ b3 ∷ b4 ∷ b5 ∷ [] =
      if_is_true long (long_address h) (short_address h) e ∙ (λ i. first i ∷ second i ∷ third i ∷ fourth i ∷ fifth i ∷ []) in
      ap (λ (n : ℕ). take (n + 2) t) six
      ∙ take_bytes t 0 8 (omega arith)
      ∙ ap (λ (n : ℕ). byte_at t 0 ∷ byte_at t 1 ∷ b2 ∷ b3 ∷ b4 ∷ b5 ∷ byte_at t n ∷ byte_at t (n + 1) ∷ []) (sym six)
      ∙ sym (header_by (byte_at t 1 ∷ b2 ∷ b3 ∷ b4 ∷ b5 ∷ []) addr)

  header_again : place + 3 ≤ length t → take (place + 2) t ≡ header_bytes h (byte_at t (place + 1))
  unfolding place
  header_again room = go long refl
    where
      go : (l : Bool) → long ≡ l → take (place + 2) t ≡ header_bytes h (byte_at t (place + 1))
      go true e = header_long e (omega (arith, if_is_true {A = ℕ} long 5 1 e))
      go false e = header_short e (omega (arith, if_is_false {A = ℕ} long 5 1 e))

  address_small : h.address ≤ largest_address h.long
  unfolding h address Bytes
  address_small = go long refl
    where
      go : (l : Bool) → long ≡ l → address_of long t ≤ largest_address long
      go true e =
          let below : unique_address t < 2 ^ 38 = unique_small (byte_at t 1 % 64) (byte_at t 2) (byte_at t 3) (byte_at t 4) (byte_at t 5) (omega arith) (small 2) (small 3) (small 4) (small 5) in
          omega (arith, if_is_true {A = ℕ} long (2 ^ 38 - 1) 63 e, if_is_true long (unique_address t) (polling_address t) e)
      go false e = omega (arith, if_is_false {A = ℕ} long (2 ^ 38 - 1) 63 e, if_is_false long (unique_address t) (polling_address t) e)

-- delimiter to check byte, in what stands behind the preamble
body_again : (t : List ℕ) (frame : ℕ) (long : Bool) (count : ℕ) (small : Bytes t) (delimited : delimiter_of (byte_at t 0) ≡ delimiter_with frame long 0)
    → count ≡ byte_at t (command_place long 0 + 1) → command_place long 0 + 2 + count < length t → exclusive_or (take (command_place long 0 + 3 + count) t) ≡ 0
    → take (command_place long 0 + 3 + count) t ≡ body_bytes (header_of frame long (command_place long 0) t) (take count (drop (command_place long 0 + 2) t))
unfolding body_bytes protected_bytes place h
body_again t frame long count small delimited counted inside sum-zero =
    let q : ℕ = command_place long 0 in
    let last : ℕ = q + 2 + count in
    let one_more : q + 3 + count ≡ last + 1 = omega arith in
    let bytes : List ℕ = take count (drop (q + 2) t) in
    let fields : Header = header_of frame long q t in
    let long_enough : length bytes ≡ count = length-take-le count (drop (q + 2) t) (omega (arith, length-drop (q + 2) t)) in
    let before : take last t ≡ protected_bytes fields bytes =
    take-add (q + 2) count t
    ∙ ap (λ (l : List ℕ). l ++ bytes) (header_again t small frame long delimited (omega arith) ∙ ap (header_bytes fields) (sym counted ∙ sym long_enough)) in
    let check : exclusive_or (take last t) ≡ byte_at t last = check_from_zero t last inside (ap (λ (n : ℕ). exclusive_or (take n t)) (sym one_more) ∙ sum-zero) in
    ap (λ (n : ℕ). take n t) one_more
    ∙ sym (take_more t last inside)
    ∙ ap (λ (c : ℕ). take last t ++ (c ∷ [])) (sym check)
    ∙ ap (λ (l : List ℕ). l ++ (exclusive_or l ∷ [])) before

-- what the theorem says of the frame f, read from these bytes
pub record WrittenAgain (bytes : List ℕ) (f : Found) : Type 0 where
  -- from delimiter to check byte, the caller's bytes are the body that is written for the header and the data that were read
  pub same_body : part_of bytes f.preamble (f.end - f.preamble) ≡ body_bytes f.header (part_of bytes f.start f.count)
  pub same_count : length (part_of bytes f.start f.count) ≡ f.count
  -- and the writer takes them, behind any preamble that may be written, wherever there is room
  pub taken_again : (preamble room at : ℕ) → fewest_preambles ≤ preamble → preamble ≤ most_preambles → at + frame_length preamble f.header f.count ≤ room
      → write_answer preamble f.header f.count room at ≡ accepted (at + frame_length preamble f.header f.count)

drop_bytes : (bytes : List ℕ) (n : ℕ) → Bytes bytes → Bytes (drop n bytes)
unfolding Bytes
drop_bytes bytes n small i = subst (λ (b : ℕ). b < 256) (sym (get_or-drop n bytes i 0)) (small (n + i))

part_inside : (bytes : List ℕ) (start count : ℕ) → start + count ≤ length bytes → part_of bytes start count ≡ take count (drop start bytes)
part_inside bytes start count h = sym (if_at_most (start + count) (length bytes) _ _ [] h refl)

-- the same of the caller's bytes, behind so many preambles
module _ (bytes : List ℕ) (preamble frame : ℕ) (long : Bool) (count : ℕ) (small : Bytes bytes)
    (delimited : delimiter_of (byte_at (drop preamble bytes) 0) ≡ delimiter_with frame long 0)
    (counted : count ≡ byte_at (drop preamble bytes) (command_place long 0 + 1))
    (inside : command_place long 0 + 2 + count < length (drop preamble bytes))
    (enough : too_few frame count ≡ false)
    (sum-zero : exclusive_or (take (command_place long 0 + 3 + count) (drop preamble bytes)) ≡ 0) where
  behind : Bytes (drop preamble bytes)
  behind = drop_bytes bytes preamble small

  data_is : part_of bytes (preamble + (command_place long 0 + 2)) count ≡ take count (drop (command_place long 0 + 2) (drop preamble bytes))
  data_is =
      part_inside bytes (preamble + (command_place long 0 + 2)) count (omega (arith, length-drop preamble bytes))
      ∙ ap (take count) (sym (drop-drop (command_place long 0 + 2) preamble bytes))

  fits_again : (p : ℕ) → fewest_preambles ≤ p → p ≤ most_preambles → Fits p (header_of frame long (command_place long 0) (drop preamble bytes)) count
  unfolding Bytes place h
  fits_again p low high = record {
    preamble_low = low;
    preamble_high = high;
    address_high = address_small (drop preamble bytes) behind frame long delimited;
    count_high = omega (arith, counted, behind (command_place long 0 + 1));
    enough = enough;
    typed = delimiter_typed (byte_at (drop preamble bytes) 0) frame long 0 (behind 0) delimited;
  }

  again : WrittenAgain bytes (found_at preamble (drop preamble bytes) frame long 0 (command_place long 0) count)
  again =
      let q : ℕ = command_place long 0 in
      let m : preamble + (q + 3 + count) - preamble ≡ q + 3 + count = omega arith in
      record {
        same_body =
            part_inside bytes preamble (preamble + (q + 3 + count) - preamble) (omega (arith, length-drop preamble bytes))
            ∙ ap (λ (n : ℕ). take n (drop preamble bytes)) m
            ∙ body_again (drop preamble bytes) frame long count behind delimited counted inside sum-zero
            ∙ ap (body_bytes (header_of frame long q (drop preamble bytes))) (sym data_is);
        same_count = ap length data_is ∙ length-take-le count (drop (q + 2) (drop preamble bytes)) (omega (arith, length-drop (q + 2) (drop preamble bytes)));
        taken_again = λ p room at low high r. sym (fits_taken p (header_of frame long q (drop preamble bytes)) count room at (fits_again p low high) r);
      }

-- the theorem
pub read_is_written : (bytes : List ℕ) (f : Found) → Bytes bytes → read_frame bytes ≡ accepted f → f.expansion ≡ 0 → WrittenAgain bytes f
read_is_written bytes f small e none =
    let p : ℕ = preambles bytes in
    let t : List ℕ = drop p bytes in
    let s = (frame_sound bytes f e).body in
    let no_expansion : s.expansion ≡ 0 = ap (λ (g : Found). g.expansion) s.found ∙ none in
    let there : s.place ≡ command_place s.long 0 = s.placed ∙ ap (command_place s.long) no_expansion in
    let same : found_at p t s.frame s.long 0 (command_place s.long 0) s.count ≡ f =
    ap₂ (λ (x n : ℕ). found_at p t s.frame s.long x n s.count) (sym no_expansion) (sym there) ∙ s.found in
    subst (WrittenAgain bytes) same
    (again bytes p s.frame s.long s.count small
    (s.delimited ∙ ap (delimiter_with s.frame s.long) no_expansion)
    (s.counted ∙ ap (λ (n : ℕ). byte_at t (n + 1)) there)
    (omega (arith, there, s.inside))
    s.enough
    (ap (λ (n : ℕ). exclusive_or (take (n + 3 + s.count) t)) (sym there) ∙ s.zero))
