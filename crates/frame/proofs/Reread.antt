-- Theorem: a written frame reads back as the same message, with its end where the writer stopped and its data equal, whatever stands behind it.
use Prim.Native.Nat.{ℕ, ◌+◌, ◌-◌, ◌*◌, ◌/◌, ◌%◌, ◌^◌, ◌≤◌, ◌<◌}
use native.Mathlib.Omega.{arith}
use native.Mathlib.Nat.{div-div-eq-div-mul}
use mathlib.Core.Path.{◌≡◌, refl, sym, ap, ◌∙◌}
use mathlib.Core.Bool.{Bool, true, false}
use mathlib.Core.List.{List, [], ◌∷◌, ◌++◌, append_assoc}
use lib.ListN.{length, take, drop, length-append}
use lib.Seq.{take_at, drop_at, length-take-le}
use borrow.Author.Tests.{eq-eqb, ne_eqb}
use Rattle.base.specs.Choice.{when◌then◌else◌, ◌=?◌}
use Rattle.base.proofs.Stores.{stored_between}
use Rattle.base.proofs.Choices.{if_is_true, if_is_false, if_at_most}
use Rattle.base.specs.Refusal.{Called, accepted}
use Rattle.frame.specs.Delimiter.{is_type, delimiter_of, delimiter_byte, delimiter_with}
use Rattle.frame.specs.Address.{address_length, largest_address, long_address, short_address, first_byte, byte_at, master_bit, burst_flag, address_of, unique_address, polling_address}
use Rattle.frame.specs.Check.{exclusive_or}
use Rattle.frame.specs.Frame.{header_bytes, protected_bytes, body_bytes, preamble_bytes, frame_bytes, header_length, frame_length}
use Rattle.frame.specs.Read.{preambles, command_place, header_of, read_frame, part_of}
use Rattle.frame.specs.Write.{buffer_by, write_answer, write_buffer}
use Rattle.frame.proofs.Checks.{check_zero}
use Rattle.frame.proofs.Lengths.{header_count, body_count, preamble_count, frame_count}
use Rattle.frame.proofs.Preambles.{preambles_are, no_preamble}
use Rattle.frame.proofs.Sound.{Sound, sound_frame}
use Rattle.frame.proofs.Taken.{Fits, taken, Typed, is_stx, is_ack, is_back, typed_as, type_small}
use Rattle.frame.specs.declared.Header.{Header}
use Rattle.frame.specs.declared.Found.{Found}

-- the delimiter that is written is read as the type and the address's form, with no expansion bytes
pub delimiter_back : (frame : ℕ) (long : Bool) → is_type frame ≡ true → delimiter_of (delimiter_byte frame long) ≡ delimiter_with frame long 0
unfolding delimiter_of when◌then◌else◌
delimiter_back frame long e = go long (typed_as frame e)
  where
    go : (l : Bool) → Typed frame → delimiter_of (delimiter_byte frame l) ≡ delimiter_with frame l 0
    go true (is_stx q) = rw q
    go false (is_stx q) = rw q
    go true (is_ack q) = rw q
    go false (is_ack q) = rw q
    go true (is_back q) = rw q
    go false (is_back q) = rw q

-- and it is no preamble
pub delimiter_no_preamble : (frame : ℕ) (long : Bool) → is_type frame ≡ true → delimiter_byte frame long ≡ 0xFF → ⊥
unfolding when◌then◌else◌
delimiter_no_preamble frame true e q = omega (arith, type_small frame e)
delimiter_no_preamble frame false e q = omega (arith, type_small frame e)

-- the first address byte gives back the master bit, the burst flag and the six bits
abbrev pub first : Bool → Bool → ℕ → ℕ
first primary burst bits = (when primary then 128 else 0) + (when burst then 64 else 0) + bits

pub master_back : (primary burst : Bool) (bits : ℕ) → bits < 64 → (first primary burst bits / 128 =? 1) ≡ primary
unfolding when◌then◌else◌
master_back true true bits h = eq-eqb (first true true bits / 128) 1 (omega arith)
master_back true false bits h = eq-eqb (first true false bits / 128) 1 (omega arith)
master_back false true bits h = ne_eqb (first false true bits / 128) 1 (omega arith)
master_back false false bits h = ne_eqb (first false false bits / 128) 1 (omega arith)

pub burst_back : (primary burst : Bool) (bits : ℕ) → bits < 64 → (first primary burst bits / 64 % 2 =? 1) ≡ burst
unfolding when◌then◌else◌
burst_back true true bits h = eq-eqb (first true true bits / 64 % 2) 1 (omega arith)
burst_back false true bits h = eq-eqb (first false true bits / 64 % 2) 1 (omega arith)
burst_back true false bits h = ne_eqb (first true false bits / 64 % 2) 1 (omega arith)
burst_back false false bits h = ne_eqb (first false false bits / 64 % 2) 1 (omega arith)

pub bits_back : (primary burst : Bool) (bits : ℕ) → bits < 64 → first primary burst bits % 64 ≡ bits
unfolding when◌then◌else◌
bits_back true true bits h = omega arith
bits_back false true bits h = omega arith
bits_back true false bits h = omega arith
bits_back false false bits h = omega arith

bytes_back : (a : ℕ) → a / 2 ^ 32 * 2 ^ 32 + a / 2 ^ 24 % 256 * 2 ^ 24 + a / 2 ^ 16 % 256 * 2 ^ 16 + a / 2 ^ 8 % 256 * 2 ^ 8 + a % 256 ≡ a
bytes_back a = omega (arith, div-div-eq-div-mul a (2 ^ 8) (2 ^ 8), div-div-eq-div-mul a (2 ^ 16) (2 ^ 8), div-div-eq-div-mul a (2 ^ 24) (2 ^ 8))

-- what a reader finds in a header that was written, whatever stands behind it
record Front (h : Header) (count : ℕ) (t : List ℕ) : Type 0 where
  delimiter_at : byte_at t 0 ≡ delimiter_byte h.kind h.long
  header_at : header_of h.kind h.long (command_place h.long 0) t ≡ h
  count_at : byte_at t (command_place h.long 0 + 1) ≡ count

module _ (h : Header) (t : List ℕ) (bits : ℕ) (small : bits < 64) (at : byte_at t 1 ≡ first_byte h bits) where
  header_same : (command : byte_at t (command_place h.long 0) ≡ h.command) (address : address_of h.long t ≡ h.address) → header_of h.kind h.long (command_place h.long 0) t ≡ h
  header_same command address =
      let primary : master_bit t ≡ h.primary = ap (λ (b : ℕ). b / 128 =? 1) at ∙ master_back h.primary h.burst bits small in
      let burst : burst_flag t ≡ h.burst = ap (λ (b : ℕ). b / 64 % 2 =? 1) at ∙ burst_back h.primary h.burst bits small in
      λ i. record { kind = h.kind; long = h.long; primary = primary i; burst = burst i; address = address i; command = command i }

  six_bits : byte_at t 1 % 64 ≡ bits
  six_bits = ap (λ (b : ℕ). b % 64) at ∙ bits_back h.primary h.burst bits small

place_is : (h : Header) (n : ℕ) → address_length h.long ≡ n → command_place h.long 0 ≡ n + 1
place_is h n e = omega (arith, e)

front_long : (h : Header) (count : ℕ) (u : List ℕ) → h.long ≡ true → h.address ≤ largest_address h.long → Front h count (header_bytes h count ++ u)
unfolding header_bytes
front_long h count u e small =
    let a : ℕ = h.address in
    let t : List ℕ = header_bytes h count ++ u in
    let shape : t ≡ (delimiter_byte h.kind h.long ∷ (long_address h ++ (h.command ∷ count ∷ []))) ++ u =
    ap (λ (l : List ℕ). (delimiter_byte h.kind h.long ∷ (l ++ (h.command ∷ count ∷ []))) ++ u) (if_is_true h.long (long_address h) (short_address h) e) in
    let place : command_place h.long 0 ≡ 6 = place_is h 5 (if_is_true h.long 5 1 e) in
    let below : a / 2 ^ 32 < 64 = omega (arith, if_is_true {A = ℕ} h.long (2 ^ 38 - 1) 63 e) in
    let first_at : byte_at t 1 ≡ first_byte h (a / 2 ^ 32) = ap (λ (l : List ℕ). byte_at l 1) shape in
    let address : address_of h.long t ≡ a =
    if_is_true h.long (unique_address t) (polling_address t) e
    ∙ ap (λ (n : ℕ). n * 2 ^ 32 + byte_at t 2 * 2 ^ 24 + byte_at t 3 * 2 ^ 16 + byte_at t 4 * 2 ^ 8 + byte_at t 5) (six_bits h t (a / 2 ^ 32) below first_at)
    ∙ ap (λ (l : List ℕ). a / 2 ^ 32 * 2 ^ 32 + byte_at l 2 * 2 ^ 24 + byte_at l 3 * 2 ^ 16 + byte_at l 4 * 2 ^ 8 + byte_at l 5) shape
    ∙ bytes_back a in
    record {
      delimiter_at = ap (λ (l : List ℕ). byte_at l 0) shape;
      header_at = header_same h t (a / 2 ^ 32) below first_at (ap (byte_at t) place ∙ ap (λ (l : List ℕ). byte_at l 6) shape) address;
      count_at = ap (λ (n : ℕ). byte_at t (n + 1)) place ∙ ap (λ (l : List ℕ). byte_at l 7) shape;
    }

front_short : (h : Header) (count : ℕ) (u : List ℕ) → h.long ≡ false → h.address ≤ largest_address h.long → Front h count (header_bytes h count ++ u)
unfolding header_bytes
front_short h count u e small =
    let a : ℕ = h.address in
    let t : List ℕ = header_bytes h count ++ u in
    let shape : t ≡ (delimiter_byte h.kind h.long ∷ (short_address h ++ (h.command ∷ count ∷ []))) ++ u =
    ap (λ (l : List ℕ). (delimiter_byte h.kind h.long ∷ (l ++ (h.command ∷ count ∷ []))) ++ u) (if_is_false h.long (long_address h) (short_address h) e) in
    let place : command_place h.long 0 ≡ 2 = place_is h 1 (if_is_false h.long 5 1 e) in
    let below : a < 64 = omega (arith, if_is_false {A = ℕ} h.long (2 ^ 38 - 1) 63 e) in
    let first_at : byte_at t 1 ≡ first_byte h a = ap (λ (l : List ℕ). byte_at l 1) shape in
    let address : address_of h.long t ≡ a = if_is_false h.long (unique_address t) (polling_address t) e ∙ six_bits h t a below first_at in
    record {
      delimiter_at = ap (λ (l : List ℕ). byte_at l 0) shape;
      header_at = header_same h t a below first_at (ap (byte_at t) place ∙ ap (λ (l : List ℕ). byte_at l 2) shape) address;
      count_at = ap (λ (n : ℕ). byte_at t (n + 1)) place ∙ ap (λ (l : List ℕ). byte_at l 3) shape;
    }

front : (h : Header) (count : ℕ) (u : List ℕ) → h.address ≤ largest_address h.long → Front h count (header_bytes h count ++ u)
front h count u small = go h.long refl
  where
    go : (l : Bool) → h.long ≡ l → Front h count (header_bytes h count ++ u)
    go true e = front_long h count u e small
    go false e = front_short h count u e small

-- what the reader gives for a written frame: the message, and where its data and its end are
pub message : ℕ → Header → ℕ → Found
message preamble h count = record {
  preamble = preamble;
  header = h;
  expansion = 0;
  start = preamble + header_length h;
  count = count;
  end = frame_length preamble h count;
}

body_split : (h : Header) (bytes rest : List ℕ) → body_bytes h bytes ++ rest ≡ header_bytes h (length bytes) ++ (bytes ++ (exclusive_or (protected_bytes h bytes) ∷ rest))
unfolding body_bytes protected_bytes
body_split h bytes rest =
    append_assoc (protected_bytes h bytes) (exclusive_or (protected_bytes h bytes) ∷ []) rest
    ∙ append_assoc (header_bytes h (length bytes)) bytes (exclusive_or (protected_bytes h bytes) ∷ rest)

-- a written body is a sound one
body_sound : (preamble : ℕ) (h : Header) (bytes rest : List ℕ) → Fits preamble h (length bytes) → Sound preamble (body_bytes h bytes ++ rest) (message preamble h (length bytes))
unfolding body_bytes message
body_sound preamble h bytes rest fits =
    let t : List ℕ = body_bytes h bytes ++ rest in
    let place : ℕ = command_place h.long 0 in
    let head : Front h (length bytes) t = rw body_split (front h (length bytes) (bytes ++ (exclusive_or (protected_bytes h bytes) ∷ rest)) fits.address_high) in
    let body_first : take (place + 3 + length bytes) t ≡ body_bytes h bytes = take_at (body_bytes h bytes) rest (place + 3 + length bytes) (omega (arith, body_count h bytes)) in
    let header : header_of h.kind h.long place t ≡ h = head.header_at in
    let start : preamble + (place + 2) ≡ preamble + header_length h = omega arith in
    let end : preamble + (place + 3 + length bytes) ≡ frame_length preamble h (length bytes) = omega arith in
    record {
      frame = h.kind;
      long = h.long;
      expansion = 0;
      place = place;
      count = length bytes;
      delimited = ap delimiter_of head.delimiter_at ∙ delimiter_back h.kind h.long fits.typed;
      placed = refl;
      counted = sym head.count_at;
      inside = omega (arith, body_count h bytes, length-append (body_bytes h bytes) rest);
      enough = fits.enough;
      zero = ap exclusive_or body_first ∙ check_zero (protected_bytes h bytes);
      found = λ i. record { preamble = preamble; header = header i; expansion = 0; start = start i; count = length bytes; end = end i };
    }

no_more : (h : Header) (bytes rest : List ℕ) → is_type h.kind ≡ true → preambles (body_bytes h bytes ++ rest) ≡ 0
unfolding body_bytes protected_bytes header_bytes
no_more h bytes rest e = no_preamble (body_bytes h bytes ++ rest) (delimiter_no_preamble h.kind h.long e)

-- the theorem
pub reads_back : (preamble : ℕ) (h : Header) (bytes rest : List ℕ) → Fits preamble h (length bytes)
    → read_frame (frame_bytes preamble h bytes ++ rest) ≡ accepted (message preamble h (length bytes))
unfolding frame_bytes
reads_back preamble h bytes rest fits =
    let body : List ℕ = body_bytes h bytes ++ rest in
    let all : List ℕ = preamble_bytes preamble ++ body in
    ap read_frame (append_assoc (preamble_bytes preamble) (body_bytes h bytes) rest)
    ∙ sound_frame all preamble body (message preamble h (length bytes))
    (preambles_are preamble body (no_more h bytes rest fits.typed))
    (drop_at (preamble_bytes preamble) body preamble (sym (preamble_count preamble)))
    (omega (arith, fits.preamble_low))
    (body_sound preamble h bytes rest fits)

-- and the data that it names are the data that were written
pub data_back : (preamble : ℕ) (h : Header) (bytes rest : List ℕ)
    → part_of (frame_bytes preamble h bytes ++ rest) (message preamble h (length bytes)).start (length bytes) ≡ bytes
unfolding message frame_bytes
data_back preamble h bytes rest =
    let front : List ℕ = preamble_bytes preamble ++ header_bytes h (length bytes) in
    let behind : List ℕ = bytes ++ (exclusive_or (protected_bytes h bytes) ∷ rest) in
    let all : List ℕ = frame_bytes preamble h bytes ++ rest in
    let split : all ≡ front ++ behind =
    append_assoc (preamble_bytes preamble) (body_bytes h bytes) rest
    ∙ ap (λ (l : List ℕ). preamble_bytes preamble ++ l) (body_split h bytes rest)
    ∙ sym (append_assoc (preamble_bytes preamble) (header_bytes h (length bytes)) behind) in
    let start : length front ≡ preamble + header_length h = omega (arith, length-append (preamble_bytes preamble) (header_bytes h (length bytes)), preamble_count preamble, header_count h (length bytes)) in
    let inside : preamble + header_length h + length bytes ≤ length all =
    omega (arith, ap length split, length-append front behind, length-append bytes (exclusive_or (protected_bytes h bytes) ∷ rest)) in
    sym (if_at_most (preamble + header_length h + length bytes) (length all) bytes _ _ inside
    (sym (ap (λ (l : List ℕ). take (length bytes) (drop (preamble + header_length h) l)) split
    ∙ ap (take (length bytes)) (drop_at front behind (preamble + header_length h) start)
    ∙ take_at bytes (exclusive_or (protected_bytes h bytes) ∷ rest) (length bytes) refl)))

-- Of a write that was taken: reading from the place named gives the message; its end is where the writer stopped; its data are the data.
pub record ReadsBack (preamble : ℕ) (h : Header) (bytes buffer : List ℕ) (place end : ℕ) : Type 0 where
  pub message_read : read_frame (drop place (write_buffer preamble h bytes buffer place)) ≡ accepted (message preamble h (length bytes))
  pub end_read : place + (message preamble h (length bytes)).end ≡ end
  pub data_read : part_of (drop place (write_buffer preamble h bytes buffer place)) (message preamble h (length bytes)).start (length bytes) ≡ bytes

pub written_reads_back : (preamble : ℕ) (h : Header) (bytes buffer : List ℕ) (place end : ℕ)
    → write_answer preamble h (length bytes) (length buffer) place ≡ accepted end → ReadsBack preamble h bytes buffer place end
unfolding write_buffer message
written_reads_back preamble h bytes buffer place end e =
    let room = taken preamble h (length bytes) (length buffer) place end e in
    let frame : List ℕ = frame_bytes preamble h bytes in
    let rest : List ℕ = drop (place + length frame) buffer in
    let inside : place + length frame ≤ length buffer = omega (arith, room.end_is, room.inside, frame_count preamble h bytes) in
    let there : drop place (write_buffer preamble h bytes buffer place) ≡ frame ++ rest =
    ap (λ (w : Called ℕ). drop place (buffer_by w buffer place frame)) e
    ∙ ap (drop place) (stored_between buffer place frame inside)
    ∙ drop_at (take place buffer) (frame ++ rest) place (length-take-le place buffer (omega arith)) in
    record {
      message_read = ap read_frame there ∙ reads_back preamble h bytes rest room.fits;
      end_read = sym room.end_is;
      data_read = ap (λ (l : List ℕ). part_of l (preamble + header_length h) (length bytes)) there ∙ data_back preamble h bytes rest;
    }
