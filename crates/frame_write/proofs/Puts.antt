-- Laws of the writer's parts: what each field's part holds, what its exclusive-or adds, and what stands in the buffer when they have come back.
use Prim.Native.Nat.{ℕ, ◌+◌, ◌-◌, ◌/◌, ◌%◌, ◌^◌, ◌≤◌, ◌<◌}
use native.Mathlib.Omega.{arith}
use mathlib.Core.Path.{◌≡◌, refl, sym, ap, ◌∙◌}
use mathlib.Core.List.{List, [], ◌∷◌, ◌++◌, append_assoc}
use lib.ListN.{length, take, drop, set, get_or, get_or-replicate, length-append}
use lib.Bits.{bit_xor}
use lib.Seq.{take_all, drop-drop, length-take-le}
use borrow.Rule.Slice.PartMut.{put_mid}
use Rattle.std.specs.Int.{w64, to_be_bytes}
use Rattle.base.specs.Store.{stored}
use Rattle.base.proofs.Stores.{stored_between, stored_front, stored_part, stored_parts, length_stored, Storing, storing_none, storing_more, storing_all}
use Rattle.frame.specs.Delimiter.{delimiter_byte}
use Rattle.frame.specs.Address.{address_bytes, address_length, first_byte, long_address}
use Rattle.frame.specs.Check.{xor_from, exclusive_or}
use Rattle.frame.specs.Frame.{header_bytes, protected_bytes, body_bytes, preamble_bytes, frame_bytes, header_length, frame_length}
use Rattle.frame.proofs.Checks.{xor_append, Passed, passed_none, passed_more, passed_all}
use Rattle.frame.proofs.Lengths.{header_count, preamble_count}
use Rattle.frame.specs.declared.Header.{Header}
use Rattle.frame_write.specs.Puts.{PartIs}

-- bytes that fill a buffer are all of it
pub stored_whole : (xs vs : List ℕ) → length vs ≡ length xs → stored xs 0 vs ≡ vs
stored_whole xs vs e =
    sym (take_all (length vs) (stored xs 0 vs) (omega (arith, length_stored xs 0 vs)))
    ∙ stored_front (length vs) xs (stored xs 0 vs) vs refl refl (omega arith)

-- the part from a on of k bytes was lent and came back holding vs
pub part_holds : (a k : ℕ) (xs zs vs : List ℕ) → zs ≡ vs → k ≡ length vs → a + k ≤ length xs → put_mid a k xs zs ≡ stored xs a vs
part_holds a k xs zs vs p e h =
    ap (λ (l : List ℕ). take a xs ++ (l ++ drop k (drop a xs))) p
    ∙ ap (λ (l : List ℕ). take a xs ++ (vs ++ l)) (drop-drop k a xs ∙ ap (λ (n : ℕ). drop (a + n) xs) e)
    ∙ sym (stored_between xs a vs (omega arith))

-- the same behind a run at the front that ends where the part begins
pub part_joins : (a k : ℕ) (xs ys zs us vs : List ℕ) → ys ≡ stored xs 0 us → a ≡ length us → zs ≡ vs → k ≡ length vs → a + k ≤ length xs → put_mid a k ys zs ≡ stored xs 0 (us ++ vs)
part_joins a k xs ys zs us vs p e q f h =
    let same : length ys ≡ length xs = ap length p ∙ length_stored xs 0 us in
    let rest : ℕ = length ys - a in
    let back : List ℕ = stored (take rest (drop a ys)) 0 vs in
    part_holds a k ys zs vs q f (omega arith)
    ∙ sym (stored_part a rest ys back vs refl (omega arith))
    ∙ stored_parts a rest xs ys back us vs p e refl (omega arith)

-- one byte in a part of one
pub byte_put : (xs : List ℕ) (x b r : ℕ) → length xs ≡ 1 → r ≡ bit_xor x b → PartIs x (b ∷ []) (set xs 0 b) r
unfolding stored xor_from
byte_put xs x b r e q = record { holds = stored_whole xs (b ∷ []) (sym e); check = q }

-- a unique address, by the bytes of the number
pub first_small : (a : ℕ) (bytes : List ℕ) → bytes ≡ to_be_bytes w64 a → a < 2 ^ 38 → get_or bytes 3 0 < 64
first_small a bytes e h = omega (arith, ap (λ (l : List ℕ). get_or l 3 0) e)

pub long_address_put : (x : ℕ) (h : Header) (bytes part : List ℕ) (first r : ℕ) → bytes ≡ to_be_bytes w64 h.address → h.address < 2 ^ 38 → first ≡ first_byte h (get_or bytes 3 0)
    → PartIs x (first ∷ get_or bytes 4 0 ∷ get_or bytes 5 0 ∷ get_or bytes 6 0 ∷ get_or bytes 7 0 ∷ []) part r → PartIs x (long_address h) part r
long_address_put x h bytes part first r e small q v = record { holds = v.holds ∙ same; check = v.check ∙ ap (xor_from x) same }
  where
    six : h.address / 2 ^ 32 % 256 ≡ h.address / 2 ^ 32
    six = omega arith

    same : first ∷ get_or bytes 4 0 ∷ get_or bytes 5 0 ∷ get_or bytes 6 0 ∷ get_or bytes 7 0 ∷ [] ≡ long_address h
    same =
        ap (λ (f : ℕ). f ∷ get_or bytes 4 0 ∷ get_or bytes 5 0 ∷ get_or bytes 6 0 ∷ get_or bytes 7 0 ∷ []) (q ∙ ap (λ (l : List ℕ). first_byte h (get_or l 3 0)) e ∙ ap (first_byte h) six)
        ∙ ap (λ (l : List ℕ). first_byte h (h.address / 2 ^ 32) ∷ get_or l 4 0 ∷ get_or l 5 0 ∷ get_or l 6 0 ∷ get_or l 7 0 ∷ []) e

-- a loop that stores bytes which fill the part
pub storing_whole : (xs us : List ℕ) (n : ℕ) (ys : List ℕ) (i : ℕ) → Storing xs us n ys i → n ≡ length xs → length ys ≤ i → ys ≡ us
storing_whole xs us n ys i v e h = storing_all xs us n ys i v (omega (arith, v.same_length)) ∙ stored_whole xs us (omega (arith, v.count))

-- the loop that stores the preamble
pub preamble_more : (xs ys : List ℕ) (n i : ℕ) → Storing xs (preamble_bytes n) n ys i → n ≡ length xs → i < length ys → Storing xs (preamble_bytes n) n (set ys i 0xFF) (i + 1)
unfolding preamble_bytes
preamble_more xs ys n i v e h =
    let inside : i < n = omega (arith, v.same_length) in
    storing_more xs (preamble_bytes n) n ys i 0xFF v inside (sym (get_or-replicate n i 0xFF 0 inside))

pub ruleset preambles = (refl, storing_none, storing_whole, preamble_count, preamble_more)

-- the loop that stores the data: i of them are stored, and sum is the exclusive-or of x and them
pub record Copied (x : ℕ) (xs us ys : List ℕ) (sum i : ℕ) : Type 0 where
  pub put : Storing xs us (length xs) ys i
  pub passed : Passed x us sum i

pub copied_none : (x : ℕ) (xs us : List ℕ) → length xs ≡ length us → Copied x xs us xs x 0
copied_none x xs us e = record { put = storing_none xs us (length xs) e (omega arith); passed = passed_none x us }

pub copied_more : (x : ℕ) (xs us ys : List ℕ) (sum i : ℕ) → Copied x xs us ys sum i → i < length us → Copied x xs us (set ys i (get_or us i 0)) (bit_xor sum (get_or us i 0)) (i + 1)
copied_more x xs us ys sum i v h = record {
  put = storing_more xs us (length xs) ys i (get_or us i 0) v.put (omega (arith, v.put.count)) refl;
  passed = passed_more x us sum i v.passed h;
}

pub copied_all : (x : ℕ) (xs us ys : List ℕ) (sum i : ℕ) → Copied x xs us ys sum i → length us ≤ i → PartIs x us ys sum
copied_all x xs us ys sum i v h = record {
  holds = storing_whole xs us (length xs) ys i v.put refl (omega (arith, v.put.count, v.put.same_length));
  check = passed_all x us sum i v.passed h;
}

pub ruleset copying = (copied_none, copied_more, copied_all)

-- the header's four parts
address_count : (h : Header) → length (address_bytes h) ≡ address_length h.long
unfolding header_bytes
address_count h = omega (arith, header_count h 0, length-append (address_bytes h) (h.command ∷ 0 ∷ []))

header_put : (h : Header) (count p q k l m : ℕ) (xs ds os cs ns : List ℕ) → length xs ≡ header_length h
    → ds ≡ delimiter_byte h.kind h.long ∷ [] → os ≡ address_bytes h → cs ≡ h.command ∷ [] → ns ≡ count ∷ []
    → p ≡ length xs - 2 → q ≡ length xs - 1 → k ≡ p - 1 → l ≡ q - p → m ≡ length (put_mid p l (put_mid 1 k (put_mid 0 1 xs ds) os) cs) - q
    → put_mid q m (put_mid p l (put_mid 1 k (put_mid 0 1 xs ds) os) cs) ns ≡ header_bytes h count
unfolding header_bytes
header_put h count p q k l m xs ds os cs ns e d a c n p-is q-is k_is l-is m-is =
    let first : ℕ = delimiter_byte h.kind h.long in
    let address : List ℕ = address_bytes h in
    let one : put_mid 0 1 xs ds ≡ stored xs 0 (first ∷ []) = part_holds 0 1 xs ds (first ∷ []) d refl (omega arith) in
    let two : put_mid 1 k (put_mid 0 1 xs ds) os ≡ stored xs 0 (first ∷ address) =
    part_joins 1 k xs (put_mid 0 1 xs ds) os (first ∷ []) address one refl a (omega (arith, address_count h)) (omega arith) in
    let three : put_mid p l (put_mid 1 k (put_mid 0 1 xs ds) os) cs ≡ stored xs 0 (first ∷ (address ++ (h.command ∷ []))) =
    part_joins p l xs (put_mid 1 k (put_mid 0 1 xs ds) os) cs (first ∷ address) (h.command ∷ []) two (omega (arith, address_count h)) c (omega arith) (omega arith) in
    let same : length (put_mid p l (put_mid 1 k (put_mid 0 1 xs ds) os) cs) ≡ length xs = ap length three ∙ length_stored xs 0 (first ∷ (address ++ (h.command ∷ []))) in
    part_joins q m xs (put_mid p l (put_mid 1 k (put_mid 0 1 xs ds) os) cs) ns (first ∷ (address ++ (h.command ∷ []))) (count ∷ []) three
    (omega (arith, address_count h, length-append address (h.command ∷ []))) n (omega (arith, same)) (omega (arith, same))
    ∙ ap (λ (bytes : List ℕ). stored xs 0 (first ∷ bytes)) (append_assoc address (h.command ∷ []) (count ∷ []))
    ∙ stored_whole xs (first ∷ (address ++ (h.command ∷ count ∷ []))) (omega (arith, address_count h, length-append address (h.command ∷ count ∷ [])))

pub header_is : (h : Header) (count byte p q k l m u v w r : ℕ) (xs ds os cs ns : List ℕ) → length xs ≡ header_length h
    → byte ≡ delimiter_byte h.kind h.long → PartIs 0 (byte ∷ []) ds u → PartIs u (address_bytes h) os v → PartIs v (h.command ∷ []) cs w → PartIs w (count ∷ []) ns r
    → p ≡ length xs - 2 → q ≡ length xs - 1 → k ≡ p - 1 → l ≡ q - p → m ≡ length (put_mid p l (put_mid 1 k (put_mid 0 1 xs ds) os) cs) - q
    → PartIs 0 (header_bytes h count) (put_mid q m (put_mid p l (put_mid 1 k (put_mid 0 1 xs ds) os) cs) ns) r
unfolding header_bytes xor_from
header_is h count byte p q k l m u v w r xs ds os cs ns e b d a c n p-is q-is k_is l-is m-is = record {
  holds = header_put h count p q k l m xs ds os cs ns e (d.holds ∙ ap (λ (y : ℕ). y ∷ []) b) a.holds c.holds n.holds p-is q-is k_is l-is m-is;
  check =
      n.check ∙ ap (λ (y : ℕ). bit_xor y count) (c.check ∙ ap (λ (y : ℕ). bit_xor y h.command) (a.check ∙ ap (λ (y : ℕ). xor_from y (address_bytes h)) (d.check ∙ b)))
      ∙ sym (xor_append (delimiter_byte h.kind h.long) (address_bytes h) (h.command ∷ count ∷ []));
}

-- header, data and check byte
pub body_put : (h : Header) (n j k l header-sum check r : ℕ) (bytes xs hs ds cs : List ℕ)
    → n ≡ header_length h → header_length h + length bytes + 1 ≤ length xs → PartIs 0 (header_bytes h (length bytes)) hs header-sum
    → PartIs header-sum bytes ds check → PartIs 0 (check ∷ []) cs r → j ≡ n - 0 → k ≡ n + length bytes - n → l ≡ n + length bytes + 1 - (n + length bytes)
    → put_mid (n + length bytes) l (put_mid n k (put_mid 0 j xs hs) ds) cs ≡ stored xs 0 (body_bytes h bytes)
unfolding body_bytes protected_bytes
body_put h n j k l header-sum check r bytes xs hs ds cs e room p d c j-is k_is l-is =
    let header : List ℕ = header_bytes h (length bytes) in
    let count : n ≡ length header = e ∙ header_count h (length bytes) in
    let end : n + length bytes ≡ length (header ++ bytes) = omega (arith, count, length-append header bytes) in
    let one : put_mid 0 j xs hs ≡ stored xs 0 header = part_holds 0 j xs hs header p.holds (omega arith) (omega arith) in
    let two : put_mid n k (put_mid 0 j xs hs) ds ≡ stored xs 0 (header ++ bytes) = part_joins n k xs (put_mid 0 j xs hs) ds header bytes one count d.holds (omega arith) (omega arith) in
    let sum : check ≡ exclusive_or (header ++ bytes) = d.check ∙ ap (λ (y : ℕ). xor_from y bytes) p.check ∙ sym (xor_append 0 header bytes) in
    part_joins (n + length bytes) l xs (put_mid n k (put_mid 0 j xs hs) ds) cs (header ++ bytes) (exclusive_or (header ++ bytes) ∷ []) two
    end (c.holds ∙ ap (λ (y : ℕ). y ∷ []) sum) (omega arith) (omega arith)

-- the body behind the preamble
pub frame_put : (preamble : ℕ) (h : Header) (j k : ℕ) (bytes xs ps zs : List ℕ)
    → frame_length preamble h (length bytes) ≤ length xs → ps ≡ preamble_bytes (length (take j xs))
    → zs ≡ stored (take k (drop preamble (put_mid 0 j xs ps))) 0 (body_bytes h bytes) → j ≡ preamble - 0 → k ≡ length (put_mid 0 j xs ps) - preamble
    → put_mid preamble k (put_mid 0 j xs ps) zs ≡ stored xs 0 (frame_bytes preamble h bytes)
unfolding frame_bytes
frame_put preamble h j k bytes xs ps zs room p q j-is k_is =
    let count : length (take j xs) ≡ preamble = omega (arith, length-take-le j xs (omega arith)) in
    let one : put_mid 0 j xs ps ≡ stored xs 0 (preamble_bytes preamble) =
    part_holds 0 j xs ps (preamble_bytes preamble) (p ∙ ap preamble_bytes count) (omega (arith, preamble_count preamble)) (omega arith) in
    stored_parts preamble k xs (put_mid 0 j xs ps) zs (preamble_bytes preamble) (body_bytes h bytes) one (preamble_count preamble) q (omega arith)
