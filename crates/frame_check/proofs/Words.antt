-- Laws of the exclusive-or by words: what a word of bytes folds to, and joining what was worked out of neighbouring parts.
use Prim.Native.Nat.{ℕ, zero, suc, ◌+◌, ◌-◌, ◌*◌, ◌/◌, ◌%◌, ◌^◌, ◌≤◌, ◌<◌}
use native.Mathlib.Omega.{arith}
use native.Mathlib.Nat.{zero-add, add_comm, mul_assoc, mod-eq_of_lt}
use mathlib.Core.Path.{◌≡◌, refl, sym, ap, ap₂, ◌∙◌, subst}
use mathlib.Core.List.{List, [], ◌∷◌, ◌++◌}
use lib.Arith.{digits_lt}
use lib.Bits.{bit_xor, xor_zero_r}
use lib.ListN.{length, take, drop, get_or, take-append-drop, length-take, length-drop}
use lib.Pow.{high, pow-add, pow_pos, shr-shr}
use lib.Seq.{take-add, take_at, take_all, drop_at, drop-drop, drop-cons, length-take-le}
use Rattle.frame.specs.Check.{xor_from, exclusive_or}
use Rattle.frame_check.specs.Words.{xor_at, every_other, every_other_of16, halves, folded, xor_onto, in_blocks, in_words, number, Bytes, none, byte_and, NumberIs}
use Rattle.frame.proofs.Checks.{xor_append}
use Rattle.frame_check.proofs.Xors.{xor_assoc, xor_swap, xor_pairs, halves_xor, halves_join, folded_small, folded_xor}

-- ---- neighbouring parts

xor_onto_lem : (x z : ℕ) (ys : List ℕ) → bit_xor x (xor_from z ys) ≡ xor_from (bit_xor x z) ys
unfolding xor_from
xor_onto_lem x z [] = refl
xor_onto_lem x z (y ∷ ys) = xor_onto_lem x (bit_xor z y) ys ∙ ap (λ (n : ℕ). xor_from n ys) (sym (xor_assoc x z y))

joined : (x : ℕ) (us vs : List ℕ) → bit_xor (xor_from x us) (exclusive_or vs) ≡ xor_from x (us ++ vs)
joined x us vs = xor_onto_lem (xor_from x us) 0 vs ∙ ap (λ (y : ℕ). xor_from y vs) (xor_zero_r (xor_from x us)) ∙ sym (xor_append x us vs)

-- what is worked out of the first m of them, and of the n behind these
taken : (x : ℕ) (bytes : List ℕ) (m n : ℕ) → bit_xor (xor_from x (take m bytes)) (xor_at bytes m n) ≡ xor_from x (take (m + n) bytes)
taken x bytes m n = joined x (take m bytes) (take n (drop m bytes)) ∙ ap (xor_from x) (sym (take-add m n bytes))

-- the same from a place on
taken_at : (x : ℕ) (bytes : List ℕ) (i m n : ℕ) → bit_xor (xor_from x (take m (drop i bytes))) (xor_at bytes (i + m) n) ≡ xor_from x (take (m + n) (drop i bytes))
taken_at x bytes i m n =
    ap (λ (l : List ℕ). bit_xor (xor_from x (take m (drop i bytes))) (exclusive_or (take n l))) (sym (drop-drop m i bytes)) ∙ taken x (drop i bytes) m n

-- ---- bytes as one number

wider : (k : ℕ) → 2 ^ (8 * suc k) ≡ 2 ^ (8 * k) * 256
wider k = ap (λ (n : ℕ). 2 ^ n) (eight k) ∙ pow-add 2 (8 * k) 8
  where
    eight : (k : ℕ) → 8 * suc k ≡ 8 * k + 8
    eight k = omega arith

-- the first k bytes are its low digits
number_split : (k : ℕ) (bytes : List ℕ) → number bytes ≡ number (drop k bytes) * 2 ^ (8 * k) + number (take k bytes)
unfolding number
number_split zero bytes = omega arith
number_split (suc k) [] = omega arith
number_split (suc k) (b ∷ bytes) =
    ap (λ (n : ℕ). n * 256 + b) (number_split k bytes)
    ∙ regroup (number (drop k bytes)) (2 ^ (8 * k)) (number (take k bytes)) b
    ∙ ap (λ (p : ℕ). number (drop k bytes) * p + (number (take k bytes) * 256 + b)) (sym (wider k))
  where
    regroup : (h p l b : ℕ) → (h * p + l) * 256 + b ≡ h * (p * 256) + (l * 256 + b)
    regroup h p l b = omega (arith, mul_assoc h p 256)

number_lt : (k : ℕ) (bytes : List ℕ) → Bytes bytes → number (take k bytes) < 2 ^ (8 * k)
unfolding number
number_lt zero bytes v = omega arith
number_lt (suc k) [] v = pow_pos (8 * suc k)
number_lt (suc k) (b ∷ bytes) (byte_and h v) = subst (λ (p : ℕ). number (take k bytes) * 256 + b < p) (sym (wider k)) (digits_lt (number_lt k bytes v) h)

-- without its first k bytes
number_above : (k : ℕ) (bytes : List ℕ) → Bytes bytes → number bytes / 2 ^ (8 * k) ≡ number (drop k bytes)
number_above k bytes v = ap (λ (n : ℕ). n / 2 ^ (8 * k)) (number_split k bytes) ∙ high (number (drop k bytes)) (8 * k) (number_lt k bytes v)

bytes_take : (k : ℕ) (bytes : List ℕ) → Bytes bytes → Bytes (take k bytes)
bytes_take zero bytes v = none
bytes_take (suc k) [] v = none
bytes_take (suc k) (b ∷ bytes) (byte_and h v) = byte_and h (bytes_take k bytes v)

bytes_drop : (k : ℕ) (bytes : List ℕ) → Bytes bytes → Bytes (drop k bytes)
bytes_drop zero bytes v = v
bytes_drop (suc k) [] v = none
bytes_drop (suc k) (b ∷ bytes) (byte_and h v) = bytes_drop k bytes v

bytes_append : (us vs : List ℕ) → Bytes us → Bytes vs → Bytes (us ++ vs)
bytes_append [] vs u v = v
bytes_append (b ∷ us) vs (byte_and h u) v = byte_and h (bytes_append us vs u v)

-- ---- what the number of at most eight bytes folds to

-- folding goes on, from at most k bytes to at most twice as many
abbrev Folds : (ℕ → ℕ) → ℕ → Type 0
Folds f k = (bytes : List ℕ) → Bytes bytes → length bytes ≤ k → f (number bytes) ≡ exclusive_or bytes

folds_one : Folds (λ n. n) 1
unfolding number xor_from
folds_one [] v h = refl
folds_one (b ∷ []) v h = zero-add b
folds_one (b ∷ c ∷ bytes) v h = absurd (omega arith)

folds_twice : (f : ℕ → ℕ) (k : ℕ) → ((a b : ℕ) → f (bit_xor a b) ≡ bit_xor (f a) (f b)) → Folds f k → Folds (λ n. f (halves (8 * k) n)) (k + k)
folds_twice f k spread ih bytes v h =
    ap (λ (n : ℕ). f (halves (8 * k) n)) (number_split k bytes)
    ∙ ap f (halves_join (8 * k) (number (drop k bytes)) (number (take k bytes)) (number_lt k bytes v))
    ∙ spread (number (take k bytes)) (number (drop k bytes))
    ∙ ap₂ bit_xor (ih (take k bytes) (bytes_take k bytes v) (omega (arith, length-take k bytes))) (ih (drop k bytes) (bytes_drop k bytes v) (omega (arith, length-drop k bytes)))
    ∙ joined 0 (take k bytes) (drop k bytes)
    ∙ ap exclusive_or (take-append-drop k bytes)

folds_word : Folds folded 8
folds_word =
    folds_twice (λ n. halves 8 (halves 16 n)) 4 (λ a b. ap (halves 8) (halves_xor 16 a b) ∙ halves_xor 8 _ _)
    (folds_twice (halves 8) 2 (halves_xor 8)
    (folds_twice (λ n. n) 1 (λ a b. refl) folds_one))

-- a byte by itself
folded_byte : (b : ℕ) → b < 256 → folded b ≡ b
unfolding number xor_from
folded_byte b h = ap folded (sym (zero-add b)) ∙ folds_word (b ∷ []) (byte_and h none) (omega arith)

-- a word folds to a byte
pub folded_word : (w : ℕ) → w < 2 ^ 64 → folded w % 256 ≡ folded w
folded_word w h = mod-eq_of_lt (folded_small w h)

-- ---- a word, put together

one_byte : (bytes : List ℕ) (i n : ℕ) → i < length bytes → n ≡ get_or bytes i 0 → n ≤ 255 → NumberIs bytes i 1 n
unfolding number
one_byte bytes i n h e small = record { is = sym (zero-add n) ∙ ap number one; of_bytes = subst Bytes one (byte_and (omega arith) none) }
  where
    one : n ∷ [] ≡ take 1 (drop i bytes)
    one = ap (λ (b : ℕ). b ∷ []) e ∙ sym (ap (take 1) (drop-cons bytes i 0 h))

-- m bytes and the n behind them
more_bytes : (bytes : List ℕ) (i m n a b r : ℕ) → i + m ≤ length bytes → NumberIs bytes i m a → NumberIs bytes (i + m) n b → r ≡ a + b * 2 ^ (8 * m) → NumberIs bytes i (m + n) r
more_bytes bytes i m n a b r h u v e = record { is = e ∙ value; of_bytes = subst Bytes (sym parts) (bytes_append us vs u.of_bytes of_vs) }
  where
    us : List ℕ
    us = take m (drop i bytes)

    vs : List ℕ
    vs = take n (drop m (drop i bytes))

    parts : take (m + n) (drop i bytes) ≡ us ++ vs
    parts = take-add m n (drop i bytes)

    of_vs : Bytes vs
    of_vs = subst (λ (l : List ℕ). Bytes (take n l)) (sym (drop-drop m i bytes)) v.of_bytes

    full : length us ≡ m
    full = length-take-le m (drop i bytes) (omega (arith, length-drop i bytes))

    value : a + b * 2 ^ (8 * m) ≡ number (take (m + n) (drop i bytes))
    value =
        add_comm a (b * 2 ^ (8 * m))
        ∙ ap₂ (λ (p q : ℕ). q * 2 ^ (8 * m) + p) u.is (v.is ∙ ap (λ (l : List ℕ). number (take n l)) (sym (drop-drop m i bytes)))
        ∙ sym (number_split m (us ++ vs) ∙ ap₂ (λ (p q : List ℕ). number q * 2 ^ (8 * m) + number p) (take_at us vs m full) (drop_at us vs m full))
        ∙ ap number (sym parts)

-- a word of two halves
pub word_is : (bytes : List ℕ) (i a b r : ℕ) → i + 8 ≤ length bytes → NumberIs bytes i 4 a → NumberIs bytes (i + 4) 4 b → r ≡ a + b * 4294967296 → NumberIs bytes i 8 r
word_is bytes i a b r h u v e = more_bytes bytes i 4 4 a b r (omega arith) u v e

pub word_loaded : (bytes : List ℕ) (i r : ℕ) → i + 8 ≤ length bytes → ((k : ℕ) → get_or bytes k 0 < 256)
    → r ≡ get_or bytes i 0 + get_or bytes (i + 1) 0 * 2 ^ 8 + get_or bytes (i + 2) 0 * 2 ^ 16 + get_or bytes (i + 3) 0 * 2 ^ 24 + get_or bytes (i + 4) 0 * 2 ^ 32 + get_or bytes (i + 5) 0 * 2 ^ 40 + get_or bytes (i + 6) 0 * 2 ^ 48 + get_or bytes (i + 7) 0 * 2 ^ 56
    → NumberIs bytes i 8 r
word_loaded bytes i r h small e =
    more_bytes bytes i 4 4 (quad i) (quad (i + 4)) r (omega arith) (quad_is i (omega arith)) (quad_is (i + 4) (omega arith)) (e ∙ regroup)
  where
    byte : ℕ → ℕ
    byte j = get_or bytes j 0

    pair : ℕ → ℕ
    pair j = byte j + byte (j + 1) * 256

    quad : ℕ → ℕ
    quad j = pair j + pair (j + 2) * 65536

    at : (m n : ℕ) → m ≡ n → byte m ≡ byte n
    at m n e = ap byte e

    regroup : byte i + byte (i + 1) * 2 ^ 8 + byte (i + 2) * 2 ^ 16 + byte (i + 3) * 2 ^ 24 + byte (i + 4) * 2 ^ 32 + byte (i + 5) * 2 ^ 40 + byte (i + 6) * 2 ^ 48 + byte (i + 7) * 2 ^ 56 ≡ quad i + quad (i + 4) * 2 ^ (8 * 4)
    regroup = omega (arith, at (i + 2 + 1) (i + 3) (omega arith), at (i + 4 + 1) (i + 5) (omega arith), at (i + 4 + 2) (i + 6) (omega arith), at (i + 4 + 2 + 1) (i + 7) (omega arith))

    pair_is : (j : ℕ) → j + 2 ≤ length bytes → NumberIs bytes j 2 (pair j)
    pair_is j k = more_bytes bytes j 1 1 (byte j) (byte (j + 1)) (pair j) (omega arith) (one_byte bytes j (byte j) (omega arith) refl (omega (arith, small j))) (one_byte bytes (j + 1) (byte (j + 1)) (omega arith) refl (omega (arith, small (j + 1)))) refl

    quad_is : (j : ℕ) → j + 4 ≤ length bytes → NumberIs bytes j 4 (quad j)
    quad_is j k = more_bytes bytes j 2 2 (pair j) (pair (j + 2)) (quad j) (omega arith) (pair_is j (omega arith)) (pair_is (j + 2) (omega arith)) refl

-- what it folds to
pub word_folds : (bytes : List ℕ) (i w : ℕ) → NumberIs bytes i 8 w → folded w ≡ xor_at bytes i 8
word_folds bytes i w v = ap folded v.is ∙ folds_word (take 8 (drop i bytes)) v.of_bytes (omega (arith, length-take 8 (drop i bytes)))

-- every other word of eight
pub four_words : (bytes : List ℕ) (i a b c d r : ℕ) → NumberIs bytes i 8 a → NumberIs bytes (i + 16) 8 b → NumberIs bytes (i + 32) 8 c → NumberIs bytes (i + 48) 8 d → r ≡ bit_xor (bit_xor a b) (bit_xor c d) → folded r ≡ every_other bytes i
four_words bytes i a b c d r p q u v e =
    ap folded e ∙ folded_xor (bit_xor a b) (bit_xor c d)
    ∙ ap₂ bit_xor (folded_xor a b ∙ ap₂ bit_xor (word_folds bytes i a p) (word_folds bytes (i + 16) b q))
    (folded_xor c d ∙ ap₂ bit_xor (word_folds bytes (i + 32) c u) (word_folds bytes (i + 48) d v))

-- neighbouring parts
both : (bytes : List ℕ) (i m n : ℕ) → bit_xor (xor_at bytes i m) (xor_at bytes (i + m) n) ≡ xor_at bytes i (m + n)
both bytes i m n = taken_at 0 bytes i m n

-- both halves of eight words
eight_words : (bytes : List ℕ) (i : ℕ) → bit_xor (every_other bytes i) (every_other bytes (i + 8)) ≡ xor_at bytes i 64
eight_words bytes i =
    xor_pairs (eight i) (eight (i + 16)) (eight (i + 32)) (eight (i + 48)) (eight (i + 8)) (eight (i + 8 + 16)) (eight (i + 8 + 32)) (eight (i + 8 + 48))
    ∙ ap₂ bit_xor (ap₂ bit_xor (both bytes i 8 8) (two 16) ∙ both bytes i 16 16) (ap₂ bit_xor (two 32) (two 48) ∙ behind)
    ∙ both bytes i 32 32
  where
    eight : ℕ → ℕ
    eight j = xor_at bytes j 8

    shift : (k : ℕ) → i + 8 + k ≡ i + k + 8
    shift k = omega arith

    two : (k : ℕ) → bit_xor (xor_at bytes (i + k) 8) (xor_at bytes (i + 8 + k) 8) ≡ xor_at bytes (i + k) 16
    two k = ap (λ (j : ℕ). bit_xor (xor_at bytes (i + k) 8) (xor_at bytes j 8)) (shift k) ∙ both bytes (i + k) 8 8

    place : i + 48 ≡ i + 32 + 16
    place = omega arith

    behind : bit_xor (xor_at bytes (i + 32) 16) (xor_at bytes (i + 48) 16) ≡ xor_at bytes (i + 32) 32
    behind = ap (λ (j : ℕ). bit_xor (xor_at bytes (i + 32) 16) (xor_at bytes j 16)) place ∙ both bytes (i + 32) 16 16

-- every other word of sixteen
pub eight_of_16 : (bytes : List ℕ) (i a b r : ℕ) → folded a ≡ every_other bytes i → folded b ≡ every_other bytes (i + 64) → r ≡ bit_xor a b → folded r ≡ every_other_of16 bytes i
eight_of_16 bytes i a b r p q e = ap folded e ∙ folded_xor a b ∙ ap₂ bit_xor p q

-- both halves of sixteen words
sixteen_words : (bytes : List ℕ) (i : ℕ) → bit_xor (every_other_of16 bytes i) (every_other_of16 bytes (i + 8)) ≡ xor_at bytes i 128
sixteen_words bytes i =
    xor_swap (every_other bytes i) (every_other bytes (i + 64)) (every_other bytes (i + 8)) (every_other bytes (i + 8 + 64))
    ∙ ap₂ bit_xor (eight_words bytes i) (ap (λ (j : ℕ). bit_xor (every_other bytes (i + 64)) (every_other bytes j)) place ∙ eight_words bytes (i + 64))
    ∙ both bytes i 64 64
  where
    place : i + 8 + 64 ≡ i + 64 + 8
    place = omega arith

-- ---- the loops

-- over blocks of sixteen words, with two sums
pub record Blocked (x : ℕ) (bytes : List ℕ) (n a b i : ℕ) : Type 0 where
  pub within : i ≤ n
  pub so_far : folded (bit_xor a b) ≡ xor_from x (take (i * 128) bytes)

pub blocked_none : (x w : ℕ) (bytes : List ℕ) (n : ℕ) → w ≡ x → w ≤ 255 → Blocked x bytes n w 0 0
unfolding xor_from
blocked_none x w bytes n e h = record { within = omega arith; so_far = ap folded (xor_zero_r w) ∙ folded_byte w (omega arith) ∙ e }

pub blocked_more : (x : ℕ) (bytes : List ℕ) (n a b i c d : ℕ) → Blocked x bytes n a b i → i < n → folded c ≡ every_other_of16 bytes (i * 128) → folded d ≡ every_other_of16 bytes (i * 128 + 8) → Blocked x bytes n (bit_xor a c) (bit_xor b d) (i + 1)
blocked_more x bytes n a b i c d v h p q = record {
  within = omega arith;
  so_far =
      ap folded (xor_swap a c b d) ∙ folded_xor (bit_xor a b) (bit_xor c d)
      ∙ ap₂ bit_xor v.so_far (folded_xor c d ∙ ap₂ bit_xor p q ∙ sixteen_words bytes (i * 128))
      ∙ taken x bytes (i * 128) 128
      ∙ ap (λ (m : ℕ). xor_from x (take m bytes)) (next i);
}
  where
    next : (i : ℕ) → i * 128 + 128 ≡ (i + 1) * 128
    next i = omega arith

pub blocked_all : (x : ℕ) (bytes : List ℕ) (n a b i r : ℕ) → Blocked x bytes n a b i → n ≤ i → r ≡ bit_xor a b → folded r ≡ xor_from x (take (n * 128) bytes)
blocked_all x bytes n a b i r v h e =
    let same : i ≡ n = omega (arith, v.within) in
    ap folded e ∙ v.so_far ∙ ap (λ (m : ℕ). xor_from x (take (m * 128) bytes)) same

-- over words, from a place on
pub record Worded (first : ℕ) (bytes : List ℕ) (start count sum i : ℕ) : Type 0 where
  pub within : i ≤ count
  pub so_far : folded sum ≡ xor_onto first bytes start (i * 8)

pub worded_none : (first : ℕ) (bytes : List ℕ) (start count : ℕ) → Worded first bytes start count first 0
unfolding xor_from
worded_none first bytes start count = record { within = omega arith; so_far = refl }

pub worded_more : (first : ℕ) (bytes : List ℕ) (start count sum i w : ℕ) → Worded first bytes start count sum i → i < count → NumberIs bytes (start + i * 8) 8 w → Worded first bytes start count (bit_xor sum w) (i + 1)
worded_more first bytes start count sum i w v h e = record {
  within = omega arith;
  so_far =
      folded_xor sum w ∙ ap₂ bit_xor v.so_far (word_folds bytes (start + i * 8) w e) ∙ taken_at (folded first) bytes start (i * 8) 8
      ∙ ap (λ (m : ℕ). xor_from (folded first) (take m (drop start bytes))) (next i);
}
  where
    next : (i : ℕ) → i * 8 + 8 ≡ (i + 1) * 8
    next i = omega arith

pub worded_all : (first : ℕ) (bytes : List ℕ) (start count sum i : ℕ) → Worded first bytes start count sum i → count ≤ i → folded sum ≡ xor_onto first bytes start (count * 8)
worded_all first bytes start count sum i v h =
    let same : i ≡ count = omega (arith, v.within) in
    v.so_far ∙ ap (λ (m : ℕ). xor_from (folded first) (take (m * 8) (drop start bytes))) same

-- ---- the half block

pub no_half : (first : ℕ) (bytes : List ℕ) → length bytes % 128 < 64 → folded first ≡ xor_onto first bytes (in_blocks bytes) (length bytes % 128 / 64 * 64)
unfolding xor_from
no_half first bytes h = ap (λ (n : ℕ). xor_onto first bytes (in_blocks bytes) n) none_left
  where
    none_left : 0 ≡ length bytes % 128 / 64 * 64
    none_left = omega arith

pub half_more : (first : ℕ) (bytes : List ℕ) (a b r : ℕ)
    → 64 ≤ length bytes % 128
    → folded a ≡ every_other bytes (in_blocks bytes)
    → folded b ≡ every_other bytes (in_blocks bytes + 8)
    → r ≡ bit_xor (bit_xor first a) b
    → folded r ≡ xor_onto first bytes (in_blocks bytes) (length bytes % 128 / 64 * 64)
half_more first bytes a b r h p q e =
    ap folded (e ∙ xor_assoc first a b) ∙ folded_xor first (bit_xor a b)
    ∙ ap (bit_xor (folded first)) (folded_xor a b ∙ ap₂ bit_xor p q ∙ eight_words bytes (in_blocks bytes))
    ∙ xor_onto_lem (folded first) 0 (take 64 (drop (in_blocks bytes) bytes))
    ∙ ap₂ (λ (x n : ℕ). xor_from x (take n (drop (in_blocks bytes) bytes))) (xor_zero_r (folded first)) one
  where
    one : 64 ≡ length bytes % 128 / 64 * 64
    one = omega arith

-- ---- all whole words

-- what was worked out of the first m bytes goes on with the n behind them
goes_on : (x : ℕ) (bytes : List ℕ) (m n a b : ℕ) → folded a ≡ xor_from x (take m bytes) → folded b ≡ xor_onto a bytes m n → folded b ≡ xor_from x (take (m + n) bytes)
goes_on x bytes m n a b p q =
    q ∙ ap (λ (y : ℕ). xor_from y (take n (drop m bytes))) p ∙ sym (xor_append x (take m bytes) (take n (drop m bytes))) ∙ ap (xor_from x) (sym (take-add m n bytes))

-- blocks alone
pub blocks_alone : (x : ℕ) (bytes : List ℕ) (a : ℕ) → length bytes % 128 < 8 → folded a ≡ xor_from x (take (in_blocks bytes) bytes) → folded a ≡ xor_from x (take (in_words bytes) bytes)
blocks_alone x bytes a h p = p ∙ ap (λ (n : ℕ). xor_from x (take n bytes)) same
  where
    same : in_blocks bytes ≡ in_words bytes
    same = omega arith

-- blocks, half a block, and the words behind them
pub all_words : (x : ℕ) (bytes : List ℕ) (a b c : ℕ)
    → folded a ≡ xor_from x (take (in_blocks bytes) bytes)
    → folded b ≡ xor_onto a bytes (in_blocks bytes) (length bytes % 128 / 64 * 64)
    → folded c ≡ xor_onto b bytes (length bytes / 64 * 64) (length bytes % 64 / 8 * 8)
    → folded c ≡ xor_from x (take (in_words bytes) bytes)
all_words x bytes a b c p q u =
    goes_on x bytes (length bytes / 64 * 64) (length bytes % 64 / 8 * 8) b c
    (goes_on x bytes (in_blocks bytes) (length bytes % 128 / 64 * 64) a b p q ∙ ap (λ (n : ℕ). xor_from x (take n bytes)) halves_end)
    u
    ∙ ap (λ (n : ℕ). xor_from x (take n bytes)) words_end
  where
    halves_end : in_blocks bytes + length bytes % 128 / 64 * 64 ≡ length bytes / 64 * 64
    halves_end = omega arith

    words_end : length bytes / 64 * 64 + length bytes % 64 / 8 * 8 ≡ in_words bytes
    words_end = omega arith

-- ---- the last bytes: those behind the whole words are the high ones of the last eight

pub last_bytes : (bytes : List ℕ) (w r : ℕ) → 8 ≤ length bytes → NumberIs bytes (length bytes - 8) 8 w → r ≡ w / 2 ^ 8 / 2 ^ (56 - length bytes % 8 * 8) → folded r ≡ exclusive_or (drop (in_words bytes) bytes)
last_bytes bytes w r h v e =
    ap folded (e ∙ shr-shr w 8 (56 - length bytes % 8 * 8) ∙ ap₂ (λ (n k : ℕ). n / 2 ^ k) v.is bits ∙ number_above above eight v.of_bytes)
    ∙ folds_word (drop above eight) (bytes_drop above eight v.of_bytes) (omega (arith, length-drop above eight, length-take 8 (drop from bytes)))
    ∙ ap exclusive_or (ap (drop above) (take_all 8 (drop from bytes) (omega (arith, length-drop from bytes))) ∙ drop-drop above from bytes ∙ ap (λ (i : ℕ). drop i bytes) place)
  where
    from : ℕ
    from = length bytes - 8

    above : ℕ
    above = 8 - length bytes % 8

    bits : 8 + (56 - length bytes % 8 * 8) ≡ 8 * above
    bits = omega arith

    eight : List ℕ
    eight = take 8 (drop from bytes)

    place : from + above ≡ in_words bytes
    place = omega arith

pub last_added : (sum : ℕ) (bytes : List ℕ) (end r : ℕ) → folded end ≡ exclusive_or (drop (in_words bytes) bytes) → r ≡ folded (bit_xor sum end) → r ≡ xor_from (folded sum) (drop (in_words bytes) bytes)
last_added sum bytes end r u e =
    e ∙ folded_xor sum end ∙ ap (bit_xor (folded sum)) u ∙ xor_onto_lem (folded sum) 0 (drop (in_words bytes) bytes)
    ∙ ap (λ (x : ℕ). xor_from x (drop (in_words bytes) bytes)) (xor_zero_r (folded sum))

-- whole words, and the bytes behind them
pub with_last : (x : ℕ) (bytes : List ℕ) (sum r : ℕ) → folded sum ≡ xor_from x (take (in_words bytes) bytes) → r ≡ xor_from (folded sum) (drop (in_words bytes) bytes) → r ≡ xor_from x bytes
with_last x bytes sum r p e =
    e ∙ ap (λ (y : ℕ). xor_from y (drop (in_words bytes) bytes)) p ∙ sym (xor_append x (take (in_words bytes) bytes) (drop (in_words bytes) bytes))
    ∙ ap (xor_from x) (take-append-drop (in_words bytes) bytes)

-- one word
pub one_word : (x : ℕ) (bytes : List ℕ) (w a r : ℕ)
    → 8 ≤ length bytes
    → length bytes < 16
    → w ≡ x
    → w ≤ 255
    → NumberIs bytes 0 8 a
    → r ≡ xor_from (folded (bit_xor w a)) (drop (in_words bytes) bytes)
    → r ≡ xor_from x bytes
unfolding xor_from
one_word x bytes w a r h k same small v e = with_last x bytes (bit_xor w a) r word e
  where
    eight : 8 ≡ in_words bytes
    eight = omega arith

    word : folded (bit_xor w a) ≡ xor_from x (take (in_words bytes) bytes)
    word =
        folded_xor w a ∙ ap₂ bit_xor (folded_byte w (omega arith) ∙ same) (word_folds bytes 0 a v) ∙ taken x bytes 0 8
        ∙ ap (λ (n : ℕ). xor_from x (take n bytes)) eight

-- two to seven
pub few_words : (x : ℕ) (bytes : List ℕ) (w sum r : ℕ)
    → length bytes < 64
    → w ≡ x
    → w ≤ 255
    → folded sum ≡ xor_onto w bytes 0 (length bytes % 64 / 8 * 8)
    → r ≡ xor_from (folded sum) (drop (in_words bytes) bytes)
    → r ≡ xor_from x bytes
few_words x bytes w sum r h same small p e =
    with_last x bytes sum r (p ∙ ap₂ (λ (y n : ℕ). xor_from y (take n bytes)) (folded_byte w (omega arith) ∙ same) count) e
  where
    count : length bytes % 64 / 8 * 8 ≡ in_words bytes
    count = omega arith
