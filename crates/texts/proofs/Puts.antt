-- Laws of text that is put into a lent buffer.
use Prim.Native.Nat.{ℕ, zero, suc, ◌+◌, ◌-◌, ◌/◌, ◌%◌, ◌≤◌, ◌<◌}
use native.Mathlib.Nat.{add-zero}
use native.Mathlib.Numerals.{add-one}
use native.Mathlib.Omega.{arith}
use mathlib.Core.Path.{◌≡◌, refl, sym, ap, subst, ◌∙◌}
use mathlib.Core.Bool.{Bool, true, false}
use mathlib.Core.List.{List, [], ◌∷◌, ◌++◌}
use lib.ListN.{length, take, get_or, set, length-set}
use lib.Seq.{take_all}
use Rattle.base.specs.Choice.{when◌then◌else◌, ◌<?◌}
use Rattle.base.specs.Store.{stored}
use Rattle.base.proofs.Choices.{if_below, if_not_below}
use Rattle.base.proofs.Stores.{take_more}
use Rattle.texts.specs.Put.{Out, out_of, put_byte, put, PutIs}
use Rattle.texts.specs.Decimal.{decimal_of}
use Rattle.texts.specs.Digits.{digit_of, hexadecimal, spaced}

-- two texts, one behind the other, are one
pub put_append : (us vs : List ℕ) (o : Out) → put o (us ++ vs) ≡ put (put o us) vs
unfolding put
put_append [] vs o = refl
put_append (u ∷ us) vs o = put_append us vs (put_byte o u)

pub put_then : (us vs before between after : List ℕ) (at m r : ℕ) → PutIs us before at m between → PutIs vs between m r after → PutIs (us ++ vs) before at r after
put_then us vs before between after at m r p q = record {
  out = q.out ∙ ap (λ (o : Out). put o vs) p.out ∙ sym (put_append us vs (out_of before at));
}

pub put_none : (before : List ℕ) (at : ℕ) → PutIs [] before at at before
unfolding put
put_none before at = record { out = refl }

-- one byte
pub put_stored : (b : ℕ) (before : List ℕ) (at : ℕ) → at < length before → PutIs (b ∷ []) before at (at + 1) (set before at b)
unfolding put put_byte
put_stored b before at h = record { out = if_below at (length before) (out_of (set before at b) (at + 1)) (out_of (set before at b) (at + 1)) (out_of before at) h refl }

pub put_full : (b : ℕ) (before : List ℕ) (at : ℕ) → length before ≤ at → PutIs (b ∷ []) before at at before
unfolding put put_byte
put_full b before at h = record { out = if_not_below at (length before) (out_of before at) (out_of (set before at b) (at + 1)) (out_of before at) h refl }

-- the buffer keeps its length
length_byte : (o : Out) (b : ℕ) → length (put_byte o b).bytes ≡ length o.bytes
unfolding put_byte when◌then◌else◌
length_byte o b = go (o.at <? length o.bytes)
  where
    go : (t : Bool) → length (when t then out_of (set o.bytes o.at b) (o.at + 1) else o).bytes ≡ length o.bytes
    go true = length-set o.bytes o.at b
    go false = refl

length_put : (text : List ℕ) (o : Out) → length (put o text).bytes ≡ length o.bytes
unfolding put
length_put [] o = refl
length_put (b ∷ text) o = length_put text (put_byte o b) ∙ length_byte o b

pub put_length : (text before : List ℕ) (at r : ℕ) (after : List ℕ) → PutIs text before at r after → length after ≡ length before
put_length text before at r after p = ap (λ (o : Out). length o.bytes) p.out ∙ length_put text (out_of before at)

-- text that fits is stored where it was put, and the place behind it is the text's end
pub put_fits : (text bytes : List ℕ) (at : ℕ) → at + length text ≤ length bytes → put (out_of bytes at) text ≡ out_of (stored bytes at text) (at + length text)
unfolding put put_byte stored
put_fits [] bytes at h = ap (out_of bytes) (sym (add-zero at))
put_fits (b ∷ text) bytes at h =
    ap (λ (o : Out). put o text) (sym (if_below at (length bytes) (out_of (set bytes at b) (suc at)) (out_of (set bytes at b) (at + 1)) (out_of bytes at) (omega arith) (ap (out_of (set bytes at b)) (sym (add-one at)))))
    ∙ put_fits text (set bytes at b) (suc at) (omega (arith, length-set bytes at b))
    ∙ ap (out_of (stored (set bytes at b) (suc at) text)) (omega arith)

pub put_front : (text bytes : List ℕ) → length text ≤ length bytes → put (out_of bytes 0) text ≡ out_of (stored bytes 0 text) (length text)
put_front text bytes h = put_fits text bytes 0 (omega arith) ∙ ap (out_of (stored bytes 0 text)) (omega arith)

-- the same text, said otherwise
pub put_same : (us vs before : List ℕ) (at r : ℕ) (after : List ℕ) → PutIs us before at r after → us ≡ vs → PutIs vs before at r after
put_same us vs before at r after p e = subst (λ (l : List ℕ). PutIs l before at r after) e p

-- a loop that puts a text, one byte a turn: the first i of its bytes are put
pub record Putting (text before : List ℕ) (at : ℕ) (bytes : List ℕ) (place i : ℕ) : Type 0 where
  pub within : i ≤ length text
  pub same_length : length bytes ≡ length before
  pub so_far : PutIs (take i text) before at place bytes

pub putting_none : (text before : List ℕ) (at : ℕ) → Putting text before at before at 0
putting_none text before at = record { within = omega arith; same_length = refl; so_far = put_none before at }

pub putting_more : (text before : List ℕ) (at : ℕ) (bytes : List ℕ) (place i : ℕ) (r : ℕ) (after : List ℕ) → Putting text before at bytes place i → i < length text
    → PutIs (get_or text i 0 ∷ []) bytes place r after → Putting text before at after r (i + 1)
putting_more text before at bytes place i r after v h p = record {
  within = omega arith;
  same_length = put_length (get_or text i 0 ∷ []) bytes place r after p ∙ v.same_length;
  so_far = subst (λ (l : List ℕ). PutIs l before at r after) (take_more text i h) (put_then (take i text) (get_or text i 0 ∷ []) before bytes after at place r v.so_far p);
}

pub putting_all : (text before : List ℕ) (at : ℕ) (bytes : List ℕ) (place i : ℕ) → Putting text before at bytes place i → length text ≤ i → PutIs text before at place bytes
putting_all text before at bytes place i v h = subst (λ (l : List ℕ). PutIs l before at place bytes) (take_all i text h) v.so_far

pub ruleset putting = (put_stored, put_full, putting_none, putting_more, putting_all)

-- a number in decimal
pub digits_none : (digits n : ℕ) (before : List ℕ) (at : ℕ) → digits ≡ 0 → PutIs (decimal_of digits n) before at at before
unfolding decimal_of
digits_none digits n before at e = subst (λ (d : ℕ). PutIs (decimal_of d n) before at at before) (sym e) (put_none before at)

pub digits_last : (digits n : ℕ) (before : List ℕ) (at r : ℕ) (after : List ℕ) → (digits ≡ 0 → ⊥) → n < 10 → PutIs ((48 + n) ∷ []) before at r after → PutIs (decimal_of digits n) before at r after
unfolding decimal_of
digits_last zero n before at r after f h p = absurd (f refl)
digits_last (suc digits) n before at r after f h p =
    subst (λ (l : List ℕ). PutIs l before at r after) (if_below n 10 ((48 + n) ∷ []) ((48 + n) ∷ []) (decimal_of digits (n / 10) ++ ((48 + n % 10) ∷ [])) h refl) p

pub digits_more : (digits n : ℕ) (before between : List ℕ) (at m r : ℕ) (after : List ℕ) → (digits ≡ 0 → ⊥) → 10 ≤ n
    → PutIs (decimal_of (digits - 1) (n / 10)) before at m between → PutIs ((48 + n % 10) ∷ []) between m r after → PutIs (decimal_of digits n) before at r after
unfolding decimal_of
digits_more zero n before between at m r after f h p q = absurd (f refl)
digits_more (suc digits) n before between at m r after f h p q =
    let fewer : suc digits - 1 ≡ digits = omega arith in
    subst (λ (l : List ℕ). PutIs l before at r after) (if_not_below n 10 (decimal_of digits (n / 10) ++ ((48 + n % 10) ∷ [])) ((48 + n) ∷ []) (decimal_of digits (n / 10) ++ ((48 + n % 10) ∷ [])) h refl)
    (put_then (decimal_of digits (n / 10)) ((48 + n % 10) ∷ []) before between after at m r (subst (λ (d : ℕ). PutIs (decimal_of d (n / 10)) before at m between) fewer p) q)

pub ruleset digits = (digits_none, digits_last, digits_more)

-- a byte in hexadecimal, by the digits that two calls answered
pub put_hexadecimal : (capital : Bool) (byte a b : ℕ) (before between after : List ℕ) (at m r : ℕ)
    → a ≡ digit_of capital (byte / 16) → b ≡ digit_of capital (byte % 16) → PutIs (a ∷ []) before at m between → PutIs (b ∷ []) between m r after
    → PutIs (hexadecimal capital byte) before at r after
put_hexadecimal capital byte a b before between after at m r e f p q =
    subst (λ (l : List ℕ). PutIs l before at r after) (λ i. e i ∷ f i ∷ []) (put_then (a ∷ []) (b ∷ []) before between after at m r p q)

-- a byte with a space in front
pub put_spaced : (byte : ℕ) (before between after : List ℕ) (at m r : ℕ) → PutIs (32 ∷ []) before at m between → PutIs (hexadecimal false byte) between m r after → PutIs (spaced (byte ∷ [])) before at r after
unfolding spaced
put_spaced byte before between after at m r p q = put_then (32 ∷ []) (hexadecimal false byte) before between after at m r p q

spaced_append : (us vs : List ℕ) → spaced (us ++ vs) ≡ spaced us ++ spaced vs
unfolding spaced
spaced_append [] vs = refl
spaced_append (u ∷ us) vs = ap (λ (l : List ℕ). 32 ∷ (hexadecimal false u ++ l)) (spaced_append us vs)

-- a loop that puts bytes so: the first i of them are put
pub record Spacing (bytes before : List ℕ) (at : ℕ) (out : List ℕ) (place i : ℕ) : Type 0 where
  pub within : i ≤ length bytes
  pub same_length : length out ≡ length before
  pub so_far : PutIs (spaced (take i bytes)) before at place out

pub spacing_none : (bytes before : List ℕ) (at : ℕ) → Spacing bytes before at before at 0
unfolding spaced
spacing_none bytes before at = record { within = omega arith; same_length = refl; so_far = put_none before at }

pub spacing_more : (bytes before : List ℕ) (at : ℕ) (out : List ℕ) (place i : ℕ) (r : ℕ) (after : List ℕ) → Spacing bytes before at out place i → i < length bytes
    → PutIs (spaced (get_or bytes i 0 ∷ [])) out place r after → Spacing bytes before at after r (i + 1)
spacing_more bytes before at out place i r after v h p = record {
  within = omega arith;
  same_length = put_length (spaced (get_or bytes i 0 ∷ [])) out place r after p ∙ v.same_length;
  so_far = subst (λ (l : List ℕ). PutIs l before at r after) (sym (spaced_append (take i bytes) (get_or bytes i 0 ∷ [])) ∙ ap spaced (take_more bytes i h))
      (put_then (spaced (take i bytes)) (spaced (get_or bytes i 0 ∷ [])) before out after at place r v.so_far p);
}

pub spacing_all : (bytes before : List ℕ) (at : ℕ) (out : List ℕ) (place i : ℕ) → Spacing bytes before at out place i → length bytes ≤ i → PutIs (spaced bytes) before at place out
spacing_all bytes before at out place i v h = subst (λ (l : List ℕ). PutIs (spaced l) before at place out) (take_all i bytes h) v.so_far

pub ruleset spacing = (spacing_none, spacing_more, spacing_all)
