-- Words that are put among others, one a turn; and parts that are put one behind the other.
use Prim.Native.Nat.{ℕ, zero, suc, ◌+◌, ◌-◌, ◌≤◌, ◌<◌, min}
use native.Mathlib.Nat.{add-zero, add-suc, suc-add, zero-add}
use native.Mathlib.Omega.{arith}
use mathlib.Core.List.{List, [], ◌∷◌, ◌++◌, append-nil}
use mathlib.Core.Path.{◌≡◌, refl, sym, ap, ◌∙◌}
use lib.ListN.{length, take, drop, set, length-drop}
use lib.Seq.{length-take-le, drop-drop}
use Rattle.std.proofs.lemmas.List.{take-append-drop}
use borrow.Rule.Slice.PartMut.{put_mid}
use Rattle.base.specs.Store.{stored}
use Rattle.base.proofs.Stores.{stored_between, length_stored}

-- nothing is stored behind the last word
set_behind : (xs : List ℕ) (i v : ℕ) → length xs ≤ i → set xs i v ≡ xs
set_behind [] i v h = refl
set_behind (x ∷ xs) zero v h = absurd (omega arith)
set_behind (x ∷ xs) (suc i) v h = ap (λ (l : List ℕ). x ∷ l) (set_behind xs i v (omega arith))

stored_behind : (vs xs : List ℕ) (i : ℕ) → length xs ≤ i → stored xs i vs ≡ xs
unfolding stored
stored_behind [] xs i h = refl
stored_behind (v ∷ vs) xs i h = ap (λ (l : List ℕ). stored l (suc i) vs) (set_behind xs i v h) ∙ stored_behind vs xs (suc i) (omega arith)

drop_all : (n : ℕ) (xs : List ℕ) → length xs ≤ n → drop n xs ≡ []
drop_all zero [] h = refl
drop_all zero (x ∷ xs) h = absurd (omega arith)
drop_all (suc n) [] h = refl
drop_all (suc n) (x ∷ xs) h = drop_all n xs (omega arith)

stored_no_room : (vs xs : List ℕ) (i : ℕ) → min (length vs) (length xs - i) ≡ 0 → stored xs i vs ≡ xs
unfolding stored
stored_no_room [] xs i h = refl
stored_no_room (v ∷ vs) xs i h = stored_behind (v ∷ vs) xs i (omega arith)

join : (us vs xs : List ℕ) (i : ℕ) → stored (stored xs i us) (i + length us) vs ≡ stored xs i (us ++ vs)
unfolding stored
join [] vs xs i = ap (λ (k : ℕ). stored xs k vs) (add-zero i)
join (u ∷ us) vs xs i = ap (λ (k : ℕ). stored (stored (set xs i u) (suc i) us) k vs) (add-suc i (length us) ∙ sym (suc-add i (length us))) ∙ join us vs (set xs i u) (suc i)

-- of a part, as many words as there is room for
stored_room : (xs vs : List ℕ) (i n : ℕ) → n ≡ min (length vs) (length xs - i) → stored xs i vs ≡ stored xs i (take n vs)
stored_room xs vs i n e =
    let front : length (take n vs) ≡ n = length-take-le n vs (omega arith) in
    ap (λ (l : List ℕ). stored xs i l) (sym (take-append-drop n vs))
    ∙ sym (join (take n vs) (drop n vs) xs i)
    ∙ stored_no_room (drop n vs) (stored xs i (take n vs)) (i + length (take n vs)) (omega (arith, front, length-drop n vs, length_stored xs i (take n vs), e))

pub put_within : (xs vs ys : List ℕ) (i n m : ℕ) → i < length xs → n ≡ min (length vs) (length xs - i) → m ≡ n → ys ≡ take n vs → put_mid i m xs ys ≡ stored xs i vs
put_within xs vs ys i n m h e q p =
    let front : length (take n vs) ≡ n = length-take-le n vs (omega arith) in
    ap (λ (k : ℕ). put_mid i k xs ys) q
    ∙ ap (λ (l : List ℕ). put_mid i n xs l) p
    ∙ ap (λ (l : List ℕ). take i xs ++ (take n vs ++ l)) (drop-drop n i xs ∙ ap (λ (k : ℕ). drop (i + k) xs) (sym front))
    ∙ sym (stored_between xs i (take n vs) (omega (arith, front, e)))
    ∙ sym (stored_room xs vs i n e)

pub put_behind : (xs vs : List ℕ) (i : ℕ) → length xs ≤ i → xs ≡ stored xs i vs
put_behind xs vs i h = sym (stored_behind vs xs i h)

pub ruleset putting = (put_within, put_behind)

-- a part behind those that were put
pub part_behind : (n : ℕ) (before words after us vs : List ℕ) → words ≡ stored before 0 us → n ≡ length us → after ≡ stored words n vs → after ≡ stored before 0 (us ++ vs)
part_behind n before words after us vs p e q =
    q
    ∙ ap (λ (l : List ℕ). stored l n vs) p
    ∙ ap (λ (k : ℕ). stored (stored before 0 us) k vs) (e ∙ sym (zero-add (length us)))
    ∙ join us vs before 0

-- all words were put
pub all_put : (before words us : List ℕ) → words ≡ stored before 0 us → length us ≡ length before → words ≡ us
all_put before words us p e =
    p
    ∙ stored_between before 0 us (omega (arith, e))
    ∙ ap (λ (l : List ℕ). us ++ l) (drop_all (0 + length us) before (omega (arith, e)))
    ∙ append-nil us
