-- Laws of a line that is put into a lent buffer, word by word.
use Prim.Native.Nat.{ℕ}
use mathlib.Core.Path.{◌≡◌, subst}
use mathlib.Core.List.{List, [], ◌∷◌, ◌++◌}
use Rattle.texts.specs.Put.{PutIs}
use Rattle.texts.proofs.Puts.{put_then}
use Rattle.player_listing.specs.Lines.{Line}
use Rattle.player_listing.specs.Text.{decimal, type_name, master_digit, word, line_text}

-- a digit that a call answered, and the space behind it
pub put_word : (d e : ℕ) (before between after : List ℕ) (at m r : ℕ) → PutIs (d ∷ []) before at m between → PutIs (32 ∷ []) between m r after → d ≡ e → PutIs (e ∷ 32 ∷ []) before at r after
put_word d e before between after at m r p q same = subst (λ (b : ℕ). PutIs (b ∷ 32 ∷ []) before at r after) same (put_then (d ∷ []) (32 ∷ []) before between after at m r p q)

-- a line, word by word
pub put_line : (l : Line) (before a b c d e after : List ℕ) (at i j k m n r : ℕ)
    → PutIs (word (decimal l.tick)) before at i a → PutIs (word (decimal l.party)) a i j b → PutIs (word (type_name l.header.kind)) b j k c
    → PutIs (word (master_digit l.header.primary ∷ [])) c k m d → PutIs (decimal l.length) d m n e → PutIs (10 ∷ []) e n r after
    → PutIs (line_text l) before at r after
unfolding line_text
put_line l before a b c d e after at i j k m n r p q s t u v =
    let last = decimal l.length ++ (10 ∷ []) in
    let master = word (master_digit l.header.primary ∷ []) ++ last in
    let type = word (type_name l.header.kind) ++ master in
    let party = word (decimal l.party) ++ type in
    put_then (word (decimal l.tick)) party before a after at i r p
    (put_then (word (decimal l.party)) type a b after i j r q
    (put_then (word (type_name l.header.kind)) master b c after j k r s
    (put_then (word (master_digit l.header.primary ∷ [])) last c d after k m r t
    (put_then (decimal l.length) (10 ∷ []) d e after m n r u v))))
