-- Laws of a header's text that is put into a lent buffer, field by field.
use Prim.Native.Nat.{ℕ}
use mathlib.Core.Path.{◌≡◌, ap}
use mathlib.Core.List.{List, ◌++◌}
use Rattle.texts.specs.Digits.{decimal, bit_of}
use Rattle.texts.specs.Put.{PutIs}
use Rattle.texts.proofs.Puts.{put_then, put_same}
use Rattle.frame.specs.declared.Header.{Header}
use Rattle.example_texts.specs.Header.{type_name, long_name, primary_name, burst_name, address_name, header_text}

-- n is the type as a wider number
pub put_header : (h : Header) (n : ℕ) (before a b c d after : List ℕ) (at i j k m r : ℕ)
    → n ≡ h.kind → PutIs (type_name ++ decimal n) before at i a → PutIs (long_name ++ decimal (bit_of h.long)) a i j b
    → PutIs (primary_name ++ decimal (bit_of h.primary)) b j k c → PutIs (burst_name ++ decimal (bit_of h.burst)) c k m d
    → PutIs (address_name ++ decimal h.address) d m r after → PutIs (header_text h) before at r after
unfolding header_text
put_header h n before a b c d after at i j k m r e p q s t u =
    let type = type_name ++ decimal h.kind in
    let long = long_name ++ decimal (bit_of h.long) in
    let primary = primary_name ++ decimal (bit_of h.primary) in
    let burst = burst_name ++ decimal (bit_of h.burst) in
    let address = address_name ++ decimal h.address in
    put_then type (long ++ (primary ++ (burst ++ address))) before a after at i r (put_same (type_name ++ decimal n) type before at i a p (ap (λ (l : ℕ). type_name ++ decimal l) e))
    (put_then long (primary ++ (burst ++ address)) a b after i j r q
    (put_then primary (burst ++ address) b c after j k r s
    (put_then burst address c d after k m r t u)))
