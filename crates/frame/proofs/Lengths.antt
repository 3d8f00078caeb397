-- How long the parts of a frame are: as the fields say.
use Prim.Native.Nat.{ℕ, ◌+◌}
use native.Mathlib.Omega.{arith}
use mathlib.Core.Path.{◌≡◌, refl, sym}
use mathlib.Core.Bool.{Bool, true, false}
use mathlib.Core.List.{List, [], ◌∷◌}
use lib.ListN.{length, length-append, length-replicate}
use Rattle.base.specs.Choice.{when◌then◌else◌}
use Rattle.frame.specs.Address.{address_length, address_bytes, long_address, short_address}
use Rattle.frame.specs.Frame.{header_bytes, protected_bytes, body_bytes, preamble_bytes, frame_bytes, header_length, frame_length}
use Rattle.frame.specs.declared.Header.{Header}

either : (t : Bool) (us vs : List ℕ) → length (when t then us else vs) ≡ (when t then length us else length vs)
unfolding when◌then◌else◌
either true us vs = refl
either false us vs = refl

address_count : (h : Header) → length (address_bytes h) ≡ address_length h.long
address_count h = either h.long (long_address h) (short_address h)

pub header_count : (h : Header) (count : ℕ) → header_length h ≡ length (header_bytes h count)
unfolding header_bytes
header_count h count =
    let tail = length-append (address_bytes h) (h.command ∷ count ∷ []) in
    omega (arith, tail, address_count h)

pub protected_count : (h : Header) (bytes : List ℕ) → header_length h + length bytes ≡ length (protected_bytes h bytes)
unfolding protected_bytes
protected_count h bytes = omega (arith, header_count h (length bytes), length-append (header_bytes h (length bytes)) bytes)

pub body_count : (h : Header) (bytes : List ℕ) → header_length h + length bytes + 1 ≡ length (body_bytes h bytes)
unfolding body_bytes
body_count h bytes = simp length-append (omega (arith, protected_count h bytes))

pub preamble_count : (n : ℕ) → n ≡ length (preamble_bytes n)
unfolding preamble_bytes
preamble_count n = sym (length-replicate {A = ℕ} n 0xFF)

pub frame_count : (preamble : ℕ) (h : Header) (bytes : List ℕ) → frame_length preamble h (length bytes) ≡ length (frame_bytes preamble h bytes)
unfolding frame_bytes
frame_count preamble h bytes = omega (arith, preamble_count preamble, body_count h bytes, length-append (preamble_bytes preamble) (body_bytes h bytes))
