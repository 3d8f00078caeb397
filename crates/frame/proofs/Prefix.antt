-- Theorem: the reader's answer depends only on the bytes up to the end that it gives.
use Prim.Native.Nat.{ℕ, ◌+◌, ◌%◌, ◌≤◌, ◌<◌}
use native.Mathlib.Omega.{arith}
use mathlib.Core.Path.{◌≡◌, refl, sym, ap, ◌∙◌}
use mathlib.Core.Bool.{Bool, true, false}
use mathlib.Core.List.{List, ◌++◌, append_assoc}
use lib.ListN.{length, take, drop, length-append, get_or-append}
use lib.Seq.{length-take-le, take_at, drop_at, get_or-take, take-append-add}
use Rattle.base.specs.Choice.{when◌then◌else◌}
use Rattle.base.proofs.Choices.{if_is_true, if_is_false}
use Rattle.base.specs.Refusal.{accepted}
use Rattle.frame.specs.Delimiter.{delimiter_of, delimiter_with}
use Rattle.frame.specs.Address.{byte_at, address_of, unique_address, polling_address}
use Rattle.frame.specs.Check.{exclusive_or}
use Rattle.frame.specs.Frame.{preamble_bytes}
use Rattle.frame.specs.Read.{preambles, command_place, header_of, read_frame}
use Rattle.frame.proofs.Lengths.{preamble_count}
use Rattle.frame.proofs.Preambles.{preambles_are, no_preamble, preambles_split}
use Rattle.frame.proofs.Sound.{Sound, SoundFrame, frame_sound, sound_frame}
use Rattle.frame.specs.declared.Header.{Header}
use Rattle.frame.specs.declared.Found.{Found}

-- a delimiter is no preamble
pub delimited_no_preamble : (b frame : ℕ) (long : Bool) (expansion : ℕ) → delimiter_of b ≡ delimiter_with frame long expansion → b ≡ 0xFF → ⊥
unfolding delimiter_of when◌then◌else◌
delimited_no_preamble b frame long expansion d e =
    let none : delimiter_of 0xFF ≡ delimiter_with frame long expansion = ap delimiter_of (sym e) ∙ d in
    let z : ◌≡◌ {A = ℕ} 0 1 = cc none in omega arith

-- the first m bytes of t, with others behind them
module _ (t rest : List ℕ) (m : ℕ) (short : m ≤ length t) where
  byte_same : (i : ℕ) → i < m → byte_at (take m t ++ rest) i ≡ byte_at t i
  byte_same i h = get_or-append (take m t) rest 0 i (omega (arith, length-take-le m t short)) ∙ get_or-take m t i 0 h

  unique_same : 5 < m → unique_address (take m t ++ rest) ≡ unique_address t
  unique_same h = cc (byte_same 1 (omega arith), byte_same 2 (omega arith), byte_same 3 (omega arith), byte_same 4 (omega arith), byte_same 5 (omega arith))

  address_same : (long : Bool) → command_place long 0 < m → address_of long (take m t ++ rest) ≡ address_of long t
  address_same long h = go long refl
    where
      go : (l : Bool) → long ≡ l → address_of long (take m t ++ rest) ≡ address_of long t
      go true e =
          let deep : 5 < m = omega (arith, if_is_true {A = ℕ} long 5 1 e) in
          if_is_true long (unique_address (take m t ++ rest)) (polling_address (take m t ++ rest)) e ∙ unique_same deep ∙ sym (if_is_true long (unique_address t) (polling_address t) e)
      go false e =
          let deep : 1 < m = omega (arith, if_is_false {A = ℕ} long 5 1 e) in
          if_is_false long (unique_address (take m t ++ rest)) (polling_address (take m t ++ rest)) e ∙ ap (λ (b : ℕ). b % 64) (byte_same 1 deep) ∙ sym (if_is_false long (unique_address t) (polling_address t) e)

  header_same : (frame : ℕ) (long : Bool) (place : ℕ) → command_place long 0 ≤ place → place < m → header_of frame long place (take m t ++ rest) ≡ header_of frame long place t
  header_same frame long place h k =
      let first : byte_at (take m t ++ rest) 1 ≡ byte_at t 1 = byte_same 1 (omega arith) in
      let address : address_of long (take m t ++ rest) ≡ address_of long t = address_same long (omega arith) in
      let command : byte_at (take m t ++ rest) place ≡ byte_at t place = byte_same place k in
      cc

-- a frame is found in its own bytes, whatever stands behind them
sound_cut : (preamble : ℕ) (t rest : List ℕ) (f : Found) (s : Sound preamble t f) → Sound preamble (take (s.place + 3 + s.count) t ++ rest) f
sound_cut preamble t rest f s =
    let place = s.place in
    let count = s.count in
    let m : ℕ = place + 3 + count in
    let short : m ≤ length t = omega (arith, s.inside) in
    let same = byte_same t rest m short in
    let header = header_same t rest m short s.frame s.long place (omega (arith, s.placed)) (omega arith) in
    let whole : take m (take m t ++ rest) ≡ take m t = take_at (take m t) rest m (length-take-le m t short) in
    record {
      frame = s.frame;
      long = s.long;
      expansion = s.expansion;
      place = place;
      count = count;
      delimited = ap delimiter_of (same 0 (omega arith)) ∙ s.delimited;
      placed = s.placed;
      counted = s.counted ∙ sym (same (place + 1) (omega arith));
      inside = omega (arith, length-append (take m t) rest, length-take-le m t short);
      enough = s.enough;
      zero = ap exclusive_or whole ∙ s.zero;
      found = ap (λ (h : Header). record { preamble = preamble; header = h; expansion = s.expansion; start = preamble + (place + 2); count = count; end = preamble + m }) header ∙ s.found;
    }

-- the theorem
pub reads_prefix : (bytes : List ℕ) (f : Found) → read_frame bytes ≡ accepted f → (rest : List ℕ) → read_frame (take f.end bytes ++ rest) ≡ accepted f
reads_prefix bytes f e rest =
    let sound : SoundFrame bytes f = frame_sound bytes f e in
    let p : ℕ = preambles bytes in
    let t : List ℕ = drop p bytes in
    let s = sound.body in
    let m : ℕ = s.place + 3 + s.count in
    let body : List ℕ = take m t ++ rest in
    let end : f.end ≡ p + m = ap (λ (g : Found). g.end) (sym s.found) in
    let front : take f.end bytes ≡ preamble_bytes p ++ take m t =
    ap (λ (l : List ℕ). take f.end l) (preambles_split bytes)
    ∙ ap (λ (n : ℕ). take n (preamble_bytes p ++ t)) (end ∙ ap (λ (n : ℕ). n + m) (preamble_count p))
    ∙ take-append-add (preamble_bytes p) t m in
    let new : Sound p body f = sound_cut p t rest f s in
    ap (λ (l : List ℕ). read_frame (l ++ rest)) front
    ∙ ap read_frame (append_assoc (preamble_bytes p) (take m t) rest)
    ∙ sound_frame (preamble_bytes p ++ body) p body f
    (preambles_are p body (no_preamble body (delimited_no_preamble (byte_at body 0) new.frame new.long new.expansion new.delimited)))
    (drop_at (preamble_bytes p) body p (sym (preamble_count p)))
    sound.enough_preambles
    new
