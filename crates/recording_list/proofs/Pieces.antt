-- Theorem: a recording may be listed in pieces.
use Prim.Native.Nat.{ℕ, suc, ◌+◌}
use native.Mathlib.Omega.{arith}
use mathlib.Core.Path.{◌≡◌, refl, sym, ap, ◌∙◌}
use mathlib.Core.List.{List, [], ◌∷◌, ◌++◌, append_assoc}
use lib.ListN.{length}
use Rattle.line.specs.Reader.{taken}
use Rattle.line.specs.declared.Heard.{Heard}
use Rattle.line.specs.declared.Receiver.{Receiver}
use Rattle.recording.specs.Form.{ticks_of}
use Rattle.recording.proofs.Forms.{length_ticks, ticks_both}
use Rattle.recording_list.specs.Listing.{adds, found}
use Rattle.recording_list.specs.Claims.{behind, InPieces}

pub found_ticks : (hs gs : List Heard) (t : ℕ) (r : Receiver) → found t r (hs ++ gs) ≡ found t r hs ++ found (t + length hs) (behind r hs) gs
unfolding found behind
found_ticks [] gs t r = ap (λ (n : ℕ). found n r gs) (none t)
  where
    none : (t : ℕ) → t ≡ t + 0
    none t = omega arith
found_ticks (h ∷ hs) gs t r =
    ap (λ (l : List ℕ). adds t (taken r h).event ++ l) (found_ticks hs gs (t + 1) (taken r h).receiver)
    ∙ sym (append_assoc (adds t (taken r h).event) (found (t + 1) (taken r h).receiver hs) (found (t + 1 + length hs) (behind (taken r h).receiver hs) gs))
    ∙ ap (λ (n : ℕ). (adds t (taken r h).event ++ found (t + 1) (taken r h).receiver hs) ++ found n (behind (taken r h).receiver hs) gs) (next t (length hs))
  where
    next : (t n : ℕ) → t + 1 + n ≡ t + suc n
    next t n = omega arith

pub behind_ticks : (hs gs : List Heard) (r : Receiver) → behind r (hs ++ gs) ≡ behind (behind r hs) gs
unfolding behind
behind_ticks [] gs r = refl
behind_ticks (h ∷ hs) gs r = behind_ticks hs gs (taken r h).receiver

pub in_pieces : InPieces
in_pieces t n r first second e = record {
  found_both = ap (found t r) (ticks_both n first second e) ∙ found_ticks (ticks_of first) (ticks_of second) t r
      ∙ ap (λ (k : ℕ). found t r (ticks_of first) ++ found (t + k) (behind r (ticks_of first)) (ticks_of second)) (length_ticks first);
  behind_both = ap (behind r) (ticks_both n first second e) ∙ behind_ticks (ticks_of first) (ticks_of second) r;
}
