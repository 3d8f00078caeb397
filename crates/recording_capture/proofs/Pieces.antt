-- Theorem: the packets of a recording may be written in pieces.
use Rattle.std.proofs.Common.{◌≡◌, ℕ, List, [], ◌∷◌, ◌++◌, sym, refl, ap, ◌∙◌, append_assoc}
use Rattle.line.specs.declared.Heard.{Heard}
use Rattle.recording.proofs.Forms.{ticks_both}
use Rattle.recording_capture.specs.Capture.{Kept, stepped, packet_at, packets_from, kept_behind}
use Rattle.recording_capture.specs.Claims.{PacketsInPieces}

packets_both : (hs gs : List Heard) (k : Kept) → packets_from k (hs ++ gs) ≡ packets_from k hs ++ packets_from (kept_behind k hs) gs
unfolding packets_from kept_behind
packets_both [] gs k = refl
packets_both (h ∷ hs) gs k =
    ap (λ (l : List ℕ). packet_at k h ++ l) (packets_both hs gs (stepped k h))
    ∙ sym (append_assoc (packet_at k h) (packets_from (stepped k h) hs) (packets_from (kept_behind (stepped k h) hs) gs))

kept_both : (hs gs : List Heard) (k : Kept) → kept_behind k (hs ++ gs) ≡ kept_behind (kept_behind k hs) gs
unfolding kept_behind
kept_both [] gs k = refl
kept_both (h ∷ hs) gs k = kept_both hs gs (stepped k h)

pub packets_in_pieces : PacketsInPieces
packets_in_pieces n k first second e = record {
  packets = ap (packets_from k) (ticks_both n first second e) ∙ packets_both _ _ k;
  kept = ap (kept_behind k) (ticks_both n first second e) ∙ kept_both _ _ k;
}
