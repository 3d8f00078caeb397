-- Theorem: the lines of a recording may be printed in pieces.
use Prim.Native.Nat.{ℕ}
use mathlib.Core.Path.{◌≡◌, refl, sym, ap, ◌∙◌}
use mathlib.Core.List.{List, [], ◌∷◌, ◌++◌, append_assoc}
use Rattle.line.specs.declared.Heard.{Heard}
use Rattle.recording.proofs.Forms.{ticks_both}
use Rattle.recording_lines.specs.Claims.{LinesInPieces}
use Rattle.recording_lines.specs.Lines.{Kept, stepped, line_at, lines_from, kept_behind}

lines_both : (hs gs : List Heard) (k : Kept) → lines_from k (hs ++ gs) ≡ lines_from k hs ++ lines_from (kept_behind k hs) gs
unfolding lines_from kept_behind
lines_both [] gs k = refl
lines_both (h ∷ hs) gs k =
    ap (λ (l : List ℕ). line_at k h ++ l) (lines_both hs gs (stepped k h)) ∙ sym (append_assoc (line_at k h) (lines_from (stepped k h) hs) (lines_from (kept_behind (stepped k h) hs) gs))

kept_both : (hs gs : List Heard) (k : Kept) → kept_behind k (hs ++ gs) ≡ kept_behind (kept_behind k hs) gs
unfolding kept_behind
kept_both [] gs k = refl
kept_both (h ∷ hs) gs k = kept_both hs gs (stepped k h)

pub lines_in_pieces : LinesInPieces
lines_in_pieces n k first second e = record {
  lines = ap (lines_from k) (ticks_both n first second e) ∙ lines_both _ _ k;
  kept = ap (kept_behind k) (ticks_both n first second e) ∙ kept_both _ _ k;
}
