-- Laws of the numbers that C is told, by the case that the answer is.
use Rattle.std.specs.Prelude.{Result}
use Prim.Native.Nat.{ℕ}
use mathlib.Core.Path.{◌≡◌, refl, sym, ap, ◌∙◌}
use mathlib.Core.List.{List}
use lib.ListN.{length}
use Rattle.recording_join.specs.Joining.{join_answer, buffer_after, join_number, join_tick, JoinIs}
use Rattle.recording_join.specs.declared.JoinError.{JoinError}
use Rattle.recording_list.specs.Listing.{list_answer, ListIs}
use Rattle.recording_list.specs.Listing as Listing
use Rattle.recording_c.specs.Numbers.{list_number, list_entries}
use Rattle.base.specs.declared.Refusal.{Refusal}

pub returned_case : (first second buffer after : List ℕ) (w v : Result Unit JoinError) (r : ℕ) → JoinIs first second buffer w after → w ≡ v → r ≡ join_number v → r ≡ join_number (join_answer first second (length buffer))
returned_case first second buffer after w v r l e k = k ∙ ap join_number (sym e ∙ l.answer)

pub tick_case : (first second buffer after : List ℕ) (was : ℕ) (w v : Result Unit JoinError) (r : ℕ) → JoinIs first second buffer w after → w ≡ v → r ≡ join_tick v was → r ≡ join_tick (join_answer first second (length buffer)) was
tick_case first second buffer after was w v r l e k = k ∙ ap (λ (x : Result Unit JoinError). join_tick x was) (sym e ∙ l.answer)

pub out_case : (first second buffer after : List ℕ) (w : Result Unit JoinError) → JoinIs first second buffer w after → after ≡ buffer_after (join_answer first second (length buffer)) first second buffer
out_case first second buffer after w l = l.joined ∙ ap (λ (x : Result Unit JoinError). buffer_after x first second buffer) l.answer

pub ruleset calls = (refl, returned_case, tick_case, out_case)

pub list_returned : (recording buffer after : List ℕ) (w v : Result ℕ Refusal) (r : ℕ) → ListIs recording buffer w after → w ≡ v → r ≡ list_number v → r ≡ list_number (list_answer recording (length buffer))
list_returned recording buffer after w v r l e k = k ∙ ap list_number (sym e ∙ l.answer)

pub list_entries_lem : (recording buffer after : List ℕ) (was : ℕ) (w v : Result ℕ Refusal) (r : ℕ) → ListIs recording buffer w after → w ≡ v → r ≡ list_entries v was
    → r ≡ list_entries (list_answer recording (length buffer)) was
list_entries_lem recording buffer after was w v r l e k = k ∙ ap (λ (x : Result ℕ Refusal). list_entries x was) (sym e ∙ l.answer)

pub list_out : (recording buffer after : List ℕ) (w : Result ℕ Refusal) → ListIs recording buffer w after → after ≡ Listing.buffer_after (list_answer recording (length buffer)) recording buffer
list_out recording buffer after w l = l.listed ∙ ap (λ (x : Result ℕ Refusal). Listing.buffer_after x recording buffer) l.answer

pub ruleset list_calls = (refl, list_returned, list_entries_lem, list_out)
