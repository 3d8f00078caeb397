-- Theorem: a packet's body is what was heard from the frame's delimiter on.
use Rattle.std.proofs.Common.{◌≡◌, ℕ, true, false, List, [], ◌∷◌, ◌++◌, sym, refl, ap, ◌∙◌, subst, append_assoc, append-nil}
use Rattle.base.proofs.Choices.{if_is_true, if_is_false, went_then, true_false}
use Rattle.line.specs.Reader.{taken}
use Rattle.line.specs.declared.Heard.{Heard}
use Rattle.line.specs.declared.Receiver.{Receiver}
use Rattle.texts.specs.Put.{PutIs}
use Rattle.texts.proofs.Puts.{put_then, put_none, put_same}
use Rattle.recording_capture.proofs.Fits.{all_there}
use Rattle.recording_capture.specs.Capture.{heard_text, grown, is_inside, progress_behind, Kept, stepped, kept_behind}
use Rattle.recording_capture.specs.Claims.{heard_texts, stays_inside, AsHeard, NoneBefore}

pub none_before : NoneBefore
unfolding stepped progress_behind
none_before k h e = if_is_false (is_inside (taken k.progress.receiver h).receiver.place) (grown k.message k.progress.held h).at 0 e

-- inside a frame the bytes of a tick are put behind those before it
step_puts : (us before : List ℕ) (k : Kept) (h : Heard) → is_inside (taken k.progress.receiver h).receiver.place ≡ true → PutIs us before 0 k.progress.held k.message
    → PutIs (us ++ heard_text h) before 0 (stepped k h).progress.held (stepped k h).message
unfolding stepped progress_behind
step_puts us before k h e p =
    subst (λ (n : ℕ). PutIs (us ++ heard_text h) before 0 n (grown k.message k.progress.held h).bytes)
    (sym (if_is_true (is_inside (taken k.progress.receiver h).receiver.place) (grown k.message k.progress.held h).at 0 e))
    (put_then us (heard_text h) before k.message (grown k.message k.progress.held h).bytes 0 k.progress.held (grown k.message k.progress.held h).at p (record { out = refl }))

stepped_reader : (k : Kept) (h : Heard) → (taken k.progress.receiver h).receiver ≡ (stepped k h).progress.receiver
unfolding stepped progress_behind
stepped_reader k h = refl

all_put : (hs : List Heard) (us before : List ℕ) (k : Kept) → stays_inside k.progress.receiver hs ≡ true → PutIs us before 0 k.progress.held k.message
    → PutIs (us ++ heard_texts hs) before 0 (kept_behind k hs).progress.held (kept_behind k hs).message
unfolding heard_texts stays_inside kept_behind
all_put [] us before k e p = put_same us (us ++ []) before 0 k.progress.held k.message p (sym (append-nil us))
all_put (h ∷ hs) us before k e p =
    let inside = went_then (is_inside (taken k.progress.receiver h).receiver.place) (stays_inside (taken k.progress.receiver h).receiver hs) false true e (λ x. true_false (sym x)) in
    put_same ((us ++ heard_text h) ++ heard_texts hs) (us ++ (heard_text h ++ heard_texts hs)) before 0 (kept_behind (stepped k h) hs).progress.held (kept_behind (stepped k h) hs).message
    (all_put hs (us ++ heard_text h) before (stepped k h) (ap (λ (r : Receiver). stays_inside r hs) (sym (stepped_reader k h)) ∙ inside.1) (step_puts us before k h inside.0 p))
    (append_assoc us (heard_text h) (heard_texts hs))

pub as_heard : AsHeard
as_heard k hs h z e l =
    let start : PutIs [] k.message 0 k.progress.held k.message = subst (λ (n : ℕ). PutIs [] k.message 0 n k.message) (sym z) (put_none k.message 0) in
    let behind = kept_behind k hs in
    all_there (heard_texts hs ++ heard_text h) k.message (grown behind.message behind.progress.held h).at (grown behind.message behind.progress.held h).bytes
    (put_then (heard_texts hs) (heard_text h) k.message behind.message (grown behind.message behind.progress.held h).bytes 0 behind.progress.held (grown behind.message behind.progress.held h).at
    (all_put hs [] k.message k e start) (record { out = refl }))
    l
