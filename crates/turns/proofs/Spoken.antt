-- The reader's law of the line, lifted to a listening party: what it hears of a frame that another party sends.
use Prim.Native.Nat.{ℕ, suc, ◌+◌, ◌≤◌, ◌<◌}
use native.Mathlib.Omega.{arith}
use mathlib.Core.Path.{◌≡◌, refl, sym, ap, subst, ◌∙◌}
use mathlib.Core.List.{List, [], ◌∷◌, ◌++◌, append_assoc}
use lib.ListN.{length, take, get_or, length-append, get_or-append}
use lib.Seq.{take_at, take-append-le, get_or_at}
use Rattle.base.specs.Refusal.{accepted}
use Rattle.frame.specs.Check.{exclusive_or}
use Rattle.frame.specs.Frame.{protected_bytes, body_bytes, preamble_bytes, frame_bytes, frame_length}
use Rattle.frame.specs.declared.Header.{Header}
use Rattle.frame.proofs.Lengths.{frame_count}
use Rattle.frame.proofs.Taken.{Fits, fits_taken}
use Rattle.line.specs.Reader.{idle, tells, taken}
use Rattle.line.specs.declared.Event.TheVariants.{Nothing, Frame}
use Rattle.line.specs.declared.Heard.TheVariants.{Character}
use Rattle.line.specs.declared.Receiver.{Receiver}
use Rattle.line.specs.declared.Whole.{Whole}
use Rattle.line.proofs.Hearing.{Heard, whole_message, frame_leads, frame_told}
use Rattle.line.proofs.Leads.{reader_after, leads_at, leads_to}
use Rattle.turns.specs.Gaps.{IsFrame}

-- w is a frame that every idle listener hears as the message: behind its first k characters the reader takes the next one, and tells nothing before the last
pub record Spoken (w : List ℕ) (message : Whole) : Type 0 where
  pub is_frame : IsFrame w
  pub long : 2 ≤ length w
  pub mid : (k : ℕ) → suc k < length w → taken (reader_after idle (take k w)) (Character (get_or w k 0)) ≡ tells (reader_after idle (take (suc k) w)) Nothing
  pub end : (k : ℕ) → suc k ≡ length w → taken (reader_after idle (take k w)) (Character (get_or w k 0)) ≡ tells idle (Frame message)

-- every frame that can be written is such a frame
pub spoken : (preamble : ℕ) (h : Header) (bytes : List ℕ) → Fits preamble h (length bytes) → Spoken (frame_bytes preamble h bytes) (whole_message h bytes)
unfolding frame_bytes body_bytes
spoken preamble h bytes fits =
    let front : List ℕ = preamble_bytes preamble ++ protected_bytes h bytes in
    let check : ℕ = exclusive_or (protected_bytes h bytes) in
    let w : List ℕ = frame_bytes preamble h bytes in
    let split : w ≡ front ++ (check ∷ []) = sym (append_assoc (preamble_bytes preamble) (protected_bytes h bytes) (check ∷ [])) in
    let w_long : length w ≡ length front + 1 = ap length split ∙ length-append front (check ∷ []) in
    let ok : Heard h bytes = record { typed = fits.typed; address_high = fits.address_high; count_high = fits.count_high; enough = fits.enough } in
    let leads = frame_leads preamble h bytes [] (omega (arith, fits.preamble_low)) ok in
    let at_least : 2 ≤ length w = omega (arith, frame_count preamble h bytes, fits.preamble_low) in
    let whole : 0 + frame_length preamble h (length bytes) ≡ length w = omega (arith, frame_count preamble h bytes) in
    record {
      is_frame = record {
        preamble = preamble;
        header = h;
        bytes = bytes;
        taken_by_writer = sym (fits_taken preamble h (length bytes) (length w) 0 fits (omega (arith, frame_count preamble h bytes))) ∙ ap accepted whole;
        written = refl;
      };
      long = at_least;
      mid = λ k below.
          let inside : suc k ≤ length front = omega (arith, w_long) in
          subst (λ (l : List ℕ). taken (reader_after idle (take k l)) (Character (get_or l k 0)) ≡ tells (reader_after idle (take (suc k) l)) Nothing) (sym split)
          (subst (λ (l : List ℕ). taken (reader_after idle l) (Character (get_or (front ++ (check ∷ [])) k 0)) ≡ tells (reader_after idle (take (suc k) (front ++ (check ∷ [])))) Nothing) (sym (take-append-le k front (check ∷ []) (omega arith)))
          (subst (λ (l : List ℕ). taken (reader_after idle (take k front)) (Character (get_or (front ++ (check ∷ [])) k 0)) ≡ tells (reader_after idle l) Nothing) (sym (take-append-le (suc k) front (check ∷ []) inside))
          (subst (λ (c : ℕ). taken (reader_after idle (take k front)) (Character c) ≡ tells (reader_after idle (take (suc k) front)) Nothing) (sym (get_or-append front (check ∷ []) 0 k inside))
          (leads_at leads k inside))));
      end = λ k last.
          let here : length front ≡ k = omega (arith, w_long) in
          subst (λ (l : List ℕ). taken (reader_after idle (take k l)) (Character (get_or l k 0)) ≡ tells idle (Frame (whole_message h bytes))) (sym split)
          (subst (λ (l : List ℕ). taken (reader_after idle l) (Character (get_or (front ++ (check ∷ [])) k 0)) ≡ tells idle (Frame (whole_message h bytes))) (sym (take_at front (check ∷ []) k here))
          (subst (λ (c : ℕ). taken (reader_after idle front) (Character c) ≡ tells idle (Frame (whole_message h bytes))) (sym (get_or_at front check [] 0 k here))
          (subst (λ (r : Receiver). taken r (Character check) ≡ tells idle (Frame (whole_message h bytes))) (sym (leads_to leads))
          (frame_told h bytes))));
    }
