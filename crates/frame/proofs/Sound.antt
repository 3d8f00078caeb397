-- When the reader finds a frame: each of its tests, as a fact. The theorems on frames read these facts instead of the definition.
use Rattle.std.specs.Prelude.{Option, Some, None}
use Prim.Native.Nat.{ℕ, ◌+◌, ◌≤◌, ◌<◌}
use native.Mathlib.Omega.{arith}
use mathlib.Core.Path.{◌≡◌, refl, sym, ap, ◌∙◌}
use mathlib.Core.Bool.{Bool, false}
use mathlib.Core.List.{List}
use lib.ListN.{length, take, drop}
use borrow.Author.Tests.{leb-false, ltb-false, eqb-true}
use Rattle.base.specs.Choice.{◌<?◌, ◌≤?◌, ◌=?◌}
use Rattle.base.specs.Refusal.{accepted, refused}
use Rattle.base.proofs.Choices.{went_then, went_else, if_false, if_above, if_equal, if_unequal, if_not_below}
use Rattle.frame.specs.Delimiter.{delimiter_of, delimiter_with}
use Rattle.frame.specs.Address.{byte_at}
use Rattle.frame.specs.Check.{exclusive_or}
use Rattle.frame.specs.Frame.{too_few}
use Rattle.frame.specs.Read.{preambles, command_place, found_at, with_count, with_command, with_delimiter, read_body, read_frame}
use Rattle.frame.specs.declared.Delimiter.{Delimiter}
use Rattle.frame.specs.declared.Found.{Found}

-- t, behind so many preambles, begins with the frame f
pub record Sound (preamble : ℕ) (t : List ℕ) (f : Found) : Type 0 where
  pub frame : ℕ
  pub long : Bool
  pub expansion : ℕ
  pub place : ℕ
  pub count : ℕ
  pub delimited : delimiter_of (byte_at t 0) ≡ delimiter_with frame long expansion
  pub placed : place ≡ command_place long expansion
  pub counted : count ≡ byte_at t (place + 1)
  pub inside : place + 2 + count < length t
  pub enough : too_few frame count ≡ false
  pub zero : exclusive_or (take (place + 3 + count) t) ≡ 0
  pub found : found_at preamble t frame long expansion place count ≡ f

pub sound_reads : (preamble : ℕ) (t : List ℕ) (f : Found) → Sound preamble t f → accepted f ≡ read_body preamble t
unfolding read_body
sound_reads preamble t f s =
    let place = s.place in
    let count = s.count in
    let with_count_lem : accepted f ≡ with_count preamble t s.frame s.long s.expansion place count =
    if_above (length t) (place + 2 + count) (accepted f) _ _ s.inside
    (if_false (too_few s.frame count) (accepted f) _ _ s.enough
    (if_equal (exclusive_or (take (place + 3 + count) t)) 0 (accepted f) _ _ s.zero (ap accepted (sym s.found)))) in
    let with_command_lem : accepted f ≡ with_command preamble t s.frame s.long s.expansion place =
    if_above (length t) (place + 1) (accepted f) _ _ (omega (arith, s.inside))
    (with_count_lem ∙ ap (λ (n : ℕ). with_count preamble t s.frame s.long s.expansion place n) s.counted) in
    if_unequal (length t) 0 (accepted f) _ _ (omega (arith, s.inside))
    (with_command_lem
    ∙ ap (λ (n : ℕ). with_command preamble t s.frame s.long s.expansion n) s.placed
    ∙ ap (with_delimiter preamble t) (sym s.delimited))

not_frame : (why : ℕ) (f : Found) → refused why ≡ accepted f → ⊥
not_frame why f e = let z : ◌≡◌ {A = ℕ} 0 1 = cc in omega arith

with_command_sound : (preamble : ℕ) (t : List ℕ) (f : Found) (frame : ℕ) (long : Bool) (expansion : ℕ) → delimiter_of (byte_at t 0) ≡ delimiter_with frame long expansion
    → with_command preamble t frame long expansion (command_place long expansion) ≡ accepted f → Sound preamble t f
with_command_sound preamble t f frame long expansion d e =
    let place : ℕ = command_place long expansion in
    let count : ℕ = byte_at t (place + 1) in
    let a = went_else (length t ≤? place + 1) _ _ (accepted f) e (not_frame 13 f) in
    let b = went_else (length t ≤? place + 2 + count) _ _ (accepted f) a.1 (not_frame 13 f) in
    let c = went_else (too_few frame count) _ _ (accepted f) b.1 (not_frame 14 f) in
    let z = went_then (exclusive_or (take (place + 3 + count) t) =? 0) _ _ (accepted f) c.1 (not_frame 14 f) in
    record {
      frame = frame;
      long = long;
      expansion = expansion;
      place = place;
      count = count;
      delimited = d;
      placed = refl;
      counted = refl;
      inside = leb-false (length t) (place + 2 + count) b.0;
      enough = c.0;
      zero = eqb-true (exclusive_or (take (place + 3 + count) t)) 0 z.0;
      found = cc z.1;
    }

pub reads_sound : (preamble : ℕ) (t : List ℕ) (f : Found) → read_body preamble t ≡ accepted f → Sound preamble t f
unfolding read_body
reads_sound preamble t f e = go (delimiter_of (byte_at t 0)) refl (went_else (length t =? 0) _ _ (accepted f) e (not_frame 13 f)).1
  where
    go : (d : Option Delimiter) → delimiter_of (byte_at t 0) ≡ d → with_delimiter preamble t (delimiter_of (byte_at t 0)) ≡ accepted f → Sound preamble t f
    go None q r = absurd (not_frame 12 f (ap (with_delimiter preamble t) (sym q) ∙ r))
    go (Some d) q r = with_command_sound preamble t f d.kind d.long d.expansion q (ap (with_delimiter preamble t) (sym q) ∙ r)

-- the whole reader: behind at least two preambles
pub record SoundFrame (bytes : List ℕ) (f : Found) : Type 0 where
  pub enough_preambles : 2 ≤ preambles bytes
  pub body : Sound (preambles bytes) (drop (preambles bytes) bytes) f

pub frame_sound : (bytes : List ℕ) (f : Found) → read_frame bytes ≡ accepted f → SoundFrame bytes f
unfolding read_frame
frame_sound bytes f e =
    let a = went_else (preambles bytes <? 2) _ _ (accepted f) e (not_frame 11 f) in
    record { enough_preambles = ltb-false (preambles bytes) 2 a.0; body = reads_sound (preambles bytes) (drop (preambles bytes) bytes) f a.1 }

pub sound_frame : (bytes : List ℕ) (preamble : ℕ) (body : List ℕ) (f : Found) → preambles bytes ≡ preamble → drop preamble bytes ≡ body → 2 ≤ preamble → Sound preamble body f → read_frame bytes ≡ accepted f
unfolding read_frame
sound_frame bytes preamble body f e q h s =
    sym (if_not_below (preambles bytes) 2 (accepted f) _ _ (omega arith)
    (sound_reads preamble body f s ∙ ap (read_body preamble) (sym q) ∙ ap (λ (n : ℕ). read_body n (drop n bytes)) (sym e)))
