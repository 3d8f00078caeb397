-- Laws of a request: its STX can be written, and what is refused.
use Rattle.std.specs.Prelude.{Result, Ok, Err}
use Prim.Native.Nat.{ℕ, ◌+◌, ◌≤◌, ◌<◌}
use native.Mathlib.Omega.{arith}
use mathlib.Core.Bool.{Bool, true, false}
use mathlib.Core.List.{List}
use mathlib.Core.Path.{◌≡◌, refl, sym, ap, subst, ◌∙◌}
use lib.ListN.{length}
use borrow.Author.Tests.{ltb-false}
use Rattle.base.specs.Choice.{when◌then◌else◌, ◌outside◌to◌}
use Rattle.base.proofs.Choices.{inside_low, inside_high, if_is_false}
use Rattle.base.specs.Store.{stored}
use Rattle.base.specs.Refusal.{number, Called, accepted, refused, called_as}
use Rattle.base.specs.declared.Refusal.{Refusal}
use Rattle.frame.specs.Limits.{fewest_preambles, most_preambles, largest_polling}
use Rattle.frame.specs.Address.{address_length, largest_with, address_above}
use Rattle.frame.specs.Delimiter.{stx, is_type}
use Rattle.frame.specs.Frame.{too_few, frame_bytes, frame_length}
use Rattle.frame.specs.Write.{buffer_by, write_answer, write_buffer, WriteIs}
use Rattle.frame.specs.declared.Header.{Header}
use Rattle.frame.proofs.Taken.{Fits, fits_taken}
use Rattle.turns.specs.Master.{request_header, requested, requested_up_to, polling_up_to}
use Rattle.turns.proofs.Masters.{stx_enough, stx_typed, largest_with_lem}
use Rattle.turns.specs.declared.Master.{Master}
use Rattle.turns.specs.declared.Request.{Request}
use Rattle.master.specs.Answers.{asked_frame, AskedIs, UpToIs, RequestIs}
use Rattle.master.specs.Parts.{with_message, Fitting, FramePutIs}

address_short : (long : Bool) → address_length long ≤ 5
unfolding when◌then◌else◌
address_short true = omega arith
address_short false = omega arith

-- the writer's answer where the fields fit, in a buffer for the longest frame
module _ (preamble : ℕ) (h : Header) (bytes frame after : List ℕ) (r : Result ℕ Refusal) (f : Fits preamble h (length bytes)) (l : length frame ≡ 284) (w : WriteIs preamble h bytes frame 0 r after) where
  long_enough : frame_length preamble h (length bytes) ≤ 284
  long_enough = omega (arith, f.preamble_high, f.count_high, address_short h.long)

  to_end : accepted (0 + frame_length preamble h (length bytes)) ≡ write_answer preamble h (length bytes) (length frame) 0
  to_end = fits_taken preamble h (length bytes) (length frame) 0 f (omega (arith, long_enough))

  buffer_is : after ≡ stored frame 0 (frame_bytes preamble h bytes)
  unfolding write_buffer
  buffer_is = w.buffer_after ∙ ap (λ (x : Called ℕ). buffer_by x frame 0 (frame_bytes preamble h bytes)) (sym to_end)

  module _ (end : ℕ) (e : r ≡ Ok end) where
    end_is : end ≡ frame_length preamble h (length bytes)
    end_is =
        let same : accepted end ≡ accepted (0 + frame_length preamble h (length bytes)) = ap called_as (sym e) ∙ w.answer ∙ sym to_end in
        let n : end ≡ 0 + frame_length preamble h (length bytes) = cc in
        omega arith

    pub end_small : end < 65536
    end_small = omega (arith, end_is, long_enough)

    pub put_is : FramePutIs preamble h bytes frame end after
    put_is = record { count = end_is; buffer = buffer_is }

  pub put_never : (why : Refusal) (n : ℕ) → r ≡ Err why → FramePutIs preamble h bytes frame n after
  put_never why n e =
      let no : refused (number why) ≡ accepted (0 + frame_length preamble h (length bytes)) = ap called_as (sym e) ∙ w.answer ∙ sym to_end in
      let z : ◌≡◌ {A = ℕ} 0 1 = cc in
      absurd (omega arith)

-- an STX that no test refuses can be written
pub stx_fits : (limit polling preamble : ℕ) (h : Header) (count : ℕ) (s : Bool) → limit < 256 → Fitting polling preamble → s ≡ address_above polling h → s ≡ false → count ≤ limit → h.kind ≡ stx → Fits preamble h count
stx_fits limit polling preamble h count s b w q f n t = record {
  preamble_low = w.preamble_low;
  preamble_high = w.preamble_high;
  address_high = omega (arith, ltb-false (largest_with polling h.long) h.address (sym q ∙ f), largest_with_lem polling largest_polling h.long w.polling_high);
  count_high = omega (arith, n, b);
  enough = ap (λ (n : ℕ). too_few n count) t ∙ stx_enough count;
  typed = ap is_type t ∙ stx_typed;
}

pub fitting : (polling preamble : ℕ) (r : Bool) → polling ≤ largest_polling → r ≡ (preamble outside fewest_preambles to most_preambles) → r ≡ false → Fitting polling preamble
fitting polling preamble r h p e = record { polling_high = h; preamble_low = inside_low preamble fewest_preambles most_preambles r p e; preamble_high = inside_high preamble fewest_preambles most_preambles r p e }

-- answer and buffer together
module _ (m : Master) (q : Request) (bytes frame : List ℕ) where
  put : List ℕ
  put = frame_bytes q.preamble (request_header m q) bytes

  pub is_refused : (c : Called Master) (why : Refusal) → refused (number why) ≡ c → AskedIs c m q bytes frame (Err why) frame
  unfolding put
  is_refused c why e = record { result = e; buffer = ap (λ (x : Called Master). asked_frame x frame put) e }

  pub is_accepted : (c : Called Master) (n : Master) (count : ℕ) (after : List ℕ) → FramePutIs q.preamble (request_header m q) bytes frame count after → n ≡ with_message m (request_header m q) count
      → accepted (with_message m (request_header m q) (frame_length q.preamble (request_header m q) (length bytes))) ≡ c → AskedIs c m q bytes frame (Ok n) after
  unfolding put
  is_accepted c n count after p z e =
      let result : accepted n ≡ c = ap accepted (z ∙ ap (with_message m (request_header m q)) p.count) ∙ e in
      record { result = result; buffer = p.buffer ∙ ap (λ (x : Called Master). asked_frame x frame put) result }

  -- behind preamble and revision, what the rest comes to
  pub from_address : (limit polling : ℕ) (a b : Bool) (x : Result Master Refusal) (after : List ℕ) → a ≡ (q.preamble outside fewest_preambles to most_preambles) → a ≡ false → b ≡ (q.revision outside 3 to 7) → b ≡ false
      → polling ≡ polling_up_to q.revision → UpToIs limit polling m q bytes frame x after → RequestIs limit m q bytes frame x after
  unfolding requested
  from_address limit polling a b x after p e r f same is =
      subst (λ (c : Called Master). AskedIs c m q bytes frame x after)
      (ap (λ (n : ℕ). requested_up_to n limit m q (length bytes)) same
      ∙ sym (if_is_false (q.preamble outside fewest_preambles to most_preambles) _ _ (sym p ∙ e) ∙ if_is_false (q.revision outside 3 to 7) _ _ (sym r ∙ f))) is

pub ruleset requests = (stx_fits, is_refused, is_accepted)

pub ruleset fields = (is_refused, from_address)

pub ruleset puts = (refl, end_small, put_is, put_never)
