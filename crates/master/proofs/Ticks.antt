-- Laws of a master's tick: take, call and send, one behind the other.
use Rattle.std.specs.Prelude.{Result, Ok, Err, Option, Some, None}
use Prim.Native.Nat.{ℕ}
use mathlib.Core.List.{List}
use mathlib.Core.Path.{◌≡◌, refl, sym, ap, ◌∙◌}
use lib.ListN.{length}
use Rattle.base.specs.Store.{stored}
use Rattle.base.specs.Refusal.{number, Called, accepted, refused, called_as}
use Rattle.base.specs.declared.Refusal.{Refusal}
use Rattle.frame.specs.Frame.{frame_bytes}
use Rattle.line.specs.declared.Heard.{Heard}
use Rattle.turns.specs.Master.{request_header, requested, tells, master_takes, master_sends}
use Rattle.turns.specs.Link.{master_sent, master_called, master_calls, master_tick}
use Rattle.turns.specs.declared.CallResult.{CallResult}
use Rattle.turns.specs.declared.Master.{Master}
use Rattle.turns.specs.declared.MasterSent.{MasterSent}
use Rattle.turns.specs.declared.MasterTaken.{MasterTaken}
use Rattle.turns.specs.declared.Request.{Request}
use Rattle.master.specs.Takes.{MasterTakeIs}
use Rattle.master.specs.Answers.{asked_frame, RequestIs}
use Rattle.master.specs.Tick.{call_of, uncalled, MasterCalledIs, MasterTickIs}
use Rattle.master.specs.declared.MasterCallTaken.{MasterCallTaken}

-- a request that was answered
module _ (limit : ℕ) (m : Master) (q : Request) (put frame after : List ℕ) (r : Result Master Refusal) where
  stx : List ℕ
  stx = frame_bytes q.preamble (request_header m q) put

  module _ (is : RequestIs limit m q put frame r after) where
    pub call_accepted : (n : Master) → r ≡ Ok n → MasterCalledIs limit m (Some q) put frame (record { master = n; result = CallResult.Taken }) after
    unfolding stx
    call_accepted n e =
        let called : requested limit m q (length put) ≡ accepted n = sym is.result ∙ ap called_as e in
        let buffer : stored frame 0 stx ≡ after = sym (is.buffer ∙ ap (λ (c : Called Master). asked_frame c frame stx) called) in
        record {
          goes = λ told event bytes.
              ap (λ (c : Called Master). master_called c m stx frame bytes told) called
              ∙ ap (λ (f : List ℕ). master_sent (master_sends n f) f bytes told CallResult.Taken) buffer;
        }

    pub call_refused : (why : Refusal) (n : ℕ) → r ≡ Err why → n ≡ number why
        → MasterCalledIs limit m (Some q) put frame (record { master = m; result = CallResult.Refused n }) after
    unfolding stx
    call_refused why n e same =
        let called : requested limit m q (length put) ≡ refused (number why) = sym is.result ∙ ap called_as e in
        let buffer : frame ≡ after = sym (is.buffer ∙ ap (λ (c : Called Master). asked_frame c frame stx) called) in
        record {
          goes = λ told event bytes.
              ap (λ (c : Called Master). master_called c m stx frame bytes told) called
              ∙ ap (λ (f : List ℕ). master_sent (master_sends m f) f bytes told (CallResult.Refused (number why))) buffer
              ∙ ap (λ (k : ℕ). master_sent (master_sends m after) after bytes told (CallResult.Refused k)) (sym same);
        }

-- by the call
pub call_none : (limit : ℕ) (m : Master) (call : Option Request) (put frame : List ℕ) (r : MasterCallTaken) → call ≡ None → r ≡ uncalled m → MasterCalledIs limit m call put frame r frame
call_none limit m call put frame r e p = record {
  goes = λ told event bytes.
      ap (λ (c : Option Request). master_calls limit (tells m told event) (call_of c put) frame bytes) e
      ∙ ap (λ (x : MasterCallTaken). master_sent (master_sends x.master frame) frame bytes told x.result) (sym p);
}

pub call_some : (limit : ℕ) (m : Master) (call : Option Request) (w : Request) (put frame after : List ℕ) (r : MasterCallTaken) → call ≡ Some w → MasterCalledIs limit m (Some w) put frame r after → MasterCalledIs limit m call put frame r after
call_some limit m call w put frame after r e p = record {
  goes = λ told event bytes. ap (λ (c : Option Request). master_calls limit (tells m told event) (call_of c put) frame bytes) e ∙ p.goes told event bytes;
}

-- the whole tick
pub tick_is : (limit : ℕ) (m : Master) (heard : Heard) (call : Option Request) (put frame bytes frame_after bytes_after : List ℕ) (t : MasterTaken) (c : MasterCallTaken) (s : MasterSent)
    → MasterTakeIs m heard bytes t bytes_after → MasterCalledIs limit t.master call put frame c frame_after → s ≡ master_sends c.master frame_after
    → MasterTickIs limit m heard call put frame bytes (record { master = s.master; sent = s.sent; told = t.told; event = t.event; result = c.result }) frame_after bytes_after
unfolding master_tick
tick_is limit m heard call put frame bytes frame_after bytes_after t c s p q e =
    record {
      step =
          ap (λ (x : MasterSent). master_sent x frame_after bytes_after t.told c.result) e
          ∙ sym (q.goes t.told t.event bytes_after)
          ∙ ap (λ (x : MasterTaken). master_calls limit x (call_of call put) frame bytes_after) p.takes
          ∙ ap (λ (b : List ℕ). master_calls limit (master_takes m heard b) (call_of call put) frame b) p.buffer;
      found = ap (λ (x : MasterTaken). x.event) p.takes;
    }

pub ruleset ticks = (refl, call_accepted, call_refused, call_none, call_some)
