-- Laws of the port's master, for the proofs of its functions.
use Rattle.std.specs.Prelude.{Result, Ok, Err, Option, Some, None}
use Prim.Native.Nat.{ℕ}
use mathlib.Core.List.{List}
use mathlib.Core.Path.{◌≡◌, refl, sym, ap, ◌∙◌}
use lib.ListN.{length}
use borrow.Author.Tests.{eq-eqb, ne_eqb}
use Rattle.base.specs.Choice.{◌=?◌}
use Rattle.base.specs.Refusal.{number, Called, accepted, refused, called_as}
use Rattle.base.specs.Store.{stored}
use Rattle.base.specs.declared.Refusal.{Refusal}
use Rattle.base.proofs.Choices.{if_is_true, if_is_false}
use Rattle.frame.specs.Frame.{frame_bytes}
use Rattle.line.specs.declared.Heard.{Heard}
use Rattle.turns.specs.Master.{request_header, requested}
use Rattle.turns.specs.declared.CallResult.{CallResult}
use Rattle.turns.specs.declared.Master.{Master}
use Rattle.turns.specs.declared.MasterTaken.{MasterTaken}
use Rattle.turns.specs.declared.Request.{Request}
use Rattle.master.specs.Answers.{asked_frame, RequestIs}
use Rattle.master.specs.Takes.{MasterTakeIs}
use Rattle.master.specs.Tick.{call_of}
use Rattle.port.specs.Numbers.{port_preamble}
use Rattle.port.specs.Master.{by_found, since_after, master_took, port_master_takes, port_requested, port_master_sends}
use Rattle.port.specs.Ticks.{with_master, port_master_sent, master_called, master_calls, port_master_tick}
use Rattle.port.specs.declared.PortMaster.{PortMaster}
use Rattle.port.specs.declared.PortMasterSent.{PortMasterSent}
use Rattle.port.specs.declared.PortMasterTaken.{PortMasterTaken}
use Rattle.port_master.specs.Calls.{PortRequestIs}
use Rattle.port_master.specs.Ticks.{PortMasterTickIs}
use Rattle.port_master.specs.Parts.{PortTakeIs, uncalled, took, PortCalledIs}
use Rattle.port_master.specs.declared.PortCallTaken.{PortCallTaken}

-- ---- take

pub take_is : (x : PortMaster) (heard : Heard) (bytes after : List ℕ) (s t : MasterTaken) (since : ℕ) → MasterTakeIs x.master heard bytes s after → t ≡ by_found x.master after s s.event → since ≡ since_after x.since t.event
    → PortTakeIs x heard bytes (record { master = record { master = t.master; since = since; wake = x.wake }; told = t.told; event = t.event }) after
unfolding port_master_takes
take_is x heard bytes after s t since p q r = record {
  takes =
      (λ i. record { master = record { master = t.master; since = r i; wake = x.wake }; told = t.told; event = t.event })
      ∙ ap (master_took x) (q ∙ ap (λ (u : MasterTaken). by_found x.master after u u.event) p.takes);
  buffer = p.buffer;
}

-- ---- the host's request

module _ (limit : ℕ) (m : Master) (q : Request) (bytes frame : List ℕ) where
  pub request_five : (r : Result Master Refusal) (after : List ℕ) → q.preamble ≡ 5 → RequestIs limit m q bytes frame r after → PortRequestIs limit m q bytes frame r after
  unfolding port_requested
  request_five r after e p =
      let c = if_is_true (q.preamble =? port_preamble) (requested limit m q (length bytes)) (refused 3) (eq-eqb q.preamble 5 e) in
      record { result = p.result ∙ sym c; buffer = p.buffer ∙ ap (λ (k : Called Master). asked_frame k frame (frame_bytes q.preamble (request_header m q) bytes)) (sym c) }

  pub request_other : (q.preamble ≡ 5 → ⊥) → PortRequestIs limit m q bytes frame (Err Refusal.PreambleLength) frame
  unfolding port_requested
  request_other e =
      let c = if_is_false (q.preamble =? port_preamble) (requested limit m q (length bytes)) (refused 3) (ne_eqb q.preamble 5 e) in
      record { result = sym c; buffer = ap (λ (k : Called Master). asked_frame k frame (frame_bytes q.preamble (request_header m q) bytes)) (sym c) }

module _ (limit : ℕ) (x : PortMaster) (q : Request) (put frame after : List ℕ) (r : Result Master Refusal) where
  stx : List ℕ
  stx = frame_bytes q.preamble (request_header x.master q) put

  module _ (is : PortRequestIs limit x.master q put frame r after) where
    pub call_accepted : (n : Master) (y : PortMaster) → r ≡ Ok n → y ≡ with_master x n → PortCalledIs limit x (Some q) put frame (record { master = y; result = CallResult.Taken }) after
    unfolding stx
    call_accepted n y e z =
        let called : port_requested limit x.master q (length put) ≡ accepted n = sym is.result ∙ ap called_as e in
        let buffer : stored frame 0 stx ≡ after = sym (is.buffer ∙ ap (λ (c : Called Master). asked_frame c frame stx) called) in
        record {
          goes = λ heard told event bytes.
              ap (λ (c : Called Master). master_called heard (took x told event) c stx frame bytes) called
              ∙ (λ i. port_master_sent heard (took x told event) (port_master_sends (sym z i) (buffer i)) (buffer i) bytes CallResult.Taken);
        }

    pub call_refused : (why : Refusal) (n : ℕ) → r ≡ Err why → n ≡ number why
        → PortCalledIs limit x (Some q) put frame (record { master = x; result = CallResult.Refused n }) after
    unfolding stx
    call_refused why n e same =
        let called : port_requested limit x.master q (length put) ≡ refused (number why) = sym is.result ∙ ap called_as e in
        let buffer : frame ≡ after = sym (is.buffer ∙ ap (λ (c : Called Master). asked_frame c frame stx) called) in
        record {
          goes = λ heard told event bytes.
              ap (λ (c : Called Master). master_called heard (took x told event) c stx frame bytes) called
              ∙ ap (λ (f : List ℕ). port_master_sent heard (took x told event) (port_master_sends x f) f bytes (CallResult.Refused (number why))) buffer
              ∙ ap (λ (k : ℕ). port_master_sent heard (took x told event) (port_master_sends x after) after bytes (CallResult.Refused k)) (sym same);
        }

pub call_none : (limit : ℕ) (x : PortMaster) (call : Option Request) (put frame : List ℕ) (r : PortCallTaken) → call ≡ None → r ≡ uncalled x → PortCalledIs limit x call put frame r frame
call_none limit x call put frame r e p = record {
  goes = λ heard told event bytes.
      ap (λ (c : Option Request). master_calls limit heard (took x told event) (call_of c put) frame bytes) e
      ∙ ap (λ (k : PortCallTaken). port_master_sent heard (took x told event) (port_master_sends k.master frame) frame bytes k.result) (sym p);
}

pub call_some : (limit : ℕ) (x : PortMaster) (call : Option Request) (w : Request) (put frame after : List ℕ) (r : PortCallTaken) → call ≡ Some w → PortCalledIs limit x (Some w) put frame r after → PortCalledIs limit x call put frame r after
call_some limit x call w put frame after r e p = record {
  goes = λ heard told event bytes. ap (λ (c : Option Request). master_calls limit heard (took x told event) (call_of c put) frame bytes) e ∙ p.goes heard told event bytes;
}

pub ruleset calls = (refl, request_five, request_other, call_accepted, call_refused, call_none, call_some)

-- ---- the whole tick

pub tick_is : (limit : ℕ) (x : PortMaster) (heard : Heard) (call : Option Request) (put frame bytes frame_after bytes_after : List ℕ) (t : PortMasterTaken) (c : PortCallTaken) (s : PortMasterSent)
    → PortTakeIs x heard bytes t bytes_after → PortCalledIs limit t.master call put frame c frame_after → s ≡ port_master_sends c.master frame_after
    → PortMasterTickIs limit x heard call put frame bytes (record { master = s.master; sent = s.sent; told = t.told; event = t.event; result = c.result }) frame_after bytes_after
unfolding port_master_tick
tick_is limit x heard call put frame bytes frame_after bytes_after t c s p q e =
    ap (λ (k : PortMasterSent). port_master_sent heard t k frame_after bytes_after c.result) e
    ∙ sym (q.goes heard t.told t.event bytes_after)
    ∙ ap (λ (k : PortMasterTaken). master_calls limit heard k (call_of call put) frame bytes_after) p.takes
    ∙ ap (λ (b : List ℕ). master_calls limit heard (port_master_takes x heard b) (call_of call put) frame b) p.buffer

pub ruleset wholes = (take_is, tick_is)
