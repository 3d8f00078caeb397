-- A master behind a chip: it is deaf in the tick behind its own sending, and deaf it does what it does in silence.
use Prim.Native.Nat.{ℕ, ◌+◌}
use mathlib.Core.Bool.{Bool, true}
use mathlib.Core.List.{List}
use mathlib.Core.Path.{◌≡◌, refl, sym, ap, ap₂, ◌∙◌}
use lib.ListN.{length}
use Rattle.base.specs.Refusal.{Called, accepted, refused}
use Rattle.base.specs.Choice.{when◌then◌else◌, ◌<?◌}
use Rattle.base.proofs.Choices.{if_is_true}
use Rattle.line.specs.Reader.{taken_data}
use Rattle.line.specs.declared.Event.{Event}
use Rattle.line.specs.declared.Heard.{Heard}
use Rattle.line.specs.declared.Heard.TheVariants.{Silence}
use Rattle.turns.specs.Master.{master_takes, master_sends, requested, on_heard, tells, one_more, sends_by, sends_at}
use Rattle.turns.specs.Link.{MasterSide, MasterStep, MasterCall, no_request, requests, master_data, master_called, master_calls, master_tick}
use Rattle.turns.specs.declared.Stage.{Stage}
use Rattle.turns.specs.declared.Stage.TheVariants.{Free, Waiting, Sending, Awaiting}
use Rattle.turns.specs.declared.Master.{Master}
use Rattle.turns.specs.declared.MasterTaken.{MasterTaken}
use Rattle.turns.specs.declared.MasterSent.{MasterSent}
use Rattle.turns.specs.declared.MasterTold.{MasterTold}
use Rattle.modem_party.specs.Behind.{HearsNot}
use Rattle.modem_party.specs.Ticks.{master_done, master_step, master_deaf, MasterSame}
use Rattle.modem_party.proofs.Deaf.{DeafIf, either, not_silent}
use Rattle.modem_party.proofs.Same.{behind_chip_same}

-- ---- deaf, it takes nothing

module _ (x : MasterSide) (d : x.master.deaf ≡ true) where
  data_deaf : (h : Heard) → master_data x h ≡ x.bytes
  data_deaf h = if_is_true x.master.deaf x.bytes (taken_data x.master.receiver h x.bytes) d

  takes_deaf : (h : Heard) (bytes : List ℕ) → master_takes x.master h bytes ≡ tells x.master MasterTold.Nothing Event.Nothing
  unfolding master_takes
  takes_deaf h bytes = if_is_true x.master.deaf _ (on_heard x.master h bytes) d

  ticks_deaf : (limit : ℕ) (h : Heard) (c : MasterCall) → master_tick limit x h c ≡ master_calls limit (tells x.master MasterTold.Nothing Event.Nothing) c x.frame x.bytes
  unfolding master_tick
  ticks_deaf limit h c = ap₂ (λ (t : MasterTaken) (b : List ℕ). master_calls limit t c x.frame b) (takes_deaf h (master_data x h)) (data_deaf h)

  ignores : (limit : ℕ) (h : Heard) (c : MasterCall) → master_tick limit x h c ≡ master_tick limit x Silence c
  ignores limit h c = ticks_deaf limit h c ∙ sym (ticks_deaf limit Silence c)

-- ---- if it sent, it is deaf

abbrev DeafSent : MasterSent → Type 0
DeafSent = DeafIf (λ (u : MasterSent). u.sent) (λ (u : MasterSent). u.master.deaf)

abbrev DeafStep : MasterStep → Type 0
DeafStep = DeafIf (λ (u : MasterStep). u.sent) (λ (u : MasterStep). u.side.master.deaf)

one_of : (b : Bool) (u v : MasterSent) → DeafSent u → DeafSent v → DeafSent (when b then u else v)
one_of = either (λ (u : MasterSent). u.sent) (λ (u : MasterSent). u.master.deaf)

at_deaf : (m : Master) (frame : List ℕ) (n attempts : ℕ) → DeafSent (sends_at m frame n attempts)
at_deaf m frame n attempts = one_of (n + 1 <? m.message.length) _ _ (λ c e. refl) (λ c e. refl)

by_deaf : (m : Master) (frame : List ℕ) (s : Stage) → DeafSent (sends_by m frame s)
by_deaf m frame Free = λ c e. not_silent c e
by_deaf m frame Waiting = one_of (0 <? m.timer.window) _ _ (at_deaf m frame 0 (one_more m.retries m.message.attempts)) (λ c e. not_silent c e)
by_deaf m frame (Sending n) = at_deaf m frame n m.message.attempts
by_deaf m frame (Awaiting n) = λ c e. not_silent c e

sends_deaf : (m : Master) (frame : List ℕ) → DeafSent (master_sends m frame)
unfolding master_sends
sends_deaf m frame = by_deaf m frame m.message.stage

called_deaf : (r : Called Master) (m : Master) (put frame bytes : List ℕ) (told : MasterTold) → DeafStep (master_called r m put frame bytes told)
called_deaf (accepted n) m put frame bytes told c e = sends_deaf _ _ c e
called_deaf (refused why) m put frame bytes told c e = sends_deaf _ _ c e

calls_deaf : (limit : ℕ) (t : MasterTaken) (k : MasterCall) (frame bytes : List ℕ) → DeafStep (master_calls limit t k frame bytes)
calls_deaf limit t no_request frame bytes c e = sends_deaf _ _ c e
calls_deaf limit t (requests q put) frame bytes c e = called_deaf (requested limit t.master q (length put)) t.master _ frame bytes t.told c e

ticked_deaf : (limit : ℕ) (x : MasterSide) (h : Heard) (k : MasterCall) → DeafStep (master_tick limit x h k)
unfolding master_tick
ticked_deaf limit x h k = calls_deaf limit (master_takes x.master h (master_data x h)) k x.frame (master_data x h)

-- ---- behind a chip

pub master_hears_not : (limit : ℕ) → HearsNot (master_step limit) master_deaf
master_hears_not limit = record {
  ignores = λ s h c d. ap master_done (ignores s d limit h c);
  sends_deaf = λ s h c k e. ticked_deaf limit s h c k e;
}

pub master_same : (limit : ℕ) → MasterSame limit
master_same limit = behind_chip_same (master_step limit) master_deaf (master_hears_not limit)
