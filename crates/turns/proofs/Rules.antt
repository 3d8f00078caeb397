-- Laws beside the definitions, for rules that only the wait rests on: the window of a master that gives up, and the alternation of BACKs.
use Prim.Native.Nat.{ℕ, ◌+◌}
use mathlib.Core.Path.{◌≡◌, refl, ap, ◌∙◌}
use mathlib.Core.Bool.{true, false}
use mathlib.Core.List.{List}
use Rattle.base.specs.Choice.{◌<?◌}
use Rattle.base.proofs.Choices.{if_is_true, if_is_false}
use Rattle.line.specs.declared.Event.{Event}
use Rattle.turns.specs.Master.{at_break, rt1_ends, unless_ended, timer_counted, counts}
use Rattle.turns.specs.Device.{first_for, sends_by, device_sends}
use Rattle.turns.specs.declared.Stage.{Stage}
use Rattle.turns.specs.declared.Stage.TheVariants.{Free}
use Rattle.turns.specs.declared.Turn.{Turn}
use Rattle.turns.specs.declared.Turn.TheVariants.{Begins}
use Rattle.turns.specs.declared.Master.{Master}
use Rattle.turns.specs.declared.MasterTold.{MasterTold}
use Rattle.turns.specs.declared.MasterTaken.{MasterTaken}
use Rattle.turns.specs.declared.Device.{Device}
use Rattle.turns.specs.declared.DeviceSent.{DeviceSent}
use Rattle.turns.proofs.Bursting.{if_both}

-- "A master that gives up on RT1's end leaves that window unused": none is open, and the next opens when it would have
pub given_up_unused : (m : Master) (told : MasterTold) (event : Event) → rt1_ends m.message.stage ≡ true → (at_break m).message.stage ≡ Free
    → ((counts m told event).master.timer.window ≡ 0) × ((counts m told event).master.timer.next ≡ (timer_counted m).next)
given_up_unused m told event e f =
    let c = ap (λ (t : MasterTaken). t.master.timer) (if_is_true (rt1_ends m.message.stage) _ _ e) ∙ ap (λ (s : Stage). unless_ended s (timer_counted m)) f in
    (ap (λ (t : Rattle.turns.specs.declared.Timer.Timer). t.window) c, ap (λ (t : Rattle.turns.specs.declared.Timer.Timer). t.next) c)

-- "The first after burst goes from off to on is for the primary, then they alternate": an ACK of a bursting device leaves whose turn it is
ack_alternation : (d : Device) (frame : List ℕ) → d.turn ≡ Begins → (device_sends d frame).device.primary ≡ first_for d
unfolding device_sends
ack_alternation d frame e = ap (λ (t : Turn). (sends_by d frame t).device.primary) e ∙ if_both (λ (s : DeviceSent). s.device.primary ≡ first_for d) (0 + 1 <? d.length) _ _ refl refl

pub alternation_kept : (d : Device) (frame : List ℕ) → d.turn ≡ Begins → d.burst ≡ true → (device_sends d frame).device.primary ≡ d.primary
alternation_kept d frame e on = ack_alternation d frame e ∙ if_is_true d.burst _ _ on

pub primary_first_served : (d : Device) (frame : List ℕ) → d.turn ≡ Begins → d.burst ≡ false → (device_sends d frame).device.primary ≡ true
primary_first_served d frame e off = ack_alternation d frame e ∙ if_is_false d.burst _ _ off
