-- A master without a message, whose host asks nothing: it sends nothing, whatever it hears, and has no message then.
use Prim.Native.Nat.{ℕ}
use mathlib.Core.Path.{◌≡◌, ap, ◌∙◌}
use mathlib.Core.List.{List}
use Rattle.base.proofs.Choices.{if_is_false}
use Rattle.line.specs.Reader.{taken, inside_frame}
use Rattle.line.specs.declared.Event.{Event}
use Rattle.line.specs.declared.Event.TheVariants.{Nothing, PassedOver, Broken, Frame, Damaged}
use Rattle.line.specs.declared.Heard.{Heard}
use Rattle.line.specs.declared.Heard.TheVariants.{Silence, Character}
use Rattle.line.specs.declared.Receiver.{Receiver}
use Rattle.turns.specs.Master.{at_break, at_frame, counts, waited, rt1_ends, if_awaiting, after_break, on_silence, on_character, on_heard, master_takes, sends_by, master_sends, with_reader}
use Rattle.turns.specs.Link.{no_request, MasterSide, MasterStep, master_tick, master_data}
use Rattle.turns.specs.declared.Ending.{Ending}
use Rattle.turns.specs.declared.Sent.TheVariants.{Silent}
use Rattle.turns.specs.declared.Stage.{Stage}
use Rattle.turns.specs.declared.Stage.TheVariants.{Free}
use Rattle.turns.specs.declared.Message.{Message}
use Rattle.turns.specs.declared.Master.{Master}
use Rattle.turns.specs.declared.MasterTold.{MasterTold}
use Rattle.turns.specs.declared.MasterTaken.{MasterTaken}
use Rattle.turns.proofs.Bursting.{if_both}

abbrev Without : MasterTaken → Type 0
Without t = t.master.message.stage ≡ Free

-- nothing is awaited
none_ends : (g : Message) (e : Ending) → g.stage ≡ Free → (if_awaiting g.stage g e).message.stage ≡ Free
none_ends g e f = ap (λ (s : Stage). (if_awaiting s g e).message.stage) f ∙ f

free_counts : (m : Master) (told : MasterTold) (event : Event) → m.message.stage ≡ Free → Without (counts m told event)
free_counts m told event f = ap (λ (t : MasterTaken). t.master.message.stage) (if_is_false (rt1_ends m.message.stage) _ _ (ap rt1_ends f)) ∙ ap waited f

free_silence : (m : Master) (r : Receiver) → m.message.stage ≡ Free → Without (on_silence m r)
free_silence m r f =
    let once = counts (after_break m r Broken).master (after_break m r Broken).told Broken in
    if_both Without (inside_frame m.receiver.place) _ _
    (if_both Without m.receiver.gap _ _
    (free_counts once.master once.told Broken (free_counts (after_break m r Broken).master (after_break m r Broken).told Broken (none_ends m.message (at_break m) f)))
    f)
    (free_counts (with_reader m r) MasterTold.Nothing Nothing f)

free_character : (m : Master) (r : Receiver) (e : Event) (bytes : List ℕ) → m.message.stage ≡ Free → Without (on_character m r e bytes)
free_character m r Nothing bytes f = f
free_character m r PassedOver bytes f = none_ends m.message (at_break m) f
free_character m r Broken bytes f = none_ends m.message (at_break m) f
free_character m r (Frame w) bytes f = none_ends m.message (at_frame m w bytes) f
free_character m r (Damaged w h) bytes f = none_ends m.message (at_break m) f

free_heard : (m : Master) (heard : Heard) (bytes : List ℕ) → m.message.stage ≡ Free → Without (on_heard m heard bytes)
free_heard m Silence bytes f = free_silence m (taken m.receiver Silence).receiver f
free_heard m (Character c) bytes f = free_character m (taken m.receiver (Character c)).receiver (taken m.receiver (Character c)).event bytes f
free_heard m (Heard.Damaged c kind) bytes f = free_character m (taken m.receiver (Heard.Damaged c kind)).receiver (taken m.receiver (Heard.Damaged c kind)).event bytes f

free_takes : (m : Master) (heard : Heard) (bytes : List ℕ) → m.message.stage ≡ Free → Without (master_takes m heard bytes)
unfolding master_takes
free_takes m heard bytes f = if_both Without m.deaf _ _ f (free_heard m heard bytes f)

pub record StaysFree (step : MasterStep) : Type 0 where
  pub silent : step.sent ≡ Silent
  pub free : step.side.master.message.stage ≡ Free

pub free_tick : (limit : ℕ) (x : MasterSide) (heard : Heard) → x.master.message.stage ≡ Free → StaysFree (master_tick limit x heard no_request)
unfolding master_tick master_sends
free_tick limit x heard f =
    let t = (master_takes x.master heard (master_data x heard)).master in
    let e : t.message.stage ≡ Free = free_takes x.master heard (master_data x heard) f in
    record {
      silent = ap (λ (s : Stage). (sends_by t x.frame s).sent) e;
      free = ap (λ (s : Stage). (sends_by t x.frame s).master.message.stage) e ∙ e;
    }
