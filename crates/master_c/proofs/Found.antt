-- The ACK that a master tells its host is the frame that its reader found in that tick.
use Prim.Native.Nat.{ℕ, ◌/◌}
use mathlib.Core.List.{List}
use mathlib.Core.Path.{◌≡◌, refl, sym, subst}
use lib.ListN.{length}
use Rattle.base.specs.Choice.{◌≤?◌, ◌=?◌}
use Rattle.base.specs.Refusal.{Called, accepted, refused}
use Rattle.frame.specs.Address.{byte_at}
use Rattle.frame.specs.Frame.{frame_bytes}
use Rattle.line.specs.Reader.{taken, inside_frame}
use Rattle.line.specs.declared.Event.{Event}
use Rattle.line.specs.declared.Event.TheVariants.{Nothing, PassedOver, Broken, Frame, Damaged}
use Rattle.line.specs.declared.Heard.{Heard}
use Rattle.line.specs.declared.Heard.TheVariants.{Silence, Character}
use Rattle.line.specs.declared.Receiver.{Receiver}
use Rattle.line.specs.declared.Whole.{Whole}
use Rattle.turns.specs.Link.{MasterCall, no_request, requests, MasterSide, master_data, master_called, master_tick}
use Rattle.turns.specs.Master.{at_break, at_frame, answers_message, if_awaiting, after_break, on_character, rt1_ends, counts, with_reader, on_silence, on_heard, master_takes, requested, request_header}
use Rattle.turns.specs.Party.{is_broadcast}
use Rattle.turns.specs.declared.Ending.{Ending}
use Rattle.turns.specs.declared.Master.{Master}
use Rattle.turns.specs.declared.MasterTaken.{MasterTaken}
use Rattle.turns.specs.declared.MasterTold.{MasterTold}
use Rattle.turns.specs.declared.Message.{Message}
use Rattle.turns.specs.declared.Stage.{Stage}
use Rattle.turns.specs.declared.Stage.TheVariants.{Free, Waiting, Sending, Awaiting}
use Rattle.turns.proofs.Bursting.{if_both}
use Rattle.master_c.specs.Tick.{ToldIsFound}

abbrev Ends : Event → Ending → Type 0
Ends event e = ToldIsFound e.told event

abbrev Found : MasterTaken → Type 0
Found t = ToldIsFound t.told t.event

-- ---- the message's end

by_break : (m : Master) (event : Event) → Ends event (at_break m)
by_break m event = if_both (Ends event) (is_broadcast m.message.header) _ _ tt (if_both (Ends event) (m.message.attempts ≤? m.retries) _ _ tt tt)

by_frame : (m : Master) (w : Whole) (bytes : List ℕ) → Ends (Frame w) (at_frame m w bytes)
by_frame m w bytes =
    if_both (Ends (Frame w)) (answers_message m w.header) _ _
    (if_both (Ends (Frame w)) (byte_at bytes 0 / 128 =? 1) _ _ (by_break m (Frame w)) refl)
    (by_break m (Frame w))

awaiting : (stage : Stage) (g : Message) (e : Ending) (event : Event) → Ends event e → Ends event (if_awaiting stage g e)
awaiting Free g e event f = tt
awaiting Waiting g e event f = tt
awaiting (Sending n) g e event f = tt
awaiting (Awaiting n) g e event f = f

broken : (m : Master) (event : Event) → Ends event (if_awaiting m.message.stage m.message (at_break m))
broken m event = awaiting m.message.stage m.message (at_break m) event (by_break m event)

-- ---- what was heard

by_event : (m : Master) (r : Receiver) (event : Event) (bytes : List ℕ) → Found (on_character m r event bytes)
by_event m r Nothing bytes = tt
by_event m r PassedOver bytes = broken m PassedOver
by_event m r Broken bytes = broken m Broken
by_event m r (Frame w) bytes = awaiting m.message.stage m.message (at_frame m w bytes) (Frame w) (by_frame m w bytes)
by_event m r (Damaged w h) bytes = broken m (Damaged w h)

counted : (m : Master) (told : MasterTold) (event : Event) → ToldIsFound told event → Found (counts m told event)
counted m told event f = if_both Found (rt1_ends m.message.stage) _ _ (by_break m event) f

counted_told : (m : Master) (told : MasterTold) (event : Event) → ToldIsFound told event → ToldIsFound (counts m told event).told event
counted_told m told event f = if_both (λ (t : MasterTaken). ToldIsFound t.told event) (rt1_ends m.message.stage) _ _ (by_break m event) f

on_silence_lem : (m : Master) (r : Receiver) → Found (on_silence m r)
on_silence_lem m r =
    let behind : MasterTaken = after_break m r Broken in
    if_both Found (inside_frame m.receiver.place) _ _
    (if_both Found m.receiver.gap _ _
    (counted (counts behind.master behind.told Broken).master (counts behind.master behind.told Broken).told Broken (counted_told behind.master behind.told Broken (broken m Broken)))
    tt)
    (counted (with_reader m r) MasterTold.Nothing Nothing tt)

on_heard_lem : (m : Master) (heard : Heard) (bytes : List ℕ) → Found (on_heard m heard bytes)
on_heard_lem m Silence bytes = on_silence_lem m (taken m.receiver Silence).receiver
on_heard_lem m (Character c) bytes = by_event m (taken m.receiver (Character c)).receiver (taken m.receiver (Character c)).event bytes
on_heard_lem m (Heard.Damaged c kind) bytes = by_event m (taken m.receiver (Heard.Damaged c kind)).receiver (taken m.receiver (Heard.Damaged c kind)).event bytes

takes_found : (m : Master) (heard : Heard) (bytes : List ℕ) → Found (master_takes m heard bytes)
unfolding master_takes
takes_found m heard bytes = if_both Found m.deaf _ _ tt (on_heard_lem m heard bytes)

-- ---- a request changes nothing of what is told, nor of the data

request_tells : (c : Called Master) (before : Master) (put frame bytes : List ℕ) (told : MasterTold) → (master_called c before put frame bytes told).told ≡ told
request_tells (accepted m) before put frame bytes told = refl
request_tells (refused why) before put frame bytes told = refl

tick_tells : (limit : ℕ) (x : MasterSide) (heard : Heard) (call : MasterCall) → (master_tick limit x heard call).told ≡ (master_takes x.master heard (master_data x heard)).told
unfolding master_tick
tick_tells limit x heard no_request = refl
tick_tells limit x heard (requests q put) =
    let m : Master = (master_takes x.master heard (master_data x heard)).master in
    request_tells (requested limit m q (length put)) m (frame_bytes q.preamble (request_header m q) put) x.frame (master_data x heard) (master_takes x.master heard (master_data x heard)).told

pub told_found : (limit : ℕ) (x : MasterSide) (heard : Heard) (call : MasterCall)
    → ToldIsFound (master_tick limit x heard call).told (master_takes x.master heard (master_data x heard)).event
told_found limit x heard call =
    subst (λ (t : MasterTold). ToldIsFound t (master_takes x.master heard (master_data x heard)).event) (sym (tick_tells limit x heard call)) (takes_found x.master heard (master_data x heard))

request_data : (c : Called Master) (before : Master) (put frame bytes : List ℕ) (told : MasterTold) → (master_called c before put frame bytes told).side.bytes ≡ bytes
request_data (accepted m) before put frame bytes told = refl
request_data (refused why) before put frame bytes told = refl

-- the data buffer behind the tick is as the reader left it
pub data_found : (limit : ℕ) (x : MasterSide) (heard : Heard) (call : MasterCall) → (master_tick limit x heard call).side.bytes ≡ master_data x heard
unfolding master_tick
data_found limit x heard no_request = refl
data_found limit x heard (requests q put) =
    let m : Master = (master_takes x.master heard (master_data x heard)).master in
    request_data (requested limit m q (length put)) m (frame_bytes q.preamble (request_header m q) put) x.frame (master_data x heard) (master_takes x.master heard (master_data x heard)).told
