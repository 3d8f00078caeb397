-- A run in which no master asks a command 11: no device is told one, so no ledger holds one, and item 6's premise holds of the run.
use Prim.Native.Nat.{ℕ, ◌+◌, ◌-◌, ◌/◌, ◌≤◌}
use native.Mathlib.Omega.{arith}
use mathlib.Core.Path.{◌≡◌, refl, sym, ap, subst, ◌∙◌}
use mathlib.Core.Bool.{Bool, true, false}
use mathlib.Core.List.{List, [], ◌∷◌}
use lib.ListN.{length, get_or}
use borrow.Author.Tests.{ne_eqb}
use Rattle.base.specs.Refusal.{Called}
use Rattle.base.specs.Choice.{when◌then◌else◌, ◌≤?◌, ◌=?◌, ◌<?◌, ◌outside◌to◌}
use Rattle.frame.specs.Address.{byte_at, address_above}
use Rattle.frame.specs.Frame.{frame_bytes}
use Rattle.frame.specs.Limits.{fewest_preambles, most_preambles}
use Rattle.frame.specs.declared.Header.{Header}
use Rattle.line.specs.Reader.{taken, inside_frame}
use Rattle.line.specs.declared.Event.{Event}
use Rattle.line.specs.declared.Event.TheVariants.{Nothing, PassedOver, Broken, Frame, Damaged}
use Rattle.line.specs.declared.Heard.{Heard}
use Rattle.line.specs.declared.Heard.TheVariants.{Silence, Character}
use Rattle.line.specs.declared.Profile.{Profile}
use Rattle.line.specs.declared.Receiver.{Receiver}
use Rattle.line.specs.declared.Whole.{Whole}
use Rattle.turns.specs.Party.{is_broadcast, seeks_tag}
use Rattle.turns.specs.Master as M
use Rattle.turns.specs.Master.{at_break, at_frame, answers_message, if_awaiting, after_break, counts, rt1_ends, with_reader, master_takes, request_header, has_message, command_refused, polling_up_to, requested_up_to, requested, sends_at, master_sends}
use Rattle.turns.specs.Link.{MasterCall, no_request, requests, DeviceCall, no_call, gives_answer, gives_content, MasterSide, DeviceSide, DeviceStep, Link, Calls, master_called, master_data, master_tick, device_ticks, link_tick, link_after, run}
use Rattle.turns.specs.Run.{Starts, EachTick, tick_and, OneBursts}
use Rattle.turns.specs.Ledgers.{Ledger, blank, told, given, told_by, answered_with, called_by, ledger_after, ledgers_after, blanks, found, finders, OneFinds}
use Rattle.turns.specs.Ledgers as G
use Rattle.turns.specs.declared.CallResult.{CallResult}
use Rattle.turns.specs.declared.DeviceTold.{DeviceTold}
use Rattle.turns.specs.declared.DeviceTold.TheVariants.{Broadcast}
use Rattle.turns.specs.declared.Ending.{Ending}
use Rattle.turns.specs.declared.Master.{Master}
use Rattle.turns.specs.declared.MasterSent.{MasterSent}
use Rattle.turns.specs.declared.MasterTaken.{MasterTaken}
use Rattle.turns.specs.declared.MasterTold.{MasterTold}
use Rattle.turns.specs.declared.Request.{Request}
use Rattle.turns.specs.declared.Stage.{Stage}
use Rattle.turns.specs.declared.Stage.TheVariants.{Free, Waiting, Sending, Awaiting}
use Rattle.turns.proofs.Bursting.{if_both}
use Rattle.turns.proofs.DeviceSpeaking.{an_ack, a_back}
use Rattle.runs.proofs.AckBack.{spoken_of}
use Rattle.turns.proofs.Windows.{Valid}
use Rattle.runs.proofs.Tags.{AllOwe, all_tick, sole, fresh_owe}
use Rattle.runs.proofs.Together.{EachTold, no_device, told_and, NoTag, silence_untold, stx_untold, device_untold, master_place, is_not_stx}
use Rattle.runs.proofs.NoTwoSend.{Phase, silent, primary_sends, secondary_sends, ack_sent, back_sent, phase_tick, phase_first}

-- not of a command 11 by broadcast
abbrev pub Other : Header → Type 0
Other h = seeks_tag h ≡ false

-- a master's call that asks no command 11
pub data OtherCall : MasterCall → Type 0 where
  asks_nothing : OtherCall no_request
  asks_other : {q : Request} {put : List ℕ} → (q.command ≡ 11 → ⊥) → OtherCall (requests q put)

-- ---- a master: the header of its message is that of the request that was taken last

break_header : (m : Master) → (at_break m).message.header ≡ m.message.header
break_header m =
    let P : Ending → Type 0 = λ e. e.message.header ≡ m.message.header in
    if_both P (is_broadcast m.message.header) _ _ refl (if_both P (m.message.attempts ≤? m.retries) _ _ refl refl)

frame_header : (m : Master) (w : Whole) (bytes : List ℕ) → (at_frame m w bytes).message.header ≡ m.message.header
frame_header m w bytes =
    let P : Ending → Type 0 = λ e. e.message.header ≡ m.message.header in
    if_both P (answers_message m w.header) _ _ (if_both P (byte_at bytes 0 / 128 =? 1) _ _ (break_header m) refl) (break_header m)

awaiting_header : (m : Master) (s : Stage) (e : Ending) → e.message.header ≡ m.message.header → (if_awaiting s m.message e).message.header ≡ m.message.header
awaiting_header m Free e h = refl
awaiting_header m Waiting e h = refl
awaiting_header m (Sending n) e h = refl
awaiting_header m (Awaiting n) e h = h

abbrev header_of : MasterTaken → Header
header_of t = t.master.message.header

broken_header : (m : Master) (r : Receiver) (event : Event) → header_of (after_break m r event) ≡ m.message.header
broken_header m r event = awaiting_header m m.message.stage (at_break m) (break_header m)

counts_header : (m : Master) (t : MasterTold) (event : Event) → header_of (counts m t event) ≡ m.message.header
counts_header m t event = if_both (λ (t : MasterTaken). header_of t ≡ m.message.header) (rt1_ends m.message.stage) _ _ (break_header m) refl

silence_header : (m : Master) (r : Receiver) → header_of (M.on_silence m r) ≡ m.message.header
silence_header m r =
    let P : MasterTaken → Type 0 = λ t. header_of t ≡ m.message.header in
    let b = after_break m r Broken in
    if_both P (inside_frame m.receiver.place) _ _
    (if_both P m.receiver.gap _ _
    (counts_header (counts b.master b.told Broken).master _ Broken ∙ counts_header b.master b.told Broken ∙ broken_header m r Broken)
    refl)
    (counts_header (with_reader m r) MasterTold.Nothing Nothing)

character_header : (m : Master) (r : Receiver) (event : Event) (bytes : List ℕ) → header_of (M.on_character m r event bytes) ≡ m.message.header
character_header m r Nothing bytes = refl
character_header m r PassedOver bytes = broken_header m r PassedOver
character_header m r Broken bytes = broken_header m r Broken
character_header m r (Frame w) bytes = awaiting_header m m.message.stage (at_frame m w bytes) (frame_header m w bytes)
character_header m r (Damaged w h) bytes = broken_header m r (Damaged w h)

heard_header : (m : Master) (heard : Heard) (bytes : List ℕ) → header_of (M.on_heard m heard bytes) ≡ m.message.header
heard_header m Silence bytes = silence_header m (taken m.receiver Silence).receiver
heard_header m (Character c) bytes = character_header m _ (taken m.receiver (Character c)).event bytes
heard_header m (Heard.Damaged c kind) bytes = character_header m _ (taken m.receiver (Heard.Damaged c kind)).event bytes

takes_header : (m : Master) (heard : Heard) (bytes : List ℕ) → header_of (master_takes m heard bytes) ≡ m.message.header
unfolding master_takes
takes_header m heard bytes = if_both (λ (t : MasterTaken). header_of t ≡ m.message.header) m.deaf _ _ refl (heard_header m heard bytes)

sends_header : (m : Master) (frame : List ℕ) → (master_sends m frame).master.message.header ≡ m.message.header
unfolding master_sends
sends_header m frame = go m.message.stage
  where
    at : (n attempts : ℕ) → (sends_at m frame n attempts).master.message.header ≡ m.message.header
    at n attempts = if_both (λ (s : MasterSent). s.master.message.header ≡ m.message.header) (n + 1 <? m.message.length) _ _ refl refl

    go : (s : Stage) → (M.sends_by m frame s).master.message.header ≡ m.message.header
    go Free = refl
    go Waiting = if_both (λ (s : MasterSent). s.master.message.header ≡ m.message.header) (0 <? m.timer.window) _ _ (at 0 _) refl
    go (Sending n) = at n m.message.attempts
    go (Awaiting n) = refl

master_other : (limit : ℕ) (x : MasterSide) (heard : Heard) (call : MasterCall) → OtherCall call → Other x.master.message.header → Other (master_tick limit x heard call).side.master.message.header
unfolding master_tick requested requested_up_to
master_other limit x heard no_request asks_nothing h =
    ap seeks_tag (sends_header (master_takes x.master heard (master_data x heard)).master x.frame ∙ takes_header x.master heard (master_data x heard)) ∙ h
master_other limit x heard (requests q put) (asks_other f) h =
    if_both P (q.preamble outside fewest_preambles to most_preambles) _ _ (no 3)
    (if_both P (q.revision outside 3 to 7) _ _ (no 17)
    (if_both P (address_above (polling_up_to q.revision) (request_header m q)) _ _ (no 4)
    (if_both P (command_refused q) _ _ (no 5)
    (if_both P (limit <? length put) _ _ (no 6)
    (if_both P (has_message m.message.stage) _ _ (no 7)
    (ap seeks_tag (sends_header _ _) ∙ if_both (λ (b : Bool). b ≡ false) (is_broadcast (request_header m q)) _ _ (ne_eqb q.command 11 f) refl))))))
  where
    m : Master
    m = (master_takes x.master heard (master_data x heard)).master

    P : Called Master → Type 0
    P c = Other (master_called c (master_takes x.master heard (master_data x heard)).master (frame_bytes q.preamble (request_header (master_takes x.master heard (master_data x heard)).master q) put) x.frame (master_data x heard) (master_takes x.master heard (master_data x heard)).told).side.master.message.header

    no : (why : ℕ) → Other (master_sends (master_takes x.master heard (master_data x heard)).master x.frame).master.message.header
    no why = ap seeks_tag (sends_header (master_takes x.master heard (master_data x heard)).master x.frame ∙ takes_header x.master heard (master_data x heard)) ∙ h

-- ---- what the devices are told in a tick

tick_other : (limit : ℕ) (p : Profile) (e : ℕ) (l : Link) (c : Calls) → Phase p e l → Other l.primary.master.message.header → Other l.secondary.master.message.header → EachTold NoTag (link_tick limit l c).for_devices
unfolding link_tick
tick_other limit p e l c phase a b = go phase
  where
    at : (heard : Heard) → l.line ≡ heard → EachTold NoTag (device_ticks limit heard l.devices c.for_devices) → EachTold NoTag (device_ticks limit l.line l.devices c.for_devices)
    at heard q = subst (λ (h : Heard). EachTold NoTag (device_ticks limit h l.devices c.for_devices)) (sym q)

    go : Phase p e l → EachTold NoTag (device_ticks limit l.line l.devices c.for_devices)
    go (silent q o) = at Silence q (silence_untold limit l.devices c.for_devices)
    go (primary_sends burst noted next k w message q o) =
        at (Character (get_or w k 0)) q (stx_untold limit p w message k o.speaks.held.speaks 0 c.for_devices (master_place o.speaks.place) (ap seeks_tag o.speaks.header_is ∙ a) o.devices)
    go (secondary_sends burst noted next k w message q o) =
        at (Character (get_or w k 0)) q (stx_untold limit p w message k o.speaks.held.speaks 0 c.for_devices (master_place o.speaks.place) (ap seeks_tag o.speaks.header_is ∙ b) o.devices)
    go (ack_sent burst noted next k w message u on q o) =
        at (Character (get_or w k 0)) q (device_untold limit p w message k (spoken_of o.devices) u c.for_devices an_ack on (is_not_stx o.frame_is) o.devices)
    go (back_sent burst noted next k w message u q o) =
        at (Character (get_or w k 0)) q (device_untold limit p w message k (spoken_of o.devices) u c.for_devices a_back true (is_not_stx o.frame_is) o.devices)

-- ---- the ledgers

data Plain : Ledger → Type 0 where
  is_blank : Plain blank
  is_told : {h : Header} → Other h → Plain (told h)
  is_given : {h : Header} {put : List ℕ} → Other h → Plain (given h put)

data AllPlain : List Ledger → Type 0 where
  none_more : AllPlain []
  plain_and : {g : Ledger} {gs : List Ledger} → Plain g → AllPlain gs → AllPlain (g ∷ gs)

told_plain : {g : Ledger} (t : DeviceTold) → NoTag t → Plain g → Plain (told_by t g)
told_plain DeviceTold.Nothing f q = q
told_plain (DeviceTold.Request w) f q = is_told (f w refl)
told_plain (Broadcast w) f q = q

answered_plain : {g : Ledger} (put : List ℕ) → Plain g → Plain (answered_with put g)
answered_plain put is_blank = is_blank
answered_plain put (is_told h) = is_given h
answered_plain put (is_given h) = is_given h

called_plain : {g : Ledger} (c : DeviceCall) (r : CallResult) → Plain g → Plain (called_by c r g)
called_plain no_call r q = q
called_plain (gives_answer wish put) CallResult.Nothing q = q
called_plain (gives_answer wish put) CallResult.Taken q = answered_plain put q
called_plain (gives_answer wish put) (CallResult.Refused why) q = q
called_plain (gives_content command put) r q = q

ledger_plain : {g : Ledger} (c : DeviceCall) (s : DeviceStep) → NoTag s.told → Plain g → Plain (ledger_after c s g)
ledger_plain c s f q = called_plain c s.result (told_plain s.told f q)

ledgers_plain : {ss : List DeviceStep} {gs : List Ledger} (cs : List DeviceCall) → EachTold NoTag ss → AllPlain gs → AllPlain (ledgers_after cs ss gs)
unfolding ledgers_after
ledgers_plain cs no_device q = none_more
ledgers_plain cs (told_and f fs) none_more = none_more
ledgers_plain [] (told_and {s} f fs) (plain_and q qs) = plain_and (ledger_plain no_call s f q) (ledgers_plain [] fs qs)
ledgers_plain (c ∷ cs) (told_and {s} f fs) (plain_and q qs) = plain_and (ledger_plain c s f q) (ledgers_plain cs fs qs)

plain_found : {g : Ledger} → Plain g → found g ≡ false
plain_found is_blank = refl
plain_found (is_told h) = refl
plain_found (is_given h) = h

none_found : {gs : List Ledger} → AllPlain gs → finders gs ≡ 0
unfolding finders when◌then◌else◌
none_found none_more = refl
none_found (plain_and {g} {gs} q qs) =
    let not_it : ◌≡◌ {A = ℕ} (when found g then 1 else 0) 0 = ap (λ (b : Bool). when b then 1 else 0) (plain_found q) in
    omega (arith, not_it, none_found qs)

blanks_plain : (xs : List DeviceSide) → AllPlain (blanks xs)
unfolding blanks
blanks_plain [] = none_more
blanks_plain (x ∷ xs) = plain_and is_blank (blanks_plain xs)

-- ---- the run

-- both masters' calls
pub data OtherCalls : List Calls → Type 0 where
  no_more : OtherCalls []
  other_and : {c : Calls} {cs : List Calls} → OtherCall c.for_primary → OtherCall c.for_secondary → OtherCalls cs → OtherCalls (c ∷ cs)

module _ (limit : ℕ) (low : 2 ≤ limit) (high : limit ≤ 255) (p : Profile) (v : Valid p) where
  record Before (gs : List Ledger) (l : Link) : Type 0 where
    owe : AllOwe gs l.devices
    plain : AllPlain gs
    by_primary : Other l.primary.master.message.header
    by_secondary : Other l.secondary.master.message.header

  step : (gs : List Ledger) (l : Link) (c : Calls) → Before gs l → OtherCall c.for_primary → OtherCall c.for_secondary → EachTold NoTag (link_tick limit l c).for_devices → Before (ledgers_after c.for_devices (link_tick limit l c).for_devices gs) (link_after (link_tick limit l c))
  unfolding link_tick
  step gs l c k a b f = record {
    owe = all_tick limit l.line c.for_devices k.owe;
    plain = ledgers_plain c.for_devices f k.plain;
    by_primary = master_other limit l.primary l.line c.for_primary a k.by_primary;
    by_secondary = master_other limit l.secondary l.line c.for_secondary b k.by_secondary;
  }

  few : {gs : List Ledger} {l : Link} → Before gs l → finders gs ≤ 1
  few k = omega (arith, none_found k.plain)

  finds : (e : ℕ) (gs : List Ledger) (l : Link) (cs : List Calls) → Phase p e l → Before gs l → OtherCalls cs → EachTick OneBursts (run limit l cs) → OneFinds gs cs (run limit l cs)
  unfolding run
  finds e gs l [] q k o b = G.no_tick
  finds e gs l (c ∷ cs) q k (other_and a d o) (tick_and b bs) =
      let next = step gs l c k a d (tick_other limit p e l c q k.by_primary k.by_secondary) in
      G.tick_and (few next) (finds (e - 1) _ (link_after (link_tick limit l c)) cs (phase_tick limit low high p v e l c q (b, sole next.owe (few next))) next o bs)

  -- from a start, with nothing on the line before
  pub other_finds : (retries : ℕ) (l : Link) (cs : List Calls) → Starts p retries l → l.line ≡ Silence → Other l.primary.master.message.header → Other l.secondary.master.message.header → OtherCalls cs → EachTick OneBursts (run limit l cs)
      → OneFinds (blanks l.devices) cs (run limit l cs)
  unfolding run link_tick
  other_finds retries l [] s q a b o bs = G.no_tick
  other_finds retries l (c ∷ cs) s q a b (other_and f g o) (tick_and d ds) =
      let k : Before (blanks l.devices) l = record { owe = fresh_owe s.devices; plain = blanks_plain l.devices; by_primary = a; by_secondary = b } in
      let next = step (blanks l.devices) l c k f g (first l c q) in
      G.tick_and (few next) (finds p.rt1s _ (link_after (link_tick limit l c)) cs (phase_first limit low high p v retries l c s) next o ds)
    where
      first : (l : Link) (c : Calls) → l.line ≡ Silence → EachTold NoTag (link_tick limit l c).for_devices
      first l c q = subst (λ (h : Heard). EachTold NoTag (device_ticks limit h l.devices c.for_devices)) (sym q) (silence_untold limit l.devices c.for_devices)
