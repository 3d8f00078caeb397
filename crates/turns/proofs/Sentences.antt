-- Single sentences of document 01 as laws of the definitions, for rules that no theorem on whole runs rests on.
use Prim.Native.Nat.{ℕ, ◌/◌, ◌≤◌, ◌-◌}
use native.Mathlib.Omega.{arith}
use mathlib.Core.Path.{◌≡◌, refl, sym, ap, ◌∙◌}
use mathlib.Core.Bool.{Bool, true, false}
use mathlib.Core.List.{List}
use lib.ListN.{length}
use borrow.Author.Tests.{eq-eqb, eqb-true, le-ltb, ne_eqb}
use Rattle.base.specs.Refusal.{Called, accepted, refused}
use Rattle.base.specs.Choice.{when◌then◌else◌, ◌<?◌, ◌=?◌, ◌outside◌to◌}
use Rattle.base.proofs.Choices.{true_false, if_is_true, if_is_false, if_at_most, went_then, went_else, inside_low, inside_high, inside_is}
use Rattle.frame.specs.Address.{byte_at, largest_with, address_above}
use Rattle.frame.specs.Delimiter.{stx, ack, back}
use Rattle.frame.specs.Frame.{frame_bytes}
use Rattle.frame.specs.declared.Header.{Header}
use Rattle.line.specs.Profile.{fsk_profile, c8psk_profile}
use Rattle.line.specs.declared.Event.TheVariants.{Damaged}
use Rattle.line.specs.declared.FrameDamage.{FrameDamage}
use Rattle.line.specs.declared.Heard.{Heard}
use Rattle.line.specs.declared.Profile.{Profile}
use Rattle.line.specs.declared.Receiver.{Receiver}
use Rattle.line.specs.declared.Whole.{Whole}
use Rattle.turns.specs.Party.{is_broadcast, seeks_tag}
use Rattle.turns.specs.Master.{same_bit, to_itself, is_answer, master_starts, fresh_master, quiet_time, requested_up_to, polling_up_to, request_header, has_message, command_refused, master_takes, names_device, noted_from, is_noted, burst_after, noted_after, timer_after, fails, ends, at_break, answers_message, at_frame, opened, count_clear, count_burst, timer_counted, burst_counted}
use Rattle.turns.specs.Master as M
use Rattle.turns.specs.Device.{fresh_device, is_own, may_answer, has_error, error_status, error_data, error_frame, after_request, after_frame, after_damage, waited, device_takes, content_given, back_due}
use Rattle.turns.specs.Link.{requests, gives_content, MasterSide, DeviceSide, master_data, master_called, master_tick, device_data, heard_frame, content_called, device_tick}
use Rattle.turns.specs.declared.CallResult.{CallResult}
use Rattle.turns.specs.declared.Master.{Master}
use Rattle.turns.specs.declared.MasterTold.TheVariants.{Answered, BroadcastSent}
use Rattle.turns.specs.declared.Noted.{Noted}
use Rattle.turns.specs.declared.Device.{Device}
use Rattle.turns.specs.declared.DeviceTold.{DeviceTold}
use Rattle.turns.specs.declared.Request.{Request}
use Rattle.turns.specs.declared.Turn.TheVariants.{Listens, Asked}
use Rattle.turns.proofs.Bursting.{if_both}
use Rattle.turns.proofs.Revisions.{by_revision}
use Rattle.turns.proofs.TagSentences.{own_answered}
use Rattle.turns.specs.declared.Change.{Change}
use Rattle.turns.specs.declared.Timer.{Timer}

false_true : false ≡ true → ⊥
false_true e = true_false (sym e)

-- "the ACK with its master bit, address and command"
pub record Repeats (m : Master) (h : Header) : Type 0 where
  pub is_ack : h.kind ≡ ack
  pub own_bit : to_itself m h ≡ true
  pub same_form : same_bit m.message.header.long h.long ≡ true
  pub same_address : m.message.header.address ≡ h.address
  pub same_command : m.message.header.command ≡ h.command

pub answer_repeats : (m : Master) (h : Header) → is_answer m h ≡ true → Repeats m h
answer_repeats m h e =
    let a = went_then (h.kind =? ack) _ false true e false_true in
    let b = went_then (to_itself m h) _ false true a.1 false_true in
    let c = went_then (same_bit m.message.header.long h.long) _ false true b.1 false_true in
    let d = went_then (m.message.header.address =? h.address) _ false true c.1 false_true in
    record {
      is_ack = eqb-true h.kind ack a.0;
      own_bit = b.0;
      same_form = c.0;
      same_address = eqb-true m.message.header.address h.address d.0;
      same_command = eqb-true m.message.header.command h.command d.1;
    }

-- "2: R outside 3 to 15"
pub started_retries : (p : Profile) (primary : Bool) (retries : ℕ) (m : Master) → master_starts p primary retries ≡ accepted m → (3 ≤ retries) × (retries ≤ 15)
started_retries p primary retries m e =
    let a = went_else (retries outside 3 to 15) (refused 2) _ (accepted m) e not_accepted in
    (inside_low retries 3 15 _ refl a.0, inside_high retries 3 15 _ refl a.0)
  where
    not_accepted : refused 2 ≡ accepted m → ⊥
    not_accepted q = let z : ◌≡◌ {A = ℕ} 0 1 = cc in omega arith

-- "or with command 0 to its polling address"
pub own_polling : (d : Device) (h : Header) → h.long ≡ false → is_own d h ≡ true → (d.polling ≡ h.address) × (h.command ≡ 0)
own_polling d h short e =
    let a = went_then (d.polling =? h.address) (h.command =? 0) false true (sym (if_is_false h.long _ _ short) ∙ e) false_true in
    (eqb-true d.polling h.address a.0, eqb-true h.command 0 a.1)

-- "Expansion bytes ..: no answer"
pub expansion_unanswered : (d : Device) (w : Whole) → (w.expansion =? 0) ≡ false → (after_frame d w).turn ≡ Listens
expansion_unanswered d w x =
    if_both (λ (c : Change). c.turn ≡ Listens) (w.header.kind =? stx) _ _ (ap (λ (c : Change). c.turn) (if_is_false (w.expansion =? 0) _ _ x)) refl

-- "T+2 to T+STO": in the last of its ticks a request is dropped
pub last_tick : (n : ℕ) → n ≤ 1 → waited (Asked n) ≡ Listens
last_tick n h = sym (if_at_most n 1 Listens Listens _ h refl)

-- "0x80 plus each that occurred of 0x40 parity, 0x20 overrun, 0x10 framing, 0x08 check"
abbrev pub Statuses : Type 0
Statuses =
    (error_status (record { parity = true; overrun = false; framing = false; check = false; address = false }) ≡ 0xC0) ×
    (error_status (record { parity = false; overrun = true; framing = false; check = false; address = false }) ≡ 0xA0) ×
    (error_status (record { parity = false; overrun = false; framing = true; check = false; address = false }) ≡ 0x90) ×
    (error_status (record { parity = false; overrun = false; framing = false; check = true; address = false }) ≡ 0x88)

pub statuses : Statuses
unfolding when◌then◌else◌
statuses = (refl, refl, refl, refl)

-- "with two data bytes, .. then 0"
pub error_data_lem : (m : FrameDamage) → (length (error_data m) ≡ 2) × (byte_at (error_data m) 1 ≡ 0)
error_data_lem m = (refl, refl)

-- "damage in the address: no answer": nothing is told, nothing is prepared in the frame buffer, and no request is in hand
pub damaged_address : (d : Device) (w : Whole) (m : FrameDamage) → m.address ≡ true
    → ((after_damage d w m).told ≡ DeviceTold.Nothing) × ((frame : List ℕ) → error_frame d (Damaged w m) frame ≡ frame) × ((after_damage d w m).turn ≡ Listens)
damaged_address d w m damaged =
    let no : Bool → Type 0 = λ (t : Bool). t ≡ false in
    let e : has_error d w m ≡ false = if_both no (w.header.kind =? stx) _ _ (if_both no (w.expansion =? 0) _ _ (if_is_true m.address false _ damaged) refl) refl in
    let t = if_is_false (has_error d w m) _ _ e in
    (ap (λ (c : Change). c.told) t, (λ frame. if_is_false (has_error d w m) _ frame e), ap (λ (c : Change). c.turn) t)

-- "5: command 254", of a master's request that no lower number refuses, whatever else is true
pub request_254 : (limit : ℕ) (x : MasterSide) (heard : Heard) (q : Request) (put : List ℕ) → 5 ≤ q.preamble → q.preamble ≤ 20 → 3 ≤ q.revision → q.revision ≤ 7
    → q.address ≤ largest_with (polling_up_to q.revision) q.long → q.command ≡ 254 → (master_tick limit x heard (requests q put)).result ≡ CallResult.Refused 5
unfolding master_tick requested_up_to
request_254 limit x heard q put low high oldest latest fits e =
    let m = (master_takes x.master heard (master_data x heard)).master in
    ap by
    (by_revision limit m q (length put) (inside_is q.preamble 5 20 low high) (inside_is q.revision 3 7 oldest latest)
    ∙ if_is_false (address_above (polling_up_to q.revision) (request_header m q)) _ _ (le-ltb (largest_with (polling_up_to q.revision) q.long) q.address fits)
    ∙ if_is_true (command_refused q) _ _ (if_is_true (q.command =? 254) true _ (eq-eqb q.command 254 e)))
  where
    by : Called Master → CallResult
    by c =
        let t = master_takes x.master heard (master_data x heard) in
        (master_called c t.master (frame_bytes q.preamble (request_header t.master q) put) x.frame (master_data x heard) t.told).result

-- and of burst content
pub content_254 : (limit : ℕ) (x : DeviceSide) (heard : Heard) (put : List ℕ) → (device_tick limit x heard (gives_content 254 put)).result ≡ CallResult.Refused 5
unfolding device_tick content_given
content_254 limit x heard put = ap by (if_is_true (254 =? 254) _ _ refl)
  where
    by : Called Device → CallResult
    by c = let t = device_takes x.device heard in (content_called c t.device put (heard_frame x heard) (device_data x heard) x.contents t.told).result

-- "the quiet time ..: 2×RT1 primary for the primary, RT2 more for the secondary": FSK 66 and 74, C8PSK 84 and 98
abbrev pub QuietTimes : Type 0
QuietTimes =
    (quiet_time fsk_profile true ≡ 66) ×
    (quiet_time fsk_profile false ≡ 74) ×
    (quiet_time c8psk_profile true ≡ 84) ×
    (quiet_time c8psk_profile false ≡ 98)

pub quiet_times : QuietTimes
unfolding when◌then◌else◌
quiet_times = (refl, refl, refl, refl)

-- 0 is a timer that does not run: it opens no window, and no BACK is due
pub stopped : (p : Profile) (t : Timer) → t.next ≡ 0 → ((count_clear p t).window ≡ t.window - 1) × ((count_burst p t).window ≡ t.window - 1)
stopped p t e =
    let no = ne_eqb t.next 1 (λ z. omega (arith, z, e)) in
    (ap (λ (u : Timer). u.window) (if_is_false (t.next =? 1) _ _ no), ap (λ (u : Timer). u.window) (if_is_false (t.next =? 1) _ _ no))

pub none_due : (d : Device) → back_due d 0 ≡ false
none_due d = if_both (λ (b : Bool). b ≡ false) d.burst _ _ refl refl

-- "or a BACK, sets BURST and notes its address"
pub back_notes : (burst : Bool) (noted : Noted) (h : Header) → h.kind ≡ back → (burst_after burst noted h ≡ true) × (noted_after noted h ≡ noted_from h)
back_notes burst noted h e = (if_is_true (h.kind =? back) true _ (eq-eqb h.kind back e), if_is_true (h.kind =? back) (noted_from h) _ (eq-eqb h.kind back e))

module _ (noted : Noted) (h : Header) (type : h.kind ≡ ack) where
  by_ack : {A : Type 0} (a b c : A) → (when h.kind =? back then a else (when h.kind =? ack then b else c)) ≡ b
  by_ack a b c = if_is_false (h.kind =? back) a _ (ap (λ (n : ℕ). n =? back) type) ∙ if_is_true (h.kind =? ack) b c (eq-eqb h.kind ack type)

  -- "A long ACK with the burst flag .. notes its address"; that it sets BURST is `flag_sets` in TagSentences
  pub long_notes : h.burst ≡ true → names_device h ≡ true → noted_after noted h ≡ noted_from h
  long_notes flag long = by_ack _ _ _ ∙ if_is_true h.burst _ _ flag ∙ if_is_true (names_device h) _ _ long

  -- "A short ACK with the flag .. notes nothing"
  pub short_notes_nothing : h.long ≡ false → noted_after noted h ≡ noted
  short_notes_nothing short =
      by_ack _ _ _
      ∙ if_both (λ (n : Noted). n ≡ noted) h.burst _ _ (if_is_false (names_device h) _ _ (if_both (λ (b : Bool). b ≡ false) (seeks_tag h) _ _ refl short)) refl

  -- "A long ACK from the noted address without the flag clears it"
  pub noted_clears : (burst : Bool) → h.burst ≡ false → names_device h ≡ true → is_noted noted h ≡ true → burst_after burst noted h ≡ false
  noted_clears burst flag long same = by_ack _ _ _ ∙ if_is_false h.burst _ _ flag ∙ if_is_true (names_device h) _ _ long ∙ if_is_true (is_noted noted h) _ _ same

  -- and one from another address does not
  pub other_leaves : (burst : Bool) → h.burst ≡ false → is_noted noted h ≡ false → burst_after burst noted h ≡ burst
  other_leaves burst flag other =
      by_ack _ _ _ ∙ if_is_false h.burst _ _ flag ∙ if_both (λ (b : Bool). b ≡ burst) (names_device h) _ _ (if_is_false (is_noted noted h) _ _ other) refl

-- "BURST is brought up to date before the frame's timer is chosen"
pub timer_by_new_burst : (m : Master) (r : Receiver) (w : Whole) (bytes : List ℕ) (burst : Bool) → burst_after m.burst m.noted w.header ≡ burst
    → (M.after_frame m r w bytes).master.timer ≡ timer_after m.profile m.primary (M.ended_by m w.header) burst
timer_by_new_burst m r w bytes burst e = ap (timer_after m.profile m.primary (M.ended_by m w.header)) e

module _ (m : Master) (w : Whole) (bytes : List ℕ) where
  -- "Such an ACK ends the message as answered"
  pub ack_ends : is_broadcast m.message.header ≡ false → is_answer m w.header ≡ true → (byte_at bytes 0 / 128 =? 1) ≡ false → at_frame m w bytes ≡ ends m.message (Answered w)
  ack_ends one answers low = if_is_true (answers_message m w.header) _ _ (if_is_false (is_broadcast m.message.header) _ _ one ∙ answers) ∙ if_is_false (byte_at bytes 0 / 128 =? 1) _ _ low

  -- "unless bit 7 of its first data byte is set: then the attempt failed"
  pub bit_seven_fails : is_broadcast m.message.header ≡ false → byte_at bytes 0 / 128 ≡ 1 → at_frame m w bytes ≡ fails m.retries m.message
  bit_seven_fails one bit =
      if_both (λ (e : M.Ending). e ≡ fails m.retries m.message) (answers_message m w.header) _ _
      (if_is_true (byte_at bytes 0 / 128 =? 1) _ _ (eq-eqb (byte_at bytes 0 / 128) 1 bit) ∙ break_fails one) (break_fails one)
    where
      break_fails : is_broadcast m.message.header ≡ false → at_break m ≡ fails m.retries m.message
      break_fails z = if_is_false (is_broadcast m.message.header) _ _ z

  -- "Another frame .. also fails it"
  pub other_fails : is_broadcast m.message.header ≡ false → is_answer m w.header ≡ false → at_frame m w bytes ≡ fails m.retries m.message
  other_fails one other =
      if_is_false (answers_message m w.header) _ _ (if_is_false (is_broadcast m.message.header) _ _ one ∙ other) ∙ if_is_false (is_broadcast m.message.header) _ _ one

  -- "Broadcast is .. reported as sent at RT1's end, .. or at the next frame, whole or broken"; command 11 is in TagSentences
  pub broadcast_sent : is_broadcast m.message.header ≡ true → seeks_tag m.message.header ≡ false → (at_frame m w bytes ≡ ends m.message BroadcastSent) × (at_break m ≡ ends m.message BroadcastSent)
  broadcast_sent all other =
      let e : at_break m ≡ ends m.message BroadcastSent = if_is_true (is_broadcast m.message.header) _ _ all in
      (if_is_false (answers_message m w.header) _ _ (if_is_true (is_broadcast m.message.header) _ _ all ∙ if_is_false (seeks_tag m.message.header) _ _ other) ∙ e, e)

module _ (d : Device) (w : Whole) (request : w.header.kind ≡ stx) (plain : w.expansion ≡ 0) where
  as_request : after_frame d w ≡ after_request d w
  as_request = if_is_true (w.header.kind =? stx) _ _ (eq-eqb w.header.kind stx request) ∙ if_is_true (w.expansion =? 0) _ _ (eq-eqb w.expansion 0 plain)

  -- "STX to its unique address, or with command 0 to its polling address: told to the host"
  pub own_told : is_own d w.header ≡ true → ((after_frame d w).told ≡ DeviceTold.Request w) × ((after_frame d w).request ≡ w.header)
  own_told own =
      let e = as_request ∙ if_is_true (may_answer d w.header) _ _ (own_answered d w.header own) in
      (ap (λ (c : Change). c.told) e, ap (λ (c : Change). c.request) e)

  -- "Broadcast is told to the host and never answered": that it is not answered is `other_unanswered` in TagSentences
  pub broadcast_told : is_broadcast w.header ≡ true → may_answer d w.header ≡ false → (after_frame d w).told ≡ DeviceTold.Broadcast w
  broadcast_told all none = ap (λ (c : Change). c.told) (as_request ∙ if_is_false (may_answer d w.header) _ _ none ∙ if_is_true (is_broadcast w.header) _ _ all)

-- "or with command 0 to its polling address", "STX to its unique address"
pub own_unique : (d : Device) (h : Header) → h.long ≡ true → is_own d h ≡ true → d.unique ≡ h.address
own_unique d h long e = eqb-true d.unique h.address (sym (if_is_true h.long _ _ long) ∙ e)

-- fresh: "no message or request in hand, burst off"
pub fresh_parties : (p : Profile) (primary : Bool) (retries preamble polling unique : ℕ)
    → (has_message (fresh_master p primary retries).message.stage ≡ false) × ((fresh_master p primary retries).burst ≡ false) × ((fresh_device p preamble polling unique).turn ≡ Listens) × ((fresh_device p preamble polling unique).burst ≡ false)
fresh_parties p primary retries preamble polling unique = (refl, refl, refl, refl)

-- ---- "its end clears BURST": the quiet time's, which opens a window

pub quiet_time_ends : (m : Master) → m.burst ≡ true → m.timer.quiet ≡ 1 → (burst_counted m ≡ false) × (timer_counted m ≡ opened m.profile)
quiet_time_ends m on last =
    let now = eq-eqb m.timer.quiet 1 last in
    (if_is_true m.burst _ _ on ∙ if_is_true (m.timer.quiet =? 1) _ _ now, if_is_true m.burst _ _ on ∙ if_is_true (m.timer.quiet =? 1) _ _ now)

-- ---- "answered without the host": of a damaged frame nothing is told

pub damage_untold : (d : Device) (w : Whole) (m : FrameDamage) → (after_damage d w m).told ≡ DeviceTold.Nothing
damage_untold d w m = if_both (λ (c : Change). c.told ≡ DeviceTold.Nothing) (has_error d w m) _ _ refl refl
