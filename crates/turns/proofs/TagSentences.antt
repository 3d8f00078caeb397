-- Item 6's sentences as laws of the definitions: which broadcast is never answered, that every host is told command 11, which ACK a device sends to it, which one answers it, what it does to BURST, how that message is reported, which wish is refused, and which answers break the premise on tags.
use Prim.Native.Nat.{ℕ, ◌+◌, ◌/◌, ◌≤◌}
use native.Mathlib.Omega.{arith}
use mathlib.Core.Path.{◌≡◌, refl, sym, ap, ◌∙◌}
use mathlib.Core.Bool.{Bool, true, false}
use mathlib.Core.List.{List, [], ◌∷◌}
use lib.ListN.{length}
use borrow.Author.Tests.{eq-eqb, eqb-true, ne_eqb}
use Rattle.base.specs.Refusal.{Called, accepted, refused}
use Rattle.base.specs.Choice.{when◌then◌else◌, ◌<?◌, ◌=?◌, ◌outside◌to◌}
use Rattle.base.proofs.Choices.{true_false, if_is_true, if_is_false, went_then, went_else, inside_low}
use Rattle.frame.specs.Address.{byte_at, largest_address}
use Rattle.frame.specs.Delimiter.{stx, ack, back}
use Rattle.frame.specs.declared.Header.{Header}
use Rattle.line.specs.declared.Event.TheVariants.{Damaged}
use Rattle.line.specs.declared.FrameDamage.{FrameDamage}
use Rattle.line.specs.declared.Heard.{Heard}
use Rattle.line.specs.declared.Profile.{Profile}
use Rattle.line.specs.declared.Whole.{Whole}
use Rattle.turns.specs.Party.{is_broadcast, seeks_tag}
use Rattle.turns.specs.Master.{names_device, burst_after, noted_after, ends, is_answer, answers_message, at_break, at_frame}
use Rattle.turns.specs.Device.{is_own, may_answer, has_error, after_frame, after_damage, device_takes, answer_header, error_frame, has_no_wish, wish_refused, answered_by, answered, answer_frame, device_starts, count_refused}
use Rattle.turns.specs.Link.{no_call, gives_answer, DeviceSide, DeviceStep, LinkStep, Calls, answer_called, device_tick, device_data, heard_frame}
use Rattle.turns.specs.Tags.{command11}
use Rattle.turns.specs.Ledgers.{Ledger, given, ledgers_after, finders, OneFinds, tick_and}
use Rattle.turns.specs.declared.CallResult.{CallResult}
use Rattle.turns.specs.declared.Master.{Master}
use Rattle.turns.specs.declared.MasterTold.TheVariants.{BroadcastSent}
use Rattle.turns.specs.declared.Noted.{Noted}
use Rattle.turns.specs.declared.Device.{Device}
use Rattle.turns.specs.declared.DeviceTold.{DeviceTold}
use Rattle.turns.specs.declared.Turn.TheVariants.{Listens, Asked}
use Rattle.turns.specs.declared.Wish.{Wish}
use Rattle.turns.specs.declared.Wish.TheVariants.{On, Off}
use Rattle.turns.proofs.Bursting.{if_both}
use Rattle.turns.proofs.Counts.{count_taken}
use Rattle.turns.specs.declared.Change.{Change}

-- ---- "a device's host answers command 11 if the tag is its own": every device's host is told it as a request, with the ticks up to T+STO

pub tag_told : (d : Device) (w : Whole) (primary flag : Bool) → w.header ≡ command11 stx primary flag 0 → w.expansion ≡ 0
    → after_frame d w ≡ record { turn = Asked d.profile.sto; request = w.header; length = d.length; told = DeviceTold.Request w }
unfolding when◌then◌else◌
tag_told d w primary flag is plain =
    if_is_true (w.header.kind =? stx) _ _ (ap (λ (h : Header). h.kind =? stx) is)
    ∙ if_is_true (w.expansion =? 0) _ _ (eq-eqb w.expansion 0 plain)
    ∙ if_is_true (may_answer d w.header) _ _ (ap (may_answer d) is ∙ whose_ever)
  where
    whose_ever : may_answer d (command11 stx primary flag 0) ≡ true
    whose_ever = refl

-- and a device's own requests
pub own_answered : (d : Device) (h : Header) → is_own d h ≡ true → may_answer d h ≡ true
own_answered d h own = if_both (λ (b : Bool). b ≡ true) _ _ _ refl own

-- ---- "Our transmitters repeat the request's address bytes, with their burst flag"

pub tag_ack : (primary flag burst : Bool) (address : ℕ) → answer_header (command11 stx primary flag address) burst ≡ command11 ack primary burst address
tag_ack primary flag burst address = refl

-- ---- "A damaged one is never answered"; "other broadcasts still get none"

-- no start accepts unique address 0
pub started_unique : (p : Profile) (preamble polling unique : ℕ) (d : Device) → device_starts p preamble polling unique ≡ accepted d → 1 ≤ d.unique
started_unique p preamble polling unique d e =
    let a = went_else (preamble outside 5 to 20) (refused 3) _ (accepted d) e (not_accepted 3) in
    let b = went_else (largest_address false <? polling) (refused 4) _ (accepted d) a.1 (not_accepted 4) in
    let c = went_else (unique outside 1 to largest_address true) (refused 4) _ (accepted d) b.1 (not_accepted 4) in
    omega (arith, inside_low unique 1 (largest_address true) _ refl c.0, ap unique_of c.1)
  where
    not_accepted : (why : ℕ) → refused why ≡ accepted d → ⊥
    not_accepted why q = let z : ◌≡◌ {A = ℕ} 0 1 = cc in omega arith

    unique_of : Called Device → ℕ
    unique_of (accepted x) = x.unique
    unique_of (refused why) = 0

pub tag_broadcast : (h : Header) → seeks_tag h ≡ true → is_broadcast h ≡ true
tag_broadcast h e = (went_then (is_broadcast h) (h.command =? 11) false true e (λ q. true_false (sym q))).0

pub tag_zero : (h : Header) → seeks_tag h ≡ true → h.address ≡ 0
tag_zero h e = eqb-true h.address 0 (went_then h.long (h.address =? 0) false true (tag_broadcast h e) (λ q. true_false (sym q))).1

-- it is command 11 to address 0
pub tag_is : (h : Header) → seeks_tag h ≡ true → h ≡ command11 h.kind h.primary h.burst 0
tag_is h e =
    let no : false ≡ true → ⊥ = λ q. true_false (sym q) in
    let long = (went_then h.long (h.address =? 0) false true (tag_broadcast h e) no).0 in
    let command = eqb-true h.command 11 (went_then (is_broadcast h) (h.command =? 11) false true e no).1 in
    λ i. record { kind = h.kind; long = long i; primary = h.primary; burst = h.burst; address = tag_zero h e i; command = command i }

-- its unique address stays (`reached_unique` in crates/runs/proofs/Tags.antt), so that what follows holds in every tick
module _ (d : Device) (some : 1 ≤ d.unique) where
  -- no device's own request is a broadcast
  pub broadcast_not_own : (h : Header) → is_broadcast h ≡ true → is_own d h ≡ false
  broadcast_not_own h b = go (is_own d h) refl
    where
      go : (o : Bool) → is_own d h ≡ o → is_own d h ≡ false
      go true e =
          let long = went_then h.long (h.address =? 0) false true b (λ q. true_false (sym q)) in
          absurd (omega (arith, some, eqb-true h.address 0 long.1, eqb-true d.unique h.address (sym (if_is_true h.long _ _ long.0) ∙ e)))
      go false e = e

  no_error : (w : Whole) (m : FrameDamage) → is_broadcast w.header ≡ true → has_error d w m ≡ false
  no_error w m b =
      let no : Bool → Type 0 = λ (t : Bool). t ≡ false in
      if_both no (w.header.kind =? stx) _ _ (if_both no (w.expansion =? 0) _ _ (if_both no _ _ _ refl (broadcast_not_own w.header b)) refl) refl

  -- nothing is told, nothing is prepared in the frame buffer, and no request is in hand
  pub damaged_unanswered : (w : Whole) (m : FrameDamage) → is_broadcast w.header ≡ true
      → ((after_damage d w m).told ≡ DeviceTold.Nothing) × ((frame : List ℕ) → error_frame d (Damaged w m) frame ≡ frame) × ((after_damage d w m).turn ≡ Listens)
  damaged_unanswered w m b =
      let e = no_error w m b in
      let t = if_is_false (has_error d w m) _ _ e in
      (ap (λ (c : Change). c.told) t, (λ frame. if_is_false (has_error d w m) _ frame e), ap (λ (c : Change). c.turn) t)

  -- a broadcast of another command leaves no request in hand
  pub other_unanswered : (w : Whole) → is_broadcast w.header ≡ true → seeks_tag w.header ≡ false → (after_frame d w).turn ≡ Listens
  other_unanswered w b other =
      let no : Change → Type 0 = λ (c : Change). c.turn ≡ Listens in
      let none : may_answer d w.header ≡ false = if_is_false (seeks_tag w.header) true (is_own d w.header) other ∙ broadcast_not_own w.header b in
      if_both no (w.header.kind =? stx) _ _
      (if_both no (w.expansion =? 0) _ _ (ap (λ (c : Change). c.turn) (if_is_false (may_answer d w.header) _ _ none) ∙ if_both no (is_broadcast w.header) _ _ refl refl) refl)
      refl

-- and without one the host's answer is refused with 8
pub none_in_hand : (limit : ℕ) (d : Device) (wish : Wish) (count : ℕ) → d.turn ≡ Listens → answered limit d wish count ≡ refused 8
unfolding answered
none_in_hand limit d wish count e = ap (answered_by limit d wish count) e

-- ---- "A master takes that ACK as the answer": "the ACK with its master bit, address and command", and no other frame

pub ack_answers_tag : (m : Master) (h : Header) → seeks_tag m.message.header ≡ true → answers_message m h ≡ is_answer m h
ack_answers_tag m h tag = if_is_true (is_broadcast m.message.header) _ _ (tag_broadcast m.message.header tag) ∙ if_is_true (seeks_tag m.message.header) _ _ tag

pub answer_is_ack : (m : Master) (h : Header) → answers_message m h ≡ true → is_answer m h ≡ true
answer_is_ack m h e = go (is_broadcast m.message.header) refl
  where
    go : (b : Bool) → is_broadcast m.message.header ≡ b → is_answer m h ≡ true
    go true q = (went_then (seeks_tag m.message.header) (is_answer m h) false true (sym (if_is_true (is_broadcast m.message.header) _ _ q) ∙ e) (λ z. true_false (sym z))).1
    go false q = sym (if_is_false (is_broadcast m.message.header) _ _ q) ∙ e

-- any other broadcast has no answer
pub other_has_none : (m : Master) (h : Header) → is_broadcast m.message.header ≡ true → seeks_tag m.message.header ≡ false → answers_message m h ≡ false
other_has_none m h b other = if_is_true (is_broadcast m.message.header) _ _ b ∙ if_is_false (seeks_tag m.message.header) _ _ other

-- ---- "with the flag it sets BURST and notes nothing, and it never clears it"

module _ (noted : Noted) (h : Header) (type : h.kind ≡ ack) where
  not_back : (h.kind =? back) ≡ false
  not_back = ap (λ (n : ℕ). n =? back) type

  is_ack : (h.kind =? ack) ≡ true
  is_ack = eq-eqb h.kind ack type

  no_name : seeks_tag h ≡ true → names_device h ≡ false
  no_name tag = if_is_true (seeks_tag h) false h.long tag

  pub flag_sets : (burst : Bool) → h.burst ≡ true → burst_after burst noted h ≡ true
  flag_sets burst flag = if_is_false (h.kind =? back) _ _ not_back ∙ if_is_true (h.kind =? ack) _ _ is_ack ∙ if_is_true h.burst _ _ flag

  pub tag_notes_nothing : seeks_tag h ≡ true → noted_after noted h ≡ noted
  tag_notes_nothing tag =
      let same : Noted → Type 0 = λ (n : Noted). n ≡ noted in
      if_is_false (h.kind =? back) _ _ not_back ∙ if_is_true (h.kind =? ack) _ _ is_ack ∙ if_both same h.burst _ _ (if_is_false (names_device h) _ _ (no_name tag)) refl

  pub tag_never_clears : seeks_tag h ≡ true → burst_after true noted h ≡ true
  tag_never_clears tag =
      let set : Bool → Type 0 = λ (b : Bool). b ≡ true in
      if_is_false (h.kind =? back) _ _ not_back ∙ if_is_true (h.kind =? ack) _ _ is_ack ∙ if_both set h.burst _ _ refl (if_is_false (names_device h) _ _ (no_name tag))

-- ---- "Unanswered, or answered with bit 7 set, the message is reported after its one attempt as document 01's broadcast is"

module _ (m : Master) (tag : seeks_tag m.message.header ≡ true) where
  -- a broken frame, or RT1's end
  pub unanswered_sent : at_break m ≡ ends m.message BroadcastSent
  unanswered_sent = if_is_true (is_broadcast m.message.header) _ _ (tag_broadcast m.message.header tag)

  -- another frame
  pub other_frame_sent : (w : Whole) (bytes : List ℕ) → answers_message m w.header ≡ false → at_frame m w bytes ≡ ends m.message BroadcastSent
  other_frame_sent w bytes other = if_is_false (answers_message m w.header) _ _ other ∙ unanswered_sent

  -- bit 7 of the first data byte
  pub bit_seven_sent : (w : Whole) (bytes : List ℕ) → byte_at bytes 0 / 128 ≡ 1 → at_frame m w bytes ≡ ends m.message BroadcastSent
  bit_seven_sent w bytes bit =
      if_both (λ (e : _). e ≡ ends m.message BroadcastSent) (answers_message m w.header) _ _ (if_is_true (byte_at bytes 0 / 128 =? 1) _ _ (eq-eqb (byte_at bytes 0 / 128) 1 bit) ∙ unanswered_sent) unanswered_sent

-- ---- "A wish to turn burst on or off in this answer is refused with 10"

pub tag_no_wish : (kind : ℕ) (primary burst : Bool) → has_no_wish (command11 kind primary burst 0) ≡ true
unfolding when◌then◌else◌
tag_no_wish kind primary burst = refl

module _ (limit : ℕ) (d : Device) (n count : ℕ) (asked : d.turn ≡ Asked n) (tag : seeks_tag d.request ≡ true) (low : 2 ≤ count) (high : count ≤ limit) where
  no_wish : has_no_wish d.request ≡ true
  no_wish = ap has_no_wish (tag_is d.request tag) ∙ tag_no_wish d.request.kind d.request.primary d.request.burst

  pub on_refused : answered limit d On count ≡ refused 10
  unfolding answered
  on_refused =
      ap (answered_by limit d On count) asked ∙ if_is_false (count_refused limit count) _ _ (count_taken limit count low high) ∙ if_is_true (wish_refused d On) _ _ (if_is_true (has_no_wish d.request) true _ no_wish)

  pub off_refused : answered limit d Off count ≡ refused 10
  unfolding answered
  off_refused = ap (answered_by limit d Off count) asked ∙ if_is_false (count_refused limit count) _ _ (count_taken limit count low high) ∙ if_is_true (wish_refused d Off) _ _ no_wish

-- in this answer only: command 11 to a unique address is a request like any other
pub own_wishes : (kind : ℕ) (primary burst : Bool) (unique : ℕ) → 1 ≤ unique → has_no_wish (command11 kind primary burst unique) ≡ false
own_wishes kind primary burst unique some =
    if_is_false (11 =? 0) _ _ refl ∙ if_is_false (is_broadcast (command11 kind primary burst unique)) _ _ (if_is_true true _ _ refl ∙ ne_eqb unique 0 (λ e. omega (arith, e)))

-- an answer that is refused leaves the request in hand, and all else too: the tick is the one without a call
pub refused_leaves : (limit : ℕ) (x : DeviceSide) (heard : Heard) (wish : Wish) (put : List ℕ) (why : ℕ) → answered limit (device_takes x.device heard).device wish (length put) ≡ refused why
    → ((device_tick limit x heard (gives_answer wish put)).side ≡ (device_tick limit x heard no_call).side) × ((device_tick limit x heard (gives_answer wish put)).sent ≡ (device_tick limit x heard no_call).sent)
    × ((device_tick limit x heard (gives_answer wish put)).result ≡ CallResult.Refused why)
unfolding device_tick
refused_leaves limit x heard wish put why e = (ap (λ (c : Called Device). (by c).side) e, ap (λ (c : Called Device). (by c).sent) e, ap (λ (c : Called Device). (by c).result) e)
  where
    by : Called Device → DeviceStep
    by c = answer_called c (device_takes x.device heard).device (answer_frame (device_takes x.device heard).device wish put (heard_frame x heard)) (heard_frame x heard) (device_data x heard) x.contents (device_takes x.device heard).told

-- ---- "one tag, one device, so that at most one host's answer to each command 11 is taken"

two_found : (h g : Header) (a b : List ℕ) → seeks_tag h ≡ true → seeks_tag g ≡ true → finders (given h a ∷ given g b ∷ []) ≡ 2
unfolding finders when◌then◌else◌
two_found h g a b e f = λ i. (when e i then 1 else 0) + ((when f i then 1 else 0) + 0)

-- behind a tick with the answers of two hosts to a command 11 the premise does not hold
pub two_answers_break : {gs : List Ledger} {c : Calls} {cs : List Calls} {s : LinkStep} {ss : List LinkStep} (h g : Header) (a b : List ℕ) → seeks_tag h ≡ true → seeks_tag g ≡ true
    → ledgers_after c.for_devices s.for_devices gs ≡ given h a ∷ given g b ∷ [] → OneFinds gs (c ∷ cs) (s ∷ ss) → ⊥
two_answers_break h g a b e f are (tick_and few rest) = omega (arith, few, ap finders are, two_found h g a b e f)
