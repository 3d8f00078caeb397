-- What every tick keeps, whatever is heard and called: the retry limit, that no frame is longer than the longest one, that a master which has begun its STX has counted it, that no message waits in an open window, that a master which awaits its ACK has a tick left for it, and the header of the request that was taken last.
use Prim.Native.Nat.{ℕ, ◌+◌, ◌≤◌}
use native.Mathlib.Omega.{arith}
use mathlib.Core.Path.{◌≡◌, refl, sym, ap, subst, ◌∙◌}
use mathlib.Core.Bool.{Bool, true, false}
use mathlib.Core.List.{List}
use lib.ListN.{length}
use borrow.Author.Tests.{ltb-false, lt-ltb, leb-false}
use Rattle.base.specs.Refusal.{Called}
use Rattle.base.specs.Choice.{when◌then◌else◌, ◌<?◌, ◌≤?◌}
use Rattle.base.specs.Store.{stored}
use Rattle.base.proofs.Choices.{true_false, if_is_true}
use Rattle.frame.specs.Frame.{frame_bytes, frame_length}
use Rattle.frame.specs.declared.Header.{Header}
use Rattle.frame.proofs.Longest.{address_at_most}
use Rattle.line.specs.Reader.{taken, inside_frame}
use Rattle.line.specs.declared.Event.{Event}
use Rattle.line.specs.declared.Event.TheVariants.{Nothing, PassedOver, Broken, Frame, Damaged}
use Rattle.line.specs.declared.Heard.{Heard}
use Rattle.line.specs.declared.Heard.TheVariants.{Silence, Character}
use Rattle.line.specs.declared.Receiver.{Receiver}
use Rattle.line.specs.declared.Whole.{Whole}
use Rattle.turns.specs.Party.{is_broadcast}
use Rattle.turns.specs.Master.{requested, request_header, answers_message, fails, at_frame, at_break, if_awaiting, rt1_ends, waited, counts, after_break, on_silence, on_character, on_heard, master_takes, master_sends, one_more, sends_by, sends_at, with_reader, own_rt1, sends}
use Rattle.turns.specs.Link.{MasterCall, no_request, requests, MasterSide, MasterStep, master_sent, master_called, master_calls, master_tick, master_data}
use Rattle.turns.specs.Attempts.{stx_header}
use Rattle.runs.specs.Credit.{asked_by}
use Rattle.turns.specs.declared.CallResult.{CallResult}
use Rattle.turns.specs.declared.Ending.{Ending}
use Rattle.turns.specs.declared.Sent.{Sent}
use Rattle.turns.specs.declared.Stage.{Stage}
use Rattle.turns.specs.declared.Stage.TheVariants.{Free, Waiting, Sending, Awaiting}
use Rattle.turns.specs.declared.Message.{Message}
use Rattle.turns.specs.declared.Master.{Master}
use Rattle.turns.specs.declared.MasterTold.{MasterTold}
use Rattle.turns.specs.declared.MasterTaken.{MasterTaken}
use Rattle.turns.specs.declared.MasterSent.{MasterSent}
use Rattle.turns.proofs.Masters.{left, Asks, is_refused, is_taken, asks, new_message, with_message, free_waiting, awaiting_waiting, one_more_some, if_cases}
use Rattle.turns.proofs.Bursting.{if_both}

-- ---- masters

-- its STX is being sent, or was sent and is not answered
abbrev pub begun : Stage → Bool
begun Free = false
begun Waiting = false
begun (Sending n) = true
begun (Awaiting n) = true

pub record MasterKept (longest retries : ℕ) (m : Master) : Type 0 where
  pub retries_is : m.retries ≡ retries
  pub short : m.message.length ≤ longest
  pub counted : begun m.message.stage ≡ true → 1 ≤ m.message.attempts

-- a master that awaits its ACK has a tick left for it
abbrev pub Timed : Stage → Type 0
Timed s = rt1_ends s ≡ true → 1 ≤ left s

-- what was heard begins no STX
record SameMessage (g h : Message) : Type 0 where
  same_length : h.length ≡ g.length
  same_attempts : h.attempts ≡ g.attempts
  same_header : h.header ≡ g.header
  no_more : begun h.stage ≡ true → begun g.stage ≡ true
  timed : Timed g.stage → Timed h.stage

record Same (m t : Master) : Type 0 where
  same_primary : t.primary ≡ m.primary
  same_profile : t.profile ≡ m.profile
  same_retries : t.retries ≡ m.retries
  same_message : SameMessage m.message t.message

itself : (g : Message) → SameMessage g g
itself g = record { same_length = refl; same_attempts = refl; same_header = refl; no_more = λ z. z; timed = λ z. z }

-- the message is over, or waits for a retry
ended : (retries : ℕ) (g : Message) → SameMessage g (fails retries g).message
ended retries g =
    if_both (λ (e : Ending). SameMessage g e.message) (g.attempts ≤? retries) _ _
    (record { same_length = refl; same_attempts = refl; same_header = refl; no_more = λ z. absurd (true_false (sym z)); timed = λ y z. absurd (true_false (sym z)) })
    (record { same_length = refl; same_attempts = refl; same_header = refl; no_more = λ z. absurd (true_false (sym z)); timed = λ y z. absurd (true_false (sym z)) })

broken : (m : Master) → SameMessage m.message (at_break m).message
broken m =
    if_both (λ (e : Ending). SameMessage m.message e.message) (is_broadcast m.message.header) _ _
    (record { same_length = refl; same_attempts = refl; same_header = refl; no_more = λ z. absurd (true_false (sym z)); timed = λ y z. absurd (true_false (sym z)) })
    (ended m.retries m.message)

framed : (m : Master) (w : Whole) (bytes : List ℕ) → SameMessage m.message (at_frame m w bytes).message
framed m w bytes =
    let gone : (told : MasterTold) → SameMessage m.message (Rattle.turns.specs.Master.ends m.message told).message = λ told. record { same_length = refl; same_attempts = refl; same_header = refl; no_more = λ z. absurd (true_false (sym z)); timed = λ y z. absurd (true_false (sym z)) } in
    if_both (λ (e : Ending). SameMessage m.message e.message) (answers_message m w.header) _ _
    (if_both (λ (e : Ending). SameMessage m.message e.message) _ _ _ (broken m) (gone (MasterTold.Answered w)))
    (broken m)

awaited : (s : Stage) (g : Message) (e : Ending) → SameMessage g e.message → SameMessage g (if_awaiting s g e).message
awaited Free g e q = itself g
awaited Waiting g e q = itself g
awaited (Sending n) g e q = itself g
awaited (Awaiting n) g e q = q

after_break_lem : (m : Master) (r : Receiver) (event : Event) → Same m (after_break m r event).master
after_break_lem m r event = record { same_primary = refl; same_profile = refl; same_retries = refl; same_message = awaited m.message.stage m.message (at_break m) (broken m) }

waits : (s : Stage) → begun (waited s) ≡ true → begun s ≡ true
waits Free z = z
waits Waiting z = z
waits (Sending n) z = z
waits (Awaiting n) z = z

-- where RT1 does not end, a tick is left
timed_on : (s : Stage) → rt1_ends s ≡ false → Timed (waited s)
timed_on Free e z = absurd (true_false (sym z))
timed_on Waiting e z = absurd (true_false (sym z))
timed_on (Sending n) e z = absurd (true_false (sym z))
timed_on (Awaiting n) e z = omega (arith, leb-false n 1 e)

count : (m : Master) (told : MasterTold) (event : Event) → Same m (counts m told event).master
count m told event =
    if_cases (λ (t : MasterTaken). Same m t.master) (rt1_ends m.message.stage) _ _
    (λ e. record { same_primary = refl; same_profile = refl; same_retries = refl; same_message = broken m })
    (λ e. record {
      same_primary = refl;
      same_profile = refl;
      same_retries = refl;
      same_message = record { same_length = refl; same_attempts = refl; same_header = refl; no_more = waits m.message.stage; timed = λ z. timed_on m.message.stage e };
    })

both : {l m n : Master} → Same l m → Same m n → Same l n
both a b = record {
  same_primary = b.same_primary ∙ a.same_primary;
  same_profile = b.same_profile ∙ a.same_profile;
  same_retries = b.same_retries ∙ a.same_retries;
  same_message = record {
    same_length = b.same_message.same_length ∙ a.same_message.same_length;
    same_attempts = b.same_message.same_attempts ∙ a.same_message.same_attempts;
    same_header = b.same_message.same_header ∙ a.same_message.same_header;
    no_more = λ z. a.same_message.no_more (b.same_message.no_more z);
    timed = λ z. b.same_message.timed (a.same_message.timed z);
  };
}

silent : (m : Master) (r : Receiver) → Same m (on_silence m r).master
silent m r =
    let P : MasterTaken → Type 0 = λ t. Same m t.master in
    let still : Same m (with_reader m r) = record { same_primary = refl; same_profile = refl; same_retries = refl; same_message = itself m.message } in
    let once : MasterTaken = counts (after_break m r Broken).master (after_break m r Broken).told Broken in
    if_both P (inside_frame m.receiver.place) _ _
    (if_both P m.receiver.gap _ _ (both (after_break_lem m r Broken) (both (count (after_break m r Broken).master (after_break m r Broken).told Broken) (count once.master once.told Broken))) still)
    (both still (count (with_reader m r) MasterTold.Nothing Nothing))

character : (m : Master) (r : Receiver) (event : Event) (bytes : List ℕ) → Same m (on_character m r event bytes).master
character m r Nothing bytes = record { same_primary = refl; same_profile = refl; same_retries = refl; same_message = itself m.message }
character m r PassedOver bytes = after_break_lem m r PassedOver
character m r Broken bytes = after_break_lem m r Broken
character m r (Frame w) bytes = record { same_primary = refl; same_profile = refl; same_retries = refl; same_message = awaited m.message.stage m.message (at_frame m w bytes) (framed m w bytes) }
character m r (Damaged w h) bytes = after_break_lem m r (Damaged w h)

heard_same : (m : Master) (heard : Heard) (bytes : List ℕ) → Same m (on_heard m heard bytes).master
heard_same m Silence bytes = silent m (taken m.receiver Silence).receiver
heard_same m (Character c) bytes = character m _ (taken m.receiver (Character c)).event bytes
heard_same m (Heard.Damaged c kind) bytes = character m _ (taken m.receiver (Heard.Damaged c kind)).event bytes

takes_same : (m : Master) (heard : Heard) (bytes : List ℕ) → Same m (master_takes m heard bytes).master
unfolding master_takes
takes_same m heard bytes = if_both (λ (t : MasterTaken). Same m t.master) m.deaf _ _ (record { same_primary = refl; same_profile = refl; same_retries = refl; same_message = itself m.message }) (heard_same m heard bytes)

taken_kept : (longest retries : ℕ) (m t : Master) → Same m t → MasterKept longest retries m → MasterKept longest retries t
taken_kept longest retries m t s k = record {
  retries_is = s.same_retries ∙ k.retries_is;
  short = omega (arith, s.same_message.same_length, k.short);
  counted = λ z. omega (arith, s.same_message.same_attempts, k.counted (s.same_message.no_more z));
}

-- ---- sending

-- behind a tick
pub record MasterSettled (longest retries : ℕ) (m : Master) : Type 0 where
  pub kept : MasterKept longest retries m
  pub shut : m.message.stage ≡ Waiting → m.timer.window ≡ 0

sending_waiting : (n : ℕ) → Sending n ≡ Waiting → ⊥
sending_waiting n e = let z : ◌≡◌ {A = ℕ} 0 1 = cc in omega arith

module _ (longest retries : ℕ) (m : Master) (frame : List ℕ) (k : MasterKept longest retries m) where
  at : (n attempts : ℕ) → 1 ≤ attempts → MasterSettled longest retries (sends_at m frame n attempts).master
  at n attempts some =
      if_both (λ (s : MasterSent). MasterSettled longest retries s.master) (n + 1 <? m.message.length) _ _
      (record { kept = record { retries_is = k.retries_is; short = k.short; counted = λ z. some }; shut = λ z. absurd (sending_waiting (n + 1) z) })
      (record { kept = record { retries_is = k.retries_is; short = k.short; counted = λ z. some }; shut = λ z. absurd (awaiting_waiting _ z) })

  by_stage : (s : Stage) → m.message.stage ≡ s → MasterSettled longest retries (sends_by m frame s).master
  unfolding when◌then◌else◌
  by_stage Free e = record { kept = record { retries_is = k.retries_is; short = k.short; counted = k.counted }; shut = λ z. absurd (free_waiting (sym e ∙ z)) }
  by_stage Waiting e = go (0 <? m.timer.window) refl
    where
      go : (t : Bool) → (0 <? m.timer.window) ≡ t → MasterSettled longest retries (when t then sends_at m frame 0 (one_more m.retries m.message.attempts) else Rattle.turns.specs.Master.sends m false m.timer m.message m.receiver Sent.Silent).master
      go true q = at 0 (one_more m.retries m.message.attempts) (one_more_some m.retries m.message.attempts)
      go false q = record { kept = record { retries_is = k.retries_is; short = k.short; counted = k.counted }; shut = λ z. omega (arith, ltb-false 0 m.timer.window q) }
  by_stage (Sending n) e = at n m.message.attempts (k.counted (ap begun e))
  by_stage (Awaiting n) e = record { kept = record { retries_is = k.retries_is; short = k.short; counted = k.counted }; shut = λ z. absurd (awaiting_waiting n (sym e ∙ z)) }

  sent_kept : MasterSettled longest retries (master_sends m frame).master
  unfolding master_sends
  sent_kept = by_stage m.message.stage refl

-- a frame with at most `limit` data bytes
pub frame_short : (limit preamble : ℕ) (h : Header) (n : ℕ) → preamble ≤ 20 → n ≤ limit → frame_length preamble h n ≤ limit + 29
frame_short limit preamble h n a b = omega (arith, address_at_most h.long)

pub master_kept : (limit retries : ℕ) → limit ≤ 255 → (x : MasterSide) (heard : Heard) (call : MasterCall) → MasterKept (limit + 29) retries x.master → MasterSettled (limit + 29) retries (master_tick limit x heard call).side.master
unfolding master_tick
master_kept limit retries small x heard no_request k = sent_kept (limit + 29) retries _ _ (taken_kept (limit + 29) retries x.master _ (takes_same x.master heard (master_data x heard)) k)
master_kept limit retries small x heard (requests q put) k = go (asks limit t q (length put) small)
  where
    t : Master
    t = (master_takes x.master heard (master_data x heard)).master

    told : MasterTold
    told = (master_takes x.master heard (master_data x heard)).told

    now : MasterKept (limit + 29) retries t
    now = taken_kept (limit + 29) retries x.master t (takes_same x.master heard (master_data x heard)) k

    put_in : List ℕ
    put_in = frame_bytes q.preamble (request_header t q) put

    by : Called Master → Type 0
    by c = MasterSettled (limit + 29) retries (master_called c t put_in x.frame (master_data x heard) told).side.master

    go : Asks limit t q (length put) → by (requested limit t q (length put))
    go (is_refused why e) = subst by (sym e) (sent_kept (limit + 29) retries t x.frame now)
    go (is_taken fits few free e) =
        subst by (sym e)
        (sent_kept (limit + 29) retries (with_message t (new_message t q (length put))) (stored x.frame 0 put_in)
        (record { retries_is = now.retries_is; short = frame_short limit q.preamble (request_header t q) (length put) fits.preamble_high few; counted = λ z. absurd (true_false (sym z)) }))

-- ---- the message's header, and the ticks left for its ACK

-- what is sent changes neither the header nor who the master is, and behind its STX the master waits RT1
module _ (m : Master) (frame : List ℕ) where
  record SentFrom (t : Master) : Type 0 where
    same_primary : t.primary ≡ m.primary
    same_profile : t.profile ≡ m.profile
    same_header : t.message.header ≡ m.message.header
    timed : 1 ≤ own_rt1 m.profile m.primary → Timed m.message.stage → Timed t.message.stage

  sends_one : (n attempts : ℕ) → SentFrom (sends_at m frame n attempts).master
  sends_one n attempts =
      if_both (λ (s : MasterSent). SentFrom s.master) (n + 1 <? m.message.length) _ _
      (record { same_primary = refl; same_profile = refl; same_header = refl; timed = λ r y z. absurd (true_false (sym z)) })
      (record { same_primary = refl; same_profile = refl; same_header = refl; timed = λ r y z. r })

  sends_none : SentFrom (sends m false m.timer m.message m.receiver Sent.Silent).master
  sends_none = record { same_primary = refl; same_profile = refl; same_header = refl; timed = λ r y. y }

  sends_by_lem : (s : Stage) → SentFrom (sends_by m frame s).master
  sends_by_lem Free = sends_none
  sends_by_lem Waiting = if_both (λ (s : MasterSent). SentFrom s.master) (0 <? m.timer.window) _ _ (sends_one 0 (one_more m.retries m.message.attempts)) sends_none
  sends_by_lem (Sending n) = sends_one n m.message.attempts
  sends_by_lem (Awaiting n) = sends_none

  sends_kept : SentFrom (master_sends m frame).master
  unfolding master_sends
  sends_kept = sends_by_lem m.message.stage

-- a new message is longer than one character
new_unawaited : (m : Master) (frame : List ℕ) → m.message.stage ≡ Waiting → 2 ≤ m.message.length → 1 ≤ left (master_sends m frame).master.message.stage → ⊥
unfolding master_sends
new_unawaited m frame e long =
    subst (λ (s : Stage). 1 ≤ left (sends_by m frame s).master.message.stage → ⊥) (sym e)
    (if_both (λ (s : MasterSent). 1 ≤ left s.master.message.stage → ⊥) (0 <? m.timer.window) _ _
    (subst (λ (s : MasterSent). 1 ≤ left s.master.message.stage → ⊥) (sym (if_is_true (0 + 1 <? m.message.length) _ _ (lt-ltb (0 + 1) m.message.length (omega arith)))) (λ z. omega arith))
    (λ z. omega (arith, ap left e)))

-- a message that is awaited behind a tick was in hand before it
pub header_kept : (limit : ℕ) → limit ≤ 255 → (x : MasterSide) (heard : Heard) (call : MasterCall) → 1 ≤ left (master_tick limit x heard call).side.master.message.stage → (master_tick limit x heard call).side.master.message.header ≡ x.master.message.header
unfolding master_tick
header_kept limit small x heard no_request = λ z.
    (sends_kept (master_takes x.master heard (master_data x heard)).master x.frame).same_header ∙ (takes_same x.master heard (master_data x heard)).same_message.same_header
header_kept limit small x heard (requests q put) = go (asks limit t q (length put) small)
  where
    t : Master
    t = (master_takes x.master heard (master_data x heard)).master

    told : MasterTold
    told = (master_takes x.master heard (master_data x heard)).told

    same : t.message.header ≡ x.master.message.header
    same = (takes_same x.master heard (master_data x heard)).same_message.same_header

    put_in : List ℕ
    put_in = frame_bytes q.preamble (request_header t q) put

    by : Called Master → Type 0
    by c = 1 ≤ left (master_called c t put_in x.frame (master_data x heard) told).side.master.message.stage → (master_called c t put_in x.frame (master_data x heard) told).side.master.message.header ≡ x.master.message.header

    go : Asks limit t q (length put) → by (requested limit t q (length put))
    go (is_refused why e) = subst by (sym e) (λ z. (sends_kept t x.frame).same_header ∙ same)
    go (is_taken fits few free e) =
        subst by (sym e) (λ z. absurd (new_unawaited (with_message t (new_message t q (length put))) (stored x.frame 0 put_in) refl (omega (arith, fits.preamble_low)) z))

-- a master with a valid profile
pub record MasterTimed (primary : Bool) (m : Master) : Type 0 where
  pub bit_is : m.primary ≡ primary
  pub some_rt1 : 1 ≤ own_rt1 m.profile m.primary
  pub timed : Timed m.message.stage

-- behind a tick it is one again, and its message's header is that of the request that was taken last
pub record Asking (primary : Bool) (x : MasterSide) (call : MasterCall) (step : MasterStep) : Type 0 where
  pub still_timed : MasterTimed primary step.side.master
  pub header_is : step.side.master.message.header ≡ asked_by primary call step.result x.master.message.header

sent_timed : {primary : Bool} (m : Master) (frame : List ℕ) → MasterTimed primary m → MasterTimed primary (master_sends m frame).master
sent_timed m frame k =
    let s = sends_kept m frame in
    let rt1 : own_rt1 (master_sends m frame).master.profile (master_sends m frame).master.primary ≡ own_rt1 m.profile m.primary = λ i. own_rt1 (s.same_profile i) (s.same_primary i) in
    record { bit_is = s.same_primary ∙ k.bit_is; some_rt1 = subst (λ (n : ℕ). 1 ≤ n) (sym rt1) k.some_rt1; timed = s.timed k.some_rt1 k.timed }

pub tick_asks : (limit : ℕ) → limit ≤ 255 → (primary : Bool) (x : MasterSide) (heard : Heard) (call : MasterCall) → MasterTimed primary x.master → Asking primary x call (master_tick limit x heard call)
unfolding master_tick
tick_asks limit small primary x heard call k = on call
  where
    t : Master
    t = (master_takes x.master heard (master_data x heard)).master

    told : MasterTold
    told = (master_takes x.master heard (master_data x heard)).told

    same : Same x.master t
    same = takes_same x.master heard (master_data x heard)

    rt1 : own_rt1 t.profile t.primary ≡ own_rt1 x.master.profile x.master.primary
    rt1 = λ i. own_rt1 (same.same_profile i) (same.same_primary i)

    now : MasterTimed primary t
    now = record { bit_is = same.same_primary ∙ k.bit_is; some_rt1 = subst (λ (n : ℕ). 1 ≤ n) (sym rt1) k.some_rt1; timed = same.same_message.timed k.timed }

    header : (master_sends t x.frame).master.message.header ≡ x.master.message.header
    header = (sends_kept t x.frame).same_header ∙ same.same_message.same_header

    on : (c : MasterCall) → Asking primary x c (master_calls limit (master_takes x.master heard (master_data x heard)) c x.frame (master_data x heard))
    on no_request = record { still_timed = sent_timed t x.frame now; header_is = header }
    on (requests q put) = go (asks limit t q (length put) small)
      where
        put_in : List ℕ
        put_in = frame_bytes q.preamble (request_header t q) put

        by : Called Master → Type 0
        by c = Asking primary x (requests q put) (master_called c t put_in x.frame (master_data x heard) told)

        go : Asks limit t q (length put) → by (requested limit t q (length put))
        go (is_refused why e) = subst by (sym e) (record { still_timed = sent_timed t x.frame now; header_is = header })
        go (is_taken fits few free e) =
            let m : Master = with_message t (new_message t q (length put)) in
            subst by (sym e)
            (record {
              still_timed = sent_timed m (stored x.frame 0 put_in) (record { bit_is = now.bit_is; some_rt1 = now.some_rt1; timed = λ z. absurd (true_false (sym z)) });
              header_is = (sends_kept m (stored x.frame 0 put_in)).same_header ∙ ap (λ (b : Bool). stx_header b q) now.bit_is;
            })

-- ---- "An accepted message is a master's request that was taken"

-- it begins in this tick, or waits
pub data Accepted (step : MasterStep) : Type 0 where
  begins_now : (c : ℕ) → step.sent ≡ Sent.Character c → Accepted step
  waits_now : step.sent ≡ Sent.Silent → step.side.master.message.stage ≡ Waiting → step.side.master.message.attempts ≡ 0 → Accepted step

refused_taken : {why : ℕ} → CallResult.Refused why ≡ CallResult.Taken → ⊥
refused_taken e = let z : ◌≡◌ {A = ℕ} 0 1 = cc in omega arith

none_taken : CallResult.Nothing ≡ CallResult.Taken → ⊥
none_taken e = let z : ◌≡◌ {A = ℕ} 0 1 = cc in omega arith

pub accepts : (limit : ℕ) → limit ≤ 255 → (x : MasterSide) (heard : Heard) (call : MasterCall) → (master_tick limit x heard call).result ≡ CallResult.Taken → Accepted (master_tick limit x heard call)
unfolding master_tick master_sends
accepts limit small x heard no_request e = absurd (none_taken e)
accepts limit small x heard (requests q put) e = go (asks limit t q (length put) small) e
  where
    t : Master
    t = (master_takes x.master heard (master_data x heard)).master

    told : MasterTold
    told = (master_takes x.master heard (master_data x heard)).told

    put_in : List ℕ
    put_in = frame_bytes q.preamble (request_header t q) put

    step : Called Master → MasterStep
    step c = master_called c t put_in x.frame (master_data x heard) told

    go : Asks limit t q (length put) → (step (requested limit t q (length put))).result ≡ CallResult.Taken → Accepted (step (requested limit t q (length put)))
    go (is_refused why a) z = absurd (refused_taken (ap (λ (c : Called Master). (step c).result) (sym a) ∙ z))
    go (is_taken fits few free a) z =
        subst (λ (c : Called Master). Accepted (step c)) (sym a)
        (if_both (λ (s : MasterSent). Accepted (master_sent s (stored x.frame 0 put_in) (master_data x heard) told CallResult.Taken)) (0 <? t.timer.window) _ _
        (if_both (λ (s : MasterSent). Accepted (master_sent s (stored x.frame 0 put_in) (master_data x heard) told CallResult.Taken)) (0 + 1 <? (new_message t q (length put)).length) _ _ (begins_now _ refl) (begins_now _ refl))
        (waits_now refl refl refl))
