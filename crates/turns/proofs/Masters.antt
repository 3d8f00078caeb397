-- What a master does in a tick once it has taken what was heard: the host's request, and the character that it sends or not. Stated once for every state in which it is not sending, and for its frame being sent.
use Prim.Native.Nat.{ℕ, ◌+◌, ◌≤◌, ◌<◌}
use native.Mathlib.Omega.{arith}
use mathlib.Core.Path.{◌≡◌, refl, sym, ap, subst, ◌∙◌}
use mathlib.Core.Bool.{Bool, true, false}
use mathlib.Core.List.{List}
use mathlib.Core.Logic.{◌⊎◌, inl, inr}
use lib.ListN.{length, get_or, take}
use lib.Seq.{get_or-take}
use borrow.Author.Tests.{ltb-true, ltb-false, le-leb, leb-false}
use Rattle.base.specs.Refusal.{Called, accepted, refused}
use Rattle.base.specs.Choice.{when◌then◌else◌, ◌<?◌, ◌≤?◌, ◌outside◌to◌}
use Rattle.base.specs.Store.{stored}
use Rattle.base.proofs.Choices.{true_false, inside_low, inside_high, if_is_true, if_is_false}
use Rattle.base.proofs.Stores.{stored_front}
use Rattle.frame.specs.Delimiter.{stx, is_type}
use Rattle.frame.specs.Limits.{largest_polling}
use Rattle.frame.specs.Address.{byte_at, largest_with, address_above}
use Rattle.frame.specs.Frame.{too_few, frame_bytes, frame_length}
use Rattle.frame.specs.Write.{write_buffer}
use Rattle.frame.specs.declared.Header.{Header}
use Rattle.frame.proofs.Lengths.{frame_count}
use Rattle.frame.proofs.Longest.{address_at_most}
use Rattle.frame.proofs.Taken.{Fits}
use Rattle.line.specs.Reader.{passing}
use Rattle.line.specs.declared.Whole.{Whole}
use Rattle.line.proofs.Hearing.{whole_message}
use Rattle.turns.specs.Master.{requested, requested_up_to, polling_up_to, request_header, has_message, command_refused, master_with, timer, any_stx, timer_after, sends_at, one_more, sends_by, master_sends}
use Rattle.turns.specs.Link.{MasterCall, no_request, requests, MasterStep, master_calls, master_called, master_sent}
use Rattle.turns.specs.declared.CallResult.{CallResult}
use Rattle.turns.specs.declared.Request.{Request}
use Rattle.turns.specs.declared.Sent.TheVariants.{Silent, Character}
use Rattle.turns.specs.declared.Stage.{Stage}
use Rattle.turns.specs.declared.Stage.TheVariants.{Free, Waiting, Sending, Awaiting}
use Rattle.turns.specs.declared.Message.{Message}
use Rattle.turns.specs.declared.Master.{Master}
use Rattle.turns.specs.declared.MasterTold.{MasterTold}
use Rattle.turns.specs.declared.MasterSent.{MasterSent}
use Rattle.turns.specs.declared.MasterTaken.{MasterTaken}
use Rattle.turns.proofs.Revisions.{by_revision}
use Rattle.turns.proofs.Spoken.{Spoken, spoken}
use Rattle.turns.proofs.Writing.{written_stored}

-- ---- a frame in a lent buffer

-- the first `size` bytes of the buffer are the frame w, which listeners hear as the message
pub record Holds (frame : List ℕ) (size : ℕ) (w : List ℕ) (message : Whole) : Type 0 where
  pub speaks : Spoken w message
  pub sized : length w ≡ size
  pub same : (i : ℕ) → i < length w → byte_at frame i ≡ get_or w i 0

-- a written frame that fits the buffer is held by it
pub holds : (preamble : ℕ) (h : Header) (bytes frame : List ℕ) → Fits preamble h (length bytes) → 284 ≤ length frame
    → Holds (stored frame 0 (frame_bytes preamble h bytes)) (frame_length preamble h (length bytes)) (frame_bytes preamble h bytes) (whole_message h bytes)
holds preamble h bytes frame fits room =
    let w : List ℕ = frame_bytes preamble h bytes in
    let count : frame_length preamble h (length bytes) ≡ length w = frame_count preamble h bytes in
    let short : length w ≤ 284 = omega (arith, count, fits.preamble_high, fits.count_high, address_at_most h.long) in
    let front : take (length w) (stored frame 0 w) ≡ w = stored_front (length w) frame (stored frame 0 w) w refl refl (omega arith) in
    record {
      speaks = spoken preamble h bytes fits;
      sized = sym count;
      same = λ i below. sym (get_or-take (length w) (stored frame 0 w) i 0 below) ∙ ap (λ (l : List ℕ). get_or l i 0) front;
    }

-- and so where the frame writer put it there
pub holds_written : (preamble : ℕ) (h : Header) (bytes frame : List ℕ) → Fits preamble h (length bytes) → 284 ≤ length frame
    → Holds (write_buffer preamble h bytes frame 0) (frame_length preamble h (length bytes)) (frame_bytes preamble h bytes) (whole_message h bytes)
holds_written preamble h bytes frame fits room =
    subst (λ (l : List ℕ). Holds l (frame_length preamble h (length bytes)) (frame_bytes preamble h bytes) (whole_message h bytes))
    (sym (written_stored preamble h bytes frame fits room)) (holds preamble h bytes frame fits room)

-- ---- the message in hand

-- the master's message, if it has one, stands in its frame buffer as an STX with its own master bit
pub data Formed (primary : Bool) (frame : List ℕ) (g : Message) : Type 0 where
  no_message : g.stage ≡ Free → Formed primary frame g
  stands : (w : List ℕ) (message : Whole) → Holds frame g.length w message → message.header ≡ g.header → message.expansion ≡ 0 → g.header.kind ≡ stx → g.header.primary ≡ primary → Formed primary frame g

-- the silent ticks left for the ACK; 0 where none is awaited
abbrev pub left : Stage → ℕ
left Free = 0
left Waiting = 0
left (Sending n) = 0
left (Awaiting n) = n

-- not sending
pub data Still : Stage → Type 0 where
  is_free : Still Free
  is_waiting : Still Waiting
  is_awaiting : (n : ℕ) → Still (Awaiting n)

-- ---- what comes of a tick behind what was heard

-- the same master, which has sent nothing, with a message
abbrev pub resting : Master → Message → Master
resting m g = record { primary = m.primary; profile = m.profile; retries = m.retries; receiver = m.receiver; deaf = false; burst = m.burst; noted = m.noted; timer = m.timer; message = g }

-- the same master, which has sent a character that is not the last of its STX
abbrev pub speaking : Master → Message → Master
speaking m g = record { primary = m.primary; profile = m.profile; retries = m.retries; receiver = passing; deaf = true; burst = m.burst; noted = m.noted; timer = timer 0; message = g }

-- and the last one
abbrev pub spoken_out : Master → Message → Master
spoken_out m g = record { primary = m.primary; profile = m.profile; retries = m.retries; receiver = passing; deaf = true; burst = m.burst; noted = m.noted; timer = timer_after m.profile m.primary any_stx m.burst; message = g }

-- the message of a master that rests: what is awaited stays, and so does a message that waits
pub record Rested (m : Master) (g : Message) : Type 0 where
  pub same_left : left g.stage ≡ left m.message.stage
  pub same_attempts : 1 ≤ left g.stage → g.attempts ≡ m.message.attempts
  pub same_header : 1 ≤ left g.stage → g.header ≡ m.message.header
  pub waits_on : m.message.stage ≡ Waiting → (g.stage ≡ Waiting) × (g.attempts ≡ m.message.attempts)

-- the attempts of a master that begins its STX
pub record Counts (m : Master) (g : Message) : Type 0 where
  pub some : 1 ≤ g.attempts
  pub again : m.message.stage ≡ Waiting → m.message.attempts ≤ m.retries → g.attempts ≡ m.message.attempts + 1
  pub from : (m.message.stage ≡ Waiting) ⊎ (m.message.stage ≡ Free)

pub one_more_some : (retries n : ℕ) → 1 ≤ one_more retries n
unfolding when◌then◌else◌
one_more_some retries n = go (n ≤? retries) refl
  where
    go : (t : Bool) → (n ≤? retries) ≡ t → 1 ≤ (when t then n + 1 else n)
    go true e = omega arith
    go false e = omega (arith, leb-false n retries e)

one_more_is : (retries n : ℕ) → n ≤ retries → one_more retries n ≡ n + 1
one_more_is retries n h = if_is_true (n ≤? retries) (n + 1) n (le-leb n retries h)

pub data Goes (m : Master) (step : MasterStep) : Type 0 where
  -- it sends nothing: then no message waits in an open window
  rests : (g : Message) → step.side.master ≡ resting m g → step.sent ≡ Silent → Still g.stage → Formed m.primary step.side.frame g
      → (g.stage ≡ Waiting → m.timer.window ≡ 0) → Rested m g → Goes m step
  -- it begins its STX in an open window
  begins : (g : Message) (w : List ℕ) (message : Whole) → step.side.master ≡ speaking m g → g.stage ≡ Sending 1 → step.sent ≡ Character (get_or w 0 0)
      → Holds step.side.frame g.length w message → message.header ≡ g.header → message.expansion ≡ 0 → g.header.kind ≡ stx → g.header.primary ≡ m.primary
      → 0 < m.timer.window → Counts m g → Goes m step

-- what holds in each case of a choice holds of the choice
pub if_cases : {A : Type 0} (P : A → Type 0) (t : Bool) (a b : A) → (t ≡ true → P a) → (t ≡ false → P b) → P (when t then a else b)
unfolding when◌then◌else◌
if_cases P true a b f g = f refl
if_cases P false a b f g = g refl

-- item 1, "Senders still leave no gap": behind a character that is not the last of its STX the next goes out in the next tick
pub stx_goes_on : (m : Master) (frame : List ℕ) (n attempts : ℕ) → (n + 1 <? m.message.length) ≡ true → (master_sends (sends_at m frame n attempts).master frame).sent ≡ Character (byte_at frame (n + 1))
unfolding master_sends
stx_goes_on m frame n attempts e =
    ap (λ (s : MasterSent). (sends_by s.master frame s.master.message.stage).sent) (if_is_true (n + 1 <? m.message.length) _ _ e)
    ∙ if_cases (λ (s : MasterSent). s.sent ≡ Character (byte_at frame (n + 1))) (n + 1 + 1 <? m.message.length) _ _ (λ z. refl) (λ z. refl)

still_at : {s t : Stage} → s ≡ t → Still t → Still s
still_at e v = subst Still (sym e) v

unmoved : (m : Master) → Rested m m.message
unmoved m = record { same_left = refl; same_attempts = λ z. refl; same_header = λ z. refl; waits_on = λ z. (z, refl) }

pub free_waiting : Free ≡ Waiting → ⊥
free_waiting e = let z : ◌≡◌ {A = ℕ} 0 1 = cc in omega arith

pub awaiting_waiting : (n : ℕ) → Awaiting n ≡ Waiting → ⊥
awaiting_waiting n e = let z : ◌≡◌ {A = ℕ} 0 1 = cc in omega arith

waiting_free : Waiting ≡ Free → ⊥
waiting_free e = free_waiting (sym e)

module _ (m : Master) (frame bytes : List ℕ) (told : MasterTold) (result : CallResult) (formed : Formed m.primary frame m.message) where
  Step : Stage → MasterStep
  Step stage = master_sent (sends_by m frame stage) frame bytes told result

  -- a waiting message begins in an open window
  begins_open : m.message.stage ≡ Waiting → 0 < m.timer.window → Formed m.primary frame m.message → Goes m (master_sent (sends_at m frame 0 (one_more m.retries m.message.attempts)) frame bytes told result)
  begins_open e z (no_message f) = absurd (waiting_free (sym e ∙ f))
  begins_open e z (stands w message h a x t u) =
      if_cases (λ (s : MasterSent). Goes m (master_sent s frame bytes told result)) _ _ _
      (λ q. begins _ w message refl refl (ap Character (h.same 0 (omega (arith, h.speaks.long)))) (record { speaks = h.speaks; sized = h.sized; same = h.same }) a x t u z
      (record { some = one_more_some m.retries m.message.attempts; again = λ y h. one_more_is m.retries m.message.attempts h; from = inl e }))
      (λ q. absurd (omega (arith, h.sized, h.speaks.long, ltb-false (0 + 1) m.message.length q)))

  waiting_goes : m.message.stage ≡ Waiting → Goes m (Step Waiting)
  unfolding Step
  waiting_goes e =
      if_cases (λ (s : MasterSent). Goes m (master_sent s frame bytes told result)) _ _ _
      (λ q. begins_open e (ltb-true 0 m.timer.window q) formed)
      (λ q. rests m.message refl refl (still_at e is_waiting) formed (λ z. omega (arith, ltb-false 0 m.timer.window q)) (unmoved m))

  sends_still : Still m.message.stage → Goes m (master_sent (master_sends m frame) frame bytes told result)
  unfolding master_sends Step
  sends_still v = go m.message.stage refl v
    where
      go : (s : Stage) → m.message.stage ≡ s → Still s → Goes m (Step m.message.stage)
      go Free e is_free = subst (λ (z : Stage). Goes m (Step z)) (sym e) (rests m.message refl refl (still_at e is_free) formed (λ z. absurd (free_waiting (sym e ∙ z))) (unmoved m))
      go Waiting e is_waiting = subst (λ (z : Stage). Goes m (Step z)) (sym e) (waiting_goes e)
      go (Awaiting n) e (is_awaiting k) = subst (λ (z : Stage). Goes m (Step z)) (sym e) (rests m.message refl refl (still_at e (is_awaiting n)) formed (λ z. absurd (awaiting_waiting n (sym e ∙ z))) (unmoved m))
      go (Sending _) e x3 = elim x3 [ ]

-- ---- the host's request

-- the message of an accepted request
abbrev pub new_message : Master → Request → ℕ → Message
new_message m q count = record { stage = Waiting; header = request_header m q; length = frame_length q.preamble (request_header m q) count; attempts = 0 }

abbrev pub with_message : Master → Message → Master
with_message m g = master_with m m.receiver m.burst m.noted m.timer g

pub stx_enough : (count : ℕ) → too_few stx count ≡ false
unfolding when◌then◌else◌
stx_enough count = refl

pub stx_typed : is_type stx ≡ true
unfolding when◌then◌else◌
stx_typed = refl

-- a request is refused, or it can be written and the master had no message
pub data Asks (limit : ℕ) (m : Master) (q : Request) (count : ℕ) : Type 0 where
  is_refused : (why : ℕ) → requested limit m q count ≡ refused why → Asks limit m q count
  is_taken : Fits q.preamble (request_header m q) count → count ≤ limit → m.message.stage ≡ Free → requested limit m q count ≡ accepted (with_message m (new_message m q count)) → Asks limit m q count

-- a smaller largest polling address is a smaller largest address
pub largest_with_lem : (polling most : ℕ) (long : Bool) → polling ≤ most → largest_with polling long ≤ largest_with most long
unfolding when◌then◌else◌
largest_with_lem polling most true h = omega arith
largest_with_lem polling most false h = h

-- no revision knows a polling address that no frame can have
pub polling_fits : (revision : ℕ) → polling_up_to revision ≤ largest_polling
polling_fits revision = if_cases (λ (n : ℕ). n ≤ largest_polling) _ _ _ (λ e. omega arith) (λ e. omega arith)

-- from the address on, for every largest polling address: one proof for all revisions
module _ (polling limit : ℕ) (m : Master) (q : Request) (count : ℕ) (few : polling ≤ largest_polling) (small : limit ≤ 255) (a : (q.preamble outside 5 to 20) ≡ false) (start : requested limit m q count ≡ requested_up_to polling limit m q count) where
  asks_up_to : Asks limit m q count
  unfolding requested_up_to
  asks_up_to = second B refl
    where
      B : Bool
      B = address_above polling (request_header m q)

      C : Bool
      C = command_refused q

      D : Bool
      D = limit <? count

      E : Bool
      E = has_message m.message.stage

      free : (s : Stage) → has_message s ≡ false → s ≡ Free
      free Free e = refl
      free Waiting e = absurd (true_false e)
      free (Sending n) e = absurd (true_false e)
      free (Awaiting n) e = absurd (true_false e)

      fifth : (t : Bool) → E ≡ t → B ≡ false → C ≡ false → D ≡ false → Asks limit m q count
      fifth true e b c d = is_refused 7 (start ∙ if_is_false B _ _ b ∙ if_is_false C _ _ c ∙ if_is_false D _ _ d ∙ if_is_true E _ _ e)
      fifth false e b c d =
          is_taken (record {
            preamble_low = inside_low q.preamble 5 20 _ refl a;
            preamble_high = inside_high q.preamble 5 20 _ refl a;
            address_high = omega (arith, ltb-false (largest_with polling q.long) q.address b, largest_with_lem polling largest_polling q.long few);
            count_high = omega (arith, ltb-false limit count d);
            enough = stx_enough count;
            typed = stx_typed;
          }) (ltb-false limit count d) (free m.message.stage e) (start ∙ if_is_false B _ _ b ∙ if_is_false C _ _ c ∙ if_is_false D _ _ d ∙ if_is_false E _ _ e)

      fourth : (t : Bool) → D ≡ t → B ≡ false → C ≡ false → Asks limit m q count
      fourth true d b c = is_refused 6 (start ∙ if_is_false B _ _ b ∙ if_is_false C _ _ c ∙ if_is_true D _ _ d)
      fourth false d b c = fifth E refl b c d

      third : (t : Bool) → C ≡ t → B ≡ false → Asks limit m q count
      third true c b = is_refused 5 (start ∙ if_is_false B _ _ b ∙ if_is_true C _ _ c)
      third false c b = fourth D refl b c

      second : (t : Bool) → B ≡ t → Asks limit m q count
      second true b = is_refused 4 (start ∙ if_is_true B _ _ b)
      second false b = third C refl b

pub asks : (limit : ℕ) (m : Master) (q : Request) (count : ℕ) → limit ≤ 255 → Asks limit m q count
unfolding requested
asks limit m q count small = first A refl
  where
    A : Bool
    A = q.preamble outside 5 to 20

    B : Bool
    B = q.revision outside 3 to 7

    second : (t : Bool) → B ≡ t → A ≡ false → Asks limit m q count
    second true b a = is_refused 17 (if_is_false A _ _ a ∙ if_is_true B _ _ b)
    second false b a = asks_up_to (polling_up_to q.revision) limit m q count (polling_fits q.revision) small a (by_revision limit m q count a b)

    first : (t : Bool) → A ≡ t → Asks limit m q count
    first true a = is_refused 3 (if_is_true A _ _ a)
    first false a = second B refl a

-- ---- the tick behind what was heard, for every call

pub master_goes : (limit : ℕ) (t : MasterTaken) (call : MasterCall) (frame bytes : List ℕ) → limit ≤ 255 → 284 ≤ length frame → Still t.master.message.stage → Formed t.master.primary frame t.master.message
    → Goes t.master (master_calls limit t call frame bytes)
master_goes limit t no_request frame bytes small room v f = sends_still t.master frame bytes t.told CallResult.Nothing f v
master_goes limit t (requests q put) frame bytes small room v f = go (asks limit t.master q (length put) small)
  where
    m : Master
    m = t.master

    w : List ℕ
    w = frame_bytes q.preamble (request_header m q) put

    by : Called Master → MasterStep
    by c = master_called c m w frame bytes t.told

    -- the new message of a master that had none
    other : (m : Master) (g : Message) → {step : MasterStep} → m.message.stage ≡ Free → g.stage ≡ Waiting → Goes (with_message m g) step → Goes m step
    other m g z y (rests g' a b c d e r) =
        rests g' a b c d e (record {
          same_left = r.same_left ∙ ap left y ∙ ap left (sym z);
          same_attempts = λ k. absurd (omega (arith, r.same_left, ap left y));
          same_header = λ k. absurd (omega (arith, r.same_left, ap left y));
          waits_on = λ k. absurd (free_waiting (sym z ∙ k));
        })
    other m g z y (begins g' w' x a b c d e f h i j k) = begins g' w' x a b c d e f h i j (record { some = k.some; again = λ q h. absurd (free_waiting (sym z ∙ q)); from = inr z })

    go : Asks limit m q (length put) → Goes m (by (requested limit m q (length put)))
    go (is_refused why e) = subst (λ (c : Called Master). Goes m (by c)) (sym e) (sends_still m frame bytes t.told (CallResult.Refused why) f v)
    go (is_taken fits few e p) =
        let g : Message = new_message m q (length put) in
        let h : Holds (stored frame 0 w) g.length w (whole_message (request_header m q) put) = holds q.preamble (request_header m q) put frame fits room in
        subst (λ (c : Called Master). Goes m (by c)) (sym p)
        (other m g e refl (sends_still (with_message m g) (stored frame 0 w) bytes t.told CallResult.Taken (stands w (whole_message (request_header m q) put) h refl refl refl refl) is_waiting))
