-- Theorem: the attempts that a master reports are the STX frames that it sent for the message, R + 1 for one given up and one for a broadcast, whatever it hears and its host asks.
use Prim.Native.Nat.{ℕ, suc, ◌+◌, ◌-◌, ◌≤◌, ◌<◌}
use native.Mathlib.Omega.{arith}
use mathlib.Core.Path.{◌≡◌, refl, sym, ap, subst, ◌∙◌}
use mathlib.Core.Bool.{Bool, true, false}
use mathlib.Core.List.{List, [], ◌∷◌}
use lib.ListN.{length, get_or, drop, drop_of_length-le}
use lib.Seq.{drop-cons}
use borrow.Author.Tests.{le-leb, leb-true, leb-false, ltb-true, ltb-false}
use Rattle.base.specs.Refusal.{Called}
use Rattle.base.specs.Choice.{◌<?◌, ◌≤?◌}
use Rattle.base.specs.Store.{stored}
use Rattle.base.proofs.Choices.{true_false, if_is_true, if_is_false}
use Rattle.frame.specs.Frame.{frame_bytes}
use Rattle.frame.specs.declared.Header.{Header}
use Rattle.line.specs.Reader.{taken, inside_frame}
use Rattle.line.specs.declared.Event.{Event}
use Rattle.line.specs.declared.Event.TheVariants.{Nothing, PassedOver, Broken, Frame, Damaged}
use Rattle.line.specs.declared.Heard.{Heard}
use Rattle.line.specs.declared.Heard.TheVariants.{Silence, Character}
use Rattle.line.specs.declared.Receiver.{Receiver}
use Rattle.line.specs.declared.Whole.{Whole}
use Rattle.line.proofs.Hearing.{whole_message}
use Rattle.turns.specs.Master as M
use Rattle.turns.specs.Party.{is_broadcast}
use Rattle.turns.specs.Master.{Ending, answers_message, message_at, at_break, at_frame, if_awaiting, rt1_ends, waited, after_break, master_takes, requested, request_header, one_more, sends_at, sends_by, master_sends}
use Rattle.turns.specs.Link.{MasterCall, no_request, requests, MasterSide, MasterStep, master_tick, master_data, master_calls, master_called}
use Rattle.turns.specs.Gaps.{MasterInput, IsFrame}
use Rattle.turns.specs.Attempts as Q
use Rattle.turns.specs.Attempts.{MessageLog, no_message, in_hand, most_sent, Reports, no_report, is_answered, is_given_up, is_sent_once, behind_report, stx_header, Asked, asks_nothing, Sends, has_none, rests, begins, goes_on, ends, Counted, no_tick, tick_and, AttemptsAsSaid}
use Rattle.turns.specs.declared.CallResult.{CallResult}
use Rattle.turns.specs.declared.Request.{Request}
use Rattle.turns.specs.declared.Sent.{Sent}
use Rattle.turns.specs.declared.Stage.{Stage}
use Rattle.turns.specs.declared.Stage.TheVariants.{Free, Waiting, Sending, Awaiting}
use Rattle.turns.specs.declared.Message.{Message}
use Rattle.turns.specs.declared.Master.{Master}
use Rattle.turns.specs.declared.MasterTold.{MasterTold}
use Rattle.turns.specs.declared.MasterTaken.{MasterTaken}
use Rattle.turns.specs.declared.MasterSent.{MasterSent}
use Rattle.turns.proofs.Bursting.{if_both}
use Rattle.turns.proofs.Masters.{Holds, holds, if_cases, Asks, is_refused, is_taken, asks, with_message, new_message}
use Rattle.turns.proofs.Listening.{frame_room}
use Rattle.turns.proofs.Fresh.{master_is}

-- ---- the message's stage and its log

-- the STX in the frame buffer
pub record Held (frame : List ℕ) (size : ℕ) (h : Header) (stx : List ℕ) (broadcast : Bool) : Type 0 where
  pub message : Whole
  pub held : Holds frame size stx message
  pub broadcast_is : is_broadcast h ≡ broadcast

pub data Phase (retries : ℕ) (frame : List ℕ) (g : Message) : MessageLog → Type 0 where
  is_free : g.stage ≡ Free → Phase retries frame g no_message
  waits : {w : List ℕ} {b : Bool} → g.stage ≡ Waiting → Held frame g.length g.header w b → g.attempts < most_sent retries b → Phase retries frame g (in_hand w b [] g.attempts)
  awaits : {w : List ℕ} {b : Bool} (k : ℕ) → g.stage ≡ Awaiting k → Held frame g.length g.header w b → 1 ≤ g.attempts → g.attempts ≤ most_sent retries b → Phase retries frame g (in_hand w b [] g.attempts)
  sending : {w : List ℕ} {b : Bool} {n : ℕ} (k : ℕ) → g.stage ≡ Sending k → k < length w → Held frame g.length g.header w b → g.attempts ≡ n + 1 → n < most_sent retries b
      → Phase retries frame g (in_hand w b (drop k w) n)

free_awaiting : (k : ℕ) → Free ≡ Awaiting k → ⊥
free_awaiting k e = let z : ◌≡◌ {A = ℕ} 0 1 = cc in omega arith

waiting_awaiting : (k : ℕ) → Waiting ≡ Awaiting k → ⊥
waiting_awaiting k e = let z : ◌≡◌ {A = ℕ} 0 1 = cc in omega arith

sending_awaiting : (n k : ℕ) → Sending n ≡ Awaiting k → ⊥
sending_awaiting n k e = let z : ◌≡◌ {A = ℕ} 0 1 = cc in omega arith

waiting_free : Waiting ≡ Free → ⊥
waiting_free e = let z : ◌≡◌ {A = ℕ} 0 1 = cc in omega arith

sending_free : (n : ℕ) → Sending n ≡ Free → ⊥
sending_free n e = let z : ◌≡◌ {A = ℕ} 0 1 = cc in omega arith

pub none_in_hand : {retries : ℕ} {frame : List ℕ} {g : Message} {log : MessageLog} → Phase retries frame g log → g.stage ≡ Free → log ≡ no_message
none_in_hand (is_free f) e = refl
none_in_hand (waits f h n) e = absurd (waiting_free (sym f ∙ e))
none_in_hand (awaits k f h some most) e = absurd (free_awaiting k (sym e ∙ f))
none_in_hand (sending k f below h a n) e = absurd (sending_free k (sym f ∙ e))

most_sent_lem : (retries : ℕ) (b : Bool) → most_sent retries b ≤ retries + 1
most_sent_lem retries true = omega arith
most_sent_lem retries false = omega arith

-- ---- what was heard

module _ (retries : ℕ) (frame : List ℕ) where
  -- the message goes on, or it is reported
  pub data Outcome (log : MessageLog) : MasterTold → Message → Type 0 where
    continues : {g : Message} → Phase retries frame g log → Outcome log MasterTold.Nothing g
    is_over : {told : MasterTold} {g : Message} → Reports retries log told → behind_report told log ≡ no_message → g.stage ≡ Free → Outcome log told g

  pub record Took (log : MessageLog) (m : Master) (t : MasterTaken) : Type 0 where
    pub same_primary : t.master.primary ≡ m.primary
    pub same_retries : t.master.retries ≡ m.retries
    pub outcome : Outcome log t.told t.master.message

  both : {log : MessageLog} {m : Master} {t u : MasterTaken} → Took log m t → Took log t.master u → Took log m u
  both a b = record { same_primary = b.same_primary ∙ a.same_primary; same_retries = b.same_retries ∙ a.same_retries; outcome = b.outcome }

  module _ (m : Master) (same : m.retries ≡ retries) (k : ℕ) (e : m.message.stage ≡ Awaiting k) where
    broken : {log : MessageLog} → Phase retries frame m.message log → Outcome log (at_break m).told (at_break m).message
    broken (is_free f) = absurd (free_awaiting k (sym f ∙ e))
    broken (waits f h n) = absurd (waiting_awaiting k (sym f ∙ e))
    broken (sending n f below h a b) = absurd (sending_awaiting n k (sym f ∙ e))
    broken (awaits {w} {b} n f h some most) = once b h most
      where
        once : (b : Bool) → Held frame m.message.length m.message.header w b → m.message.attempts ≤ most_sent retries b → Outcome (in_hand w b [] m.message.attempts) (at_break m).told (at_break m).message
        once true h most =
            subst (λ (z : Ending). Outcome (in_hand w true [] m.message.attempts) z.told z.message) (sym (if_is_true (is_broadcast m.message.header) _ _ h.broadcast_is)) (is_over (is_sent_once (omega arith)) refl refl)
        once false h most =
            subst (λ (z : Ending). Outcome (in_hand w false [] m.message.attempts) z.told z.message) (sym (if_is_false (is_broadcast m.message.header) _ _ h.broadcast_is))
            (if_cases (λ (z : Ending). Outcome (in_hand w false [] m.message.attempts) z.told z.message) (m.message.attempts ≤? m.retries) _ _
            (λ q. continues (waits refl h (omega (arith, same, leb-true m.message.attempts m.retries q))))
            (λ q. is_over (is_given_up (omega (arith, same, leb-false m.message.attempts m.retries q))) refl refl))

    answers : {log : MessageLog} (w : Whole) → Phase retries frame m.message log → Outcome log (M.ends m.message (MasterTold.Answered w)).told (M.ends m.message (MasterTold.Answered w)).message
    answers w (is_free f) = absurd (free_awaiting k (sym f ∙ e))
    answers w (waits f h n) = absurd (waiting_awaiting k (sym f ∙ e))
    answers w (sending n f below h a b) = absurd (sending_awaiting n k (sym f ∙ e))
    answers w (awaits n f h some most) = is_over (is_answered w some) refl refl

    pub framed : {log : MessageLog} (w : Whole) (bytes : List ℕ) → Phase retries frame m.message log → Outcome log (at_frame m w bytes).told (at_frame m w bytes).message
    framed {log} w bytes p =
        if_both (λ (z : Ending). Outcome log z.told z.message) (answers_message m w.header) _ _ (if_both (λ (z : Ending). Outcome log z.told z.message) _ _ _ (broken p) (answers w p)) (broken p)

  pub if_awaiting_lem : {log : MessageLog} (g : Message) (z : Ending) (s : Stage) → Phase retries frame g log → ((k : ℕ) → s ≡ Awaiting k → Outcome log z.told z.message) → Outcome log (if_awaiting s g z).told (if_awaiting s g z).message
  if_awaiting_lem g z Free p f = continues p
  if_awaiting_lem g z Waiting p f = continues p
  if_awaiting_lem g z (Sending n) p f = continues p
  if_awaiting_lem g z (Awaiting n) p f = f n refl

  pub after_break_lem : {log : MessageLog} (m : Master) (r : Receiver) (event : Event) → m.retries ≡ retries → Phase retries frame m.message log → Took log m (after_break m r event)
  after_break_lem m r event same p = record { same_primary = refl; same_retries = refl; outcome = if_awaiting_lem m.message (at_break m) m.message.stage p (λ k e. broken m same k e p) }

  ending : (s : Stage) → rt1_ends s ≡ true → (n : ℕ) × (s ≡ Awaiting n)
  ending Free e = absurd (true_false (sym e))
  ending Waiting e = absurd (true_false (sym e))
  ending (Sending n) e = absurd (true_false (sym e))
  ending (Awaiting n) e = (n, refl)

  waited_on : {log : MessageLog} (g : Message) → Phase retries frame g log → Phase retries frame (message_at g (waited g.stage)) log
  waited_on g (is_free e) = is_free (ap waited e)
  waited_on g (waits e h n) = waits (ap waited e) h n
  waited_on g (awaits k e h some most) = awaits (k - 1) (ap waited e) h some most
  waited_on g (sending k e below h a n) = sending k (ap waited e) below h a n

  counted : {log : MessageLog} (m : Master) (told : MasterTold) (event : Event) → m.retries ≡ retries → Outcome log told m.message → Took log m (M.counts m told event)
  counted {log} m told event same (continues p) =
      if_cases (Took log m) (rt1_ends m.message.stage) _ _
      (λ q. let a = ending m.message.stage q in record { same_primary = refl; same_retries = refl; outcome = broken m same a.0 a.1 p })
      (λ q. record { same_primary = refl; same_retries = refl; outcome = continues (waited_on m.message p) })
  counted {log} m told event same (is_over r o e) =
      if_cases (Took log m) (rt1_ends m.message.stage) _ _
      (λ q. absurd (true_false (sym q ∙ ap rt1_ends e)))
      (λ q. record { same_primary = refl; same_retries = refl; outcome = is_over r o (ap waited e) })

  counted_behind : {log : MessageLog} {m : Master} {t : MasterTaken} (event : Event) → m.retries ≡ retries → Took log m t → Took log m (M.counts t.master t.told event)
  counted_behind {log} {m} {t} event same a = both a (counted t.master t.told event (a.same_retries ∙ same) a.outcome)

  silent : {log : MessageLog} (m : Master) (r : Receiver) → m.retries ≡ retries → Phase retries frame m.message log → Took log m (M.on_silence m r)
  silent {log} m r same p =
      let here : Took log m (M.tells (M.with_reader m r) MasterTold.Nothing Nothing) = record { same_primary = refl; same_retries = refl; outcome = continues p } in
      if_both (Took log m) (inside_frame m.receiver.place) _ _
      (if_both (Took log m) m.receiver.gap _ _ (counted_behind Broken same (counted_behind Broken same (after_break_lem m r Broken same p))) here)
      (counted_behind Nothing same here)

  character : {log : MessageLog} (m : Master) (r : Receiver) (event : Event) (bytes : List ℕ) → m.retries ≡ retries → Phase retries frame m.message log → Took log m (M.on_character m r event bytes)
  character m r Nothing bytes same p = record { same_primary = refl; same_retries = refl; outcome = continues p }
  character m r PassedOver bytes same p = after_break_lem m r PassedOver same p
  character m r Broken bytes same p = after_break_lem m r Broken same p
  character m r (Frame w) bytes same p = record { same_primary = refl; same_retries = refl; outcome = if_awaiting_lem m.message (at_frame m w bytes) m.message.stage p (λ k e. framed m same k e w bytes p) }
  character m r (Damaged w h) bytes same p = after_break_lem m r (Damaged w h) same p

  pub takes_any : {log : MessageLog} (m : Master) (heard : Heard) (bytes : List ℕ) → m.retries ≡ retries → Phase retries frame m.message log → Took log m (master_takes m heard bytes)
  unfolding master_takes
  takes_any {log} m heard bytes same p = if_both (Took log m) m.deaf _ _ (record { same_primary = refl; same_retries = refl; outcome = continues p }) (hears heard)
    where
      hears : (h : Heard) → Took log m (M.on_heard m h bytes)
      hears Silence = silent m (taken m.receiver Silence).receiver same p
      hears (Character c) = character m _ (taken m.receiver (Character c)).event bytes same p
      hears (Heard.Damaged c kind) = character m _ (taken m.receiver (Heard.Damaged c kind)).event bytes same p

  -- the log behind the report
  pub reported : {log : MessageLog} {told : MasterTold} {g : Message} → Outcome log told g → Reports retries log told × Phase retries frame g (behind_report told log)
  reported {log} {told} {g} (continues p) = (no_report, p)
  reported {log} {told} {g} (is_over r o e) = (r, subst (Phase retries frame g) (sym o) (is_free e))

-- ---- what is sent

module _ (retries : ℕ) (frame : List ℕ) where
  pub record SentIs (m : Master) (log : MessageLog) (s : MasterSent) : Type 0 where
    pub after : MessageLog
    pub sends : Sends retries log s.sent after
    pub phase : Phase retries frame s.master.message after
    pub same_primary : s.master.primary ≡ m.primary
    pub same_retries : s.master.retries ≡ m.retries

  first_sent : (w : List ℕ) (b : Bool) (n : ℕ) → 0 < length w → IsFrame w → n < most_sent retries b → Sends retries (in_hand w b [] n) (Sent.Character (get_or w 0 0)) (in_hand w b (drop 1 w) n)
  first_sent w b n some f most =
      let e = drop-cons w 0 0 some in
      subst (λ (l : List ℕ). Sends retries (in_hand l b [] n) (Sent.Character (get_or w 0 0)) (in_hand l b (drop 1 w) n)) (sym e) (begins (subst IsFrame e f) most)

  next_sent : (w : List ℕ) (b : Bool) (n k : ℕ) → suc k < length w → Sends retries (in_hand w b (drop k w) n) (Sent.Character (get_or w k 0)) (in_hand w b (drop (suc k) w) n)
  next_sent w b n k below =
      let e = drop-cons w k 0 (omega arith) in
      let f = drop-cons w (suc k) 0 below in
      subst (λ (l : List ℕ). Sends retries (in_hand w b l n) (Sent.Character (get_or w k 0)) (in_hand w b (drop (suc k) w) n)) (sym e)
      (subst (λ (l : List ℕ). Sends retries (in_hand w b (get_or w k 0 ∷ l) n) (Sent.Character (get_or w k 0)) (in_hand w b l n)) (sym f) goes_on)

  last_sent : (w : List ℕ) (b : Bool) (n k : ℕ) → suc k ≡ length w → Sends retries (in_hand w b (drop k w) n) (Sent.Character (get_or w k 0)) (in_hand w b [] (n + 1))
  last_sent w b n k last =
      let e = drop-cons w k 0 (omega arith) ∙ ap (λ (l : List ℕ). get_or w k 0 ∷ l) (drop_of_length-le w {i = suc k} (omega arith)) in
      subst (λ (l : List ℕ). Sends retries (in_hand w b l n) (Sent.Character (get_or w k 0)) (in_hand w b [] (n + 1))) (sym e) ends

  module _ (m : Master) (same : m.retries ≡ retries) where
    open_window : {w : List ℕ} {b : Bool} → Held frame m.message.length m.message.header w b → m.message.attempts < most_sent retries b
        → SentIs m (in_hand w b [] m.message.attempts) (sends_at m frame 0 (one_more m.retries m.message.attempts))
    open_window {w} {b} h most =
        let n : ℕ = m.message.attempts in
        let long = h.held.speaks.long in
        let one : one_more m.retries n ≡ n + 1 = if_is_true (n ≤? m.retries) (n + 1) n (le-leb n m.retries (omega (arith, same, most, most_sent_lem retries b))) in
        if_cases (SentIs m (in_hand w b [] n)) (0 + 1 <? m.message.length) _ _
        (λ q. record {
          after = in_hand w b (drop 1 w) n;
          sends = subst (λ (c : ℕ). Sends retries (in_hand w b [] n) (Sent.Character c) (in_hand w b (drop 1 w) n)) (sym (h.held.same 0 (omega (arith, long)))) (first_sent w b n (omega (arith, long)) h.held.speaks.is_frame most);
          phase = sending 1 refl (omega (arith, long)) h one most;
          same_primary = refl;
          same_retries = refl;
        })
        (λ q. absurd (omega (arith, h.held.sized, long, ltb-false (0 + 1) m.message.length q)))

    next_character : {w : List ℕ} {b : Bool} {n : ℕ} (k : ℕ) → k < length w → Held frame m.message.length m.message.header w b → m.message.attempts ≡ n + 1 → n < most_sent retries b
        → SentIs m (in_hand w b (drop k w) n) (sends_at m frame k m.message.attempts)
    next_character {w} {b} {n} k below h count most =
        if_cases (SentIs m (in_hand w b (drop k w) n)) (k + 1 <? m.message.length) _ _
        (λ q.
        let more : suc k < length w = omega (arith, h.held.sized, ltb-true (k + 1) m.message.length q) in
        record {
          after = in_hand w b (drop (suc k) w) n;
          sends = subst (λ (c : ℕ). Sends retries (in_hand w b (drop k w) n) (Sent.Character c) (in_hand w b (drop (suc k) w) n)) (sym (h.held.same k below)) (next_sent w b n k more);
          phase = sending (suc k) (ap Sending (omega arith)) more h count most;
          same_primary = refl;
          same_retries = refl;
        })
        (λ q.
        let last : suc k ≡ length w = omega (arith, h.held.sized, ltb-false (k + 1) m.message.length q) in
        record {
          after = in_hand w b [] m.message.attempts;
          sends = subst (λ (c : ℕ). Sends retries (in_hand w b (drop k w) n) (Sent.Character c) (in_hand w b [] m.message.attempts)) (sym (h.held.same k below))
              (subst (λ (i : ℕ). Sends retries (in_hand w b (drop k w) n) (Sent.Character (get_or w k 0)) (in_hand w b [] i)) (sym count) (last_sent w b n k last));
          phase = awaits (M.own_rt1 m.profile m.primary) refl h (omega (arith, count)) (omega (arith, count));
          same_primary = refl;
          same_retries = refl;
        })

    pub sends_any : {log : MessageLog} → Phase retries frame m.message log → SentIs m log (master_sends m frame)
    unfolding master_sends
    sends_any (is_free e) = subst (λ (z : Stage). SentIs m no_message (sends_by m frame z)) (sym e) (record { after = no_message; sends = has_none; phase = is_free e; same_primary = refl; same_retries = refl })
    sends_any (waits {w} {b} e h n) =
        subst (λ (z : Stage). SentIs m (in_hand w b [] m.message.attempts) (sends_by m frame z)) (sym e)
        (if_both (SentIs m (in_hand w b [] m.message.attempts)) (0 <? m.timer.window) _ _ (open_window h n)
        (record { after = in_hand w b [] m.message.attempts; sends = rests; phase = waits e h n; same_primary = refl; same_retries = refl }))
    sends_any (awaits {w} {b} k e h some most) =
        subst (λ (z : Stage). SentIs m (in_hand w b [] m.message.attempts) (sends_by m frame z)) (sym e)
        (record { after = in_hand w b [] m.message.attempts; sends = rests; phase = awaits k e h some most; same_primary = refl; same_retries = refl })
    sends_any (sending {w} {b} {n} k e below h count most) = subst (λ (z : Stage). SentIs m (in_hand w b (drop k w) n) (sends_by m frame z)) (sym e) (next_character k below h count most)

-- ---- a tick

module _ (limit : ℕ) (primary : Bool) (retries : ℕ) (small : limit ≤ 255) where
  pub record Ticks (call : MasterCall) (log : MessageLog) (step : MasterStep) : Type 0 where
    pub reports : Reports retries log step.told
    pub asked : MessageLog
    pub after : MessageLog
    pub is_asked : Asked primary call step.result (behind_report step.told log) asked
    pub sends : Sends retries asked step.sent after
    pub phase : Phase retries step.side.frame step.side.master.message after
    pub same_primary : step.side.master.primary ≡ primary
    pub same_retries : step.side.master.retries ≡ retries

  pub ticks : (x : MasterSide) (log : MessageLog) (heard : Heard) (call : MasterCall) → x.master.primary ≡ primary → x.master.retries ≡ retries → 284 ≤ length x.frame → Phase retries x.frame x.master.message log → Ticks call log (master_tick limit x heard call)
  unfolding master_tick
  ticks x log heard call bit same room p = go call
    where
      t : MasterTaken
      t = master_takes x.master heard (master_data x heard)

      took : Took retries x.frame log x.master t
      took = takes_any retries x.frame x.master heard (master_data x heard) same p

      now : t.master.retries ≡ retries
      now = took.same_retries ∙ same

      own : t.master.primary ≡ primary
      own = took.same_primary ∙ bit

      told : Reports retries log t.told × Phase retries x.frame t.master.message (behind_report t.told log)
      told = reported retries x.frame took.outcome

      unasked : SentIs retries x.frame t.master (behind_report t.told log) (master_sends t.master x.frame)
      unasked = sends_any retries x.frame t.master now told.1

      by : (q : Request) (put : List ℕ) → Called Master → MasterStep
      by q put c = master_called c t.master (frame_bytes q.preamble (request_header t.master q) put) x.frame (master_data x heard) t.told

      asked : (q : Request) (put : List ℕ) → Asks limit t.master q (length put) → Ticks (requests q put) log (by q put (requested limit t.master q (length put)))
      asked q put (is_refused why e) =
          subst (λ (c : Called Master). Ticks (requests q put) log (by q put c)) (sym e)
          (record { reports = told.0; asked = behind_report t.told log; is_asked = Q.is_refused; after = unasked.after; sends = unasked.sends; phase = unasked.phase; same_primary = unasked.same_primary ∙ own; same_retries = unasked.same_retries ∙ now })
      asked q put (is_taken fits short free e) =
          subst (λ (c : Called Master). Ticks (requests q put) log (by q put c)) (sym e)
          (record {
            reports = told.0;
            asked = in_hand w (is_broadcast h) [] 0;
            is_asked = subst (λ (g : MessageLog). Asked primary (requests q put) CallResult.Taken g (in_hand w (is_broadcast h) [] 0)) (sym (none_in_hand told.1 free))
                (subst (λ (z : Header). Asked primary (requests q put) CallResult.Taken no_message (in_hand (frame_bytes q.preamble z put) (is_broadcast z) [] 0)) (sym header) Q.is_taken);
            after = s.after;
            sends = s.sends;
            phase = s.phase;
            same_primary = s.same_primary ∙ own;
            same_retries = s.same_retries ∙ now;
          })
        where
          h : Header
          h = request_header t.master q

          w : List ℕ
          w = frame_bytes q.preamble h put

          put_in : List ℕ
          put_in = stored x.frame 0 w

          n : Master
          n = with_message t.master (new_message t.master q (length put))

          header : h ≡ stx_header primary q
          header = ap (λ (b : Bool). stx_header b q) own

          some : (b : Bool) → 0 < most_sent retries b
          some true = omega arith
          some false = omega arith

          s : SentIs retries put_in n (in_hand w (is_broadcast h) [] 0) (master_sends n put_in)
          s = sends_any retries put_in n now (waits refl (record { message = whole_message h put; held = holds q.preamble h put x.frame fits room; broadcast_is = refl }) (some (is_broadcast h)))

      go : (call : MasterCall) → Ticks call log (master_calls limit t call x.frame (master_data x heard))
      go no_request = record { reports = told.0; asked = behind_report t.told log; is_asked = asks_nothing; after = unasked.after; sends = unasked.sends; phase = unasked.phase; same_primary = unasked.same_primary ∙ own; same_retries = unasked.same_retries ∙ now }
      go (requests q put) = asked q put (asks limit t.master q (length put) small)

  counts_on : (x : MasterSide) (log : MessageLog) (inputs : List MasterInput) → x.master.primary ≡ primary → x.master.retries ≡ retries → 284 ≤ length x.frame → Phase retries x.frame x.master.message log → Counted limit primary retries log x inputs
  counts_on x log [] bit same room p = no_tick
  counts_on x log (i ∷ is) bit same room p =
      let s = ticks x log i.heard i.call bit same room p in
      tick_and s.asked s.after s.reports s.is_asked s.sends (counts_on (master_tick limit x i.heard i.call).side s.after is s.same_primary s.same_retries (omega (arith, room, frame_room limit x i.heard i.call)) s.phase)

pub attempts_as_said : (limit : ℕ) → limit ≤ 255 → AttemptsAsSaid limit
attempts_as_said limit small p primary retries x inputs s =
    let e = master_is p primary retries x.master s.starts in
    counts_on limit primary retries small x no_message inputs (ap (λ (m : Master). m.primary) e) (ap (λ (m : Master). m.retries) e) s.room (is_free (ap (λ (m : Master). m.message.stage) e))
