-- What a master is behind what it heard: a silent tick, a character inside a frame, a frame's last character. And a master that is sending.
use Prim.Native.Nat.{ℕ, suc, ◌+◌, ◌-◌, ◌≤◌, ◌<◌}
use native.Mathlib.Omega.{arith}
use native.Mathlib.Numerals.{add-one}
use mathlib.Core.Path.{◌≡◌, refl, sym, ap, subst, ◌∙◌}
use mathlib.Core.Bool.{Bool, true, false}
use mathlib.Core.List.{List}
use mathlib.Core.Logic.{◌⊎◌, inl, inr}
use lib.ListN.{length, get_or}
use borrow.Author.Tests.{ltb-true, ltb-false, leb-true, leb-false}
use Rattle.base.specs.Refusal.{Called}
use Rattle.base.specs.Choice.{when◌then◌else◌, ◌<?◌, ◌≤?◌}
use Rattle.base.proofs.Choices.{true_false, if_is_true, if_is_false}
use Rattle.frame.specs.Frame.{frame_bytes}
use Rattle.line.specs.Reader.{idle, passing, taken}
use Rattle.line.specs.declared.Event.TheVariants.{Nothing, PassedOver, Frame}
use Rattle.line.specs.declared.Heard.{Heard}
use Rattle.line.specs.declared.Heard.TheVariants.{Silence}
use Rattle.line.specs.declared.Receiver.{Receiver}
use Rattle.line.specs.declared.Taken.{Taken}
use Rattle.line.specs.declared.Whole.{Whole}
use Rattle.turns.specs.Party.{is_broadcast}
use Rattle.turns.specs.Master.{Ending, master_with, message_at, fails, ends, at_break, at_frame, after_break, broken, ended_by, if_awaiting, answers_message, waited, rt1_ends, unless_ended, counts, timer_counted, burst_counted, burst_after, noted_after, timer_after, on_character, on_heard, master_takes, timer, own_rt1, attempted, sends_at, sends_by, master_sends, request_header, requested}
use Rattle.turns.specs.Link.{MasterCall, no_request, requests, MasterSide, MasterStep, master_calls, master_called, master_sent, master_tick, master_data}
use Rattle.turns.specs.declared.CallResult.{CallResult}
use Rattle.turns.specs.declared.Sent.TheVariants.{Character}
use Rattle.turns.specs.declared.Stage.{Stage}
use Rattle.turns.specs.declared.Stage.TheVariants.{Free, Waiting, Sending, Awaiting}
use Rattle.turns.specs.declared.Timer.{Timer}
use Rattle.turns.specs.declared.Message.{Message}
use Rattle.turns.specs.declared.Master.{Master}
use Rattle.turns.specs.declared.MasterTold.{MasterTold}
use Rattle.turns.specs.declared.MasterTaken.{MasterTaken}
use Rattle.turns.specs.declared.MasterSent.{MasterSent}
use Rattle.turns.proofs.Masters.{Holds, Formed, no_message, stands, left, free_waiting, awaiting_waiting, Still, is_free, is_waiting, is_awaiting, speaking, spoken_out, Asks, asks, is_refused, is_taken, if_cases}
use Rattle.turns.proofs.Silent.{ready_outside, master_outside}

-- ---- the message behind what was heard: still not sending, and still in its buffer

formed_staged : {primary : Bool} (frame : List ℕ) (g : Message) (s : Stage) → (g.stage ≡ Free → s ≡ Free) → Formed primary frame g → Formed primary frame (message_at g s)
formed_staged frame g s f (no_message e) = no_message (f e)
formed_staged frame g s f (stands w x h a b c u) = stands w x h a b c u

awaiting_free : (n : ℕ) → Awaiting n ≡ Free → ⊥
awaiting_free n e = let z : ◌≡◌ {A = ℕ} 0 1 = cc in omega arith

-- an ending of a message that was awaited
record Ended (primary : Bool) (frame : List ℕ) (retries : ℕ) (g : Message) (e : Ending) : Type 0 where
  still : Still e.message.stage
  formed : Formed primary frame e.message
  gone : left e.message.stage ≡ 0
  same_attempts : e.message.attempts ≡ g.attempts
  same_header : e.message.header ≡ g.header
  -- one that waits again has a retry left
  retried : e.message.stage ≡ Waiting → g.attempts ≤ retries
  over : (e.message.stage ≡ Waiting) ⊎ (e.message.stage ≡ Free)

ends_ended : {primary : Bool} (frame : List ℕ) (retries : ℕ) (g : Message) (told : MasterTold) → Ended primary frame retries g (ends g told)
ends_ended frame retries g told = record { still = is_free; formed = no_message refl; gone = refl; same_attempts = refl; same_header = refl; retried = λ z. absurd (free_waiting z); over = inr refl }

fails_ended : {primary : Bool} (frame : List ℕ) (retries : ℕ) (g : Message) (n : ℕ) → g.stage ≡ Awaiting n → Formed primary frame g → Ended primary frame retries g (fails retries g)
fails_ended {primary} frame retries g n e f =
    if_cases (Ended primary frame retries g) (g.attempts ≤? retries) _ _
    (λ q. record { still = is_waiting; formed = formed_staged frame g Waiting (λ q. absurd (awaiting_free n (sym e ∙ q))) f; gone = refl; same_attempts = refl; same_header = refl; retried = λ z. leb-true g.attempts retries q; over = inl refl })
    (λ q. ends_ended frame retries g _)

either_ended : {primary : Bool} {frame : List ℕ} {retries : ℕ} {g : Message} (t : Bool) (a b : Ending) → Ended primary frame retries g a → Ended primary frame retries g b → Ended primary frame retries g (when t then a else b)
unfolding when◌then◌else◌
either_ended true a b x y = x
either_ended false a b x y = y

break_ended : {primary : Bool} (frame : List ℕ) (m : Master) (n : ℕ) → m.message.stage ≡ Awaiting n → Formed primary frame m.message → Ended primary frame m.retries m.message (at_break m)
break_ended frame m n e f =
    either_ended (is_broadcast m.message.header) _ _ (ends_ended frame m.retries m.message MasterTold.BroadcastSent) (fails_ended frame m.retries m.message n e f)

frame_ended : {primary : Bool} (frame : List ℕ) (m : Master) (w : Whole) (bytes : List ℕ) (n : ℕ) → m.message.stage ≡ Awaiting n → Formed primary frame m.message → Ended primary frame m.retries m.message (at_frame m w bytes)
frame_ended frame m w bytes n e f =
    either_ended (answers_message m w.header) _ _
    (either_ended _ _ _ (break_ended frame m n e f) (ends_ended frame m.retries m.message (MasterTold.Answered w)))
    (break_ended frame m n e f)

-- the message behind a frame: nothing is awaited any more, and one that waits stays
record Behind (primary : Bool) (frame : List ℕ) (g : Message) (e : Ending) : Type 0 where
  still : Still e.message.stage
  formed : Formed primary frame e.message
  gone : left e.message.stage ≡ 0
  waits_on : g.stage ≡ Waiting → (e.message.stage ≡ Waiting) × (e.message.attempts ≡ g.attempts)

if_awaiting_ended : {primary : Bool} (frame : List ℕ) (retries : ℕ) (g : Message) (e : Ending) (s : Stage) → g.stage ≡ s → Still s → Formed primary frame g → ((n : ℕ) → s ≡ Awaiting n → Ended primary frame retries g e) → Behind primary frame g (if_awaiting s g e)
if_awaiting_ended frame retries g e Free q is_free f k = record { still = subst Still (sym q) is_free; formed = f; gone = ap left q; waits_on = λ z. (z, refl) }
if_awaiting_ended frame retries g e Waiting q is_waiting f k = record { still = subst Still (sym q) is_waiting; formed = f; gone = ap left q; waits_on = λ z. (z, refl) }
if_awaiting_ended frame retries g e (Awaiting n) q (is_awaiting j) f k =
    let d = k n refl in
    record { still = d.still; formed = d.formed; gone = d.gone; waits_on = λ z. absurd (awaiting_waiting n (sym q ∙ z)) }
if_awaiting_ended {primary = primary} frame retries g e (Sending _) q x5 f k = elim x5 [ ]

-- ---- what is common to every way of taking

pub record Took (frame : List ℕ) (m t : Master) : Type 0 where
  pub same_primary : t.primary ≡ m.primary
  pub same_profile : t.profile ≡ m.profile
  pub same_retries : t.retries ≡ m.retries
  pub still : Still t.message.stage
  pub formed : Formed t.primary frame t.message

-- a character inside a frame: the timer is stopped
pub record TookMid (frame : List ℕ) (m t : Master) (r : Receiver) : Type 0 where
  pub took : Took frame m t
  pub receiver_is : t.receiver ≡ r
  pub burst_is : t.burst ≡ m.burst
  pub noted_is : t.noted ≡ m.noted
  pub timer_is : t.timer ≡ timer 0
  pub same_message : t.message ≡ m.message

-- a frame's last character: BURST, and the timer behind the frame
pub record TookFrame (frame : List ℕ) (m t : Master) (w : Whole) : Type 0 where
  pub took : Took frame m t
  pub receiver_is : t.receiver ≡ idle
  pub burst_is : t.burst ≡ burst_after m.burst m.noted w.header
  pub noted_is : t.noted ≡ noted_after m.noted w.header
  pub timer_is : t.timer ≡ timer_after m.profile m.primary (ended_by m w.header) (burst_after m.burst m.noted w.header)
  pub gone : left t.message.stage ≡ 0
  pub waits_on : m.message.stage ≡ Waiting → (t.message.stage ≡ Waiting) × (t.message.attempts ≡ m.message.attempts)

-- a silent tick: the count; a window is left unused only by a master that has no message any more
pub record TookSilence (frame : List ℕ) (m t : Master) : Type 0 where
  pub took : Took frame m t
  pub receiver_is : t.receiver ≡ idle
  pub burst_is : t.burst ≡ burst_counted m
  pub noted_is : t.noted ≡ m.noted
  pub next_is : t.timer.next ≡ (timer_counted m).next
  pub quiet_is : t.timer.quiet ≡ (timer_counted m).quiet
  pub window_is : t.timer.window ≤ (timer_counted m).window
  pub one_less : left t.message.stage ≡ left m.message.stage - 1
  pub same_attempts : t.message.attempts ≡ m.message.attempts
  pub same_header : t.message.header ≡ m.message.header
  -- where RT1 ends, a message that waits again has a retry left, and one that is given up leaves the window unused
  pub retried : 1 ≤ left m.message.stage → t.message.stage ≡ Waiting → m.message.attempts ≤ m.retries
  pub free_shut : 1 ≤ left m.message.stage → t.message.stage ≡ Free → t.timer.window ≡ 0
  pub over : 1 ≤ left m.message.stage → left t.message.stage ≡ 0 → (t.message.stage ≡ Waiting) ⊎ (t.message.stage ≡ Free)
  -- a message that waits stays, and its window is used
  pub waits_on : m.message.stage ≡ Waiting → (t.message.stage ≡ Waiting) × (t.timer ≡ timer_counted m)

-- a character that is passed over: behind it the timer runs as behind a break
pub record TookPassed (frame : List ℕ) (m t : Master) : Type 0 where
  pub took : Took frame m t
  pub receiver_is : t.receiver ≡ passing
  pub burst_is : t.burst ≡ m.burst
  pub noted_is : t.noted ≡ m.noted
  pub timer_is : t.timer ≡ timer_after m.profile m.primary broken m.burst
  pub gone : left t.message.stage ≡ 0
  pub waits_on : m.message.stage ≡ Waiting → (t.message.stage ≡ Waiting) × (t.message.attempts ≡ m.message.attempts)

module _ (frame bytes : List ℕ) (m : Master) (hears : m.deaf ≡ false) (still : Still m.message.stage) (formed : Formed m.primary frame m.message) where
  heard_is : (heard : Heard) → master_takes m heard bytes ≡ on_heard m heard bytes
  unfolding master_takes
  heard_is heard = if_is_false m.deaf _ _ hears

  pub takes_mid : (c : ℕ) (r : Receiver) → taken m.receiver (Heard.Character c) ≡ Rattle.line.specs.Reader.tells r Nothing → TookMid frame m (master_takes m (Heard.Character c) bytes).master r
  takes_mid c r e =
      let same : master_takes m (Heard.Character c) bytes ≡ on_character m r Nothing bytes =
      heard_is (Heard.Character c) ∙ ap (λ (t : Taken). on_character m t.receiver t.event bytes) e in
      subst (λ (t : MasterTaken). TookMid frame m t.master r) (sym same)
      (record { took = record { same_primary = refl; same_profile = refl; same_retries = refl; still = still; formed = formed }; receiver_is = refl; burst_is = refl; noted_is = refl; timer_is = refl; same_message = refl })

  pub takes_frame : (c : ℕ) (w : Whole) → taken m.receiver (Heard.Character c) ≡ Rattle.line.specs.Reader.tells idle (Frame w) → TookFrame frame m (master_takes m (Heard.Character c) bytes).master w
  takes_frame c w e =
      let same : master_takes m (Heard.Character c) bytes ≡ on_character m idle (Frame w) bytes =
      heard_is (Heard.Character c) ∙ ap (λ (t : Taken). on_character m t.receiver t.event bytes) e in
      let done : Behind m.primary frame m.message (if_awaiting m.message.stage m.message (at_frame m w bytes)) =
      if_awaiting_ended frame m.retries m.message (at_frame m w bytes) m.message.stage refl still formed (λ n q. frame_ended frame m w bytes n q formed) in
      subst (λ (t : MasterTaken). TookFrame frame m t.master w) (sym same)
      (record { took = record { same_primary = refl; same_profile = refl; same_retries = refl; still = done.still; formed = done.formed }; receiver_is = refl; burst_is = refl; noted_is = refl; timer_is = refl; gone = done.gone; waits_on = done.waits_on })

  pub takes_passed : (c : ℕ) → m.receiver ≡ passing → TookPassed frame m (master_takes m (Heard.Character c) bytes).master
  unfolding taken
  takes_passed c e =
      let at : taken m.receiver (Heard.Character c) ≡ Rattle.line.specs.Reader.tells passing PassedOver = ap (λ (r : Receiver). taken r (Heard.Character c)) e in
      let same : master_takes m (Heard.Character c) bytes ≡ after_break m passing PassedOver =
      heard_is (Heard.Character c) ∙ ap (λ (t : Taken). on_character m t.receiver t.event bytes) at in
      let done : Behind m.primary frame m.message (if_awaiting m.message.stage m.message (at_break m)) =
      if_awaiting_ended frame m.retries m.message (at_break m) m.message.stage refl still formed (λ n q. break_ended frame m n q formed) in
      subst (λ (t : MasterTaken). TookPassed frame m t.master) (sym same)
      (record { took = record { same_primary = refl; same_profile = refl; same_retries = refl; still = done.still; formed = done.formed }; receiver_is = refl; burst_is = refl; noted_is = refl; timer_is = refl; gone = done.gone; waits_on = done.waits_on })

  pub takes_silence : taken m.receiver Silence ≡ Rattle.line.specs.Reader.tells idle Nothing → TookSilence frame m (master_takes m Silence bytes).master
  takes_silence e =
      let n : Master = master_with m idle m.burst m.noted m.timer m.message in
      let same : master_takes m Silence bytes ≡ counts n MasterTold.Nothing Nothing =
      heard_is Silence ∙ master_outside m (ready_outside m.receiver e) in
      subst (λ (t : MasterTaken). TookSilence frame m t.master) (sym same) (go (rt1_ends m.message.stage) refl)
    where
      n : Master
      n = master_with m idle m.burst m.noted m.timer m.message

      keep : (s : Stage) → Still s → Still (waited s)
      keep Free is_free = is_free
      keep Waiting is_waiting = is_waiting
      keep (Awaiting k) (is_awaiting j) = is_awaiting (k - 1)
      keep (Sending _) x'' = elim x'' [ ]

      free_waited : (s : Stage) → s ≡ Free → waited s ≡ Free
      free_waited s q = ap waited q

      not_ending : (s : Stage) → rt1_ends s ≡ true → Still s → (k : ℕ) × (s ≡ Awaiting k)
      not_ending Free q is_free = absurd (true_false (sym q))
      not_ending Waiting q is_waiting = absurd (true_false (sym q))
      not_ending (Awaiting k) q (is_awaiting j) = (k, refl)
      not_ending (Sending _) q x3 = elim x3 [ ]

      over_now : (s : Stage) → rt1_ends s ≡ true → 0 ≡ left s - 1
      over_now Free q = refl
      over_now Waiting q = refl
      over_now (Sending k) q = refl
      over_now (Awaiting k) q = omega (arith, leb-true k 1 q)

      counted_one : (s : Stage) → left (waited s) ≡ left s - 1
      counted_one Free = refl
      counted_one Waiting = refl
      counted_one (Sending k) = refl
      counted_one (Awaiting k) = refl

      more_left : (s : Stage) → rt1_ends s ≡ false → 1 ≤ left s → left (waited s) ≡ 0 → ⊥
      more_left Free q z f = omega arith
      more_left Waiting q z f = omega arith
      more_left (Sending k) q z f = omega arith
      more_left (Awaiting k) q z f = omega (arith, leb-false k 1 q)

      still_awaits : (s : Stage) → 1 ≤ left s → ((k : ℕ) → waited s ≡ Awaiting k → ⊥) → ⊥
      still_awaits Free z f = omega arith
      still_awaits Waiting z f = omega arith
      still_awaits (Sending k) z f = omega arith
      still_awaits (Awaiting k) z f = f (k - 1) refl

      lost_next : (s : Stage) (t : Timer) → (unless_ended s t).next ≡ t.next
      lost_next Free t = refl
      lost_next Waiting t = refl
      lost_next (Sending k) t = refl
      lost_next (Awaiting k) t = refl

      lost_quiet : (s : Stage) (t : Timer) → (unless_ended s t).quiet ≡ t.quiet
      lost_quiet Free t = refl
      lost_quiet Waiting t = refl
      lost_quiet (Sending k) t = refl
      lost_quiet (Awaiting k) t = refl

      lost_window : (s : Stage) (t : Timer) → (unless_ended s t).window ≤ t.window
      lost_window Free t = omega arith
      lost_window Waiting t = omega arith
      lost_window (Sending k) t = omega arith
      lost_window (Awaiting k) t = omega arith

      go : (b : Bool) → rt1_ends m.message.stage ≡ b → TookSilence frame m (counts n MasterTold.Nothing Nothing).master
      go true q =
          let waits = not_ending m.message.stage q still in
          let done : Ended m.primary frame m.retries m.message (at_break n) = break_ended frame n waits.0 waits.1 formed in
          let over : counts n MasterTold.Nothing Nothing ≡ Rattle.turns.specs.Master.tells (master_with n idle (burst_counted n) n.noted (unless_ended (at_break n).message.stage (timer_counted n)) (at_break n).message) (at_break n).told Nothing =
          if_is_true (rt1_ends m.message.stage) _ _ q in
          subst (λ (t : MasterTaken). TookSilence frame m t.master) (sym over)
          (record {
            took = record { same_primary = refl; same_profile = refl; same_retries = refl; still = done.still; formed = done.formed };
            receiver_is = refl;
            burst_is = refl;
            noted_is = refl;
            next_is = lost_next (at_break n).message.stage (timer_counted n);
            quiet_is = lost_quiet (at_break n).message.stage (timer_counted n);
            window_is = lost_window (at_break n).message.stage (timer_counted n);
            one_less = done.gone ∙ over_now m.message.stage q;
            same_attempts = done.same_attempts;
            same_header = done.same_header;
            retried = λ z w. done.retried w;
            free_shut = λ z f. ap (λ (s : Stage). (unless_ended s (timer_counted n)).window) f;
            over = λ z f. done.over;
            waits_on = λ z. absurd (awaiting_waiting waits.0 (sym waits.1 ∙ z));
          })
      go false q =
          let on : counts n MasterTold.Nothing Nothing ≡ Rattle.turns.specs.Master.tells (master_with n idle (burst_counted n) n.noted (timer_counted n) (message_at n.message (waited n.message.stage))) MasterTold.Nothing Nothing =
          if_is_false (rt1_ends m.message.stage) _ _ q in
          subst (λ (t : MasterTaken). TookSilence frame m t.master) (sym on)
          (record {
            took = record {
              same_primary = refl;
              same_profile = refl;
              same_retries = refl;
              still = keep m.message.stage still;
              formed = formed_staged frame m.message (waited m.message.stage) (free_waited m.message.stage) formed;
            };
            receiver_is = refl;
            burst_is = refl;
            noted_is = refl;
            next_is = refl;
            quiet_is = refl;
            window_is = omega arith;
            one_less = counted_one m.message.stage;
            same_attempts = refl;
            same_header = refl;
            retried = λ z w. absurd (still_awaits m.message.stage z (λ k e. awaiting_waiting k (sym e ∙ w)));
            free_shut = λ z w. absurd (still_awaits m.message.stage z (λ k e. awaiting_free k (sym e ∙ w)));
            over = λ z f. absurd (more_left m.message.stage q z f);
            waits_on = λ z. (ap waited z, refl);
          })

-- ---- a master that hears nothing: it is fresh, or sent in the tick before

pub takes_nothing : (m : Master) (heard : Heard) (bytes : List ℕ) → m.deaf ≡ true → master_takes m heard bytes ≡ Rattle.turns.specs.Master.tells m MasterTold.Nothing Nothing
unfolding master_takes
takes_nothing m heard bytes e = if_is_true m.deaf _ _ e

-- a master in the middle of its STX, behind n characters: it sends the next one, whatever its host asks
pub data Speaks (m : Master) (n : ℕ) (w : List ℕ) (step : MasterStep) : Type 0 where
  goes_on : (g : Message) → suc n < length w → step.side.master ≡ speaking m g → g.stage ≡ Sending (suc n) → g.header ≡ m.message.header → g.length ≡ m.message.length → g.attempts ≡ m.message.attempts → Speaks m n w step
  is_out : (g : Message) → suc n ≡ length w → step.side.master ≡ spoken_out m g → g.stage ≡ Awaiting (own_rt1 m.profile m.primary) → g.header ≡ m.message.header → g.length ≡ m.message.length → g.attempts ≡ m.message.attempts → Speaks m n w step

pub record SpeaksAt (x : MasterSide) (n : ℕ) (w : List ℕ) (step : MasterStep) : Type 0 where
  pub speaks : Speaks x.master n w step
  pub character : step.sent ≡ Character (get_or w n 0)
  pub same_frame : step.side.frame ≡ x.frame

pub master_speaks : (limit : ℕ) (x : MasterSide) (heard : Heard) (call : MasterCall) (n : ℕ) (w : List ℕ) (message : Whole) → limit ≤ 255 → x.master.deaf ≡ true
    → x.master.message.stage ≡ Sending n → Holds x.frame x.master.message.length w message → n < length w → SpeaksAt x n w (master_tick limit x heard call)
unfolding master_tick master_sends
master_speaks limit x heard call n w message small deaf e h below =
    subst (λ (t : MasterTaken). SpeaksAt x n w (master_calls limit t call x.frame (master_data x heard))) (sym (takes_nothing x.master heard (master_data x heard) deaf)) (by_call call)
  where
    m : Master
    m = x.master

    sending_free : Sending n ≡ Free → ⊥
    sending_free q = let z : ◌≡◌ {A = ℕ} 0 1 = cc in omega arith

    sent : (result : CallResult) (bytes : List ℕ) → SpeaksAt x n w (master_sent (master_sends m x.frame) x.frame bytes MasterTold.Nothing result)
    sent result bytes = subst (λ (s : MasterSent). SpeaksAt x n w (master_sent s x.frame bytes MasterTold.Nothing result)) (sym at) (go (n + 1 <? m.message.length) refl)
      where
        at : master_sends m x.frame ≡ sends_at m x.frame n m.message.attempts
        at = ap (sends_by m x.frame) e

        S : MasterSent → MasterStep
        S s = master_sent s x.frame bytes MasterTold.Nothing result

        go : (t : Bool) → (n + 1 <? m.message.length) ≡ t → SpeaksAt x n w (S (sends_at m x.frame n m.message.attempts))
        go true q =
            let inside : n + 1 < m.message.length = ltb-true (n + 1) m.message.length q in
            subst (λ (s : MasterSent). SpeaksAt x n w (S s)) (sym (if_is_true (n + 1 <? m.message.length) _ _ q))
            (record {
              speaks = goes_on (attempted m.message (Sending (n + 1)) m.message.attempts) (omega (arith, h.sized)) refl (ap Sending (add-one n)) refl refl refl;
              character = ap Character (h.same n below);
              same_frame = refl;
            })
        go false q =
            let last : m.message.length ≤ n + 1 = ltb-false (n + 1) m.message.length q in
            subst (λ (s : MasterSent). SpeaksAt x n w (S s)) (sym (if_is_false (n + 1 <? m.message.length) _ _ q))
            (record {
              speaks = is_out (attempted m.message (Awaiting (own_rt1 m.profile m.primary)) m.message.attempts) (omega (arith, h.sized)) refl refl refl refl refl;
              character = ap Character (h.same n below);
              same_frame = refl;
            })

    by_call : (call : MasterCall) → SpeaksAt x n w (master_calls limit (Rattle.turns.specs.Master.tells m MasterTold.Nothing Nothing) call x.frame (master_data x heard))
    by_call no_request = sent CallResult.Nothing (master_data x heard)
    by_call (requests q put) = go (asks limit m q (length put) small)
      where
        go : Asks limit m q (length put) → SpeaksAt x n w (master_called (requested limit m q (length put)) m (frame_bytes q.preamble (request_header m q) put) x.frame (master_data x heard) MasterTold.Nothing)
        go (is_refused why p) = subst (λ (c : Called Master). SpeaksAt x n w (master_called c m (frame_bytes q.preamble (request_header m q) put) x.frame (master_data x heard) MasterTold.Nothing)) (sym p) (sent (CallResult.Refused why) (master_data x heard))
        go (is_taken fits few f p) = absurd (sending_free (sym e ∙ f))
