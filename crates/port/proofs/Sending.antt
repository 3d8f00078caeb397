-- Theorem: the characters of every attempt are the wake-up and then the STX, or the STX alone, as specs/Sending says.
use Rattle.std.specs.Prelude.{Option, Some, None}
use Prim.Native.Nat.{ℕ, zero, suc, ◌+◌, ◌-◌, ◌≤◌, ◌<◌}
use native.Mathlib.Omega.{arith}
use mathlib.Core.Path.{◌≡◌, refl, sym, ap, subst, ◌∙◌}
use mathlib.Core.Bool.{Bool, true, false}
use mathlib.Core.List.{List, [], ◌∷◌, ◌++◌}
use lib.ListN.{length, drop}
use lib.Seq.{drop-cons}
use borrow.Author.Tests.{ltb-true, lt-ltb, ne_eqb}
use Rattle.base.specs.Choice.{when◌then◌else◌, ◌<?◌, ◌=?◌, ◌outside◌to◌}
use Rattle.base.specs.Refusal.{Called, accepted, refused}
use Rattle.base.specs.Store.{stored}
use Rattle.base.proofs.Choices.{if_is_true, if_is_false}
use Rattle.base.proofs.Stores.{length_stored}
use Rattle.frame.specs.Delimiter.{back}
use Rattle.frame.specs.Frame.{frame_bytes}
use Rattle.frame.proofs.Taken.{Fits}
use Rattle.frame.specs.declared.Header.{Header}
use Rattle.line.specs.Reader.{no_damage}
use Rattle.line.specs.declared.Event.{Event}
use Rattle.line.specs.declared.Event.TheVariants.{Nothing, PassedOver, Broken, Frame, Damaged}
use Rattle.line.specs.declared.Heard.{Heard}
use Rattle.line.proofs.Hearing.{whole_message}
use Rattle.turns.specs.Attempts.{MessageLog, no_message, in_hand, most_sent, Reports, no_report, behind_report, stx_header, Asked, asks_nothing}
use Rattle.turns.specs.Attempts as Q
use Rattle.turns.specs.Link.{MasterCall, no_request, requests}
use Rattle.turns.specs.Master.{at_frame, request_header, master_takes, master_sends}
use Rattle.turns.specs.Master as M
use Rattle.turns.specs.Party.{is_broadcast}
use Rattle.turns.specs.declared.CallResult.{CallResult}
use Rattle.turns.specs.declared.Master.{Master}
use Rattle.turns.specs.declared.MasterSent.{MasterSent}
use Rattle.turns.specs.declared.MasterTaken.{MasterTaken}
use Rattle.turns.specs.declared.MasterTold.{MasterTold}
use Rattle.turns.specs.declared.Sent.{Sent}
use Rattle.turns.specs.declared.Sent.TheVariants.{Silent, Character}
use Rattle.turns.specs.declared.Stage.{Stage}
use Rattle.turns.specs.declared.Stage.TheVariants.{Free, Waiting, Awaiting}
use Rattle.turns.proofs.Attempts as A
use Rattle.turns.proofs.Masters.{if_cases, holds, with_message, new_message}
use Rattle.port.specs.Numbers.{doze_ticks, wake_up_length}
use Rattle.port.specs.Master.{after_port_frame, by_found, begins, wakes_first, wake_up_character, sends_plain, sends_wake_up, port_master_takes, port_master_sends, port_requested, port_master_starts, master_started}
use Rattle.port.specs.Master as P
use Rattle.port.specs.Sending as S
use Rattle.port.specs.Sending.{wake_up_bytes, answer_among, attempt, SentAsSaid, WakeUpsAsSaid}
use Rattle.port.specs.Ticks.{PortMasterSide, PortMasterStep, MasterInput, master_data, with_master, port_master_sent, master_called, master_calls, port_master_tick}
use Rattle.port.specs.declared.PortMaster.{PortMaster}
use Rattle.port.specs.declared.PortMasterSent.{PortMasterSent}
use Rattle.port.specs.declared.PortMasterTaken.{PortMasterTaken}
use Rattle.port.proofs.Since.{Counts, counts_none, counts_next, none_among, one_among}
use Rattle.port.proofs.Taking.{took}
use Rattle.port.proofs.Starts.{Answers, refuses, accepts, answers}

-- ---- what was heard

-- the message goes on or is reported, as with document 01's master
port_took : (retries : ℕ) (frame : List ℕ) {log : MessageLog} (m : Master) (heard : Heard) (bytes : List ℕ) → m.retries ≡ retries → A.Phase retries frame m.message log
    → A.Took retries frame log m (took m heard bytes)
unfolding after_port_frame
port_took retries frame {log} m heard bytes same p = go t.event
  where
    t : MasterTaken
    t = master_takes m heard bytes

    plain : A.Took retries frame log m t
    plain = A.takes_any retries frame m heard bytes same p

    go : (e : Event) → A.Took retries frame log m (by_found m bytes t e)
    go Nothing = plain
    go PassedOver = plain
    go Broken = plain
    go (Frame w) =
        if_cases (A.Took retries frame log m) (w.header.kind =? back) _ _ (λ q. A.after_break_lem retries frame m t.master.receiver (Damaged w no_damage) same p)
        (λ q. record {
          same_primary = refl;
          same_retries = refl;
          outcome = A.if_awaiting_lem retries frame m.message (at_frame m w bytes) m.message.stage p (λ k e. A.framed retries frame m same k e w bytes p);
        })
    go (Damaged w d) = plain

-- ---- what the port's master is between two ticks

data Speaks (retries : ℕ) (frame : List ℕ) (x : PortMaster) : MessageLog → Type 0 where
  plain : {log : MessageLog} → x.wake ≡ None → A.Phase retries frame x.master.message log → Speaks retries frame x log
  -- it sends its wake-up
  waking : {w : List ℕ} {b : Bool} (k : ℕ) → x.wake ≡ Some k → x.master.deaf ≡ true → x.master.message.stage ≡ Waiting → 0 < x.master.timer.window
      → A.Held frame x.master.message.length x.master.message.header w b → x.master.message.attempts < most_sent retries b
      → Speaks retries frame x (in_hand w b (wake_up_bytes k ++ w) x.master.message.attempts)

silent_character : (c : ℕ) → Silent ≡ Character c → ⊥
silent_character c e = let z : ◌≡◌ {A = ℕ} 0 1 = cc in omega arith

-- ---- what is sent

module _ (retries : ℕ) (frame : List ℕ) (found : List Event) where
  record SentIs (y : PortMaster) (log : MessageLog) (s : PortMasterSent) : Type 0 where
    after : MessageLog
    sends : S.Sends retries found log s.sent after
    phase : Speaks retries frame s.master after
    same_primary : s.master.master.primary ≡ y.master.primary
    same_retries : s.master.master.retries ≡ y.master.retries

  -- the next of several characters
  next : (c : ℕ) (w r : List ℕ) (b : Bool) (n : ℕ) → 0 < length r → S.Sends retries found (in_hand w b (c ∷ r) n) (Character c) (in_hand w b r n)
  next c w [] b n some = absurd (omega arith)
  next c w (d ∷ r) b n some = S.goes_on

  -- document 01's sending is the port's, where an attempt that begins is the STX alone
  as_there : {log after : MessageLog} {sent : Sent} → Q.Sends retries log sent after
      → ((w : List ℕ) (b : Bool) (n c : ℕ) → log ≡ in_hand w b [] n → sent ≡ Character c → attempt found w ≡ w) → S.Sends retries found log sent after
  as_there Q.has_none f = S.has_none
  as_there Q.rests f = S.rests
  as_there (Q.begins {c = c} {left = left} {broadcast = b} {n = n} is most) f = S.begins (f (c ∷ left) b n c refl refl) most
  as_there Q.goes_on f = S.goes_on
  as_there Q.ends f = S.ends

  -- behind the wake-up the STX begins
  behind : {w : List ℕ} {b : Bool} {n : ℕ} {after : MessageLog} {sent : Sent} → 1 < length w → Q.Sends retries (in_hand w b [] n) sent after → (c : ℕ) → sent ≡ Character c
      → S.Sends retries found (in_hand w b w n) sent after
  behind long Q.rests c e = absurd (silent_character c e)
  behind long (Q.begins {c = c} {left = left} {broadcast = b} {n = n} is most) k e = next c (c ∷ left) left b n (omega arith)

  module _ (y : PortMaster) (same : y.master.retries ≡ retries) where
    plainly : {log : MessageLog} → A.SentIs retries frame y.master log (master_sends y.master frame)
        → ((w : List ℕ) (b : Bool) (n c : ℕ) → log ≡ in_hand w b [] n → (master_sends y.master frame).sent ≡ Character c → attempt found w ≡ w) → SentIs y log (sends_plain y frame)
    plainly a f = record { after = a.after; sends = as_there a.sends f; phase = plain refl a.phase; same_primary = a.same_primary; same_retries = a.same_retries }

    wake_up_more : (n : ℕ) → wake_up_bytes (suc n) ≡ wake_up_character (suc n) ∷ wake_up_bytes n
    unfolding wake_up_bytes
    wake_up_more n = refl

    open_sends : y.master.message.stage ≡ Waiting → 0 < y.master.timer.window → (c : ℕ) × ((master_sends y.master frame).sent ≡ Character c)
    unfolding master_sends
    open_sends e w =
        let z = ap (M.sends_by y.master frame) e ∙ if_is_true (0 <? y.master.timer.window) _ _ (lt-ltb 0 y.master.timer.window w) in
        let n : ℕ = M.one_more y.master.retries y.master.message.attempts in
        if_cases (λ (s : MasterSent). master_sends y.master frame ≡ s → (c : ℕ) × ((master_sends y.master frame).sent ≡ Character c)) (0 + 1 <? y.master.message.length) _ _
        (λ q i. (_, ap (λ (s : MasterSent). s.sent) i)) (λ q i. (_, ap (λ (s : MasterSent). s.sent) i)) z

    -- its wake-up begins
    wakes_now : {w : List ℕ} {b : Bool} → y.master.message.stage ≡ Waiting → 0 < y.master.timer.window → A.Held frame y.master.message.length y.master.message.header w b
        → y.master.message.attempts < most_sent retries b → answer_among doze_ticks found ≡ false → SentIs y (in_hand w b [] y.master.message.attempts) (sends_wake_up y wake_up_length)
    wakes_now {w} {b} e o h most no_answer = record {
      after = in_hand w b (wake_up_bytes 357 ++ w) y.master.message.attempts;
      sends = S.begins (if_is_false (answer_among doze_ticks found) _ _ no_answer ∙ ap (λ (l : List ℕ). l ++ w) (wake_up_more 357)) most;
      phase = waking 357 refl refl e o h most;
      same_primary = refl;
      same_retries = refl;
    }

    off_sends : {log : MessageLog} → y.wake ≡ None → Counts doze_ticks y.since found → A.Phase retries frame y.master.message log → SentIs y log (port_master_sends y frame)
    unfolding port_master_sends master_sends
    off_sends {log} off count p = subst (λ (w : Option ℕ). SentIs y log (P.sends_by y frame w)) (sym off) (by p)
      where
        there : {log : MessageLog} → A.Phase retries frame y.master.message log → A.SentIs retries frame y.master log (master_sends y.master frame)
        there p = A.sends_any retries frame y.master same p

        -- a master that begins nothing wakes nobody
        bare : {log : MessageLog} → begins y.master y.master.message.stage ≡ false → SentIs y log (sends_plain y frame) → SentIs y log (P.sends_by y frame None)
        bare {log} f s = subst (SentIs y log) (sym (if_is_false (wakes_first y) _ _ (if_is_false (begins y.master y.master.message.stage) _ _ f))) s

        quiet : {log : MessageLog} (z : Stage) → y.master.message.stage ≡ z → (M.sends_by y.master frame z).sent ≡ Silent → A.Phase retries frame y.master.message log → SentIs y log (sends_plain y frame)
        quiet z e s p = plainly (there p) (λ w b n c i j. absurd (silent_character c (sym s ∙ ap (λ (k : Stage). (M.sends_by y.master frame k).sent) (sym e) ∙ j)))

        by : {log : MessageLog} → A.Phase retries frame y.master.message log → SentIs y log (P.sends_by y frame None)
        by (A.is_free e) = bare (ap (begins y.master) e) (quiet Free e refl (A.is_free e))
        by (A.awaits k e h some most) = bare (ap (begins y.master) e) (quiet (Awaiting k) e refl (A.awaits k e h some most))
        by (A.sending {w} {b} {n} k e below h a most) =
            bare (ap (begins y.master) e) (plainly (there (A.sending k e below h a most)) (λ v c m d i j. absurd (never v c m i)))
          where
            left_of : MessageLog → List ℕ
            left_of no_message = []
            left_of (in_hand stx broadcast left sent) = left

            never : (v : List ℕ) (c : Bool) (m : ℕ) → in_hand w b (drop k w) n ≡ in_hand v c [] m → ⊥
            never v c m i = let z : suc (length (drop (suc k) w)) ≡ 0 = ap length (sym (drop-cons w k 0 below) ∙ ap left_of i) in omega arith
        by (A.waits {w} {b} e h most) = window (0 <? y.master.timer.window) refl
          where
            window : (t : Bool) → (0 <? y.master.timer.window) ≡ t → SentIs y (in_hand w b [] y.master.message.attempts) (P.sends_by y frame None)
            window false q = bare (ap (begins y.master) e ∙ q) (quiet Waiting e (ap (λ (s : MasterSent). s.sent) (if_is_false (0 <? y.master.timer.window) _ _ q)) (A.waits e h most))
            window true q =
                let is : wakes_first y ≡ (doze_ticks <? y.since) = if_is_true (begins y.master y.master.message.stage) _ _ (ap (begins y.master) e ∙ q) in
                if_cases (SentIs y (in_hand w b [] y.master.message.attempts)) (wakes_first y) _ _
                (λ f. wakes_now e (ltb-true 0 y.master.timer.window q) h most (none_among doze_ticks y.since found count (sym is ∙ f)))
                (λ f. plainly (there (A.waits e h most)) (λ v c n d i j. if_is_true (answer_among doze_ticks found) _ _ (one_among doze_ticks y.since found count (sym is ∙ f))))

    -- its wake-up goes on, or the STX begins behind it
    waking_sends : {w : List ℕ} {b : Bool} (k : ℕ) → y.wake ≡ Some k → y.master.message.stage ≡ Waiting → 0 < y.master.timer.window
        → A.Held frame y.master.message.length y.master.message.header w b → y.master.message.attempts < most_sent retries b
        → SentIs y (in_hand w b (wake_up_bytes k ++ w) y.master.message.attempts) (port_master_sends y frame)
    unfolding port_master_sends wake_up_bytes when◌then◌else◌
    waking_sends {w} {b} k left e o h most = subst (λ (v : Option ℕ). SentIs y (in_hand w b (wake_up_bytes k ++ w) y.master.message.attempts) (P.sends_by y frame v)) (sym left) (by k)
      where
        long : 1 < length w
        long = omega (arith, h.held.speaks.long)

        rest : (j : ℕ) → 0 < length (wake_up_bytes j ++ w)
        rest zero = omega arith
        rest (suc j) = omega arith

        by : (k : ℕ) → SentIs y (in_hand w b (wake_up_bytes k ++ w) y.master.message.attempts) (P.sends_by y frame (Some k))
        by zero =
            let a = A.sends_any retries frame y.master same (A.waits e h most) in
            let c = open_sends e o in
            record { after = a.after; sends = behind long a.sends c.0 c.1; phase = plain refl a.phase; same_primary = a.same_primary; same_retries = a.same_retries }
        by (suc j) =
            subst (SentIs y (in_hand w b (wake_up_bytes (suc j) ++ w) y.master.message.attempts)) (sym (if_is_false (suc j =? 0) _ _ (ne_eqb (suc j) 0 (λ z. omega arith))))
            (record {
              after = in_hand w b (wake_up_bytes j ++ w) y.master.message.attempts;
              sends = next (wake_up_character (suc j)) w (wake_up_bytes j ++ w) b y.master.message.attempts (rest j);
              phase = waking j (ap Some (one_less j)) refl e o h most;
              same_primary = refl;
              same_retries = refl;
            })
          where
            one_less : (n : ℕ) → suc n - 1 ≡ n
            one_less n = omega arith

    speaks_sends : {log : MessageLog} → Counts doze_ticks y.since found → Speaks retries frame y log → SentIs y log (port_master_sends y frame)
    speaks_sends count (plain off p) = off_sends off count p
    speaks_sends count (waking k left deaf e o h most) = waking_sends k left e o h most

-- ---- a tick

-- sending leaves the count
sends_since : (x : PortMaster) (frame : List ℕ) → (port_master_sends x frame).master.since ≡ x.since
unfolding port_master_sends
sends_since x frame = go x.wake
  where
    go : (w : Option ℕ) → (P.sends_by x frame w).master.since ≡ x.since
    go None = if_cases (λ (s : PortMasterSent). s.master.since ≡ x.since) (wakes_first x) _ _ (λ q. refl) (λ q. refl)
    go (Some n) = if_cases (λ (s : PortMasterSent). s.master.since ≡ x.since) (n =? 0) _ _ (λ q. refl) (λ q. refl)

counts_took : (y : PortMaster) (heard : Heard) (bytes : List ℕ) (past : List Event) → Counts doze_ticks y.since past
    → Counts doze_ticks (port_master_takes y heard bytes).master.since ((port_master_takes y heard bytes).event ∷ past)
unfolding port_master_takes
counts_took y heard bytes past c = counts_next doze_ticks y.since past (took y.master heard bytes).event c

waiting_free : Waiting ≡ Free → ⊥
waiting_free e = let z : ◌≡◌ {A = ℕ} 0 1 = cc in omega arith

none_speaks : {retries : ℕ} {frame : List ℕ} {x : PortMaster} {log : MessageLog} → Speaks retries frame x log → x.master.message.stage ≡ Free → (x.wake ≡ None) × (log ≡ no_message)
none_speaks (plain off p) e = (off, A.none_in_hand p e)
none_speaks (waking k left deaf st o h most) e = absurd (waiting_free (sym st ∙ e))

-- behind what was heard
record Heeds (retries : ℕ) (frame : List ℕ) (log : MessageLog) (m : Master) (t : PortMasterTaken) : Type 0 where
  reports : Reports retries log t.told
  phase : Speaks retries frame t.master (behind_report t.told log)
  same_primary : t.master.master.primary ≡ m.primary
  same_retries : t.master.master.retries ≡ m.retries

heeds : (retries : ℕ) (frame : List ℕ) {log : MessageLog} (x : PortMaster) (heard : Heard) (bytes : List ℕ) → x.master.retries ≡ retries → Speaks retries frame x log
    → Heeds retries frame log x.master (port_master_takes x heard bytes)
unfolding port_master_takes master_takes
heeds retries frame x heard bytes same (plain off p) =
    let a = port_took retries frame x.master heard bytes same p in
    let r = A.reported retries frame a.outcome in
    record { reports = r.0; phase = plain off r.1; same_primary = a.same_primary; same_retries = a.same_retries }
heeds retries frame x heard bytes same (waking {w} {b} k left deaf e o h most) =
    subst (λ (u : MasterTaken). Heeds retries frame log x.master (P.master_took x u)) (sym (deaf_is x.master heard bytes deaf))
    (record { reports = no_report; phase = waking k left deaf e o h most; same_primary = refl; same_retries = refl })
  where
    log : MessageLog
    log = in_hand w b (wake_up_bytes k ++ w) x.master.message.attempts

    deaf_is : (m : Master) (heard : Heard) (bytes : List ℕ) → m.deaf ≡ true → took m heard bytes ≡ M.tells m MasterTold.Nothing Nothing
    deaf_is m heard bytes d = ap (λ (t : MasterTaken). by_found m bytes t t.event) (if_is_true m.deaf _ _ d)

module _ (limit : ℕ) (primary : Bool) (retries : ℕ) (small : limit ≤ 255) where
  record Ticks (call : MasterCall) (log : MessageLog) (past : List Event) (step : PortMasterStep) : Type 0 where
    reports : Reports retries log step.told
    asked : MessageLog
    after : MessageLog
    is_asked : Asked primary call step.result (behind_report step.told log) asked
    sends : S.Sends retries (step.event ∷ past) asked step.sent after
    phase : Speaks retries step.side.frame step.side.master after
    count : Counts doze_ticks step.side.master.since (step.event ∷ past)
    same_primary : step.side.master.master.primary ≡ primary
    same_retries : step.side.master.master.retries ≡ retries
    room : 284 ≤ length step.side.frame

  module _ (heard : Heard) (t : PortMasterTaken) (log : MessageLog) (past : List Event) (frame bytes : List ℕ) (m : Master) (a : Heeds retries frame log m t) (bit : m.primary ≡ primary) (same : m.retries ≡ retries)
      (count : Counts doze_ticks t.master.since (t.event ∷ past)) (room : 284 ≤ length frame) where
    own : t.master.master.primary ≡ primary
    own = a.same_primary ∙ bit

    now : t.master.master.retries ≡ retries
    now = a.same_retries ∙ same

    -- with this master and frame buffer, whatever became of the call
    sent_by : (call : MasterCall) (y : PortMaster) (g : List ℕ) (asked : MessageLog) (result : CallResult) → y.since ≡ t.master.since → y.master.primary ≡ primary → y.master.retries ≡ retries
        → 284 ≤ length g → Asked primary call result (behind_report t.told log) asked → Speaks retries g y asked → Ticks call log past (port_master_sent heard t (port_master_sends y g) g bytes result)
    sent_by call y g asked result e o n r is p =
        let c = subst (λ (k : ℕ). Counts doze_ticks k (t.event ∷ past)) (sym e) count in
        let s = speaks_sends retries g (t.event ∷ past) y n c p in
        record {
          reports = a.reports;
          asked = asked;
          after = s.after;
          is_asked = is;
          sends = s.sends;
          phase = s.phase;
          count = subst (λ (k : ℕ). Counts doze_ticks k (t.event ∷ past)) (sym (sends_since y g)) c;
          same_primary = s.same_primary ∙ o;
          same_retries = s.same_retries ∙ n;
          room = r;
        }

    called : (call : MasterCall) → Ticks call log past (master_calls limit heard t call frame bytes)
    called no_request = sent_by no_request t.master frame (behind_report t.told log) CallResult.Nothing refl own now room asks_nothing a.phase
    called (requests q put) = go (answers limit t.master.master q (length put) small)
      where
        h : Header
        h = request_header t.master.master q

        w : List ℕ
        w = frame_bytes q.preamble h put

        some : (b : Bool) → 0 < most_sent retries b
        some true = omega arith
        some false = omega arith

        new : Fits q.preamble h (length put) → t.master.master.message.stage ≡ Free → Ticks (requests q put) log past (master_called heard t (accepted (with_message t.master.master (new_message t.master.master q (length put)))) w frame bytes)
        new fits free =
            let n = none_speaks a.phase free in
            sent_by (requests q put) (with_master t.master (with_message t.master.master (new_message t.master.master q (length put)))) (stored frame 0 w) (in_hand w (is_broadcast h) [] 0) CallResult.Taken
            refl own now (omega (arith, room, length_stored frame 0 w))
            (subst (λ (g : MessageLog). Asked primary (requests q put) CallResult.Taken g (in_hand w (is_broadcast h) [] 0)) (sym n.1)
            (subst (λ (z : Header). Asked primary (requests q put) CallResult.Taken no_message (in_hand (frame_bytes q.preamble z put) (is_broadcast z) [] 0)) (sym (ap (λ (b : Bool). stx_header b q) own)) Q.is_taken))
            (plain n.0 (A.waits refl (record { message = whole_message h put; held = holds q.preamble h put frame fits room; broadcast_is = refl }) (some (is_broadcast h))))

        go : Answers limit t.master.master q (length put) → Ticks (requests q put) log past (master_called heard t (port_requested limit t.master.master q (length put)) w frame bytes)
        go (refuses why e) =
            subst (λ (c : Called Master). Ticks (requests q put) log past (master_called heard t c w frame bytes)) (sym e)
            (sent_by (requests q put) t.master frame (behind_report t.told log) (CallResult.Refused why) refl own now room Q.is_refused a.phase)
        go (accepts fits free e) = subst (λ (c : Called Master). Ticks (requests q put) log past (master_called heard t c w frame bytes)) (sym e) (new fits free)

  ticks : (x : PortMasterSide) (log : MessageLog) (past : List Event) (heard : Heard) (call : MasterCall) → x.master.master.primary ≡ primary → x.master.master.retries ≡ retries → 284 ≤ length x.frame
      → Counts doze_ticks x.master.since past → Speaks retries x.frame x.master log → Ticks call log past (port_master_tick limit x heard call)
  unfolding port_master_tick
  ticks x log past heard call bit same room count p =
      called heard (port_master_takes x.master heard (master_data x heard)) log past x.frame (master_data x heard) x.master.master (heeds retries x.frame x.master heard (master_data x heard) same p) bit same
      (counts_took x.master heard (master_data x heard) past count) room call

  sent_on : (x : PortMasterSide) (log : MessageLog) (past : List Event) (inputs : List MasterInput) → x.master.master.primary ≡ primary → x.master.master.retries ≡ retries → 284 ≤ length x.frame
      → Counts doze_ticks x.master.since past → Speaks retries x.frame x.master log → SentAsSaid limit primary retries log past x inputs
  sent_on x log past [] bit same room count p = S.no_tick
  sent_on x log past (i ∷ is) bit same room count p =
      let s = ticks x log past i.heard i.call bit same room count p in
      S.tick_and s.asked s.after s.reports s.is_asked s.sends
      (sent_on (port_master_tick limit x i.heard i.call).side s.after _ is s.same_primary s.same_retries s.room s.count s.phase)

-- ---- the start

record Fresh (primary : Bool) (retries : ℕ) (x : PortMaster) : Type 0 where
  primary_is : x.master.primary ≡ primary
  retries_are : x.master.retries ≡ retries
  since_is : x.since ≡ doze_ticks + 1
  off : x.wake ≡ None
  free : x.master.message.stage ≡ Free

fresh : (primary : Bool) (retries : ℕ) (x : PortMaster) → port_master_starts primary retries ≡ accepted x → Fresh primary retries x
fresh primary retries x =
    if_cases (λ (c : Called Master). master_started c ≡ accepted x → Fresh primary retries x) (retries outside 3 to 15) _ _ (λ q e. absurd (not_accepted e))
    (λ q e. subst (Fresh primary retries) (ap got e) (record { primary_is = refl; retries_are = refl; since_is = refl; off = refl; free = refl }))
  where
    not_accepted : refused 2 ≡ accepted x → ⊥
    not_accepted e = let z : ◌≡◌ {A = ℕ} 0 1 = cc in omega arith

    got : Called PortMaster → PortMaster
    got (accepted y) = y
    got (refused why) = x

pub wake_ups_as_said : WakeUpsAsSaid
wake_ups_as_said limit primary retries x inputs small e room =
    let f = fresh primary retries x.master e in
    sent_on limit primary retries small x no_message [] inputs f.primary_is f.retries_are room
    (subst (λ (k : ℕ). Counts doze_ticks k []) (sym f.since_is) (counts_none doze_ticks)) (plain f.off (A.is_free f.free))
