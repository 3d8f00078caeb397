-- Theorem: a waiting message starts in time (specs/Starts). The number that falls is the silent ticks to the timer's end.
use Rattle.std.specs.Prelude.{Option, Some, None}
use Prim.Native.Nat.{ℕ, suc, ◌+◌, ◌-◌, ◌≤◌, ◌<◌}
use native.Mathlib.Omega.{arith}
use mathlib.Core.Path.{◌≡◌, refl, sym, ap, subst, ◌∙◌}
use mathlib.Core.Bool.{Bool, true, false}
use mathlib.Core.List.{List, [], ◌∷◌}
use lib.ListN.{length}
use borrow.Author.Tests.{ltb-true, ltb-false, lt-ltb}
use Rattle.base.specs.Choice.{◌<?◌, ◌=?◌, ◌outside◌to◌}
use Rattle.base.specs.Refusal.{Called, accepted, refused}
use Rattle.base.specs.Store.{stored}
use Rattle.base.proofs.Choices.{if_is_true, if_is_false}
use Rattle.frame.specs.Address.{byte_at}
use Rattle.frame.specs.Frame.{frame_bytes}
use Rattle.frame.proofs.Taken.{Fits}
use Rattle.line.specs.Gaps.{IsCharacter, is_sound, is_with_damage}
use Rattle.line.specs.Reader.{inside_frame}
use Rattle.line.specs.declared.Heard.{Heard}
use Rattle.line.specs.declared.Heard.TheVariants.{Silence, Character}
use Rattle.line.specs.declared.Profile.{Profile}
use Rattle.turns.specs.Master.{own_rt1, any_stx, timer_after, sends, sends_at, master_sends, request_header}
use Rattle.turns.specs.Master as M
use Rattle.turns.specs.Link.{MasterCall, no_request, requests}
use Rattle.turns.specs.declared.CallResult.{CallResult}
use Rattle.turns.specs.declared.Master.{Master}
use Rattle.turns.specs.declared.MasterSent.{MasterSent}
use Rattle.turns.specs.declared.Message.{Message}
use Rattle.turns.specs.declared.Request.{Request}
use Rattle.turns.specs.declared.Sent.{Sent}
use Rattle.turns.specs.declared.Sent.TheVariants.{Silent}
use Rattle.turns.specs.declared.Stage.{Stage}
use Rattle.turns.specs.declared.Stage.TheVariants.{Free, Waiting, Sending, Awaiting}
use Rattle.turns.specs.declared.Timer.{Timer}
use Rattle.turns.proofs.Masters.{Still, is_free, is_waiting, is_awaiting, if_cases, Asks, asks, is_refused, is_taken, with_message, new_message, free_waiting, awaiting_waiting}
use Rattle.port.specs.Numbers.{port_preamble, wake_up_length}
use Rattle.port.specs.Master.{begins, wakes_first, sends_wake_up, sends_plain, port_master_takes, port_requested, port_master_sends, port_master_starts, master_started, wake_up_character}
use Rattle.port.specs.Master as P
use Rattle.port.specs.Ticks.{PortMasterSide, PortMasterStep, MasterInput, master_data, with_master, master_called, master_calls, port_master_tick, port_master_run}
use Rattle.port.specs.Starts.{rt1, StartsWithin, starts, last, waits, anew, IsWaiting, EachStarts, no_more, and, StartsInTime}
use Rattle.port.specs.declared.PortMaster.{PortMaster}
use Rattle.port.specs.declared.PortMasterTaken.{PortMasterTaken}
use Rattle.port.specs.declared.PortMasterSent.{PortMasterSent}
use Rattle.port.proofs.Taking.{own_is, Calm, Ends, runs, is_inside, passed, Stays, Quieter, opens, goes_on, took, deaf_takes, silent_stays, silent_quieter, heard_stays, heard_ends}

-- ---- what the port's master is between two ticks

pub data Phase (x : PortMaster) : Type 0 where
  -- it is not sending
  listens : Calm x.master → x.wake ≡ None → Still x.master.message.stage → Ends rt1 x.master → Phase x
  -- it sends its STX
  speaks : (n : ℕ) → Calm x.master → x.wake ≡ None → x.master.deaf ≡ true → x.master.message.stage ≡ Sending n → Phase x
  -- it sends its wake-up: the message waits in an open window
  wakes : (n : ℕ) → Calm x.master → x.wake ≡ Some n → x.master.deaf ≡ true → x.master.message.stage ≡ Waiting → 0 < x.master.timer.window → Phase x

ends_later : {d e : ℕ} {m : Master} → d ≤ e → Ends d m → Ends e m
ends_later h (runs o low high) = runs o low (omega arith)
ends_later h (is_inside i g k) = is_inside i g (omega arith)
ends_later h (passed i g k) = passed i g (omega arith)

-- ---- send

-- a master that has sent nothing
abbrev rested : Master → Master
rested m = (sends m false m.timer m.message m.receiver Silent).master

-- a character was sent
record Spoke (s : PortMasterSent) : Type 0 where
  c : ℕ
  sent_is : s.sent ≡ Sent.Character c
  phase : Phase s.master
  -- no message waits behind it that has not begun
  begun_it : s.master.master.message.stage ≡ Waiting → s.master.wake ≡ None → ⊥

-- what comes of sending: nothing is sent, and then no message waits in an open window; or a character
data Sends (x : PortMaster) (s : PortMasterSent) : Type 0 where
  silent : s.sent ≡ Silent → s.master.master ≡ rested x.master → s.master.wake ≡ None → (x.master.message.stage ≡ Waiting → x.master.timer.window ≡ 0) → Sends x s
  speaks_out : Spoke s → Sends x s

-- a character of the STX
stx_phase : (x : PortMaster) (frame : List ℕ) (n attempts : ℕ) → Calm x.master
    → Phase (record { master = (sends_at x.master frame n attempts).master; since = x.since; wake = None })
stx_phase x frame n attempts c =
    if_cases (λ (s : MasterSent). Phase (record { master = s.master; since = x.since; wake = None })) (n + 1 <? x.master.message.length) _ _
    (λ q. speaks (n + 1) (record { profile_is = c.profile_is; no_burst = c.no_burst }) refl refl refl)
    (λ q. listens (record { profile_is = c.profile_is; no_burst = c.no_burst }) refl (is_awaiting _) (runs refl (omega (arith, next)) (omega (arith, next))))
  where
    next : (timer_after x.master.profile x.master.primary any_stx x.master.burst).next ≡ rt1
    next =
        ap (λ (b : Bool). (timer_after x.master.profile x.master.primary any_stx b).next) c.no_burst
        ∙ ap (λ (p : Profile). own_rt1 p x.master.primary) c.profile_is ∙ own_is x.master.primary

sending_waiting : (n : ℕ) → Sending n ≡ Waiting → ⊥
sending_waiting n e = let z : ◌≡◌ {A = ℕ} 0 1 = cc in omega arith

left_off : (n : ℕ) → Some n ≡ None → ⊥
left_off n e = let z : ◌≡◌ {A = ℕ} 0 1 = cc in omega arith

stx_begun : (m : Master) (frame : List ℕ) (n attempts : ℕ) → (sends_at m frame n attempts).master.message.stage ≡ Waiting → ⊥
stx_begun m frame n attempts =
    if_cases (λ (s : MasterSent). s.master.message.stage ≡ Waiting → ⊥) (n + 1 <? m.message.length) _ _ (λ q. sending_waiting (n + 1)) (λ q. awaiting_waiting _)

stx_sends : (m : Master) (frame : List ℕ) (n attempts : ℕ) → (sends_at m frame n attempts).sent ≡ Sent.Character (byte_at frame n)
stx_sends m frame n attempts = if_cases (λ (s : MasterSent). s.sent ≡ Sent.Character (byte_at frame n)) (n + 1 <? m.message.length) _ _ (λ q. refl) (λ q. refl)

module _ (x : PortMaster) (frame : List ℕ) (c : Calm x.master) where
  -- document 01's master begins its STX
  plain_begins : x.master.message.stage ≡ Waiting → 0 < x.master.timer.window → Spoke (sends_plain x frame)
  unfolding master_sends
  plain_begins e w =
      subst (λ (s : MasterSent). Spoke (record { master = record { master = s.master; since = x.since; wake = None }; sent = s.sent }))
      (sym (ap (M.sends_by x.master frame) e ∙ if_is_true (0 <? x.master.timer.window) _ _ (lt-ltb 0 x.master.timer.window w)))
      (record { c = byte_at frame 0; sent_is = stx_sends x.master frame 0 _; phase = stx_phase x frame 0 _ c; begun_it = λ w o. stx_begun x.master frame 0 _ w })

  plain_goes : (n : ℕ) → x.master.message.stage ≡ Sending n → Spoke (sends_plain x frame)
  unfolding master_sends
  plain_goes n e =
      subst (λ (s : MasterSent). Spoke (record { master = record { master = s.master; since = x.since; wake = None }; sent = s.sent }))
      (sym (ap (M.sends_by x.master frame) e))
      (record { c = byte_at frame n; sent_is = stx_sends x.master frame n _; phase = stx_phase x frame n _ c; begun_it = λ w o. stx_begun x.master frame n _ w })

  plain_rests : (s : Stage) → x.master.message.stage ≡ s → M.sends_by x.master frame s ≡ sends x.master false x.master.timer x.master.message x.master.receiver Silent
      → (x.master.message.stage ≡ Waiting → x.master.timer.window ≡ 0) → Sends x (sends_plain x frame)
  unfolding master_sends
  plain_rests s e f shut =
      subst (λ (s : MasterSent). Sends x (record { master = record { master = s.master; since = x.since; wake = None }; sent = s.sent }))
      (sym (ap (M.sends_by x.master frame) e ∙ f))
      (silent refl refl refl shut)

  wake_up_sends : (n : ℕ) → x.master.message.stage ≡ Waiting → 0 < x.master.timer.window → Spoke (sends_wake_up x n)
  wake_up_sends n e w = record { c = wake_up_character n; sent_is = refl; phase = wakes (n - 1) (record { profile_is = c.profile_is; no_burst = c.no_burst }) refl refl e w; begun_it = λ z o. left_off (n - 1) o }

  -- no wake-up is being sent
  off_sends : x.wake ≡ None → Still x.master.message.stage → Sends x (port_master_sends x frame)
  unfolding port_master_sends
  off_sends off v = subst (λ (w : Option ℕ). Sends x (P.sends_by x frame w)) (sym off) (go x.master.message.stage refl v)
    where
      -- a master that begins nothing wakes nobody
      plainly : begins x.master x.master.message.stage ≡ false → Sends x (sends_plain x frame) → Sends x (P.sends_by x frame None)
      plainly f s = subst (Sends x) (sym (if_is_false (wakes_first x) _ _ (if_is_false (begins x.master x.master.message.stage) _ _ f))) s

      by_recent : x.master.message.stage ≡ Waiting → 0 < x.master.timer.window → Sends x (P.sends_by x frame None)
      by_recent e w = if_cases (Sends x) (wakes_first x) _ _ (λ q. speaks_out (wake_up_sends wake_up_length e w)) (λ q. speaks_out (plain_begins e w))

      open_or_shut : x.master.message.stage ≡ Waiting → (t : Bool) → (0 <? x.master.timer.window) ≡ t → Sends x (P.sends_by x frame None)
      open_or_shut e true q = by_recent e (ltb-true 0 x.master.timer.window q)
      open_or_shut e false q =
          plainly (ap (begins x.master) e ∙ q)
          (plain_rests Waiting e (if_is_false (0 <? x.master.timer.window) _ _ q) (λ z. omega (arith, ltb-false 0 x.master.timer.window q)))

      go : (s : Stage) → x.master.message.stage ≡ s → Still s → Sends x (P.sends_by x frame None)
      go Free e is_free = plainly (ap (begins x.master) e) (plain_rests Free e refl (λ z. absurd (free_waiting (sym e ∙ z))))
      go Waiting e is_waiting = open_or_shut e (0 <? x.master.timer.window) refl
      go (Awaiting n) e (is_awaiting k) = plainly (ap (begins x.master) e) (plain_rests (Awaiting n) e refl (λ z. absurd (awaiting_waiting n (sym e ∙ z))))
      go (Sending _) e x4 = elim x4 [ ]

  -- its STX is being sent
  speaking_sends : (n : ℕ) → x.wake ≡ None → x.master.message.stage ≡ Sending n → Spoke (port_master_sends x frame)
  unfolding port_master_sends
  speaking_sends n off e =
      subst (λ (w : Option ℕ). Spoke (P.sends_by x frame w)) (sym off)
      (subst Spoke (sym (if_is_false (wakes_first x) _ _ (if_is_false (begins x.master x.master.message.stage) _ _ (ap (begins x.master) e)))) (plain_goes n e))

  -- its wake-up is
  waking_sends : (n : ℕ) → x.wake ≡ Some n → x.master.message.stage ≡ Waiting → 0 < x.master.timer.window → Spoke (port_master_sends x frame)
  unfolding port_master_sends
  waking_sends n left e w =
      subst (λ (w : Option ℕ). Spoke (P.sends_by x frame w)) (sym left)
      (if_cases Spoke (n =? 0) _ _ (λ q. plain_begins e w) (λ q. wake_up_sends n e w))

-- ---- the host's request

-- a request is refused, or it is the message of a master that had none
pub data Answers (limit : ℕ) (m : Master) (q : Request) (count : ℕ) : Type 0 where
  refuses : (why : ℕ) → port_requested limit m q count ≡ refused why → Answers limit m q count
  accepts : Fits q.preamble (request_header m q) count → m.message.stage ≡ Free → port_requested limit m q count ≡ accepted (with_message m (new_message m q count)) → Answers limit m q count

pub answers : (limit : ℕ) (m : Master) (q : Request) (count : ℕ) → limit ≤ 255 → Answers limit m q count
unfolding port_requested
answers limit m q count small = go (q.preamble =? port_preamble) refl (asks limit m q count small)
  where
    go : (t : Bool) → (q.preamble =? port_preamble) ≡ t → Asks limit m q count → Answers limit m q count
    go false e a = refuses _ (if_is_false (q.preamble =? port_preamble) _ _ e)
    go true e (is_refused why r) = refuses why (if_is_true (q.preamble =? port_preamble) _ _ e ∙ r)
    go true e (is_taken fits few free r) = accepts fits free (if_is_true (q.preamble =? port_preamble) _ _ e ∙ r)

-- ---- the tick behind what was heard

-- no message was taken, or a new one waits
data Goes (t : PortMasterTaken) (s : PortMasterStep) : Type 0 where
  as_before : (frame : List ℕ) → s.side.master ≡ (port_master_sends t.master frame).master → s.sent ≡ (port_master_sends t.master frame).sent → (s.result ≡ CallResult.Taken → ⊥) → Goes t s
  new_message_lem : (frame : List ℕ) (g : Message) → t.master.master.message.stage ≡ Free → g.stage ≡ Waiting
      → s.side.master ≡ (port_master_sends (with_master t.master (with_message t.master.master g)) frame).master
      → s.sent ≡ (port_master_sends (with_master t.master (with_message t.master.master g)) frame).sent → Goes t s

goes : (limit : ℕ) (heard : Heard) (t : PortMasterTaken) (call : MasterCall) (frame bytes : List ℕ) → limit ≤ 255 → Goes t (master_calls limit heard t call frame bytes)
goes limit heard t no_request frame bytes small = as_before frame refl refl (λ e. let z : ◌≡◌ {A = ℕ} 0 1 = cc in omega arith)
goes limit heard t (requests q put) frame bytes small = go (answers limit t.master.master q (length put) small)
  where
    w : List ℕ
    w = frame_bytes q.preamble (request_header t.master.master q) put

    by : Called Master → PortMasterStep
    by c = master_called heard t c w frame bytes

    go : Answers limit t.master.master q (length put) → Goes t (by (port_requested limit t.master.master q (length put)))
    go (refuses why e) = subst (λ (c : Called Master). Goes t (by c)) (sym e) (as_before frame refl refl (λ e. let z : ◌≡◌ {A = ℕ} 0 1 = cc in omega arith))
    go (accepts fits free e) = subst (λ (c : Called Master). Goes t (by c)) (sym e) (new_message_lem (stored frame 0 w) (new_message t.master.master q (length put)) free refl refl refl)

-- what was heard stands in the step
heard_is : (limit : ℕ) (x : PortMasterSide) (heard : Heard) (call : MasterCall) → (port_master_tick limit x heard call).heard ≡ heard
unfolding port_master_tick
heard_is limit x heard no_request = refl
heard_is limit x heard (requests q put) = go (port_requested limit t.master.master q (length put))
  where
    t : PortMasterTaken
    t = port_master_takes x.master heard (master_data x heard)

    go : (c : Called Master) → (master_called heard t c (frame_bytes q.preamble (request_header t.master.master q) put) x.frame (master_data x heard)).heard ≡ heard
    go (accepted m) = refl
    go (refused why) = refl

-- ---- a tick

-- not sending, behind what was heard
record Listening (d : ℕ) (y : PortMaster) : Type 0 where
  calm : Calm y.master
  off : y.wake ≡ None
  still : Still y.master.message.stage
  ends : Ends d y.master

-- the timer's end depends on timer and reader alone
ends_same : {d : ℕ} (m n : Master) → n.receiver ≡ m.receiver → n.timer ≡ m.timer → Ends d m → Ends d n
ends_same m n r t (runs o low high) = runs (ap (λ z. inside_frame z.place) r ∙ o) (omega (arith, ap (λ (z : Timer). z.next) t)) (omega (arith, ap (λ (z : Timer). z.next) t))
ends_same m n r t (is_inside i g k) = is_inside (ap (λ z. inside_frame z.place) r ∙ i) (ap (λ z. z.gap) r ∙ g) k
ends_same m n r t (passed i g k) = passed (ap (λ z. inside_frame z.place) r ∙ i) (ap (λ z. z.gap) r ∙ g) k

sending_free : (n : ℕ) → Sending n ≡ Free → ⊥
sending_free n e = let z : ◌≡◌ {A = ℕ} 0 1 = cc in omega arith

-- a message that waits, with a timer that ends within d silent ticks
pub record Waits (d : ℕ) (x : PortMaster) : Type 0 where
  pub calm : Calm x.master
  pub off : x.wake ≡ None
  pub hears : x.master.deaf ≡ false
  pub waiting : x.master.message.stage ≡ Waiting
  pub ends : Ends d x.master

sent_phase : (y : PortMaster) (s : PortMasterSent) → Listening rt1 y → Sends y s → Phase s.master
sent_phase y s l (silent e r off shut) =
    listens (record { profile_is = ap (λ (m : Master). m.profile) r ∙ l.calm.profile_is; no_burst = ap (λ (m : Master). m.burst) r ∙ l.calm.no_burst }) off
    (subst Still (sym (ap (λ (m : Master). m.message.stage) r)) l.still)
    (ends_same y.master s.master.master (ap (λ (m : Master). m.receiver) r) (ap (λ (m : Master). m.timer) r) l.ends)
sent_phase y s l (speaks_out p) = p.phase

-- a message that waits is begun, or waits on
data Begun (d : ℕ) (s : PortMasterSent) : Type 0 where
  begun : (c : ℕ) → s.sent ≡ Sent.Character c → Begun d s
  not_yet : s.sent ≡ Silent → Waits d s.master → Begun d s

sent_waits : (d : ℕ) (y : PortMaster) (s : PortMasterSent) → Listening d y → y.master.message.stage ≡ Waiting → Sends y s → Begun d s
sent_waits d y s l w (silent e r off shut) =
    not_yet e (record {
      calm = record { profile_is = ap (λ (m : Master). m.profile) r ∙ l.calm.profile_is; no_burst = ap (λ (m : Master). m.burst) r ∙ l.calm.no_burst };
      off = off;
      hears = ap (λ (m : Master). m.deaf) r;
      waiting = ap (λ (m : Master). m.message.stage) r ∙ w;
      ends = ends_same y.master s.master.master (ap (λ (m : Master). m.receiver) r) (ap (λ (m : Master). m.timer) r) l.ends;
    })
sent_waits d y s l w (speaks_out p) = begun p.c p.sent_is

-- with a window open a message that waits begins
sent_open : (y : PortMaster) (s : PortMasterSent) → y.master.message.stage ≡ Waiting → 0 < y.master.timer.window → Sends y s → (d : ℕ) → Begun d s
sent_open y s w h (silent e r off shut) d = absurd (omega (arith, shut w))
sent_open y s w h (speaks_out p) d = begun p.c p.sent_is

module _ (limit : ℕ) (small : limit ≤ 255) where
  abbrev taken_by : PortMasterSide → Heard → PortMasterTaken
  taken_by x heard = port_master_takes x.master heard (master_data x heard)

  -- what every tick keeps
  heard_listening : (x : PortMasterSide) (heard : Heard) → Calm x.master.master → x.master.wake ≡ None → Still x.master.master.message.stage → Ends rt1 x.master.master → Listening rt1 (taken_by x heard).master
  unfolding port_master_takes
  heard_listening x heard c off v ends = go x.master.master.deaf refl
    where
      m : Master
      m = x.master.master

      bytes : List ℕ
      bytes = master_data x heard

      ended : Quieter rt1 m (took m Silence (master_data x Silence)).master → Ends rt1 (took m Silence (master_data x Silence)).master
      ended (opens d o n w) = runs o (omega (arith, n)) (omega (arith, n))
      ended (goes_on d e) = ends_later (omega arith) e

      by : (h : Heard) → h ≡ heard → x.master.master.deaf ≡ false → Listening rt1 (taken_by x h).master
      by Silence z e = let s = silent_stays m (master_data x Silence) e c v in record { calm = s.calm; off = off; still = s.still; ends = ended (silent_quieter m (master_data x Silence) e c v rt1 ends) }
      by (Character k) z e =
          let s = heard_stays m (master_data x (Character k)) e c v (Character k) is_sound in
          record { calm = s.calm; off = off; still = s.still; ends = heard_ends m (master_data x (Character k)) e c v (Character k) is_sound }
      by (Heard.Damaged k kind) z e =
          let s = heard_stays m (master_data x (Heard.Damaged k kind)) e c v (Heard.Damaged k kind) is_with_damage in
          record { calm = s.calm; off = off; still = s.still; ends = heard_ends m (master_data x (Heard.Damaged k kind)) e c v (Heard.Damaged k kind) is_with_damage }

      go : (deaf : Bool) → x.master.master.deaf ≡ deaf → Listening rt1 (taken_by x heard).master
      go true e =
          let same = sym (deaf_takes m heard bytes e) in
          record { calm = subst Calm same c; off = off; still = subst (λ (n : Master). Still n.message.stage) same v; ends = subst (Ends rt1) same ends }
      go false e = by heard refl e

  -- a new message of a master that listens
  with_message_lem : (d : ℕ) (y : PortMaster) (g : Message) → g.stage ≡ Waiting → Listening d y → Listening d (with_master y (with_message y.master g))
  with_message_lem d y g w l = record {
    calm = record { profile_is = l.calm.profile_is; no_burst = l.calm.no_burst };
    off = l.off;
    still = subst Still (sym w) is_waiting;
    ends = ends_same y.master (with_message y.master g) refl refl l.ends;
  }

  pub tick_phase : (x : PortMasterSide) (heard : Heard) (call : MasterCall) → Phase x.master → Phase (port_master_tick limit x heard call).side.master
  unfolding port_master_tick port_master_takes
  tick_phase x heard call p = by p (goes limit heard (taken_by x heard) call x.frame (master_data x heard) small)
    where
      s : PortMasterStep
      s = port_master_tick limit x heard call

      m : Master
      m = x.master.master

      same : m.deaf ≡ true → (taken_by x heard).master.master ≡ m
      same e = deaf_takes m heard (master_data x heard) e

      -- a sending master hears nothing and takes no request
      deafly : m.deaf ≡ true → (m.message.stage ≡ Free → ⊥) → Goes (taken_by x heard) s → ((y : PortMaster) (frame : List ℕ) → y.master ≡ m → y.wake ≡ x.master.wake → Spoke (port_master_sends y frame)) → Phase s.side.master
      deafly e busy (as_before frame a b r) f = subst Phase (sym a) (f (taken_by x heard).master frame (same e) refl).phase
      deafly e busy (new_message_lem frame g free w a b) f = absurd (busy (ap (λ (n : Master). n.message.stage) (sym (same e)) ∙ free))

      by : Phase x.master → Goes (taken_by x heard) s → Phase s.side.master
      by (listens c off v ends) (as_before frame a b r) =
          let l = heard_listening x heard c off v ends in
          subst Phase (sym a) (sent_phase (taken_by x heard).master _ l (off_sends (taken_by x heard).master frame l.calm l.off l.still))
      by (listens c off v ends) (new_message_lem frame g free w a b) =
          let l = with_message_lem rt1 (taken_by x heard).master g w (heard_listening x heard c off v ends) in
          subst Phase (sym a) (sent_phase _ _ l (off_sends _ frame l.calm l.off l.still))
      by (speaks n c off deaf st) z =
          deafly deaf (λ f. sending_free n (sym st ∙ f)) z (λ y frame e o. speaking_sends y frame (subst Calm (sym e) c) n (o ∙ off) (ap (λ (k : Master). k.message.stage) e ∙ st))
      by (wakes n c left deaf st w) z =
          deafly deaf (λ f. free_waiting (sym f ∙ st)) z
          (λ y frame e o. waking_sends y frame (subst Calm (sym e) c) n (o ∙ left) (ap (λ (k : Master). k.message.stage) e ∙ st) (subst (λ (k : Master). 0 < k.timer.window) (sym e) w))

  -- ---- the wait

  -- a tick of a message that waits
  wait_silent : (x : PortMasterSide) (call : MasterCall) (d : ℕ) → Waits d x.master → (1 ≤ d) × Begun (d - 1) (record { master = (port_master_tick limit x Silence call).side.master; sent = (port_master_tick limit x Silence call).sent })
  unfolding port_master_tick port_master_takes
  wait_silent x call d w = by (silent_quieter m (master_data x Silence) w.hears w.calm v d w.ends) (goes limit Silence (taken_by x Silence) call x.frame (master_data x Silence) small)
    where
      m : Master
      m = x.master.master

      n : Master
      n = (took m Silence (master_data x Silence)).master

      v : Still m.message.stage
      v = subst Still (sym w.waiting) is_waiting

      s : PortMasterStep
      s = port_master_tick limit x Silence call

      st : Stays m n
      st = silent_stays m (master_data x Silence) w.hears w.calm v

      sends_it : (frame : List ℕ) → Sends (taken_by x Silence).master (port_master_sends (taken_by x Silence).master frame)
      sends_it frame = off_sends (taken_by x Silence).master frame st.calm w.off st.still

      by : Quieter d m n → Goes (taken_by x Silence) s → (1 ≤ d) × Begun (d - 1) (record { master = s.side.master; sent = s.sent })
      by q (new_message_lem frame g free k a b) = absurd (free_waiting (sym free ∙ st.waits_on w.waiting))
      by (opens h o e k) (as_before frame a b r) =
          (h, started (sent_open (taken_by x Silence).master _ (st.waits_on w.waiting) (omega (arith, k w.waiting)) (sends_it frame) (d - 1)))
        where
          started : Begun (d - 1) (port_master_sends (taken_by x Silence).master frame) → Begun (d - 1) (record { master = s.side.master; sent = s.sent })
          started (begun c z) = begun c (b ∙ z)
          started (not_yet z y) = not_yet (b ∙ z) (subst (Waits (d - 1)) (sym a) y)
      by (goes_on h e) (as_before frame a b r) =
          (h, started (sent_waits (d - 1) (taken_by x Silence).master _ (record { calm = st.calm; off = w.off; still = st.still; ends = e }) (st.waits_on w.waiting) (sends_it frame)))
        where
          started : Begun (d - 1) (port_master_sends (taken_by x Silence).master frame) → Begun (d - 1) (record { master = s.side.master; sent = s.sent })
          started (begun c z) = begun c (b ∙ z)
          started (not_yet z y) = not_yet (b ∙ z) (subst (Waits (d - 1)) (sym a) y)

  wait_character : (x : PortMasterSide) (h : Heard) → IsCharacter h → (call : MasterCall) (d : ℕ) → Waits d x.master
      → Begun rt1 (record { master = (port_master_tick limit x h call).side.master; sent = (port_master_tick limit x h call).sent })
  unfolding port_master_tick port_master_takes
  wait_character x h i call d w = by (goes limit h (taken_by x h) call x.frame (master_data x h) small)
    where
      m : Master
      m = x.master.master

      v : Still m.message.stage
      v = subst Still (sym w.waiting) is_waiting

      s : PortMasterStep
      s = port_master_tick limit x h call

      st : Stays m (took m h (master_data x h)).master
      st = heard_stays m (master_data x h) w.hears w.calm v h i

      by : Goes (taken_by x h) s → Begun rt1 (record { master = s.side.master; sent = s.sent })
      by (new_message_lem frame g free k a b) = absurd (free_waiting (sym free ∙ st.waits_on w.waiting))
      by (as_before frame a b r) =
          started (sent_waits rt1 (taken_by x h).master _ (record { calm = st.calm; off = w.off; still = st.still; ends = heard_ends m (master_data x h) w.hears w.calm v h i }) (st.waits_on w.waiting)
          (off_sends (taken_by x h).master frame st.calm w.off st.still))
        where
          started : Begun rt1 (port_master_sends (taken_by x h).master frame) → Begun rt1 (record { master = s.side.master; sent = s.sent })
          started (begun c z) = begun c (b ∙ z)
          started (not_yet z y) = not_yet (b ∙ z) (subst (Waits rt1) (sym a) y)

  -- a message that was taken begins in its tick, or waits
  taken_waits : (x : PortMasterSide) (heard : Heard) (call : MasterCall) → Phase x.master → (port_master_tick limit x heard call).result ≡ CallResult.Taken
      → Begun (rt1 + 1) (record { master = (port_master_tick limit x heard call).side.master; sent = (port_master_tick limit x heard call).sent })
  unfolding port_master_tick port_master_takes
  taken_waits x heard call p was = by p (goes limit heard (taken_by x heard) call x.frame (master_data x heard) small)
    where
      s : PortMasterStep
      s = port_master_tick limit x heard call

      m : Master
      m = x.master.master

      busy : m.deaf ≡ true → (m.message.stage ≡ Free → ⊥) → (taken_by x heard).master.master.message.stage ≡ Free → ⊥
      busy e f free = f (ap (λ (n : Master). n.message.stage) (sym (deaf_takes m heard (master_data x heard) e)) ∙ free)

      by : Phase x.master → Goes (taken_by x heard) s → Begun (rt1 + 1) (record { master = s.side.master; sent = s.sent })
      by q (as_before frame a b r) = absurd (r was)
      by (speaks n c off deaf st) (new_message_lem frame g free w a b) = absurd (busy deaf (λ f. sending_free n (sym st ∙ f)) free)
      by (wakes n c left deaf st w) (new_message_lem frame g free k a b) = absurd (busy deaf (λ f. free_waiting (sym f ∙ st)) free)
      by (listens c off v ends) (new_message_lem frame g free w a b) =
          let l = with_message_lem rt1 (taken_by x heard).master g w (heard_listening x heard c off v ends) in
          started (sent_waits (rt1 + 1) y _ (record { calm = l.calm; off = l.off; still = l.still; ends = ends_later (omega arith) l.ends }) w (off_sends y frame l.calm l.off l.still))
        where
          y : PortMaster
          y = with_master (taken_by x heard).master (with_message (taken_by x heard).master.master g)

          started : Begun (rt1 + 1) (port_master_sends y frame) → Begun (rt1 + 1) (record { master = s.side.master; sent = s.sent })
          started (begun e z) = begun e (b ∙ z)
          started (not_yet z j) = not_yet (b ∙ z) (subst (Waits (rt1 + 1)) (sym a) j)

  -- a message that waits behind a tick, a retry among them
  still_waits : (x : PortMasterSide) (heard : Heard) (call : MasterCall) → Phase x.master → IsWaiting (port_master_tick limit x heard call)
      → ((port_master_tick limit x heard call).sent ≡ Silent) × Waits rt1 (port_master_tick limit x heard call).side.master
  unfolding port_master_tick port_master_takes
  still_waits x heard call p i = by p (goes limit heard (taken_by x heard) call x.frame (master_data x heard) small)
    where
      s : PortMasterStep
      s = port_master_tick limit x heard call

      m : Master
      m = x.master.master

      -- the character that was sent is of a message that has begun
      spoken : (k : PortMasterSent) → s.side.master ≡ k.master → Spoke k → ⊥
      spoken k a z = z.begun_it (ap (λ (j : PortMaster). j.master.message.stage) (sym a) ∙ i.waits) (ap (λ (j : PortMaster). j.wake) (sym a) ∙ i.no_wake_up)

      rests : (y : PortMaster) (frame : List ℕ) → Listening rt1 y → s.side.master ≡ (port_master_sends y frame).master → s.sent ≡ (port_master_sends y frame).sent → Sends y (port_master_sends y frame) → (s.sent ≡ Silent) × Waits rt1 s.side.master
      rests y frame l a b (silent e r off shut) = (
        b ∙ e,
        record {
          calm = record { profile_is = ap (λ (k : PortMaster). k.master.profile) a ∙ ap (λ (k : Master). k.profile) r ∙ l.calm.profile_is; no_burst = ap (λ (k : PortMaster). k.master.burst) a ∙ ap (λ (k : Master). k.burst) r ∙ l.calm.no_burst };
          off = i.no_wake_up;
          hears = ap (λ (k : PortMaster). k.master.deaf) a ∙ ap (λ (k : Master). k.deaf) r;
          waiting = i.waits;
          ends = ends_same y.master s.side.master.master (ap (λ (k : PortMaster). k.master.receiver) a ∙ ap (λ (k : Master). k.receiver) r) (ap (λ (k : PortMaster). k.master.timer) a ∙ ap (λ (k : Master). k.timer) r) l.ends;
        },
      )
      rests y frame l a b (speaks_out z) = absurd (spoken _ a z)

      same : m.deaf ≡ true → (taken_by x heard).master.master ≡ m
      same e = deaf_takes m heard (master_data x heard) e

      by : Phase x.master → Goes (taken_by x heard) s → (s.sent ≡ Silent) × Waits rt1 s.side.master
      by (listens c off v ends) (as_before frame a b r) =
          let l = heard_listening x heard c off v ends in
          rests (taken_by x heard).master frame l a b (off_sends (taken_by x heard).master frame l.calm l.off l.still)
      by (listens c off v ends) (new_message_lem frame g free w a b) =
          let l = with_message_lem rt1 (taken_by x heard).master g w (heard_listening x heard c off v ends) in
          rests _ frame l a b (off_sends _ frame l.calm l.off l.still)
      by (speaks n c off deaf st) (as_before frame a b r) =
          absurd (spoken _ a (speaking_sends (taken_by x heard).master frame (subst Calm (sym (same deaf)) c) n off (ap (λ (k : Master). k.message.stage) (same deaf) ∙ st)))
      by (speaks n c off deaf st) (new_message_lem frame g free w a b) = absurd (sending_free n (sym st ∙ ap (λ (k : Master). k.message.stage) (sym (same deaf)) ∙ free))
      by (wakes n c left deaf st w) (as_before frame a b r) =
          absurd (spoken _ a (waking_sends (taken_by x heard).master frame (subst Calm (sym (same deaf)) c) n left (ap (λ (k : Master). k.message.stage) (same deaf) ∙ st) (subst (λ (k : Master). 0 < k.timer.window) (sym (same deaf)) w)))
      by (wakes n c left deaf st w) (new_message_lem frame g free k a b) = absurd (free_waiting (sym (sym st ∙ ap (λ (k : Master). k.message.stage) (sym (same deaf)) ∙ free)))

  -- ---- the list

  one_less : (d : ℕ) → 1 ≤ d → suc (d - 1) ≡ d
  one_less d h = omega arith

  module _ (x : PortMasterSide) (i : MasterInput) (d : ℕ) (w : Waits d x.master) (s : PortMasterStep) (e : s.sent ≡ Silent) (ss : List PortMasterStep) where
    abbrev tick : PortMasterStep
    tick = port_master_tick limit x i.heard i.call

    -- one tick more, with what is claimed behind it
    later_by : ((k : ℕ) → Waits k tick.side.master → tick.sent ≡ Silent → StartsWithin k (tick ∷ ss)) → StartsWithin d (s ∷ tick ∷ ss)
    later_by rest = by i.heard refl
      where
        from : (k : ℕ) → Begun k (record { master = tick.side.master; sent = tick.sent }) → StartsWithin k (tick ∷ ss)
        from k (begun c z) = starts z
        from k (not_yet z y) = rest k y z

        heard_char : IsCharacter i.heard → StartsWithin d (s ∷ tick ∷ ss)
        heard_char c = anew e (subst IsCharacter (sym (heard_is limit x i.heard i.call)) c) (from rt1 (wait_character x i.heard c i.call d w))

        by : (h : Heard) → i.heard ≡ h → StartsWithin d (s ∷ tick ∷ ss)
        by Silence q =
            let b : (1 ≤ d) × Begun (d - 1) (record { master = tick.side.master; sent = tick.sent }) =
            subst (λ (h : Heard). (1 ≤ d) × Begun (d - 1) (record { master = (port_master_tick limit x h i.call).side.master; sent = (port_master_tick limit x h i.call).sent })) (sym q) (wait_silent x i.call d w) in
            subst (λ (k : ℕ). StartsWithin k (s ∷ tick ∷ ss)) (one_less d b.0) (waits e (heard_is limit x i.heard i.call ∙ q) (from (d - 1) b.1))
        by (Character c) q = heard_char (subst IsCharacter (sym q) is_sound)
        by (Heard.Damaged c kind) q = heard_char (subst IsCharacter (sym q) is_with_damage)

  later : (d : ℕ) (x : PortMasterSide) → Waits d x.master → (inputs : List MasterInput) (s : PortMasterStep) → s.sent ≡ Silent → StartsWithin d (s ∷ port_master_run limit x inputs)
  unfolding port_master_run
  later d x w [] s e = last e
  later d x w (i ∷ is) s e =
      later_by x i d w s e (port_master_run limit (port_master_tick limit x i.heard i.call).side is)
      (λ k y z. later k (port_master_tick limit x i.heard i.call).side y is (port_master_tick limit x i.heard i.call) z)

  each : (x : PortMasterSide) → Phase x.master → (inputs : List MasterInput) → EachStarts (port_master_run limit x inputs)
  unfolding port_master_run
  each x p [] = no_more
  each x p (i ∷ is) =
      and (λ was. from (taken_waits x i.heard i.call p was)) (λ w. let y = still_waits x i.heard i.call p w in later rt1 t.side y.1 is t y.0)
      (each (port_master_tick limit x i.heard i.call).side (tick_phase x i.heard i.call p) is)
    where
      t : PortMasterStep
      t = port_master_tick limit x i.heard i.call

      from : Begun (rt1 + 1) (record { master = t.side.master; sent = t.sent }) → StartsWithin (rt1 + 1) (t ∷ port_master_run limit t.side is)
      from (begun c z) = starts z
      from (not_yet z y) = later (rt1 + 1) t.side y is t z

-- ---- the start

pub fresh_phase : (primary : Bool) (retries : ℕ) (x : PortMaster) → port_master_starts primary retries ≡ accepted x → Phase x
fresh_phase primary retries x =
    if_cases (λ (c : Called Master). master_started c ≡ accepted x → Phase x) (retries outside 3 to 15) _ _
    (λ q e. absurd (not_accepted e))
    (λ q e. subst Phase (ap got e) (listens (record { profile_is = refl; no_burst = refl }) refl is_free (runs refl (omega (arith, own_is primary)) (omega (arith, own_is primary)))))
  where
    not_accepted : refused 2 ≡ accepted x → ⊥
    not_accepted e = let z : ◌≡◌ {A = ℕ} 0 1 = cc in omega arith

    got : Called PortMaster → PortMaster
    got (accepted y) = y
    got (refused why) = x

-- "A waiting message (its wake-up, if any) starts within RT1 + 1 ticks of the port's last character or its acceptance, the later counting."
pub starts_in_time : StartsInTime
starts_in_time limit primary retries x inputs small e = each limit small x (fresh_phase primary retries x.master e) inputs
