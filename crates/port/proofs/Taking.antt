-- What the port's master is behind what it heard: BURST is clear, and its timer runs outside a frame, and ends within RT1.
use Prim.Native.Nat.{ℕ, suc, ◌+◌, ◌-◌, ◌*◌, ◌≤◌}
use native.Mathlib.Omega.{arith}
use mathlib.Core.Path.{◌≡◌, refl, sym, ap, subst, ◌∙◌}
use mathlib.Core.Bool.{Bool, true, false}
use mathlib.Core.List.{List}
use borrow.Author.Tests.{eqb-true, eqb-false}
use Rattle.base.specs.Choice.{when◌then◌else◌, ◌=?◌, ◌≤?◌}
use Rattle.base.proofs.Choices.{true_false, if_is_true, if_is_false}
use Rattle.frame.specs.Delimiter.{ack, back}
use Rattle.frame.specs.declared.Header.{Header}
use Rattle.line.specs.Gaps.{IsCharacter}
use Rattle.line.specs.Reader.{idle, no_damage, inside_frame, taken}
use Rattle.line.specs.declared.Event.{Event}
use Rattle.line.specs.declared.Event.TheVariants.{Nothing, PassedOver, Broken, Frame, Damaged}
use Rattle.line.specs.declared.Heard.{Heard}
use Rattle.line.specs.declared.Heard.TheVariants.{Silence, Character}
use Rattle.line.specs.declared.Profile.{Profile}
use Rattle.line.specs.declared.Receiver.{Receiver}
use Rattle.line.specs.declared.Whole.{Whole}
use Rattle.line.proofs.Gaps.{goes_within, silent_ticks}
use Rattle.turns.specs.Party.{is_broadcast}
use Rattle.turns.specs.declared.Ending.{Ending}
use Rattle.turns.specs.Master.{EndedForMaster, broken, own_rt1, timer, timer_after, ended_by, to_itself, with_reader, after_break, on_character, on_heard, master_takes, counts, counts_twice, opened, count_clear, timer_counted, burst_counted, unless_ended, rt1_ends, waited, if_awaiting, at_break, at_frame, answers_message}
use Rattle.turns.specs.declared.Master.{Master}
use Rattle.turns.specs.declared.MasterTaken.{MasterTaken}
use Rattle.turns.specs.declared.MasterTold.{MasterTold}
use Rattle.turns.specs.declared.Message.{Message}
use Rattle.turns.specs.declared.Stage.{Stage}
use Rattle.turns.specs.declared.Stage.TheVariants.{Free, Waiting, Sending, Awaiting}
use Rattle.turns.specs.declared.Timer.{Timer}
use Rattle.turns.proofs.Masters.{Still, is_free, is_waiting, is_awaiting, if_cases}
use Rattle.turns.proofs.Silent.{ready_outside, master_outside, master_passed, master_second, counts_reads}
use Rattle.turns.proofs.Windows.{more}
use Rattle.line.specs.Profile.{infrared_profile}
use Rattle.port.specs.Master.{after_port_frame, by_found}

-- a master of the port, BURST clear
pub record Calm (m : Master) : Type 0 where
  pub profile_is : m.profile ≡ infrared_profile
  pub no_burst : m.burst ≡ false

-- its timer ends within d silent ticks, unless a character comes
pub data Ends (d : ℕ) (m : Master) : Type 0 where
  -- it runs
  runs : inside_frame m.receiver.place ≡ false → 1 ≤ m.timer.next → m.timer.next ≤ d → Ends d m
  -- inside a frame it is stopped, and the second silent tick in a row makes it RT1
  is_inside : inside_frame m.receiver.place ≡ true → m.receiver.gap ≡ false → infrared_profile.rt1p ≤ d → Ends d m
  -- one silent tick inside a frame was passed over
  passed : inside_frame m.receiver.place ≡ true → m.receiver.gap ≡ true → infrared_profile.rt1p ≤ d + 1 → Ends d m

-- a message is not being sent, and one that waits goes on waiting
pub record Stays (m n : Master) : Type 0 where
  pub calm : Calm n
  pub still : Still n.message.stage
  pub waits_on : m.message.stage ≡ Waiting → n.message.stage ≡ Waiting

-- ---- messages

pub not_waiting : (n : ℕ) → Awaiting n ≡ Waiting → ⊥
not_waiting n e = let z : ◌≡◌ {A = ℕ} 0 1 = cc in omega arith

pub is_over : (g : Message) (e : Ending) → e.message.stage ≡ Free → Still e.message.stage
is_over g e f = subst Still (sym f) is_free

-- what ends or fails a message leaves it free or waiting
data Over (s : Stage) : Type 0 where
  over_free : s ≡ Free → Over s
  over_waiting : s ≡ Waiting → Over s

over_still : (s : Stage) → Over s → Still s
over_still s (over_free e) = subst Still (sym e) is_free
over_still s (over_waiting e) = subst Still (sym e) is_waiting

break_over : (m : Master) → Over (at_break m).message.stage
break_over m =
    if_cases (λ (e : Ending). Over e.message.stage) (is_broadcast m.message.header) _ _ (λ q. over_free refl)
    (λ q. if_cases (λ (e : Ending). Over e.message.stage) (m.message.attempts ≤? m.retries) _ _ (λ z. over_waiting refl) (λ z. over_free refl))

frame_over : (m : Master) (w : Whole) (bytes : List ℕ) → Over (at_frame m w bytes).message.stage
frame_over m w bytes =
    if_cases (λ (e : Ending). Over e.message.stage) (answers_message m w.header) _ _
    (λ q. if_cases (λ (e : Ending). Over e.message.stage) _ _ _ (λ z. break_over m) (λ z. over_free refl)) (λ q. break_over m)

-- behind a frame or a break nothing is awaited
awaited_over : (g : Message) (e : Ending) (s : Stage) → g.stage ≡ s → Still s → Over e.message.stage → Over (if_awaiting s g e).message.stage
awaited_over g e Free q is_free o = over_free q
awaited_over g e Waiting q is_waiting o = over_waiting q
awaited_over g e (Awaiting n) q (is_awaiting k) o = o
awaited_over g e (Sending _) q x4 o = elim x4 [ ]

awaited_waits : (g : Message) (e : Ending) (s : Stage) → g.stage ≡ s → g.stage ≡ Waiting → (if_awaiting s g e).message.stage ≡ Waiting
awaited_waits g e Free q w = w
awaited_waits g e Waiting q w = w
awaited_waits g e (Sending n) q w = w
awaited_waits g e (Awaiting n) q w = absurd (not_waiting n (sym q ∙ w))

waited_still : (s : Stage) → Still s → Still (waited s)
waited_still Free is_free = is_free
waited_still Waiting is_waiting = is_waiting
waited_still (Awaiting n) (is_awaiting k) = is_awaiting (n - 1)
waited_still (Sending _) x'' = elim x'' [ ]

-- ---- timers

pub own_is : (primary : Bool) → own_rt1 infrared_profile primary ≡ infrared_profile.rt1p
unfolding when◌then◌else◌
own_is true = refl
own_is false = refl

-- with BURST clear a silent tick counts the timer
counted_clear : (m : Master) → Calm m → timer_counted m ≡ count_clear infrared_profile m.timer
counted_clear m c = if_is_false m.burst _ _ c.no_burst ∙ ap (λ (p : Profile). count_clear p m.timer) c.profile_is

still_clear : (m : Master) → Calm m → burst_counted m ≡ false
still_clear m c = if_is_false m.burst _ _ c.no_burst

broken_timer : (m : Master) → Calm m → timer_after m.profile m.primary broken m.burst ≡ timer infrared_profile.rt1p
broken_timer m c =
    ap (λ (b : Bool). timer_after m.profile m.primary broken b) c.no_burst
    ∙ ap (λ (p : Profile). timer (own_rt1 p m.primary)) c.profile_is
    ∙ ap timer (own_is m.primary)

unended_next : (s : Stage) (t : Timer) → (unless_ended s t).next ≡ t.next
unended_next Free t = refl
unended_next Waiting t = refl
unended_next (Sending n) t = refl
unended_next (Awaiting n) t = refl

-- a window is open
abbrev pub Opened : Master → Type 0
Opened m = m.timer.window ≡ infrared_profile.hold

-- behind a silent tick: the timer's end opens a window, where a message that waits begins; or one tick less is left
pub data Quieter (d : ℕ) (m n : Master) : Type 0 where
  opens : 1 ≤ d → inside_frame n.receiver.place ≡ false → n.timer.next ≡ 2 * infrared_profile.rt2 → (m.message.stage ≡ Waiting → Opened n) → Quieter d m n
  goes_on : 1 ≤ d → Ends (d - 1) n → Quieter d m n

-- ---- a silent tick

-- one count outside a frame
module _ (m : Master) (told : MasterTold) (event : Event) (c : Calm m) (v : Still m.message.stage) where
  count_stays : Stays m (counts m told event).master
  count_stays =
      if_cases (λ (t : MasterTaken). Stays m t.master) (rt1_ends m.message.stage) _ _
      (λ q. record { calm = record { profile_is = c.profile_is; no_burst = still_clear m c }; still = over_still _ (break_over m); waits_on = λ w. absurd (true_false (sym q ∙ ap rt1_ends w)) })
      (λ q. record { calm = record { profile_is = c.profile_is; no_burst = still_clear m c }; still = waited_still m.message.stage v; waits_on = λ w. ap waited w })

  count_next : (counts m told event).master.timer.next ≡ (count_clear infrared_profile m.timer).next
  count_next =
      if_cases (λ (t : MasterTaken). t.master.timer.next ≡ (count_clear infrared_profile m.timer).next) (rt1_ends m.message.stage) _ _
      (λ q. unended_next (at_break m).message.stage (timer_counted m) ∙ ap (λ (t : Timer). t.next) (counted_clear m c))
      (λ q. ap (λ (t : Timer). t.next) (counted_clear m c))

  -- while the message waits, the window too
  count_window : m.message.stage ≡ Waiting → (counts m told event).master.timer ≡ count_clear infrared_profile m.timer
  count_window w = ap (λ (t : MasterTaken). t.master.timer) (if_is_false (rt1_ends m.message.stage) _ _ (ap rt1_ends w)) ∙ counted_clear m c

  count_reader : (counts m told event).master.receiver ≡ m.receiver
  count_reader = (counts_reads m told event).0

-- what a count makes of a timer
data Count (t u : Timer) : Type 0 where
  count_ends : t.next ≡ 1 → u ≡ opened infrared_profile → Count t u
  count_goes : (t.next ≡ 1 → ⊥) → u.next ≡ t.next - 1 → Count t u

count_view : (t : Timer) → Count t (count_clear infrared_profile t)
count_view t = if_cases (Count t) (t.next =? 1) _ _ (λ q. count_ends (eqb-true t.next 1 q) refl) (λ q. count_goes (eqb-false t.next 1 q) refl)

-- outside a frame
module _ (m : Master) (c : Calm m) (v : Still m.message.stage) where
  outside_stays : Stays m (counts (with_reader m idle) MasterTold.Nothing Nothing).master
  outside_stays =
      let s = count_stays (with_reader m idle) MasterTold.Nothing Nothing (record { profile_is = c.profile_is; no_burst = c.no_burst }) v in
      record { calm = s.calm; still = s.still; waits_on = s.waits_on }

  outside_quieter : (d : ℕ) → 1 ≤ m.timer.next → m.timer.next ≤ d → Quieter d m (counts (with_reader m idle) MasterTold.Nothing Nothing).master
  outside_quieter d low high = go (count_view m.timer)
    where
      calm : Calm (with_reader m idle)
      calm = record { profile_is = c.profile_is; no_burst = c.no_burst }

      n : Master
      n = (counts (with_reader m idle) MasterTold.Nothing Nothing).master

      next : n.timer.next ≡ (count_clear infrared_profile m.timer).next
      next = count_next (with_reader m idle) MasterTold.Nothing Nothing calm v

      outside : inside_frame n.receiver.place ≡ false
      outside = ap (λ (r : Receiver). inside_frame r.place) (count_reader (with_reader m idle) MasterTold.Nothing Nothing calm v)

      go : Count m.timer (count_clear infrared_profile m.timer) → Quieter d m n
      go (count_ends a b) =
          opens (omega arith) outside (next ∙ ap (λ (t : Timer). t.next) b) (λ w. ap (λ (t : Timer). t.window) (count_window (with_reader m idle) MasterTold.Nothing Nothing calm v w ∙ b))
      go (count_goes a b) = let z = more m.timer.next a low in goes_on (omega arith) (runs outside (omega (arith, next)) (omega (arith, next)))

-- a timer above 1 counts down
falls : (t : Timer) (k : ℕ) → t.next ≡ suc (suc k) → (count_clear infrared_profile t).next ≡ suc k
falls t k e = by (count_view t)
  where
    by : Count t (count_clear infrared_profile t) → (count_clear infrared_profile t).next ≡ suc k
    by (count_ends a b) = absurd (omega arith)
    by (count_goes a b) = omega arith

-- two counts of a timer RT1, behind a break
module _ (b : Master) (told : MasterTold) (c : Calm b) (v : Still b.message.stage) where
  abbrev once : MasterTaken
  once = counts b told Broken

  once_stays : Stays b once.master
  once_stays = count_stays b told Broken c v

  twice_stays : Stays b (counts_twice b told Broken).master
  twice_stays =
      let s = count_stays once.master once.told Broken once_stays.calm once_stays.still in
      record { calm = s.calm; still = s.still; waits_on = λ w. s.waits_on (once_stays.waits_on w) }

  twice_next : b.timer.next ≡ infrared_profile.rt1p → (counts_twice b told Broken).master.timer.next ≡ 454
  twice_next e =
      let f : once.master.timer.next ≡ 455 = count_next b told Broken c v ∙ falls b.timer 454 e in
      count_next once.master once.told Broken once_stays.calm once_stays.still ∙ falls once.master.timer 453 f

  twice_reader : (counts_twice b told Broken).master.receiver ≡ b.receiver
  twice_reader = count_reader once.master once.told Broken once_stays.calm once_stays.still ∙ count_reader b told Broken c v

-- ---- take

-- what the port's master is behind what it heard
abbrev pub took : Master → Heard → List ℕ → MasterTaken
took m heard bytes = by_found m bytes (master_takes m heard bytes) (master_takes m heard bytes).event

-- a deaf one is as it was
pub deaf_takes : (m : Master) (heard : Heard) (bytes : List ℕ) → m.deaf ≡ true → (took m heard bytes).master ≡ m
unfolding master_takes
deaf_takes m heard bytes d = ap (λ (t : MasterTaken). (by_found m bytes t t.event).master) (if_is_true m.deaf _ _ d)

-- where no frame ends, it is document 01's
module _ (m : Master) (bytes : List ℕ) (t : MasterTaken) where
  by_nothing : t.event ≡ Nothing → by_found m bytes t t.event ≡ t
  by_nothing e = ap (by_found m bytes t) e

  by_broken : t.event ≡ Broken → by_found m bytes t t.event ≡ t
  by_broken e = ap (by_found m bytes t) e

module _ (m : Master) (bytes : List ℕ) (hears : m.deaf ≡ false) (c : Calm m) (v : Still m.message.stage) where
  -- what holds of the master behind what it heard
  by_heard : (P : Master → Type 0) (heard : Heard) (t : MasterTaken) → on_heard m heard bytes ≡ t → P (by_found m bytes t t.event).master → P (took m heard bytes).master
  unfolding master_takes
  by_heard P heard t e p = subst (λ (u : MasterTaken). P (by_found m bytes u u.event).master) (sym (if_is_false m.deaf _ _ hears ∙ e)) p

  -- the second silent tick in a row inside a frame breaks it
  abbrev cut : Master
  cut = (after_break m idle Broken).master

  abbrev told : MasterTold
  told = (after_break m idle Broken).told

  cut_calm : Calm cut
  cut_calm = record { profile_is = c.profile_is; no_burst = c.no_burst }

  cut_still : Still cut.message.stage
  cut_still = over_still _ (awaited_over m.message (at_break m) m.message.stage refl v (break_over m))

  pub silent_stays : Stays m (took m Silence bytes).master
  silent_stays = go (inside_frame m.receiver.place) refl m.receiver.gap refl
    where
      go : (inside : Bool) → inside_frame m.receiver.place ≡ inside → (gap : Bool) → m.receiver.gap ≡ gap → Stays m (took m Silence bytes).master
      go false o gap g =
          let t = counts (with_reader m idle) MasterTold.Nothing Nothing in
          by_heard (Stays m) Silence t (master_outside m o) (subst (λ (u : MasterTaken). Stays m u.master) (sym (by_nothing m bytes t (counts_reads (with_reader m idle) MasterTold.Nothing Nothing).1)) (outside_stays m c v))
      go true i false g = by_heard (Stays m) Silence _ (master_passed m i g) (record { calm = record { profile_is = c.profile_is; no_burst = c.no_burst }; still = v; waits_on = λ w. w })
      go true i true g =
          by_heard (Stays m) Silence _ (master_second m i g)
          (subst (λ (u : MasterTaken). Stays m u.master) (sym (by_broken m bytes _ (counts_reads (once cut told cut_calm cut_still).master (once cut told cut_calm cut_still).told Broken).1))
          (let s = twice_stays cut told cut_calm cut_still in record { calm = s.calm; still = s.still; waits_on = λ w. s.waits_on (awaited_waits m.message (at_break m) m.message.stage refl w) }))

  pub silent_quieter : (d : ℕ) → Ends d m → Quieter d m (took m Silence bytes).master
  silent_quieter d (runs o low high) =
      let t = counts (with_reader m idle) MasterTold.Nothing Nothing in
      by_heard (Quieter d m) Silence t (master_outside m o) (subst (λ (u : MasterTaken). Quieter d m u.master) (sym (by_nothing m bytes t (counts_reads (with_reader m idle) MasterTold.Nothing Nothing).1)) (outside_quieter m c v d low high))
  silent_quieter d (is_inside i g h) = by_heard (Quieter d m) Silence _ (master_passed m i g) (goes_on (omega arith) (passed i refl (omega arith)))
  silent_quieter d (passed i g h) =
      let e = twice_next cut told cut_calm cut_still (ap (λ (t : Timer). t.next) (broken_timer m c)) in
      by_heard (Quieter d m) Silence _ (master_second m i g)
      (subst (λ (u : MasterTaken). Quieter d m u.master) (sym (by_broken m bytes _ (counts_reads (once cut told cut_calm cut_still).master (once cut told cut_calm cut_still).told Broken).1))
      (goes_on (omega arith) (runs (ap (λ (r : Receiver). inside_frame r.place) (twice_reader cut told cut_calm cut_still)) (omega (arith, e)) (omega (arith, e)))))

  -- ---- a character

  rt1_runs : (n : Master) → inside_frame n.receiver.place ≡ false → n.timer.next ≡ infrared_profile.rt1p → Ends infrared_profile.rt1p n
  rt1_runs n o e = runs o (omega (arith, e)) (omega (arith, e))

  -- behind a frame that is no BACK
  frame_timer : (h : Header) → (h.kind =? back) ≡ false → (1 ≤ (timer_after m.profile m.primary (ended_by m h) m.burst).next) × ((timer_after m.profile m.primary (ended_by m h) m.burst).next ≤ infrared_profile.rt1p)
  frame_timer h f =
      subst P (sym (ap (λ (b : Bool). timer_after m.profile m.primary (ended_by m h) b) c.no_burst ∙ ap (λ (p : Profile). timer_after p m.primary (ended_by m h) false) c.profile_is))
      (if_cases Q (h.kind =? back) _ _ (λ q. absurd (true_false (sym q ∙ f)))
      (λ q. if_cases Q (h.kind =? ack) _ _ (λ z. if_cases Q (to_itself m h) _ _ (λ y. (omega arith, omega arith)) (λ y. (omega arith, omega arith)))
      (λ z. (omega (arith, own_is m.primary), omega (arith, own_is m.primary)))))
    where
      P : Timer → Type 0
      P t = (1 ≤ t.next) × (t.next ≤ infrared_profile.rt1p)

      Q : EndedForMaster → Type 0
      Q e = P (timer_after infrared_profile m.primary e false)

  -- what is true of the reader behind a character, by what it told
  record Reads (r : Receiver) (e : Event) : Type 0 where
    within : e ≡ Nothing → (inside_frame r.place ≡ true) × (r.gap ≡ false)
    without : (e ≡ Nothing → ⊥) → inside_frame r.place ≡ false

  character_ends : (r : Receiver) (e : Event) → Reads r e → Ends infrared_profile.rt1p (by_found m bytes (on_character m r e bytes) (on_character m r e bytes).event).master
  unfolding after_port_frame
  character_ends r Nothing x = is_inside (x.within refl).0 (x.within refl).1 (omega arith)
  character_ends r PassedOver x = rt1_runs _ (x.without (λ e. let z : ◌≡◌ {A = ℕ} 0 1 = cc in omega arith)) (ap (λ (t : Timer). t.next) (broken_timer m c))
  character_ends r Broken x = rt1_runs _ (x.without (λ e. let z : ◌≡◌ {A = ℕ} 0 1 = cc in omega arith)) (ap (λ (t : Timer). t.next) (broken_timer m c))
  character_ends r (Frame w) x =
      let o = x.without (λ e. let z : ◌≡◌ {A = ℕ} 0 1 = cc in omega arith) in
      if_cases (λ (t : MasterTaken). Ends infrared_profile.rt1p t.master) (w.header.kind =? back) _ _ (λ q. rt1_runs _ o (ap (λ (t : Timer). t.next) (broken_timer m c))) (λ q. let z = frame_timer w.header q in runs o z.0 z.1)
  character_ends r (Damaged w k) x = rt1_runs _ (x.without (λ e. let z : ◌≡◌ {A = ℕ} 0 1 = cc in omega arith)) (ap (λ (t : Timer). t.next) (broken_timer m c))

  break_stays : (r : Receiver) (e : Event) → Stays m (after_break m r e).master
  break_stays r e = record {
    calm = record { profile_is = c.profile_is; no_burst = c.no_burst };
    still = over_still _ (awaited_over m.message (at_break m) m.message.stage refl v (break_over m));
    waits_on = λ w. awaited_waits m.message (at_break m) m.message.stage refl w;
  }

  character_stays : (r : Receiver) (e : Event) → Stays m (by_found m bytes (on_character m r e bytes) (on_character m r e bytes).event).master
  unfolding after_port_frame
  character_stays r Nothing = record { calm = record { profile_is = c.profile_is; no_burst = c.no_burst }; still = v; waits_on = λ w. w }
  character_stays r PassedOver = break_stays r PassedOver
  character_stays r Broken = break_stays r Broken
  character_stays r (Frame w) =
      if_cases (λ (t : MasterTaken). Stays m t.master) (w.header.kind =? back) _ _ (λ q. break_stays r (Damaged w no_damage))
      (λ q. record {
        calm = record { profile_is = c.profile_is; no_burst = c.no_burst };
        still = over_still _ (awaited_over m.message (at_frame m w bytes) m.message.stage refl v (frame_over m w bytes));
        waits_on = λ w'. awaited_waits m.message (at_frame m w bytes) m.message.stage refl w';
      })
  character_stays r (Damaged w k) = break_stays r (Damaged w k)

  reads : (h : Heard) → IsCharacter h → Reads (taken m.receiver h).receiver (taken m.receiver h).event
  reads h i = record {
    within = λ e. let w = goes_within m.receiver i e in (w.inside, w.no_gap);
    without = λ f. ready_outside _ ((silent_ticks m.receiver h i).outside f);
  }

  pub heard_stays : (h : Heard) → IsCharacter h → Stays m (took m h bytes).master
  heard_stays (Character k) i = by_heard (Stays m) (Character k) _ refl (character_stays (taken m.receiver (Character k)).receiver (taken m.receiver (Character k)).event)
  heard_stays (Heard.Damaged k kind) i =
      by_heard (Stays m) (Heard.Damaged k kind) _ refl (character_stays (taken m.receiver (Heard.Damaged k kind)).receiver (taken m.receiver (Heard.Damaged k kind)).event)
  heard_stays Silence i = elim i [ ]

  pub heard_ends : (h : Heard) → IsCharacter h → Ends infrared_profile.rt1p (took m h bytes).master
  heard_ends (Character k) i =
      by_heard (Ends infrared_profile.rt1p) (Character k) _ refl (character_ends (taken m.receiver (Character k)).receiver (taken m.receiver (Character k)).event (reads (Character k) i))
  heard_ends (Heard.Damaged k kind) i =
      by_heard (Ends infrared_profile.rt1p) (Heard.Damaged k kind) _ refl
      (character_ends (taken m.receiver (Heard.Damaged k kind)).receiver (taken m.receiver (Heard.Damaged k kind)).event (reads (Heard.Damaged k kind) i))
  heard_ends Silence i = elim i [ ]
