-- A silent tick inside a frame, for a master and a device: the first in a row is passed over, and behind the second, which breaks the frame, both are counted in the timer. Gaps.antt says it of what a party sends.
use Prim.Native.Nat.{ℕ, suc, ◌-◌, ◌≤◌}
use native.Mathlib.Omega.{arith}
use mathlib.Core.Path.{◌≡◌, refl, sym, ap, subst, ◌∙◌}
use mathlib.Core.Bool.{Bool, true, false}
use mathlib.Core.List.{List}
use mathlib.Core.Logic.{◌⊎◌, inl, inr}
use borrow.Author.Tests.{le-leb, ne_eqb}
use Rattle.base.specs.Choice.{when◌then◌else◌, ◌=?◌, ◌≤?◌}
use Rattle.base.proofs.Choices.{true_false, if_is_true, if_is_false}
use Rattle.line.specs.Gaps.{IsCharacter, is_sound, is_with_damage}
use Rattle.line.specs.Reader.{idle, gapped, taken}
use Rattle.line.specs.declared.Event.{Event}
use Rattle.line.specs.declared.Event.TheVariants.{Nothing, PassedOver, Broken, Frame, Damaged}
use Rattle.line.specs.declared.Heard.{Heard}
use Rattle.line.specs.declared.Heard.TheVariants.{Silence, Character}
use Rattle.line.specs.declared.Profile.{Profile}
use Rattle.line.specs.declared.Receiver.{Receiver}
use Rattle.line.specs.declared.Taken.{Taken}
use Rattle.line.proofs.Ticks.{Inside, gapped_takes}
use Rattle.turns.specs.Master as M
use Rattle.turns.specs.Party.{is_broadcast}
use Rattle.turns.specs.Master.{Ending, own_rt1, quiet_time, has_message, at_break, if_awaiting, rt1_ends, timer_counted, burst_counted, after_break, master_takes}
use Rattle.turns.specs.Device as D
use Rattle.turns.specs.Device.{back_due, broken_due, device_takes}
use Rattle.turns.specs.Gaps.{ToSend, message_waits, retry_left, behind_break}
use Rattle.turns.specs.declared.Stage.{Stage}
use Rattle.turns.specs.declared.Stage.TheVariants.{Free, Waiting, Awaiting}
use Rattle.turns.specs.declared.Turn.TheVariants.{Listens}
use Rattle.turns.specs.declared.Timer.{Timer}
use Rattle.turns.specs.declared.Master.{Master}
use Rattle.turns.specs.declared.MasterTold.{MasterTold}
use Rattle.turns.specs.declared.MasterTaken.{MasterTaken}
use Rattle.turns.specs.declared.Device.{Device}
use Rattle.turns.specs.declared.DeviceTold.{DeviceTold}
use Rattle.turns.specs.declared.DeviceTaken.{DeviceTaken}
use Rattle.turns.proofs.Bursting.{if_both}
use Rattle.turns.proofs.Masters.{Still, is_free, is_waiting, is_awaiting}
use Rattle.turns.proofs.Silent.{master_passed, master_second, device_passed, device_second}

-- the same master or device, whose reader has passed over a silent tick
abbrev pub master_gapped : Master → Master
master_gapped m = M.master_with m (gapped m.receiver) m.burst m.noted m.timer m.message

abbrev pub device_gapped : Device → Device
device_gapped d = D.device_with d (gapped d.receiver) d.turn d.request d.wish d.length d.due

-- ---- one silent tick inside a frame: all but the reader stays, and nothing is told

module _ (m : Master) (bytes : List ℕ) (hears : m.deaf ≡ false) (inside : Inside m.receiver.place) where
  pub master_still : m.receiver.gap ≡ false → master_takes m Silence bytes ≡ M.tells (master_gapped m) MasterTold.Nothing Nothing
  unfolding master_takes
  master_still e = if_is_false m.deaf _ _ hears ∙ master_passed m inside e

module _ (d : Device) (hears : d.deaf ≡ false) (inside : Inside d.receiver.place) where
  pub device_still : d.receiver.gap ≡ false → device_takes d Silence ≡ D.tells (device_gapped d) DeviceTold.Nothing Nothing
  unfolding device_takes
  device_still e = if_is_false d.deaf _ _ hears ∙ device_passed d inside e

-- what comes behind it is taken as if it had not been
character_still : (m : Master) (r : Receiver) (event : Event) (bytes : List ℕ)
    → M.on_character (master_gapped m) r event bytes ≡ M.on_character m r event bytes
character_still m r Nothing bytes = refl
character_still m r PassedOver bytes = refl
character_still m r Broken bytes = refl
character_still m r (Frame w) bytes = refl
character_still m r (Damaged w h) bytes = refl

device_character_still : (d : Device) (r : Receiver) (event : Event)
    → D.on_character (device_gapped d) r event ≡ D.on_character d r event
device_character_still d r Nothing = refl
device_character_still d r PassedOver = refl
device_character_still d r Broken = refl
device_character_still d r (Frame w) = refl
device_character_still d r (Damaged w h) = refl

pub master_as_if : (m : Master) (heard : Heard) (bytes : List ℕ) → m.deaf ≡ false → IsCharacter heard → master_takes (master_gapped m) heard bytes ≡ master_takes m heard bytes
unfolding master_takes
master_as_if m (Character c) bytes hears is_sound =
    if_is_false m.deaf _ _ hears ∙ ap (λ (t : Taken). M.on_character (master_gapped m) t.receiver t.event bytes) (gapped_takes m.receiver is_sound)
    ∙ character_still m (taken m.receiver (Character c)).receiver (taken m.receiver (Character c)).event bytes ∙ sym (if_is_false m.deaf _ _ hears)
master_as_if m (Heard.Damaged c kind) bytes hears is_with_damage =
    if_is_false m.deaf _ _ hears ∙ ap (λ (t : Taken). M.on_character (master_gapped m) t.receiver t.event bytes) (gapped_takes m.receiver is_with_damage)
    ∙ character_still m (taken m.receiver (Heard.Damaged c kind)).receiver (taken m.receiver (Heard.Damaged c kind)).event bytes ∙ sym (if_is_false m.deaf _ _ hears)
master_as_if m Silence bytes hears x'' = elim x'' [ ]

pub device_as_if : (d : Device) (heard : Heard) → d.deaf ≡ false → IsCharacter heard → device_takes (device_gapped d) heard ≡ device_takes d heard
unfolding device_takes
device_as_if d (Character c) hears is_sound =
    if_is_false d.deaf _ _ hears ∙ ap (λ (t : Taken). D.on_character (device_gapped d) t.receiver t.event) (gapped_takes d.receiver is_sound)
    ∙ device_character_still d (taken d.receiver (Character c)).receiver (taken d.receiver (Character c)).event ∙ sym (if_is_false d.deaf _ _ hears)
device_as_if d (Heard.Damaged c kind) hears is_with_damage =
    if_is_false d.deaf _ _ hears ∙ ap (λ (t : Taken). D.on_character (device_gapped d) t.receiver t.event) (gapped_takes d.receiver is_with_damage)
    ∙ device_character_still d (taken d.receiver (Heard.Damaged c kind)).receiver (taken d.receiver (Heard.Damaged c kind)).event ∙ sym (if_is_false d.deaf _ _ hears)
device_as_if d Silence hears x'' = elim x'' [ ]

-- ---- a master in silence, free or with a message that waits

abbrev pub FreeOrWaiting : Stage → Type 0
FreeOrWaiting s = (s ≡ Free) ⊎ (s ≡ Waiting)

-- no window is open, and so many silent ticks are left until one opens
pub data Left (k : ℕ) (m : Master) : Type 0 where
  clear : m.burst ≡ false → m.timer.next ≡ k → m.timer.window ≡ 0 → Left k m
  set : m.burst ≡ true → m.timer.quiet ≡ k → m.timer.next ≡ 0 → m.timer.window ≡ 0 → Left k m

pub shut : {k : ℕ} {m : Master} → Left k m → m.timer.window ≡ 0
shut (clear b n w) = w
shut (set b q n w) = w

pub record Counted (m t : Master) : Type 0 where
  pub timer_is : t.timer ≡ timer_counted m
  pub burst_is : t.burst ≡ burst_counted m
  pub same_stage : t.message.stage ≡ m.message.stage
  pub same_profile : t.profile ≡ m.profile
  pub same_receiver : t.receiver ≡ m.receiver
  pub same_deaf : t.deaf ≡ m.deaf

-- it awaits no ACK
none_ends : {s : Stage} → FreeOrWaiting s → rt1_ends s ≡ false
none_ends (inl e) = ap rt1_ends e
none_ends (inr e) = ap rt1_ends e

none_waited : {s : Stage} → FreeOrWaiting s → M.waited s ≡ s
none_waited (inl e) = ap M.waited e ∙ sym e
none_waited (inr e) = ap M.waited e ∙ sym e

pub counted : (m : Master) (told : MasterTold) (event : Event) → FreeOrWaiting m.message.stage → Counted m (M.counts m told event).master
counted m told event v =
    let e = if_is_false (rt1_ends m.message.stage) _ _ (none_ends v) in
    record {
      timer_is = ap (λ (t : MasterTaken). t.master.timer) e;
      burst_is = ap (λ (t : MasterTaken). t.master.burst) e;
      same_stage = ap (λ (t : MasterTaken). t.master.message.stage) e ∙ none_waited v;
      same_profile = ap (λ (t : MasterTaken). t.master.profile) e;
      same_receiver = ap (λ (t : MasterTaken). t.master.receiver) e;
      same_deaf = ap (λ (t : MasterTaken). t.master.deaf) e;
    }

-- a silent tick before the timer's end
pub one_less : (k : ℕ) {m t : Master} → Counted m t → Left (suc (suc k)) m → Left (suc k) t
one_less k {m} {t} c (clear off n w) =
    let e = c.timer_is ∙ if_is_false m.burst _ _ off ∙ if_is_false (m.timer.next =? 1) _ _ (ne_eqb m.timer.next 1 (λ z. omega (arith, z, n))) in
    let next : t.timer.next ≡ m.timer.next - 1 = ap (λ (x : Timer). x.next) e in
    let window : t.timer.window ≡ m.timer.window - 1 = ap (λ (x : Timer). x.window) e in
    clear (c.burst_is ∙ if_is_false m.burst _ _ off) (omega (arith, next, n)) (omega (arith, window, w))
one_less k {m} {t} c (set on q n w) =
    let late = ne_eqb m.timer.quiet 1 (λ z. omega (arith, z, q)) in
    let e = c.timer_is ∙ if_is_true m.burst _ _ on ∙ if_is_false (m.timer.quiet =? 1) _ _ late ∙ if_is_false (m.timer.next =? 1) _ _ (ap (λ (z : ℕ). z =? 1) n) in
    let next : t.timer.next ≡ m.timer.next - 1 = ap (λ (x : Timer). x.next) e in
    let window : t.timer.window ≡ m.timer.window - 1 = ap (λ (x : Timer). x.window) e in
    let quiet : t.timer.quiet ≡ m.timer.quiet - 1 = ap (λ (x : Timer). x.quiet) e in
    set (c.burst_is ∙ if_is_true m.burst _ _ on ∙ if_is_false (m.timer.quiet =? 1) _ _ late) (omega (arith, quiet, q)) (omega (arith, next, n)) (omega (arith, window, w))

-- at its end a window opens
pub opens : {m t : Master} → Counted m t → Left 1 m → t.timer.window ≡ m.profile.hold
opens {m} c (clear off n w) = ap (λ (x : Timer). x.window) (c.timer_is ∙ if_is_false m.burst _ _ off ∙ if_is_true (m.timer.next =? 1) _ _ (ap (λ (z : ℕ). z =? 1) n))
opens {m} c (set on q n w) = ap (λ (x : Timer). x.window) (c.timer_is ∙ if_is_true m.burst _ _ on ∙ if_is_true (m.timer.quiet =? 1) _ _ (ap (λ (z : ℕ). z =? 1) q))

-- ---- the second silent tick, of a master

pub record RestsFor (k : ℕ) (m : Master) : Type 0 where
  pub hears : m.deaf ≡ false
  pub idle_is : m.receiver ≡ idle
  pub awaits_none : FreeOrWaiting m.message.stage
  pub some_hold : 1 ≤ m.profile.hold
  pub left : Left k m

-- the attempt that is awaited fails: its retry waits, or the message has ended
abbrev stage_behind : Master → Stage
stage_behind m = (if_awaiting m.message.stage m.message (at_break m)).message.stage

none_awaited : (m : Master) → Still m.message.stage → FreeOrWaiting (stage_behind m)
none_awaited m v = by m.message.stage refl v
  where
    P : Ending → Type 0
    P z = FreeOrWaiting z.message.stage

    by : (s : Stage) → m.message.stage ≡ s → Still s → P (if_awaiting s m.message (at_break m))
    by Free e is_free = inl e
    by Waiting e is_waiting = inr e
    by (Awaiting n) e (is_awaiting k) =
        if_both P (is_broadcast m.message.header) _ _ (inl refl) (if_both P (m.message.attempts ≤? m.retries) _ _ (inr refl) (inl refl))
    by (Rattle.turns.specs.declared.Stage.TheVariants.Sending _) e x3 = elim x3 [ ]

retries_now : (m : Master) → ToSend m → stage_behind m ≡ Waiting
retries_now m (message_waits e) = ap (λ (s : Stage). (if_awaiting s m.message (at_break m)).message.stage) e ∙ e
retries_now m (retry_left n e b r) =
    ap (λ (s : Stage). (if_awaiting s m.message (at_break m)).message.stage) e
    ∙ ap (λ (z : Ending). z.message.stage) (if_is_false (is_broadcast m.message.header) _ _ b ∙ if_is_true (m.message.attempts ≤? m.retries) _ _ (le-leb m.message.attempts m.retries r))

break_left : (m : Master) → Left (behind_break m) (after_break m idle Broken).master
unfolding when◌then◌else◌
break_left m = go m.burst refl
  where
    go : (b : Bool) → m.burst ≡ b → Left (when b then quiet_time m.profile m.primary else own_rt1 m.profile m.primary) (M.master_with m idle m.burst m.noted (M.timer_after m.profile m.primary M.broken b) (if_awaiting m.message.stage m.message (at_break m)).message)
    go true e = set e refl refl refl
    go false e = clear e refl refl

-- "both then count": two silent ticks less are left
pub record Broke (k : ℕ) (m t : Master) : Type 0 where
  pub waits : RestsFor k t
  pub to_send : ToSend m → ToSend t

pub both_count_at_rest : (k : ℕ) (m : Master) (bytes : List ℕ) → m.deaf ≡ false → Inside m.receiver.place → m.receiver.gap ≡ true → Still m.message.stage → 1 ≤ m.profile.hold → behind_break m ≡ suc (suc (suc k))
    → Broke (suc k) m (master_takes m Silence bytes).master
unfolding master_takes
both_count_at_rest k m bytes hears inside second still hold e =
    let takes = if_is_false m.deaf _ _ hears ∙ master_second m inside second in
    let b : Master = (after_break m idle Broken).master in
    let told : MasterTold = (after_break m idle Broken).told in
    let once : MasterTaken = M.counts b told Broken in
    let none : FreeOrWaiting b.message.stage = none_awaited m still in
    let first : Counted b once.master = counted b told Broken none in
    let again : Counted once.master (M.counts_twice b told Broken).master = counted once.master once.told Broken (subst FreeOrWaiting (sym first.same_stage) none) in
    let left : Left (suc (suc (suc k))) b = subst (λ (n : ℕ). Left n b) e (break_left m) in
    let stage = again.same_stage ∙ first.same_stage in
    subst (λ (t : MasterTaken). Broke (suc k) m t.master) (sym takes)
    (record {
      waits = record {
        hears = again.same_deaf ∙ first.same_deaf ∙ hears;
        idle_is = again.same_receiver ∙ first.same_receiver;
        awaits_none = subst FreeOrWaiting (sym stage) none;
        some_hold = subst (λ (p : Profile). 1 ≤ p.hold) (sym (again.same_profile ∙ first.same_profile)) hold;
        left = one_less k again (one_less (suc k) first left);
      };
      to_send = λ d. message_waits (stage ∙ retries_now m d);
    })

-- a message that waits, or whose retry is due: it waits, and two silent ticks less are left
pub record Waits (k : ℕ) (m : Master) : Type 0 where
  pub hears : m.deaf ≡ false
  pub idle_is : m.receiver ≡ idle
  pub stage_is : m.message.stage ≡ Waiting
  pub some_hold : 1 ≤ m.profile.hold
  pub left : Left k m

pub to_still : {m : Master} → ToSend m → Still m.message.stage
to_still (message_waits e) = subst Still (sym e) is_waiting
to_still (retry_left n e b r) = subst Still (sym e) (is_awaiting n)

-- a message that is not awaited waits
pub it_waits : {m : Master} → FreeOrWaiting m.message.stage → ToSend m → m.message.stage ≡ Waiting
it_waits v (message_waits e) = e
it_waits (inl f) (retry_left n e b r) = absurd (true_false (sym (ap has_message e) ∙ ap has_message f))
it_waits (inr f) (retry_left n e b r) = f

pub both_count : (k : ℕ) (m : Master) (bytes : List ℕ) → m.deaf ≡ false → Inside m.receiver.place → m.receiver.gap ≡ true → ToSend m → 1 ≤ m.profile.hold → behind_break m ≡ suc (suc (suc k)) → Waits (suc k) (master_takes m Silence bytes).master
both_count k m bytes hears inside second due hold e =
    let b : Broke (suc k) m (master_takes m Silence bytes).master = both_count_at_rest k m bytes hears inside second (to_still due) hold e in
    let w = b.waits in
    record { hears = w.hears; idle_is = w.idle_is; stage_is = it_waits w.awaits_none (b.to_send due); some_hold = w.some_hold; left = w.left }

-- ---- and of a bursting device

-- a bursting device that listens: so many silent ticks are left
pub record DueIn (k : ℕ) (d : Device) : Type 0 where
  pub hears : d.deaf ≡ false
  pub idle_is : d.receiver ≡ idle
  pub turn_is : d.turn ≡ Listens
  pub bursts : d.burst ≡ true
  pub due_is : d.due ≡ k

-- a silent tick before the timer's end
pub counts_due : (k due : ℕ) (d : Device) (event : Event) → d.deaf ≡ false → d.turn ≡ Listens → d.burst ≡ true → due ≡ suc (suc k) → DueIn (suc k) (D.counts d idle due event).device
counts_due k due d event hears turn burst e =
    let early : back_due d due ≡ false = if_is_true d.burst _ _ burst ∙ ne_eqb due 1 (λ z. omega arith) in
    record { hears = hears; idle_is = refl; turn_is = if_is_false (back_due d due) _ _ early ∙ ap D.waited turn; bursts = burst; due_is = omega arith }

pub both_count_due : (k : ℕ) (d : Device) → d.deaf ≡ false → Inside d.receiver.place → d.receiver.gap ≡ true → d.turn ≡ Listens → d.burst ≡ true → d.profile.rt1p ≡ suc (suc (suc k)) → DueIn (suc k) (device_takes d Silence).device
unfolding device_takes
both_count_due k d hears inside second turn burst e =
    let takes = if_is_false d.deaf _ _ hears ∙ device_second d inside second in
    subst (λ (t : DeviceTaken). DueIn (suc k) t.device) (sym takes) (counts_due k (broken_due d) d Broken hears turn burst (omega (arith, e)))
