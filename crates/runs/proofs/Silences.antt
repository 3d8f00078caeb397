-- The silent line goes on: a silent tick with BURST clear, and one with BURST set.
use Prim.Native.Nat.{ℕ, ◌+◌, ◌-◌, ◌*◌, ◌≤◌, ◌<◌}
use native.Mathlib.Omega.{arith}
use mathlib.Core.Path.{◌≡◌, refl, sym, ap, subst, ◌∙◌}
use mathlib.Core.Bool.{Bool, true, false}
use mathlib.Core.List.{List}
use mathlib.Core.Logic.{◌⊎◌, inl, inr}
use borrow.Author.Tests.{ne_eqb}
use Rattle.base.specs.Choice.{when◌then◌else◌, ◌=?◌}
use Rattle.base.proofs.Choices.{true_false, if_is_true, if_is_false}
use Rattle.frame.specs.declared.Header.{Header}
use Rattle.line.specs.declared.Heard.TheVariants.{Silence}
use Rattle.line.specs.declared.Profile.{Profile}
use Rattle.turns.specs.Master.{count_clear, count_burst, timer_counted, burst_counted}
use Rattle.turns.specs.Link.{MasterCall, DeviceCall, MasterSide, MasterStep, DeviceSide, DeviceStep, master_tick, device_ticks, sides}
use Rattle.turns.specs.Run.{Distinct, Sole}
use Rattle.runs.proofs.Fair.{SoleTag}
use Rattle.turns.specs.declared.Noted.{Noted}
use Rattle.turns.specs.declared.Sent.{Sent}
use Rattle.turns.specs.declared.Timer.{Timer}
use Rattle.turns.proofs.Windows as W
use Rattle.turns.proofs.Windows.{Valid, Counted, CountedBurst, counted, counted_burst, apart_next, one_window, Slot, OneSlot, one_slot_next, one_slot_window, slot_last, shut_next, running}
use Rattle.turns.proofs.Lists.{all_sides, all_distinct, agreed_same}
use Rattle.turns.proofs.Phases.{Agreed, MasterQuiet, ClearWindows, primary_first, secondary_first, ShutFor}
use Rattle.runs.proofs.Beginning.{AllStill, SilentDevices, silent_devices}
use Rattle.turns.proofs.Quiet.{Asked, ClearLine, SetLine, none_due, NoSlot}
use Rattle.runs.proofs.SilentTick.{MasterRests, MasterTick, SilentTick, master_tick_lem, silent_tick, still_all}

-- ---- BURST clear

pub clear_timer : (p : Profile) (x : MasterSide) → x.master.profile ≡ p → x.master.burst ≡ false → timer_counted x.master ≡ count_clear p x.master.timer
clear_timer p x e b = if_is_false x.master.burst _ _ b ∙ ap (λ (q : Profile). count_clear q x.master.timer) e

pub clear_counts : (p : Profile) (x : MasterSide) → x.master.profile ≡ p → x.master.burst ≡ false → (t : Timer) → t.next ≡ (timer_counted x.master).next → t.window ≤ (timer_counted x.master).window → Counted p x.master.timer t
clear_counts p x e b t n w = counted p x.master.timer t (n ∙ ap (λ (u : Timer). u.next) (clear_timer p x e b)) (subst (λ (u : Timer). t.window ≤ u.window) (clear_timer p x e b) w)

windows_next : (p : Profile) → Valid p → (a b c d : Timer) → Counted p a c → Counted p b d → ClearWindows p a b → ClearWindows p c d
windows_next p v a b c d x y (primary_first gap g w) = primary_first gap g (apart_next p gap a b c d v g x y w)
windows_next p v a b c d x y (secondary_first gap g w) = secondary_first gap g (apart_next p gap b a d c v g y x w)

not_both : (p : Profile) (a b : Timer) → ClearWindows p a b → 0 < a.window → 0 < b.window → ⊥
not_both p a b (primary_first gap g w) x y = one_window p gap a b w x y
not_both p a b (secondary_first gap g w) x y = one_window p gap b a w y x

-- while an answer may begin no window is open
pub shut_on : (p : Profile) (g : ℕ) (t u : Timer) → Counted p t u → ShutFor g t → 1 ≤ g → u.window ≡ 0
shut_on p g t u (W.Counted.opens a b c) s z = absurd (omega (arith, s.later z))
shut_on p g t u (W.Counted.goes a b c) s z = omega (arith, s.shut z)

pub shut_for : (p : Profile) (g : ℕ) (t u : Timer) → Counted p t u → ShutFor g t → ShutFor (g - 1) u
shut_for p g t u c s = record { shut = λ z. shut_on p g t u c s (omega arith); later = λ z. go c z }
  where
    go : Counted p t u → 1 ≤ g - 1 → g - 1 < u.next
    go (W.Counted.opens a b e) z = absurd (omega (arith, s.later (omega arith)))
    go (W.Counted.goes a b e) z = omega (arith, s.later (omega arith))

-- ---- BURST set

record SetCounts (p : Profile) (t u : Timer) : Type 0 where
  counts : CountedBurst p t u
  quiet_is : u.quiet ≡ t.quiet - 1

count_quiet : (p : Profile) (t : Timer) → (count_burst p t).quiet ≡ t.quiet - 1
unfolding when◌then◌else◌
count_quiet p t = go (t.next =? 1)
  where
    by : Bool → Timer
    by b = when b then record { next = 0; window = p.hold; quiet = t.quiet - 1 } else record { next = t.next - 1; window = t.window - 1; quiet = t.quiet - 1 }

    go : (b : Bool) → (by b).quiet ≡ t.quiet - 1
    go true = refl
    go false = refl

pub set_timer : (p : Profile) (x : MasterSide) → x.master.profile ≡ p → x.master.burst ≡ true → 1 < x.master.timer.quiet → timer_counted x.master ≡ count_burst p x.master.timer
set_timer p x e b q =
    if_is_true x.master.burst _ _ b ∙ if_is_false (x.master.timer.quiet =? 1) _ _ (ne_eqb x.master.timer.quiet 1 (λ z. omega (arith, z, q))) ∙ ap (λ (r : Profile). count_burst r x.master.timer) e

set_burst : (x : MasterSide) → x.master.burst ≡ true → 1 < x.master.timer.quiet → burst_counted x.master ≡ true
set_burst x b q = if_is_true x.master.burst _ _ b ∙ if_is_false (x.master.timer.quiet =? 1) _ _ (ne_eqb x.master.timer.quiet 1 (λ z. omega (arith, z, q)))

set_counts : (p : Profile) (x : MasterSide) → x.master.profile ≡ p → x.master.burst ≡ true → 1 < x.master.timer.quiet → (t : Timer) → t.next ≡ (timer_counted x.master).next → t.quiet ≡ (timer_counted x.master).quiet
    → t.window ≤ (timer_counted x.master).window → SetCounts p x.master.timer t
set_counts p x e b q t n k w =
    let is = set_timer p x e b q in
    record {
      counts = counted_burst p x.master.timer t (n ∙ ap (λ (u : Timer). u.next) is) (subst (λ (u : Timer). t.window ≤ u.window) is w);
      quiet_is = k ∙ ap (λ (u : Timer). u.quiet) is ∙ count_quiet p x.master.timer;
    }

first_slot : {p : Profile} {n : ℕ} {a b : Timer} → OneSlot p n a b → Slot p n a
first_slot (W.OneSlot.first_shut e f s) = W.shut e f
first_slot (W.OneSlot.second_shut e f s) = s

second_slot : {p : Profile} {n : ℕ} {a b : Timer} → OneSlot p n a b → Slot p n b
second_slot (W.OneSlot.first_shut e f s) = s
second_slot (W.OneSlot.second_shut e f s) = W.shut e f

no_slot_next : (p : Profile) (t u : Timer) → CountedBurst p t u → NoSlot t → NoSlot u
no_slot_next p t u c s = let q = shut_next p t u c s.no_next s.no_window in record { no_next = q.0; no_window = q.1 }

-- where a device begins no window is open
slot_shut : (p : Profile) (g n : ℕ) (t u : Timer) → 1 ≤ p.hold → CountedBurst p t u → (1 ≤ g → NoSlot t) → Slot p n t → (1 ≤ g) ⊎ (n ≡ 1) → u.window ≡ 0
slot_shut p g n t u h c s k (inl z) = (no_slot_next p t u c (s z)).no_window
slot_shut p g n t u h c s k (inr e) = slot_last p t u h c (subst (λ (i : ℕ). Slot p i t) e k)

-- ---- the tick with BURST clear

-- where one master's window is about to open, the other's is not far
pub near_other : (p : Profile) → Valid p → (a b : Timer) → ClearWindows p a b → a.next ≤ 1 → b.next ≤ p.rt2 + 2
near_other p v a b (primary_first gap g (W.waiting e f h i)) z = omega (arith, g.most)
near_other p v a b (primary_first gap g (W.first_open e f h i j)) z = omega (arith, g.most)
near_other p v a b (primary_first gap g (W.first_shut e f h i j)) z = omega (arith, g.most)
near_other p v a b (primary_first gap g (W.second_open e f h i j)) z = omega (arith, g.most)
near_other p v a b (primary_first gap g (W.second_shut e f h i j)) z = omega (arith, g.most)
near_other p v a b (secondary_first gap g (W.waiting e f h i)) z = omega (arith, g.most)
near_other p v a b (secondary_first gap g (W.first_open e f h i j)) z = omega (arith, g.least)
near_other p v a b (secondary_first gap g (W.first_shut e f h i j)) z = omega (arith, g.least)
near_other p v a b (secondary_first gap g (W.second_open e f h i j)) z = omega (arith, g.most)
near_other p v a b (secondary_first gap g (W.second_shut e f h i j)) z = omega (arith, g.most)

-- both timers run
pub clear_runs : (p : Profile) → Valid p → (a b : Timer) → ClearWindows p a b → (1 ≤ a.next) × (1 ≤ b.next)
clear_runs p v a b (primary_first gap g w) = running p gap a b v g w
clear_runs p v a b (secondary_first gap g w) = let r = running p gap b a v g w in (r.1, r.0)

pub swapped : {p : Profile} {a b : Timer} → ClearWindows p a b → ClearWindows p b a
swapped (primary_first gap g w) = secondary_first gap g w
swapped (secondary_first gap g w) = primary_first gap g w

-- a timer that opens, or counts, stays near
near_next : (p : Profile) → Valid p → (e : ℕ) (t u : Timer) → Counted p t u → t.next ≤ 2 * p.rt2 + e → u.next ≤ 2 * p.rt2 + (e - 1)
near_next p v e t u (W.Counted.opens a b c) z = omega arith
near_next p v e t u (W.Counted.goes a b c) z = omega arith

-- RT1 ends where the window opens
awaits_next : (p : Profile) (k : ℕ) (t u : Timer) → Counted p t u → (1 ≤ k → t.next ≡ k) → 1 ≤ k - 1 → u.next ≡ k - 1
awaits_next p k t u (W.Counted.opens a b c) f z = absurd (omega (arith, f (omega arith)))
awaits_next p k t u (W.Counted.goes a b c) f z = omega (arith, f (omega arith))

near_both : (p : Profile) → Valid p → (e j k : ℕ) (a b c d : Timer) → Counted p a c → Counted p b d → ClearWindows p a b → (1 ≤ j → a.next ≡ j) → (1 ≤ k → b.next ≡ k)
    → (j ≡ 0 → k ≡ 0 → (a.next ≤ 2 * p.rt2 + e) × (b.next ≤ 2 * p.rt2 + e)) → j - 1 ≡ 0 → k - 1 ≡ 0 → (c.next ≤ 2 * p.rt2 + (e - 1)) × (d.next ≤ 2 * p.rt2 + (e - 1))
near_both p v e j k a b c d x y w fa fb near zj zk = go (native.Mathlib.Decide.dec_le 1 j) (native.Mathlib.Decide.dec_le 1 k)
  where
    by : a.next ≤ 2 * p.rt2 + e → b.next ≤ 2 * p.rt2 + e → (c.next ≤ 2 * p.rt2 + (e - 1)) × (d.next ≤ 2 * p.rt2 + (e - 1))
    by na nb = (near_next p v e a c x na, near_next p v e b d y nb)

    go : Dec (1 ≤ j) → Dec (1 ≤ k) → (c.next ≤ 2 * p.rt2 + (e - 1)) × (d.next ≤ 2 * p.rt2 + (e - 1))
    go (yes q) r = by (omega (arith, fa q, v.hold_short)) (omega (arith, near_other p v a b w (omega (arith, fa q)), v.hold_short, v.some_hold))
    go (no q) (yes r) = by (omega (arith, near_other p v b a (swapped w) (omega (arith, fb r)), v.hold_short, v.some_hold)) (omega (arith, fb r, v.hold_short))
    go (no q) (no r) = let n = near (omega arith) (omega arith) in by n.0 n.1

-- the time for an answer is one tick shorter, and so is the time for which it is awaited
pub asked_next : {g : ℕ} {h : Header} {a b : MasterSide} {s t : MasterStep} → Asked g h a b → MasterRests a s → MasterRests b t → Asked (g - 1) h s.side t.side
asked_next k ra rb = record {
  by_primary = λ z e. omega (arith, ra.one_less, k.by_primary (omega arith) e);
  by_secondary = λ z e. omega (arith, rb.one_less, k.by_secondary (omega arith) e);
  primary_header = λ z e. k.primary_header (omega arith) e ∙ sym (ra.same_header (omega (arith, ra.one_less, k.by_primary (omega arith) e)));
  secondary_header = λ z e. k.secondary_header (omega arith) e ∙ sym (rb.same_header (omega (arith, rb.one_less, k.by_secondary (omega arith) e)));
}

-- a master's silent tick with BURST clear
pub clear_master : (limit : ℕ) → limit ≤ 255 → (p : Profile) (primary : Bool) (noted : Noted) (x : MasterSide) (c : MasterCall) → MasterQuiet p primary false noted x → MasterTick p primary false noted (Counted p x.master.timer) x (master_tick limit x Silence c)
clear_master limit high p primary noted x c q =
    master_tick_lem limit high p primary false noted (Counted p x.master.timer) x c q (if_is_false x.master.burst _ _ q.burst_is) (λ t n k m. clear_counts p x q.listens.is_it.profile_is q.burst_is t n m)

-- and of the link, whether the masters' windows are in step or not: while an answer may begin no window is open, and no BACK is due
pub clear_silent : (p : Profile) (g : ℕ) (h : Header) (noted : Noted) (L : Type 0) {a b : MasterSide} {s t : MasterStep} {xs : List DeviceSide} {ss : List DeviceStep} → Distinct xs → Agreed false noted true xs → Sole (sides ss) → Asked g h a b
    → ShutFor g a.master.timer → ShutFor g b.master.timer
    → ((x y : Timer) (i j : ℕ) → Counted p a.master.timer x → Counted p b.master.timer y → 0 < x.window → 0 < y.window → s.sent ≡ Sent.Character i → t.sent ≡ Sent.Character j → ⊥)
    → (Counted p a.master.timer s.side.master.timer → Counted p b.master.timer t.side.master.timer → MasterQuiet p true false noted s.side → MasterQuiet p false false noted t.side → MasterRests a s → MasterRests b t → AllStill p g h 0 xs ss → L)
    → MasterTick p true false noted (Counted p a.master.timer) a s → MasterTick p false false noted (Counted p b.master.timer) b t → SilentDevices p g h 0 xs ss → SilentTick p 0 false noted true a b s t ss L
clear_silent p g h noted L {a} {b} distinct agreed sole asked sa sb two stay ma mb d =
    silent_tick p g h 0 false noted true (Counted p a.master.timer) (Counted p b.master.timer) L distinct agreed sole asked two
    (λ z c x. shut_now z c (shut_on p g a.master.timer c x sa))
    (λ z c x. shut_now z c (shut_on p g b.master.timer c x sb))
    (λ c x z off. refl)
    (λ c x z off. absurd (true_false (sym off)))
    (λ x y na nb no ra rb still. stay x y na nb ra rb still)
    ma mb d
  where
    shut_now : (1 ≤ g) ⊎ (◌≡◌ {A = ℕ} 0 1) → (c : Timer) → (1 ≤ g → c.window ≡ 0) → c.window ≡ 0
    shut_now (inl z) c f = f z
    shut_now (inr e) c f = absurd (omega (arith, e))

module _ (limit : ℕ) (low : 2 ≤ limit) (high : limit ≤ 255) (p : Profile) (v : Valid p) (a b : MasterSide) (xs : List DeviceSide) (ca cb : MasterCall) (cs : List DeviceCall) where
  pub clear_tick : (e : ℕ) (l : ClearLine p e a b xs) → Sole (sides (device_ticks limit Silence xs cs)) × SoleTag (sides (device_ticks limit Silence xs cs))
      → SilentTick p 0 false l.noted true a b (master_tick limit a Silence ca) (master_tick limit b Silence cb) (device_ticks limit Silence xs cs)
      (ClearLine p (e - 1) (master_tick limit a Silence ca).side (master_tick limit b Silence cb).side (sides (device_ticks limit Silence xs cs)))
  clear_tick e l sole =
      let w = l.windows in
      clear_silent p l.g l.h l.noted _ l.distinct l.agreed sole.0 l.asked l.primary_shut l.secondary_shut
      (λ c d i j x y k m ec ed. not_both p c d (windows_next p v a.master.timer b.master.timer c d x y w) k m)
      (λ x y na nb ra rb still.
      let all = still_all still in
      let ag = agreed_same all l.agreed in
      record {
        g = l.g - 1;
        h = l.h;
        short = omega (arith, l.short);
        noted = l.noted;
        primary = na;
        secondary = nb;
        windows = windows_next p v _ _ _ _ x y w;
        primary_shut = shut_for p l.g _ _ x l.primary_shut;
        secondary_shut = shut_for p l.g _ _ y l.secondary_shut;
        devices = none_due ag.each (all_sides all);
        distinct = all_distinct all l.distinct;
        agreed = ag;
        asked = asked_next l.asked ra rb;
        primary_awaits = λ z. awaits_next p _ _ _ x l.primary_awaits (omega (arith, ra.one_less)) ∙ sym ra.one_less;
        secondary_awaits = λ z. awaits_next p _ _ _ y l.secondary_awaits (omega (arith, rb.one_less)) ∙ sym rb.one_less;
        primary_most = omega (arith, ra.one_less, l.primary_most);
        secondary_most = omega (arith, rb.one_less, l.secondary_most);
        near = λ j k. near_both p v e _ _ _ _ _ _ x y w l.primary_awaits l.secondary_awaits l.near (sym ra.one_less ∙ j) (sym rb.one_less ∙ k);
      })
      (clear_master limit high p true l.noted a ca l.primary)
      (clear_master limit high p false l.noted b cb l.secondary)
      (silent_devices limit low high p v.some_sto l.g l.h 0 (λ x e. omega (arith, e)) false l.noted true cs l.devices l.distinct l.agreed.each sole.1)

  -- ---- and with BURST set

  pub set_tick : (n : ℕ) (next : Bool) (l : SetLine p n next a b xs) → Sole (sides (device_ticks limit Silence xs cs)) × SoleTag (sides (device_ticks limit Silence xs cs))
      → SilentTick p n true l.noted next a b (master_tick limit a Silence ca) (master_tick limit b Silence cb) (device_ticks limit Silence xs cs)
      (SetLine p (n - 1) next (master_tick limit a Silence ca).side (master_tick limit b Silence cb).side (sides (device_ticks limit Silence xs cs)))
  set_tick n next l sole =
      silent_tick p l.g l.h n true l.noted next (SetCounts p a.master.timer) (SetCounts p b.master.timer) _ l.distinct l.agreed sole.0 l.asked
      (λ c e i j x y k m ec ed. one_slot_window p (n - 1) c e (one_slot_next p n a.master.timer b.master.timer c e x.counts y.counts l.slot) k m)
      (λ z c x. slot_shut p l.g n a.master.timer c v.some_hold x.counts l.primary_shut (first_slot l.slot) z)
      (λ z c x. slot_shut p l.g n b.master.timer c v.some_hold x.counts l.secondary_shut (second_slot l.slot) z)
      (λ c x z on. its_turn next refl c x z)
      (λ c x z on. others_turn next refl c x z)
      (λ x y na nb no ra rb still.
      let all = still_all still in
      let more : 1 < n = more_than_one (no_one no) in
      record {
        g = l.g - 1;
        h = l.h;
        noted = l.noted;
        primary = na;
        secondary = nb;
        slot = one_slot_next p n _ _ _ _ x.counts y.counts l.slot;
        some = omega arith;
        most = omega (arith, l.most);
        primary_quiet = omega (arith, x.quiet_is, l.primary_quiet);
        secondary_quiet = omega (arith, y.quiet_is, l.secondary_quiet);
        before = omega (arith, l.before);
        primary_shut = λ z. no_slot_next p _ _ x.counts (l.primary_shut (omega arith));
        secondary_shut = λ z. no_slot_next p _ _ y.counts (l.secondary_shut (omega arith));
        devices = all_sides all;
        distinct = all_distinct all l.distinct;
        agreed = agreed_same all l.agreed;
        asked = asked_next l.asked ra rb;
        primary_slot = λ z. no_slot_next p _ _ x.counts (l.primary_slot z);
        secondary_slot = λ z. no_slot_next p _ _ y.counts (l.secondary_slot z);
        primary_awaits = λ z. let w = l.primary_awaits (omega (arith, ra.one_less)) in (w.0, no_slot_next p _ _ x.counts w.1);
        secondary_awaits = λ z. let w = l.secondary_awaits (omega (arith, rb.one_less)) in (w.0, no_slot_next p _ _ y.counts w.1);
      })
      (master_tick_lem limit high p true true l.noted (SetCounts p a.master.timer) a ca l.primary (set_burst a l.primary.burst_is (omega (arith, l.some, l.primary_quiet)))
      (set_counts p a l.primary.listens.is_it.profile_is l.primary.burst_is (omega (arith, l.some, l.primary_quiet))))
      (master_tick_lem limit high p false true l.noted (SetCounts p b.master.timer) b cb l.secondary (set_burst b l.secondary.burst_is (omega (arith, l.some, l.secondary_quiet)))
      (set_counts p b l.secondary.listens.is_it.profile_is l.secondary.burst_is (omega (arith, l.some, l.secondary_quiet))))
      (silent_devices limit low high p v.some_sto l.g l.h n (λ x e. omega (arith, l.before)) true l.noted next cs l.devices l.distinct l.agreed.each sole.1)
    where
      its_turn : (z : Bool) → next ≡ z → (c : Timer) → SetCounts p a.master.timer c → 0 < c.window → next ≡ true
      its_turn true e c x w = e
      its_turn false e c x w = absurd (omega (arith, (no_slot_next p _ _ x.counts (l.primary_slot e)).no_window))

      others_turn : (z : Bool) → next ≡ z → (c : Timer) → SetCounts p b.master.timer c → 0 < c.window → next ≡ false
      others_turn true e c x w = absurd (omega (arith, (no_slot_next p _ _ x.counts (l.secondary_slot e)).no_window))
      others_turn false e c x w = e

      no_one : (n ≡ 1 → true ≡ true → ⊥) → n ≡ 1 → ⊥
      no_one f e = f e refl

      more_than_one : (n ≡ 1 → ⊥) → 1 < n
      more_than_one f = go (native.Mathlib.Decide.dec_le n 1)
        where
          go : Dec (n ≤ 1) → 1 < n
          go (yes z) = absurd (f (omega (arith, l.some)))
          go (no z) = omega arith
