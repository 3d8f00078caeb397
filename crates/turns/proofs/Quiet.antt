-- The silent line: what holds of everyone while nobody sends, with BURST clear and with BURST set, and that it holds behind an STX and at the start.
use Prim.Native.Nat.{ℕ, ◌+◌, ◌-◌, ◌*◌, ◌≤◌, ◌<◌}
use native.Mathlib.Omega.{arith}
use mathlib.Core.Path.{◌≡◌, refl, sym, ap, ◌∙◌}
use mathlib.Core.Bool.{Bool, true, false}
use mathlib.Core.List.{List}
use borrow.Author.Tests.{eq-eqb}
use Rattle.base.specs.Choice.{when◌then◌else◌, ◌=?◌}
use Rattle.base.proofs.Choices.{true_false, if_is_true, if_is_false}
use Rattle.frame.specs.Delimiter.{stx, ack, back}
use Rattle.frame.specs.declared.Header.{Header}
use Rattle.line.specs.declared.Profile.{Profile}
use Rattle.turns.specs.Master.{burst_after, noted_after, broken, any_stx, ack_to_itself, ack_to_other, back_to_itself, back_to_other, ended_by, timer_after, burst_timer, timer, to_itself}
use Rattle.turns.specs.Link.{MasterSide, DeviceSide}
use Rattle.turns.specs.Run.{All, none, and, Distinct}
use Rattle.turns.specs.declared.Timer.{Timer}
use Rattle.turns.specs.declared.Noted.{Noted}
use Rattle.turns.specs.declared.Master.{Master}
use Rattle.turns.proofs.Masters.{left}
use Rattle.turns.proofs.Lists.{any_next}
use Rattle.turns.proofs.Windows.{Valid, waiting, Gap, shut, coming, OneSlot}
use Rattle.turns.proofs.Phases.{BurstIs, Agreed, MasterQuiet, DeviceQuiet, ClearWindows, primary_first, secondary_first, ShutFor}

-- a timer that opens no window with BURST set
pub record NoSlot (t : Timer) : Type 0 where
  pub no_next : t.next ≡ 0
  pub no_window : t.window ≡ 0

-- while an answer to the STX with the header h may begin, the master that sent it awaits it for longer
pub record Asked (g : ℕ) (h : Header) (a b : MasterSide) : Type 0 where
  pub by_primary : 1 ≤ g → h.primary ≡ true → g < left a.master.message.stage
  pub by_secondary : 1 ≤ g → h.primary ≡ false → g < left b.master.message.stage
  -- and it is that master's message
  pub primary_header : 1 ≤ g → h.primary ≡ true → h ≡ a.master.message.header
  pub secondary_header : 1 ≤ g → h.primary ≡ false → h ≡ b.master.message.header

-- BURST clear: g ticks more an answer to h may begin, and within them no window opens. In e ticks it is tick RT1 secondary.
pub record ClearLine (p : Profile) (e : ℕ) (a b : MasterSide) (xs : List DeviceSide) : Type 0 where
  pub g : ℕ
  pub h : Header
  pub short : g ≤ p.sto
  pub noted : Noted
  pub primary : MasterQuiet p true false noted a
  pub secondary : MasterQuiet p false false noted b
  pub windows : ClearWindows p a.master.timer b.master.timer
  pub primary_shut : ShutFor g a.master.timer
  pub secondary_shut : ShutFor g b.master.timer
  pub devices : All (DeviceQuiet p g h 0) xs
  pub distinct : Distinct xs
  pub agreed : Agreed false noted true xs
  pub asked : Asked g h a b
  -- a master that awaits its ACK has its next window where RT1 ends
  pub primary_awaits : 1 ≤ left a.master.message.stage → a.master.timer.next ≡ left a.master.message.stage
  pub secondary_awaits : 1 ≤ left b.master.message.stage → b.master.timer.next ≡ left b.master.message.stage
  pub primary_most : left a.master.message.stage ≤ p.rt1s
  pub secondary_most : left b.master.message.stage ≤ p.rt1s
  -- where nobody awaits, the next windows are near
  pub near : left a.master.message.stage ≡ 0 → left b.master.message.stage ≡ 0 → (a.master.timer.next ≤ 2 * p.rt2 + e) × (b.master.timer.next ≤ 2 * p.rt2 + e)

-- BURST set: a BACK is due in n ticks, before the quiet times end; `next` says whether it is for the primary
pub record SetLine (p : Profile) (n : ℕ) (next : Bool) (a b : MasterSide) (xs : List DeviceSide) : Type 0 where
  pub g : ℕ
  pub h : Header
  pub noted : Noted
  pub primary : MasterQuiet p true true noted a
  pub secondary : MasterQuiet p false true noted b
  pub slot : OneSlot p n a.master.timer b.master.timer
  pub some : 1 ≤ n
  pub most : n ≤ p.rt1p
  pub primary_quiet : n < a.master.timer.quiet
  pub secondary_quiet : n < b.master.timer.quiet
  pub before : g < n
  pub primary_shut : 1 ≤ g → NoSlot a.master.timer
  pub secondary_shut : 1 ≤ g → NoSlot b.master.timer
  pub devices : All (DeviceQuiet p g h n) xs
  pub distinct : Distinct xs
  pub agreed : Agreed true noted next xs
  pub asked : Asked g h a b
  -- only the master that the next BACK is for has a window before it
  pub primary_slot : next ≡ false → NoSlot a.master.timer
  pub secondary_slot : next ≡ true → NoSlot b.master.timer
  -- and only that one awaits its ACK, and then has none
  pub primary_awaits : 1 ≤ left a.master.message.stage → (next ≡ true) × NoSlot a.master.timer
  pub secondary_awaits : 1 ≤ left b.master.message.stage → (next ≡ false) × NoSlot b.master.timer

pub data SilentLine (p : Profile) (e : ℕ) (a b : MasterSide) (xs : List DeviceSide) : Type 0 where
  clear : ClearLine p e a b xs → SilentLine p e a b xs
  set : (n : ℕ) (next : Bool) → SetLine p n next a b xs → SilentLine p e a b xs

-- with BURST clear no device bursts, so no BACK is due
pub none_due : {p : Profile} {g : ℕ} {h : Header} {n : ℕ} {noted : Noted} {next : Bool} {xs : List DeviceSide} → All (BurstIs false noted next) xs → All (DeviceQuiet p g h n) xs → All (DeviceQuiet p g h 0) xs
none_due none none = none
none_due (and b bs) (and q qs) =
    and (record { listens = q.listens; ready = q.ready; in_time = q.in_time; asked_own = q.asked_own; asked_for = q.asked_for; back_due = λ z. absurd (true_false (sym (b.burst_set z))) }) (none_due bs qs)

-- ---- behind a break, behind an STX and at the start

-- RT1, or the quiet time
abbrev pub break_timer : Profile → Bool → Bool → Timer
break_timer p primary burst = timer_after p primary broken burst

pub broken_is : (p : Profile) (primary burst : Bool) (m : Master) → m.profile ≡ p → m.primary ≡ primary → m.burst ≡ burst → timer_after m.profile m.primary broken m.burst ≡ break_timer p primary burst
broken_is p primary burst m a b c = λ i. timer_after (a i) (b i) broken (c i)

stx_is : (p : Profile) (primary burst : Bool) → timer_after p primary any_stx burst ≡ break_timer p primary burst
stx_is p primary true = refl
stx_is p primary false = refl

pub sent_is : (p : Profile) (primary burst : Bool) (m : Master) → m.profile ≡ p → m.primary ≡ primary → m.burst ≡ burst → timer_after m.profile m.primary any_stx m.burst ≡ break_timer p primary burst
sent_is p primary burst m a b c = (λ i. timer_after (a i) (b i) any_stx (c i)) ∙ stx_is p primary burst

stx_back : (h : Header) → h.kind ≡ stx → (h.kind =? back) ≡ false
stx_back h e = ap (λ (n : ℕ). n =? back) e

stx_ack : (h : Header) → h.kind ≡ stx → (h.kind =? ack) ≡ false
stx_ack h e = ap (λ (n : ℕ). n =? ack) e

-- an STX leaves BURST and whom it is set for
pub stx_burst : (burst : Bool) (noted : Noted) (h : Header) → h.kind ≡ stx → burst_after burst noted h ≡ burst
stx_burst burst noted h e = if_is_false (h.kind =? back) _ _ (stx_back h e) ∙ if_is_false (h.kind =? ack) _ _ (stx_ack h e)

pub stx_noted : (noted : Noted) (h : Header) → h.kind ≡ stx → noted_after noted h ≡ noted
stx_noted noted h e = if_is_false (h.kind =? back) _ _ (stx_back h e) ∙ if_is_false (h.kind =? ack) _ _ (stx_ack h e)

pub stx_timer : (p : Profile) (primary burst : Bool) (m : Master) (h : Header) → m.profile ≡ p → m.primary ≡ primary → h.kind ≡ stx → timer_after m.profile m.primary (ended_by m h) burst ≡ break_timer p primary burst
stx_timer p primary burst m h a b e =
    let ended : ended_by m h ≡ any_stx = if_is_false (h.kind =? back) _ _ (stx_back h e) ∙ if_is_false (h.kind =? ack) _ _ (stx_ack h e) in
    (λ i. timer_after (a i) (b i) (ended i) burst) ∙ stx_is p primary burst

-- who awaits an ACK behind an STX or at the start: the sender of the STX, for RT1
pub record Awaits (p : Profile) (e : ℕ) (burst next : Bool) (h : Header) (g : ℕ) (a b : MasterSide) : Type 0 where
  pub asked : Asked g h a b
  pub primary_left : 1 ≤ left a.master.message.stage → left a.master.message.stage ≡ p.rt1p
  pub secondary_left : 1 ≤ left b.master.message.stage → left b.master.message.stage ≡ p.rt1s
  pub primary_next : burst ≡ true → 1 ≤ left a.master.message.stage → next ≡ true
  pub secondary_next : burst ≡ true → 1 ≤ left b.master.message.stage → next ≡ false
  pub nobody : left a.master.message.stage ≡ 0 → left b.master.message.stage ≡ 0 → p.rt1s ≤ 2 * p.rt2 + e

pub behind_break_set : (p : Profile) → Valid p → (e : ℕ) (noted : Noted) (next : Bool) (h : Header) (g : ℕ) (a b : MasterSide) (xs : List DeviceSide) → g ≤ p.sto → MasterQuiet p true true noted a → MasterQuiet p false true noted b
    → a.master.timer ≡ break_timer p true true → b.master.timer ≡ break_timer p false true → Awaits p e true next h g a b → All (DeviceQuiet p g h p.rt1p) xs → Distinct xs → Agreed true noted next xs → SetLine p p.rt1p next a b xs
unfolding when◌then◌else◌
behind_break_set p v e noted next h g a b xs short qa qb ta tb w qs d ag =
    let sa = no_slot a true ta in
    let sb = no_slot b false tb in
    record {
      g = g;
      h = h;
      noted = noted;
      primary = qa;
      secondary = qb;
      slot = OneSlot.first_shut sa.no_next sa.no_window (shut sb.no_next sb.no_window);
      some = omega (arith, v.rt2_short);
      most = omega arith;
      primary_quiet = omega (arith, v.rt2_short, ap (λ (t : Timer). t.quiet) ta);
      secondary_quiet = omega (arith, v.rt2_short, ap (λ (t : Timer). t.quiet) tb);
      before = omega (arith, v.sto_short);
      primary_shut = λ z. sa;
      secondary_shut = λ z. sb;
      devices = qs;
      distinct = d;
      agreed = ag;
      asked = w.asked;
      primary_slot = λ z. sa;
      secondary_slot = λ z. sb;
      primary_awaits = λ z. (w.primary_next refl z, sa);
      secondary_awaits = λ z. (w.secondary_next refl z, sb);
    }
  where
    no_slot : (x : MasterSide) (primary : Bool) → x.master.timer ≡ break_timer p primary true → NoSlot x.master.timer
    no_slot x primary e = record { no_next = ap (λ (t : Timer). t.next) e; no_window = ap (λ (t : Timer). t.window) e }

-- a number that is n or 0
most : (k n : ℕ) → (1 ≤ k → k ≡ n) → {m : ℕ} → n ≤ m → k ≤ m
most k n f {m} z = go (native.Mathlib.Decide.dec_le 1 k)
  where
    go : Dec (1 ≤ k) → k ≤ m
    go (yes q) = omega (arith, f q)
    go (no q) = omega arith

pub behind_break_clear : (p : Profile) → Valid p → (e : ℕ) (noted : Noted) (next : Bool) (h : Header) (g : ℕ) (a b : MasterSide) (xs : List DeviceSide) → g ≤ p.sto → MasterQuiet p true false noted a → MasterQuiet p false false noted b
    → a.master.timer ≡ break_timer p true false → b.master.timer ≡ break_timer p false false → Awaits p e false next h g a b → All (DeviceQuiet p g h p.rt1p) xs → Distinct xs → Agreed false noted next xs → ClearLine p e a b xs
unfolding when◌then◌else◌
behind_break_clear p v e noted next h g a b xs short qa qb ta tb w qs d ag =
    let na : a.master.timer.next ≡ p.rt1p = ap (λ (t : Timer). t.next) ta in
    let nb : b.master.timer.next ≡ p.rt1s = ap (λ (t : Timer). t.next) tb in
    let wa : a.master.timer.window ≡ 0 = ap (λ (t : Timer). t.window) ta in
    let wb : b.master.timer.window ≡ 0 = ap (λ (t : Timer). t.window) tb in
    record {
      g = g;
      h = h;
      short = short;
      noted = noted;
      primary = qa;
      secondary = qb;
      windows = primary_first p.rt2 (record { least = omega arith; most = omega arith }) (waiting (omega (arith, v.rt2_short)) (omega (arith, v.secondary)) wa wb);
      primary_shut = record { shut = λ z. wa; later = λ z. omega (arith, v.sto_short) };
      secondary_shut = record { shut = λ z. wb; later = λ z. omega (arith, v.sto_short, v.secondary) };
      devices = none_due ag.each qs;
      distinct = d;
      agreed = any_next ag;
      asked = w.asked;
      primary_awaits = λ z. na ∙ sym (w.primary_left z);
      secondary_awaits = λ z. nb ∙ sym (w.secondary_left z);
      primary_most = most (left a.master.message.stage) p.rt1p w.primary_left (omega (arith, v.secondary));
      secondary_most = most (left b.master.message.stage) p.rt1s w.secondary_left (omega arith);
      near = λ x y. (omega (arith, w.nobody x y, v.secondary), omega (arith, w.nobody x y));
    }

-- ---- behind an ACK and behind a BACK

-- a frame's master bit is this master's
abbrev pub itself : Bool → Header → Bool
itself primary h = when primary then h.primary else (when h.primary then false else true)

itself_is : (primary : Bool) (m : Master) (h : Header) → m.primary ≡ primary → to_itself m h ≡ itself primary h
itself_is primary m h e = λ i. when e i then h.primary else (when h.primary then false else true)

-- with BURST set: a timer n, or none, and the quiet time
abbrev pub slot_timer : Profile → Bool → ℕ → Timer
slot_timer p primary n = burst_timer p primary n

ack_ended : (primary : Bool) (m : Master) (h : Header) → m.primary ≡ primary → h.kind ≡ ack → ended_by m h ≡ (when itself primary h then ack_to_itself else ack_to_other)
ack_ended primary m h b e =
    if_is_false (h.kind =? back) _ _ (ap (λ (n : ℕ). n =? back) e) ∙ if_is_true (h.kind =? ack) _ _ (eq-eqb h.kind ack e)
    ∙ ap (λ (t : Bool). when t then ack_to_itself else ack_to_other) (itself_is primary m h b)

pub ack_clear_timer : (p : Profile) (primary : Bool) (m : Master) (h : Header) → m.profile ≡ p → m.primary ≡ primary → h.kind ≡ ack
    → timer_after m.profile m.primary (ended_by m h) false ≡ (when itself primary h then timer p.rt2 else timer 1)
unfolding when◌then◌else◌
ack_clear_timer p primary m h a b e = (λ i. timer_after (a i) (b i) (ack_ended primary m h b e i) false) ∙ go (itself primary h)
  where
    go : (t : Bool) → timer_after p primary (when t then ack_to_itself else ack_to_other) false ≡ (when t then timer p.rt2 else timer 1)
    go true = refl
    go false = refl

pub ack_set_timer : (p : Profile) (primary : Bool) (m : Master) (h : Header) → m.profile ≡ p → m.primary ≡ primary → h.kind ≡ ack → timer_after m.profile m.primary (ended_by m h) true ≡ slot_timer p primary 0
unfolding when◌then◌else◌
ack_set_timer p primary m h a b e = (λ i. timer_after (a i) (b i) (ack_ended primary m h b e i) true) ∙ go (itself primary h)
  where
    go : (t : Bool) → timer_after p primary (when t then ack_to_itself else ack_to_other) true ≡ slot_timer p primary 0
    go true = refl
    go false = refl

pub back_timer : (p : Profile) (primary : Bool) (m : Master) (h : Header) → m.profile ≡ p → m.primary ≡ primary → h.kind ≡ back
    → timer_after m.profile m.primary (ended_by m h) true ≡ (when itself primary h then slot_timer p primary 0 else slot_timer p primary 1)
unfolding when◌then◌else◌
back_timer p primary m h a b e = (λ i. timer_after (a i) (b i) (ended i) true) ∙ go (itself primary h)
  where
    ended : ended_by m h ≡ (when itself primary h then back_to_itself else back_to_other)
    ended = if_is_true (h.kind =? back) _ _ (eq-eqb h.kind back e) ∙ ap (λ (t : Bool). when t then back_to_itself else back_to_other) (itself_is primary m h b)

    go : (t : Bool) → timer_after p primary (when t then back_to_itself else back_to_other) true ≡ (when t then slot_timer p primary 0 else slot_timer p primary 1)
    go true = refl
    go false = refl

-- behind a frame that is no STX nobody awaits an ACK
pub record NobodyAwaits (a b : MasterSide) : Type 0 where
  pub primary_gone : left a.master.message.stage ≡ 0
  pub secondary_gone : left b.master.message.stage ≡ 0

no_answer : (h : Header) (a b : MasterSide) → Asked 0 h a b
no_answer h a b = record { by_primary = λ z. absurd (omega arith); by_secondary = λ z. absurd (omega arith); primary_header = λ z. absurd (omega arith); secondary_header = λ z. absurd (omega arith) }

none_shut : {t : Timer} → ShutFor 0 t
none_shut = record { shut = λ z. absurd (omega arith); later = λ z. absurd (omega arith) }

pub behind_ack_set : (p : Profile) → Valid p → (noted : Noted) (next : Bool) (k : Header) (a b : MasterSide) (xs : List DeviceSide) → MasterQuiet p true true noted a → MasterQuiet p false true noted b
    → a.master.timer ≡ slot_timer p true 0 → b.master.timer ≡ slot_timer p false 0 → NobodyAwaits a b
    → All (DeviceQuiet p 0 k 1) xs → Distinct xs → Agreed true noted next xs → SetLine p 1 next a b xs
unfolding when◌then◌else◌
behind_ack_set p v noted next k a b xs qa qb ta tb n qs d g =
    let sa : NoSlot a.master.timer = record { no_next = ap (λ (t : Timer). t.next) ta; no_window = ap (λ (t : Timer). t.window) ta } in
    let sb : NoSlot b.master.timer = record { no_next = ap (λ (t : Timer). t.next) tb; no_window = ap (λ (t : Timer). t.window) tb } in
    record {
      g = 0;
      h = k;
      noted = noted;
      primary = qa;
      secondary = qb;
      slot = OneSlot.first_shut sa.no_next sa.no_window (shut sb.no_next sb.no_window);
      some = omega arith;
      most = omega (arith, v.rt2_short);
      primary_quiet = omega (arith, v.rt2_short, v.hold_short, ap (λ (t : Timer). t.quiet) ta);
      secondary_quiet = omega (arith, v.rt2_short, v.hold_short, ap (λ (t : Timer). t.quiet) tb);
      before = omega arith;
      primary_shut = λ z. sa;
      secondary_shut = λ z. sb;
      devices = qs;
      distinct = d;
      agreed = g;
      asked = no_answer k a b;
      primary_slot = λ z. sa;
      secondary_slot = λ z. sb;
      primary_awaits = λ z. absurd (omega (arith, n.primary_gone));
      secondary_awaits = λ z. absurd (omega (arith, n.secondary_gone));
    }

pub behind_ack_clear : (p : Profile) → Valid p → (e : ℕ) (noted : Noted) (next : Bool) (h k : Header) (a b : MasterSide) (xs : List DeviceSide) → MasterQuiet p true false noted a → MasterQuiet p false false noted b
    → a.master.timer ≡ (when itself true h then timer p.rt2 else timer 1) → b.master.timer ≡ (when itself false h then timer p.rt2 else timer 1) → NobodyAwaits a b
    → All (DeviceQuiet p 0 k 1) xs → Distinct xs → Agreed false noted next xs → ClearLine p e a b xs
unfolding when◌then◌else◌
behind_ack_clear p v e noted next h k a b xs qa qb ta tb n qs d g = go h.primary ta tb
  where
    gap : Gap p (p.rt2 - 1)
    gap = record { least = omega arith; most = omega arith }

    by : ClearWindows p a.master.timer b.master.timer → a.master.timer.next ≤ p.rt2 → b.master.timer.next ≤ p.rt2 → ClearLine p e a b xs
    by w na nb = record {
      g = 0;
      h = k;
      short = omega arith;
      noted = noted;
      primary = qa;
      secondary = qb;
      windows = w;
      primary_shut = none_shut;
      secondary_shut = none_shut;
      devices = none_due g.each qs;
      distinct = d;
      agreed = any_next g;
      asked = no_answer k a b;
      primary_awaits = λ z. absurd (omega (arith, n.primary_gone));
      secondary_awaits = λ z. absurd (omega (arith, n.secondary_gone));
      primary_most = omega (arith, n.primary_gone);
      secondary_most = omega (arith, n.secondary_gone);
      near = λ x y. (omega arith, omega arith);
    }

    go : (bit : Bool) → a.master.timer ≡ (when bit then timer p.rt2 else timer 1) → b.master.timer ≡ (when (when bit then false else true) then timer p.rt2 else timer 1) → ClearLine p e a b xs
    go true ta tb =
        by (secondary_first (p.rt2 - 1) gap
        (waiting (omega (arith, ap (λ (t : Timer). t.next) tb)) (omega (arith, v.hold_short, ap (λ (t : Timer). t.next) ta, ap (λ (t : Timer). t.next) tb)) (ap (λ (t : Timer). t.window) tb) (ap (λ (t : Timer). t.window) ta)))
        (omega (arith, ap (λ (t : Timer). t.next) ta)) (omega (arith, v.hold_short, ap (λ (t : Timer). t.next) tb))
    go false ta tb =
        by (primary_first (p.rt2 - 1) gap
        (waiting (omega (arith, ap (λ (t : Timer). t.next) ta)) (omega (arith, v.hold_short, ap (λ (t : Timer). t.next) ta, ap (λ (t : Timer). t.next) tb)) (ap (λ (t : Timer). t.window) ta) (ap (λ (t : Timer). t.window) tb)))
        (omega (arith, v.hold_short, ap (λ (t : Timer). t.next) ta)) (omega (arith, ap (λ (t : Timer). t.next) tb))

pub behind_back : (p : Profile) → Valid p → (noted : Noted) (next : Bool) (h k : Header) (a b : MasterSide) (xs : List DeviceSide) → h.primary ≡ (when next then false else true) → MasterQuiet p true true noted a → MasterQuiet p false true noted b
    → a.master.timer ≡ (when itself true h then slot_timer p true 0 else slot_timer p true 1) → b.master.timer ≡ (when itself false h then slot_timer p false 0 else slot_timer p false 1) → NobodyAwaits a b
    → All (DeviceQuiet p 0 k p.rt2) xs → Distinct xs → Agreed true noted next xs → SetLine p p.rt2 next a b xs
unfolding when◌then◌else◌
behind_back p v noted next h k a b xs f qa qb ta tb n qs d g = go next h.primary f ta tb g
  where
    by : (next : Bool) → OneSlot p p.rt2 a.master.timer b.master.timer → (next ≡ false → NoSlot a.master.timer) → (next ≡ true → NoSlot b.master.timer) → a.master.timer.quiet ≡ 2 * p.rt1p → b.master.timer.quiet ≡ 2 * p.rt1p + p.rt2
        → Agreed true noted next xs → SetLine p p.rt2 next a b xs
    by next o sa sb ya yb g = record {
      g = 0;
      h = k;
      noted = noted;
      primary = qa;
      secondary = qb;
      slot = o;
      some = omega (arith, v.hold_short);
      most = omega (arith, v.rt2_short);
      primary_quiet = omega (arith, v.rt2_short);
      secondary_quiet = omega (arith, v.rt2_short);
      before = omega (arith, v.hold_short);
      primary_shut = λ z. absurd (omega arith);
      secondary_shut = λ z. absurd (omega arith);
      devices = qs;
      distinct = d;
      agreed = g;
      asked = no_answer k a b;
      primary_slot = sa;
      secondary_slot = sb;
      primary_awaits = λ z. absurd (omega (arith, n.primary_gone));
      secondary_awaits = λ z. absurd (omega (arith, n.secondary_gone));
    }

    no_slot : {t u : Timer} → t ≡ u → u.next ≡ 0 → u.window ≡ 0 → NoSlot t
    no_slot e x y = record { no_next = ap (λ (t : Timer). t.next) e ∙ x; no_window = ap (λ (t : Timer). t.window) e ∙ y }

    go : (next bit : Bool) → bit ≡ (when next then false else true) → a.master.timer ≡ (when bit then slot_timer p true 0 else slot_timer p true 1) → b.master.timer ≡ (when (when bit then false else true) then slot_timer p false 0 else slot_timer p false 1)
        → Agreed true noted next xs → SetLine p p.rt2 next a b xs
    go false true f ta tb g =
        by false (OneSlot.first_shut (ap (λ (t : Timer). t.next) ta) (ap (λ (t : Timer). t.window) ta) (coming (ap (λ (t : Timer). t.next) tb) (ap (λ (t : Timer). t.window) tb) v.hold_short))
        (λ z. no_slot ta refl refl) (λ z. absurd (true_false (sym z)))
        (ap (λ (t : Timer). t.quiet) ta) (ap (λ (t : Timer). t.quiet) tb) g
    go true false f ta tb g =
        by true (OneSlot.second_shut (ap (λ (t : Timer). t.next) tb) (ap (λ (t : Timer). t.window) tb) (coming (ap (λ (t : Timer). t.next) ta) (ap (λ (t : Timer). t.window) ta) v.hold_short))
        (λ z. absurd (true_false z)) (λ z. no_slot tb refl refl)
        (ap (λ (t : Timer). t.quiet) ta) (ap (λ (t : Timer). t.quiet) tb) g
    go true true f ta tb g = absurd (true_false f)
    go false false f ta tb g = absurd (true_false (sym f))
