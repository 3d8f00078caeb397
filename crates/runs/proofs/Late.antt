-- Every run whose masters start at ticks of their own goes as proofs/LateTicks says: one walk over its stages, no master on, one on, both on.
use Prim.Native.Nat.{ℕ, zero, suc, ◌-◌, ◌≤◌}
use native.Mathlib.Omega.{arith}
use mathlib.Core.Path.{◌≡◌, refl, sym, ap, subst, ◌∙◌}
use mathlib.Core.Bool.{Bool, true, false}
use mathlib.Core.List.{List, [], ◌∷◌}
use lib.ListN.{get_or}
use Rattle.base.specs.Choice.{when◌then◌else◌}
use Rattle.base.proofs.Choices.{if_is_true, if_is_false}
use Rattle.line.specs.Reader.{passing, taken}
use Rattle.line.specs.declared.Event.{Event}
use Rattle.line.specs.declared.Event.TheVariants.{Nothing, PassedOver, Frame}
use Rattle.line.specs.declared.Heard.{Heard}
use Rattle.line.specs.declared.Heard.TheVariants.{Silence, Character}
use Rattle.line.specs.declared.Profile.{Profile}
use Rattle.line.specs.declared.Receiver.{Receiver}
use Rattle.line.specs.declared.Taken.{Taken}
use Rattle.line.specs.declared.Whole.{Whole}
use Rattle.turns.specs.Link.{no_request, MasterSide, Link, LinkStep, Calls, master_tick, link_tick, link_after, run}
use Rattle.turns.specs.Run.{Distinct, MasterStarts, count, senders, EachTick, tick_and, NoTwoSend}
use Rattle.runs.specs.Late.{late_tick, late_run, in_tick, both_heard, primary_sent, secondary_sent}
use Rattle.turns.specs.declared.Sent.TheVariants.{Silent}
use Rattle.turns.specs.declared.Stage.TheVariants.{Free}
use Rattle.turns.specs.declared.Master.{Master}
use Rattle.turns.proofs.Windows.{Valid}
use Rattle.turns.proofs.Lists.{all_carried, all_sides, all_distinct}
use Rattle.turns.proofs.Phases.{MasterListens, Ready, passing_ready}
use Rattle.runs.proofs.Begun.{next_after}
use Rattle.runs.proofs.SilentTick as T
use Rattle.runs.proofs.NoTwoSend as N
use Rattle.turns.proofs.Senders.{carries, Plain, plain_silence, plain_character, one_sender, silent_none, none_line}
use Rattle.runs.proofs.NoTwoSend.{Phase, heard_tick, tick_is}
use Rattle.runs.proofs.SoundPairs.{quiet_devices, on_character_lem}
use Rattle.turns.proofs.Fresh.{master_is, fresh_master_lem}
use Rattle.runs.proofs.KeptLink.{LinkKept, link_kept, settled_kept}
use Rattle.runs.proofs.Waits.{other, other_step, not}
use Rattle.runs.proofs.WaitSides.{after_other}
use Rattle.runs.proofs.OutOfStep.{nobody, OutOfStepTick, alone, together, out_of_step_tick}
use Rattle.runs.proofs.Passing.{MasterPasses, PassesOn, passes_on}
use Rattle.runs.proofs.Idle.{free_tick}
use Rattle.runs.proofs.NoBurst.{NoBurstIn, NoBurst, no_burst_silent, no_burst_stx, no_burst_ack, no_burst_fair}
use Rattle.runs.proofs.Readers.{reading}
use Rattle.runs.proofs.LateTicks.{ReadyAfter, SharedBy, no_end, Begun, LateTicks, ended, not_yet, in_step, overlaps}
use Rattle.runs.proofs.Behind.{both_in, enter_behind, enter_ends, overlap_run}
use Rattle.runs.proofs.NoneOn.{NoneOn, rests_ready, none_tick, rests_none, first_line}
use Rattle.runs.proofs.OneOn.{beside, OneOn, one_on, CameIn, BothOn, both_quiet, other_passes, both_on, any_step, fresh_came, passed_came}

-- ---- where no frame is shared: one of the masters neither sends nor hears a frame

abbrev Unheard : Event → Type 0
Unheard e = (w : Whole) → e ≡ Frame w → ⊥

nothing_frame : Unheard Nothing
nothing_frame w e = let z : ◌≡◌ {A = ℕ} 0 1 = cc in omega arith

passed_frame : Unheard PassedOver
passed_frame w e = let z : ◌≡◌ {A = ℕ} 0 1 = cc in omega arith

-- one that is off
off_unheard : (x : MasterSide) (heard : Heard) → x.master.deaf ≡ true → Unheard (reading x heard).event
off_unheard x heard d = subst Unheard (sym (ap (λ (t : Taken). t.event) (if_is_true x.master.deaf _ (taken x.master.receiver heard) d))) nothing_frame

-- one that listens on a silent line
ready_unheard : {p : Profile} {primary : Bool} {x : MasterSide} {heard : Heard} → heard ≡ Silence → MasterListens p primary x → Ready x.master.receiver → Unheard (reading x heard).event
unfolding Ready
ready_unheard {x = x} {heard} e l r = subst Unheard (sym (ap (λ (t : Taken). t.event) (if_is_false x.master.deaf _ (taken x.master.receiver heard) l.hears ∙ ap (taken x.master.receiver) e ∙ r))) nothing_frame

-- one that passes over what it hears
passes_unheard : {p : Profile} {primary : Bool} {x : MasterSide} {heard : Heard} → Plain heard → MasterPasses p primary nobody x → Unheard (reading x heard).event
unfolding taken Ready
passes_unheard {x = x} plain_silence m = ready_unheard refl m.listens (subst Ready (sym m.receiver_is) passing_ready)
passes_unheard {x = x} (plain_character c) m =
    subst Unheard (sym (ap (λ (t : Taken). t.event) (if_is_false x.master.deaf _ (taken x.master.receiver (Character c)) m.listens.hears ∙ ap (λ (r : Receiver). taken r (Character c)) m.receiver_is))) passed_frame

no_part : (bit : Bool) (s : LinkStep) → (other_step bit s).sent ≡ Silent → Unheard (reading (other_step bit s).side (link_after s).line).event → SharedBy s → ⊥
no_part true s e u (both_heard w a b) = u w b
no_part true s e u (primary_sent w a b) = u w b
no_part true s e u (secondary_sent w a b) = omega (arith, ap count e, a)
no_part false s e u (both_heard w a b) = u w a
no_part false s e u (primary_sent w a b) = omega (arith, ap count e, a)
no_part false s e u (secondary_sent w a b) = u w b

-- ---- what the line carries

plain_tick : (s : LinkStep) {h : Heard} → (link_after s).line ≡ h → Plain h → NoTwoSend s
plain_tick s e q = one_sender s (subst Plain (sym e) q)

character_silence : {c : ℕ} → Character c ≡ Silence → ⊥
character_silence e = let z : ◌≡◌ {A = ℕ} 0 1 = cc in omega arith

one_plain : {p : Profile} {bit : Bool} {l : Link} → OneOn p bit l → Plain l.line
one_plain {p} {bit} {l} h = go h.phase
  where
    go : NoBurst p (beside bit h.listener l) → Plain l.line
    go (no_burst_silent e q o is) = subst Plain (sym q) plain_silence
    go (no_burst_stx b next k w message q o) = subst Plain (sym q) (plain_character (get_or w k 0))
    go (no_burst_ack next k w message u q o) = subst Plain (sym q) (plain_character (get_or w k 0))

-- ---- readers

-- the other one's reader stands in no frame either
one_ready : {p : Profile} (bit : Bool) (s : LinkStep) → OneOn p bit (link_after s) → Ready (other_step bit s).side.master.receiver → ReadyAfter s
one_ready {p} bit s h r = go bit h.phase r
  where
    go : (b : Bool) → NoBurst p (beside b h.listener (link_after s)) → Ready (other_step b s).side.master.receiver → ReadyAfter s
    go true (no_burst_silent e q o is) r = record { primary = λ z. o.primary.ready; secondary = λ z. r; devices = quiet_devices o.devices }
    go false (no_burst_silent e q o is) r = record { primary = λ z. r; secondary = λ z. o.secondary.ready; devices = quiet_devices o.devices }
    go b (no_burst_stx b' next k w message q o) r = on_character_lem (link_after s) q
    go b (no_burst_ack next k w message u q o) r = on_character_lem (link_after s) q

is_ready : {r : Receiver} → r ≡ passing → Ready r
is_ready e = subst Ready (sym e) passing_ready

-- ---- with both starts in tick 0 the run is that of the common start

pub common_start : (limit : ℕ) (l : Link) (ticks : List Calls) → late_run limit 0 0 l ticks ≡ run limit l ticks
unfolding run late_run late_tick link_tick
common_start limit l [] = refl
common_start limit l (c ∷ cs) = ap (λ (ss : List LinkStep). link_tick limit l c ∷ ss) (common_start limit (link_after (link_tick limit l c)) cs)

-- ---- both masters are on

module _ (limit : ℕ) (low : 2 ≤ limit) (high : limit ≤ 255) (p : Profile) (v : Valid p) (retries : ℕ) where
  -- from a tick on in which both masters are on; n parties sent in the tick before
  record Onward (n : ℕ) (l : Link) (ss : List LinkStep) : Type 0 where
    late_ticks : LateTicks limit p retries 0 0 n ss
    begun : l.line ≡ Silence → Begun ss

  yet : (s : LinkStep) (ss : List LinkStep) {n : ℕ} → NoTwoSend s → ReadyAfter s → (SharedBy s → ⊥) → Onward (senders s) (link_after s) ss → LateTicks limit p retries 0 0 n (s ∷ ss)
  yet s ss one ready unshared r = not_yet one ready unshared (λ a b z. r.begun (none_line s z)) r.late_ticks

  -- the other one has come in, or passes over a character
  came : (bit : Bool) (s : LinkStep) (ss : List LinkStep) {n : ℕ} → OneOn p bit (link_after s) → (other_step bit s).sent ≡ Silent → CameIn p (not bit) (other_step bit s).side
      → (BothOn p (link_after s) → Onward (senders s) (link_after s) ss) → LateTicks limit p retries 0 0 n (s ∷ ss)
  came bit s ss one e x rec = yet s ss (one_sender s (one_plain one)) (one_ready bit s one (is_ready x.passes.receiver_is)) (no_part bit s e (passes_unheard (one_plain one) x.passes)) (rec (both_on p v bit (link_after s) one (after_other bit s (CameIn p (not bit)) x)))

  other_passed : (bit : Bool) (l : Link) (c : Calls) {ch : ℕ} → l.line ≡ Character ch → MasterPasses p (not bit) nobody (other bit l) → PassesOn p (not bit) nobody (other bit l) (other_step bit (link_tick limit l c))
  unfolding link_tick when◌then◌else◌
  other_passed true l c {ch} q x = subst (λ (z : Heard). PassesOn p false nobody l.secondary (master_tick limit l.secondary z c.for_secondary)) (sym q) (passes_on limit high p false nobody l.secondary ch c.for_secondary x)
  other_passed false l c {ch} q x = subst (λ (z : Heard). PassesOn p true nobody l.primary (master_tick limit l.primary z c.for_primary)) (sym q) (passes_on limit high p true nobody l.primary ch c.for_primary x)

  one_ticks : (bit : Bool) (l : Link) (c : Calls) → (other_step bit (link_tick limit l c)).sent ≡ Silent → OneOn p bit l → NoBurstIn (link_tick limit l c) → OneOn p bit (link_after (link_tick limit l c))
  unfolding link_tick
  one_ticks true l c e h f = one_on limit low high p v true l c (link_tick limit l c) refl e refl h f
  one_ticks false l c e h f = one_on limit low high p v false l c (link_tick limit l c) refl e refl h f

  both_run : (l : Link) (ticks : List Calls) (n : ℕ) → (l.line ≡ Silence → n ≡ 0) → LinkKept limit retries l → BothOn p l → EachTick NoBurstIn (run limit l ticks) → Onward n l (run limit l ticks)
  unfolding run heard_tick in_tick
  both_run l [] n z kept b off = record { late_ticks = ended; begun = λ e o. no_end }
  both_run l (c ∷ cs) n z kept (other_passes bit ch q h x) (tick_and f fs) =
      let s = link_tick limit l c in
      let t = other_passed bit l c q x in
      record {
        late_ticks = came bit s (run limit (link_after s) cs) (one_ticks bit l c t.silent h f) t.silent (passed_came t) (λ b. both_run (link_after s) cs (senders s) (silent_none s) (settled_kept (link_kept limit retries low high l c kept)) b fs);
        begun = λ e. absurd (character_silence (sym q ∙ e));
      }
  both_run l (c ∷ cs) n z kept (both_quiet q o) (tick_and f fs) =
      go (subst (λ (s : LinkStep). OutOfStepTick p l.primary l.secondary s.for_primary s.for_secondary s.for_devices) (sym (tick_is limit l Silence c q))
      (out_of_step_tick limit low high p v l.primary l.secondary l.devices c.for_primary c.for_secondary c.for_devices o (no_burst_fair (subst NoBurstIn (tick_is limit l Silence c q) f))))
      (λ b. both_run (link_after (link_tick limit l c)) cs (senders (link_tick limit l c)) (silent_none (link_tick limit l c)) kept' b fs)
    where
      s : LinkStep
      s = link_tick limit l c

      kept' : LinkKept limit retries (link_after (link_tick limit l c))
      kept' = settled_kept (link_kept limit retries low high l c kept)

      begins : Phase p 0 (link_after (link_tick limit l c)) → Onward n l (run limit l (c ∷ cs))
      begins ph = record { late_ticks = in_step (enter_behind limit low high p v retries l c cs kept ph (tick_and f fs)); begun = λ e o. enter_ends limit low high p v retries l c cs ph (tick_and f fs) }

      go : OutOfStepTick p l.primary l.secondary (link_tick limit l c).for_primary (link_tick limit l c).for_secondary (link_tick limit l c).for_devices
          → (BothOn p (link_after (link_tick limit l c)) → Onward (senders (link_tick limit l c)) (link_after (link_tick limit l c)) (run limit (link_after (link_tick limit l c)) cs)) → Onward n l (run limit l (c ∷ cs))
      go (alone (T.still_silent a b d m ra rb)) rec =
          let e = carries s a b d in
          record {
            late_ticks = yet s (run limit (link_after s) cs) (plain_tick s e plain_silence)
                (record { primary = λ i. m.primary.ready; secondary = λ i. m.secondary.ready; devices = quiet_devices m.devices })
                (no_part true s b (ready_unheard e m.secondary.listens m.secondary.ready)) (rec (both_quiet e m));
            begun = λ i o. absurd (omega (arith, o, silent_none s e));
          }
      go (alone (T.primary_begins w message a b d m ra rb)) rec = begins (N.primary_sends false nobody true 0 w message (carries s a b d) m)
      go (alone (T.secondary_begins w message a b d m ra rb)) rec = begins (N.secondary_sends false nobody true 0 w message (carries s a b d) m)
      go (alone (T.ack_begins w message u on a b d m ra rb)) rec = begins (N.ack_sent false nobody (next_after false true) 0 w message u on (carries s a b d) m)
      go (alone (T.back_begins i w message u a b d m ra rb)) rec = absurd (omega (arith, i))
      go (together w message w' message' a b d m) rec = record {
        late_ticks = overlaps (z q) (both_in s a b d) (overlap_run limit low high p v retries 0 w message w' message' (link_after s) cs kept' (carries s a b d) m fs);
        begun = λ i o. absurd (omega (arith, o, ap count a, ap count b));
      }

  late_both : (s : LinkStep) (ticks : List Calls) → LinkKept limit retries (link_after s) → EachTick NoBurstIn (late_run limit 0 0 (link_after s) ticks) → BothOn p (link_after s)
      → Onward (senders s) (link_after s) (late_run limit 0 0 (link_after s) ticks)
  late_both s ticks kept off b =
      subst (Onward (senders s) (link_after s)) (sym (common_start limit (link_after s) ticks)) (both_run (link_after s) ticks (senders s) (silent_none s) kept b (subst (EachTick NoBurstIn) (common_start limit (link_after s) ticks) off))

  -- what is kept through a tick in which a master is off
  late_kept : (a b : ℕ) (l : Link) (c : Calls) → LinkKept limit retries l → LinkKept limit retries (link_after (late_tick limit a b l c))
  unfolding late_tick link_tick
  late_kept zero zero l c k = settled_kept (link_kept limit retries low high l c k)
  late_kept zero (suc b) l c k = let s = settled_kept (link_kept limit retries low high l c k) in record { primary = s.primary; secondary = k.secondary; devices = s.devices }
  late_kept (suc a) zero l c k = let s = settled_kept (link_kept limit retries low high l c k) in record { primary = k.primary; secondary = s.secondary; devices = s.devices }
  late_kept (suc a) (suc b) l c k = let s = settled_kept (link_kept limit retries low high l c k) in record { primary = k.primary; secondary = k.secondary; devices = s.devices }

  -- ---- one master is on

  start_ready : {primary : Bool} {x : MasterSide} → MasterStarts p primary retries x → Ready x.master.receiver
  start_ready {primary} {x} m = is_ready (ap (λ (m : Master). m.receiver) (master_is p primary retries x.master m.starts))

  start_deaf : {primary : Bool} {x : MasterSide} → MasterStarts p primary retries x → x.master.deaf ≡ true
  start_deaf {primary} {x} m = ap (λ (m : Master). m.deaf) (master_is p primary retries x.master m.starts)

  -- the other one stays off
  stays_off : (bit : Bool) (s : LinkStep) (ss : List LinkStep) (a b : ℕ) {n : ℕ} → OneOn p bit (link_after s) → (other_step bit s).sent ≡ Silent → MasterStarts p (not bit) retries (other_step bit s).side → (a ≡ 0 → b ≡ 0 → ⊥)
      → LateTicks limit p retries (a - 1) (b - 1) (senders s) ss → LateTicks limit p retries a b n (s ∷ ss)
  stays_off bit s ss a b one e m f rest =
      not_yet (one_sender s (one_plain one)) (one_ready bit s one (start_ready m))
      (no_part bit s e (off_unheard (other_step bit s).side (link_after s).line (start_deaf m))) (λ x y. absurd (f x y)) rest

  primary_on : (b : ℕ) (l : Link) (ticks : List Calls) {n : ℕ} → LinkKept limit retries l → OneOn p true l → MasterStarts p false retries l.secondary → EachTick NoBurstIn (late_run limit 0 b l ticks)
      → LateTicks limit p retries 0 b n (late_run limit 0 b l ticks)
  unfolding late_run late_tick when◌then◌else◌
  primary_on b l [] kept h m off = ended
  primary_on zero l (c ∷ cs) kept h m (tick_and f fs) =
      let s = late_tick limit 0 0 l c in
      let t = fresh_master_lem limit high p false retries l.secondary l.line c.for_secondary m in
      came true s (late_run limit 0 0 (link_after s) cs) (one_on limit low high p v true l c s refl t.silent refl h f) t.silent (fresh_came t) (late_both s cs (late_kept 0 0 l c kept) fs)
  primary_on (suc b) l (c ∷ cs) kept h m (tick_and f fs) =
      let s = late_tick limit 0 (suc b) l c in
      let one = one_on limit low high p v true l c s refl refl refl h f in
      stays_off true s (late_run limit 0 (suc b - 1) (link_after s) cs) 0 (suc b) one refl m (λ x y. omega (arith, y)) (primary_on (suc b - 1) (link_after s) cs (late_kept 0 (suc b) l c kept) one m fs)

  secondary_on : (a : ℕ) (l : Link) (ticks : List Calls) {n : ℕ} → LinkKept limit retries l → OneOn p false l → MasterStarts p true retries l.primary → EachTick NoBurstIn (late_run limit a 0 l ticks)
      → LateTicks limit p retries a 0 n (late_run limit a 0 l ticks)
  unfolding late_run late_tick when◌then◌else◌
  secondary_on a l [] kept h m off = ended
  secondary_on zero l (c ∷ cs) kept h m (tick_and f fs) =
      let s = late_tick limit 0 0 l c in
      let t = fresh_master_lem limit high p true retries l.primary l.line c.for_primary m in
      came false s (late_run limit 0 0 (link_after s) cs) (one_on limit low high p v false l c s refl t.silent refl h f) t.silent (fresh_came t) (late_both s cs (late_kept 0 0 l c kept) fs)
  secondary_on (suc a) l (c ∷ cs) kept h m (tick_and f fs) =
      let s = late_tick limit (suc a) 0 l c in
      let one = one_on limit low high p v false l c s refl refl refl h f in
      stays_off false s (late_run limit (suc a - 1) 0 (link_after s) cs) (suc a) 0 one refl m (λ x y. omega (arith, x)) (secondary_on (suc a - 1) (link_after s) cs (late_kept (suc a) 0 l c kept) one m fs)

  -- ---- no master is on

  free_start : {primary : Bool} {x : MasterSide} → MasterStarts p primary retries x → x.master.message.stage ≡ Free
  free_start {primary} {x} s = ap (λ (m : Master). m.message.stage) (master_is p primary retries x.master s.starts)

  pub every_late_run : (a b : ℕ) (l : Link) (ticks : List Calls) {n : ℕ} → LinkKept limit retries l → MasterStarts p true retries l.primary → MasterStarts p false retries l.secondary → Distinct l.devices
      → NoneOn limit p l.line l.devices → EachTick NoBurstIn (late_run limit a b l ticks)
      → LateTicks limit p retries a b n (late_run limit a b l ticks)
  unfolding late_run late_tick when◌then◌else◌
  every_late_run a b l [] kept sa sb d z off = ended
  every_late_run (suc a) (suc b) l (c ∷ cs) kept sa sb d z (tick_and f fs) =
      let s = late_tick limit (suc a) (suc b) l c in
      let q = none_tick limit p l.line c.for_devices z in
      let e = carries s refl refl (all_carried q) in
      not_yet {a = suc a} {b = suc b} (plain_tick s e plain_silence)
      (record { primary = λ i. start_ready sa; secondary = λ i. start_ready sb; devices = rests_ready (all_sides q) })
      (no_part true s refl (off_unheard l.secondary (link_after s).line (start_deaf sb))) (λ x y. absurd (omega (arith, x)))
      (every_late_run (suc a - 1) (suc b - 1) (link_after s) cs (late_kept (suc a) (suc b) l c kept) sa sb (all_distinct q d) (subst (λ (h : Heard). NoneOn limit p h (link_after s).devices) (sym e) (rests_none limit low high p v (all_sides q))) fs)
  every_late_run zero (suc b) l (c ∷ cs) kept sa sb d z (tick_and f fs) =
      let s = late_tick limit 0 (suc b) l c in
      let q = none_tick limit p l.line c.for_devices z in
      let fa = fresh_master_lem limit high p true retries l.primary l.line c.for_primary sa in
      let o = first_line limit high p v retries l.primary l.secondary l.line c.for_primary no_request sa sb d q in
      let one : OneOn p true (link_after s) = record {
        listener = (master_tick limit l.secondary l.line no_request).side;
        phase = no_burst_silent p.rt1s (carries s fa.silent refl (all_carried q)) o (sym o.primary.noted_is ∙ fa.quiet.noted_is);
        free = (free_tick limit l.secondary l.line (free_start sb)).free;
      } in
      stays_off true s (late_run limit 0 (suc b - 1) (link_after s) cs) 0 (suc b) one refl sb (λ x y. omega (arith, y)) (primary_on (suc b - 1) (link_after s) cs (late_kept 0 (suc b) l c kept) one sb fs)
  every_late_run (suc a) zero l (c ∷ cs) kept sa sb d z (tick_and f fs) =
      let s = late_tick limit (suc a) 0 l c in
      let q = none_tick limit p l.line c.for_devices z in
      let fb = fresh_master_lem limit high p false retries l.secondary l.line c.for_secondary sb in
      let o = first_line limit high p v retries l.primary l.secondary l.line no_request c.for_secondary sa sb d q in
      let one : OneOn p false (link_after s) = record {
        listener = (master_tick limit l.primary l.line no_request).side;
        phase = no_burst_silent p.rt1s (carries s refl fb.silent (all_carried q)) o (sym o.secondary.noted_is ∙ fb.quiet.noted_is);
        free = (free_tick limit l.primary l.line (free_start sa)).free;
      } in
      stays_off false s (late_run limit (suc a - 1) 0 (link_after s) cs) (suc a) 0 one refl sa (λ x y. omega (arith, x)) (secondary_on (suc a - 1) (link_after s) cs (late_kept (suc a) 0 l c kept) one sa fs)
  every_late_run zero zero l (c ∷ cs) kept sa sb d z (tick_and f fs) =
      let s = late_tick limit 0 0 l c in
      let q = none_tick limit p l.line c.for_devices z in
      let fa = fresh_master_lem limit high p true retries l.primary l.line c.for_primary sa in
      let fb = fresh_master_lem limit high p false retries l.secondary l.line c.for_secondary sb in
      let o = first_line limit high p v retries l.primary l.secondary l.line c.for_primary c.for_secondary sa sb d q in
      let e = carries s fa.silent fb.silent (all_carried q) in
      yet s (late_run limit 0 0 (link_after s) cs) (plain_tick s e plain_silence) (record { primary = λ i. fa.quiet.ready; secondary = λ i. fb.quiet.ready; devices = rests_ready (all_sides q) }) (no_part true s fb.silent (ready_unheard e fb.quiet.listens fb.quiet.ready))
      (late_both s cs (late_kept 0 0 l c kept) fs (both_quiet e (any_step o (sym o.primary.noted_is ∙ fa.quiet.noted_is))))
