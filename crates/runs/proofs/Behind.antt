-- Behind the point where the masters are in step, or where the overlap has ended: no two send, every message accepted is in time, and every frame on the line is one that both masters have.
use Prim.Native.Nat.{ℕ, zero, suc, ◌+◌, ◌-◌, ◌*◌, ◌≤◌, ◌<◌}
use native.Mathlib.Omega.{arith}
use mathlib.Core.Path.{◌≡◌, refl, sym, ap, subst}
use mathlib.Core.Bool.{Bool, true, false}
use mathlib.Core.List.{List, [], ◌∷◌}
use lib.ListN.{length, drop, get_or}
use Rattle.base.specs.Choice.{when◌then◌else◌}
use Rattle.line.specs.declared.Damage.TheVariants.{Framing}
use Rattle.line.specs.declared.Heard.TheVariants.{Silence, Character, Damaged}
use Rattle.line.specs.declared.Profile.{Profile}
use Rattle.line.specs.declared.Whole.{Whole}
use Rattle.turns.specs.Link.{MasterSide, Link, LinkStep, Calls, link_tick, link_after, run, carried, sides}
use Rattle.turns.specs.Run.{count, senders, EachTick, no_tick, tick_and}
use Rattle.turns.specs.Demand3.{master_in, AcceptedIn, BeginsWithin, NoneBursts, until_the_end, and_on, longest_wait}
use Rattle.turns.specs.Demand3 as D
use Rattle.turns.specs.declared.Sent.{Sent}
use Rattle.turns.specs.declared.Timer.{Timer}
use Rattle.turns.specs.declared.Stage.{Stage}
use Rattle.turns.specs.declared.Stage.TheVariants.{Free, Waiting, Sending, Awaiting}
use Rattle.runs.proofs.Fair.{Fair}
use Rattle.turns.proofs.Masters.{left}
use Rattle.turns.proofs.Windows.{Valid}
use Rattle.turns.proofs.Sending.{MasterPlace, inside, finished, MasterSpeaks}
use Rattle.runs.proofs.Stx.{own_is}
use Rattle.runs.proofs.NoTwoSend as N
use Rattle.turns.proofs.Senders.{carries, one_sender, Plain, plain_silence, plain_character, carried_count, most}
use Rattle.runs.proofs.NoTwoSend.{Phase, heard_tick, tick_is, phase_tick, phase_plain, phases_run}
use Rattle.turns.proofs.Quiet.{clear}
use Rattle.runs.proofs.SoundPairs.{phase_outside}
use Rattle.runs.proofs.Kept as M
use Rattle.runs.proofs.Kept.{Accepted}
use Rattle.runs.proofs.KeptLink.{LinkKept, link_kept, settled_kept}
use Rattle.runs.proofs.Rank as K
use Rattle.runs.proofs.Rank.{Pending, ClearRank}
use Rattle.runs.proofs.Waits as Ways
use Rattle.runs.proofs.Waits.{waiter, other, waiter_step, other_step, not}
use Rattle.runs.proofs.WaitSides.{after_other, after_both, still_pending, other_line, no_line, clear_after, some_rt1}
use Rattle.runs.proofs.Wait.{at_tick, found, accepted_in, pending_in, later_too, one_more, clear_run, behind, run_length}
use Rattle.runs.proofs.OutOfStep.{nobody, BothSpeak}
use Rattle.runs.proofs.Overlap as O
use Rattle.runs.proofs.Overlap.{TailSends, TailTick, tail_tick, BothTick, both_tick}
use Rattle.runs.proofs.NoBurst.{NoBurstIn, no_burst_fair}
use Rattle.runs.proofs.LateTicks.{BothIn, ReadyAfter, sent_ready, AllWait, InTime, all_none, all_cons, Ends, no_frame, frame_and, sent_framed, Behind, Overlapping, has_ended, goes_on}
use Rattle.runs.proofs.FrameEnds.{ends_from, ends_run, framed_run}

pub all_fair : {ss : List LinkStep} → EachTick NoBurstIn ss → EachTick Fair ss
all_fair no_tick = no_tick
all_fair (tick_and f fs) = tick_and (no_burst_fair f) (all_fair fs)

none_bursts : (bit : Bool) {ss : List LinkStep} → EachTick NoBurstIn ss → NoneBursts bit ss
none_bursts bit no_tick = until_the_end
none_bursts bit (tick_and f fs) = and_on f.0 (none_bursts bit fs)

each_drop : {P : LinkStep → Type 0} (t : ℕ) {ss : List LinkStep} → EachTick P ss → EachTick P (drop t ss)
each_drop zero q = q
each_drop (suc t) no_tick = no_tick
each_drop (suc t) (tick_and f fs) = each_drop t fs

-- ---- in step, no silent tick meets a reader inside a frame

phases_ready : (limit : ℕ) → 2 ≤ limit → limit ≤ 255 → (p : Profile) → Valid p → (e : ℕ) (l : Link) (ticks : List Calls) → Phase p e l → EachTick Fair (run limit l ticks) → EachTick ReadyAfter (run limit l ticks)
unfolding run
phases_ready limit low high p v e l [] ph fs = no_tick
phases_ready limit low high p v e l (c ∷ cs) ph (tick_and f fs) =
    let next = phase_tick limit low high p v e l c ph f in
    tick_and (phase_outside (link_after (link_tick limit l c)) next) (phases_ready limit low high p v (e - 1) (link_after (link_tick limit l c)) cs next fs)

-- ---- who sends in a tick of the overlap

pub both_in : (s : LinkStep) {c d : ℕ} → s.for_primary.sent ≡ Sent.Character c → s.for_secondary.sent ≡ Sent.Character d → carried s.for_devices ≡ Silence → BothIn s
both_in s a b c = record { primary_sends = ap count a; secondary_sends = ap count b; no_device = omega (arith, carried_count s.for_devices (subst Plain (sym c) plain_silence), ap most c) }

other_sends : (bit : Bool) (s : LinkStep) {c : ℕ} → (other_step bit s).sent ≡ Sent.Character c → 1 ≤ senders s
other_sends true s e = omega (arith, ap count e)
other_sends false s e = omega (arith, ap count e)

module _ (limit : ℕ) (low : 2 ≤ limit) (high : limit ≤ 255) (p : Profile) (v : Valid p) (retries : ℕ) where
  -- in step
  step_wait : (l : Link) (ticks : List Calls) → LinkKept limit retries l → Phase p 0 l → EachTick NoBurstIn (run limit l ticks) → AllWait limit p retries (run limit l ticks)
  step_wait l ticks k ph off bit t s after q acc long =
      let off' : EachTick NoBurstIn (s ∷ after) = subst (EachTick NoBurstIn) q (each_drop t off) in
      later_too (omega arith) ((found limit low high p v retries bit 0 t l ticks s after k ph (all_fair off) q acc).0 (none_bursts bit off') (omega (arith, long)))

  -- from the tick on behind which it is
  now_wait : (l : Link) (c : Calls) (cs : List Calls) → LinkKept limit retries l → Phase p 0 (link_after (link_tick limit l c)) → EachTick NoBurstIn (run limit l (c ∷ cs)) → (bit : Bool) → AcceptedIn bit (link_tick limit l c)
      → longest_wait limit p retries < length (link_tick limit l c ∷ run limit (link_after (link_tick limit l c)) cs)
      → BeginsWithin bit (longest_wait limit p retries) (link_tick limit l c ∷ run limit (link_after (link_tick limit l c)) cs)
  unfolding run
  now_wait l c cs k ph (tick_and f fs) bit acc long = later_too (omega arith) ((at_tick limit low high p v retries bit 0 l c cs k ph (all_fair fs) acc).0 (none_bursts bit (tick_and f fs)) (omega (arith, long)))

  enter_wait : (l : Link) (c : Calls) (cs : List Calls) → LinkKept limit retries l → Phase p 0 (link_after (link_tick limit l c)) → EachTick NoBurstIn (run limit l (c ∷ cs)) → AllWait limit p retries (run limit l (c ∷ cs))
  unfolding run
  enter_wait l c cs k ph (tick_and f fs) = all_cons limit p retries (now_wait l c cs k ph (tick_and f fs)) (step_wait (link_after (link_tick limit l c)) cs (settled_kept (link_kept limit retries low high l c k)) ph fs)

  behind_none : Behind limit p retries []
  behind_none = record { alone = no_tick; waits = all_none limit p retries; framed = no_frame; ready = no_tick }

  -- from the tick on behind which the masters are in step
  pub enter_behind : (l : Link) (c : Calls) (cs : List Calls) → LinkKept limit retries l → Phase p 0 (link_after (link_tick limit l c)) → EachTick NoBurstIn (run limit l (c ∷ cs)) → Behind limit p retries (run limit l (c ∷ cs))
  unfolding run
  enter_behind l c cs kept ph (tick_and f fs) = record {
    alone = tick_and (one_sender (link_tick limit l c) (phase_plain ph)) (phases_run limit low high p v 0 (link_after (link_tick limit l c)) cs ph (all_fair fs));
    waits = enter_wait l c cs kept ph (tick_and f fs);
    framed = frame_and (λ z o. ends_run limit low high p v 0 (link_after (link_tick limit l c)) cs ph (all_fair fs)) (framed_run limit low high p v 0 (link_after (link_tick limit l c)) cs ph (all_fair fs));
    ready = tick_and (phase_outside (link_after (link_tick limit l c)) ph) (phases_ready limit low high p v 0 (link_after (link_tick limit l c)) cs ph (all_fair fs));
  }

  pub enter_ends : (l : Link) (c : Calls) (cs : List Calls) → Phase p 0 (link_after (link_tick limit l c)) → EachTick NoBurstIn (run limit l (c ∷ cs)) → Ends (run limit l (c ∷ cs))
  unfolding run
  enter_ends l c cs ph (tick_and f fs) = ends_from limit low high p v 0 l c cs ph (all_fair fs)

  -- ---- the tail

  tail_of : (bit : Bool) (l : Link) (c : Calls) (k : ℕ) (w : List ℕ) (message : Whole) → TailSends p (not bit) bit k w message (other bit l) (waiter bit l) l.devices → l.line ≡ Character (get_or w k 0)
      → TailTick p (not bit) bit k w message (other bit l) (waiter bit l) (other_step bit (link_tick limit l c)) (waiter_step bit (link_tick limit l c)) (link_tick limit l c).for_devices
  unfolding heard_tick when◌then◌else◌
  tail_of true l c k w message o q =
      subst (λ (s : LinkStep). TailTick p false true k w message l.secondary l.primary s.for_secondary s.for_primary s.for_devices) (sym (tick_is limit l (Character (get_or w k 0)) c q))
      (tail_tick limit low high p v false true k w message l.secondary l.primary l.devices c.for_secondary c.for_primary c.for_devices o)
  tail_of false l c k w message o q =
      subst (λ (s : LinkStep). TailTick p true false k w message l.primary l.secondary s.for_primary s.for_secondary s.for_devices) (sym (tick_is limit l (Character (get_or w k 0)) c q))
      (tail_tick limit low high p v true false k w message l.primary l.secondary l.devices c.for_primary c.for_secondary c.for_devices o)

  tail_on : (bit : Bool) (s : LinkStep) {k : ℕ} {w : List ℕ} {message : Whole} → TailSends p (not bit) bit k w message (other_step bit s).side (waiter_step bit s).side (Rattle.turns.specs.Link.sides s.for_devices)
      → TailSends p (not bit) bit k w message (other bit (link_after s)) (waiter bit (link_after s)) (link_after s).devices
  unfolding when◌then◌else◌
  tail_on true s o = o
  tail_on false s o = o

  tail_place : {primary bit : Bool} {k : ℕ} {w : List ℕ} {message : Whole} {x y : MasterSide} {xs : _} → TailSends p primary bit k w message x y xs → suc k ≤ length w
  tail_place {k = k} {w = w} {x = x} o = go o.speaks.place
    where
      go : MasterPlace k w x → suc k ≤ length w
      go (inside below e) = omega arith
      go (finished last t s e) = omega arith

  -- a message that waits in it
  tail_run : (bit : Bool) (n d k : ℕ) (w : List ℕ) (message : Whole) (l : Link) (ticks : List Calls) → LinkKept limit retries l → EachTick NoBurstIn (run limit l ticks) → d ≤ length ticks → l.line ≡ Character (get_or w k 0)
      → TailSends p (not bit) bit k w message (other bit l) (waiter bit l) l.devices → Pending (waiter bit l) → retries + 1 ≤ (other bit l).master.message.attempts + n
      → length w + (n * (limit + 29 + p.rt1s) + p.rt1s + p.sto + (limit + 29) + 2) ≤ d + suc k → BeginsWithin bit (d - 1) (run limit l ticks)
  unfolding run when◌then◌else◌
  tail_run bit n d k w message l [] kept off long q o pend tries r = absurd (omega (arith, tail_place o))
  tail_run bit n d k w message l (c ∷ cs) kept (tick_and f fs) long q o pend tries r =
      go (tail_of bit l c k w message o q) (λ e o' pend' tries'. tail_run bit n (d - 1) (suc k) w message (link_after (link_tick limit l c)) cs (settled_kept (link_kept limit retries low high l c kept)) fs (omega arith) e o' pend' tries' (omega arith))
    where
      s : LinkStep
      s = link_tick limit l c

      go : TailTick p (not bit) bit k w message (other bit l) (waiter bit l) (other_step bit (link_tick limit l c)) (waiter_step bit (link_tick limit l c)) (link_tick limit l c).for_devices
          → ((link_after (link_tick limit l c)).line ≡ Character (get_or w (suc k) 0) → TailSends p (not bit) bit (suc k) w message (other bit (link_after (link_tick limit l c))) (waiter bit (link_after (link_tick limit l c))) (link_after (link_tick limit l c)).devices → Pending (waiter bit (link_after (link_tick limit l c)))
          → retries + 1 ≤ (other bit (link_after (link_tick limit l c))).master.message.attempts + n → BeginsWithin bit (d - 1 - 1) (run limit (link_after (link_tick limit l c)) cs)) → BeginsWithin bit (d - 1) (run limit l (c ∷ cs))
      go (O.TailTick.goes_on m a b e o' t y) rec =
          behind limit low high p v retries bit d (omega (arith, tail_place o')) b
          (rec (other_line bit s _ a b e) (tail_on bit s o') (still_pending bit l s pend y) (after_other bit s (λ (j : MasterSide). retries + 1 ≤ j.master.message.attempts + n) (omega (arith, t))))
      go (O.TailTick.ends m a b e x t y) rec =
          let mine = some_rt1 p v bit in
          let its = some_rt1 p v (not bit) in
          behind limit low high p v retries bit d (omega (arith, m)) b
          (clear_run limit low high p v retries bit (d - 1) (link_after s) cs (settled_kept (link_kept limit retries low high l c kept)) (all_fair fs) (omega arith) (none_bursts bit fs)
          (Ways.Clear.on_silence_lem 0 (no_line bit s a b e) (clear_after p v bit s x) (still_pending bit l s pend y)
          (after_both bit s (λ (i j : MasterSide). ClearRank p (limit + 29) retries i.master.timer j.master.timer (left j.master.message.stage) j.master.message.attempts (d - 1))
          (K.ClearRank.awaits n (omega (arith, t)) (omega (arith, x.sender_left, its.0)) (omega (arith, m, mine.1, ap (λ (z : Timer). z.next) x.listener_timer)) (omega (arith, m, x.sender_left, its.1))))))

  -- ---- acceptance in it: the one that sends begins, as it were, in that tick; the other waits

  speaker_tried : (bit : Bool) {primary : Bool} {k : ℕ} {w : List ℕ} {message : Whole} {x y : MasterSide} {xs : _} → M.MasterKept (limit + 29) retries x.master → TailSends p primary bit k w message x y xs
      → (1 ≤ x.master.message.attempts) × (length w ≤ limit + 29)
  speaker_tried bit {primary} {k} {w} {message} {x} kept o = (kept.counted (go o.speaks.place), omega (arith, o.speaks.held.sized, kept.short))
    where
      begun_left : (z : Stage) → 1 ≤ left z → M.begun z ≡ true
      begun_left Free n = absurd (omega arith)
      begun_left Waiting n = absurd (omega arith)
      begun_left (Sending n) z = refl
      begun_left (Awaiting n) z = refl

      go : MasterPlace k w x → M.begun x.master.message.stage ≡ true
      go (inside below z) = ap M.begun z
      go (finished last t y z) = begun_left x.master.message.stage (omega (arith, z, own_is p primary x.master o.speaks.is_it.profile_is o.speaks.is_it.primary_is, (some_rt1 p v primary).0))

  kept_other : (bit : Bool) (l : Link) → LinkKept limit retries l → M.MasterKept (limit + 29) retries (other bit l).master
  kept_other true l k = k.secondary
  kept_other false l k = k.primary

  -- accepted in the tick behind which the tail goes on
  tail_now : (bit : Bool) (k : ℕ) (w : List ℕ) (message : Whole) (l : Link) (c : Calls) (cs : List Calls) → LinkKept limit retries l → EachTick NoBurstIn (run limit (link_after (link_tick limit l c)) cs)
      → (link_after (link_tick limit l c)).line ≡ Character (get_or w k 0)
      → TailSends p (not bit) bit k w message (other bit (link_after (link_tick limit l c))) (waiter bit (link_after (link_tick limit l c))) (link_after (link_tick limit l c)).devices
      → AcceptedIn bit (link_tick limit l c) → longest_wait limit p retries < length (link_tick limit l c ∷ run limit (link_after (link_tick limit l c)) cs)
      → BeginsWithin bit (longest_wait limit p retries) (link_tick limit l c ∷ run limit (link_after (link_tick limit l c)) cs)
  tail_now bit k w message l c cs kept fs q o acc long = go (accepted_in limit high bit l c acc)
    where
      after : LinkKept limit retries (link_after (link_tick limit l c))
      after = settled_kept (link_kept limit retries low high l c kept)

      go : Accepted (master_in bit (link_tick limit l c)) → BeginsWithin bit (longest_wait limit p retries) (link_tick limit l c ∷ run limit (link_after (link_tick limit l c)) cs)
      go (M.begins_now ch z) = D.begins _ ch z
      go (M.waits_now z a y) =
          let t = speaker_tried bit (kept_other bit (link_after (link_tick limit l c)) after) o in
          one_more (longest_wait limit p retries) (omega (arith, v.some_hold)) z
          (tail_run bit retries (longest_wait limit p retries) k w message (link_after (link_tick limit l c)) cs after fs (omega (arith, long, run_length limit (link_after (link_tick limit l c)) cs)) q o (pending_in bit (link_tick limit l c) a y)
          (omega (arith, t.0)) (omega (arith, t.1, v.hold_short)))

  -- the other one sends a character in this tick
  accepted_either : (bit : Bool) (s : LinkStep) (ss : List LinkStep) {ch : ℕ} → (other_step bit s).sent ≡ Sent.Character ch → InTime limit p retries bit s ss → (z : Bool) → InTime limit p retries z s ss
  accepted_either true s ss {ch} e f true acc long = f acc long
  accepted_either true s ss {ch} e f false acc long = D.begins _ ch e
  accepted_either false s ss {ch} e f true acc long = D.begins _ ch e
  accepted_either false s ss {ch} e f false acc long = f acc long

  -- a tick of the tail, `bit` passing over it, in front of the rest
  tail_front : (bit : Bool) (k : ℕ) (w : List ℕ) (message : Whole) (l : Link) (c : Calls) (cs : List Calls) {ch : ℕ} → LinkKept limit retries l → EachTick NoBurstIn (run limit (link_after (link_tick limit l c)) cs)
      → (link_after (link_tick limit l c)).line ≡ Character (get_or w k 0)
      → (other_step bit (link_tick limit l c)).sent ≡ Sent.Character ch
      → TailSends p (not bit) bit k w message (other bit (link_after (link_tick limit l c))) (waiter bit (link_after (link_tick limit l c))) (link_after (link_tick limit l c)).devices
      → Behind limit p retries (run limit (link_after (link_tick limit l c)) cs) → Behind limit p retries (link_tick limit l c ∷ run limit (link_after (link_tick limit l c)) cs)
  tail_front bit k w message l c cs kept fs q a o b = record {
    alone = tick_and (one_sender (link_tick limit l c) (subst Plain (sym q) (plain_character (get_or w k 0)))) b.alone;
    waits = all_cons limit p retries (accepted_either bit (link_tick limit l c) (run limit (link_after (link_tick limit l c)) cs) a (tail_now bit k w message l c cs kept fs q o)) b.waits;
    framed = sent_framed (other_sends bit (link_tick limit l c) a) b.framed;
    ready = tick_and (sent_ready (link_tick limit l c) (other_sends bit (link_tick limit l c) a)) b.ready;
  }

  tail_behind : (bit : Bool) (k : ℕ) (w : List ℕ) (message : Whole) (l : Link) (ticks : List Calls) → LinkKept limit retries l → l.line ≡ Character (get_or w k 0)
      → TailSends p (not bit) bit k w message (other bit l) (waiter bit l) l.devices → EachTick NoBurstIn (run limit l ticks)
      → Behind limit p retries (run limit l ticks)
  unfolding run
  tail_behind bit k w message l [] kept q o off = behind_none
  tail_behind bit k w message l (c ∷ cs) kept q o (tick_and f fs) =
      go (tail_of bit l c k w message o q) (λ e o'. tail_behind bit (suc k) w message (link_after (link_tick limit l c)) cs (settled_kept (link_kept limit retries low high l c kept)) e o' fs)
    where
      s : LinkStep
      s = link_tick limit l c

      go : TailTick p (not bit) bit k w message (other bit l) (waiter bit l) (other_step bit (link_tick limit l c)) (waiter_step bit (link_tick limit l c)) (link_tick limit l c).for_devices
          → ((link_after (link_tick limit l c)).line ≡ Character (get_or w (suc k) 0) → TailSends p (not bit) bit (suc k) w message (other bit (link_after (link_tick limit l c))) (waiter bit (link_after (link_tick limit l c))) (link_after (link_tick limit l c)).devices → Behind limit p retries (run limit (link_after (link_tick limit l c)) cs))
          → Behind limit p retries (run limit l (c ∷ cs))
      go (O.TailTick.goes_on m a b e o' t y) rec =
          let line = other_line bit s _ a b e in
          let on = tail_on bit s o' in
          tail_front bit (suc k) w message l c cs kept fs line a on (rec line on)
      go (O.TailTick.ends m a b e x t y) rec = enter_behind l c cs kept (N.silent (no_line bit s a b e) (clear (clear_after p v bit s x))) (tick_and f fs)

  -- ---- the overlap

  speaks_short : {bit : Bool} {k : ℕ} {w : List ℕ} {message : Whole} {x : MasterSide} → M.MasterKept (limit + 29) retries x.master → MasterSpeaks p bit false nobody k w message x → k < limit + 29
  speaks_short {k = k} {w} {x = x} kept o = go o.place
    where
      go : MasterPlace k w x → k < limit + 29
      go (inside below z) = omega (arith, below, o.held.sized, kept.short)
      go (finished last t y z) = omega (arith, last, o.held.sized, kept.short)

  pub overlap_run : (k : ℕ) (w : List ℕ) (message : Whole) (w' : List ℕ) (message' : Whole) (l : Link) (ticks : List Calls) → LinkKept limit retries l → l.line ≡ Damaged 0x00 Framing
      → BothSpeak p k w message w' message' l.primary l.secondary l.devices → EachTick NoBurstIn (run limit l ticks)
      → Overlapping limit p retries k (run limit l ticks)
  unfolding run heard_tick when◌then◌else◌
  overlap_run k w message w' message' l [] kept q o off = has_ended behind_none
  overlap_run k w message w' message' l (c ∷ cs) kept q o (tick_and f fs) =
      go (subst (λ (s : LinkStep). BothTick p k w message w' message' l.primary l.secondary s.for_primary s.for_secondary s.for_devices) (sym (tick_is limit l (Damaged 0x00 Framing) c q))
      (both_tick limit low high p v k w message w' message' l.primary l.secondary l.devices c.for_primary c.for_secondary c.for_devices o))
      (λ e o'. overlap_run (suc k) w message w' message' (link_after (link_tick limit l c)) cs kept' e o' fs)
    where
      kept' : LinkKept limit retries (link_after (link_tick limit l c))
      kept' = settled_kept (link_kept limit retries low high l c kept)

      go : BothTick p k w message w' message' l.primary l.secondary (link_tick limit l c).for_primary (link_tick limit l c).for_secondary (link_tick limit l c).for_devices
          → ((link_after (link_tick limit l c)).line ≡ Damaged 0x00 Framing → BothSpeak p (suc k) w message w' message' (link_after (link_tick limit l c)).primary (link_after (link_tick limit l c)).secondary (link_after (link_tick limit l c)).devices → Overlapping limit p retries (suc k) (run limit (link_after (link_tick limit l c)) cs))
          → Overlapping limit p retries k (run limit l (c ∷ cs))
      go (O.both_go_on a b d o') rec = goes_on (both_in (link_tick limit l c) a b d) (speaks_short kept'.primary o'.primary) (rec (carries (link_tick limit l c) a b d) o')
      go (O.primary_longer a b d o') rec =
          let e = carries (link_tick limit l c) a b d in
          has_ended (tail_front false (suc k) w message l c cs kept fs e a o' (tail_behind false (suc k) w message (link_after (link_tick limit l c)) cs kept' e o' fs))
      go (O.secondary_longer a b d o') rec =
          let e = carries (link_tick limit l c) a b d in
          has_ended (tail_front true (suc k) w' message' l c cs kept fs e b o' (tail_behind true (suc k) w' message' (link_after (link_tick limit l c)) cs kept' e o' fs))
      go (O.both_end a b d x) rec = has_ended (enter_behind l c cs kept (N.silent (carries (link_tick limit l c) a b d) (clear x)) (tick_and f fs))
